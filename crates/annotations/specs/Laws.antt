-- The walk passes each token once. A finding names a token by the number that the walk has come to, so no part that was
-- passed before it shifts that number from the token that the finding speaks of.
use Rattle.std.specs.Prelude.{◌≡◌, ℕ, ◌+◌, ◌-◌, ◌≤◌, min, List, ◌∷◌, length, Option}
use Rattle.java_tree.specs.declared.token.Kind.TheVariants as k
use Rattle.java_tree.specs.declared.token.Reserved.TheVariants as word
use Rattle.java_tree.specs.declared.tree.Expr.{Expr}
use Rattle.java_tree.specs.declared.tree.Value.{Value}
use Rattle.java_tree.specs.declared.tree.CallForm.{CallForm}
use Rattle.java_tree.specs.declared.tree.Local.{Local}
use Rattle.java_tree.specs.declared.tree.Simple.{Simple}
use Rattle.java_tree.specs.declared.tree.ForHeader.{ForHeader}
use Rattle.java_tree.specs.declared.tree.BlockItem.{BlockItem}
use Rattle.java_tree.specs.declared.tree.Stmt.{Stmt}
use Rattle.java_tree.specs.declared.tree.Member.{Member}
use Rattle.java_tree.specs.declared.tree.Class.{Class}
use Rattle.java_tree.specs.declared.types.Declaration.{Declaration}
use Rattle.java_tree.specs.Tokens.{Kinds, in_parentheses, expr_tokens, value_tokens, call_tokens, local_tokens, simple_tokens, header_tokens, item_tokens, statement_tokens, member_tokens, kinds_of}
use Rattle.annotations.specs.declared.position.Position.{Position}
use Rattle.annotations.specs.declared.walk.Env.{Env}
use Rattle.annotations.specs.declared.walk.Walk.{Walk}
use Rattle.annotations.specs.Expressions.{expr_of, value_of, call_of}
use Rattle.annotations.specs.Simples.{local, simple_walk}
use Rattle.annotations.specs.Statements.{header_walk, item_walk, statement_walk}
use Rattle.annotations.specs.Members.{member_walk}
use Rattle.annotations.specs.Check.{whole}

-- Behind a part of a class the walk is as many tokens further as the part has, as far as there are places.
abbrev pub Passes : Env → Kinds → (Walk → Walk) → Type 0
Passes env tokens behind = (w : Walk) → w.at ≤ env.limit → (behind w).at ≡ min (w.at + length tokens) env.limit

-- So it is behind each part, and behind the last member it has passed all tokens of the class but one.
pub record PassesEachToken : Type 0 where
  pub expressions : (env : Env) (x : Expr) (position : Position) (global : Option ℕ) → Passes env (expr_tokens x) ((expr_of env x).walk position global)
  pub values : (env : Env) (v : Value) (position : Position) → Passes env (value_tokens v) ((value_of env v).walk position)
  pub calls : (env : Env) (c : CallForm) (position : Position) (global : Option ℕ) → Passes env (call_tokens c) (call_of env c position global)
  pub locals : (env : Env) (l : Local) → Passes env (local_tokens l) (local env l)
  pub simples : (env : Env) (s : Simple) → Passes env (simple_tokens s) (simple_walk env s)
  -- from `for` to the closing parenthesis
  pub headers : (env : Env) (h : ForHeader) → Passes env (k.Reserved word.For ∷ in_parentheses (header_tokens h)) (header_walk env h)
  pub items : (env : Env) (i : BlockItem) → Passes env (item_tokens i) (item_walk env i)
  pub statements : (env : Env) (s : Stmt) → Passes env (statement_tokens s) (statement_walk env s)
  pub members : (env : Env) (m : Member) → Passes env (member_tokens m) (λ w. member_walk env w m)
  -- up to the closing brace of the class
  pub class : (c : Class) (names : List Declaration) → (whole c names).at ≡ min (length (kinds_of c) - 1) (length c.places)
