-- What the rules on types rest on.
use Rattle.std.specs.Prelude.{◌≡◌, ℕ, ◌+◌, ◌-◌, ◌≤◌, min, Bool, List, [], ◌∷◌, length, map, Option, Some, None, option_map}
use Rattle.sdg_base.specs.declared.store.ClassName.{ClassName}
use Rattle.sdg_base.specs.declared.value_type.ValueType.{ValueType}
use Rattle.sdg_base.specs.declared.value_type.ValueType.TheVariants as signature_types
use Rattle.sdg_base.specs.Signatures.{Signature, state_method, vector_method}
use Rattle.java_tree.specs.declared.types.ValueType.TheVariants as value_types
use Rattle.java_tree.specs.declared.types.ExprType.{ExprType}
use Rattle.java_tree.specs.declared.types.ExprType.TheVariants as types
use Rattle.java_types.specs.declared.methods.Shape.{Shape}
use Rattle.java_types.specs.Methods.{params_of, method_of}
use Rattle.java_tree.specs.declared.token.Kind.TheVariants as k
use Rattle.java_tree.specs.declared.token.Reserved.TheVariants as word
use Rattle.java_tree.specs.declared.tree.Expr.{Expr}
use Rattle.java_tree.specs.declared.tree.Value.{Value}
use Rattle.java_tree.specs.declared.tree.CallForm.{CallForm}
use Rattle.java_tree.specs.declared.tree.Local.{Local}
use Rattle.java_tree.specs.declared.tree.Simple.{Simple}
use Rattle.java_tree.specs.declared.tree.ForHeader.{ForHeader}
use Rattle.java_tree.specs.declared.tree.BlockItem.{BlockItem}
use Rattle.java_tree.specs.declared.tree.Stmt.{Stmt}
use Rattle.java_tree.specs.declared.tree.Member.{Member}
use Rattle.java_tree.specs.declared.tree.Class.{Class}
use Rattle.java_tree.specs.Tokens.{Kinds, in_parentheses, expr_tokens, value_tokens, call_tokens, local_tokens, simple_tokens, header_tokens, item_tokens, statement_tokens, member_tokens, kinds_of}
use Rattle.java_types.specs.declared.checking.Refused.{Refused}
use Rattle.java_types.specs.declared.members.Seen.{Seen}
use Rattle.java_types.specs.declared.statements.Around.{Around}
use Rattle.java_types.specs.declared.walk.Env.{Env}
use Rattle.java_types.specs.declared.walk.Walk.{Walk}
use Rattle.java_types.specs.Expressions.{expr_walk, value_walk, call_walk}
use Rattle.java_types.specs.Simples.{local, simple_walk}
use Rattle.java_types.specs.Statements.{header_walk, item_walk, statement_walk}
use Rattle.java_types.specs.Members.{member_walk}
use Rattle.java_types.specs.Check.{first_of, IsLeast, whole}

-- The first of what is refused is the least of it, there is no other least, and there is none only where nothing is refused.
pub record FirstIsLeast : Type 0 where
  pub least : (all : List Refused) (f : Refused) → first_of all ≡ Some f → IsLeast all f
  pub only : (all : List Refused) (f : Refused) → IsLeast all f → first_of all ≡ Some f
  pub none : (all : List Refused) → first_of all ≡ None → all ≡ []
  pub empty : first_of [] ≡ None

-- ---- the walk and the tokens

-- Behind a part of a class the walk is as many tokens further as the part has, as far as there are places.
abbrev pub Passes : Env → Kinds → (Walk → Walk) → Type 0
Passes env tokens behind = (w : Walk) → w.at ≤ env.limit → (behind w).at ≡ min (w.at + length tokens) env.limit

-- So it is behind each part, and behind the last member it has passed all tokens of the class but one.
pub record PassesEachToken : Type 0 where
  pub expressions : (env : Env) (x : Expr) (negated : Bool) → Passes env (expr_tokens x) (λ w. (expr_walk env x negated w).walk)
  pub values : (env : Env) (v : Value) → Passes env (value_tokens v) (λ w. (value_walk env v w).walk)
  pub calls : (env : Env) (c : CallForm) → Passes env (call_tokens c) (λ w. (call_walk env c w).walk)
  pub locals : (env : Env) (l : Local) → Passes env (local_tokens l) (local env l)
  pub simples : (env : Env) (s : Simple) → Passes env (simple_tokens s) (simple_walk env s)
  -- from `for` to the closing parenthesis
  pub headers : (env : Env) (h : ForHeader) → Passes env (k.Reserved word.For ∷ in_parentheses (header_tokens h)) (header_walk env h)
  pub items : (env : Env) (i : BlockItem) (around : Around) → Passes env (item_tokens i) (item_walk env i around)
  pub statements : (env : Env) (s : Stmt) (around : Around) → Passes env (statement_tokens s) (statement_walk env s around)
  pub members : (env : Env) (m : Member) (seen : Seen) → Passes env (member_tokens m) (λ w. (member_walk env (record { seen = seen; walk = w }) m).walk)
  -- up to the closing brace of the class
  pub class : (c : Class) → (whole c).at ≡ min (length (kinds_of c) - 1) (length c.places)
  -- With a place for each token, that brace alone is left.
  pub left : (c : Class) → length c.places ≡ length (kinds_of c) → (whole c).at + 1 ≡ length (kinds_of c)

-- ---- the methods of the classes of state

-- the type of a result, or of a value that is passed
abbrev pub type_of : ValueType → ExprType
type_of signature_types.Void = types.Void
type_of signature_types.Int = types.Value value_types.Int
type_of signature_types.Long = types.Value value_types.Long
type_of signature_types.Boolean = types.Value value_types.Boolean
type_of signature_types.Vector = types.Value value_types.Vector

-- the types of the parameters and of the result
abbrev pub types_of_shape : Shape → List ExprType × ExprType
types_of_shape s = (params_of s.params, s.result)

abbrev pub types_of_signature : Signature → List ExprType × ExprType
types_of_signature s = (map type_of s.arguments, type_of s.result)

abbrev pub Agree : Option Shape → Option Signature → Type 0
Agree shape signature = option_map types_of_shape shape ≡ option_map types_of_signature signature

-- What is called behind a dot takes and gives what the signatures of the classes of state and of vectors say.
pub record MethodsHaveTheirSignatures : Type 0 where
  pub state : (class : ClassName) (name : List ℕ) → Agree (method_of (types.State class) name) (state_method class name)
  pub vector : (name : List ℕ) → Agree (method_of (types.Value value_types.Vector) name) (vector_method name)
