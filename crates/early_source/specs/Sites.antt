-- State accesses, their sites, and before which statements of a list a mark stands.
use Rattle.std.specs.Prelude.{ℕ, Bool, true, false, not, ◌==◌, if◌then◌else◌, List, [], ◌∷◌, Option, Some, None}
use Rattle.std.specs.List.{list_any}
use Rattle.std.specs.Str.{bytes_eq}
use Rattle.java_tree.specs.declared.tree.Expr.{Expr, out-Expr}
use Rattle.java_tree.specs.declared.tree.Value.{Value, out-Value}
use Rattle.java_tree.specs.declared.tree.CallForm.{CallForm, out-CallForm}
use Rattle.java_tree.specs.declared.tree.CallForm.TheOpen.{CallForm-F, Expr-F, Value-F}
use Rattle.java_tree.specs.declared.tree.CallForm.TheOpen as e
use Rattle.java_tree.specs.declared.tree.CallForm.TheFolds.{fold-Expr}
use Rattle.java_tree.specs.declared.tree.Simple.{Simple}
use Rattle.java_tree.specs.declared.tree.Simple.TheVariants as simple
use Rattle.java_tree.specs.declared.tree.Stmt.{Stmt, out-Stmt}
use Rattle.java_tree.specs.declared.tree.BlockItem.{BlockItem}
use Rattle.java_tree.specs.declared.tree.BlockItem.TheOpen.{BlockItem-F, Stmt-F}
use Rattle.java_tree.specs.declared.tree.BlockItem.TheOpen as s

-- a call of a method of a field
pub record Access : Type 0 where
  pub field : List ℕ
  pub method : List ℕ
  pub args : List Value

abbrev pub access_in : List (List ℕ) → CallForm-F CallForm Expr Value → Option Access
access_in fields (e.Of object name args) = if list_any (bytes_eq object) fields then Some (record { field = object; method = name; args = args }) else None
access_in fields _ = None

abbrev pub expr_access : List (List ℕ) → Expr-F CallForm Expr Value → Option Access
expr_access fields (e.Call c) = access_in fields (out-CallForm c)
expr_access fields _ = None

-- the access that is the whole of a value
abbrev pub value_access : List (List ℕ) → Value → Option Access
value_access fields v = if (out-Value v).is_global then None else expr_access fields (out-Expr (out-Value v).expr)

abbrev pub held_access : List (List ℕ) → Option Value → Option Access
held_access fields None = None
held_access fields (Some v) = value_access fields v

abbrev pub simple_access : List (List ℕ) → Simple → Option Access
simple_access fields (simple.Call false c) = access_in fields (out-CallForm c)
simple_access fields _ = None

abbrev pub statement_access : List (List ℕ) → Stmt-F BlockItem Stmt → Option Access
statement_access fields (s.Simple x) = simple_access fields x
statement_access fields (s.Return v) = held_access fields v
statement_access fields _ = None

-- the access of a simple statement, which is the whole of an initialiser, of a statement or of a return value
abbrev pub access_of : List (List ℕ) → BlockItem-F BlockItem Stmt → Option Access
access_of fields (s.Local l) = held_access fields l.value
access_of fields (s.Stmt x) = statement_access fields (out-Stmt x)

-- ---- keys and sites

pub data Key : Type 0 where
  LiteralKey : ℕ → Key
  VariableKey : List ℕ → Key
  -- any other expression
  Compound : Key

-- Parentheses around a literal or a name are dropped.
abbrev pub key_step : Expr-F (Unit {0}) Key (Unit {0}) → Key
key_step (e.Number digits true false) = LiteralKey digits
key_step (e.Name name) = VariableKey name
key_step (e.Paren inner) = inner
key_step _ = Compound

abbrev pub key_of : Expr → Key
key_of = fold-Expr (Unit {0}) Key (Unit {0}) (λ _. tt) key_step (λ _. tt)

-- A compound key is like no other, and not like itself.
abbrev pub same_key : Key → Key → Bool
same_key (LiteralKey a) (LiteralKey b) = a == b
same_key (VariableKey a) (VariableKey b) = bytes_eq a b
same_key _ _ = false

pub record Site : Type 0 where
  pub field : List ℕ
  pub key : Key

abbrev pub first_key : List Value → Key
first_key [] = Compound
first_key (v ∷ vs) = key_of (out-Value v).expr

-- the field, and the first argument as its key
abbrev pub site_of : Access → Site
site_of a = record { field = a.field; key = first_key a.args }

abbrev pub same_site : Option Site → Site → Bool
same_site None b = false
same_site (Some a) b = if bytes_eq a.field b.field then same_key a.key b.key else false

-- A mark stands before a statement whose site isn't the current one.
abbrev pub is_marked : Option Site → Access → Bool
is_marked current a = not (same_site current (site_of a))

abbrev pub is_key : List ℕ → Key → Bool
is_key name (VariableKey key) = bytes_eq key name
is_key name _ = false

-- the current site after a declaration of a variable, which ends it where the variable is its key
abbrev pub after_declaration : List ℕ → Option Site → Option Site
after_declaration name None = None
after_declaration name (Some site) = if is_key name site.key then None else Some site
