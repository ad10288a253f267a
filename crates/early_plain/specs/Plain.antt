-- Plain Java: whole method bodies, call after call over whole fields, by rules on statements (JLS 14, 15). No list of
-- statements is cut. A mark counts only as a turn that is spent.
use Rattle.std.specs.Prelude.{◌≡◌, ℕ, ◌+◌, true, false, if◌then◌else◌, List, [], ◌∷◌, Option, Some, None, slice_get}
use Rattle.sdg_base.specs.declared.val.Val.{Val}
use Rattle.sdg_base.specs.declared.val.Val.TheVariants as val
use Rattle.sdg_base.specs.declared.val.Outcome.{Outcome}
use Rattle.sdg_base.specs.declared.val.Outcome.TheVariants as outcome
use Rattle.sdg_base.specs.declared.call.Call.{Call}
use Rattle.java_tree.specs.declared.tree.Class.{Class}
use Rattle.java_tree.specs.declared.tree.Method.{Method}
use Rattle.java_tree.specs.declared.tree.Local.{Local}
use Rattle.java_tree.specs.declared.tree.Value.{Value}
use Rattle.java_tree.specs.declared.tree.CallForm.{CallForm}
use Rattle.java_tree.specs.declared.tree.Simple.TheVariants as simple
use Rattle.java_tree.specs.declared.tree.Stmt.{Stmt, out-Stmt}
use Rattle.java_tree.specs.declared.tree.BlockItem.{BlockItem, out-BlockItem}
use Rattle.java_tree.specs.declared.tree.BlockItem.TheOpen.{BlockItem-F, Stmt-F}
use Rattle.java_tree.specs.declared.tree.BlockItem.TheOpen as s
use Rattle.early_tables.specs.Entries.{Entries}
use Rattle.early_tables.specs.Methods.{called}
use Rattle.early_source.specs.Variables.{Variables, Tables, named, renewed}
use Rattle.early_source.specs.Expressions.{as_long, long_of, longs_of}
use Rattle.early_source.specs.Sites.{Access, Site, access_of, site_of, is_marked, after_declaration}
use Rattle.early_source.specs.Members.{fields, methods, empty_tables, variables_of}
use Rattle.early_source.specs.Blocks.{key_value}
use Rattle.sdg_base.specs.Limits.{turns_at_start}

-- where a body stands: the site of the last access, the variables, the turns left and the fields
pub record Machine : Type 0 where
  pub site : Option Site
  pub variables : Variables
  pub turns : ℕ
  pub tables : Tables

-- A call of a method of a field gives a value and leaves the fields (JLS 15.12).
pub record Accesses (a : Access) (variables : Variables) (old : Tables) (value : Val) (new : Tables) : Type 0 where
  pub args : List Val
  pub are_args : longs_of a.args variables ≡ Some args
  pub entries : Entries
  pub is_field : named a.field old ≡ Some entries
  pub after : Entries
  pub is_called : called a.method args entries ≡ Some (value, after)
  pub leaves : new ≡ renewed a.field after old

-- The turn that is spent at a mark before a statement with this access.
abbrev pub turn_at : Option Site → Access → ℕ
turn_at site a = if is_marked site a then 1 else 0

-- the initialiser or the value that is returned
abbrev pub written_in_statement : Stmt-F BlockItem Stmt → Option Value
written_in_statement (s.Return v) = v
written_in_statement _ = None

abbrev pub written_in : BlockItem-F BlockItem Stmt → Option Value
written_in (s.Local l) = l.value
written_in (s.Stmt x) = written_in_statement (out-Stmt x)

-- Evaluating what a statement holds gives a value and leaves the machine.
pub data Gives (field_names : List (List ℕ)) : BlockItem → Machine → Val → Machine → Type 0 where
  -- a state access, after the turn of its mark
  FromAccess : (item : BlockItem) (a : Access) (m : Machine) (value : Val) (tables : Tables) (turns : ℕ)
      → access_of field_names (out-BlockItem item) ≡ Some a
      → m.turns ≡ turn_at m.site a + turns
      → Accesses a m.variables m.tables value tables
      → Gives field_names item m value (record { site = Some (site_of a); variables = m.variables; turns = turns; tables = tables })
  -- an expression
  FromExpression : (item : BlockItem) (v : Value) (m : Machine) (value : Val)
      → access_of field_names (out-BlockItem item) ≡ None
      → written_in (out-BlockItem item) ≡ Some v
      → long_of v m.variables ≡ Some value
      → Gives field_names item m value m

-- A list of statements ends the call with an outcome and leaves the fields.
pub data Completes (field_names : List (List ℕ)) : List BlockItem → Machine → Outcome → Tables → Type 0 where
  -- the end of a void body
  Falls : (m : Machine) → Completes field_names [] m (outcome.Value val.Unit) m.tables
  -- `T x = ..;` (JLS 14.4)
  Declares : (item : BlockItem) (items : List BlockItem) (l : Local) (m n : Machine) (v w : Val) (end : Outcome) (tables : Tables)
      → out-BlockItem item ≡ s.Local l
      → Gives field_names item m v n
      → as_long v ≡ Some w
      → Completes field_names items (record { site = after_declaration l.name n.site; variables = (l.name, w) ∷ n.variables; turns = n.turns; tables = n.tables }) end tables
      → Completes field_names (item ∷ items) m end tables
  -- a call as a statement (JLS 14.8)
  Calls : (item : BlockItem) (items : List BlockItem) (x : Stmt) (call : CallForm) (m n : Machine) (v : Val) (end : Outcome) (tables : Tables)
      → out-BlockItem item ≡ s.Stmt x
      → out-Stmt x ≡ s.Simple (simple.Call false call)
      → Gives field_names item m v n
      → Completes field_names items n end tables
      → Completes field_names (item ∷ items) m end tables
  -- `return ..;` (JLS 14.17)
  Returns : (item : BlockItem) (items : List BlockItem) (x : Stmt) (written : Option Value) (m n : Machine) (v w : Val)
      → out-BlockItem item ≡ s.Stmt x
      → out-Stmt x ≡ s.Return written
      → Gives field_names item m v n
      → as_long v ≡ Some w
      → Completes field_names (item ∷ items) m (outcome.Value w) n.tables
  -- no turn is left at a mark, once the key is evaluated
  RunsOut : (item : BlockItem) (items : List BlockItem) (a : Access) (m : Machine) (key : Val)
      → access_of field_names (out-BlockItem item) ≡ Some a
      → key_value a.args m.variables ≡ Some key
      → is_marked m.site a ≡ true
      → m.turns ≡ 0
      → Completes field_names (item ∷ items) m outcome.Limit m.tables

-- the machine as a call begins
abbrev pub at_start : Method → List Val → Tables → Machine
at_start m args tables = record { site = None; variables = variables_of m args; turns = turns_at_start; tables = tables }

-- One call on the fields as they are gives its outcome and leaves the fields.
pub record Runs (class : Class) (call : Call) (old : Tables) (end : Outcome) (new : Tables) : Type 0 where
  pub method : Method
  pub is_method : slice_get (methods class) call.method ≡ Some method
  pub completes : Completes (fields class) method.body (at_start method call.args old) end new

-- The calls one after the other.
abbrev pub RunAll : Class → List Call → Tables → List Outcome → Tables → Type 0
RunAll class [] old [] new = new ≡ old
RunAll class (call ∷ calls) old (end ∷ ends) new = (between : Tables) × Runs class call old end between × RunAll class calls between ends new
RunAll class [] old (end ∷ ends) new = ⊥
RunAll class (call ∷ calls) old [] new = ⊥

-- The outcomes are those of plain Java, from empty fields on.
abbrev pub ArePlain : Class → List Call → List Outcome → Type 0
ArePlain class calls ends = (new : Tables) × RunAll class calls (empty_tables class) ends new
