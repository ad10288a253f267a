-- When an item of a graph of the straight form agrees with what a call of the source has come to.
use Rattle.std.specs.Prelude.{◌≡◌, ℕ, ℤ, ◌+◌, ◌≤◌, List, [], ◌∷◌, ◌++◌, length, drop, Option, Some, None, slice_get, Contains}
use Rattle.sdg_base.specs.declared.val.Val.{Val}
use Rattle.sdg_base.specs.declared.val.Val.TheVariants as val
use Rattle.sdg_base.specs.declared.port.Port.{Port}
use Rattle.sdg_base.specs.declared.port.Port.TheVariants as port
use Rattle.sdg_base.specs.declared.item.Item.{Item}
use Rattle.sdg_base.specs.declared.item.Item.TheVariants as item
use Rattle.java_tree.specs.declared.tree.BlockItem.{BlockItem}
use Rattle.early_forms.specs.declared.straight.Sum.{Sum}
use Rattle.early_forms.specs.declared.straight.Statement.{Statement}
use Rattle.early_forms.specs.declared.straight.Statement.TheVariants as statement
use Rattle.early_forms.specs.declared.straight.Ending.{Ending}
use Rattle.early_forms.specs.declared.straight.Ending.TheVariants as ending
use Rattle.early_forms.specs.Names.{declared_names, locals, BodyIsKnown}
use Rattle.early_forms.specs.Trees.{body_tree}
use Rattle.early_source.specs.Variables.{Variables, named}
use Rattle.early_source.specs.Source.{CallState, Fresh, At, Ended}
use Rattle.early_tables.specs.declared.method.Method.TheVariants as method
use Rattle.placement.specs.Slots.{slot}
use Rattle.early_task_code.specs.declared.graph.Instr.{Instr}
use Rattle.early_task_code.specs.declared.graph.Instr.TheVariants as instr
use Rattle.early_task_code.specs.declared.graph.GraphMethod.{GraphMethod}
use Rattle.early_task_code.specs.declared.graph.Graph.{Graph}
use Rattle.early_task_code.specs.Machine.{carried}
use Rattle.early_plain.specs.Keys.{written_key}
use Rattle.early_cutter.specs.Points.{Point, number_in, point_after}
use Rattle.early_cutter.specs.Sums.{long_code}
use Rattle.early_cutter.specs.Lowering.{argument_code, body_code}
use Rattle.early_cutter.specs.Liveness.{live_variables}
use Rattle.early_cutter.specs.Cutting.{keyed_task}
use Rattle.early_cutter.specs.Values.{AreLongs, long_value}

-- ---- variables

-- Each name in scope has a long, which the machine has under the name's number.
pub record Matches (scope : List (List ℕ)) (variables : Variables) (env : List Val) : Type 0 where
  pub longs : AreLongs scope variables
  pub at : (name : List ℕ) → Contains scope name → slice_get env (number_in scope name) ≡ named name variables

-- none of the names is in scope
abbrev pub AreNew : List (List ℕ) → List (List ℕ) → Type 0
AreNew scope names = (name : List ℕ) → Contains names name → Contains scope name → ⊥

-- each local is new where it is declared
abbrev pub LocalsAreNew : List (List ℕ) → List Statement → Type 0
LocalsAreNew scope [] = Unit {0}
LocalsAreNew scope (st ∷ ss) = AreNew scope (declared_names st) × LocalsAreNew (scope ++ declared_names st) ss

-- ---- code

-- a field and the key of an access to it
abbrev pub Accessed : Type 0
Accessed = List ℕ × Sum

abbrev pub accessed_by : Statement → Option Accessed
accessed_by (statement.Get local field key) = Some (field, key)
accessed_by (statement.Set local value) = None
accessed_by (statement.Put field key value) = Some (field, key)

abbrev pub accessed_at_end : Ending → Option Accessed
accessed_at_end ending.Nothing = None
accessed_at_end (ending.Get field key) = Some (field, key)
accessed_at_end (ending.Sum value) = None

-- the access with which statements and an ending begin
abbrev pub first_access : List Statement → Ending → Option Accessed
first_access [] end = accessed_at_end end
first_access (st ∷ ss) end = accessed_by st

abbrev pub key_code : List (List ℕ) → Sum → List Instr
key_code scope key = argument_code (written_key key) scope key

-- a statement's code behind its mark, if it has one
abbrev pub unmarked_statement : List (List ℕ) → List (List ℕ) → Statement → List Instr
unmarked_statement fields scope (statement.Get local field key) = key_code scope key ++ (instr.Access (number_in fields field) method.Get ∷ instr.Store (length scope) ∷ [])
unmarked_statement fields scope (statement.Set local value) = long_code scope value ++ (instr.Store (length scope) ∷ [])
unmarked_statement fields scope (statement.Put field key value) = key_code scope key ++ (long_code scope value ++ (instr.Access (number_in fields field) method.Put ∷ []))

abbrev pub unmarked_ending : List (List ℕ) → List (List ℕ) → Ending → List Instr
unmarked_ending fields scope ending.Nothing = instr.ReturnVoid ∷ []
unmarked_ending fields scope (ending.Get field key) = key_code scope key ++ (instr.Access (number_in fields field) method.Get ∷ instr.Return ∷ [])
unmarked_ending fields scope (ending.Sum value) = long_code scope value ++ (instr.Return ∷ [])

-- the code of statements and an ending behind the mark of their first access
abbrev pub unmarked_code : List (List ℕ) → Point → List Statement → Ending → List Instr
unmarked_code fields p [] end = unmarked_ending fields p.scope end
unmarked_code fields p (st ∷ ss) end = unmarked_statement fields p.scope st ++ body_code fields (point_after st p) ss end

-- each cut leads to the task of the code behind it
abbrev pub CutLeads : Graph → ℕ → ℕ → ℕ → List Instr → Instr → Type 0
CutLeads graph number vars at behind (instr.Cut t) = slice_get graph.tasks t ≡ Some (keyed_task number vars at behind)
CutLeads graph number vars at behind _ = Unit {0}

abbrev pub CutsLead : Graph → ℕ → ℕ → ℕ → List Instr → Type 0
CutsLead graph number vars at [] = Unit {0}
CutsLead graph number vars at (i ∷ is) = CutLeads graph number vars (at + 1) is i × CutsLead graph number vars (at + 1) is

-- a place in the code of the method of this number, with the statements and the ending that are left there, and the variables of both sides
pub record StandsAt (fields : List (List ℕ)) (graph : Graph) (number : ℕ) (method : GraphMethod) (at : ℕ) (code : List Instr) (scope : List (List ℕ)) (statements : List Statement) (end : Ending) (variables : Variables) (env : List Val) : Type 0 where
  pub is_method : slice_get graph.methods number ≡ Some method
  pub is_code : drop at method.code ≡ code
  pub cuts : CutsLead graph number (length method.vars) at code
  pub known : BodyIsKnown fields scope statements end
  pub new : LocalsAreNew scope statements
  pub matches : Matches scope variables env
  pub as_many : length env ≡ length method.vars
  pub room : length scope + length (locals statements) ≤ length env

-- ---- items

-- Work carries the live variables of the code behind a mark, and the key and turns with which the call waits there.
pub record WorkAgrees (fields : List (List ℕ)) (graph : Graph) (slots field at t : ℕ) (key : ℤ) (turns : ℕ) (vars : List Val) (rest : List BlockItem) (variables : Variables) (left : ℕ) (value : Val) : Type 0 where
  pub number : ℕ
  pub method : GraphMethod
  pub start : ℕ
  pub point : Point
  pub statements : List Statement
  pub end : Ending
  pub env : List Val
  pub name : List ℕ
  pub written : Sum
  pub stands : StandsAt fields graph number method start (unmarked_code fields point statements end) point.scope statements end variables env
  pub is_task : slice_get graph.tasks t ≡ Some (keyed_task number (length method.vars) start (unmarked_code fields point statements end))
  pub carries : carried (live_variables (length method.vars) (unmarked_code fields point statements end)) env ≡ Some vars
  pub is_rest : rest ≡ body_tree statements end
  pub is_access : first_access statements end ≡ Some (name, written)
  pub is_field : field ≡ number_in fields name
  pub in_class : Contains fields name
  pub is_key : key ≡ long_value variables written
  pub is_value : value ≡ val.Long key
  pub is_slot : at ≡ slot key slots
  pub is_turns : turns ≡ left

abbrev pub Agrees : List (List ℕ) → Graph → ℕ → Port → Item → CallState → Type 0
Agrees fields graph slots port.Front (item.Start n method args) Fresh = Unit {0}
Agrees fields graph slots (port.Slot field at) (item.Work n t (Some key) turns vars) (At rest variables left value) = WorkAgrees fields graph slots field at t key turns vars rest variables left value
Agrees fields graph slots port.Sink (item.Done n outcome) (Ended outcome') = outcome ≡ outcome'
Agrees fields graph slots to x state = ⊥
