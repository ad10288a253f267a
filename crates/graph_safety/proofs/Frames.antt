-- Where a run of typed code stands, and what each instruction may leave there.
use Rattle.std.proofs.Common.{◌≡◌, ◌≢◌, refl, sym, subst, ℕ, ℤ, suc, ◌<◌, ◌≤◌, arith, Bool, true, false, List, [], ◌∷◌, map, length, Option, Some, None, slice_get, slice_set, inl, inr, ◌⊎◌}
use Rattle.std.proofs.lemmas.Bool.{false≢true}
use Rattle.sdg_base.specs.declared.val.Val.{Val}
use Rattle.sdg_base.specs.declared.val.Val.TheVariants as val
use Rattle.sdg_base.specs.declared.val.Outcome.{Outcome}
use Rattle.sdg_base.specs.declared.val.Outcome.TheVariants as outcome
use Rattle.sdg_base.specs.declared.value_type.ValueType.{ValueType}
use Rattle.sdg_base.specs.Signatures.{Signature}
use Rattle.sdg_base.specs.Types.{type_of}
use Rattle.state_classes.specs.declared.method.Method.{Method}
use Rattle.flat_code.specs.declared.graph.Graph.{Graph}
use Rattle.flat_code.specs.declared.graph.GraphMethod.{GraphMethod}
use Rattle.flat_code.specs.declared.graph.MethodKind.TheVariants as method_kind
use Rattle.flat_code.specs.declared.graph.Instr.{Instr}
use Rattle.flat_code.specs.declared.graph.Instr.TheVariants as instr
use Rattle.flat_code.specs.declared.graph.VariableType.{VariableType}
use Rattle.flat_code.specs.declared.graph.VariableType.TheVariants.{One, Collection}
use Rattle.flat_code.specs.Types.{type_by, result_by, type_of_variable, in_variable, one_type, signature_at}
use Rattle.flat_code.specs.Machine.{Frame, Calls, Called, Gave, Failed, Setting, Ending, Returned, Stopped, CutTo, PartFor, Performed, Goes, Accesses, Ends, first_variables, part_value}
use Rattle.flat_code.specs.Ways.{IsIn, next_in_task, writes}
use Rattle.flat_code.specs.Fits.{is_type}
use Rattle.flat_code.specs.Verified.{Stack, IsMethod, on_top}
use Rattle.graph_safety.proofs.Lists.{get_set, get_set_other, get_within, same_or_not}
use Rattle.graph_safety.proofs.Values.{same_is}

-- ---- variables

abbrev pub AreOf : ValueType → List Val → Type 0
AreOf t [] = Unit {0}
AreOf t (v ∷ vs) = (type_of v ≡ t) × AreOf t vs

-- a variable's value, or the members of its collection
abbrev pub HoldsIn : Option VariableType → List Val → Option Val → Type 0
HoldsIn None gathered x = ⊥
HoldsIn (Some (One t)) gathered None = ⊥
HoldsIn (Some (One t)) gathered (Some x) = type_of x ≡ type_by t
HoldsIn (Some (Collection t)) gathered x = AreOf (type_by t) gathered

abbrev pub Holds : GraphMethod → List Val → List Val → ℕ → Type 0
Holds m gathered variables v = HoldsIn (slice_get m.vars v) gathered (slice_get variables v)

pub typed_holds : (o : Option VariableType) (gathered : List Val) (x : Val) → is_type (in_variable one_type o) x ≡ true → HoldsIn o gathered (Some x)
typed_holds None gathered x e = absurd (false≢true e)
typed_holds (Some (One t)) gathered x e = same_is (type_of x) (type_by t) e
typed_holds (Some (Collection t)) gathered x e = absurd (false≢true e)

pub value_holds : (m : GraphMethod) (gathered : List Val) (v : ℕ) (x : Val) → is_type (type_of_variable m v) x ≡ true → HoldsIn (slice_get m.vars v) gathered (Some x)
value_holds m gathered v x e = typed_holds (slice_get m.vars v) gathered x e

pub is_declared : (m : GraphMethod) (v : ℕ) (x : Val) → is_type (type_of_variable m v) x ≡ true → v < length m.vars
is_declared m v x e = by (slice_get m.vars v) refl e
  where
    by : (o : Option VariableType) → slice_get m.vars v ≡ o → is_type (in_variable one_type o) x ≡ true → v < length m.vars
    by None is e = absurd (false≢true e)
    by (Some t) is e = get_within m.vars v t is

pub set_holds : (m : GraphMethod) (gathered variables : List Val) (v : ℕ) (x : Val) → v < length variables → HoldsIn (slice_get m.vars v) gathered (Some x) → Holds m gathered (slice_set variables v x) v
set_holds m gathered variables v x within h = subst (λ (o : Option Val). HoldsIn (slice_get m.vars v) gathered o) (sym (get_set variables v x within)) h

pub set_keeps : (m : GraphMethod) (gathered variables : List Val) (v : ℕ) (x : Val) → v < length variables → HoldsIn (slice_get m.vars v) gathered (Some x)
    → (w : ℕ) → Holds m gathered variables w → Holds m gathered (slice_set variables v x) w
set_keeps m gathered variables v x within h w held = by (same_or_not w v)
  where
    by : (w ≡ v) ⊎ (w ≢ v) → Holds m gathered (slice_set variables v x) w
    by (inl e) = subst (λ (k : ℕ). Holds m gathered (slice_set variables v x) k) (sym e) (set_holds m gathered variables v x within h)
    by (inr n) = subst (λ (o : Option Val). HoldsIn (slice_get m.vars w) gathered o) (sym (get_set_other variables v w x n)) held

-- ---- calls

abbrev pub HasNoValue : Outcome → Type 0
HasNoValue (outcome.Value v) = ⊥
HasNoValue _ = Unit {0}

-- a helper or merge method may be called so
pub record ArgsFit (of : GraphMethod) (args gathered : List Val) : Type 0 where
  pub no_entry : of.kind ≢ method_kind.Entry
  pub as_many : length args ≡ of.params
  pub hold : (v : ℕ) → v < of.params → Holds of gathered (first_variables of args) v

abbrev pub CalledFits : GraphMethod → ℕ → Option Called → Type 0
CalledFits of turns None = ⊥
CalledFits of turns (Some (Gave v left)) = (type_of v ≡ result_by of.result) × (left ≤ turns)
CalledFits of turns (Some (Failed how left)) = HasNoValue how × (left ≤ turns)

-- with so many turns each call goes right
abbrev pub CallsFit : Graph → Calls → ℕ → Type 0
CallsFit graph calls turns = (k : ℕ) (of : GraphMethod) (args gathered : List Val) → IsMethod graph k of → ArgsFit of args gathered → CalledFits of turns (calls k args gathered turns)

-- ---- what a run stands on

abbrev pub setting_of : Graph → Calls → Option (List ℕ) → Option ℤ → List Val → Setting
setting_of graph calls field key gathered = record { fields = graph.fields; methods = graph.methods; calls = calls; field = field; key = key; gathered = gathered }

abbrev pub HasKey : Option ℤ → Type 0
HasKey None = ⊥
HasKey (Some key) = Unit {0}

-- what an instruction of a task or method wants of what the run stands on
abbrev pub Allowed : Graph → Option (List ℕ) → Option ℤ → List Val → Instr → Type 0
Allowed graph field key gathered (instr.Access name k) = field ≡ Some name
Allowed graph field key gathered instr.Key = HasKey key
Allowed graph field key gathered (instr.Merge n) = (of : GraphMethod) → IsMethod graph n of → of.kind ≡ method_kind.Merge → ArgsFit of (val.Unit ∷ []) gathered
Allowed graph field key gathered _ = Unit {0}

abbrev pub is_turn : Instr → Bool
is_turn instr.Turn = true
is_turn _ = false

abbrev pub IsReturn : Instr → Type 0
IsReturn instr.Return = Unit {0}
IsReturn instr.ReturnVoid = Unit {0}
IsReturn _ = ⊥

abbrev pub frame : ℕ → List Val → List Val → ℕ → Frame
frame at stack variables turns = record { at = at; stack = stack; variables = variables; turns = turns }

-- an instruction went on to another frame
pub record StepTo (m : GraphMethod) (gathered : List Val) (i : Instr) (f g : Frame) (after : Stack) : Type 0 where
  pub next : IsIn g.at (next_in_task f.at i)
  pub typed : map type_of g.stack ≡ after
  pub as_many : length g.variables ≡ length f.variables
  pub kept : (v : ℕ) → Holds m gathered f.variables v → Holds m gathered g.variables v
  pub written : (v : ℕ) → writes i ≡ Some v → Holds m gathered g.variables v
  pub turns : g.turns ≤ f.turns
  pub spent : is_turn i ≡ true → g.turns < f.turns

-- it accesses the state, and goes on with the result on the stack
pub record AccessFits (graph : Graph) (field : Option (List ℕ)) (i : Instr) (k : Method) (args : List Val) (f g : Frame) (after : Stack) : Type 0 where
  pub name : List ℕ
  pub is : i ≡ instr.Access name k
  pub own : field ≡ Some name
  pub sig : Signature
  pub is_signature : signature_at graph.fields name k ≡ Some sig
  pub of : map type_of args ≡ sig.arguments
  pub top : on_top sig.result (map type_of g.stack) ≡ after
  pub at : g.at ≡ suc f.at
  pub variables : g.variables ≡ f.variables
  pub turns : g.turns ≡ f.turns

abbrev pub EndFits : GraphMethod → Instr → Frame → Ending → Type 0
EndFits m i f (Returned v) = IsReturn i × (type_of v ≡ result_by m.result)
EndFits m i f (Stopped how) = HasNoValue how
EndFits m i f (CutTo t) = i ≡ instr.Cut t
EndFits m i f (PartFor join v) = (i ≡ instr.Part join) × (v ≡ part_value f.stack)

-- The frame stands as it was; a call that stops may have spent turns.
pub record IsLeft (f g : Frame) : Type 0 where
  pub is : g ≡ frame f.at f.stack f.variables g.turns
  pub turns : g.turns ≤ f.turns

abbrev pub Leaves : Ending → Frame → Frame → Type 0
Leaves (Stopped how) f g = IsLeft f g
Leaves _ f g = g ≡ f

pub stays : (f : Frame) → IsLeft f f
stays f = record { is = refl; turns = omega arith }

abbrev pub StepFits : Graph → GraphMethod → Option (List ℕ) → List Val → Instr → Frame → Stack → Option Performed → Type 0
StepFits graph m field gathered i f after None = ⊥
StepFits graph m field gathered i f after (Some (Goes g)) = StepTo m gathered i f g after
StepFits graph m field gathered i f after (Some (Accesses k args g)) = AccessFits graph field i k args f g after
StepFits graph m field gathered i f after (Some (Ends ending g)) = Leaves ending f g × EndFits m i f ending
