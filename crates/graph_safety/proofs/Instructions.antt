-- Each instruction of typed code does something, and what it leaves is of the types that come after it: vectors, collections, calls
-- and ends; and then any instruction.
use Rattle.std.proofs.Common.{◌≡◌, ◌≢◌, refl, sym, ap, subst, ◌∙◌, ℕ, ℤ, zero, suc, pos, ◌+◌, ◌-◌, ◌<◌, arith, Bool, true, false, cond, List, [], ◌∷◌, ◌++◌, map, length, replicate, Option, Some, None, slice_get, slice_set, nat_lt}
use Rattle.std.specs.List.{range_with_len}
use Rattle.std.proofs.lemmas.Bool.{false≢true}
use Rattle.std.proofs.lemmas.Slice.Eq.{bytes_eq-Decides}
use Rattle.sdg_base.specs.declared.val.Exn.TheVariants as exn
use Rattle.sdg_base.specs.declared.val.Val.{Val}
use Rattle.sdg_base.specs.declared.val.Val.TheVariants as val
use Rattle.sdg_base.specs.declared.value_type.ValueType.{ValueType}
use Rattle.sdg_base.specs.declared.value_type.ValueType.TheVariants as type
use Rattle.sdg_base.specs.Signatures.{Signature}
use Rattle.sdg_base.specs.Types.{type_of}
use Rattle.state_classes.specs.declared.method.Method.{Method}
use Rattle.flat_code.specs.declared.graph.Graph.{Graph}
use Rattle.flat_code.specs.declared.graph.GraphMethod.{GraphMethod}
use Rattle.flat_code.specs.declared.graph.MethodKind.TheVariants as method_kind
use Rattle.flat_code.specs.declared.graph.Instr.{Instr}
use Rattle.flat_code.specs.declared.graph.Instr.TheVariants as instr
use Rattle.flat_code.specs.declared.graph.VarType.{VarType}
use Rattle.flat_code.specs.declared.graph.VariableType.{VariableType}
use Rattle.flat_code.specs.declared.graph.VariableType.TheVariants.{One, Collection}
use Rattle.flat_code.specs.Types.{type_by, result_by, member_type, in_variable, type_of_variable, members_of_variable, same_types, signature_at}
use Rattle.flat_code.specs.Machine as machine
use Rattle.flat_code.specs.Machine.{first_variables, Frame, Calls, Called, Gave, Failed, Ending, Returned, Stopped, CutTo, PartFor, Performed, Goes, Accesses, Ends, perform_on, a_value}
use Rattle.flat_code.specs.Ways.{IsIn, IsFirst, next_in_task, writes, reads}
use Rattle.flat_code.specs.Fits.{is_type, has_types, parameters}
use Rattle.flat_code.specs.Verified.{Stack, IsMethod, HasMethod, HasAccess, NamesSomething, SpendsBefore, types_after, without, on_top, with_result, pushing, if_type, if_members, types_of_variables, without_all, called_type, merged_type, accessed_type, only_type, returned_type, nothing_returned}
use Rattle.graph_safety.proofs.Values.{are_same, same_are}
use Rattle.graph_safety.proofs.Lists.{none_some, some_is, both_true}
use Rattle.graph_safety.proofs.Stacks.{type_by_value, on_top_is, on_top_by, one_off, two_off, pushing_is, taken_of, two, types_length, range_length, values_have}
use Rattle.graph_safety.proofs.Frames.{HoldsIn, Holds, value_holds, is_declared, ArgsFit, CalledFits, CallsFit, setting_of, HasKey, Allowed, is_turn, frame, StepFits, stays}
use Rattle.graph_safety.proofs.Steps.{Has, Does, goes_on, jumps, finds, stores, load, store, pop, binary, un_op, cast, if_false, turn, new_vector, result_parts, if_parts, members_parts, vector_in, members_in, member_found, long_found, pushed_types}

-- ---- tops of stacks

int_top : (types : Stack) (vs : List Val) → map type_of vs ≡ type.Int ∷ types → (i : ℤ) × (rest : List Val) × (vs ≡ val.Int i ∷ rest) × (map type_of rest ≡ types)
int_top types [] e = absurd (cc)
int_top types (val.Int i ∷ rest) e = (i, rest, refl, cc)
int_top types (_ ∷ rest) e = absurd (cc)

long_top : (types : Stack) (vs : List Val) → map type_of vs ≡ type.Long ∷ types → (x : ℤ) × (rest : List Val) × (vs ≡ val.Long x ∷ rest) × (map type_of rest ≡ types)
long_top types [] e = absurd (cc)
long_top types (val.Long x ∷ rest) e = (x, rest, refl, cc)
long_top types (_ ∷ rest) e = absurd (cc)

member_value : (o : Option VariableType) (t : ValueType) → in_variable member_type o ≡ Some t → t ≢ type.Void
member_value None t e q = none_some t e
member_value (Some (One s)) t e q = none_some t e
member_value (Some (Collection s)) t e q = type_by_value s (some_is (type_by s) t e ∙ q)

all_parts : (o : Option (List ValueType)) (types stack : Stack) → without_all o types ≡ Some stack → (ts : List ValueType) × (o ≡ Some ts) × (without ts types ≡ Some stack)
all_parts None types stack e = absurd (none_some stack e)
all_parts (Some ts) types stack e = (ts, refl, e)

-- ---- the first variables of a method hold its arguments

holds_from : (of : GraphMethod) (gathered more : List Val) (a n : ℕ) (args : List Val) → has_types of (range_with_len a n) args ≡ true
    → (i v : ℕ) → i < n → a + i ≡ v → HoldsIn (slice_get of.vars v) gathered (slice_get (args ++ more) i)
holds_from of gathered more a zero args e i v within at = absurd (omega arith)
holds_from of gathered more a (suc n) [] e i v within at = absurd (false≢true e)
holds_from of gathered more a (suc n) (x ∷ xs) e zero v within at =
    let same : a ≡ v = omega arith in
    subst (λ (k : ℕ). HoldsIn (slice_get of.vars k) gathered (Some x)) same (value_holds of gathered a x (both_true (is_type (type_of_variable of a) x) (has_types of (range_with_len (a + 1) n) xs) e).0)
holds_from of gathered more a (suc n) (x ∷ xs) e (suc i) v within at =
    let less : i < n = omega arith in
    let there : a + 1 + i ≡ v = omega arith in
    holds_from of gathered more (a + 1) n xs (both_true (is_type (type_of_variable of a) x) (has_types of (range_with_len (a + 1) n) xs) e).1 i v less there

pub first_hold : (of : GraphMethod) (args gathered : List Val) → has_types of (parameters of) args ≡ true → (v : ℕ) → v < of.params → Holds of gathered (first_variables of args) v
first_hold of args gathered e v within = let at : 0 + v ≡ v = omega arith in holds_from of gathered (replicate (length of.vars - length args) val.Unit) 0 of.params args e v v within at

pub types_as_many : (of : GraphMethod) (ns : List ℕ) (args : List Val) → has_types of ns args ≡ true → length args ≡ length ns
types_as_many of [] [] e = refl
types_as_many of [] (x ∷ xs) e = absurd (false≢true e)
types_as_many of (n ∷ ns) [] e = absurd (false≢true e)
types_as_many of (n ∷ ns) (x ∷ xs) e = ap suc (types_as_many of ns xs (both_true (is_type (type_of_variable of n) x) (has_types of ns xs) e).1)

module _ (graph : Graph) (m : GraphMethod) (calls : Calls) (field : Option (List ℕ)) (key : Option ℤ) (gathered : List Val) where
  vector_size : (v : ℕ) (at : ℕ) (stack variables : List Val) (turns : ℕ) (after : Stack) → Holds m gathered variables v
      → if_type (type_of_variable m v) type.Vector (Some (type.Int ∷ map type_of stack)) ≡ Some after → Does graph m calls field key gathered (instr.VectorSize v) at stack variables turns after
  vector_size v at stack variables turns after h e =
      let k = if_parts (type_of_variable m v) type.Vector (Some (type.Int ∷ map type_of stack)) after e in
      let x = vector_in gathered (slice_get m.vars v) (slice_get variables v) k.0 h in
      subst (λ (o : Option Val). StepFits graph m field gathered (instr.VectorSize v) (frame at stack variables turns) after (machine.pushed (machine.size_of (a_value o)) stack (frame at stack variables turns))) (sym x.1)
      (goes_on graph m field gathered (instr.VectorSize v) at stack variables (val.Int (pos (length x.0)) ∷ stack) turns after (IsFirst []) none_some false≢true (some_is (type.Int ∷ map type_of stack) after k.1))

  vector_get_on : (v : ℕ) (i : ℤ) (at : ℕ) (rest variables : List Val) (turns : ℕ) (after : Stack) → Holds m gathered variables v → type_of_variable m v ≡ Some type.Vector
      → type.Long ∷ map type_of rest ≡ after → Does graph m calls field key gathered (instr.VectorGet v) at (val.Int i ∷ rest) variables turns after
  vector_get_on v i at rest variables turns after h is top =
      let x = vector_in gathered (slice_get m.vars v) (slice_get variables v) is h in
      let f = frame at (val.Int i ∷ rest) variables turns in
      subst (λ (o : Option Val). StepFits graph m field gathered (instr.VectorGet v) f after (machine.element (a_value o) (val.Int i) rest f)) (sym x.1)
      (finds graph m field gathered type.Long (machine.a_long (machine.long_at x.0 (machine.at_index i))) (instr.VectorGet v) at (val.Int i ∷ rest) variables rest turns after (IsFirst []) none_some false≢true
      (long_found (machine.long_at x.0 (machine.at_index i))) top)

  vector_get : (v : ℕ) (at : ℕ) (stack variables : List Val) (turns : ℕ) (after : Stack) → Holds m gathered variables v
      → if_type (type_of_variable m v) type.Vector (with_result type.Long (without (type.Int ∷ []) (map type_of stack))) ≡ Some after → Does graph m calls field key gathered (instr.VectorGet v) at stack variables turns after
  vector_get v at stack variables turns after h e =
      let k = if_parts (type_of_variable m v) type.Vector (with_result type.Long (without (type.Int ∷ []) (map type_of stack))) after e in
      let r = result_parts type.Long (without (type.Int ∷ []) (map type_of stack)) after k.1 in
      let t = int_top r.0 stack (one_off type.Int (map type_of stack) r.0 r.1) in
      subst (λ (vs : List Val). Does graph m calls field key gathered (instr.VectorGet v) at vs variables turns after) (sym t.2)
      (vector_get_on v t.0 at t.1 variables turns after h k.0 (ap (λ us. type.Long ∷ us) t.3 ∙ r.2))

  vector_set_on : (v : ℕ) (x i : ℤ) (at : ℕ) (rest variables : List Val) (turns : ℕ) (after : Stack) → length variables ≡ length m.vars → Holds m gathered variables v → type_of_variable m v ≡ Some type.Vector
      → map type_of rest ≡ after → Does graph m calls field key gathered (instr.VectorSet v) at (val.Long x ∷ val.Int i ∷ rest) variables turns after
  vector_set_on v x i at rest variables turns after room h is top =
      let held = vector_in gathered (slice_get m.vars v) (slice_get variables v) is h in
      subst (λ (o : Option Val). StepFits graph m field gathered (instr.VectorSet v) f after (machine.element_set v (a_value o) (val.Int i) (val.Long x) rest f)) (sym held.1) (by_index held.0 (machine.at_index i))
    where
      f : Frame
      f = frame at (val.Long x ∷ val.Int i ∷ rest) variables turns

      by_test : (longs : List ℤ) (b : Bool) → StepFits graph m field gathered (instr.VectorSet v) (frame at (val.Long x ∷ val.Int i ∷ rest) variables turns) after (cond b (machine.stored v (val.Vector longs) rest (frame at (val.Long x ∷ val.Int i ∷ rest) variables turns)) (machine.throws exn.Index (frame at (val.Long x ∷ val.Int i ∷ rest) variables turns)))
      by_test longs true =
          let typed : is_type (type_of_variable m v) (val.Vector longs) ≡ true = ap (λ (p : Option ValueType). is_type p (val.Vector longs)) is in
          let declared = is_declared m v (val.Vector longs) typed in
          let within : v < length variables = omega arith in
          stores graph m field gathered (instr.VectorSet v) at v (val.Vector longs) (val.Long x ∷ val.Int i ∷ rest) variables rest turns after (IsFirst []) (λ w q. absurd (none_some w q)) false≢true within (value_holds m gathered v (val.Vector longs) typed) top
      by_test longs false = (stays _, tt)

      by_index : (longs : List ℤ) (o : Option ℕ) → StepFits graph m field gathered (instr.VectorSet v) (frame at (val.Long x ∷ val.Int i ∷ rest) variables turns) after (machine.set_at v longs o x rest (frame at (val.Long x ∷ val.Int i ∷ rest) variables turns))
      by_index longs None = (stays _, tt)
      by_index longs (Some j) = by_test (slice_set longs j x) (nat_lt j (length longs))

  vector_set : (v : ℕ) (at : ℕ) (stack variables : List Val) (turns : ℕ) (after : Stack) → length variables ≡ length m.vars → Holds m gathered variables v
      → if_type (type_of_variable m v) type.Vector (without (type.Int ∷ type.Long ∷ []) (map type_of stack)) ≡ Some after → Does graph m calls field key gathered (instr.VectorSet v) at stack variables turns after
  vector_set v at stack variables turns after room h e =
      let k = if_parts (type_of_variable m v) type.Vector (without (type.Int ∷ type.Long ∷ []) (map type_of stack)) after e in
      let t = long_top (type.Int ∷ after) stack (two_off type.Int type.Long (map type_of stack) after k.1) in
      let u = int_top after t.1 t.3 in
      let is : stack ≡ val.Long t.0 ∷ val.Int u.0 ∷ u.1 = t.2 ∙ ap (λ vs. val.Long t.0 ∷ vs) u.2 in
      subst (λ (vs : List Val). Does graph m calls field key gathered (instr.VectorSet v) at vs variables turns after) (sym is)
      (vector_set_on v t.0 u.0 at u.1 variables turns after room h k.0 u.3)

  collection_length : (v : ℕ) (at : ℕ) (stack variables : List Val) (turns : ℕ) (after : Stack)
      → if_members (members_of_variable m v) (Some (type.Int ∷ map type_of stack)) ≡ Some after → Does graph m calls field key gathered (instr.CollectionLength v) at stack variables turns after
  collection_length v at stack variables turns after e =
      goes_on graph m field gathered (instr.CollectionLength v) at stack variables (val.Int (pos (length gathered)) ∷ stack) turns after (IsFirst []) none_some false≢true
      (some_is (type.Int ∷ map type_of stack) after (members_parts (members_of_variable m v) (Some (type.Int ∷ map type_of stack)) after e))

  collection_item : (v : ℕ) (at : ℕ) (stack variables : List Val) (turns : ℕ) (after : Stack) → Holds m gathered variables v
      → pushing (members_of_variable m v) (without (type.Int ∷ []) (map type_of stack)) ≡ Some after → Does graph m calls field key gathered (instr.CollectionItem v) at stack variables turns after
  collection_item v at stack variables turns after h e =
      let p = pushing_is (members_of_variable m v) (without (type.Int ∷ []) (map type_of stack)) after e in
      let t = int_top p.stack stack (one_off type.Int (map type_of stack) p.stack p.is_stack) in
      let are = members_in gathered (slice_get m.vars v) (slice_get variables v) p.of p.is_type h in
      let top : p.of ∷ map type_of t.1 ≡ after = ap (λ us. p.of ∷ us) t.3 ∙ sym (on_top_is p.of p.stack (member_value (slice_get m.vars v) p.of p.is_type)) ∙ p.top in
      subst (λ (vs : List Val). Does graph m calls field key gathered (instr.CollectionItem v) at vs variables turns after) (sym t.2)
      (finds graph m field gathered p.of (machine.item_at gathered (machine.at_index t.0)) (instr.CollectionItem v) at (val.Int t.0 ∷ t.1) variables t.1 turns after (IsFirst []) none_some false≢true (member_found p.of gathered t.0 are) top)

  size_of_member : (v : ℕ) (i : ℤ) (at : ℕ) (rest variables : List Val) (turns : ℕ) (after : Stack) (o : Option Val) → Has type.Vector o → type.Int ∷ map type_of rest ≡ after
      → StepFits graph m field gathered (instr.CollectionSize v) (frame at (val.Int i ∷ rest) variables turns) after (machine.with_found o (machine.member_size rest (frame at (val.Int i ∷ rest) variables turns)) (frame at (val.Int i ∷ rest) variables turns))
  size_of_member v i at rest variables turns after None h top = (stays _, tt)
  size_of_member v i at rest variables turns after (Some (val.Vector longs)) h top =
      goes_on graph m field gathered (instr.CollectionSize v) at (val.Int i ∷ rest) variables (val.Int (pos (length longs)) ∷ rest) turns after (IsFirst []) none_some false≢true top
  size_of_member v i at rest variables turns after (Some _) h top = absurd (cc)

  collection_size : (v : ℕ) (at : ℕ) (stack variables : List Val) (turns : ℕ) (after : Stack) → Holds m gathered variables v
      → if_type (members_of_variable m v) type.Vector (with_result type.Int (without (type.Int ∷ []) (map type_of stack))) ≡ Some after → Does graph m calls field key gathered (instr.CollectionSize v) at stack variables turns after
  collection_size v at stack variables turns after h e =
      let k = if_parts (members_of_variable m v) type.Vector (with_result type.Int (without (type.Int ∷ []) (map type_of stack))) after e in
      let r = result_parts type.Int (without (type.Int ∷ []) (map type_of stack)) after k.1 in
      let t = int_top r.0 stack (one_off type.Int (map type_of stack) r.0 r.1) in
      let are = members_in gathered (slice_get m.vars v) (slice_get variables v) type.Vector k.0 h in
      subst (λ (vs : List Val). Does graph m calls field key gathered (instr.CollectionSize v) at vs variables turns after) (sym t.2)
      (size_of_member v t.0 at t.1 variables turns after (machine.item_at gathered (machine.at_index t.0)) (member_found type.Vector gathered t.0 are) (ap (λ us. type.Int ∷ us) t.3 ∙ r.2))

  checked_member : (v : ℕ) (i : ℤ) (at : ℕ) (rest variables : List Val) (turns : ℕ) (after : Stack) (o : Option Val) → type.Int ∷ map type_of rest ≡ after
      → StepFits graph m field gathered (instr.CollectionCheck v) (frame at (val.Int i ∷ rest) variables turns) after (machine.with_found o (machine.member_checked (val.Int i) rest (frame at (val.Int i ∷ rest) variables turns)) (frame at (val.Int i ∷ rest) variables turns))
  checked_member v i at rest variables turns after None top = (stays _, tt)
  checked_member v i at rest variables turns after (Some x) top =
      goes_on graph m field gathered (instr.CollectionCheck v) at (val.Int i ∷ rest) variables (val.Int i ∷ rest) turns after (IsFirst []) none_some false≢true top

  collection_check : (v : ℕ) (at : ℕ) (stack variables : List Val) (turns : ℕ) (after : Stack)
      → if_members (members_of_variable m v) (with_result type.Int (without (type.Int ∷ []) (map type_of stack))) ≡ Some after → Does graph m calls field key gathered (instr.CollectionCheck v) at stack variables turns after
  collection_check v at stack variables turns after e =
      let r = result_parts type.Int (without (type.Int ∷ []) (map type_of stack)) after (members_parts (members_of_variable m v) (with_result type.Int (without (type.Int ∷ []) (map type_of stack))) after e) in
      let t = int_top r.0 stack (one_off type.Int (map type_of stack) r.0 r.1) in
      subst (λ (vs : List Val). Does graph m calls field key gathered (instr.CollectionCheck v) at vs variables turns after) (sym t.2)
      (checked_member v t.0 at t.1 variables turns after (machine.item_at gathered (machine.at_index t.0)) (ap (λ us. type.Int ∷ us) t.3 ∙ r.2))

  element_of_member : (v : ℕ) (j i : ℤ) (at : ℕ) (rest variables : List Val) (turns : ℕ) (after : Stack) (o : Option Val) → Has type.Vector o → type.Long ∷ map type_of rest ≡ after
      → StepFits graph m field gathered (instr.CollectionGet v) (frame at (val.Int j ∷ val.Int i ∷ rest) variables turns) after (machine.with_found o (machine.member_element (val.Int j) rest (frame at (val.Int j ∷ val.Int i ∷ rest) variables turns)) (frame at (val.Int j ∷ val.Int i ∷ rest) variables turns))
  element_of_member v j i at rest variables turns after None h top = (stays _, tt)
  element_of_member v j i at rest variables turns after (Some (val.Vector longs)) h top =
      finds graph m field gathered type.Long (machine.a_long (machine.long_at longs (machine.at_index j))) (instr.CollectionGet v) at (val.Int j ∷ val.Int i ∷ rest) variables rest turns after (IsFirst []) none_some false≢true
      (long_found (machine.long_at longs (machine.at_index j))) top
  element_of_member v j i at rest variables turns after (Some _) h top = absurd (cc)

  collection_get : (v : ℕ) (at : ℕ) (stack variables : List Val) (turns : ℕ) (after : Stack) → Holds m gathered variables v
      → if_type (members_of_variable m v) type.Vector (with_result type.Long (without (type.Int ∷ type.Int ∷ []) (map type_of stack))) ≡ Some after → Does graph m calls field key gathered (instr.CollectionGet v) at stack variables turns after
  collection_get v at stack variables turns after h e =
      let k = if_parts (members_of_variable m v) type.Vector (with_result type.Long (without (type.Int ∷ type.Int ∷ []) (map type_of stack))) after e in
      let r = result_parts type.Long (without (type.Int ∷ type.Int ∷ []) (map type_of stack)) after k.1 in
      let t = int_top (type.Int ∷ r.0) stack (two_off type.Int type.Int (map type_of stack) r.0 r.1) in
      let u = int_top r.0 t.1 t.3 in
      let is : stack ≡ val.Int t.0 ∷ val.Int u.0 ∷ u.1 = t.2 ∙ ap (λ vs. val.Int t.0 ∷ vs) u.2 in
      let are = members_in gathered (slice_get m.vars v) (slice_get variables v) type.Vector k.0 h in
      subst (λ (vs : List Val). Does graph m calls field key gathered (instr.CollectionGet v) at vs variables turns after) (sym is)
      (element_of_member v t.0 u.0 at u.1 variables turns after (machine.item_at gathered (machine.at_index u.0)) (member_found type.Vector gathered u.0 are) (ap (λ us. type.Long ∷ us) u.3 ∙ r.2))

  -- ---- calls

  called : (i : Instr) (of : GraphMethod) (at : ℕ) (stack variables rest : List Val) (turns : ℕ) (after : Stack) (o : Option Called)
      → IsIn (suc at) (next_in_task at i) → ((v : ℕ) → writes i ≡ Some v → ⊥) → (is_turn i ≡ true → ⊥)
      → CalledFits of turns o → on_top (result_by of.result) (map type_of rest) ≡ after
      → StepFits graph m field gathered i (frame at stack variables turns) after (machine.after_call o rest (frame at stack variables turns))
  called i of at stack variables rest turns after None is_next none no_turn h top = absurd h
  called i of at stack variables rest turns after (Some (Failed how left)) is_next none no_turn h top = (record { is = refl; turns = h.1 }, h.0)
  called i of at stack variables rest turns after (Some (Gave v left)) is_next none no_turn h top = record {
    next = is_next;
    typed = pushed_types v rest ∙ ap (λ (t : ValueType). on_top t (map type_of rest)) h.0 ∙ top;
    as_many = refl;
    kept = λ w k. k;
    written = λ w q. absurd (none w q);
    turns = h.1;
    spent = λ q. absurd (no_turn q);
  }

  call_of_method : (k : ℕ) (of : GraphMethod) (at : ℕ) (stack variables : List Val) (turns : ℕ) (after : Stack)
      → IsMethod graph k of → of.kind ≡ method_kind.Helper → CallsFit graph calls turns → called_type (Some of) (map type_of stack) ≡ Some after
      → StepFits graph m field gathered (instr.Call k) (frame at stack variables turns) after (machine.call calls k (Some of) stack (frame at stack variables turns))
  call_of_method k of at stack variables turns after is helper fits e =
      let r = result_parts (result_by of.result) (without_all (types_of_variables of (parameters of)) (map type_of stack)) after e in
      let a = all_parts (types_of_variables of (parameters of)) (map type_of stack) r.0 r.1 in
      let t = taken_of a.0 stack r.0 a.2 in
      let many : length a.0 ≡ of.params = types_length of (parameters of) a.0 a.1 ∙ range_length 0 of.params in
      let typed = values_have of (parameters of) a.0 t.args a.1 t.of in
      let args : ArgsFit of t.args [] = record {
        no_entry = λ q. entry_is_not (sym q ∙ helper);
        as_many = types_as_many of (parameters of) t.args typed ∙ range_length 0 of.params;
        hold = first_hold of t.args [] typed;
      } in
      let taken : machine.arguments of.params stack ≡ Some (two t.args t.rest) = ap (λ (n : ℕ). machine.arguments n stack) (sym many) ∙ t.is in
      subst (λ (o : Option (List Val × List Val)). StepFits graph m field gathered (instr.Call k) (frame at stack variables turns) after (machine.call_on calls k o (frame at stack variables turns))) (sym taken)
      (called (instr.Call k) of at stack variables t.rest turns after (calls k t.args [] turns) (IsFirst []) none_some false≢true (fits k of t.args [] is args)
      (ap (λ (ts : Stack). on_top (result_by of.result) ts) t.left ∙ r.2))
    where
      entry_is_not : method_kind.Entry ≡ method_kind.Helper → ⊥
      entry_is_not q = cc

  call : (k : ℕ) (at : ℕ) (stack variables : List Val) (turns : ℕ) (after : Stack) → HasMethod graph k method_kind.Helper → CallsFit graph calls turns
      → called_type (slice_get graph.methods k) (map type_of stack) ≡ Some after → Does graph m calls field key gathered (instr.Call k) at stack variables turns after
  call k at stack variables turns after named fits e =
      subst (λ (o : Option GraphMethod). StepFits graph m field gathered (instr.Call k) (frame at stack variables turns) after (machine.call calls k o stack (frame at stack variables turns))) (sym named.is_method)
      (call_of_method k named.of at stack variables turns after named.is_method named.is_kind fits
      (subst (λ (o : Option GraphMethod). called_type o (map type_of stack) ≡ Some after) named.is_method e))

  merge : (k : ℕ) (at : ℕ) (stack variables : List Val) (turns : ℕ) (after : Stack) → HasMethod graph k method_kind.Merge
      → Allowed graph field key gathered (instr.Merge k) → CallsFit graph calls turns
      → merged_type (slice_get graph.methods k) (map type_of stack) ≡ Some after → Does graph m calls field key gathered (instr.Merge k) at stack variables turns after
  merge k at stack variables turns after named allowed fits e =
      let top : Some (on_top (result_by named.of.result) (map type_of stack)) ≡ Some after = ap (λ (o : Option GraphMethod). merged_type o (map type_of stack)) (sym named.is_method) ∙ e in
      called (instr.Merge k) named.of at stack variables stack turns after (calls k (val.Unit ∷ []) gathered turns) (IsFirst []) none_some false≢true
      (fits k named.of (val.Unit ∷ []) gathered named.is_method (allowed named.of named.is_method named.is_kind))
      (some_is (on_top (result_by named.of.result) (map type_of stack)) after top)

  key_step : (at : ℕ) (stack variables : List Val) (turns : ℕ) (after : Stack) → HasKey key → Some (type.Long ∷ map type_of stack) ≡ Some after → Does graph m calls field key gathered instr.Key at stack variables turns after
  key_step at stack variables turns after has e = by key has
    where
      by : (o : Option ℤ) → HasKey o → StepFits graph m field gathered instr.Key (frame at stack variables turns) after (machine.pushed (machine.key_value o) stack (frame at stack variables turns))
      by None h = absurd h
      by (Some n) h = goes_on graph m field gathered instr.Key at stack variables (val.Long n ∷ stack) turns after (IsFirst []) none_some false≢true (some_is (type.Long ∷ map type_of stack) after e)

  access : (name : List ℕ) (k : Method) (at : ℕ) (stack variables : List Val) (turns : ℕ) (after : Stack) → HasAccess graph name k → field ≡ Some name
      → accessed_type (signature_at graph.fields name k) (map type_of stack) ≡ Some after → Does graph m calls field key gathered (instr.Access name k) at stack variables turns after
  access name k at stack variables turns after named own e =
      let sig = named.of in
      let f = frame at stack variables turns in
      let r = result_parts sig.result (without sig.arguments (map type_of stack)) after (ap (λ (o : Option Signature). accessed_type o (map type_of stack)) (sym named.is_signature) ∙ e) in
      let t = taken_of sig.arguments stack r.0 r.1 in
      let it = Some (Accesses k t.args (frame (suc at) t.rest variables turns)) in
      let its : machine.is_own_field field name ≡ true = ap (λ (o : Option (List ℕ)). machine.is_own_field o name) own ∙ (bytes_eq-Decides name name).1 refl in
      let path : perform_on (setting_of graph calls field key gathered) (instr.Access name k) stack f ≡ it =
      ap (λ (b : Bool). cond b (machine.access_by k (signature_at graph.fields name k) stack f) None) its
      ∙ ap (λ (o : Option Signature). machine.access_by k o stack f) named.is_signature
      ∙ ap (λ (o : Option (List Val × List Val)). machine.access_with k sig o f) t.is
      ∙ ap (λ (b : Bool). cond b it None) (are_same (map type_of t.args) sig.arguments t.of) in
      subst (λ (p : Option Performed). StepFits graph m field gathered (instr.Access name k) f after p) (sym path)
      (record {
        name = name;
        is = refl;
        own = own;
        sig = sig;
        is_signature = named.is_signature;
        of = t.of;
        top = ap (λ (ts : Stack). on_top sig.result ts) t.left ∙ r.2;
        at = refl;
        variables = refl;
        turns = refl;
      })

  -- ---- ends

  only_parts : (t : ValueType) (types after : Stack) → only_type (Some t) types ≡ Some after → types ≡ on_top t []
  only_parts t types after e = by (same_types types (on_top t [])) refl e
    where
      by : (b : Bool) → same_types types (on_top t []) ≡ b → cond b (Some []) None ≡ Some after → types ≡ on_top t []
      by true is e = same_are types (on_top t []) is
      by false is e = absurd (none_some after e)

  returned : (o : Option VarType) (v : Val) (types after : Stack) → returned_type o (type_of v ∷ types) ≡ Some after → type_of v ≡ result_by o
  returned None v types after e = absurd (none_some after e)
  returned (Some t) v types after e = let k = only_parts (type_by t) (type_of v ∷ types) after e ∙ on_top_by t [] in cc

  no_top : (o : Option VarType) (after : Stack) → returned_type o [] ≡ Some after → ⊥
  no_top None after e = none_some after e
  no_top (Some t) after e = let k = only_parts (type_by t) [] after e ∙ on_top_by t [] in cc

  return : (at : ℕ) (stack variables : List Val) (turns : ℕ) (after : Stack) → returned_type m.result (map type_of stack) ≡ Some after → Does graph m calls field key gathered instr.Return at stack variables turns after
  return at [] variables turns after e = no_top m.result after e
  return at (v ∷ stack) variables turns after e = (refl, (tt, returned m.result v (map type_of stack) after e))

  nothing : (o : Option VarType) (types after : Stack) → nothing_returned o types ≡ Some after → type.Void ≡ result_by o
  nothing None types after e = refl
  nothing (Some t) types after e = absurd (none_some after e)

  -- ---- any

  pub step : (i : Instr) (at : ℕ) (stack variables : List Val) (turns : ℕ) (after : Stack)
      → NamesSomething graph m i → Allowed graph field key gathered i → ((v : ℕ) → IsIn v (reads i) → Holds m gathered variables v) → length variables ≡ length m.vars
      → (SpendsBefore i → CallsFit graph calls turns) → types_after graph m i (map type_of stack) ≡ Some after
      → Does graph m calls field key gathered i at stack variables turns after
  step (instr.Int n) at stack variables turns after named allowed held room fits e = goes_on graph m field gathered (instr.Int n) at stack variables (val.Int n ∷ stack) turns after (IsFirst []) none_some false≢true (some_is (type.Int ∷ map type_of stack) after e)
  step (instr.Long n) at stack variables turns after named allowed held room fits e = goes_on graph m field gathered (instr.Long n) at stack variables (val.Long n ∷ stack) turns after (IsFirst []) none_some false≢true (some_is (type.Long ∷ map type_of stack) after e)
  step (instr.Bool b) at stack variables turns after named allowed held room fits e = goes_on graph m field gathered (instr.Bool b) at stack variables (val.Bool b ∷ stack) turns after (IsFirst []) none_some false≢true (some_is (type.Boolean ∷ map type_of stack) after e)
  step (instr.Load v) at stack variables turns after named allowed held room fits e = load graph m calls field key gathered v (slice_get m.vars v) (slice_get variables v) at stack variables turns after (held v (IsFirst [])) e
  step (instr.Store v) at stack variables turns after named allowed held room fits e = store graph m calls field key gathered v at stack variables turns after room e
  step instr.Pop at stack variables turns after named allowed held room fits e = pop graph m calls field key gathered at stack variables turns after e
  step (instr.Bin op t) at stack variables turns after named allowed held room fits e = binary graph m calls field key gathered op t at stack variables turns after e
  step (instr.Un op) at stack variables turns after named allowed held room fits e = un_op graph m calls field key gathered op at stack variables turns after e
  step (instr.Cast t) at stack variables turns after named allowed held room fits e = cast graph m calls field key gathered t at stack variables turns after e
  step (instr.Jump to) at stack variables turns after named allowed held room fits e = jumps graph m field gathered (instr.Jump to) at to stack variables stack turns after (IsFirst []) none_some false≢true (some_is (map type_of stack) after e)
  step (instr.IfFalse to) at stack variables turns after named allowed held room fits e = if_false graph m calls field key gathered to at stack variables turns after e
  step instr.Turn at stack variables turns after named allowed held room fits e = turn graph m calls field key gathered at stack variables turns after e
  step instr.NewVector at stack variables turns after named allowed held room fits e = new_vector graph m calls field key gathered at stack variables turns after e
  step (instr.VectorSize v) at stack variables turns after named allowed held room fits e = vector_size v at stack variables turns after (held v (IsFirst [])) e
  step (instr.VectorGet v) at stack variables turns after named allowed held room fits e = vector_get v at stack variables turns after (held v (IsFirst [])) e
  step (instr.VectorSet v) at stack variables turns after named allowed held room fits e = vector_set v at stack variables turns after room (held v (IsFirst [])) e
  step (instr.CollectionLength v) at stack variables turns after named allowed held room fits e = collection_length v at stack variables turns after e
  step (instr.CollectionItem v) at stack variables turns after named allowed held room fits e = collection_item v at stack variables turns after (held v (IsFirst [])) e
  step (instr.CollectionSize v) at stack variables turns after named allowed held room fits e = collection_size v at stack variables turns after (held v (IsFirst [])) e
  step (instr.CollectionCheck v) at stack variables turns after named allowed held room fits e = collection_check v at stack variables turns after e
  step (instr.CollectionGet v) at stack variables turns after named allowed held room fits e = collection_get v at stack variables turns after (held v (IsFirst [])) e
  step (instr.Call k) at stack variables turns after named allowed held room fits e = call k at stack variables turns after named (fits tt) e
  step instr.Key at stack variables turns after named allowed held room fits e = key_step at stack variables turns after allowed e
  step (instr.Access name k) at stack variables turns after named allowed held room fits e = access name k at stack variables turns after named allowed e
  step (instr.Cut t) at stack variables turns after named allowed held room fits e = (refl, refl)
  step (instr.Part t) at stack variables turns after named allowed held room fits e = (refl, (refl, refl))
  step (instr.Merge k) at stack variables turns after named allowed held room fits e = merge k at stack variables turns after named allowed (fits tt) e
  step instr.Return at stack variables turns after named allowed held room fits e = return at stack variables turns after e
  step instr.ReturnVoid at stack variables turns after named allowed held room fits e = (refl, (tt, nothing m.result (map type_of stack) after e))
