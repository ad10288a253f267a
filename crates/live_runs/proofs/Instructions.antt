-- Each instruction does the same at two frames that agree on the variables which it reads.
use Rattle.std.proofs.Common.{◌≡◌, ◌≢◌, refl, sym, subst, ◌∙◌, ℕ, ℤ, suc, pos, ◌<◌, Bool, true, false, List, [], ◌∷◌, length, Option, Some, None, slice_get, slice_set, nat_lt, if◌then◌else◌, inl, inr, ◌⊎◌}
use Rattle.std.proofs.lemmas.Bool.{ltb-true}
use Rattle.sdg_base.specs.Operations.{unary_operation, converted}
use Rattle.sdg_base.specs.declared.operator.BinOp.{BinOp}
use Rattle.sdg_base.specs.declared.operator.UnOp.{UnOp}
use Rattle.sdg_base.specs.declared.val.Exn.TheVariants as exn
use Rattle.sdg_base.specs.declared.val.Num.{Num}
use Rattle.sdg_base.specs.declared.val.Outcome.TheVariants as outcome
use Rattle.sdg_base.specs.declared.val.Val.{Val}
use Rattle.sdg_base.specs.declared.val.Val.TheVariants as val
use Rattle.flat_code.specs.declared.graph.Instr.{Instr}
use Rattle.flat_code.specs.declared.graph.Instr.TheVariants as instr
use Rattle.flat_code.specs.declared.graph.OperandType.{OperandType}
use Rattle.flat_code.specs.Machine as machine
use Rattle.flat_code.specs.Machine.{Frame, Returned, Stopped, CutTo, PartFor, Performed, Goes, Setting, perform_on}
use Rattle.flat_code.specs.Ways.{IsIn, IsFirst, IsLater, next_of, reads, writes}
use Rattle.graph_safety.proofs.Lists.{none_some, some_is, get_set, get_set_other, length_set, same_or_not}
use Rattle.live_runs.specs.Alike.{Agree}
use Rattle.live_runs.proofs.Steps as steps
use Rattle.live_runs.proofs.Steps.{frame, BothAt, GoAlike, DoAlike}

-- ---- a variable set to one value in both

set_agrees_there : (here there : List Val) → length there ≡ length here → (v : ℕ) (x : Val) → v < length here → Agree (slice_set here v x) (slice_set there v x) v
set_agrees_there here there many v x within =
    let inside : v < length there = subst (λ (n : ℕ). v < n) (sym many) within in
    get_set there v x inside ∙ sym (get_set here v x within)

pub set_agrees : (here there : List Val) → length there ≡ length here → (v : ℕ) (x : Val) → v < length here → (w : ℕ) → (w ≡ v) ⊎ Agree here there w → Agree (slice_set here v x) (slice_set there v x) w
set_agrees here there many v x within w (inl e) = subst (λ (k : ℕ). Agree (slice_set here v x) (slice_set there v x) k) (sym e) (set_agrees_there here there many v x within)
set_agrees here there many v x within w (inr e) = by (same_or_not w v)
  where
    by : (w ≡ v) ⊎ (w ≢ v) → Agree (slice_set here v x) (slice_set there v x) w
    by (inl same) = subst (λ (k : ℕ). Agree (slice_set here v x) (slice_set there v x) k) (sym same) (set_agrees_there here there many v x within)
    by (inr other) = get_set_other there v w x other ∙ e ∙ sym (get_set_other here v w x other)

module _ (i : Instr) (at : ℕ) (here there : List Val) (many : length there ≡ length here) where
  set_alike : (v : ℕ) (x : Val) (next : List Val) (turns : ℕ) → v < length here → IsIn (suc at) (next_of at i) → ((w : ℕ) → writes i ≡ Some w → w ≡ v)
      → GoAlike i at here there (frame (suc at) next (slice_set here v x) turns) (frame (suc at) next (slice_set there v x) turns)
  set_alike v x next turns within on only = record {
    both = record {
      at = refl;
      stack = refl;
      turns = refl;
      as_many = length_set there v x ∙ many ∙ sym (length_set here v x);
      kept = λ w e. set_agrees here there many v x within w (inr e);
    };
    next = on;
    written = λ w e. set_agrees here there many v x within w (inl (only w e));
  }

  pub stored : (v : ℕ) (x : Val) (next stack : List Val) (turns : ℕ) → IsIn (suc at) (next_of at i) → ((w : ℕ) → writes i ≡ Some w → w ≡ v) → steps.Same i at here there many (λ f. machine.stored v x next f) stack turns
  stored v x next stack turns on only =
      subst (λ (n : ℕ). DoAlike i at here there (machine.stored v x next (frame at stack here turns)) (if nat_lt v n then Some (Goes (frame (suc at) next (slice_set there v x) turns)) else None)) (sym many)
      (by (nat_lt v (length here)) refl)
    where
      by : (b : Bool) → nat_lt v (length here) ≡ b
          → DoAlike i at here there (if b then Some (Goes (frame (suc at) next (slice_set here v x) turns)) else None) (if b then Some (Goes (frame (suc at) next (slice_set there v x) turns)) else None)
      by true e = set_alike v x next turns (ltb-true v (length here) e) on only
      by false e = tt

  module _ (on : IsIn (suc at) (next_of at i)) (only : (w : ℕ) → writes i ≡ Some w → ⊥) where
    set_at : (v : ℕ) (longs : List ℤ) (index : Option ℕ) (x : ℤ) (next stack : List Val) (turns : ℕ) → steps.Same i at here there many (λ f. machine.set_at v longs index x next f) stack turns
    set_at v longs None x next stack turns = steps.stops i at here there many (Stopped (outcome.Throws exn.Index)) stack turns tt
    set_at v longs (Some k) x next stack turns = by (nat_lt k (length longs))
      where
        by : (b : Bool) → steps.Same i at here there many (λ f. if b then machine.stored v (val.Vector (slice_set longs k x)) next f else machine.throws exn.Index f) stack turns
        by true = stored v (val.Vector (slice_set longs k x)) next stack turns on (λ w e. absurd (only w e))
        by false = steps.stops i at here there many (Stopped (outcome.Throws exn.Index)) stack turns tt

    pub element_set : (v : ℕ) (o : Option Val) (index x : Val) (next stack : List Val) (turns : ℕ) → steps.Same i at here there many (λ f. machine.element_set v o index x next f) stack turns
    element_set v (Some (val.Vector longs)) (val.Int n) (val.Long x) next stack turns = set_at v longs (machine.at_index n) x next stack turns
    element_set v _ _ _ next stack turns = tt

-- ---- each instruction

module _ (s : Setting) (at : ℕ) (here there : List Val) (many : length there ≡ length here) (turns : ℕ) where
  -- what an instruction does at both frames, with this stack
  abbrev pub Alike : Instr → List Val → Type 0
  Alike i stack = DoAlike i at here there (perform_on s i stack (frame at stack here turns)) (perform_on s i stack (frame at stack there turns))

  store : (v : ℕ) (stack : List Val) → Alike (instr.Store v) stack
  store v [] = tt
  store v (x ∷ stack) = stored (instr.Store v) at here there many v x stack (x ∷ stack) turns (IsFirst []) (λ w e. sym (some_is v w e))

  pop : (stack : List Val) → Alike instr.Pop stack
  pop [] = tt
  pop (x ∷ stack) = steps.goes instr.Pop at here there many none_some (IsFirst []) stack (x ∷ stack) turns

  binary : (op : BinOp) (t : OperandType) (stack : List Val) → Alike (instr.Bin op t) stack
  binary op t [] = tt
  binary op t (b ∷ []) = tt
  binary op t (b ∷ a ∷ stack) = steps.answered (instr.Bin op t) at here there many none_some (IsFirst []) (machine.operated op t a b) stack (b ∷ a ∷ stack) turns

  unary : (op : UnOp) (stack : List Val) → Alike (instr.Un op) stack
  unary op [] = tt
  unary op (a ∷ stack) = steps.pushed (instr.Un op) at here there many none_some (IsFirst []) (unary_operation op a) stack (a ∷ stack) turns

  cast : (t : Num) (stack : List Val) → Alike (instr.Cast t) stack
  cast t [] = tt
  cast t (a ∷ stack) = steps.pushed (instr.Cast t) at here there many none_some (IsFirst []) (converted t a) stack (a ∷ stack) turns

  if_false : (to : ℕ) (stack : List Val) → Alike (instr.IfFalse to) stack
  if_false to (val.Bool true ∷ stack) = steps.goes (instr.IfFalse to) at here there many none_some (IsFirst (to ∷ [])) stack (val.Bool true ∷ stack) turns
  if_false to (val.Bool false ∷ stack) = steps.jumps (instr.IfFalse to) at here there many none_some to stack (val.Bool false ∷ stack) turns (IsLater (suc at) (to ∷ []) (IsFirst []))
  if_false to _ = tt

  new_vector : (stack : List Val) → Alike instr.NewVector stack
  new_vector [] = tt
  new_vector (n ∷ stack) = steps.new_vector instr.NewVector at here there many none_some (IsFirst []) n stack (n ∷ stack) turns

  vector_get : (v : ℕ) (stack : List Val) → Agree here there v → Alike (instr.VectorGet v) stack
  vector_get v [] e = tt
  vector_get v (i ∷ stack) e = steps.reading (instr.VectorGet v) at here there many v (λ o f. machine.element o i stack f) (i ∷ stack) turns e
      (λ o. steps.element (instr.VectorGet v) at here there many none_some (IsFirst []) o i stack (i ∷ stack) turns)

  vector_set : (v : ℕ) (stack : List Val) → Agree here there v → Alike (instr.VectorSet v) stack
  vector_set v [] e = tt
  vector_set v (x ∷ []) e = tt
  vector_set v (x ∷ i ∷ stack) e = steps.reading (instr.VectorSet v) at here there many v (λ o f. machine.element_set v o i x stack f) (x ∷ i ∷ stack) turns e
      (λ o. element_set (instr.VectorSet v) at here there many (IsFirst []) none_some v o i x stack (x ∷ i ∷ stack) turns)

  collection_item : (v : ℕ) (stack : List Val) → Alike (instr.CollectionItem v) stack
  collection_item v [] = tt
  collection_item v (i ∷ stack) = steps.member (instr.CollectionItem v) at here there many none_some (IsFirst []) s.gathered i stack (i ∷ stack) turns

  collection_size : (v : ℕ) (stack : List Val) → Alike (instr.CollectionSize v) stack
  collection_size v [] = tt
  collection_size v (i ∷ stack) = steps.with_member (instr.CollectionSize v) at here there many none_some (IsFirst []) s.gathered i (λ f x. machine.member_size stack f x) (i ∷ stack) turns
      (λ x. steps.pushed (instr.CollectionSize v) at here there many none_some (IsFirst []) (machine.size_of (Some x)) stack (i ∷ stack) turns)

  collection_check : (v : ℕ) (stack : List Val) → Alike (instr.CollectionCheck v) stack
  collection_check v [] = tt
  collection_check v (i ∷ stack) = steps.with_member (instr.CollectionCheck v) at here there many none_some (IsFirst []) s.gathered i (λ f x. machine.member_checked i stack f x) (i ∷ stack) turns
      (λ x. steps.goes (instr.CollectionCheck v) at here there many none_some (IsFirst []) (i ∷ stack) (i ∷ stack) turns)

  collection_get : (v : ℕ) (stack : List Val) → Alike (instr.CollectionGet v) stack
  collection_get v [] = tt
  collection_get v (j ∷ []) = tt
  collection_get v (j ∷ i ∷ stack) = steps.with_member (instr.CollectionGet v) at here there many none_some (IsFirst []) s.gathered i (λ f x. machine.member_element j stack f x) (j ∷ i ∷ stack) turns
      (λ x. steps.element (instr.CollectionGet v) at here there many none_some (IsFirst []) (Some x) j stack (j ∷ i ∷ stack) turns)

  return : (stack : List Val) → Alike instr.Return stack
  return [] = tt
  return (v ∷ stack) = steps.stops instr.Return at here there many (Returned v) (v ∷ stack) turns tt

  pub step : (i : Instr) (stack : List Val) → ((v : ℕ) → IsIn v (reads i) → Agree here there v) → Alike i stack
  step (instr.Int n) stack agreed = steps.goes (instr.Int n) at here there many none_some (IsFirst []) (val.Int n ∷ stack) stack turns
  step (instr.Long n) stack agreed = steps.goes (instr.Long n) at here there many none_some (IsFirst []) (val.Long n ∷ stack) stack turns
  step (instr.Bool b) stack agreed = steps.goes (instr.Bool b) at here there many none_some (IsFirst []) (val.Bool b ∷ stack) stack turns
  step (instr.Load v) stack agreed = steps.reading (instr.Load v) at here there many v (λ o f. machine.pushed o stack f) stack turns (agreed v (IsFirst []))
      (λ o. steps.pushed (instr.Load v) at here there many none_some (IsFirst []) o stack stack turns)
  step (instr.Store v) stack agreed = store v stack
  step instr.Pop stack agreed = pop stack
  step (instr.Bin op t) stack agreed = binary op t stack
  step (instr.Un op) stack agreed = unary op stack
  step (instr.Cast t) stack agreed = cast t stack
  step (instr.Jump to) stack agreed = steps.jumps (instr.Jump to) at here there many none_some to stack stack turns (IsFirst [])
  step (instr.IfFalse to) stack agreed = if_false to stack
  step instr.Turn stack agreed = steps.turned instr.Turn at here there many none_some (IsFirst []) turns stack turns
  step instr.NewVector stack agreed = new_vector stack
  step (instr.VectorSize v) stack agreed = steps.reading (instr.VectorSize v) at here there many v (λ o f. machine.pushed (machine.size_of o) stack f) stack turns (agreed v (IsFirst []))
      (λ o. steps.pushed (instr.VectorSize v) at here there many none_some (IsFirst []) (machine.size_of o) stack stack turns)
  step (instr.VectorGet v) stack agreed = vector_get v stack (agreed v (IsFirst []))
  step (instr.VectorSet v) stack agreed = vector_set v stack (agreed v (IsFirst []))
  step (instr.CollectionLength v) stack agreed = steps.goes (instr.CollectionLength v) at here there many none_some (IsFirst []) (val.Int (pos (length s.gathered)) ∷ stack) stack turns
  step (instr.CollectionItem v) stack agreed = collection_item v stack
  step (instr.CollectionSize v) stack agreed = collection_size v stack
  step (instr.CollectionCheck v) stack agreed = collection_check v stack
  step (instr.CollectionGet v) stack agreed = collection_get v stack
  step (instr.Call k) stack agreed = steps.call (instr.Call k) at here there many none_some (IsFirst []) s.calls k (slice_get s.methods k) stack stack turns
  step instr.Key stack agreed = steps.pushed instr.Key at here there many none_some (IsFirst []) (machine.key_value s.key) stack stack turns
  step (instr.Access name k) stack agreed = steps.access (instr.Access name k) at here there many none_some (IsFirst []) s name k stack stack turns
  step (instr.Cut t) stack agreed = steps.stops (instr.Cut t) at here there many (CutTo t) stack turns refl
  step (instr.Part t) stack agreed = steps.stops (instr.Part t) at here there many (PartFor t (machine.part_value stack)) stack turns refl
  step (instr.Merge k) stack agreed = steps.after_call (instr.Merge k) at here there many none_some (IsFirst []) (s.calls k (val.Unit ∷ []) s.gathered turns) stack stack turns
  step instr.Return stack agreed = return stack
  step instr.ReturnVoid stack agreed = steps.stops instr.ReturnVoid at here there many (Returned val.Unit) stack turns tt
