-- What a legal step does to the source, and what it leaves.
use Rattle.std.proofs.Common.{◌≡◌, ◌≢◌, ◌<◌, ℕ, zero, suc, List, [], ◌∷◌, Option, Some, None, slice_get, slice_set, sym, ◌∙◌, ap, subst, refl, arith}
use Rattle.std.specs.List.{AllByRecursion}
use Rattle.std.proofs.lemmas.Option.{none-some, same_Some}
use Rattle.sdg_base.specs.declared.val.Outcome.{Outcome}
use Rattle.sdg_base.specs.declared.call.Call.{Call}
use Rattle.sdg_base.specs.declared.call.Step.{Step}
use Rattle.sdg_base.specs.declared.call.Step.TheVariants.{Begin, Block}
use Rattle.java_tree.specs.declared.tree.Class.{Class}
use Rattle.early_source.specs.Variables.{Tables}
use Rattle.early_source.specs.Members.{fields, methods}
use Rattle.early_source.specs.Blocks.{Place, Stop, run_block}
use Rattle.early_source.specs.Source.{CallState, Fresh, At, Ended, Source, state_of, moved, begun, begins, goes_on, step, steps_from}
use Rattle.early_source.specs.Serial.{IsNotEarlier}
use Rattle.early_plain.proofs.Seams.{slice_get-set_other}

-- the block of a call that waits at a mark
abbrev pub block_of : List (List ℕ) → Tables → CallState → Stop
block_of fields tables (At rest variables turns key) = run_block fields rest variables turns key tables
block_of fields tables _ = None

-- the source once a call, counted from 0, has come to this place
abbrev pub come_to : Source → ℕ → Place → Tables → Source
come_to now n place tables = record { tables = tables; calls = slice_set now.calls n (state_of place) }

-- A legal step begins a call, or goes on with one.
pub data Steps (class : Class) (calls : List Call) (now : Source) : Step → Source → Type 0 where
  Begins : (n : ℕ) (call : Call) (place : Place) (tables : Tables)
      → slice_get now.calls n ≡ Some Fresh
      → slice_get calls n ≡ Some call
      → begun class (slice_get (methods class) call.method) call.args now.tables ≡ Some (place, tables)
      → Steps class calls now (Begin (suc n)) (come_to now n place tables)
  GoesOn : (n : ℕ) (state : CallState) (place : Place) (tables : Tables)
      → slice_get now.calls n ≡ Some state
      → block_of (fields class) now.tables state ≡ Some (place, tables)
      → Steps class calls now (Block (suc n) None) (come_to now n place tables)

module _ (class : Class) (calls : List Call) (now : Source) where
  begins-moved : (n : ℕ) (call : Call) (stop : Stop) (later : Source) → slice_get now.calls n ≡ Some Fresh → slice_get calls n ≡ Some call
      → begun class (slice_get (methods class) call.method) call.args now.tables ≡ stop → moved now (suc n) stop ≡ Some later → Steps class calls now (Begin (suc n)) later
  begins-moved n call None later is_fresh is_call runs is = absurd (none-some later is)
  begins-moved n call (Some r) later is_fresh is_call runs is =
      subst (Steps class calls now (Begin (suc n))) (same_Some (come_to now n r.0 r.1) later is) (Begins n call r.0 r.1 is_fresh is_call runs)

  begins-is : (n : ℕ) (state : Option CallState) (call : Option Call) (later : Source) → slice_get now.calls n ≡ state → slice_get calls n ≡ call
      → begins class now (suc n) state call ≡ Some later → Steps class calls now (Begin (suc n)) later
  begins-is n None call later is_state is_call is = absurd (none-some later is)
  begins-is n (Some Fresh) None later is_state is_call is = absurd (none-some later is)
  begins-is n (Some Fresh) (Some call) later is_state is_call is =
      begins-moved n call (begun class (slice_get (methods class) call.method) call.args now.tables) later is_state is_call refl is
  begins-is n (Some _) call later is_state is_call is = absurd (none-some later is)

  goes_on-moved : (n : ℕ) (state : CallState) (stop : Stop) (later : Source) → slice_get now.calls n ≡ Some state
      → block_of (fields class) now.tables state ≡ stop → moved now (suc n) stop ≡ Some later → Steps class calls now (Block (suc n) None) later
  goes_on-moved n state None later is_state runs is = absurd (none-some later is)
  goes_on-moved n state (Some r) later is_state runs is =
      subst (Steps class calls now (Block (suc n) None)) (same_Some (come_to now n r.0 r.1) later is) (GoesOn n state r.0 r.1 is_state runs)

  goes_on-is : (n : ℕ) (state : Option CallState) (later : Source) → slice_get now.calls n ≡ state → goes_on class now (suc n) state ≡ Some later → Steps class calls now (Block (suc n) None) later
  goes_on-is n (Some (At rest variables turns key)) later is_state is =
      goes_on-moved n (At rest variables turns key) (run_block (fields class) rest variables turns key now.tables) later is_state refl is
  goes_on-is n _ later is_state is = absurd (none-some later is)

  step-is : (s : Step) (later : Source) → step class calls now s ≡ Some later → Steps class calls now s later
  step-is (Begin zero) later is = absurd (none-some later is)
  step-is (Begin (suc n)) later is = begins-is n (slice_get now.calls n) (slice_get calls n) later refl refl is
  step-is (Block zero None) later is = absurd (none-some later is)
  step-is (Block (suc n) None) later is = goes_on-is n (slice_get now.calls n) later refl is
  step-is _ later is = absurd (none-some later is)

steps_from-none : (class : Class) (calls : List Call) (steps : List Step) → steps_from class calls None steps ≡ None
steps_from-none class calls [] = refl
steps_from-none class calls (s ∷ steps) = steps_from-none class calls steps

-- A legal history is a legal step and then a legal history.
pub record Legal (class : Class) (calls : List Call) (now : Source) (s : Step) (steps : List Step) (end : Source) : Type 0 where
  pub later : Source
  pub steps_to : Steps class calls now s later
  pub legal : steps_from class calls (Some later) steps ≡ Some end

legal-later : (class : Class) (calls : List Call) (now : Source) (s : Step) (steps : List Step) (end : Source) (later : Option Source)
    → step class calls now s ≡ later → steps_from class calls later steps ≡ Some end → Legal class calls now s steps end
legal-later class calls now s steps end None is legal = absurd (none-some end (sym (steps_from-none class calls steps) ∙ legal))
legal-later class calls now s steps end (Some later) is legal = record { later = later; steps_to = step-is class calls now s later is; legal = legal }

pub legal : (class : Class) (calls : List Call) (now : Source) (s : Step) (steps : List Step) (end : Source) → steps_from class calls (Some now) (s ∷ steps) ≡ Some end
    → Legal class calls now s steps end
legal class calls now s steps end is = legal-later class calls now s steps end (step class calls now s) refl is

-- ---- what a step leaves

-- Steps of later calls leave a call as it is.
step_leaves : (class : Class) (calls : List Call) (now : Source) (s : Step) (later : Source) (c i : ℕ) → Steps class calls now s later → IsNotEarlier c s → suc i < c
    → slice_get later.calls i ≡ slice_get now.calls i
step_leaves class calls now s later c i (Begins n call place tables is_fresh is_call runs) not_earlier l = slice_get-set_other now.calls n i (state_of place) (λ e. omega arith)
step_leaves class calls now s later c i (GoesOn n state place tables is_state runs) not_earlier l = slice_get-set_other now.calls n i (state_of place) (λ e. omega arith)

pub steps_leave : (class : Class) (calls : List Call) (steps : List Step) (now end : Source) (c i : ℕ) → steps_from class calls (Some now) steps ≡ Some end
    → AllByRecursion (IsNotEarlier c) steps → suc i < c → slice_get end.calls i ≡ slice_get now.calls i
steps_leave class calls [] now end c i is not_earlier l = ap (λ (x : Source). slice_get x.calls i) (sym (same_Some now end is))
steps_leave class calls (s ∷ steps) now end c i is not_earlier l =
    let first = legal class calls now s steps end is in
    steps_leave class calls steps first.later end c i first.legal not_earlier.1 l ∙ step_leaves class calls now s first.later c i first.steps_to not_earlier.0 l

-- No step changes how a call ended.
abbrev pub IsEnded : CallState → Type 0
IsEnded (Ended end) = Unit {0}
IsEnded _ = ⊥

-- A call that goes on hasn't ended.
pub goes_on-not_ended : (names : List (List ℕ)) (tables : Tables) (state : CallState) (r : Place × Tables) → block_of names tables state ≡ Some r → IsEnded state → ⊥
goes_on-not_ended names tables (Ended end) r runs ended = none-some r runs
goes_on-not_ended names tables _ r runs ended = ended

set_keeps_end : (states : List CallState) (n i : ℕ) (state new : CallState) (end : Outcome) → slice_get states n ≡ Some state → (IsEnded state → ⊥) → slice_get states i ≡ Some (Ended end)
    → slice_get (slice_set states n new) i ≡ Some (Ended end)
set_keeps_end states n i state new end is_state not_ended is =
    let other : i ≢ n = λ e. not_ended (subst IsEnded (same_Some (Ended end) state (sym is ∙ ap (slice_get states) e ∙ is_state)) tt) in
    slice_get-set_other states n i new other ∙ is

step_keeps_end : (class : Class) (calls : List Call) (now : Source) (s : Step) (later : Source) (i : ℕ) (end : Outcome) → Steps class calls now s later
    → slice_get now.calls i ≡ Some (Ended end) → slice_get later.calls i ≡ Some (Ended end)
step_keeps_end class calls now s later i end (Begins n call place tables is_fresh is_call runs) is = set_keeps_end now.calls n i Fresh (state_of place) end is_fresh (λ ended. ended) is
step_keeps_end class calls now s later i end (GoesOn n state place tables is_state runs) is =
    set_keeps_end now.calls n i state (state_of place) end is_state (goes_on-not_ended (fields class) now.tables state (place, tables) runs) is

pub steps_keep_end : (class : Class) (calls : List Call) (steps : List Step) (now last : Source) (i : ℕ) (end : Outcome) → steps_from class calls (Some now) steps ≡ Some last
    → slice_get now.calls i ≡ Some (Ended end) → slice_get last.calls i ≡ Some (Ended end)
steps_keep_end class calls [] now last i end legal_steps is = ap (λ (x : Source). slice_get x.calls i) (sym (same_Some now last legal_steps)) ∙ is
steps_keep_end class calls (s ∷ steps) now last i end legal_steps is =
    let first = legal class calls now s steps last legal_steps in
    steps_keep_end class calls steps first.later last i end first.legal (step_keeps_end class calls now s first.later i end first.steps_to is)
