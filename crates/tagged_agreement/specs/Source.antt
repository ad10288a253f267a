-- An annotated source, step by step, over any program: calls that pass from mark to mark, and the fields that they share.
use Rattle.std.specs.Prelude.{ℕ, ℤ, zero, suc, ◌&&◌, nat_lt, Bool, if◌then◌else◌, List, [], ◌∷◌, map, replicate, Option, Some, None, slice_get, slice_set}
use Rattle.sdg_base.specs.declared.val.Outcome.{Outcome}
use Rattle.sdg_base.specs.declared.call.Call.{Call}
use Rattle.sdg_base.specs.declared.call.Step.{Step}
use Rattle.sdg_base.specs.declared.call.Step.TheVariants as step
use Rattle.tagged_agreement.specs.History.{most_wide}

-- what a mark stands before: an access to a key, to one instance of a partial field, or to all its instances
pub data Site : Type 0 where
  Keyed : (field : ℕ) (key : ℤ) → Site
  Local : (field : ℕ) → Site
  Global : (field : ℕ) → Site

-- where a call stands after a step
pub data Next (Waiting : Type 0) : Type 0 where
  AtMark : Waiting → Next Waiting
  AtEnd : Outcome → Next Waiting

-- A call that hasn't begun, one that waits at a mark, one that visits as many instances as its field had at the mark, with the outcomes so far,
-- and one that has ended.
pub data CallState (Waiting : Type 0) : Type 0 where
  Fresh : CallState Waiting
  At : Waiting → CallState Waiting
  Visiting : Waiting → List (Option Outcome) → CallState Waiting
  Ended : Outcome → CallState Waiting

-- What a class says of its calls. No step is refused here: the ones that are not a call's next are never asked for.
pub record Program (Waiting Fields : Type 0) : Type 0 where
  pub first : Fields
  pub width : Fields → ℕ → ℕ
  pub is_partial : ℕ → Bool
  pub begun : Call → Next Waiting
  pub site : Waiting → Site
  pub block : Waiting → Option ℕ → Fields → Next Waiting × Fields
  pub visit : Waiting → ℕ → Fields → Outcome × Fields
  pub joined : Waiting → List Outcome → Next Waiting
  pub grown : ℕ → Fields → Fields

pub record Source (Waiting Fields : Type 0) : Type 0 where
  pub fields : Fields
  pub calls : List (CallState Waiting)

abbrev pub start : {Waiting Fields : Type 0} → Program Waiting Fields → List Call → Source Waiting Fields
start p calls = record { fields = p.first; calls = map (λ _. Fresh) calls }

-- calls count from 1
abbrev pub nth : {A : Type 0} → List A → ℕ → Option A
nth xs zero = None
nth xs (suc n) = slice_get xs n

abbrev pub with_state : {Waiting : Type 0} → ℕ → CallState Waiting → List (CallState Waiting) → List (CallState Waiting)
with_state zero state calls = calls
with_state (suc n) state calls = slice_set calls n state

-- ---- where a step leads

-- at a mark before a global access no instance is visited yet
abbrev pub at_mark : {Waiting : Type 0} → (ℕ → ℕ) → Waiting → Site → CallState Waiting
at_mark widths w (Keyed field key) = At w
at_mark widths w (Local field) = At w
at_mark widths w (Global field) = Visiting w (replicate (widths field) None)

abbrev pub state_of : {Waiting Fields : Type 0} → Program Waiting Fields → (ℕ → ℕ) → Next Waiting → CallState Waiting
state_of p widths (AtMark w) = at_mark widths w (p.site w)
state_of p widths (AtEnd outcome) = Ended outcome

abbrev pub with_call : {Waiting Fields : Type 0} → Source Waiting Fields → ℕ → CallState Waiting → Fields → Source Waiting Fields
with_call now c state fields = record { fields = fields; calls = with_state c state now.calls }

abbrev pub moved : {Waiting Fields : Type 0} → Program Waiting Fields → Source Waiting Fields → ℕ → Next Waiting × Fields → Source Waiting Fields
moved p now c to = with_call now c (state_of p (p.width to.1) to.0) to.1

-- the outcomes, where every instance was visited
abbrev pub cons_some : Option Outcome → Option (List Outcome) → Option (List Outcome)
cons_some (Some outcome) (Some outcomes) = Some (outcome ∷ outcomes)
cons_some _ _ = None

abbrev pub all_there : List (Option Outcome) → Option (List Outcome)
all_there [] = Some []
all_there (o ∷ visited) = cons_some o (all_there visited)

-- ---- steps; None where the step isn't the next one of its call

abbrev pub begins : {Waiting Fields : Type 0} → Program Waiting Fields → Source Waiting Fields → ℕ → Option (CallState Waiting) → Option Call → Option (Source Waiting Fields)
begins p now c (Some Fresh) (Some call) = Some (moved p now c (p.begun call, now.fields))
begins p now c _ _ = None

-- a keyed access names no instance, and a local one an instance that there is
abbrev pub may_block : (ℕ → ℕ) → Option ℕ → Site → Bool
may_block widths None (Keyed field key) = nat_lt 0 1
may_block widths (Some number) (Local field) = nat_lt number (widths field)
may_block widths _ _ = nat_lt 1 0

abbrev pub goes_on : {Waiting Fields : Type 0} → Program Waiting Fields → Source Waiting Fields → ℕ → Option ℕ → Option (CallState Waiting) → Option (Source Waiting Fields)
goes_on p now c instance (Some (At w)) = if may_block (p.width now.fields) instance (p.site w) then Some (moved p now c (p.block w instance now.fields)) else None
goes_on p now c instance _ = None

-- an instance below the width at the mark, once
abbrev pub visit_at : {Waiting Fields : Type 0} → Program Waiting Fields → Source Waiting Fields → ℕ → ℕ → Waiting → List (Option Outcome) → Option (Option Outcome) → Option (Source Waiting Fields)
visit_at p now c number w visited (Some None) =
    Some (with_call now c (Visiting w (slice_set visited number (Some (p.visit w number now.fields).0))) (p.visit w number now.fields).1)
visit_at p now c number w visited _ = None

abbrev pub visits : {Waiting Fields : Type 0} → Program Waiting Fields → Source Waiting Fields → ℕ → ℕ → Option (CallState Waiting) → Option (Source Waiting Fields)
visits p now c number (Some (Visiting w visited)) = visit_at p now c number w visited (slice_get visited number)
visits p now c number _ = None

abbrev pub join_with : {Waiting Fields : Type 0} → Program Waiting Fields → Source Waiting Fields → ℕ → Waiting → Option (List Outcome) → Option (Source Waiting Fields)
join_with p now c w (Some outcomes) = Some (moved p now c (p.joined w outcomes, now.fields))
join_with p now c w None = None

abbrev pub joins : {Waiting Fields : Type 0} → Program Waiting Fields → Source Waiting Fields → ℕ → Option (CallState Waiting) → Option (Source Waiting Fields)
joins p now c (Some (Visiting w visited)) = join_with p now c w (all_there visited)
joins p now c _ = None

abbrev pub grows : {Waiting Fields : Type 0} → Program Waiting Fields → Source Waiting Fields → ℕ → Option (Source Waiting Fields)
grows p now field =
    if p.is_partial field && nat_lt (p.width now.fields field) most_wide
    then Some (record { fields = p.grown field now.fields; calls = now.calls })
    else None

abbrev pub step_of : {Waiting Fields : Type 0} → Program Waiting Fields → List Call → Source Waiting Fields → Step → Option (Source Waiting Fields)
step_of p calls now (step.Begin c) = begins p now c (nth now.calls c) (nth calls c)
step_of p calls now (step.Block c instance) = goes_on p now c instance (nth now.calls c)
step_of p calls now (step.Visit c number) = visits p now c number (nth now.calls c)
step_of p calls now (step.Join c) = joins p now c (nth now.calls c)
step_of p calls now (step.Grow field) = grows p now field

abbrev pub step_from : {Waiting Fields : Type 0} → Program Waiting Fields → List Call → Option (Source Waiting Fields) → Step → Option (Source Waiting Fields)
step_from p calls None s = None
step_from p calls (Some now) s = step_of p calls now s

abbrev pub steps_after : {Waiting Fields : Type 0} → Program Waiting Fields → List Call → Option (Source Waiting Fields) → List Step → Option (Source Waiting Fields)
steps_after p calls now [] = now
steps_after p calls now (s ∷ steps) = steps_after p calls (step_from p calls now s) steps

-- None where a step is illegal
abbrev pub source : {Waiting Fields : Type 0} → Program Waiting Fields → List Call → List Step → Option (Source Waiting Fields)
source p calls steps = steps_after p calls (Some (start p calls)) steps

abbrev pub outcome_in : {Waiting : Type 0} → Option (CallState Waiting) → Option Outcome
outcome_in (Some (Ended outcome)) = Some outcome
outcome_in _ = None

-- how a call ended, if it has
abbrev pub outcome : {Waiting Fields : Type 0} → Source Waiting Fields → ℕ → Option Outcome
outcome now c = outcome_in (nth now.calls c)
