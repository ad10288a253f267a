-- What a run's results and history are to be: one result for each call, and a legal history of the source that gives them.
use Rattle.std.specs.Prelude.{◌≡◌, ◌≢◌, ℕ, ◌+◌, ◌<◌, ◌≤◌, ◌⊎◌, List, [], ◌∷◌, length, None}
use Rattle.std.specs.List.{AllByRecursion}
use Rattle.sdg_base.specs.declared.val.Outcome.{Outcome}
use Rattle.placement.specs.declared.event.Event.{Event}
use Rattle.placement.specs.declared.event.Event.TheVariants as event
use Rattle.java_tree.specs.declared.tree.Class.{Class}
use Rattle.early_source.specs.Source.{Explains}
use Rattle.cluster.specs.History.{Setup, IsCell, steps_of}
use Rattle.cluster.specs.World.{World, last_step, offers, lowest, results_of, most_events}

abbrev pub Results : Type 0
Results = List (ℕ × Outcome)

-- a call ended so
abbrev pub HasResult : ℕ → Outcome → Results → Type 0
HasResult c how [] = ⊥
HasResult c how (r ∷ results) = ((c, how) ≡ r) ⊎ HasResult c how results

-- no call has two results
abbrev pub AreOnce : Results → Type 0
AreOnce [] = Unit {0}
AreOnce (r ∷ results) = AllByRecursion (λ q. q.0 ≢ r.0) results × AreOnce results

-- Each of so many calls, by number from 1, has a result, and no call has two.
pub record AreOneEach (calls : ℕ) (results : Results) : Type 0 where
  pub each : (c : ℕ) → 1 ≤ c → c ≤ calls → (how : Outcome) × HasResult c how results
  pub once : AreOnce results
  pub only : AllByRecursion (λ r. (1 ≤ r.0) × (r.0 ≤ calls)) results

-- The history is legal for the source, the results are its outcomes, each call has one, and the run went to completion.
pub record RunAgrees (class : Class) (s : Setup) (w : World) : Type 0 where
  pub explained : Explains class s.calls (steps_of w.hist) (results_of s w)
  pub one_each : AreOneEach (length s.calls) (results_of s w)
  pub nothing_left : lowest (offers s w) ≡ None

-- an event whose receiver is a cell
abbrev pub IsForCell : Event → Type 0
IsForCell (event.Take to from pick) = IsCell to
IsForCell (event.Sink from) = Unit {0}

-- Step numbers are enough for these events and the run to completion.
abbrev pub AreEnoughSteps : Setup → List Event → Type 0
AreEnoughSteps s events = length events + 1 + most_events s < last_step
