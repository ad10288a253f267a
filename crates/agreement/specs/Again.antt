-- A history fixes its run.
use Rattle.std.specs.Prelude.{◌≡◌, ℕ, List, map, length, replicate}
use Rattle.sdg_base.specs.declared.val.Outcome.{Outcome}
use Rattle.placement.specs.declared.event.Event.{Event}
use Rattle.placement.specs.declared.event.Event.TheVariants as event
use Rattle.placement.specs.declared.event.Word.TheVariants as word
use Rattle.cluster.specs.History.{Setup, Happening, Took}
use Rattle.cluster.specs.World.{World, first_world, after_events, words_of, world_of, results_of}
use Rattle.agreement.specs.Results.{HasResult}

-- the event that takes what was taken
abbrev pub take_again : Happening → Event
take_again (Took e) = event.Take e.cell e.from e.pick

-- one for each entry of a history, in its order
abbrev pub takes_of : List Happening → List Event
takes_of hist = map take_again hist

-- The events that take what a run took are all done and lead to the same history; the run to completion adds nothing to it, and commits the same results and no others.
pub record RunsAgain (s : Setup) (w : World) : Type 0 where
  pub done : words_of s first_world (takes_of w.hist) ≡ replicate (length w.hist) word.Done
  pub history : (after_events s first_world (takes_of w.hist)).hist ≡ w.hist
  pub stays : (world_of s (takes_of w.hist)).hist ≡ w.hist
  pub results : (c : ℕ) (how : Outcome) → HasResult c how (results_of s w) → HasResult c how (results_of s (world_of s (takes_of w.hist)))
  pub no_others : (c : ℕ) (how : Outcome) → HasResult c how (results_of s (world_of s (takes_of w.hist))) → HasResult c how (results_of s w)
