-- How much a run keeps.
use Rattle.std.specs.Prelude.{◌≡◌, length}
use Rattle.cluster.specs.History.{Setup, steps_of}
use Rattle.cluster.specs.World.{World, kept}

-- After a run an item is kept for each step of its history.
abbrev pub KeepsItsSteps : Setup → World → Type 0
KeepsItsSteps s w = kept s w ≡ length (steps_of w.hist)
