-- A loop is entered where its start or its update completed normally alone.
use Rattle.std.proofs.Common.{◌≡◌, List, refl}
use Rattle.access_blocks.specs.Source as source
use Rattle.access_blocks.specs.Statements.{Machine}
use Rattle.body_run.specs.declared.completion.Completion.{Completion}
use Rattle.body_run.specs.declared.completion.Completion.TheVariants as completion
use Rattle.body_run.specs.Seen.{completion_of}

pub not_entered : (c : Completion) (m : Machine) (loop : source.Frame) (frames : List source.Frame) → (c ≡ completion.Normal → ⊥)
    → source.entering (completion_of c) m loop frames ≡ source.completing (completion_of c) m frames
not_entered completion.Normal m loop frames h = absurd (h refl)
not_entered completion.Breaks m loop frames h = refl
not_entered completion.Continues m loop frames h = refl
not_entered (completion.Returns v) m loop frames h = refl
not_entered (completion.Halts halt) m loop frames h = refl
