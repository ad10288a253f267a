-- Histories in which calls don't interleave.
use Rattle.std.specs.Prelude.{◌≤◌, ℕ, List, [], ◌∷◌}
use Rattle.std.specs.List.{AllByRecursion}
use Rattle.sdg_base.specs.declared.call.Step.{Step}
use Rattle.sdg_base.specs.declared.call.Step.TheVariants.{Begin, Block, Visit, Join, Grow}

-- The step is of no call before this one.
abbrev pub IsNotEarlier : ℕ → Step → Type 0
IsNotEarlier c (Begin d) = c ≤ d
IsNotEarlier c (Block d instance) = c ≤ d
IsNotEarlier c (Visit d instance) = c ≤ d
IsNotEarlier c (Join d) = c ≤ d
IsNotEarlier c (Grow field) = Unit {0}

-- Each call begins after all steps of the calls before it.
abbrev pub IsSerial : List Step → Type 0
IsSerial [] = Unit {0}
IsSerial (Begin c ∷ steps) = AllByRecursion (IsNotEarlier c) steps × IsSerial steps
IsSerial (s ∷ steps) = IsSerial steps
