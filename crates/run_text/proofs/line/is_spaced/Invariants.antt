use Rattle.std.proofs.Common.{◌<◌, ◌↔◌, length}
use Rattle.std.specs.List.{AllByRecursion}
use Rattle.run_text.specs.Lines.{words}
use Rattle.run_text.proofs.line.is_spaced.Given as goal

-- the line is well spaced where its rest is
abbrev pub invariant-loop-later : goal.invariant-loop-later
invariant-loop-later l = AllByRecursion (λ word. 0 < length word) (words l.line) ↔ AllByRecursion (λ word. 0 < length word) (words l.rest)

abbrev pub decreases-loop-later : goal.decreases-loop-later
decreases-loop-later l = length l.rest
