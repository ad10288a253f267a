use Rattle.std.proofs.Common.{◌≡◌, ◌≤◌, ◌⊎◌, length}
use Rattle.run_text.proofs.Fronts.{Behind}
use Rattle.run_text.proofs.line.lines_before.Given as goal

-- so many lines stand before the rest
abbrev pub invariant-loop-number : goal.invariant-loop-number
invariant-loop-number l = record {
  behind : Behind l.bytes l.rest l.number;
  upto : (l.number ≡ 1) ⊎ (l.number ≤ l.line);
}

abbrev pub decreases-loop-number : goal.decreases-loop-number
decreases-loop-number l = length l.rest
