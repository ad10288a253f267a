use Rattle.std.proofs.Common.{◌≡◌, ◌==◌, ◌++◌, length, map}
use Rattle.std.specs.List.{slice_split}
use Rattle.std.specs.Fmt.{signed_decimal}
use Rattle.run_text.specs.Values.{FitVector}
use Rattle.run_text.proofs.value.elements_of.Given as goal

-- the elements so far are written in front of the rest
abbrev pub invariant-loop-n : goal.invariant-loop-n
invariant-loop-n l = record {
  fit : FitVector l.elements;
  told : map signed_decimal l.elements ++ slice_split (λ b. b == 44) l.rest ≡ slice_split (λ b. b == 44) l.bytes;
}

abbrev pub decreases-loop-n : goal.decreases-loop-n
decreases-loop-n l = length l.rest
