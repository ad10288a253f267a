use Rattle.std.proofs.Common.{◌≡◌, drop}
use Rattle.sdg_keep.specs.Failing.{fail_of}
use Rattle.sdg_keep.proofs.failing.fail_at.Given as goal

abbrev pub invariant-loop-fail : goal.invariant-loop-fail
invariant-loop-fail l = fail_of (drop l.fail-index l.fail-items) l.number ≡ fail_of l.fails l.number
