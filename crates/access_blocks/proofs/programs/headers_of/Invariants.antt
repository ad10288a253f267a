use Rattle.std.proofs.Common.{◌≡◌, ◌++◌, drop, map}
use Rattle.access_blocks.specs.Programs as spec
use Rattle.access_blocks.proofs.programs.headers_of.Given as goal

abbrev pub invariant-loop-member : goal.invariant-loop-member
invariant-loop-member l = l.all ++ map spec.header_of (spec.methods_in (drop l.member-index l.members)) ≡ map spec.header_of (spec.methods_in l.members)
