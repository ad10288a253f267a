use Rattle.std.proofs.Common.{◌≡◌, [], drop, fold}
use Rattle.access_blocks.specs.Cursors.{read}
use Rattle.access_blocks.specs.Programs as spec
use Rattle.access_blocks.proofs.programs.bodies.Given as goal

abbrev pub invariant-loop-member : goal.invariant-loop-member
invariant-loop-member l = fold (spec.with_method l.scope) (read l.all l.cursor) (spec.methods_in (drop l.member-index l.members)) ≡ fold (spec.with_method l.scope) (read [] l.initial.cursor) (spec.methods_in l.members)
