use Rattle.std.proofs.Common.{◌≡◌, take, fold}
use Rattle.annotations.specs.Members as spec
use Rattle.annotations.proofs.members.pass_head.Given as goal

abbrev pub invariant-loop-import : goal.invariant-loop-import
invariant-loop-import l = l.walk ≡ fold (spec.past_import l.env) l.initial.walk (take l.import-index l.import-items)
