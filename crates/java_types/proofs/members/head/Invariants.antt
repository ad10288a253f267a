use Rattle.std.proofs.Common.{◌≡◌, take, fold}
use Rattle.java_types.specs.Members as spec
use Rattle.java_types.proofs.members.head.Given as goal

abbrev pub invariant-loop-import : goal.invariant-loop-import
invariant-loop-import l = l.walk ≡ fold (spec.past_import l.env) l.initial.walk (take l.import-index l.import-items)
