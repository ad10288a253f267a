use Rattle.sdg_top.proofs.Entering.{NamedSoFar}
use Rattle.sdg_top.proofs.called.fields_of.Given as goal

abbrev pub invariant-loop-member : goal.invariant-loop-member
invariant-loop-member l = NamedSoFar l.member-items l.member-index l.fields.items
