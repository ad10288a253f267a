use Rattle.std.proofs.Common.{◌≡◌, drop}
use Rattle.java_flow.specs.Points.{seen}
use Rattle.java_flow.specs.Findings.{members_walk}
use Rattle.java_flow.proofs.walk.Walk.members.Given as goal

abbrev pub invariant-loop-member : goal.invariant-loop-member
invariant-loop-member l = record {
  walked : members_walk (drop l.member-index l.members) (seen l.self) ≡ members_walk l.members (seen l.initial.self);
  same : l.self.numbers.now ≡ l.initial.self.numbers.now;
}
