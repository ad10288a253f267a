use Rattle.std.proofs.Common.{◌≡◌, drop}
use Rattle.java_flow.specs.Points.{seen}
use Rattle.java_flow.specs.Simples.{simples_from}
use Rattle.java_flow.proofs.walk.Walk.simples.Given as goal

abbrev pub invariant-loop-simple : goal.invariant-loop-simple
invariant-loop-simple l = record {
  walked : simples_from (drop l.simple-index l.all) (seen l.self) ≡ simples_from l.all (seen l.initial.self);
  same : l.self.numbers.now ≡ l.initial.self.numbers.now;
}
