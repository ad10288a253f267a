use Rattle.std.proofs.Common.{◌≡◌, map, drop}
use Rattle.java_flow.specs.Points.{seen}
use Rattle.java_flow.specs.Expressions.{value_walk, each_walk}
use Rattle.java_flow.proofs.walk.Walk.+expressions.Given as goal

abbrev pub invariant-args-loop-arg : goal.invariant-args-loop-arg
invariant-args-loop-arg l = record {
  walked : each_walk (map value_walk (drop l.arg-index l.args)) l.cut (seen l.self) ≡ each_walk (map value_walk l.args) l.cut (seen l.initial.self);
  same : l.self.numbers.now ≡ l.initial.self.numbers.now;
}
