use Rattle.std.proofs.Common.{◌≡◌, drop}
use Rattle.java_flow.specs.Points.{seen}
use Rattle.java_flow.specs.Findings.{behind_params}
use Rattle.java_flow.proofs.walk.Walk.pass_params.Given as goal

abbrev pub invariant-loop-param : goal.invariant-loop-param
invariant-loop-param l = record {
  walked : behind_params (drop l.param-index l.params) (seen l.self) ≡ behind_params l.params (seen l.initial.self);
  same : l.self.numbers.now ≡ l.initial.self.numbers.now;
}
