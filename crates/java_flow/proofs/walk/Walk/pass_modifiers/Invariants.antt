use Rattle.std.proofs.Common.{◌≡◌, drop}
use Rattle.java_flow.specs.Points.{seen}
use Rattle.java_flow.specs.Findings.{behind_modifiers}
use Rattle.java_flow.proofs.walk.Walk.pass_modifiers.Given as goal

abbrev pub invariant-loop-modifier : goal.invariant-loop-modifier
invariant-loop-modifier l = record {
  walked : behind_modifiers (drop l.modifier-index l.modifiers) (seen l.self) ≡ behind_modifiers l.modifiers (seen l.initial.self);
  same : l.self.numbers.now ≡ l.initial.self.numbers.now;
}
