use Rattle.std.proofs.Common.{◌≡◌, drop}
use Rattle.java_flow.specs.Points.{seen}
use Rattle.java_flow.specs.Findings.{behind_imports}
use Rattle.java_flow.proofs.walk.Walk.pass_imports.Given as goal

abbrev pub invariant-loop-import : goal.invariant-loop-import
invariant-loop-import l = record {
  walked : behind_imports (drop l.import-index l.imports) (seen l.self) ≡ behind_imports l.imports (seen l.initial.self);
  same : l.self.numbers.now ≡ l.initial.self.numbers.now;
}
