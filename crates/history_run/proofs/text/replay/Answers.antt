use Rattle.std.proofs.Common.{arith}
use Rattle.std.specs.Str.Lines.{lines}
use Rattle.history_run.proofs.Causes.{complete, illegal, broken}
use Rattle.history_run.proofs.text.replay.Goals as goal

pub returns-clause-complete : goal.returns-clause-complete
returns-clause-complete c = λ replayed is. complete c.args.program.now c.args.calls.now c.args.fields.now (lines c.args.bytes.now) (omega arith) c.answer.result replayed c.answer.ensures is

pub returns-clause-illegal : goal.returns-clause-illegal
returns-clause-illegal c = λ line is. illegal c.args.program.now c.args.calls.now c.args.fields.now (lines c.args.bytes.now) (omega arith) c.answer.result line c.answer.ensures is

pub returns-clause-broken : goal.returns-clause-broken
returns-clause-broken c = λ line rule is. broken c.args.program.now c.args.calls.now c.args.fields.now (lines c.args.bytes.now) (omega arith) c.answer.result line rule c.answer.ensures is
