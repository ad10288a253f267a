use Rattle.std.proofs.Common.{arith}
use Rattle.std.proofs.lemmas.Result.{on_ok_weaker}
use Rattle.body_run.specs.Seen.{machine_of}
use Rattle.body_run.proofs.Parts.{made, no_field}
use Rattle.body_run.proofs.machine.Machine.answer.Goals as goal

pub returns-then-field-len-clause-state : goal.returns-then-field-len-clause-state
returns-then-field-len-clause-state c =
    on_ok_weaker c.call.result (made _ (machine_of c.args.self.now) c.args.field c.index_mut.result.now c.call.new.self (omega arith) c.index_mut.ensures.value) c.call.ensures.state

pub returns-else-field-len-clause-outcome : goal.returns-else-field-len-clause-outcome
returns-else-field-len-clause-outcome c = no_field _ c.args.self.now.fields.items c.args.field c.args.self.now.instance (omega arith)
