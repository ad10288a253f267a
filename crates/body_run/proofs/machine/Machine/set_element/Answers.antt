use Rattle.std.proofs.Common.{arith}
use Rattle.std.proofs.lemmas.Grind.{common_steps}
use Rattle.body_run.specs.Seen.{machine_of}
use Rattle.body_run.proofs.Parts.{not_set}
use Rattle.body_run.proofs.machine.Machine.set_element.Goals as goal

pub returns-else-set_long : goal.returns-else-set_long
returns-else-set_long c =
    not_set (machine_of c.args.self.now) c.args.variable c.args.index.now c.args.element.now c.index_mut.result.now c.set_long.new.vector (omega arith) c.index_mut.ensures.value
    (c.set_long.ensures.unset c.if-set_long.false) (grind (arith, common_steps, c.set_long.ensures.set, c.if-set_long.false))
