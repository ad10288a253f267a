use Rattle.early_task_code.specs.declared.graph.Instr.TheVariants as instr
use Rattle.std.proofs.Common.{pos}
use Rattle.early_task_code.proofs.Running.{run_can}
use Rattle.early_task_code.proofs.run.run.Goals as goal

pub perform-requires : goal.perform-requires
perform-requires g c =
    run_can c.args.context.now c.args.code.now c.loop-at.at (instr.Int (pos 0)) c.loop-at.frame.stack c.loop-at.frame.vars c.loop-at.frame.turns (g.A.Access.held c.loop-at.state) _ c.loop-at.invariant c.requires c.loop-at-test.true
