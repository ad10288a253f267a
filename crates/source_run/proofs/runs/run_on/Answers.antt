use Rattle.std.proofs.Common.{ap, ◌∙◌}
use Rattle.access_blocks.specs.Expressions.{outcome_of}
use Rattle.access_blocks.specs.Calls.{calls_of}
use Rattle.body_run.specs.Seen.{machine_of}
use Rattle.source_run.specs.Seen.{frames_of}
use Rattle.source_run.proofs.Resting.{goes_on, halts, rests}
use Rattle.source_run.proofs.runs.run_on.Goals as goal

pub returns-in-Ok-Some : goal.returns-in-Ok-Some
returns-in-Ok-Some c =
    rests (calls_of c.args.methods.now) (frames_of c.loop-step.frames) (frames_of c.make_move.new.frames) (frames_of c.args.frames) (machine_of c.loop-step.machine)
    (machine_of c.make_move.new.machine) (machine_of c.args.machine) c.in-Ok-Some.pause c.rested.result (rw c.in-Ok-Some.field-0-is at c.in-Ok-Some.ensures) c.loop-step.invariant
    c.rested.ensures.state c.rested.ensures.fields

pub returns-in-Err-Halt : goal.returns-in-Err-Halt
returns-in-Err-Halt c =
    halts (calls_of c.args.methods.now) (frames_of c.loop-step.frames) (frames_of c.make_move.new.frames) (frames_of c.args.frames) (machine_of c.loop-step.machine)
    (machine_of c.make_move.new.machine) (machine_of c.args.machine) c.in-Err-Halt.halt c.outcome.result (rw c.in-Err-Halt.field-0-is at c.in-Err-Halt.ensures) c.loop-step.invariant
    (c.outcome.ensures ∙ ap outcome_of c.in-Err-Halt.halt-is)

pub loop-step-preserved : goal.loop-step-preserved
loop-step-preserved c =
    goes_on (calls_of c.args.methods.now) (frames_of c.loop-step.frames) (frames_of c.make_move.new.frames) (frames_of c.args.frames) (machine_of c.loop-step.machine)
    (machine_of c.make_move.new.machine) (machine_of c.args.machine) (rw c.in-Ok-None.field-0-is at c.in-Ok-None.ensures) c.loop-step.invariant
