use Rattle.std.proofs.Common.{◌∙◌}
use Rattle.std.proofs.lemmas.Result.{IfOk-weaker}
use Rattle.task_code.specs.Given.{sender_of}
use Rattle.task_code.specs.Seen.{ending_of, frame_of, running}
use Rattle.task_code.proofs.Outputs.{can_end, ran_gives}
use Rattle.task_code.proofs.sender.Sender.ran.Goals as goal

pub ended-requires : goal.ended-requires
ended-requires g c = (
  g.A.Access.held c.run.new.state,
  can_end (sender_of c.args.self.now) (running c.args.engine.now c.args.code.now c.args.frame (g.A.Access.held c.args.state.now)) (ending_of c.in_ok-ending.ending) (frame_of c.run.new.frame) (g.A.Access.held c.run.new.state)
      c.in_ok-ending.ensures.ends c.requires,
)

pub returns-clause-gives : goal.returns-clause-gives
returns-clause-gives g c =
    IfOk-weaker c.ended.result _ _
    (λ out given.
    ran_gives (sender_of c.args.self.now) (running c.args.engine.now c.args.code.now c.args.frame (g.A.Access.held c.args.state.now)) (ending_of c.in_ok-ending.ending) (frame_of c.run.new.frame) (g.A.Access.held c.run.new.state) c.in_ok-ending.ensures.ends
    ∙ given (g.A.Access.held c.run.new.state))
    c.ended.ensures
