use Rattle.std.proofs.Common.{ap, ◌∙◌}
use Rattle.std.proofs.lemmas.Result.{IfOk-weaker}
use Rattle.flat_code.specs.Items as items
use Rattle.task_code.specs.declared.step.Ending.{Ending}
use Rattle.task_code.specs.Given.{sender_of}
use Rattle.task_code.specs.Seen.{ending_of, frame_of}
use Rattle.task_code.proofs.sender.Sender.ended.Goals as goal

pub returns-in-Returned : goal.returns-in-Returned
returns-in-Returned c = λ state.
    ap (λ (e : Ending). items.ended (sender_of c.args.self.now) (ending_of e) (frame_of c.args.frame.now) state) c.in-Returned.is ∙ c.done.ensures state

pub returns-in-Stopped : goal.returns-in-Stopped
returns-in-Stopped c =
    IfOk-weaker c.stopped.result _ _
    (λ out gives state. ap (λ (e : Ending). items.ended (sender_of c.args.self.now) (ending_of e) (frame_of c.args.frame.now) state) c.in-Stopped.is ∙ gives state)
    c.stopped.ensures

pub returns-in-CutTo : goal.returns-in-CutTo
returns-in-CutTo c =
    IfOk-weaker c.sent.result _ _
    (λ out gives state. ap (λ (e : Ending). items.ended (sender_of c.args.self.now) (ending_of e) (frame_of c.args.frame.now) state) c.in-CutTo.is ∙ gives state)
    c.sent.ensures

pub returns-in-PartFor : goal.returns-in-PartFor
returns-in-PartFor c =
    IfOk-weaker c.parted.result _ _
    (λ out gives state. ap (λ (e : Ending). items.ended (sender_of c.args.self.now) (ending_of e) (frame_of c.args.frame.now) state) c.in-PartFor.is ∙ gives state)
    c.parted.ensures
