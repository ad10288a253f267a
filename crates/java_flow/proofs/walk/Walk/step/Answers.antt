use Rattle.std.proofs.Common.{false, ap, ◌∙◌}
use Rattle.java_flow.specs.Assigned.{also}
use Rattle.java_flow.specs.Points.{behind, reading, with_assigned}
use Rattle.java_flow.proofs.walk.Walk.step.Goals as goal

pub returns-clause-walked : goal.returns-clause-walked
returns-clause-walked c =
    c.pass-2.ensures.walked
    ∙ ap (behind c.args.width) (c.assign.ensures.walked ∙ ap (with_assigned (also c.args.name.now)) (c.in_ok-read.ensures.walked ∙ ap (reading false c.args.name.now) c.pass.ensures.walked))
