use Rattle.std.proofs.lemmas.Result.{IfOk-weaker}
use Rattle.early_forms.proofs.BodyTrees.{body_ended}
use Rattle.early_forms.proofs.bodies.body_of.Goals as goal

pub returns-in-Some-2 : goal.returns-in-Some-2
returns-in-Some-2 c =
    IfOk-weaker _ _ _
    (λ found parts. body_ended _ _ _ _ found c.in-Some.ensures.cases.0 (rw c.in-Some-2.is at c.in_ok-ending.ensures) parts)
    c.ended_by-in-Some-2.ensures
