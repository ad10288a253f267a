use Rattle.walked_bodies.proofs.Bodies.{body_walked}
use Rattle.walked_bodies.proofs.law.bodies_are_walked.Goals as goal

pub returns : goal.returns
returns c = body_walked c.statements_are_typed.ensures
