use Rattle.typed_bodies.proofs.ExpressionsFollow.{expression_follows, value_follows, call_follows_all}
use Rattle.typed_bodies.proofs.law.expressions_are_typed.Goals as goal

pub returns : goal.returns
returns c = record { expressions = expression_follows; values = value_follows; calls = call_follows_all }
