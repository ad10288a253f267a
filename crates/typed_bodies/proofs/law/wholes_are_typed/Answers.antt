use Rattle.typed_bodies.proofs.Running.{plain_met}
use Rattle.typed_bodies.proofs.ValueStatements.{value_is_put}
use Rattle.typed_bodies.proofs.CallStatements.{call_is_put}
use Rattle.typed_bodies.proofs.law.wholes_are_typed.Goals as goal

pub returns : goal.returns
returns c = record {
  met = λ p around st a knows t typed within. plain_met p st around a t typed within knows;
  values = λ p sound around stands to wanted v takes w quiet fit. value_is_put p v sound around stands to wanted takes w quiet fit;
  calls = λ p sound around stands is_global call w quiet. call_is_put p sound around stands is_global call w quiet;
}
