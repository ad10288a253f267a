use Rattle.typed_bodies.proofs.PartsFound.{condition_reads}
use Rattle.typed_bodies.proofs.CompoundReads.{compound_reads}
use Rattle.typed_bodies.proofs.Compounds.{step_changes}
use Rattle.typed_bodies.proofs.Starts.{local_starts}
use Rattle.typed_bodies.proofs.law.parts_are_typed.Goals as goal

pub returns : goal.returns
returns c = record {
  conditions = λ p sound around stands x w quiet. condition_reads p sound around stands x w quiet;
  compounds = λ p sound around stands assign op assigning variable t is v at value_at w quiet. compound_reads p sound around stands assign op assigning variable t is v at value_at w quiet;
  starts = local_starts;
  steps = λ p around stands op step variable t is number. step_changes p around stands variable t is op step number;
}
