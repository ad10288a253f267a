use Rattle.std.proofs.Common.{arith}
use Rattle.early_plain.proofs.FieldTables.{first_here, first_later}
use Rattle.early_plain.proofs.tables.place_of.Goals as goal

pub returns-then-eq-clause-place : goal.returns-then-eq-clause-place
returns-then-eq-clause-place c = first_here _ _ c.loop-at.at c.index-names-at.result (omega arith) c.index-names-at.is (cc) c.loop-at.invariant

pub loop-at-preserved : goal.loop-at-preserved
loop-at-preserved c = first_later _ _ c.loop-at.at c.index-names-at.result (omega arith) c.index-names-at.is (cc) c.loop-at.invariant
