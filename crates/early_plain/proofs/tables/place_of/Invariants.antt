use Rattle.early_plain.proofs.FieldTables.{FirstFrom}
use Rattle.early_plain.proofs.tables.place_of.Given as goal

abbrev pub invariant-loop-at : goal.invariant-loop-at
invariant-loop-at l = FirstFrom l.names l.name l.at
