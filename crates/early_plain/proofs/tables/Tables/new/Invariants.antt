use Rattle.std.proofs.Common.{◌≡◌, ◌++◌, drop}
use Rattle.early_plain.proofs.FieldTables.{no_entries}
use Rattle.early_plain.proofs.tables.Tables.new.Given as goal

abbrev pub invariant-loop-name : goal.invariant-loop-name
invariant-loop-name l = l.tables.items ++ no_entries (drop l._name-index l.names) ≡ no_entries l.names
