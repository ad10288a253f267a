use Rattle.std.proofs.Common.{◌∙◌, ap}
use Rattle.std.specs.List.{zip}
use Rattle.early_plain.proofs.FieldTables.{made_all, zip-no_entries}
use Rattle.early_plain.proofs.tables.Tables.new.Goals as goal

pub returns : goal.returns
returns c = ap (zip c.args.names.now) (made_all c.args.names.now c.loop-name.tables.items c.loop-name._name-index c.loop-name-test.false c.loop-name.invariant) ∙ zip-no_entries c.args.names.now
