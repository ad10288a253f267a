use Rattle.std.proofs.Common.{rules, w64}
use Rattle.std.proofs.lemmas.Int.{to_z-of_z}
use Rattle.early_plain.proofs.FieldTables.{is_name, renewed-place, on_ok}
use Rattle.early_plain.proofs.tables.Tables.put.Goals as goal

pub place_of-requires : goal.place_of-requires
place_of-requires c = is_name _ c.self.inside.tables.items _ _ c.self.invariant c.self.view_is c.requires

pub returns : goal.returns
returns c =
    on_ok c.put.result
    (renewed-place c.self.inside.names.now c.self.inside.tables.items c.args.self.now c.args.field.now c.place_of.result c.self.invariant c.place_of.ensures.place c.self.view_is
    c.args.key c.args.value _ _ c.index_mut-table.result.now c.put.new.self c.index_mut-table.ensures.value
    (to_z-of_z w64 c.args.key (search rules)) (to_z-of_z w64 c.args.value (search rules)))
    c.put.ensures.ok
