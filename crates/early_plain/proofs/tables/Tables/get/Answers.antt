use Rattle.std.proofs.Common.{rules, w64, ◌∙◌, ap}
use Rattle.std.proofs.lemmas.Int.{to_z-of_z}
use Rattle.early_tables.specs.Contents.{value_at}
use Rattle.early_plain.proofs.FieldTables.{is_name, entries_of-place}
use Rattle.early_plain.proofs.tables.Tables.get.Goals as goal

pub place_of-requires : goal.place_of-requires
place_of-requires c = is_name _ c.self.inside.tables.items _ _ c.self.invariant c.self.view_is c.requires

pub returns : goal.returns
returns c =
    to_z-of_z w64 c.get.result (search rules)
    ∙ c.get.ensures
    ∙ ap (λ n. value_at n c.index.result.now) (to_z-of_z w64 c.args.key (search rules))
    ∙ ap (value_at c.args.key)
    (entries_of-place c.self.inside.names.now c.self.inside.tables.items c.args.self.now c.args.field.now c.place_of.result c.self.invariant c.place_of.ensures.place c.self.view_is c.index.result.now c.index.ensures)
