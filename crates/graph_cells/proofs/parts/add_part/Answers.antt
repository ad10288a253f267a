use Rattle.std.proofs.Common.{sym, ◌∙◌, ap, ℕ, List}
use Rattle.std.specs.List.{insert, position_or_len}
use Rattle.sdg_base.specs.declared.item.Item.{Item}
use Rattle.graph_cells.specs.Gathered.{is_before}
use Rattle.graph_cells.proofs.Inserting.{with_part_inserted, on_ok}
use Rattle.graph_cells.proofs.parts.add_part.Goals as goal

pub returns : goal.returns
returns c =
    on_ok c.insert.result c.insert.ensures (λ e. e ∙ ap (λ (k : ℕ). insert c.args.parts.now k c.args.part) (c.place_for-place.ensures.place ∙ ap (λ (others : List Item). position_or_len (is_before c.args.part) others) c.as_slice.ensures) ∙ sym (with_part_inserted c.args.part c.args.parts.now))
