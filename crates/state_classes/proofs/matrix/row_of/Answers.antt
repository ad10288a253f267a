use Rattle.std.proofs.Common.{◌≡◌, ◌<◌, ◌^◌, pos, ◌++◌, ◌∷◌, [], zero-add, ap, sym, ◌∙◌, to_z, of_z, w64, arith}
use Rattle.std.proofs.lemmas.Int.{to_z-of_z, to_z_pos}
use Rattle.std.proofs.lemmas.List.FromFn.{map-range_with_len_more}
use Rattle.state_classes.specs.Plans.{element}
use Rattle.state_classes.proofs.matrix.row_of.Goals as goal

pub loop-column-preserved : goal.loop-column-preserved
loop-column-preserved g c =
    let at = c.loop-column.column in
    let under : at < 2 ^ 63 = omega (arith, c.loop-column-test.true, c.requires) in
    let es = g.H.Held.entries c.args.held.now in
    let row = to_z w64 (of_z w64 c.args.row) in
    let value : to_z w64 (of_z w64 c.element.result) ≡ element row (pos at) es =
    to_z-of_z w64 c.element.result (record { sfits = c.element.type_inv }) ∙ c.element.ensures ∙ ap (λ z. element row z es) (to_z_pos w64 at under) in
    c.in_ok-push.ensures.ok
    ∙ (λ i. c.loop-column.invariant i ++ value i ∷ [])
    ∙ sym (map-range_with_len_more (λ column. element row (pos column) es) 0 at at (zero-add at))
