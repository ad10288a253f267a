use Rattle.std.proofs.Common.{◌≡◌, ◌<◌, ◌^◌, ℤ, pos, ◌++◌, ◌∷◌, [], zero-add, ap, sym, ◌∙◌, to_z, of_z, w64, arith}
use Rattle.std.proofs.lemmas.Int.{to_z-of_z, to_z_pos}
use Rattle.std.proofs.lemmas.List.FromFn.{map-range_with_len_more}
use Rattle.sdg_base.specs.declared.val.Num.TheVariants as num
use Rattle.sdg_base.specs.Arithmetic.{wrap}
use Rattle.state_classes.specs.Plans.{weighted}
use Rattle.state_classes.proofs.matrix.product.Goals as goal

pub loop-row-preserved : goal.loop-row-preserved
loop-row-preserved g c =
    let at = c.loop-row.row in
    let under : at < 2 ^ 63 = omega (arith, c.loop-row-test.true, c.length_of-count.ensures.small) in
    let es = g.H.Held.entries c.args.held.now in
    let sum : ℤ → ℤ = λ row. wrap num.Long (weighted row 0 c.args.v.now es) in
    let value : to_z w64 (of_z w64 c.row_sum.result) ≡ sum (pos at) =
    to_z-of_z w64 c.row_sum.result (record { sfits = c.row_sum.type_inv }) ∙ c.row_sum.ensures ∙ ap sum (to_z_pos w64 at under) in
    c.in_ok-push.ensures.ok
    ∙ (λ i. c.loop-row.invariant i ++ value i ∷ [])
    ∙ sym (map-range_with_len_more (λ row. sum (pos row)) 0 at at (zero-add at))
