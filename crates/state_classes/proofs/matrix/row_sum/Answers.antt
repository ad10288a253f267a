use Rattle.std.proofs.Common.{◌≡◌, ◌<◌, ◌^◌, pos, length, take, get_or, ap, sym, ◌∙◌, to_z, of_z, w64, arith}
use Rattle.std.proofs.lemmas.Int.{to_z-of_z, to_z_pos}
use Rattle.std.proofs.Math.Seq.{take-length}
use Rattle.sdg_base.specs.declared.val.Num.TheVariants as num
use Rattle.sdg_base.specs.Arithmetic.{wrap}
use Rattle.state_classes.specs.Plans.{element, weighted, sum_of, product_of}
use Rattle.state_classes.proofs.Products.{wrap-zero, row-step, blank-columns}
use Rattle.state_classes.proofs.matrix.row_sum.Goals as goal

pub columns-init : goal.columns-init
columns-init g c = record { within = omega arith; counted = wrap-zero }

pub columns-preserved : goal.columns-preserved
columns-preserved g c =
    let at = c.in-Some.next in
    let es = g.H.Held.entries c.args.held.now in
    let v = c.args.v.now in
    let row = to_z w64 (of_z w64 c.args.row) in
    let next = c.in-Some.ensures in
    let under : at < 2 ^ 63 = omega (arith, next.1, c.length_of-count.ensures.small) in
    let within : at < length v = omega (arith, next.1, c.length_of-count.ensures.count) in
    let value : to_z w64 (of_z w64 c.element-element.result) ≡ element row (pos at) es =
    to_z-of_z w64 c.element-element.result (record { sfits = c.element-element.type_inv }) ∙ c.element-element.ensures ∙ ap (λ z. element row z es) (to_z_pos w64 at under) in
    let counted : to_z w64 c.columns.sum-bits ≡ wrap num.Long (weighted row 0 (take at v) es) =
    c.columns.invariant.counted ∙ ap (wrap num.Long) (sym (blank-columns row es v c.columns.column at next.0 (omega arith) next.2)) in
    record {
      within = omega (arith, next.1);
      counted =
          to_z-of_z w64 c.plus_product-sum.result (record { sfits = c.plus_product-sum.type_inv })
          ∙ c.plus_product-sum.ensures
          ∙ (λ i. sum_of (counted i) (product_of (value i) (get_or v at (pos 0))))
          ∙ row-step row es v at within;
    }

pub returns-in-None : goal.returns-in-None
returns-in-None g c =
    let es = g.H.Held.entries c.args.held.now in
    let v = c.args.v.now in
    let row = to_z w64 (of_z w64 c.args.row) in
    let count : c.length_of-count.result ≡ length v = c.length_of-count.ensures.count in
    let whole : take c.length_of-count.result v ≡ v = ap (λ n. take n v) count ∙ take-length v in
    c.columns.invariant.counted
    ∙ ap (wrap num.Long) (sym (blank-columns row es v c.columns.column c.length_of-count.result c.columns.invariant.within (omega (arith, count)) c.in-None.ensures) ∙ ap (λ w. weighted row 0 w es) whole)
    ∙ ap (λ row. wrap num.Long (weighted row 0 v es)) (to_z-of_z w64 c.args.row c.ranges.row)
