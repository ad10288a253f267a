use Rattle.std.proofs.Common.{◌≡◌, pos, map}
use Rattle.std.specs.List.{range_with_len}
use Rattle.sdg_base.specs.declared.val.Num.TheVariants as num
use Rattle.sdg_base.specs.Arithmetic.{wrap}
use Rattle.state_classes.specs.Plans.{weighted}
use Rattle.state_classes.proofs.matrix.product.Given as goal

abbrev pub invariant-loop-row : goal.invariant-loop-row
invariant-loop-row g l = l.products ≡ map (λ row. wrap num.Long (weighted (pos row) 0 l.v (g.H.Held.entries l.held))) (range_with_len 0 l.row)
