use Rattle.std.proofs.Common.{◌≡◌, ◌≤◌, ◌-◌, take}
use Rattle.sdg_base.specs.declared.val.Num.TheVariants as num
use Rattle.sdg_base.specs.Arithmetic.{wrap}
use Rattle.state_classes.specs.Plans.{weighted}
use Rattle.state_classes.proofs.matrix.row_sum.Given as goal

abbrev pub invariant-columns : goal.invariant-columns
invariant-columns g l = record {
  within : l.column ≤ l.count;
  counted : l.sum ≡ wrap num.Long (weighted l.row 0 (take l.column l.v) (g.H.Held.entries l.held));
}

abbrev pub decreases-columns : goal.decreases-columns
decreases-columns g l = l.count - l.column
