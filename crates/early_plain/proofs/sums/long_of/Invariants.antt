use Rattle.std.proofs.Common.{◌≡◌, Some, drop}
use Rattle.sdg_base.specs.Operators.{IsNumber}
use Rattle.early_forms.specs.Trees.{sum_tree}
use Rattle.early_source.specs.Expressions.{value_of}
use Rattle.early_plain.proofs.Expressions.{added}
use Rattle.early_plain.proofs.sums.long_of.Given as goal

-- the total so far, and the atoms that are left, make the whole
abbrev pub invariant-loop-atom : goal.invariant-loop-atom
invariant-loop-atom l = record {
  number : IsNumber l.total;
  whole : added l.scope (Some l.total) (drop l.atom-index l.sum.others) ≡ value_of (sum_tree l.sum) l.scope;
}
