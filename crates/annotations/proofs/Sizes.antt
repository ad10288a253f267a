-- The arguments of a call are smaller than the call.
use Rattle.std.proofs.Common.{ℕ, ◌<◌, List, arith}
use denote.Param.Weighed.{most}
use Rattle.java_tree.specs.declared.tree.Expr.{Expr}
use Rattle.java_tree.specs.declared.tree.Value.{Value}
use Rattle.java_tree.specs.declared.tree.CallForm.{size_is-CallForm}
use Rattle.java_tree.specs.declared.tree.CallForm.TheVariants as call
use Rattle.java_tree.proofs.tree.CallForm.TheLaws as call_laws
use Rattle.java_tree.proofs.tree.Value.TheLaws as value_laws

pub args_smaller :
    (object : List ℕ) (index : Expr) (name : List ℕ) (args : List Value) →
    most (λ x. value_laws.the_size x) args < call_laws.the_size (call.OfMember object index name args)
args_smaller object index name args =
    let h = size_is-CallForm (call.OfMember object index name args) in
    let k = rw (call.outs-OfMember object index name args) at h in
    omega (arith, k)
