use Rattle.std.proofs.Common.{ap, ◌∙◌, length, arith}
use Rattle.early_cutter.proofs.Proper.{methods_fit, length-lowered_methods}
use Rattle.early_cutter.proofs.graph_of.Goals as goal

pub lowered_methods-requires-clause-literals : goal.lowered_methods-requires-clause-literals
lowered_methods-requires-clause-literals c = rw c.as_slice.ensures (methods_fit c.args.class.now c.requires)

pub tasks_of-requires : goal.tasks_of-requires
tasks_of-requires c =
    let same = ap length (c.as_slice-2.ensures ∙ c.in_ok-methods.ensures) in
    let as_many = length-lowered_methods c.as_slice-fields.result.now 0 c.as_slice.result.now in
    let methods = ap length c.as_slice.ensures in
    omega (arith, same, as_many, methods, c.requires.size.few_methods)
