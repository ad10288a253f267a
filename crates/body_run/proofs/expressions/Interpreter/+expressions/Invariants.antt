use Rattle.std.proofs.Common.{◌≡◌, ◌+◌, ◌*◌, max, drop}
use Rattle.access_blocks.specs.declared.body.Expression.{size-Expression}
use Rattle.access_blocks.specs.Expressions.{values_of}
use Rattle.access_blocks.specs.Statements.{seen_by}
use Rattle.access_blocks.specs.Calls.{calls_within}
use Rattle.body_run.specs.Seen.{machine_of}
use Rattle.body_run.proofs.InOrder.{behind}
use Rattle.body_run.proofs.expressions.Interpreter.+expressions.Given as goal

abbrev pub decreases-value : goal.decreases-value
decreases-value g l = 4 * goal.size-value g l

abbrev pub decreases-applied : goal.decreases-applied
decreases-applied g l = 4 * goal.size-applied g l + 1

abbrev pub decreases-binary : goal.decreases-binary
decreases-binary g l = 4 * max (size-Expression l.first.now) (size-Expression l.second.now) + 1

abbrev pub decreases-conditional : goal.decreases-conditional
decreases-conditional g l = 4 * max (size-Expression l.test.now) (max (size-Expression l.first.now) (size-Expression l.second.now)) + 1

abbrev pub decreases-gathered_element : goal.decreases-gathered_element
decreases-gathered_element g l = 4 * max (size-Expression l.at.now) (size-Expression l.index.now) + 1

abbrev pub decreases-values : goal.decreases-values
decreases-values g l = 4 * goal.size-values g l + 1

abbrev pub decreases-called : goal.decreases-called
decreases-called g l = 4 * goal.size-called g l + 2

abbrev pub invariant-values-loop-argument : goal.invariant-values-loop-argument
invariant-values-loop-argument g l =
    let calls = calls_within l.self.depth l.self.methods.now in
    let seen = seen_by (machine_of l.machine) in
    behind l.values.items (values_of calls (drop l.argument-index l.arguments) seen l.left) ≡ values_of calls l.arguments seen l.fn.turns
