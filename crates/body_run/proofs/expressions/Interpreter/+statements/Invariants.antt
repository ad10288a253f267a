use Rattle.std.proofs.Common.{◌≡◌, ◌+◌, ◌-◌, ◌*◌, max, drop}
use denote.Param.Weighed.{most}
use Rattle.access_blocks.specs.declared.body.Statement.{size-Statement}
use Rattle.access_blocks.specs.Statements as spec
use Rattle.access_blocks.specs.Calls.{calls_within}
use Rattle.body_run.specs.Seen.{machine_of}
use Rattle.body_run.proofs.expressions.Interpreter.+statements.Given as goal

abbrev pub decreases-statement : goal.decreases-statement
decreases-statement g l = 8 * goal.size-statement g l

abbrev pub decreases-in_order : goal.decreases-in_order
decreases-in_order g l = 8 * goal.size-in_order g l + 1

abbrev pub decreases-updated : goal.decreases-updated
decreases-updated g l = 8 * goal.size-updated g l + 2

abbrev pub decreases-round : goal.decreases-round
decreases-round g l = 8 * max (goal.size-round g l) (size-Statement l.body.now) + 3

abbrev pub decreases-pass : goal.decreases-pass
decreases-pass g l = 8 * max (goal.size-pass g l) (size-Statement l.body.now) + 4

abbrev pub decreases-looped : goal.decreases-looped
decreases-looped g l = 8 * max (goal.size-looped g l) (size-Statement l.body.now) + 5

abbrev pub decreases-whole_loop : goal.decreases-whole_loop
decreases-whole_loop g l = 8 * max (max (goal.size-whole_loop g l) (most size-Statement l.update.now)) (size-Statement l.body.now) + 6

abbrev pub invariant-in_order-loop-statement : goal.invariant-in_order-loop-statement
invariant-in_order-loop-statement g l =
    let calls = calls_within l.self.depth l.self.methods.now in
    spec.meanings calls (drop l.statement-index l.statements) (machine_of l.machine) ≡ spec.meanings calls l.statements (machine_of l.initial.machine)

abbrev pub invariant-looped-loop : goal.invariant-looped-loop
invariant-looped-loop g l =
    let calls = calls_within l.self.depth l.self.methods.now in
    spec.passes calls l.test (spec.meanings calls l.update) (spec.meaning calls l.body) (l.most - l.counter) (machine_of l.machine)
    ≡ spec.looped calls l.test (spec.meanings calls l.update) (spec.meaning calls l.body) (machine_of l.initial.machine)
