use Rattle.std.proofs.Common.{◌+◌, ◌*◌, max, take, map}
use denote.Param.Weighed.{most}
use Rattle.access_blocks.specs.declared.body.Statement.{size-Statement}
use Rattle.body_code.specs.StatementCode as spec
use Rattle.task_lower.specs.Drafting.{Emits}
use Rattle.task_lower.proofs.statements.+lowering.Given as goal

abbrev pub decreases-statement : goal.decreases-statement
decreases-statement l = 8 * goal.size-statement l

abbrev pub decreases-statements : goal.decreases-statements
decreases-statements l = 8 * goal.size-statements l + 1

abbrev pub decreases-marked : goal.decreases-marked
decreases-marked l = 8 * size-Statement l.body.now + 1

abbrev pub decreases-guarded : goal.decreases-guarded
decreases-guarded l = 8 * size-Statement l.body.now + 1

abbrev pub decreases-jumped_over : goal.decreases-jumped_over
decreases-jumped_over l = 8 * size-Statement l.body.now + 1

abbrev pub decreases-if_alone : goal.decreases-if_alone
decreases-if_alone l = 8 * size-Statement l.first.now + 2

abbrev pub decreases-if_else : goal.decreases-if_else
decreases-if_else l = 8 * max (size-Statement l.first.now) (size-Statement l.second.now) + 2

abbrev pub decreases-passes : goal.decreases-passes
decreases-passes l = 8 * max (most size-Statement l.update.now) (size-Statement l.body.now) + 2

abbrev pub invariant-statements-loop-st : goal.invariant-statements-loop-st
invariant-statements-loop-st l = Emits (spec.in_order (map (spec.piece_of l.scope) (take l.st-index l.all))) l.initial.draft l.draft l.holes
