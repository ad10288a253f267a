use Rattle.std.proofs.Common.{◌≡◌, ◌+◌, ◌*◌, max, take, map}
use Rattle.access_blocks.specs.declared.body.Expression.{size-Expression}
use Rattle.body_code.specs.Codes.{all_of}
use Rattle.body_code.specs.Typing.{all_types}
use Rattle.body_code.specs.ExpressionCode.{lowered}
use Rattle.task_lower.specs.Pushing.{Pushes}
use Rattle.task_lower.proofs.expressions.+lowering.Given as goal

abbrev pub invariant-expressions-loop-e : goal.invariant-expressions-loop-e
invariant-expressions-loop-e l = record {
  found : l.types ≡ all_types (map (λ a. a.type) (map (lowered l.scope.context) (take l.e-index l.all)));
  code : Pushes (all_of (map (λ a. a.code) (map (lowered l.scope.context) (take l.e-index l.all)))) l.initial.code l.code;
}

abbrev pub decreases-expression : goal.decreases-expression
decreases-expression l = 4 * goal.size-expression l

abbrev pub decreases-unary : goal.decreases-unary
decreases-unary l = 4 * goal.size-unary l + 1

abbrev pub decreases-cast : goal.decreases-cast
decreases-cast l = 4 * goal.size-cast l + 1

abbrev pub decreases-binary : goal.decreases-binary
decreases-binary l = 4 * max (size-Expression l.a.now) (size-Expression l.b.now) + 2

abbrev pub decreases-and_also : goal.decreases-and_also
decreases-and_also l = 4 * max (size-Expression l.a.now) (size-Expression l.b.now) + 1

abbrev pub decreases-or_else : goal.decreases-or_else
decreases-or_else l = 4 * max (size-Expression l.a.now) (size-Expression l.b.now) + 1

abbrev pub decreases-conditional : goal.decreases-conditional
decreases-conditional l = 4 * max (size-Expression l.test.now) (max (size-Expression l.a.now) (size-Expression l.b.now)) + 1

abbrev pub decreases-vector_element : goal.decreases-vector_element
decreases-vector_element l = 4 * goal.size-vector_element l + 1

abbrev pub decreases-gathered_element : goal.decreases-gathered_element
decreases-gathered_element l = 4 * max (size-Expression l.at.now) (size-Expression l.index.now) + 1

abbrev pub decreases-called : goal.decreases-called
decreases-called l = 4 * goal.size-called l + 2

abbrev pub decreases-expressions : goal.decreases-expressions
decreases-expressions l = 4 * goal.size-expressions l + 1
