-- What an expression makes of the value of its one operand.
use Rattle.std.specs.Prelude.{ℕ, if◌then◌else◌}
use Rattle.sdg_base.specs.declared.operator.BinOp.{BinOp}
use Rattle.sdg_base.specs.declared.val.Val.{Val}
use Rattle.sdg_base.specs.Operations.{unary_operation, converted}
use Rattle.access_blocks.specs.declared.body.Expression.{Expression}
use Rattle.access_blocks.specs.Expressions.{Calls, Ended, Gives, Seen, followed, given, is_true, after_first, new_vector, element_of, size_of, variable_of, gathered_at, value_of}
use Rattle.body_run.specs.declared.application.Application.{Application}
use Rattle.body_run.specs.declared.application.Application.TheVariants as by

abbrev pub applied : Application → Val → Seen → ℕ → Ended Val
applied (by.Unary op) v seen turns = given (unary_operation op v) turns
applied (by.Cast to) v seen turns = given (converted to v) turns
applied by.NewVector v seen turns = new_vector v turns
applied (by.VectorElement variable) v seen turns = element_of (variable_of seen variable) v turns
applied by.Gathered v seen turns = gathered_at seen v turns
applied by.GatheredSize v seen turns = followed (gathered_at seen v turns) (λ vector left. Gives (size_of vector) left)

-- the values of expressions with more operands
abbrev pub binary_value : Calls → BinOp → Expression → Expression → Seen → ℕ → Ended Val
binary_value calls op a b seen turns = followed (value_of calls a seen turns) (λ v left. after_first op v (value_of calls b seen) left)

abbrev pub conditional_value : Calls → Expression → Expression → Expression → Seen → ℕ → Ended Val
conditional_value calls test a b seen turns =
    followed (value_of calls test seen turns) (λ v left. if is_true v then value_of calls a seen left else value_of calls b seen left)

abbrev pub gathered_element_value : Calls → Expression → Expression → Seen → ℕ → Ended Val
gathered_element_value calls at index seen turns =
    followed (value_of calls at seen turns) (λ i left. followed (gathered_at seen i left) (λ v rest. followed (value_of calls index seen rest) (element_of v)))
