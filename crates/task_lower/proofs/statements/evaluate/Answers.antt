use Rattle.std.proofs.Common.{Option, subst, ◌∙◌}
use Rattle.sdg_base.specs.declared.value_type.ValueType.{ValueType}
use Rattle.body_code.specs.Codes.{plain}
use Rattle.body_code.specs.ExpressionCode.{code_of}
use Rattle.body_code.specs.Typing.{type_of}
use Rattle.body_code.specs.StatementCode.{dropped}
use Rattle.task_lower.specs.Pushing.{Pushes}
use Rattle.task_lower.proofs.Pushed.{then_pushed}
use Rattle.task_lower.proofs.Typed.{lowered_type}
use Rattle.task_lower.proofs.statements.evaluate.Goals as goal

pub returns : goal.returns
returns c =
    let ctx = c.args.scope.now.context in
    let e = c.args.e.now in
    let P : Option ValueType → Type 0 = λ t. Pushes (plain (dropped t)) c.expression.new.code c.drop_value.new.code in
    then_pushed (code_of ctx e) (plain (dropped (type_of ctx e))) c.args.code.now c.expression.new.code c.drop_value.new.code c.in_ok-found.ensures.code
    (subst P (c.in_ok-found.ensures.found ∙ lowered_type ctx e) c.in_ok-drop_value.ensures)
