use Rattle.std.proofs.Common.{◌≡◌, true, false, Option, List, [], ◌∷◌, map, slice_get, IfOk, sym, ap, subst, ◌∙◌, arith}
use Rattle.sdg_base.specs.declared.value_type.ValueType.{ValueType}
use Rattle.flat_code.specs.declared.graph.Instr.TheVariants as instr
use Rattle.access_blocks.specs.declared.body.Expression.{Expression}
use Rattle.body_code.specs.Codes.{plain}
use Rattle.body_code.specs.Typing.{all_types, called_type}
use Rattle.body_code.specs.ExpressionCode.{either, lowered}
use Rattle.task_lower.proofs.Pushed.{then_pushed, either_pushed}
use Rattle.task_lower.proofs.Listed.{taken_more, listed_types, listed_codes, lowered_call}
use Rattle.task_lower.proofs.expressions.+lowering.Goals as goal

pub and_also-returns-clause-code : goal.and_also-returns-clause-code
and_also-returns-clause-code t c =
    let ctx = c.args.scope.now.context in
    let a = (lowered ctx c.args.a.now).code in
    let b = (lowered ctx c.args.b.now).code in
    let no = plain (instr.Bool false ∷ []) in
    then_pushed a (either b no) c.args.code.now c.expression.new.code c.leave_behind.new.code c.in_ok-left.ensures.code
    (either_pushed b no c.expression.new.code c.branch-code.new.code c.expression-2.new.code c.leave.new.code c.branch_behind.new.code c.push.new.code c.leave_behind.new.code
    c.in_ok-to_second.to_second c.in_ok-to_end.to_end (instr.IfFalse 0) (instr.Jump 0) c.in_ok-to_second.ensures.at c.in_ok-to_second.ensures.code c.in_ok-right.ensures.code
    c.in_ok-to_end.ensures.at c.in_ok-to_end.ensures.code c.in_ok-branch_behind.ensures c.in_ok-push.ensures c.in_ok-leave_behind.ensures)

pub or_else-returns-clause-code : goal.or_else-returns-clause-code
or_else-returns-clause-code t c =
    let ctx = c.args.scope.now.context in
    let a = (lowered ctx c.args.a.now).code in
    let b = (lowered ctx c.args.b.now).code in
    let yes = plain (instr.Bool true ∷ []) in
    then_pushed a (either yes b) c.args.code.now c.expression.new.code c.leave_behind.new.code c.in_ok-left.ensures.code
    (either_pushed yes b c.expression.new.code c.branch-code.new.code c.push.new.code c.leave.new.code c.branch_behind.new.code c.expression-2.new.code c.leave_behind.new.code
    c.in_ok-to_second.to_second c.in_ok-to_end.to_end (instr.IfFalse 0) (instr.Jump 0) c.in_ok-to_second.ensures.at c.in_ok-to_second.ensures.code c.in_ok-push.ensures
    c.in_ok-to_end.ensures.at c.in_ok-to_end.ensures.code c.in_ok-branch_behind.ensures c.in_ok-right.ensures.code c.in_ok-leave_behind.ensures)

pub conditional-returns-clause-code : goal.conditional-returns-clause-code
conditional-returns-clause-code t c =
    let ctx = c.args.scope.now.context in
    let test = (lowered ctx c.args.test.now).code in
    let a = (lowered ctx c.args.a.now).code in
    let b = (lowered ctx c.args.b.now).code in
    then_pushed test (either a b) c.args.code.now c.expression.new.code c.leave_behind.new.code c.in_ok-tested.ensures.code
    (either_pushed a b c.expression.new.code c.branch-code.new.code c.expression-2.new.code c.leave.new.code c.branch_behind.new.code c.expression-3.new.code c.leave_behind.new.code
    c.in_ok-to_second.to_second c.in_ok-to_end.to_end (instr.IfFalse 0) (instr.Jump 0) c.in_ok-to_second.ensures.at c.in_ok-to_second.ensures.code c.in_ok-first.ensures.code
    c.in_ok-to_end.ensures.at c.in_ok-to_end.ensures.code c.in_ok-branch_behind.ensures c.in_ok-second.ensures.code c.in_ok-leave_behind.ensures)

pub expression-returns-in-Call-clause-found : goal.expression-returns-in-Call-clause-found
expression-returns-in-Call-clause-found t c =
    let ctx = c.args.scope.now.context in
    let P : Option ValueType → Type 0 = λ t. IfOk c.called.result (λ found. found ≡ t) in
    subst P
    (ap (λ (args : List Expression). called_type (slice_get ctx.methods c.in-Call.method) (all_types (map (λ a. a.type) (map (lowered ctx) args)))) c.as_slice.ensures
    ∙ sym (lowered_call ctx c.in-Call.method c.in-Call.args) ∙ ap (λ y. (lowered ctx y).type) (sym c.in-Call.is))
    c.called.ensures.found

pub expressions-loop-e-preserved : goal.expressions-loop-e-preserved
expressions-loop-e-preserved t c =
    let ctx = c.args.scope.now.context in
    let all = c.args.all.now in
    let i = c.loop-e.e-index in
    let x = c.e-item.result in
    let more = taken_more all i x (omega arith) c.e-item.is in
    record {
      found = listed_types ctx _ _ x c.loop-e.types c.in_ok-types.types c.in_ok-found.found more c.loop-e.invariant.found c.in_ok-found.ensures.found c.in_ok-types.ensures;
      code = listed_codes ctx _ _ x c.args.code.now c.loop-e.code c.expression.new.code more c.loop-e.invariant.code c.in_ok-found.ensures.code;
    }
