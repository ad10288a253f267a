use Rattle.std.proofs.Common.{arith, ap, sym, subst, ◌∙◌}
use Rattle.std.proofs.lemmas.Grind.{common_steps}
use Rattle.access_blocks.specs.declared.body.Expression.{Expression}
use Rattle.access_blocks.specs.Expressions.{value_of, values_of}
use Rattle.access_blocks.specs.Statements.{seen_by}
use Rattle.access_blocks.specs.Calls.{calls_within}
use Rattle.body_run.specs.Applications.{binary_value, conditional_value, gathered_element_value}
use Rattle.body_run.specs.declared.application.Application.TheVariants as by
use Rattle.body_run.specs.Seen.{Evaluates, machine_of}
use Rattle.body_run.proofs.InOrder.{given_more, stopped_there}
use Rattle.body_run.proofs.Folding.{application_value, unary_value, cast_value, new_vector_value, vector_element_value, gathered_value, gathered_size_value, binary_is, conditional_is, gathered_element_is}
use Rattle.body_run.proofs.expressions.Interpreter.+expressions.Goals as goal

pub values-returns-in_err-value : goal.values-returns-in_err-value
values-returns-in_err-value g t c =
    let stops = stopped_there (calls_within c.args.self.now.depth c.args.self.now.methods.now) c.args.arguments.now c.loop-argument.argument-index c.argument-item.result
    (seen_by (machine_of c.args.machine.now)) c.loop-argument.left c.in_err-value.field-0.0 c.loop-argument.values.items
    (values_of (calls_within c.args.self.now.depth c.args.self.now.methods.now) c.args.arguments.now (seen_by (machine_of c.args.machine.now)) c.args.turns)
    (omega arith) c.argument-item.is c.in_err-value.ensures c.loop-argument.invariant in
    grind (arith, common_steps, stops)

pub values-loop-argument-preserved : goal.values-loop-argument-preserved
values-loop-argument-preserved g t c =
    let more = given_more (calls_within c.args.self.now.depth c.args.self.now.methods.now) c.args.arguments.now c.loop-argument.argument-index c.argument-item.result
    (seen_by (machine_of c.args.machine.now)) c.loop-argument.left c.in_ok-value.rest c.in_ok-value.value c.loop-argument.values.items
    (values_of (calls_within c.args.self.now.depth c.args.self.now.methods.now) c.args.arguments.now (seen_by (machine_of c.args.machine.now)) c.args.turns)
    (omega arith) c.argument-item.is c.in_ok-value.ensures c.loop-argument.invariant in
    grind (arith, common_steps, more)

pub value-returns-in-Unary : goal.value-returns-in-Unary
value-returns-in-Unary g t c =
    let calls = calls_within c.args.self.now.depth c.args.self.now.methods.now in
    let seen = seen_by (machine_of c.args.machine.now) in
    subst (Evaluates (λ v. v) c.applied.result)
    (ap (λ (x : Expression). application_value calls (by.Unary c.in-Unary.op) x seen c.args.turns) c.get.ensures
    ∙ sym (ap (λ (x : Expression). value_of calls x seen c.args.turns) c.in-Unary.is ∙ unary_value calls c.in-Unary.op c.in-Unary.operand seen c.args.turns))
    c.applied.ensures

pub value-returns-in-Cast : goal.value-returns-in-Cast
value-returns-in-Cast g t c =
    let calls = calls_within c.args.self.now.depth c.args.self.now.methods.now in
    let seen = seen_by (machine_of c.args.machine.now) in
    subst (Evaluates (λ v. v) c.applied-in-Cast.result)
    (ap (λ (x : Expression). application_value calls (by.Cast c.in-Cast.to) x seen c.args.turns) c.get-in-Cast.ensures
    ∙ sym (ap (λ (x : Expression). value_of calls x seen c.args.turns) c.in-Cast.is ∙ cast_value calls c.in-Cast.to c.in-Cast.operand seen c.args.turns))
    c.applied-in-Cast.ensures

pub value-returns-in-NewVector : goal.value-returns-in-NewVector
value-returns-in-NewVector g t c =
    let calls = calls_within c.args.self.now.depth c.args.self.now.methods.now in
    let seen = seen_by (machine_of c.args.machine.now) in
    subst (Evaluates (λ v. v) c.applied-in-NewVector.result)
    (ap (λ (x : Expression). application_value calls by.NewVector x seen c.args.turns) c.get-in-NewVector.ensures
    ∙ sym (ap (λ (x : Expression). value_of calls x seen c.args.turns) c.in-NewVector.is ∙ new_vector_value calls c.in-NewVector.length seen c.args.turns))
    c.applied-in-NewVector.ensures

pub value-returns-in-VectorElement : goal.value-returns-in-VectorElement
value-returns-in-VectorElement g t c =
    let calls = calls_within c.args.self.now.depth c.args.self.now.methods.now in
    let seen = seen_by (machine_of c.args.machine.now) in
    subst (Evaluates (λ v. v) c.applied-in-VectorElement.result)
    (ap (λ (x : Expression). application_value calls (by.VectorElement c.in-VectorElement.variable) x seen c.args.turns) c.get-in-VectorElement.ensures
    ∙ sym (ap (λ (x : Expression). value_of calls x seen c.args.turns) c.in-VectorElement.is ∙ vector_element_value calls c.in-VectorElement.variable c.in-VectorElement.index seen c.args.turns))
    c.applied-in-VectorElement.ensures

pub value-returns-in-Gathered : goal.value-returns-in-Gathered
value-returns-in-Gathered g t c =
    let calls = calls_within c.args.self.now.depth c.args.self.now.methods.now in
    let seen = seen_by (machine_of c.args.machine.now) in
    subst (Evaluates (λ v. v) c.applied-in-Gathered.result)
    (ap (λ (x : Expression). application_value calls by.Gathered x seen c.args.turns) c.get-in-Gathered.ensures
    ∙ sym (ap (λ (x : Expression). value_of calls x seen c.args.turns) c.in-Gathered.is ∙ gathered_value calls c.in-Gathered.at seen c.args.turns))
    c.applied-in-Gathered.ensures

pub value-returns-in-GatheredSize : goal.value-returns-in-GatheredSize
value-returns-in-GatheredSize g t c =
    let calls = calls_within c.args.self.now.depth c.args.self.now.methods.now in
    let seen = seen_by (machine_of c.args.machine.now) in
    subst (Evaluates (λ v. v) c.applied-in-GatheredSize.result)
    (ap (λ (x : Expression). application_value calls by.GatheredSize x seen c.args.turns) c.get-in-GatheredSize.ensures
    ∙ sym (ap (λ (x : Expression). value_of calls x seen c.args.turns) c.in-GatheredSize.is ∙ gathered_size_value calls c.in-GatheredSize.at seen c.args.turns))
    c.applied-in-GatheredSize.ensures

pub value-returns-in-Binary : goal.value-returns-in-Binary
value-returns-in-Binary g t c =
    let calls = calls_within c.args.self.now.depth c.args.self.now.methods.now in
    let seen = seen_by (machine_of c.args.machine.now) in
    subst (Evaluates (λ v. v) c.binary.result)
    (ap (λ (x : Expression). binary_value calls c.in-Binary.op x c.get-in-Binary-2.result.now seen c.args.turns) c.get-in-Binary.ensures
    ∙ ap (λ (x : Expression). binary_value calls c.in-Binary.op c.in-Binary.first x seen c.args.turns) c.get-in-Binary-2.ensures
    ∙ sym (ap (λ (x : Expression). value_of calls x seen c.args.turns) c.in-Binary.is ∙ binary_is calls c.in-Binary.op c.in-Binary.first c.in-Binary.second seen c.args.turns))
    c.binary.ensures

pub value-returns-in-Conditional : goal.value-returns-in-Conditional
value-returns-in-Conditional g t c =
    let calls = calls_within c.args.self.now.depth c.args.self.now.methods.now in
    let seen = seen_by (machine_of c.args.machine.now) in
    subst (Evaluates (λ v. v) c.conditional.result)
    (ap (λ (x : Expression). conditional_value calls x c.get-in-Conditional-2.result.now c.get-in-Conditional-3.result.now seen c.args.turns) c.get-in-Conditional.ensures
    ∙ ap (λ (x : Expression). conditional_value calls c.in-Conditional.test x c.get-in-Conditional-3.result.now seen c.args.turns) c.get-in-Conditional-2.ensures
    ∙ ap (λ (x : Expression). conditional_value calls c.in-Conditional.test c.in-Conditional.first x seen c.args.turns) c.get-in-Conditional-3.ensures
    ∙ sym (ap (λ (x : Expression). value_of calls x seen c.args.turns) c.in-Conditional.is
    ∙ conditional_is calls c.in-Conditional.test c.in-Conditional.first c.in-Conditional.second seen c.args.turns))
    c.conditional.ensures

pub value-returns-in-GatheredElement : goal.value-returns-in-GatheredElement
value-returns-in-GatheredElement g t c =
    let calls = calls_within c.args.self.now.depth c.args.self.now.methods.now in
    let seen = seen_by (machine_of c.args.machine.now) in
    subst (Evaluates (λ v. v) c.gathered_element.result)
    (ap (λ (x : Expression). gathered_element_value calls x c.get-in-GatheredElement-2.result.now seen c.args.turns) c.get-in-GatheredElement.ensures
    ∙ ap (λ (x : Expression). gathered_element_value calls c.in-GatheredElement.at x seen c.args.turns) c.get-in-GatheredElement-2.ensures
    ∙ sym (ap (λ (x : Expression). value_of calls x seen c.args.turns) c.in-GatheredElement.is ∙ gathered_element_is calls c.in-GatheredElement.at c.in-GatheredElement.index seen c.args.turns))
    c.gathered_element.ensures
