use Rattle.std.proofs.Common.{Option, Some, refl, sym, ap, subst, ◌∙◌}
use Rattle.access_blocks.specs.declared.body.Expression.{Expression}
use Rattle.body_code.specs.StatementCode.{tested}
use Rattle.task_lower.specs.declared.draft.Draft.{Draft}
use Rattle.task_lower.specs.Drafting.{Emits}
use Rattle.task_lower.proofs.Emitted.{test_emitted}
use Rattle.task_lower.proofs.statements.tested.Goals as goal

pub returns-in_ok-holes-in-Some : goal.returns-in_ok-holes-in-Some
returns-in_ok-holes-in-Some c =
    let ctx = c.args.scope.now.context in
    let old = c.args.draft.now in
    let next : Draft = record { code = c.expression.new.code; tasks = old.tasks; variables = old.variables } in
    let P : Option Expression → Type 0 = λ x. Emits (tested ctx x) old c.jump_out.new.draft c.in_ok-holes-in-Some.holes in
    subst P (ap (λ (x : Expression). Some x) c.get.ensures ∙ sym c.in-Some.is)
    (test_emitted ctx c.get.result.now old next c.jump_out.new.draft c.in_ok-holes-in-Some.holes c.in_ok-expression-in-Some.ensures.code refl refl c.in_ok-holes-in-Some.ensures)
