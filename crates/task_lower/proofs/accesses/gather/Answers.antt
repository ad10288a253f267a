use Rattle.std.proofs.Common.{ℕ, List, refl, subst}
use Rattle.access_blocks.specs.declared.body.Expression.{Expression}
use Rattle.body_code.specs.StatementCode.{stored_from}
use Rattle.task_lower.specs.declared.draft.Draft.{Draft}
use Rattle.task_lower.specs.Pushing.{Pushes}
use Rattle.task_lower.proofs.Carried.{stored_emitted, gather_emitted}
use Rattle.task_lower.proofs.accesses.gather.Goals as goal

pub returns : goal.returns
returns c =
    let old = c.args.draft.now in
    let ctx = c.args.scope.now.context in
    let next : Draft = record { code = c.store_arguments.new.code; tasks = old.tasks; variables = old.variables } in
    let P : List Expression → Type 0 = λ args. Pushes (stored_from ctx args c.len-first.result) old.code next.code in
    let Q : ℕ → Type 0 = λ first. Pushes (stored_from ctx c.args.gather.now.args first) old.code next.code in
    gather_emitted c.args.scope.now c.args.gather.now old next c.cut.new.draft c.visit.new.draft
    (stored_emitted ctx c.args.gather.now.args old next (subst Q c.len-first.ensures (subst P c.as_slice.ensures c.in_ok-store_arguments.ensures)) refl refl)
    c.in_ok-cut.ensures c.in_ok-visit.ensures
