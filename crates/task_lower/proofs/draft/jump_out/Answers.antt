use Rattle.std.proofs.Common.{List, [], ◌∷◌, ◌++◌, refl, sym, ap, subst, ◌∙◌}
use Rattle.task_lower.specs.declared.draft.Draft.{Draft}
use Rattle.task_lower.specs.declared.draft.Hole.{Hole}
use Rattle.task_lower.specs.Drafting.{Emits, exit_piece}
use Rattle.task_lower.proofs.Emitted.{exit_emitted}
use Rattle.task_lower.proofs.draft.jump_out.Goals as goal

pub returns : goal.returns
returns c =
    let old = c.args.draft.now in
    let new : Draft = record { code = c.push.new.self; tasks = old.tasks; variables = old.variables } in
    let hole : Hole = record { at = c.in_ok-at.at; exit = c.args.exit } in
    let P : List Hole → Type 0 = λ holes. Emits (exit_piece c.args.exit) old new holes in
    subst P (sym (c.in_ok-push-2.ensures.ok ∙ ap (λ (holes : List Hole). holes ++ hole ∷ []) c.new-holes.ensures))
    (exit_emitted c.args.exit c.jump.result old new c.in_ok-at.at c.in_ok-at.ensures c.in_ok-push.ensures.ok refl refl)
