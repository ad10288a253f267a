use Rattle.std.proofs.Common.{[], refl}
use Rattle.body_code.specs.StatementCode.{of_code, key_code, cut}
use Rattle.task_lower.specs.declared.draft.Draft.{Draft}
use Rattle.task_lower.proofs.Emitted.{code_emitted, then_emitted}
use Rattle.task_lower.proofs.accesses.mark.Goals as goal

pub returns : goal.returns
returns c =
    let old = c.args.draft.now in
    let next : Draft = record { code = c.key.new.code; tasks = old.tasks; variables = old.variables } in
    let key = key_code c.args.scope.now c.args.mark.now.key in
    then_emitted (of_code key) cut old next c.cut.new.draft [] [] (code_emitted key old next c.in_ok-key.ensures refl refl) c.in_ok-cut.ensures
