use Rattle.std.proofs.Common.{List, ap, subst, ◌∙◌}
use Rattle.access_blocks.specs.declared.body.Statement.{Statement}
use Rattle.body_code.specs.Completing.{body_completes}
use Rattle.body_code.specs.StatementCode.{pieces_of}
use Rattle.body_code.specs.ClassCode.{members_of}
use Rattle.task_lower.specs.Drafting.{Emits}
use Rattle.task_lower.proofs.Bodied.{scope_is, body_is}
use Rattle.task_lower.proofs.bodies.body_draft.Goals as goal

pub returns-clause-code : goal.returns-clause-code
returns-clause-code c =
    let b = c.args.body.now in
    let vs = c.as_slice-variables.ensures in
    let scope = c.new-scope.result in
    let P : List Statement → Type 0 = λ ss. Emits (pieces_of scope ss) c.in_ok-draft.draft c.statements.new.draft c.in_ok-holes.holes in
    body_is c.args.fields.now c.args.methods.now b c.args.task scope c.in_ok-draft.draft c.statements.new.draft c.in_ok-holes.holes c.fill.new.code c.end.new.code c.body_completes.result
    (scope_is scope c.args.fields.now c.args.methods.now b.variables (members_of b.kind b.variables) c.new-scope.ensures.fields c.new-scope.ensures.methods (c.new-scope.ensures.variables ∙ vs)
    (c.new-scope.ensures.members ∙ c.members_of.ensures ∙ ap (members_of b.kind) vs))
    c.in_ok-draft.ensures.code c.in_ok-draft.ensures.place (subst P c.as_slice.ensures c.in_ok-holes.ensures) c.fill.ensures
    (c.body_completes.ensures ∙ ap body_completes c.as_slice-2.ensures) c.in_ok-end.ensures
