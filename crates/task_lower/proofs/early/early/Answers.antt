use Rattle.std.proofs.Common.{List, ◌++◌, map, nat_lt, ap, ◌∙◌}
use Rattle.access_blocks.specs.declared.body.Statement.{Statement}
use Rattle.body_code.specs.Early as spec
use Rattle.task_lower.specs.declared.early.Assigned.{Assigned}
use Rattle.task_lower.specs.Early.{noted, early_by}
use Rattle.task_lower.proofs.ReadSets.{early_from_start}
use Rattle.task_lower.proofs.early.early.Goals as goal

pub returns : goal.returns
returns c =
    let arity = c.args.body.now.arity in
    let assigned = λ (ss : List Statement). map noted (spec.all_of (map spec.assigned_in ss)) in
    c.in_ok-early.ensures
    ∙ ap (λ (all : List Assigned). early_by (λ v. nat_lt v arity) all)
    (c.as_slice-2.ensures ∙ c.in_ok-all_assigned.ensures ∙ ap (λ (none : List Assigned). none ++ assigned c.as_slice.result.now) c.new-all.ensures ∙ ap assigned c.as_slice.ensures)
    ∙ early_from_start arity (spec.all_of (map spec.assigned_in c.args.body.now.statements))
