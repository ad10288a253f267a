use Rattle.std.proofs.Common.{List, ◌++◌, map, nat_eq, ap, ◌∙◌}
use Rattle.std.specs.HashSet.{contains}
use Rattle.body_code.specs.Early as spec
use Rattle.task_lower.specs.declared.early.Assigned.{Assigned}
use Rattle.task_lower.specs.Early.{noted, with_key}
use Rattle.task_lower.proofs.ReadSets.{noted_behind_key}
use Rattle.task_lower.proofs.early.+assigning.Goals as goal

pub marked-returns : goal.marked-returns
marked-returns t c =
    let old = c.args.all.now in
    let key = contains nat_eq c.in_ok-key.key in
    let reads = spec.key_reads c.args.mark.now.key in
    let body = spec.assigned_in c.args.body.now in
    c.in_ok-behind_key.ensures
    ∙ ap (λ (within : List Assigned). old ++ map (with_key key) within) (c.as_slice.ensures ∙ c.in_ok-note_assigned.ensures ∙ ap (λ (none : List Assigned). none ++ map noted body) c.new-within.ensures)
    ∙ ap (λ (all : List Assigned). old ++ all) (noted_behind_key reads body key c.in_ok-key.ensures)
