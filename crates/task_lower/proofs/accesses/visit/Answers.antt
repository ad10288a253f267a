use Rattle.std.proofs.Common.{◌++◌, map, length, ap, ◌∙◌}
use Rattle.flat_code.specs.declared.graph.Instr.TheVariants as instr
use Rattle.std.specs.List.{range_with_len}
use Rattle.task_lower.proofs.Carried.{visit_emitted}
use Rattle.task_lower.proofs.accesses.visit.Goals as goal

pub returns : goal.returns
returns c =
    let old = c.args.draft.now in
    let loads = ap (λ n. old.code ++ map instr.Load (range_with_len n c.len-2.result)) c.len.ensures ∙ ap (λ n. old.code ++ map instr.Load (range_with_len (length old.variables) n)) c.len-2.ensures in
    visit_emitted c.args.scope.now c.args.gather.now old c.count_task.new.draft c.load_arguments.new.code c.access_field.new.code c.argument_types.result.now
    (c.in_ok-load_arguments.ensures.is ∙ loads) c.in_ok-access_field.ensures.is (c.in_ok-count_task.ensures.code ∙ c.in_ok-push.ensures.is) c.in_ok-count_task.ensures.tasks c.argument_types.ensures
    (c.in_ok-count_task.ensures.variables ∙ c.in_ok-declare_arguments.ensures)
