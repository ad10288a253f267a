use Rattle.std.proofs.Common.{drop, sym, ◌∙◌}
use Rattle.access_blocks.specs.Programs.{fields_in}
use Rattle.task_lower.proofs.Paired.{no_holders}
use Rattle.task_lower.proofs.classes.graph_fields.Goals as goal

pub returns-in_default-rest : goal.returns-in_default-rest
returns-in_default-rest c =
    sym (no_holders c.loop-member.all (fields_in (drop c.loop-member.member-index c.args.members.now)) c.loop-member.rest.now c.in_default-rest.len_below) ∙ c.loop-member.invariant
