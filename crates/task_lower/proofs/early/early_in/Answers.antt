use Rattle.std.proofs.Common.{◌+◌, ◌++◌, ◌||◌, ℕ, List, drop, nat_eq, nat_lt, sym, ap, ◌∙◌, arith}
use Rattle.std.specs.HashSet.{contains}
use Rattle.task_lower.specs.declared.early.Assigned.{Assigned}
use Rattle.task_lower.specs.Early.{early_by}
use Rattle.task_lower.proofs.ReadSets.{dropped}
use Rattle.task_lower.proofs.early.early_in.Goals as goal

pub loop-a-preserved : goal.loop-a-preserved
loop-a-preserved c =
    let all = c.args.all.now in
    let i = c.loop-a.a-index in
    let f = λ (v : ℕ). nat_lt v c.args.arity || contains nat_eq c.loop-a.seen v in
    c.in_ok-assign.ensures.rest (drop (i + 1) all) ∙ ap (λ (rest : List Assigned). c.loop-a.early ++ early_by f rest) (sym (dropped all i _ (omega arith))) ∙ c.loop-a.invariant
