use Rattle.std.proofs.Common.{◌≡◌, List, sym, subst}
use Rattle.flat_code.specs.declared.graph.Task.{Task}
use Rattle.task_cutter.specs.Tasks.{tasks_from}
use Rattle.task_cutter.specs.Numbers.{AreCutBehind}
use Rattle.task_cutter.proofs.Numbering.{tasks_are_cut}
use Rattle.task_cutter.proofs.cut.Goals as goal

pub returns-clause-behind : goal.returns-clause-behind
returns-clause-behind c sets =
    let flat = c.args.flat in
    let all : c.in_ok-tasks.tasks ≡ tasks_from flat.fields c.args.live.now 0 flat.methods = cc (c.in_ok-tasks.ensures, c.as_slice.ensures, c.as_slice-2.ensures, c.as_slice-3.ensures) in
    let P : List Task → Type 0 = λ tasks. AreCutBehind flat (record { class = flat.class; fields = flat.fields; methods = flat.methods; tasks = tasks }) in
    subst P (sym all) (tasks_are_cut flat c.args.live.now sets)
