use Rattle.std.proofs.Common.{◌≡◌, drop}
use Rattle.early_task_code.specs.Machine.{set_all}
use Rattle.early_task_code.proofs.variables.set_all.Given as goal

-- setting what is left sets all
abbrev pub invariant-loop-at : goal.invariant-loop-at
invariant-loop-at l = set_all (drop l.at l.numbers) (drop l.at l.values) l.vars ≡ set_all l.numbers l.values l.fn.vars
