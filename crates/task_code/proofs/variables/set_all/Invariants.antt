use Rattle.std.proofs.Common.{◌≡◌, drop}
use Rattle.flat_code.specs.Items.{set_all}
use Rattle.task_code.proofs.variables.set_all.Given as goal

-- setting what is left sets all
abbrev pub invariant-loop-at : goal.invariant-loop-at
invariant-loop-at l = set_all (drop l.at l.numbers) (drop l.at l.values) l.variables.items ≡ set_all l.numbers l.values l.fn.variables.items
