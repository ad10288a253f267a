use Rattle.std.proofs.Common.{◌≡◌, ℕ, ◌||◌, nat_eq, drop}
use Rattle.std.specs.HashSet.{contains}
use Rattle.body_code.specs.Typing.{needs_of_all}
use Rattle.body_code.specs.Early.{is_in}
use Rattle.task_lower.proofs.needs.+noting.Given as goal

abbrev pub invariant-note_reads_in-loop-e : goal.invariant-note_reads_in-loop-e
invariant-note_reads_in-loop-e l = (v : ℕ) →
    (is_in v (needs_of_all (drop l.e-index l.all)).variables || contains nat_eq l.known v) ≡ (is_in v (needs_of_all l.all).variables || contains nat_eq l.initial.known v)
