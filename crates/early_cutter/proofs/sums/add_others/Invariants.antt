use Rattle.std.proofs.Common.{◌≡◌, ◌++◌, ℕ, List, drop}
use Rattle.early_cutter.specs.Scopes.{Numbers}
use Rattle.early_cutter.specs.Sums.{others_code}
use Rattle.early_cutter.proofs.sums.add_others.Given as goal

-- the code so far, and the code of the other atoms
abbrev pub invariant-loop-atom : goal.invariant-loop-atom
invariant-loop-atom l =
    (names : List (List ℕ)) → Numbers l.scope names
    → l.code ++ others_code names l.type_so_far (drop l.atom-index l.others) ≡ l.fn.code ++ others_code names l.fn.first_type l.others
