use Rattle.std.proofs.Common.{ℕ, List, All, take}
use Rattle.early_forms.specs.Names.{AtomIsKnown}
use Rattle.early_forms.specs.Scope.{Holds}
use Rattle.early_forms.proofs.scope.atoms_are_known.Given as goal

abbrev pub invariant-loop-atom : goal.invariant-loop-atom
invariant-loop-atom l = (names : List (List ℕ)) → Holds l.scope.keys names → All (AtomIsKnown names) (take l.atom-index l.atoms)
