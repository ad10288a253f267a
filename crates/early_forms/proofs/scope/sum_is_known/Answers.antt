use Rattle.early_forms.specs.Names.{AtomIsKnown}
use Rattle.early_forms.proofs.Lists.{all_cons}
use Rattle.early_forms.proofs.scope.sum_is_known.Goals as goal

pub returns-then-atom_is_known : goal.returns-then-atom_is_known
returns-then-atom_is_known c names held =
    let sum = c.args.sum.now in
    let split = all_cons (AtomIsKnown names) sum.first sum.others in
    let first = (c.atom_is_known.ensures names held).0 c.if-atom_is_known.true in
    let others = rw c.as_slice.ensures at (c.atoms_are_known.ensures names held) in
    (λ yes. split.1 (first, others.0 yes), λ all. others.1 (split.0 all).1)
