use Rattle.std.proofs.Common.{refl}
use Rattle.std.proofs.lemmas.List.{take_all}
use Rattle.early_forms.specs.Names.{AtomIsKnown}
use Rattle.early_forms.proofs.Lists.{all_more}
use Rattle.early_forms.proofs.scope.atoms_are_known.Goals as goal

pub loop-atom-preserved : goal.loop-atom-preserved
loop-atom-preserved c names held =
    let known = (c.atom_is_known.ensures names held).0 c.if-not-atom_is_known.false in
    all_more (AtomIsKnown names) c.args.atoms.now c.loop-atom.atom-index c.atom-item.result
    c.loop-atom-test.true c.atom-item.is (c.loop-atom.invariant names held) known

pub returns : goal.returns
returns c names held =
    (λ yes. rw (take_all c.loop-atom.atom-index c.args.atoms.now c.loop-atom-test.false) at (c.loop-atom.invariant names held), λ all. refl)
