use Rattle.std.proofs.Common.{◌<◌, ◌+◌, length, get_or, drop, Some, sym, ◌∙◌, ap, subst}
use Rattle.std.proofs.lemmas.List.Elements.{All-head}
use Rattle.sdg_base.specs.Operators.{IsNumber}
use Rattle.early_forms.specs.Names.{AtomIsKnown}
use Rattle.early_plain.specs.Scopes.{names_in}
use Rattle.early_plain.proofs.Expressions.{added}
use Rattle.early_plain.proofs.SumTrees.{atom_is, added-first, added-later}
use Rattle.early_plain.proofs.Totals.{sum_of_numbers, known_at_place}
use Rattle.early_plain.proofs.sums.long_of.Goals as goal

pub value_of-requires : goal.value_of-requires
value_of-requires c = known_at_place _ _ _ _ c.loop-atom.atom-index _ c.requires c.as_slice-atom-items.ensures c.loop-atom-test.true c.atom-item.is

pub loop-atom-init : goal.loop-atom-init
loop-atom-init c =
    let names = names_in c.args.scope.now in
    let known = All-head (AtomIsKnown names) c.args.sum.now.first c.args.sum.now.others c.requires in
    let is = atom_is names c.args.scope.now c.args.sum.now.first c.value_of-total.result known c.value_of-total.ensures.value c.value_of-total.ensures.number in
    record { number = c.value_of-total.ensures.number; whole = added-first c.args.scope.now c.args.sum.now.first c.args.sum.now.others c.value_of-total.result is }

pub loop-atom-preserved : goal.loop-atom-preserved
loop-atom-preserved c =
    let scope = c.args.scope.now in
    let others = c.args.sum.now.others in
    let i = c.loop-atom.atom-index in
    let v = c.value_of.result in
    let known = known_at_place _ _ _ _ i _ c.requires c.as_slice-atom-items.ensures c.loop-atom-test.true c.atom-item.is in
    let is = atom_is (names_in scope) scope c.atom-item.result v known c.value_of.ensures.value c.value_of.ensures.number in
    let within : i < length others = rw c.as_slice-atom-items.ensures at c.loop-atom-test.true in
    let at = c.atom-item.is ∙ ap (λ xs. get_or xs i c.atom-item.result) c.as_slice-atom-items.ensures in
    record {
      number = subst IsNumber (sym c.add-total.ensures) (sum_of_numbers c.loop-atom.total v c.loop-atom.invariant.number c.value_of.ensures.number);
      whole =
          ap (λ t. added scope (Some t) (drop (i + 1) others)) c.add-total.ensures
          ∙ added-later scope c.loop-atom.total v others i c.atom-item.result c.loop-atom.invariant.number c.value_of.ensures.number is within at
          ∙ c.loop-atom.invariant.whole;
    }
