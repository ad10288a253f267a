use Rattle.std.proofs.Common.{ap, sym, ◌∙◌, inl, inr, arith}
use Rattle.std.specs.Ordering.{nat_cmp, is_eq}
use Rattle.std.specs.BTreeSet.{insert_key}
use Rattle.std.specs.Set.{remove_key}
use Rattle.early_cutter.proofs.LiveSets.{insert_filter, remove_filter, none_filter, same_outside}
use Rattle.early_cutter.proofs.liveness.step_back.Goals as goal

pub returns-in_ok-insert-in-Load : goal.returns-in_ok-insert-in-Load
returns-in_ok-insert-in-Load c behind held =
    rw c.in-Load.is (
    c.in_ok-insert-in-Load.ensures.keys ∙ ap (λ keys. insert_key nat_cmp keys c.in-Load.variable) held
    ∙ insert_filter behind c.in-Load.variable 0 c.args.count (omega arith) (omega (arith, c.if-variable-count.true))
    )

pub returns-else-variable-count : goal.returns-else-variable-count
returns-else-variable-count c behind held =
    rw c.in-Load.is (held ∙ same_outside behind c.in-Load.variable 0 c.args.count (omega (arith, c.if-variable-count.false)))

pub returns-in-Store : goal.returns-in-Store
returns-in-Store c behind held =
    rw c.in-Store.is (
    c.remove.ensures.keys ∙ ap (λ keys. remove_key (λ x. is_eq (nat_cmp c.in-Store.variable x)) keys) held
    ∙ remove_filter behind c.in-Store.variable 0 c.args.count
    )

pub returns-in-Return : goal.returns-in-Return
returns-in-Return c behind held =
    let none = c.clear.ensures.empty ∙ sym (none_filter 0 c.args.count) in
    elim c.in-Return.is [ inl is ↦ rw is none | inr is ↦ rw is none ]
