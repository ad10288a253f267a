use Rattle.std.proofs.Common.{◌≡◌, ◌≤◌, ℕ, List, Some, length, slice_get, refl, sym, subst}
use Rattle.std.proofs.lemmas.Option.{slice_get_read}
use Rattle.live_vars.specs.Steps.{HaveRead}
use Rattle.live_vars.proofs.Walking.{empty_sets, sets_are_live}
use Rattle.live_vars.proofs.Noting.{one_row}
use Rattle.live_vars.proofs.method.sets_of_code.Goals as goal

pub loop-variable-init : goal.loop-variable-init
loop-variable-init c = empty_sets c.args.code.now c.in_ok-sets.sets.items c.in_ok-sets.ensures

pub walk-requires-clause-readers : goal.walk-requires-clause-readers
walk-requires-clause-readers c =
    let code = c.args.code.now in
    let v = c.loop-variable.variable in
    let row = c.reading-item.result in
    let seen = c.deref-reading-items.result.now in
    let P : List (List ℕ) → Type 0 = λ table. slice_get table v ≡ Some row in
    let is_row = subst P c.deref-reading-items.ensures.value (slice_get_read seen (length seen) v row refl c.loop-variable-test.true c.reading-item.is) in
    let Q : List ℕ → Type 0 = λ readers. HaveRead code v readers in
    subst Q (sym c.as_slice-in-loop-variable.ensures) (one_row code c.in_ok-readers.readers.items v row c.in_ok-readers.ensures.readers is_row)

pub returns : goal.returns
returns c =
    let table = c.in_ok-readers.readers.items in
    let P : List (List ℕ) → Type 0 = λ t. length t ≤ c.loop-variable.variable in
    let all_of = subst P c.deref-reading-items.ensures.value c.loop-variable-test.false in
    sets_are_live c.args.code.now table c.loop-variable.sets.items c.loop-variable.variable all_of c.in_ok-readers.ensures.readers c.loop-variable.invariant
