use Rattle.std.proofs.Common.{◌≡◌, ℕ, pos, ◌-ℤ◌, Option, Some, None, subst, sym, ap, ◌∙◌, w64, arith}
use Rattle.std.proofs.lemmas.Int.{to_z-of_z}
use Rattle.state_classes.specs.Entries.{by_row_and_column, key_after}
use Rattle.state_classes.specs.Walks.{IsNextInRow, column_below}
use Rattle.state_classes.proofs.Rows.{key-before, blank-to_end, next-some}
use Rattle.state_classes.proofs.matrix.next_in_row.Goals as goal

pub returns-in_err-found : goal.returns-in_err-found
returns-in_err-found g c =
    let es = g.H.Held.entries c.args.held.now in
    let start = key-before c.args.row c.args.from c.ranges.row (omega (arith, c.requires.from, c.requires.end)) in
    let none : key_after by_row_and_column (Some (c.args.row, pos c.args.from -ℤ pos 1)) es ≡ None =
    ap (λ k. key_after by_row_and_column (Some k) es) start ∙ sym c.after.ensures.key ∙ c.in_err-found.was in
    let P : Option ℕ → Type 0 = λ r. IsNextInRow c.args.row c.args.from c.args.end es r in
    subst P (sym c.from_residual.ensures) (blank-to_end c.args.row c.args.from es none c.args.end)

pub returns : goal.returns
returns g c =
    let es = g.H.Held.entries c.args.held.now in
    let start = key-before c.args.row c.args.from c.ranges.row (omega (arith, c.requires.from, c.requires.end)) in
    let found : key_after by_row_and_column (Some (c.args.row, pos c.args.from -ℤ pos 1)) es ≡ Some c.in_ok-found.found =
    ap (λ k. key_after by_row_and_column (Some k) es) start ∙ sym c.in_ok-found.ensures.key in
    let P : Option ℕ → Type 0 = λ r. IsNextInRow c.args.row c.args.from c.args.end es r in
    let below : c.column_below.result ≡ column_below c.in_ok-found.found c.args.row c.args.end =
    c.column_below.ensures ∙ ap (λ row. column_below c.in_ok-found.found row c.args.end) (to_z-of_z w64 c.args.row c.ranges.row) in
    subst P (sym below) (next-some c.args.row c.args.from es c.after.ensures.rising c.in_ok-found.found found c.args.end)
