use Rattle.std.proofs.Common.{◌≡◌, None, Some, rules}
use Rattle.run_text.specs.Index.{index_at}
use Rattle.run_text.proofs.Fields.{first_within, no_partial, not_partial, found_partial}
use Rattle.run_text.proofs.index.partial_of.Goals as goal

pub returns-in_err-number : goal.returns-in_err-number
returns-in_err-number c =
    let none : c.from_residual.result ≡ None = search rules in
    let at : index_at c.args.index.now c.args.name.now ≡ None = first_of (search rules, cc) in
    rw none (no_partial c.args.fields.now c.args.name.now (rw at at (c.requires.first c.args.name.now)))

pub bounds-fields-number : goal.bounds-fields-number
bounds-fields-number c =
    let at : index_at c.args.index.now c.args.name.now ≡ Some c.in_ok-number.number = first_of (search rules, cc) in
    first_within c.args.fields.now c.args.name.now c.in_ok-number.number (rw at at (c.requires.first c.args.name.now))

pub bounds-fields-number-in_ok-number : goal.bounds-fields-number-in_ok-number
bounds-fields-number-in_ok-number c =
    let at : index_at c.args.index.now c.args.name.now ≡ Some c.in_ok-number.number = first_of (search rules, cc) in
    first_within c.args.fields.now c.args.name.now c.in_ok-number.number (rw at at (c.requires.first c.args.name.now))

pub returns-then-not-fields-number : goal.returns-then-not-fields-number
returns-then-not-fields-number c =
    let at : index_at c.args.index.now c.args.name.now ≡ Some c.in_ok-number.number = first_of (search rules, cc) in
    not_partial c.args.fields.now c.args.name.now c.in_ok-number.number c.index-fields-number.result (rw at at (c.requires.first c.args.name.now)) c.if-not-fields-number.true

pub returns : goal.returns
returns c =
    let at : index_at c.args.index.now c.args.name.now ≡ Some c.in_ok-number.number = first_of (search rules, cc) in
    found_partial c.args.fields.now c.args.name.now c.in_ok-number.number c.index-fields-number.result (rw at at (c.requires.first c.args.name.now)) c.if-not-fields-number.false
