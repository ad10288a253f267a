use Rattle.std.proofs.Common.{◌≡◌, ◌∷◌, ◌++◌, ◌≢◌, All, None, Some, rules, arith}
use Rattle.run_text.specs.Index.{index_at}
use Rattle.run_text.proofs.Ports.{no_slash_no_cell, no_field_no_cell, no_number_no_cell, none_below, slot_text}
use Rattle.run_text.proofs.port.slot_of.Goals as goal

pub returns-in_err-name : goal.returns-in_err-name
returns-in_err-name c =
    let none : c.from_residual.result ≡ None = search rules in
    rw none (no_slash_no_cell c.args.fields.now c.args.slots c.args.word.now c.requires.not_front c.requires.not_join c.in_err-name.ensures)

pub returns-in_err-field : goal.returns-in_err-field
returns-in_err-field c =
    let none : c.from_residual-in_err-field.result ≡ None = search rules in
    let parts : (c.in_ok-name.name.now ++ 47 ∷ c.in_ok-name.number.now ≡ c.args.word.now) × All (λ b. b ≢ 47) c.in_ok-name.number.now = search rules in
    let at : index_at c.args.index.now c.in_ok-name.name.now ≡ None = first_of (search rules, cc) in
    let absent = rw at at (c.requires.index.first c.in_ok-name.name.now) in
    rw none (no_field_no_cell c.args.fields.now c.args.slots c.args.word.now c.in_ok-name.name.now c.in_ok-name.number.now (omega (arith, c.ranges.slots.fits)) c.requires.not_front c.requires.not_join parts absent)

pub returns-in_err-slot : goal.returns-in_err-slot
returns-in_err-slot c =
    let none : c.from_residual-in_err-slot.result ≡ None = search rules in
    let parts : (c.in_ok-name.name.now ++ 47 ∷ c.in_ok-name.number.now ≡ c.args.word.now) × All (λ b. b ≢ 47) c.in_ok-name.number.now = search rules in
    rw none (no_number_no_cell c.args.fields.now c.args.slots c.args.word.now c.in_ok-name.name.now c.in_ok-name.number.now (omega (arith, c.ranges.slots.fits)) c.requires.not_front c.requires.not_join parts
    (λ n lt e. c.in_err-slot.ensures n (omega arith) (omega (arith, c.ranges.slots.fits)) (first_of (search rules, cc))))

pub returns-then-slot-slots : goal.returns-then-slot-slots
returns-then-slot-slots c =
    let parts : (c.in_ok-name.name.now ++ 47 ∷ c.in_ok-name.number.now ≡ c.args.word.now) × All (λ b. b ≢ 47) c.in_ok-name.number.now = search rules in
    let text : _ ≡ c.in_ok-name.number.now = c.in_ok-slot.ensures.2 in
    no_number_no_cell c.args.fields.now c.args.slots c.args.word.now c.in_ok-name.name.now c.in_ok-name.number.now (omega (arith, c.ranges.slots.fits)) c.requires.not_front c.requires.not_join parts
    (λ n lt. none_below c.args.slots c.in_ok-slot.slot n c.in_ok-name.number.now (omega (arith, c.ranges.slots.fits)) (omega (arith, c.in_ok-slot.ensures.1)) c.if-slot-slots.true text lt)

pub returns : goal.returns
returns c =
    let parts : (c.in_ok-name.name.now ++ 47 ∷ c.in_ok-name.number.now ≡ c.args.word.now) × All (λ b. b ≢ 47) c.in_ok-name.number.now = search rules in
    let at : index_at c.args.index.now c.in_ok-name.name.now ≡ Some c.in_ok-field.field = first_of (search rules, cc) in
    let there = rw at at (c.requires.index.first c.in_ok-name.name.now) in
    slot_text c.args.fields.now c.args.slots c.in_ok-field.field c.in_ok-slot.slot c.args.word.now c.in_ok-name.name.now c.in_ok-name.number.now parts there c.in_ok-slot.ensures.2 (omega arith)
