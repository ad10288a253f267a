use Rattle.std.proofs.Common.{◌≡◌, ◌∷◌, [], None, rules, arith, sym, ◌∙◌, is_some, true}
use Rattle.std.specs.Prelude.{codes}
use Rattle.run_text.specs.ScheduleReading.{coming}
use Rattle.run_text.proofs.Events.{some_coming}
use Rattle.run_text.proofs.header.numerals_of.Goals as goal

pub returns-in_err-stores : goal.returns-in_err-stores
returns-in_err-stores c =
    let none : c.from_residual-in_err-stores.result ≡ None = search rules in
    rw none (λ nodes slots stores width e.
    let first : coming c.cut.result.1 ≡ codes "nodes" ∷ c.in_ok-nodes.nodes.now ∷ coming c.in_ok-nodes.rest = first_of (search rules, grind arith, cc) in
    let second : coming c.in_ok-nodes.rest ≡ codes "slots" ∷ c.in_ok-slots.slots.now ∷ coming c.in_ok-slots.rest = first_of (search rules, grind arith, cc) in
    let whole = sym c.cut.ensures.parts ∙ e in
    c.in_err-stores.ensures stores (codes "width" ∷ width ∷ []) cc)

pub returns-in_err-width : goal.returns-in_err-width
returns-in_err-width c =
    let none : c.from_residual-in_err-width.result ≡ None = search rules in
    rw none (λ nodes slots stores width e.
    let first : coming c.cut.result.1 ≡ codes "nodes" ∷ c.in_ok-nodes.nodes.now ∷ coming c.in_ok-nodes.rest = first_of (search rules, grind arith, cc) in
    let second : coming c.in_ok-nodes.rest ≡ codes "slots" ∷ c.in_ok-slots.slots.now ∷ coming c.in_ok-slots.rest = first_of (search rules, grind arith, cc) in
    let third : coming c.in_ok-slots.rest ≡ codes "stores" ∷ c.in_ok-stores.stores.now ∷ coming c.in_ok-stores.rest = first_of (search rules, grind arith, cc) in
    let whole = sym c.cut.ensures.parts ∙ e in
    c.in_err-width.ensures width [] cc)

pub returns-then-is_some : goal.returns-then-is_some
returns-then-is_some c = λ nodes slots stores width e.
    let first : coming c.cut.result.1 ≡ codes "nodes" ∷ c.in_ok-nodes.nodes.now ∷ coming c.in_ok-nodes.rest = first_of (search rules, grind arith, cc) in
    let second : coming c.in_ok-nodes.rest ≡ codes "slots" ∷ c.in_ok-slots.slots.now ∷ coming c.in_ok-slots.rest = first_of (search rules, grind arith, cc) in
    let third : coming c.in_ok-slots.rest ≡ codes "stores" ∷ c.in_ok-stores.stores.now ∷ coming c.in_ok-stores.rest = first_of (search rules, grind arith, cc) in
    let fourth : coming c.in_ok-stores.rest ≡ codes "width" ∷ c.in_ok-width.width.now ∷ coming c.in_ok-width.rest = first_of (search rules, grind arith, cc) in
    let whole = sym c.cut.ensures.parts ∙ e in
    let some : is_some c.in_ok-width.rest ≡ true = first_of (search rules, cc) in
    some_coming c.in_ok-width.rest some cc
