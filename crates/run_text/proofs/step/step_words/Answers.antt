use Rattle.std.proofs.Common.{◌≡◌, ◌∷◌, [], refl, rules, arith, sym, ◌∙◌}
use Rattle.std.specs.Prelude.{codes}
use Rattle.run_text.specs.ScheduleReading.{coming}
use Rattle.run_text.proofs.Events.{some_coming, none_coming}
use Rattle.run_text.proofs.Steps.{words_one, words_more, words_two, no_long_form}
use Rattle.run_text.proofs.step.step_words.Goals as goal

pub returns-in_default : goal.returns-in_default
returns-in_default c =
    let word : c.cut.result.0.now ≡ codes "step" = search rules in
    let second : coming c.cut.result.1 ≡ c.in_ok-kind.kind.now ∷ coming c.in_ok-kind.rest = first_of (search rules, grind arith, cc) in
    let third : coming c.in_ok-kind.rest ≡ c.in_ok-first.first.now ∷ coming c.in_ok-first.rest = first_of (search rules, grind arith, cc) in
    let last : coming c.in_ok-first.rest ≡ [] = rw c.in_default.is refl in
    rw (words_one c.args.line.now _ _ _ _ _ _ c.cut.ensures.parts word second third last) c.with_one.ensures

pub returns-then-is_some : goal.returns-then-is_some
returns-then-is_some c =
    let word : c.cut.result.0.now ≡ codes "step" = search rules in
    let second : coming c.cut.result.1 ≡ c.in_ok-kind.kind.now ∷ coming c.in_ok-kind.rest = first_of (search rules, grind arith, cc) in
    let third : coming c.in_ok-kind.rest ≡ c.in_ok-first.first.now ∷ coming c.in_ok-first.rest = first_of (search rules, grind arith, cc) in
    let fourth : coming c.in_ok-first.rest ≡ c.cut-2.result.0.now ∷ coming c.cut-2.result.1 = rw c.in-Some.is c.cut-2.ensures.parts in
    no_long_form _ _ _ _ _ (words_more c.args.line.now _ _ _ _ _ _ _ _ c.cut.ensures.parts word second third fourth) (some_coming c.cut-2.result.1 (sym c.is_some.ensures ∙ c.if-is_some.true))

pub returns : goal.returns
returns c =
    let word : c.cut.result.0.now ≡ codes "step" = search rules in
    let second : coming c.cut.result.1 ≡ c.in_ok-kind.kind.now ∷ coming c.in_ok-kind.rest = first_of (search rules, grind arith, cc) in
    let third : coming c.in_ok-kind.rest ≡ c.in_ok-first.first.now ∷ coming c.in_ok-first.rest = first_of (search rules, grind arith, cc) in
    let fourth : coming c.in_ok-first.rest ≡ c.cut-2.result.0.now ∷ coming c.cut-2.result.1 = rw c.in-Some.is c.cut-2.ensures.parts in
    let last : coming c.cut-2.result.1 ≡ [] = none_coming c.cut-2.result.1 (sym c.is_some.ensures ∙ c.if-is_some.false) in
    rw (words_two c.args.line.now _ _ _ _ _ _ _ _ c.cut.ensures.parts word second third fourth last) c.with_two.ensures
