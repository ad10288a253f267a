use Rattle.std.proofs.Common.{◌≡◌, ◌∷◌, rules, arith, ap, is_some}
use Rattle.run_text.specs.ScheduleReading.{coming}
use Rattle.run_text.proofs.Events.{some_coming, no_more_taken}
use Rattle.run_text.proofs.event.words_of_take.Goals as goal

pub returns-in-Some : goal.returns-in-Some
returns-in-Some c =
    let first : coming c.args.later ≡ c.in_ok-to.to.now ∷ coming c.in_ok-to.rest = first_of (search rules, grind arith, cc) in
    let second : coming c.in_ok-to.rest ≡ c.in_ok-from.from.now ∷ coming c.in_ok-from.rest = first_of (search rules, grind arith, cc) in
    let third : coming c.in_ok-from.rest ≡ c.in_ok-pick.pick.now ∷ coming c.in_ok-pick.rest = first_of (search rules, grind arith, cc) in
    no_more_taken _ _ _ _ _ _ _ first second third (some_coming c.in_ok-pick.rest (ap is_some c.in-Some.is))
