use Rattle.std.proofs.Common.{◌≡◌, ◌∷◌, rules, arith, ap, is_some}
use Rattle.run_text.specs.ScheduleReading.{coming}
use Rattle.run_text.proofs.Events.{some_coming, no_more_sunk}
use Rattle.run_text.proofs.event.words_of_sink.Goals as goal

pub returns-in-Some : goal.returns-in-Some
returns-in-Some c =
    let first : coming c.args.later ≡ c.in_ok-from.from.now ∷ coming c.in_ok-from.rest = first_of (search rules, grind arith, cc) in
    no_more_sunk _ _ _ first (some_coming c.in_ok-from.rest (ap is_some c.in-Some.is))
