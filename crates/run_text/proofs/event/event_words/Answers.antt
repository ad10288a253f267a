use Rattle.std.proofs.Common.{◌≡◌, ◌∷◌, List, ℕ, rules, ap, ◌∙◌}
use Rattle.std.specs.Prelude.{codes}
use Rattle.run_text.specs.Lines.{words}
use Rattle.run_text.specs.ScheduleReading.{coming}
use Rattle.run_text.proofs.event.event_words.Goals as goal

pub returns-then-eq : goal.returns-then-eq
returns-then-eq c =
    let first : c.cut.result.0.now ≡ codes "take" = search rules in
    let e : words c.args.line.now ≡ codes "take" ∷ coming c.cut.result.1 = c.cut.ensures.parts ∙ ap (λ (w : List ℕ). w ∷ coming c.cut.result.1) first in
    rw e c.words_of_take.ensures

pub returns-then-eq-2 : goal.returns-then-eq-2
returns-then-eq-2 c =
    let first : c.cut.result.0.now ≡ codes "sink" = search rules in
    let e : words c.args.line.now ≡ codes "sink" ∷ coming c.cut.result.1 = c.cut.ensures.parts ∙ ap (λ (w : List ℕ). w ∷ coming c.cut.result.1) first in
    rw e c.words_of_sink.ensures
