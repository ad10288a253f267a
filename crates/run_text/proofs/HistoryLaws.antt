-- A text has one answer: its history, or its first break.
use Rattle.std.proofs.Common.{◌≡◌, ℕ, ◌-◌, ◌^◌, ◌<◌, ◌≤◌, List, [], ◌∷◌, length, take, Result, Ok, Err, refl, sym, ap, ◌∙◌, subst, arith, rules, inl, inr, ◌⊎◌}
use Rattle.std.specs.Prelude.{IfOk, IfErr, IsErr, MatchResult}
use Rattle.std.specs.List.{AllZip, AllByRecursion}
use Rattle.std.proofs.lemmas.Bool.{cases_lt}
use Rattle.std.proofs.lemmas.List.{length-append, length-drop}
use Rattle.std.proofs.lemmas.Slice.Zip.{AllZip-long}
use Rattle.sdg_base.specs.declared.call.Step.{Step as StepOf}
use Rattle.run_text.specs.declared.told.History.{History as HistoryOf}
use Rattle.run_text.specs.declared.field.Field.{Field}
use Rattle.run_text.specs.declared.error.HistoryRule.{HistoryRule}
use Rattle.run_text.specs.declared.error.TextError.{TextError}
use Rattle.run_text.specs.declared.error.TextError.TheVariants as x
use Rattle.run_text.specs.Schedules.{Words}
use Rattle.run_text.specs.Histories.{told_numbers, Fits, IsFront, IsStepLine, IsHistory, BreaksAt, IsFirstHistoryBreak, IsHistoryRefusal, HasHistoryBefore, history_rule_number}
use Rattle.run_text.proofs.HistoryText.{numbers_long}
use Rattle.run_text.proofs.HistoryBreaks.{one_history, history_breaks_none}

front_width : (front : Words) (width : ℕ) → IsFront front width → (1 ≤ width) × (width ≤ 64)
front_width [] width h = (omega (arith, h), omega (arith, h))
front_width (line ∷ []) width h = (omega (arith, h.1.range.some_width, h.2), omega (arith, h.1.range.most_width, h.2))
front_width (line ∷ other ∷ more) width h = absurd h

pub range : (fields : List Field) (calls : ℕ) (ls : Words) (r : Result HistoryOf TextError) → IfOk r (IsHistory fields calls ls) → IfOk r (λ h. (1 ≤ h.width) × (h.width ≤ 64))
range fields calls ls (Ok h) is = front_width is.front h.width is.begun
range fields calls ls (Err e) is = tt

all_fit : (fields : List Field) (calls : ℕ) (ls : Words) (steps : List StepOf) → AllZip (IsStepLine fields calls) ls steps → AllByRecursion (Fits fields calls) steps
all_fit fields calls [] [] h = tt
all_fit fields calls [] (s ∷ steps) h = absurd h
all_fit fields calls (l ∷ ls) [] h = absurd h
all_fit fields calls (l ∷ ls) (s ∷ steps) h = (h.0.fits, all_fit fields calls ls steps h.1)

pub fits : (fields : List Field) (calls : ℕ) (ls : Words) (r : Result HistoryOf TextError) → IfOk r (IsHistory fields calls ls) → IfOk r (λ h. AllByRecursion (Fits fields calls) h.steps)
fits fields calls ls (Ok h) is = all_fit fields calls is.others h.steps is.each
fits fields calls ls (Err e) is = tt

pub numbered : (fields : List Field) (calls : ℕ) (ls : Words) (r : Result HistoryOf TextError) → IfOk r (IsHistory fields calls ls) → IfOk r (λ h. length h.lines ≡ length h.steps)
numbered fields calls ls (Ok h) is =
    let steps : length h.steps ≡ length is.others = AllZip-long (IsStepLine fields calls) is.others h.steps is.each in
    omega (arith, steps, ap length is.numbers, length-drop (length is.front) (told_numbers 1 ls), numbers_long 1 ls, ap length is.told, length-append is.front is.others)
numbered fields calls ls (Err e) is = tt

pub broken : (fields : List Field) (calls : ℕ) (ls : Words) (r : Result HistoryOf TextError) (place : ℕ) (rule : HistoryRule) → calls < 2 ^ 32 → IfOk r (IsHistory fields calls ls) → BreaksAt fields calls ls place rule → IsErr r
broken fields calls ls (Ok h) place rule few is b = absurd (history_breaks_none fields calls ls h place rule few is b)
broken fields calls ls (Err e) place rule few is b = search rules

pub only_history : (fields : List Field) (calls : ℕ) (ls : Words) (r : Result HistoryOf TextError) (history : HistoryOf) → calls < 2 ^ 32 → IfOk r (IsHistory fields calls ls) → IfErr r (IsHistoryRefusal fields calls ls) → IsHistory fields calls ls history → MatchResult r (λ found. found ≡ history) (λ error. error ≡ x.Memory)
only_history fields calls ls (Ok found) history few h g is = one_history fields calls ls found history few h is
only_history fields calls ls (Err x.Memory) history few h g is = refl
only_history fields calls ls (Err (x.Bad line rule)) history few h g is = absurd (history_breaks_none fields calls ls history g.place g.which few is g.broken)

move : (fields : List Field) (calls : ℕ) (ls : Words) (i j : ℕ) (rule : HistoryRule) → i ≡ j → BreaksAt fields calls ls i rule → BreaksAt fields calls ls j rule
move fields calls ls i j rule e b = subst (λ (n : ℕ). BreaksAt fields calls ls n rule) e b

one_break : (fields : List Field) (calls : ℕ) (ls : Words) (m n r s : ℕ) → IsFirstHistoryBreak fields calls ls m r → IsFirstHistoryBreak fields calls ls n s → (m ≡ n) × (r ≡ s)
one_break fields calls ls m n r s p q =
    let no_later : q.place ≤ p.place = elim (cases_lt p.place q.place) [ inl lt ↦ absurd (q.first p.place p.which lt p.broken) | inr le ↦ le ] in
    let no_earlier : p.place ≤ q.place = elim (cases_lt q.place p.place) [ inl lt ↦ absurd (p.first q.place q.which lt q.broken) | inr le ↦ le ] in
    let here : p.place ≡ q.place = omega arith in
    let no_more : s ≤ r = elim (cases_lt (history_rule_number p.which) s) [ inl lt ↦ absurd (q.least p.which lt (move fields calls ls p.place q.place p.which here p.broken)) | inr le ↦ omega (arith, p.rule_is) ] in
    let no_less : r ≤ s = elim (cases_lt (history_rule_number q.which) r) [ inl lt ↦ absurd (p.least q.which lt (move fields calls ls q.place p.place q.which (sym here) q.broken)) | inr le ↦ omega (arith, q.rule_is) ] in
    (omega (arith, p.number_is, q.number_is), omega arith)

pub only_bad : (fields : List Field) (calls : ℕ) (ls : Words) (r : Result HistoryOf TextError) (line rule : ℕ) → calls < 2 ^ 32 → IfOk r (IsHistory fields calls ls) → IfErr r (IsHistoryRefusal fields calls ls) → IsFirstHistoryBreak fields calls ls line rule → MatchResult r (λ _. ⊥) (λ error. (error ≡ x.Bad line rule) ⊎ (error ≡ x.Memory))
only_bad fields calls ls (Ok found) line rule few h g first = history_breaks_none fields calls ls found first.place first.which few h first.broken
only_bad fields calls ls (Err x.Memory) line rule few h g first = inr refl
only_bad fields calls ls (Err (x.Bad m r)) line rule few h g first =
    let one = one_break fields calls ls m line r rule g first in
    inl (ap (λ (n : ℕ). x.Bad n r) one.0 ∙ ap (λ (n : ℕ). x.Bad line n) one.1)

pub before : (fields : List Field) (calls : ℕ) (ls : Words) (r : Result HistoryOf TextError) → IfErr r (IsHistoryRefusal fields calls ls) → IfErr r (HasHistoryBefore fields calls ls)
before fields calls ls (Ok found) g = tt
before fields calls ls (Err x.Memory) g = tt
before fields calls ls (Err (x.Bad line rule)) g =
    let place : g.place ≡ line - 1 = omega (arith, g.number_is) in
    (g.broken.before, subst (λ (n : ℕ). IsHistory fields calls (take n ls) g.broken.before) place g.broken.is)
