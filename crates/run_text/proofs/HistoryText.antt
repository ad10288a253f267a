-- The lines of a history, one after the other.
use Rattle.std.proofs.Common.{◌≡◌, ◌≢◌, ℕ, suc, zero, ◌+◌, ◌<◌, ◌≤◌, Bool, true, false, cond, not, List, [], ◌∷◌, ◌++◌, length, take, drop, Some, refl, sym, ap, ◌∙◌, subst, arith, append_assoc}
use Rattle.std.specs.Prelude.{slice_get, replicate}
use Rattle.std.proofs.lemmas.List.{take_all, take-append-drop, append-nil, length-append, length-drop, length-take-le, drop-append-le, length_push}
use Rattle.std.proofs.lemmas.Option.{slice_get_within}
use Rattle.run_text.proofs.Places.{each_push}
use Rattle.std.proofs.lemmas.List.Elements.{filter-append}
use Rattle.std.proofs.lemmas.List.Sums.{fold_push}
use Rattle.sdg_base.specs.declared.call.Step.{Step as StepOf}
use Rattle.placement.specs.declared.event.Header.{Header as HeaderOf}
use Rattle.run_text.specs.declared.told.History.{History}
use Rattle.run_text.specs.declared.field.Field.{Field}
use Rattle.run_text.specs.Schedules.{Words}
use Rattle.run_text.specs.Histories.{is_untold, told_lines, told_numbers, widths_behind, grown, IsFront, IsOpening, IsStepLine, HasRoom, HaveRoom, IsHistory}
use Rattle.run_text.specs.HistoryReading.{IsNextTold, IsBeginning}
use Rattle.run_text.proofs.Arguments.{AllZip_push}
use Rattle.run_text.proofs.Text.{next}

-- ---- Lines that tell something

pub told_push : (ls : Words) (line : List ℕ) → told_lines (ls ++ line ∷ []) ≡ told_lines ls ++ cond (not (is_untold line)) (line ∷ []) []
told_push ls line = filter-append (λ l. not (is_untold l)) ls (line ∷ [])

pub still_untold : (ls : Words) (line : List ℕ) → is_untold line ≡ true → told_lines ls ≡ [] → told_lines (ls ++ line ∷ []) ≡ []
still_untold ls line untold silent = told_push ls line ∙ rw (untold, append-nil (told_lines ls)) silent

pub all_untold : (ls : Words) (i : ℕ) → drop i ls ≡ [] → told_lines (take i ls) ≡ [] → told_lines ls ≡ []
all_untold ls i none silent =
    let short : length ls ≤ i = omega (arith, length-drop i ls, ap length none) in
    subst (λ (xs : Words). told_lines xs ≡ []) (take_all i ls short) silent

-- the numbers where one more line, or none, comes in front
numbers_front : (n : ℕ) (b : Bool) (ns ms more : List ℕ) → ns ≡ ms ++ more → cond b ns (n ∷ ns) ≡ cond b ms (n ∷ ms) ++ more
numbers_front n true ns ms more e = e
numbers_front n false ns ms more e = ap (λ (xs : List ℕ). n ∷ xs) e

numbers_untold : (n : ℕ) (ls : Words) (line : List ℕ) → is_untold line ≡ true → told_numbers n (ls ++ line ∷ []) ≡ told_numbers n ls ++ []
numbers_untold n [] line untold = rw untold refl
numbers_untold n (l ∷ ls) line untold = numbers_front n (is_untold l) (told_numbers (suc n) (ls ++ line ∷ [])) (told_numbers (suc n) ls) [] (numbers_untold (suc n) ls line untold)

-- the number of a line behind others
numbers_told : (n m : ℕ) (ls : Words) (line : List ℕ) → m ≡ n + length ls → is_untold line ≡ false → told_numbers n (ls ++ line ∷ []) ≡ told_numbers n ls ++ m ∷ []
numbers_told n m [] line at told = rw told (let e : n ≡ m = omega arith in ap (λ (k : ℕ). k ∷ []) e)
numbers_told n m (l ∷ ls) line at told = numbers_front n (is_untold l) (told_numbers (suc n) (ls ++ line ∷ [])) (told_numbers (suc n) ls) (m ∷ []) (numbers_told (suc n) m ls line (omega arith) told)

long_front : (n : ℕ) (l : List ℕ) (b : Bool) (ns : List ℕ) (ls : Words) → length ns ≡ length ls → length (cond b ns (n ∷ ns)) ≡ length (cond (not b) (l ∷ ls) ls)
long_front n l true ns ls e = e
long_front n l false ns ls e = ap suc e

-- there are as many numbers as lines that tell something
pub numbers_long : (n : ℕ) (ls : Words) → length (told_numbers n ls) ≡ length (told_lines ls)
numbers_long n [] = refl
numbers_long n (l ∷ ls) = long_front n l (is_untold l) (told_numbers (suc n) ls) (told_lines ls) (numbers_long (suc n) ls)

-- ---- The steps so far

abbrev pub history_of : ℕ → List StepOf → List ℕ → History
history_of width steps numbers = record { width = width; steps = steps; lines = numbers }

-- The first lines are those of the steps. Where none of them tells anything, no header comes.
pub record SoFarTold (fields : List Field) (calls : ℕ) (ls : Words) (number width : ℕ) (steps : List StepOf) (numbers : List ℕ) : Type 0 where
  pub is : IsHistory fields calls (take number ls) (history_of width steps numbers)
  pub headless : told_lines (take number ls) ≡ [] → (line : List ℕ) (others : Words) → told_lines ls ≡ line ∷ others → (h : HeaderOf) → ¬ IsOpening line h

front_at_most_one : (front : Words) (width : ℕ) → IsFront front width → length front ≤ 1
front_at_most_one [] width h = omega arith
front_at_most_one (line ∷ []) width h = omega arith
front_at_most_one (line ∷ other ∷ more) width h = absurd h

no_steps_room : (fields : List Field) (width : ℕ) → HaveRoom fields width []
no_steps_room fields width = record { each = λ place s at. absurd cc }

drop_all : (ns : List ℕ) (k : ℕ) → length ns ≡ k → drop k ns ≡ []
drop_all [] zero e = refl
drop_all [] (suc k) e = refl
drop_all (n ∷ ns) zero e = absurd (omega arith)
drop_all (n ∷ ns) (suc k) e = drop_all ns k (omega arith)

pub told_begun : (fields : List Field) (calls : ℕ) (ls : Words) (number width : ℕ) (more : Words) → IsBeginning ls width number more → SoFarTold fields calls ls number width [] []
told_begun fields calls ls number width more h =
    let front = told_lines (take number ls) in
    let all : drop (length front) (told_numbers 1 (take number ls)) ≡ [] = drop_all (told_numbers 1 (take number ls)) (length front) (numbers_long 1 (take number ls)) in
    record { is = record { front = front; others = []; told = sym (append-nil front); begun = h.begun; each = tt; room = no_steps_room fields width; numbers = sym all }; headless = h.headless }

pub told_skip : (fields : List Field) (calls : ℕ) (ls : Words) (number width : ℕ) (steps : List StepOf) (numbers : List ℕ) (line : List ℕ) → take (number + 1) ls ≡ take number ls ++ line ∷ [] → is_untold line ≡ true → SoFarTold fields calls ls number width steps numbers → SoFarTold fields calls ls (number + 1) width steps numbers
told_skip fields calls ls number width steps numbers line gone untold h =
    let before = take number ls in
    let same : told_lines (take (number + 1) ls) ≡ told_lines before = ap told_lines gone ∙ told_push before line ∙ rw untold (append-nil (told_lines before)) in
    let counted : told_numbers 1 (take (number + 1) ls) ≡ told_numbers 1 before = ap (told_numbers 1) gone ∙ numbers_untold 1 before line untold ∙ append-nil (told_numbers 1 before) in
    record {
      is = record { front = h.is.front; others = h.is.others; told = same ∙ h.is.told; begun = h.is.begun; each = h.is.each; room = h.is.room; numbers = h.is.numbers ∙ ap (λ (ns : List ℕ). drop (length h.is.front) ns) (sym counted) };
      headless = λ none. h.headless (sym same ∙ none);
    }

-- ---- One step more

pub widths_more : (fields width : ℕ) (steps : List StepOf) (s : StepOf) → widths_behind fields width (steps ++ s ∷ []) ≡ grown (widths_behind fields width steps) s
widths_more fields width steps s = fold_push grown (replicate fields width) steps s

one_step_more : (fields : List Field) (width : ℕ) (steps : List StepOf) (s : StepOf) → HaveRoom fields width steps → HasRoom fields (widths_behind (length fields) width steps) s → HaveRoom fields width (steps ++ s ∷ [])
one_step_more fields width steps s h room = record { each = each_push (λ (before : List StepOf) (t : StepOf). HasRoom fields (widths_behind (length fields) width before) t) steps s h.each room }

some_told : (told : Words) (line : List ℕ) → told ++ line ∷ [] ≢ []
some_told told line e = omega (arith, length_push told line, ap length e)

pub told_step : (fields : List Field) (calls : ℕ) (ls : Words) (number width : ℕ) (steps : List StepOf) (numbers : List ℕ) (line : List ℕ) (s : StepOf) → slice_get ls number ≡ Some line → take (number + 1) ls ≡ take number ls ++ line ∷ [] → is_untold line ≡ false → IsStepLine fields calls line s → HasRoom fields (widths_behind (length fields) width steps) s → SoFarTold fields calls ls number width steps numbers → SoFarTold fields calls ls (number + 1) width (steps ++ s ∷ []) (numbers ++ (number + 1) ∷ [])
told_step fields calls ls number width steps numbers line s here gone told is room h =
    let before = take number ls in
    let inside : number < length ls = slice_get_within ls number line here in
    let same : told_lines (take (number + 1) ls) ≡ told_lines before ++ line ∷ [] = ap told_lines gone ∙ told_push before line ∙ rw told refl in
    let at : number + 1 ≡ 1 + length before = omega (arith, length-take-le number ls (omega arith)) in
    let counted : told_numbers 1 (take (number + 1) ls) ≡ told_numbers 1 before ++ (number + 1) ∷ [] = ap (told_numbers 1) gone ∙ numbers_told 1 (number + 1) before line at told in
    let enough : length h.is.front ≤ length (told_numbers 1 before) = omega (arith, numbers_long 1 before, ap length h.is.told, length-append h.is.front h.is.others) in
    record {
      is = record {
        front = h.is.front;
        others = h.is.others ++ line ∷ [];
        told = same ∙ ap (λ (xs : Words). xs ++ line ∷ []) h.is.told ∙ append_assoc h.is.front h.is.others (line ∷ []);
        begun = h.is.begun;
        each = AllZip_push (IsStepLine fields calls) h.is.others steps line s h.is.each is;
        room = one_step_more fields width steps s h.is.room room;
        numbers = ap (λ (ns : List ℕ). ns ++ (number + 1) ∷ []) h.is.numbers ∙ sym (ap (λ (ns : List ℕ). drop (length h.is.front) ns) counted ∙ drop-append-le (length h.is.front) (told_numbers 1 before) ((number + 1) ∷ []) enough);
      };
      headless = λ none. absurd (some_told (told_lines before) line (sym same ∙ none));
    }

pub told_all : (fields : List Field) (calls : ℕ) (ls : Words) (number width : ℕ) (steps : List StepOf) (numbers : List ℕ) → drop number ls ≡ [] → SoFarTold fields calls ls number width steps numbers → IsHistory fields calls ls (history_of width steps numbers)
told_all fields calls ls number width steps numbers none h =
    let short : length ls ≤ number = omega (arith, length-drop number ls, ap length none) in
    subst (λ (xs : Words). IsHistory fields calls xs (history_of width steps numbers)) (take_all number ls short) h.is

-- ---- The beginning

pub begun_headed : (ls : Words) (passed : ℕ) (line : List ℕ) (more : Words) (h : HeaderOf) → IsNextTold ls passed line more → IsOpening line h → IsBeginning ls h.width (passed + 1) more
begun_headed ls passed line more h n is =
    let next_line = next ls passed line more n.coming in
    let same : told_lines (take (passed + 1) ls) ≡ line ∷ [] = ap told_lines next_line.gone ∙ told_push (take passed ls) line ∙ rw (n.silent, n.told) refl in
    record { begun = subst (λ (xs : Words). IsFront xs h.width) (sym same) (h, is, refl); coming = next_line.coming; headless = λ none. absurd (let e : line ∷ [] ≡ [] = sym same ∙ none in cc) }

first_told : (ls : Words) (passed : ℕ) (line : List ℕ) (more : Words) → IsNextTold ls passed line more → told_lines ls ≡ line ∷ told_lines more
first_told ls passed line more n =
    let whole : ls ≡ take passed ls ++ line ∷ more = sym (take-append-drop passed ls) ∙ ap (λ (xs : Words). take passed ls ++ xs) n.coming in
    ap told_lines whole ∙ filter-append (λ l. not (is_untold l)) (take passed ls) (line ∷ more) ∙ rw (n.silent, n.told) refl

first_line : (a b : List ℕ) (xs ys : Words) → a ∷ xs ≡ b ∷ ys → a ≡ b
first_line a b xs ys e = cc

pub begun_plain : (ls : Words) (passed : ℕ) (line : List ℕ) (more : Words) → IsNextTold ls passed line more → ((h : HeaderOf) → ¬ IsOpening line h) → IsBeginning ls 1 0 ls
begun_plain ls passed line more n none =
    record { begun = refl; coming = refl; headless = λ silent other others at h is. none h (subst (λ (l : List ℕ). IsOpening l h) (first_line other line others (told_lines more) (sym at ∙ first_told ls passed line more n)) is) }
