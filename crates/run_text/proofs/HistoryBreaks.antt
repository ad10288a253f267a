-- Lines of a history break no rule, and so a text has one first break.
use Rattle.std.proofs.Common.{◌≡◌, ℕ, suc, zero, ◌+◌, ◌^◌, ◌<◌, Bool, true, false, List, [], ◌∷◌, ◌++◌, length, take, drop, get_or, Some, refl, sym, ap, ◌∙◌, subst, arith}
use Rattle.std.specs.Prelude.{slice_get, codes}
use Rattle.std.specs.List.{AllZip}
use Rattle.std.specs.Fmt.{decimal}
use Rattle.std.proofs.lemmas.Fmt.{decimal_injective}
use Rattle.std.proofs.lemmas.List.{take-take}
use Rattle.sdg_base.specs.declared.call.Step.{Step as StepOf}
use Rattle.placement.specs.declared.event.Header.{Header as HeaderOf}
use Rattle.run_text.specs.declared.told.History.{History}
use Rattle.run_text.specs.declared.field.Field.{Field}
use Rattle.run_text.specs.declared.error.HistoryRule.{HistoryRule}
use Rattle.run_text.specs.declared.error.HistoryRule.TheVariants.{Spelling, Header, Step, Reference, Width}
use Rattle.run_text.specs.Lines.{words}
use Rattle.run_text.specs.Schedules.{Words, IsHeaderForm}
use Rattle.run_text.specs.Histories.{is_untold, told_lines, told_numbers, widths_behind, IsFront, IsOpening, IsStepLine, HasRoom, HaveRoom, IsHistory, HasStranger, StrangeCall, StrangeInstance, StrangeField, HasNoRoom, NoInstance, NoGrowth, IsStrayHeader, Breaks, BreaksAt, IsFirstHistoryBreak, history_rule_number}
use Rattle.run_text.specs.HistoryReading.{IsLineRefusal}
use Rattle.run_text.proofs.Decimal.{count_text}
use Rattle.run_text.proofs.Rules.{slice_get-take}
use Rattle.run_text.proofs.Text.{same_line}
use Rattle.run_text.proofs.Places.{each_here}
use Rattle.run_text.proofs.Steps.{step_begins, step_breaks_none, one_step}
use Rattle.run_text.proofs.HistoryText.{SoFarTold, history_of}

-- ---- A header is no step.

sdg_step : (ws us vs : Words) → ws ≡ codes "sdg" ∷ us → ws ≡ codes "step" ∷ vs → ⊥
sdg_step ws us vs p q = omega (arith, ap (λ (xs : Words). length (get_or xs 0 [])) (sym p ∙ q))

opening_no_step : (fields : List Field) (calls : ℕ) (line : List ℕ) (h : HeaderOf) (s : StepOf) → IsOpening line h → ¬ IsStepLine fields calls line s
opening_no_step fields calls line h s is step =
    let b = step_begins fields s in sdg_step (words line) _ _ is.words (step.words ∙ b.3)

header_form : (line : List ℕ) (h : HeaderOf) → IsOpening line h → IsHeaderForm (words line)
header_form line h is = record {
  nodes = decimal h.nodes;
  slots = decimal h.slots;
  stores = decimal h.stores;
  width = decimal h.width;
  words = is.words;
  nodes_number = (count_text h.nodes (omega (arith, is.range.most_nodes))).number;
  slots_number = (count_text h.slots (omega (arith, is.range.most_slots))).number;
  stores_number = (count_text h.stores (omega (arith, is.range.most_stores))).number;
  width_number = (count_text h.width (omega (arith, is.range.most_width))).number;
}

no_stranger_opens : (fields : List Field) (calls : ℕ) (ws us : Words) → ws ≡ codes "sdg" ∷ us → ¬ HasStranger fields calls ws
no_stranger_opens fields calls ws us sdg (StrangeCall k c more e g none) = sdg_step ws us _ sdg e
no_stranger_opens fields calls ws us sdg (StrangeInstance k c i e none) = sdg_step ws us _ sdg e
no_stranger_opens fields calls ws us sdg (StrangeField name e none) = sdg_step ws us _ sdg e

roomy_opens : (fields : List Field) (widths : List ℕ) (ws us : Words) → ws ≡ codes "sdg" ∷ us → ¬ HasNoRoom fields widths ws
roomy_opens fields widths ws us sdg (NoInstance k c i e none) = sdg_step ws us _ sdg e
roomy_opens fields widths ws us sdg (NoGrowth name f e is full) = sdg_step ws us _ sdg e

opening_breaks_none : (fields : List Field) (calls : ℕ) (widths line : List ℕ) (h : HeaderOf) (rule : HistoryRule) → IsOpening line h → ¬ Breaks fields calls [] widths line rule
opening_breaks_none fields calls widths line h Spelling is broken = broken is.spelled
opening_breaks_none fields calls widths line h Header is broken = broken.1 h is
opening_breaks_none fields calls widths line h Step is broken = broken.0 (header_form line h is)
opening_breaks_none fields calls widths line h Reference is broken = no_stranger_opens fields calls (words line) _ is.words broken
opening_breaks_none fields calls widths line h Width is broken = roomy_opens fields widths (words line) _ is.words broken

one_width : (line : List ℕ) (a b : HeaderOf) → IsOpening line a → IsOpening line b → a.width ≡ b.width
one_width line a b p q =
    let text : decimal a.width ≡ decimal b.width = ap (λ (ws : Words). get_or ws 8 []) (sym p.words ∙ q.words) in
    decimal_injective a.width b.width (omega (arith, p.range.most_width)) (omega (arith, q.range.most_width)) text

-- ---- Lines have one list of steps.

pub one_list : (fields : List Field) (calls : ℕ) (ls : Words) (a b : List StepOf) → calls < 2 ^ 32 → AllZip (IsStepLine fields calls) ls a → AllZip (IsStepLine fields calls) ls b → a ≡ b
one_list fields calls [] [] [] few p q = refl
one_list fields calls [] [] (y ∷ b) few p q = absurd q
one_list fields calls [] (x ∷ a) b few p q = absurd p
one_list fields calls (l ∷ ls) [] b few p q = absurd p
one_list fields calls (l ∷ ls) (x ∷ a) [] few p q = absurd q
one_list fields calls (l ∷ ls) (x ∷ a) (y ∷ b) few p q =
    ap (λ (s : StepOf). s ∷ a) (one_step fields calls l x y few p.0 q.0) ∙ ap (λ (more : List StepOf). y ∷ more) (one_list fields calls ls a b few p.1 q.1)

-- the steps of the lines before one, its step, and the steps behind it
record Cut (fields : List Field) (calls : ℕ) (before : Words) (line : List ℕ) (steps : List StepOf) : Type 0 where
  front : List StepOf
  here : StepOf
  back : List StepOf
  whole : steps ≡ front ++ here ∷ back
  each : AllZip (IsStepLine fields calls) before front
  is : IsStepLine fields calls line here

cut_at : (fields : List Field) (calls : ℕ) (before after : Words) (line : List ℕ) (steps : List StepOf) → AllZip (IsStepLine fields calls) (before ++ line ∷ after) steps → Cut fields calls before line steps
cut_at fields calls [] after line [] h = absurd h
cut_at fields calls [] after line (s ∷ steps) h = record { front = []; here = s; back = steps; whole = refl; each = tt; is = h.0 }
cut_at fields calls (b ∷ before) after line [] h = absurd h
cut_at fields calls (b ∷ before) after line (s ∷ steps) h =
    let c = cut_at fields calls before after line steps h.1 in
    record { front = s ∷ c.front; here = c.here; back = c.back; whole = ap (λ (more : List StepOf). s ∷ more) c.whole; each = (h.0, c.each); is = c.is }

room_at : (fields : List Field) (width : ℕ) (steps front back : List StepOf) (here : StepOf) → steps ≡ front ++ here ∷ back → HaveRoom fields width steps → HasRoom fields (widths_behind (length fields) width front) here
room_at fields width steps front back here whole h =
    each_here (λ (before : List StepOf) (t : StepOf). HasRoom fields (widths_behind (length fields) width before) t) front back here (subst (HaveRoom fields width) whole h).each

steps_break_none : (fields : List Field) (calls : ℕ) (told before after : Words) (line : List ℕ) (width : ℕ) (steps earlier : List StepOf) (rule : HistoryRule) → calls < 2 ^ 32 → AllZip (IsStepLine fields calls) (before ++ line ∷ after) steps → HaveRoom fields width steps → AllZip (IsStepLine fields calls) before earlier → ¬ Breaks fields calls told (widths_behind (length fields) width earlier) line rule
steps_break_none fields calls told before after line width steps earlier rule few each room so_far =
    let c = cut_at fields calls before after line steps each in
    let same : c.front ≡ earlier = one_list fields calls before c.front earlier few c.each so_far in
    step_breaks_none fields calls told (widths_behind (length fields) width earlier) line c.here rule c.is
    (subst (λ (xs : List StepOf). HasRoom fields (widths_behind (length fields) width xs) c.here) same (room_at fields width steps c.front c.back c.here c.whole room))

-- ---- Whatever stands in front of the steps

head_of : (a b : List ℕ) (xs ys : Words) → a ∷ xs ≡ b ∷ ys → a ≡ b
head_of a b xs ys e = ap (λ (ws : Words). get_or ws 0 []) e

tail_of : (a b : List ℕ) (xs ys : Words) → a ∷ xs ≡ b ∷ ys → xs ≡ ys
tail_of a b xs ys e = ap (λ (ws : Words). drop 1 ws) e

-- no first line of steps is a header
no_step_first : (fields : List Field) (calls : ℕ) (x : List ℕ) (more others : Words) (steps : List StepOf) (width : ℕ) → others ≡ x ∷ more → AllZip (IsStepLine fields calls) others steps → ¬ IsFront (x ∷ []) width
no_step_first fields calls x more others steps width e each h = first steps (subst (λ (xs : Words). AllZip (IsStepLine fields calls) xs steps) e each) where
  first : (ss : List StepOf) → AllZip (IsStepLine fields calls) (x ∷ more) ss → ⊥
  first [] z = z
  first (s ∷ ss) z = opening_no_step fields calls x h.0 s h.1 z.0

-- two readings of what stands in front
record SameSplit (front others other_front other_others : Words) (width other_width : ℕ) : Type 0 where
  fronts : front ≡ other_front
  others_same : others ≡ other_others
  widths : width ≡ other_width

same_split : (fields : List Field) (calls : ℕ) (front others front2 others2 : Words) (width width2 : ℕ) (steps steps2 : List StepOf) → front ++ others ≡ front2 ++ others2 → IsFront front width → IsFront front2 width2 → AllZip (IsStepLine fields calls) others steps → AllZip (IsStepLine fields calls) others2 steps2 → SameSplit front others front2 others2 width width2
same_split fields calls [] others [] others2 width width2 steps steps2 e f g p q = record { fronts = refl; others_same = e; widths = f ∙ sym g }
same_split fields calls [] others (y ∷ []) others2 width width2 steps steps2 e f g p q = absurd (no_step_first fields calls y others2 others steps width2 e p g)
same_split fields calls (x ∷ []) others [] others2 width width2 steps steps2 e f g p q = absurd (no_step_first fields calls x others others2 steps2 width (sym e) q f)
same_split fields calls (x ∷ []) others (y ∷ []) others2 width width2 steps steps2 e f g p q =
    let same : x ≡ y = head_of x y others others2 e in
    record {
      fronts = ap (λ (l : List ℕ). l ∷ []) same;
      others_same = tail_of x y others others2 e;
      widths = sym f.2 ∙ one_width y f.0 g.0 (subst (λ (l : List ℕ). IsOpening l f.0) same f.1) g.1 ∙ g.2;
    }
same_split fields calls (x ∷ z ∷ more) others front2 others2 width width2 steps steps2 e f g p q = absurd f
same_split fields calls [] others (y ∷ z ∷ more) others2 width width2 steps steps2 e f g p q = absurd g
same_split fields calls (x ∷ []) others (y ∷ z ∷ more) others2 width width2 steps steps2 e f g p q = absurd g

made_history : (w : ℕ) (ss : List StepOf) (ns : List ℕ) (v : ℕ) (ts : List StepOf) (ms : List ℕ) → w ≡ v → ss ≡ ts → ns ≡ ms → history_of w ss ns ≡ history_of v ts ms
made_history w ss ns v ts ms p q r = cc

pub one_history : (fields : List Field) (calls : ℕ) (ls : Words) (g h : History) → calls < 2 ^ 32 → IsHistory fields calls ls g → IsHistory fields calls ls h → g ≡ h
one_history fields calls ls g h few p q =
    let s = same_split fields calls p.front p.others q.front q.others g.width h.width g.steps h.steps (sym p.told ∙ q.told) p.begun q.begun p.each q.each in
    let steps : g.steps ≡ h.steps = one_list fields calls q.others g.steps h.steps few (subst (λ (xs : Words). AllZip (IsStepLine fields calls) xs g.steps) s.others_same p.each) q.each in
    let lines : g.lines ≡ h.lines = p.numbers ∙ ap (λ (xs : Words). drop (length xs) (told_numbers 1 ls)) s.fronts ∙ sym q.numbers in
    made_history g.width g.steps g.lines h.width h.steps h.lines s.widths steps lines

-- ---- A line of a history breaks no rule.

-- the line at a place of the told lines, and those before it
record ToldAt (ls : Words) (place : ℕ) (line : List ℕ) : Type 0 where
  after : Words
  whole : told_lines ls ≡ told_lines (take place ls) ++ line ∷ after

told_after : (l : List ℕ) (ls : Words) (line : List ℕ) (i : ℕ) (b : Bool) → is_untold l ≡ b → ToldAt ls i line → ToldAt (l ∷ ls) (suc i) line
told_after l ls line i true s h = record { after = h.after; whole = rw s h.whole }
told_after l ls line i false s h = record { after = h.after; whole = rw s (ap (λ (xs : Words). l ∷ xs) h.whole) }

told_at : (ls : Words) (i : ℕ) (line : List ℕ) → slice_get ls i ≡ Some line → is_untold line ≡ false → ToldAt ls i line
told_at [] i line here told = absurd cc
told_at (l ∷ ls) zero line here told =
    let same : l ≡ line = cc in
    let s : is_untold l ≡ false = ap is_untold same ∙ told in
    record { after = told_lines ls; whole = rw s (ap (λ (x : List ℕ). x ∷ told_lines ls) same) }
told_at (l ∷ ls) (suc i) line here told = told_after l ls line i (is_untold l) refl (told_at ls i line here told)

breaks_none_of : (fields : List Field) (calls : ℕ) (front others front2 before after : Words) (line : List ℕ) (width width2 : ℕ) (steps earlier : List StepOf) (rule : HistoryRule) → calls < 2 ^ 32
    → front ++ others ≡ (front2 ++ before) ++ line ∷ after → IsFront front width → IsFront front2 width2 → AllZip (IsStepLine fields calls) others steps → AllZip (IsStepLine fields calls) before earlier → HaveRoom fields width steps
    → ¬ Breaks fields calls (front2 ++ before) (widths_behind (length fields) width2 earlier) line rule
breaks_none_of fields calls [] others [] before after line width width2 steps earlier rule few e f g p q room broken =
    steps_break_none fields calls before before after line width2 steps earlier rule few (subst (λ (xs : Words). AllZip (IsStepLine fields calls) xs steps) e p) (subst (λ (w : ℕ). HaveRoom fields w steps) (f ∙ sym g) room) q broken
breaks_none_of fields calls [] others (y ∷ []) before after line width width2 steps earlier rule few e f g p q room broken =
    no_step_first fields calls y (before ++ line ∷ after) others steps width2 e p g
breaks_none_of fields calls (x ∷ []) others [] [] after line width width2 steps earlier rule few e f g p q room broken =
    let same : x ≡ line = head_of x line others after e in
    opening_breaks_none fields calls (widths_behind (length fields) width2 earlier) line f.0 rule (subst (λ (l : List ℕ). IsOpening l f.0) same f.1) broken
breaks_none_of fields calls (x ∷ []) others [] (b ∷ before) after line width width2 steps earlier rule few e f g p q room broken =
    let same : x ≡ b = head_of x b others (before ++ line ∷ after) e in
    no_step_first fields calls b before (b ∷ before) earlier width refl q (subst (λ (l : List ℕ). IsFront (l ∷ []) width) same f)
breaks_none_of fields calls (x ∷ []) others (y ∷ []) before after line width width2 steps earlier rule few e f g p q room broken =
    let same : x ≡ y = head_of x y others (before ++ line ∷ after) e in
    let later : others ≡ before ++ line ∷ after = tail_of x y others (before ++ line ∷ after) e in
    let one : width ≡ width2 = sym f.2 ∙ one_width y f.0 g.0 (subst (λ (l : List ℕ). IsOpening l f.0) same f.1) g.1 ∙ g.2 in
    steps_break_none fields calls (y ∷ before) before after line width2 steps earlier rule few (subst (λ (xs : Words). AllZip (IsStepLine fields calls) xs steps) later p) (subst (λ (w : ℕ). HaveRoom fields w steps) one room) q broken
breaks_none_of fields calls (x ∷ z ∷ more) others front2 before after line width width2 steps earlier rule few e f g p q room broken = f
breaks_none_of fields calls [] others (y ∷ z ∷ more) before after line width width2 steps earlier rule few e f g p q room broken = g
breaks_none_of fields calls (x ∷ []) others (y ∷ z ∷ more) before after line width width2 steps earlier rule few e f g p q room broken = g

pub history_breaks_none : (fields : List Field) (calls : ℕ) (ls : Words) (h : History) (place : ℕ) (rule : HistoryRule) → calls < 2 ^ 32 → IsHistory fields calls ls h → ¬ BreaksAt fields calls ls place rule
history_breaks_none fields calls ls h place rule few are b =
    let at = told_at ls place b.line b.here b.told in
    let whole : are.front ++ are.others ≡ (b.is.front ++ b.is.others) ++ b.line ∷ at.after = sym are.told ∙ at.whole ∙ ap (λ (xs : Words). xs ++ b.line ∷ at.after) b.is.told in
    breaks_none_of fields calls are.front are.others b.is.front b.is.others at.after b.line h.width b.before.width h.steps b.before.steps rule few whole are.begun b.is.begun are.each b.is.each are.room
    (subst (λ (xs : Words). Breaks fields calls xs (widths_behind (length fields) b.before.width b.before.steps) b.line rule) b.is.told b.broken)

-- a break of one of the first lines is one of the text that they make
pub break_in_front : (fields : List Field) (calls : ℕ) (ls : Words) (n i : ℕ) (rule : HistoryRule) → i < n → BreaksAt fields calls ls i rule → BreaksAt fields calls (take n ls) i rule
break_in_front fields calls ls n i rule lt b =
    let e : take i ls ≡ take i (take n ls) = sym (take-take i n ls (omega arith)) in
    record {
      line = b.line;
      here = slice_get-take n ls i lt ∙ b.here;
      told = b.told;
      before = b.before;
      is = subst (λ (xs : Words). IsHistory fields calls xs b.before) e b.is;
      broken = subst (λ (xs : Words). Breaks fields calls (told_lines xs) (widths_behind (length fields) b.before.width b.before.steps) b.line rule) e b.broken;
    }

-- ---- The first break

-- a header form behind the lines so far is a stray header
is_stray : (told : Words) (line : List ℕ) → (told ≡ [] → (h : HeaderOf) → ¬ IsOpening line h) → IsHeaderForm (words line) → IsStrayHeader told line
is_stray [] line none form = (form, none refl)
is_stray (first ∷ others) line none form = form

pub told_refused : (fields : List Field) (calls : ℕ) (ls : Words) (i width : ℕ) (steps : List StepOf) (numbers widths line : List ℕ) (rule : HistoryRule) → calls < 2 ^ 32 → SoFarTold fields calls ls i width steps numbers → widths ≡ widths_behind (length fields) width steps → slice_get ls i ≡ Some line → is_untold line ≡ false → IsLineRefusal fields calls widths line rule → IsFirstHistoryBreak fields calls ls (i + 1) (history_rule_number rule)
told_refused fields calls ls i width steps numbers widths line rule few so_far same here told refused =
    let at = told_at ls i line here told in
    let stray : IsHeaderForm (words line) → IsStrayHeader (told_lines (take i ls)) line = is_stray (told_lines (take i ls)) line (λ none. so_far.headless none line at.after (at.whole ∙ ap (λ (xs : Words). xs ++ line ∷ at.after) none)) in
    let least = refused.behind (told_lines (take i ls)) stray in
    let history = history_of width steps numbers in
    record {
      place = i;
      which = rule;
      number_is = refl;
      rule_is = refl;
      broken = record { line = line; here = here; told = told; before = history; is = so_far.is; broken = subst (λ (ws : List ℕ). Breaks fields calls (told_lines (take i ls)) ws line rule) same least.broken };
      least = λ other lt b.
          let lines : b.line ≡ line = same_line b.line line (sym b.here ∙ here) in
          let one : b.before ≡ history = one_history fields calls (take i ls) b.before history few b.is so_far.is in
          let broken = subst (λ (h : History). Breaks fields calls (told_lines (take i ls)) (widths_behind (length fields) h.width h.steps) b.line other) one b.broken in
          least.least other lt (subst (λ (l : List ℕ). Breaks fields calls (told_lines (take i ls)) widths l other) lines (subst (λ (ws : List ℕ). Breaks fields calls (told_lines (take i ls)) ws b.line other) (sym same) broken));
      first = λ earlier other lt b. history_breaks_none fields calls (take i ls) history earlier other few so_far.is (break_in_front fields calls ls i earlier other lt b);
    }
