-- What a line of a step breaks, and what it doesn't.
use Rattle.std.proofs.Common.{◌≡◌, ◌≢◌, ℕ, ◌^◌, ◌<◌, inl, inr, List, [], ◌∷◌, length, get_or, Some, None, Result, Ok, Err, refl, sym, ap, ◌∙◌, subst, arith}
use Rattle.std.specs.Prelude.{codes, IfErr}
use Rattle.std.proofs.lemmas.List.{nil_from_length}
use Rattle.std.specs.Fmt.{decimal}
use Rattle.sdg_base.specs.declared.call.Step.{Step as StepOf}
use Rattle.sdg_base.specs.declared.call.Step.TheVariants as step
use Rattle.run_text.specs.declared.field.Field.{Field}
use Rattle.run_text.specs.declared.room.Room.{Room}
use Rattle.run_text.specs.declared.error.HistoryRule.{HistoryRule}
use Rattle.run_text.specs.declared.error.HistoryRule.TheVariants.{Spelling, Header, Step, Reference, Width}
use Rattle.run_text.specs.declared.step.StepWords.{StepWords}
use Rattle.run_text.specs.declared.step.StepWords.TheVariants as w
use Rattle.run_text.specs.Lines.{words, IsWellSpelled}
use Rattle.run_text.specs.Schedules.{Words, IsHeaderForm}
use Rattle.run_text.specs.Histories.{one_words, two_words, step_words, field_name, width_of, Fits, HasRoom, IsBelowSome, IsCallNumber, IsCount, IsNamedPartial, IsStepLine, IsStepForm, OneForm, TwoForm, HasStranger, StrangeCall, StrangeInstance, StrangeField, HasNoRoom, NoInstance, NoGrowth, IsStrayHeader, Breaks, history_rule_number}
use Rattle.run_text.specs.HistoryReading.{words_of, IsRoom, IsStepOf, IsMisplaced, IsNoCall, IsHistoryMisfit, IsLineRefusal}
use Rattle.std.proofs.lemmas.Fmt.{decimal_injective}
use Rattle.run_text.proofs.Fields.{one_partial}
use Rattle.run_text.proofs.Decimal.{count_text}

-- ---- Kinds of steps

pub begin_no_growth : codes "begin" ≢ codes "grow"
begin_no_growth e = omega (arith, ap length e)

pub block_no_growth : codes "block" ≢ codes "grow"
block_no_growth e = omega (arith, ap length e)

pub visit_no_growth : codes "visit" ≢ codes "grow"
visit_no_growth e = omega (arith, ap length e)

pub join_no_growth : codes "join" ≢ codes "grow"
join_no_growth e = omega (arith, ap (λ (bs : List ℕ). get_or bs 0 0) e)

-- the first three words of a step
pub step_begins : (fields : List Field) (s : StepOf) → (kind : List ℕ) × (word : List ℕ) × (more : Words) × (step_words fields s ≡ codes "step" ∷ kind ∷ word ∷ more)
step_begins fields (step.Begin call) = (codes "begin", decimal call, [], refl)
step_begins fields (step.Block call None) = (codes "block", decimal call, [], refl)
step_begins fields (step.Block call (Some i)) = (codes "block", decimal call, decimal i ∷ [], refl)
step_begins fields (step.Visit call i) = (codes "visit", decimal call, decimal i ∷ [], refl)
step_begins fields (step.Join call) = (codes "join", decimal call, [], refl)
step_begins fields (step.Grow field) = (codes "grow", field_name fields field, [], refl)

no_sdg : codes "sdg" ≢ codes "step"
no_sdg e = omega (arith, ap length e)

pub no_header_of_step : (fields : List Field) (s : StepOf) (ws : Words) → ws ≡ step_words fields s → ¬ IsHeaderForm ws
no_header_of_step fields s ws same h =
    let b = step_begins fields s in
    let both = sym h.words ∙ same ∙ b.3 in
    let first : codes "sdg" ≡ codes "step" = cc in no_sdg first

stray_form : (before : Words) (line : List ℕ) → IsStrayHeader before line → IsHeaderForm (words line)
stray_form [] line h = h.0
stray_form (first ∷ others) line h = h

step_form : (fields : List Field) (s : StepOf) (ws : Words) → ws ≡ step_words fields s → IsStepForm ws
step_form fields (step.Begin call) ws same = OneForm (codes "begin") (decimal call) same (inl refl)
step_form fields (step.Block call None) ws same = OneForm (codes "block") (decimal call) same (inr (inl refl))
step_form fields (step.Block call (Some i)) ws same = TwoForm (codes "block") (decimal call) (decimal i) same (inl refl)
step_form fields (step.Visit call i) ws same = TwoForm (codes "visit") (decimal call) (decimal i) same (inr refl)
step_form fields (step.Join call) ws same = OneForm (codes "join") (decimal call) same (inr (inr (inl refl)))
step_form fields (step.Grow field) ws same = OneForm (codes "grow") (field_name fields field) same (inr (inr (inr refl)))

-- one word is not two
one_two : (kind word other call instance : List ℕ) → one_words kind word ≢ two_words other call instance
one_two kind word other call instance e = omega (arith, ap length e)

-- the second letters of the kinds differ
second_letter : (kind other word call : List ℕ) (ws us : Words) → codes "step" ∷ kind ∷ word ∷ ws ≡ codes "step" ∷ other ∷ call ∷ us → get_or kind 1 0 ≡ get_or other 1 0
second_letter kind other word call ws us e = ap (λ (xs : Words). get_or (get_or xs 1 []) 1 0) e

-- ---- What the words behind the kind write

called_one : (fields : List Field) (calls call : ℕ) (kind : List ℕ) → kind ≢ codes "grow" → IsCallNumber calls call → ¬ HasStranger fields calls (one_words kind (decimal call))
called_one fields calls call kind g is (StrangeCall k c more e h none) = let text : decimal call ≡ c = cc in none call is text
called_one fields calls call kind g is (StrangeInstance k c i e none) = one_two kind (decimal call) k c i e
called_one fields calls call kind g is (StrangeField name e none) = let same : kind ≡ codes "grow" = cc in g same

pub called_two : (fields : List Field) (calls call : ℕ) (kind instance : List ℕ) → IsCallNumber calls call → IsCount instance → ¬ HasStranger fields calls (two_words kind (decimal call) instance)
called_two fields calls call kind instance is count (StrangeCall k c more e h none) = let text : decimal call ≡ c = cc in none call is text
called_two fields calls call kind instance is count (StrangeInstance k c i e none) = let text : instance ≡ i = cc in none (subst IsCount text count)
called_two fields calls call kind instance is count (StrangeField name e none) = one_two (codes "grow") name kind (decimal call) instance (sym e)

pub grown_named : (fields : List Field) (calls field : ℕ) (name : List ℕ) → IsNamedPartial fields name field → ¬ HasStranger fields calls (one_words (codes "grow") name)
grown_named fields calls field name is (StrangeCall k c more e h none) = let same : codes "grow" ≡ k = cc in h (sym same)
grown_named fields calls field name is (StrangeInstance k c i e none) = one_two (codes "grow") name k c i e
grown_named fields calls field name is (StrangeField n e none) = let same : name ≡ n = cc in none field (subst (λ (x : List ℕ). IsNamedPartial fields x field) same is)

roomy_one : (fields : List Field) (widths kind word : List ℕ) → kind ≢ codes "grow" → ¬ HasNoRoom fields widths (one_words kind word)
roomy_one fields widths kind word g (NoInstance k c i e none) = one_two kind word k c i e
roomy_one fields widths kind word g (NoGrowth name f e is full) = let same : kind ≡ codes "grow" = cc in g same

roomy_two : (fields : List Field) (widths kind call : List ℕ) (instance : ℕ) → IsBelowSome fields widths instance → ¬ HasNoRoom fields widths (two_words kind call (decimal instance))
roomy_two fields widths kind call instance below (NoInstance k c i e none) = let text : decimal instance ≡ i = cc in none instance below text
roomy_two fields widths kind call instance below (NoGrowth name f e is full) = one_two (codes "grow") name kind call (decimal instance) (sym e)

roomy_growth : (fields : List Field) (widths name : List ℕ) (field : ℕ) → IsNamedPartial fields name field → width_of widths field < 64 → ¬ HasNoRoom fields widths (one_words (codes "grow") name)
roomy_growth fields widths name field is below (NoInstance k c i e none) = one_two (codes "grow") name k c i e
roomy_growth fields widths name field is below (NoGrowth n f e other full) =
    let same : name ≡ n = cc in
    let one : f ≡ field = one_partial fields n f field other (subst (λ (x : List ℕ). IsNamedPartial fields x field) same is) in
    omega (arith, full, below, ap (width_of widths) one)

-- ---- A step's line breaks no rule where the step has room.

pub no_stranger : (fields : List Field) (calls : ℕ) (s : StepOf) (ws : Words) → Fits fields calls s → ws ≡ step_words fields s → ¬ HasStranger fields calls ws
no_stranger fields calls (step.Begin call) ws fits same h = called_one fields calls call (codes "begin") begin_no_growth fits (subst (HasStranger fields calls) same h)
no_stranger fields calls (step.Block call None) ws fits same h = called_one fields calls call (codes "block") block_no_growth fits (subst (HasStranger fields calls) same h)
no_stranger fields calls (step.Block call (Some i)) ws fits same h = called_two fields calls call (codes "block") (decimal i) fits.0 (count_text i (omega (arith, fits.1))) (subst (HasStranger fields calls) same h)
no_stranger fields calls (step.Visit call i) ws fits same h = called_two fields calls call (codes "visit") (decimal i) fits.0 (count_text i (omega (arith, fits.1))) (subst (HasStranger fields calls) same h)
no_stranger fields calls (step.Join call) ws fits same h = called_one fields calls call (codes "join") join_no_growth fits (subst (HasStranger fields calls) same h)
no_stranger fields calls (step.Grow field) ws fits same h = grown_named fields calls field (field_name fields field) fits (subst (HasStranger fields calls) same h)

has_room : (fields : List Field) (calls : ℕ) (widths : List ℕ) (s : StepOf) (ws : Words) → Fits fields calls s → HasRoom fields widths s → ws ≡ step_words fields s → ¬ HasNoRoom fields widths ws
has_room fields calls widths (step.Begin call) ws fits room same h = roomy_one fields widths (codes "begin") (decimal call) begin_no_growth (subst (HasNoRoom fields widths) same h)
has_room fields calls widths (step.Block call None) ws fits room same h = roomy_one fields widths (codes "block") (decimal call) block_no_growth (subst (HasNoRoom fields widths) same h)
has_room fields calls widths (step.Block call (Some i)) ws fits room same h = roomy_two fields widths (codes "block") (decimal call) i room (subst (HasNoRoom fields widths) same h)
has_room fields calls widths (step.Visit call i) ws fits room same h = roomy_two fields widths (codes "visit") (decimal call) i room (subst (HasNoRoom fields widths) same h)
has_room fields calls widths (step.Join call) ws fits room same h = roomy_one fields widths (codes "join") (decimal call) join_no_growth (subst (HasNoRoom fields widths) same h)
has_room fields calls widths (step.Grow field) ws fits room same h = roomy_growth fields widths (field_name fields field) field fits room (subst (HasNoRoom fields widths) same h)

pub step_breaks_none : (fields : List Field) (calls : ℕ) (before : Words) (widths line : List ℕ) (s : StepOf) (rule : HistoryRule) → IsStepLine fields calls line s → HasRoom fields widths s → ¬ Breaks fields calls before widths line rule
step_breaks_none fields calls before widths line s Spelling is room broken = broken is.spelled
step_breaks_none fields calls before widths line s Header is room broken = no_header_of_step fields s (words line) is.words (stray_form before line broken)
step_breaks_none fields calls before widths line s Step is room broken = broken.1 (step_form fields s (words line) is.words)
step_breaks_none fields calls before widths line s Reference is room broken = no_stranger fields calls s (words line) is.fits is.words broken
step_breaks_none fields calls before widths line s Width is room broken = has_room fields calls widths s (words line) is.fits room is.words broken

-- ---- The least rule that a line breaks

pub refused_spelling : (fields : List Field) (calls : ℕ) (widths line : List ℕ) → ¬ IsWellSpelled line → IsLineRefusal fields calls widths line Spelling
refused_spelling fields calls widths line bad = record { behind = λ before stray. record { broken = bad; least = below before } } where
  below : (before : Words) (other : HistoryRule) → history_rule_number other < 1 → ¬ Breaks fields calls before widths line other
  below before Spelling lt broken = omega arith
  below before Header lt broken = omega arith
  below before Step lt broken = omega arith
  below before Reference lt broken = omega arith
  below before Width lt broken = omega arith

pub refused_header : (fields : List Field) (calls : ℕ) (widths line : List ℕ) → IsWellSpelled line → IsHeaderForm (words line) → IsLineRefusal fields calls widths line Header
refused_header fields calls widths line spelled form = record { behind = λ before stray. record { broken = stray form; least = below before } } where
  below : (before : Words) (other : HistoryRule) → history_rule_number other < 2 → ¬ Breaks fields calls before widths line other
  below before Spelling lt broken = broken spelled
  below before Header lt broken = omega arith
  below before Step lt broken = omega arith
  below before Reference lt broken = omega arith
  below before Width lt broken = omega arith

pub refused_step : (fields : List Field) (calls : ℕ) (widths line : List ℕ) → IsWellSpelled line → ¬ IsHeaderForm (words line) → ¬ IsStepForm (words line) → IsLineRefusal fields calls widths line Step
refused_step fields calls widths line spelled header form = record { behind = λ before stray. record { broken = (header, form); least = below before } } where
  below : (before : Words) (other : HistoryRule) → history_rule_number other < 3 → ¬ Breaks fields calls before widths line other
  below before Spelling lt broken = broken spelled
  below before Header lt broken = header (stray_form before line broken)
  below before Step lt broken = omega arith
  below before Reference lt broken = omega arith
  below before Width lt broken = omega arith

form_of_words : (found : StepWords) → IsStepForm (words_of found)
form_of_words (w.Begin call) = OneForm (codes "begin") call.now refl (inl refl)
form_of_words (w.Block call) = OneForm (codes "block") call.now refl (inr (inl refl))
form_of_words (w.BlockAt call instance) = TwoForm (codes "block") call.now instance.now refl (inl refl)
form_of_words (w.Visit call instance) = TwoForm (codes "visit") call.now instance.now refl (inr refl)
form_of_words (w.Join call) = OneForm (codes "join") call.now refl (inr (inr (inl refl)))
form_of_words (w.Grow field) = OneForm (codes "grow") field.now refl (inr (inr (inr refl)))

pub refused_misfit : (fields : List Field) (calls : ℕ) (widths line : List ℕ) (found : StepWords) (rule : HistoryRule) → IsWellSpelled line → ¬ IsHeaderForm (words line) → words line ≡ words_of found → IsHistoryMisfit fields calls widths (words_of found) rule → IsLineRefusal fields calls widths line rule
refused_misfit fields calls widths line found Spelling spelled header same m = absurd m
refused_misfit fields calls widths line found Header spelled header same m = absurd m
refused_misfit fields calls widths line found Step spelled header same m = absurd m
refused_misfit fields calls widths line found Reference spelled header same m = record { behind = λ before stray. record { broken = subst (HasStranger fields calls) (sym same) m; least = below before } } where
  below : (before : Words) (other : HistoryRule) → history_rule_number other < 4 → ¬ Breaks fields calls before widths line other
  below before Spelling lt broken = broken spelled
  below before Header lt broken = header (stray_form before line broken)
  below before Step lt broken = broken.1 (subst IsStepForm (sym same) (form_of_words found))
  below before Reference lt broken = omega arith
  below before Width lt broken = omega arith
refused_misfit fields calls widths line found Width spelled header same m = record { behind = λ before stray. record { broken = subst (HasNoRoom fields widths) (sym same) m.0; least = below before } } where
  below : (before : Words) (other : HistoryRule) → history_rule_number other < 5 → ¬ Breaks fields calls before widths line other
  below before Spelling lt broken = broken spelled
  below before Header lt broken = header (stray_form before line broken)
  below before Step lt broken = broken.1 (subst IsStepForm (sym same) (form_of_words found))
  below before Reference lt broken = m.1 (subst (HasStranger fields calls) same broken)
  below before Width lt broken = omega arith

pub step_line : (fields : List Field) (calls : ℕ) (line : List ℕ) (ws : Words) (s : StepOf) → IsWellSpelled line → words line ≡ ws → IsStepOf fields calls ws s → IsStepLine fields calls line s
step_line fields calls line ws s spelled same is = record { spelled = spelled; fits = is.fits; words = same ∙ is.words }

-- ---- Calls and instances

pub no_such_call : (fields : List Field) (calls : ℕ) (kind call : List ℕ) (more : Words) → kind ≢ codes "grow" → IsNoCall calls call → HasStranger fields calls (codes "step" ∷ kind ∷ call ∷ more)
no_such_call fields calls kind call more g none = StrangeCall kind call more refl g none

-- an instance below the greatest width is below that of some partial field
pub below_some : (fields : List Field) (room : Room) (n : ℕ) → IsRoom fields room → n < room.greatest → IsBelowSome fields room.widths n
below_some fields room n h lt = let r = h.reached (omega (arith, lt)) in (r.0, r.1, omega (arith, lt, r.2))

pub misplaced : (fields : List Field) (calls : ℕ) (room : Room) (kind call instance : List ℕ) (rule : HistoryRule) → IsRoom fields room → kind ≢ codes "grow" → IsMisplaced calls room.greatest call instance rule → IsHistoryMisfit fields calls room.widths (two_words kind call instance) rule
misplaced fields calls room kind call instance Spelling h g m = m
misplaced fields calls room kind call instance Header h g m = m
misplaced fields calls room kind call instance Step h g m = m
misplaced fields calls room kind call instance Reference h g (inl none) = no_such_call fields calls kind call (instance ∷ []) g none
misplaced fields calls room kind call instance Reference h g (inr none) = StrangeInstance kind call instance refl none
misplaced fields calls room kind call instance Width h g m = (NoInstance kind call instance refl none_below, known) where
  none_below : (n : ℕ) → IsBelowSome fields room.widths n → decimal n ≢ instance
  none_below n below = m.0 n (let most = h.most below.0 below.1 in omega (arith, most, below.2))

  known : ¬ HasStranger fields calls (two_words kind call instance)
  known (StrangeCall k c more e other none) = let text : call ≡ c = cc in m.1 (subst (IsNoCall calls) (sym text) none)
  known (StrangeInstance k c i e none) = let text : instance ≡ i = cc in none (subst IsCount text m.2)
  known (StrangeField name e none) = one_two (codes "grow") name kind call instance (sym e)

-- ---- A line is that of one step.

same_call : (calls a b : ℕ) → calls < 2 ^ 32 → IsCallNumber calls a → IsCallNumber calls b → decimal a ≡ decimal b → a ≡ b
same_call calls a b few p q text = decimal_injective a b (omega (arith, p.1)) (omega (arith, q.1)) text

same_instance : (a b : ℕ) → a < 64 → b < 64 → decimal a ≡ decimal b → a ≡ b
same_instance a b p q text = decimal_injective a b (omega arith) (omega arith) text

one_block : (c d i j : ℕ) → c ≡ d → i ≡ j → step.Block c (Some i) ≡ step.Block d (Some j)
one_block c d i j p q = cc

one_visit : (c d i j : ℕ) → c ≡ d → i ≡ j → step.Visit c i ≡ step.Visit d j
one_visit c d i j p q = cc

one_step_of : (fields : List Field) (calls : ℕ) (a b : StepOf) → calls < 2 ^ 32 → Fits fields calls a → Fits fields calls b → step_words fields a ≡ step_words fields b → a ≡ b
one_step_of fields calls (step.Begin c) (step.Begin d) few p q same = let text : decimal c ≡ decimal d = cc in ap (λ (n : ℕ). step.Begin n) (same_call calls c d few p q text)
one_step_of fields calls (step.Block c None) (step.Block d None) few p q same = let text : decimal c ≡ decimal d = cc in ap (λ (n : ℕ). step.Block n None) (same_call calls c d few p q text)
one_step_of fields calls (step.Block c (Some i)) (step.Block d (Some j)) few p q same =
    let text : decimal c ≡ decimal d = cc in
    let other : decimal i ≡ decimal j = cc in
    one_block c d i j (same_call calls c d few p.0 q.0 text) (same_instance i j p.1 q.1 other)
one_step_of fields calls (step.Visit c i) (step.Visit d j) few p q same =
    let text : decimal c ≡ decimal d = cc in
    let other : decimal i ≡ decimal j = cc in
    one_visit c d i j (same_call calls c d few p.0 q.0 text) (same_instance i j p.1 q.1 other)
one_step_of fields calls (step.Join c) (step.Join d) few p q same = let text : decimal c ≡ decimal d = cc in ap (λ (n : ℕ). step.Join n) (same_call calls c d few p q text)
one_step_of fields calls (step.Grow f) (step.Grow g) few p q same =
    let names : field_name fields f ≡ field_name fields g = cc in
    ap (λ (n : ℕ). step.Grow n) (one_partial fields (field_name fields g) f g (subst (λ (x : List ℕ). IsNamedPartial fields x f) names p) q)
one_step_of fields calls (step.Begin c) (step.Block d None) few p q same = absurd (omega (arith, second_letter (codes "begin") (codes "block") _ _ _ _ same))
one_step_of fields calls (step.Begin c) (step.Block d (Some j)) few p q same = absurd (omega (arith, second_letter (codes "begin") (codes "block") _ _ _ _ same))
one_step_of fields calls (step.Begin c) (step.Visit d j) few p q same = absurd (omega (arith, second_letter (codes "begin") (codes "visit") _ _ _ _ same))
one_step_of fields calls (step.Begin c) (step.Join d) few p q same = absurd (omega (arith, second_letter (codes "begin") (codes "join") _ _ _ _ same))
one_step_of fields calls (step.Begin c) (step.Grow g) few p q same = absurd (omega (arith, second_letter (codes "begin") (codes "grow") _ _ _ _ same))
one_step_of fields calls (step.Block c None) (step.Begin d) few p q same = absurd (omega (arith, second_letter (codes "block") (codes "begin") _ _ _ _ same))
one_step_of fields calls (step.Block c None) (step.Block d (Some j)) few p q same = absurd (one_two (codes "block") (decimal c) (codes "block") (decimal d) (decimal j) same)
one_step_of fields calls (step.Block c None) (step.Visit d j) few p q same = absurd (omega (arith, second_letter (codes "block") (codes "visit") _ _ _ _ same))
one_step_of fields calls (step.Block c None) (step.Join d) few p q same = absurd (omega (arith, second_letter (codes "block") (codes "join") _ _ _ _ same))
one_step_of fields calls (step.Block c None) (step.Grow g) few p q same = absurd (omega (arith, second_letter (codes "block") (codes "grow") _ _ _ _ same))
one_step_of fields calls (step.Block c (Some i)) (step.Begin d) few p q same = absurd (omega (arith, second_letter (codes "block") (codes "begin") _ _ _ _ same))
one_step_of fields calls (step.Block c (Some i)) (step.Block d None) few p q same = absurd (one_two (codes "block") (decimal d) (codes "block") (decimal c) (decimal i) (sym same))
one_step_of fields calls (step.Block c (Some i)) (step.Visit d j) few p q same = absurd (omega (arith, second_letter (codes "block") (codes "visit") _ _ _ _ same))
one_step_of fields calls (step.Block c (Some i)) (step.Join d) few p q same = absurd (omega (arith, second_letter (codes "block") (codes "join") _ _ _ _ same))
one_step_of fields calls (step.Block c (Some i)) (step.Grow g) few p q same = absurd (omega (arith, second_letter (codes "block") (codes "grow") _ _ _ _ same))
one_step_of fields calls (step.Visit c i) (step.Begin d) few p q same = absurd (omega (arith, second_letter (codes "visit") (codes "begin") _ _ _ _ same))
one_step_of fields calls (step.Visit c i) (step.Block d None) few p q same = absurd (omega (arith, second_letter (codes "visit") (codes "block") _ _ _ _ same))
one_step_of fields calls (step.Visit c i) (step.Block d (Some j)) few p q same = absurd (omega (arith, second_letter (codes "visit") (codes "block") _ _ _ _ same))
one_step_of fields calls (step.Visit c i) (step.Join d) few p q same = absurd (omega (arith, second_letter (codes "visit") (codes "join") _ _ _ _ same))
one_step_of fields calls (step.Visit c i) (step.Grow g) few p q same = absurd (omega (arith, second_letter (codes "visit") (codes "grow") _ _ _ _ same))
one_step_of fields calls (step.Join c) (step.Begin d) few p q same = absurd (omega (arith, second_letter (codes "join") (codes "begin") _ _ _ _ same))
one_step_of fields calls (step.Join c) (step.Block d None) few p q same = absurd (omega (arith, second_letter (codes "join") (codes "block") _ _ _ _ same))
one_step_of fields calls (step.Join c) (step.Block d (Some j)) few p q same = absurd (omega (arith, second_letter (codes "join") (codes "block") _ _ _ _ same))
one_step_of fields calls (step.Join c) (step.Visit d j) few p q same = absurd (omega (arith, second_letter (codes "join") (codes "visit") _ _ _ _ same))
one_step_of fields calls (step.Join c) (step.Grow g) few p q same = absurd (omega (arith, second_letter (codes "join") (codes "grow") _ _ _ _ same))
one_step_of fields calls (step.Grow f) (step.Begin d) few p q same = absurd (omega (arith, second_letter (codes "grow") (codes "begin") _ _ _ _ same))
one_step_of fields calls (step.Grow f) (step.Block d None) few p q same = absurd (omega (arith, second_letter (codes "grow") (codes "block") _ _ _ _ same))
one_step_of fields calls (step.Grow f) (step.Block d (Some j)) few p q same = absurd (omega (arith, second_letter (codes "grow") (codes "block") _ _ _ _ same))
one_step_of fields calls (step.Grow f) (step.Visit d j) few p q same = absurd (omega (arith, second_letter (codes "grow") (codes "visit") _ _ _ _ same))
one_step_of fields calls (step.Grow f) (step.Join d) few p q same = absurd (omega (arith, second_letter (codes "grow") (codes "join") _ _ _ _ same))

pub one_step : (fields : List Field) (calls : ℕ) (line : List ℕ) (a b : StepOf) → calls < 2 ^ 32 → IsStepLine fields calls line a → IsStepLine fields calls line b → a ≡ b
one_step fields calls line a b few p q = one_step_of fields calls a b few p.fits q.fits (sym p.words ∙ q.words)

-- ---- The words of a line

pub words_one : (line word kind first : List ℕ) (a b c : Words) → words line ≡ word ∷ a → word ≡ codes "step" → a ≡ kind ∷ b → b ≡ first ∷ c → c ≡ [] → words line ≡ one_words kind first
words_one line word kind first a b c p q r s t =
    p ∙ ap (λ (w : List ℕ). w ∷ a) q ∙ ap (λ (ws : Words). codes "step" ∷ ws) (r ∙ ap (λ (ws : Words). kind ∷ ws) (s ∙ ap (λ (ws : Words). first ∷ ws) t))

pub words_more : (line word kind first second : List ℕ) (a b c d : Words) → words line ≡ word ∷ a → word ≡ codes "step" → a ≡ kind ∷ b → b ≡ first ∷ c → c ≡ second ∷ d → words line ≡ codes "step" ∷ kind ∷ first ∷ second ∷ d
words_more line word kind first second a b c d p q r s t =
    p ∙ ap (λ (w : List ℕ). w ∷ a) q ∙ ap (λ (ws : Words). codes "step" ∷ ws) (r ∙ ap (λ (ws : Words). kind ∷ ws) (s ∙ ap (λ (ws : Words). first ∷ ws) t))

pub words_two : (line word kind first second : List ℕ) (a b c d : Words) → words line ≡ word ∷ a → word ≡ codes "step" → a ≡ kind ∷ b → b ≡ first ∷ c → c ≡ second ∷ d → d ≡ [] → words line ≡ two_words kind first second
words_two line word kind first second a b c d p q r s t u =
    words_more line word kind first second a b c d p q r s t ∙ ap (λ (ws : Words). codes "step" ∷ kind ∷ first ∷ second ∷ ws) u

pub no_long_form : (ws : Words) (kind first second : List ℕ) (more : Words) → ws ≡ codes "step" ∷ kind ∷ first ∷ second ∷ more → more ≢ [] → ¬ IsStepForm ws
no_long_form ws kind first second more p long (OneForm k w e is) = omega (arith, ap length (sym p ∙ e))
no_long_form ws kind first second more p long (TwoForm k c i e is) = long (nil_from_length more (omega (arith, ap length (sym p ∙ e))))

pub handed_on : (fields : List Field) (calls : ℕ) (widths line : List ℕ) (found : StepWords) (r : Result StepOf HistoryRule) → IsWellSpelled line → ¬ IsHeaderForm (words line) → words line ≡ words_of found → IfErr r (IsHistoryMisfit fields calls widths (words_of found)) → IfErr r (IsLineRefusal fields calls widths line)
handed_on fields calls widths line found (Ok s) spelled header same h = h
handed_on fields calls widths line found (Err rule) spelled header same h = refused_misfit fields calls widths line found rule spelled header same h
