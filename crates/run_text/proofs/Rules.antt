-- What a line breaks, and what it doesn't.
use Rattle.std.proofs.Common.{◌≡◌, ◌≢◌, ℕ, suc, zero, ◌+◌, ◌^◌, ◌<◌, ◌≤◌, List, [], ◌∷◌, length, map, take, drop, Option, Some, refl, sym, ap, ◌∙◌, subst, arith, inl, inr}
use Rattle.std.specs.Prelude.{slice_get, count_by, ◌==◌, option_map}
use Rattle.std.specs.List.{AllZip}
use Rattle.std.proofs.lemmas.Bool.{cases_lt}
use Rattle.std.proofs.lemmas.List.{length-map}
use Rattle.std.proofs.lemmas.List.Splits.{length-slice_split}
use Rattle.std.proofs.lemmas.Option.{slice_get_within, get_or_from_slice_get, slice_get-map}
use Rattle.std.proofs.lemmas.Slice.Zip.{AllZip-long}
use Rattle.sdg_base.specs.declared.val.Val.{Val}
use Rattle.sdg_base.specs.declared.call.Call.{Call}
use Rattle.run_text.specs.declared.entrance.ValueType.{ValueType}
use Rattle.run_text.specs.declared.entrance.Entrance.{Entrance}
use Rattle.run_text.specs.declared.error.CallRule.{CallRule}
use Rattle.run_text.specs.declared.error.CallRule.TheVariants.{Spelling, Method, Count, Value, Limit}
use Rattle.run_text.specs.declared.error.LineError.{LineError}
use Rattle.run_text.specs.declared.error.LineError.TheVariants as e
use Rattle.run_text.specs.Lines.{words, IsWellSpelled}
use Rattle.run_text.specs.Values.{Fits, value_text}
use Rattle.run_text.specs.Calls.{IsMethod, IsCall, IsNamed, HasMisfit, Breaks, number_of}
use Rattle.run_text.specs.Reading.{IsLeastBreak, IsMisfit}

-- ---- The method that a line names

abbrev entry : Entrance → Option Entrance
entry d = Some d

abbrev word : List ℕ → Option (List ℕ)
word w = Some w

one_entry : (d b : Entrance) → entry d ≡ entry b → d ≡ b
one_entry d b h = cc

one_word : (a b : List ℕ) → word a ≡ word b → a ≡ b
one_word a b h = cc

pub is_named : (es : List Entrance) (m : ℕ) (d : Entrance) (line : List ℕ) (more : List (List ℕ)) → IsMethod es m d → words line ≡ d.name ∷ more → IsNamed es line d
is_named es m d line more method parts =
    record { place = m; method = method; name = ap (λ (ws : List (List ℕ)). slice_get ws 0) parts }

pub slice_get-take : {A : Type 0} (n : ℕ) (xs : List A) (i : ℕ) → i < n → slice_get (take n xs) i ≡ slice_get xs i
slice_get-take zero xs i lt = absurd (omega arith)
slice_get-take (suc n) [] i lt = refl
slice_get-take (suc n) (x ∷ xs) zero lt = refl
slice_get-take (suc n) (x ∷ xs) (suc i) lt = slice_get-take n xs i (omega arith)

no_later : (es : List Entrance) (i j : ℕ) (a b : Entrance) → IsMethod es i a → IsMethod es j b → a.name ≡ b.name → j ≤ i
no_later es i j a b p q names =
    elim (cases_lt i j) [
      | inl lt ↦
          let at = slice_get-take j es i lt ∙ p.entry in
          let differs = q.first i a (slice_get_within (take j es) i a at) in
          absurd (differs (ap (λ (x : Entrance). x.name) (get_or_from_slice_get (take j es) i a a at) ∙ names))
      | inr le ↦ le
    ]

one_place : (es : List Entrance) (i j : ℕ) (a b : Entrance) → IsMethod es i a → IsMethod es j b → a.name ≡ b.name → i ≡ j
one_place es i j a b p q names = omega (arith, no_later es i j a b p q names, no_later es j i b a q p (sym names))

pub one_method : (es : List Entrance) (i j : ℕ) (a b : Entrance) → IsMethod es i a → IsMethod es j b → a.name ≡ b.name → a ≡ b
one_method es i j a b p q names = one_entry a b (sym p.entry ∙ ap (slice_get es) (one_place es i j a b p q names) ∙ q.entry)

pub one_named : (es : List Entrance) (line : List ℕ) (a b : Entrance) → IsNamed es line a → IsNamed es line b → (a ≡ b)
one_named es line a b p q = one_method es p.place q.place a b p.method q.method (one_word a.name b.name (sym p.name ∙ q.name))

-- ---- What a line doesn't break

pub method_stands : (es : List Entrance) (before : ℕ) (line : List ℕ) (d : Entrance) → IsNamed es line d → ¬ Breaks es before line Method
method_stands es before line d named none =
    none named.place d (slice_get_within es named.place d named.method.entry) (named.name ∙ ap (λ (x : Entrance). word x.name) (sym (get_or_from_slice_get es named.place d d named.method.entry)))

pub count_stands : (es : List Entrance) (before : ℕ) (line : List ℕ) (d : Entrance) → IsNamed es line d → length (words line) ≡ length d.parameters + 1 → ¬ Breaks es before line Count
count_stands es before line d named same broken =
    let one = one_named es line d broken.0 named broken.1 in
    broken.2 (same ∙ ap (λ (x : Entrance). length x.parameters + 1) one)

zip_at : {A B : Type 0} (R : A → B → Type 0) (xs : List A) (ys : List B) (k : ℕ) (x : A) → AllZip R xs ys → slice_get xs k ≡ Some x → (y : B) × (slice_get ys k ≡ Some y) × R x y
zip_at R [] ys k x h at = absurd cc
zip_at R (a ∷ xs) [] k x h at = absurd h
zip_at R (a ∷ xs) (b ∷ ys) zero x h at = let same : a ≡ x = cc in (b, refl, subst (λ (z : _). R z b) same h.0)
zip_at R (a ∷ xs) (b ∷ ys) (suc k) x h at = zip_at R xs ys k x h.1 at

value_fits : (parameters : List ValueType) (args : List Val) (texts : List (List ℕ)) → AllZip Fits parameters args → map value_text args ≡ texts → ¬ HasMisfit parameters texts
value_fits parameters args texts fit same m =
    let v = zip_at Fits parameters args m.place m.parameter fit m.at_parameter in
    let text : word (value_text v.0) ≡ word m.arg = sym (slice_get-map value_text args m.place ∙ ap (option_map value_text) v.1) ∙ ap (λ (ts : List (List ℕ)). slice_get ts m.place) same ∙ m.at_arg in
    m.no_value v.0 v.2 (one_word (value_text v.0) m.arg text)

pub value_stands : (es : List Entrance) (before : ℕ) (line : List ℕ) (d : Entrance) (args : List Val) → IsNamed es line d → AllZip Fits d.parameters args → map value_text args ≡ drop 1 (words line) → ¬ Breaks es before line Value
value_stands es before line d args named fit same broken =
    let one = one_named es line broken.0 d broken.1 named in
    value_fits d.parameters args (drop 1 (words line)) fit same (subst (λ (x : Entrance). HasMisfit x.parameters (drop 1 (words line))) one broken.2)

-- a call's line breaks no rule where there is room
pub call_breaks_none : (es : List Entrance) (before : ℕ) (line : List ℕ) (call : Call) (rule : CallRule) → IsCall es line call → before < 2 ^ 16 → ¬ Breaks es before line rule
call_breaks_none es before line call Spelling c room broken = broken c.spelled
call_breaks_none es before line call Method c room broken =
    method_stands es before line c.fits.entrance (is_named es c.fits.place c.fits.entrance line (map value_text call.args) c.method c.words) broken
call_breaks_none es before line call Count c room broken =
    let long : length (words line) ≡ length c.fits.entrance.parameters + 1 = omega (arith, ap length c.words, length-map call.args value_text, AllZip-long Fits c.fits.entrance.parameters call.args c.fits.args) in
    count_stands es before line c.fits.entrance (is_named es c.fits.place c.fits.entrance line (map value_text call.args) c.method c.words) long broken
call_breaks_none es before line call Value c room broken =
    value_stands es before line c.fits.entrance call.args (is_named es c.fits.place c.fits.entrance line (map value_text call.args) c.method c.words) c.fits.args (sym (ap (drop 1) c.words)) broken
call_breaks_none es before line call Limit c room broken = omega arith

-- ---- The least rule that a line breaks

pub least_count : (es : List Entrance) (before : ℕ) (line : List ℕ) (d : Entrance) → IsWellSpelled line → IsNamed es line d → length (words line) ≢ length d.parameters + 1 → IsLeastBreak es before line (e.Breaks Count)
least_count es before line d spelled named differs = ((d, named, differs), below) where
  below : (other : CallRule) → number_of other < 3 → ¬ Breaks es before line other
  below Spelling lt broken = broken spelled
  below Method lt broken = method_stands es before line d named broken
  below Count lt broken = omega arith
  below Value lt broken = omega arith
  below Limit lt broken = omega arith

pub least_value : (es : List Entrance) (before : ℕ) (line : List ℕ) (d : Entrance) → IsWellSpelled line → IsNamed es line d → length (words line) ≡ length d.parameters + 1 → HasMisfit d.parameters (drop 1 (words line)) → IsLeastBreak es before line (e.Breaks Value)
least_value es before line d spelled named same misfit = ((d, named, misfit), below) where
  below : (other : CallRule) → number_of other < 4 → ¬ Breaks es before line other
  below Spelling lt broken = broken spelled
  below Method lt broken = method_stands es before line d named broken
  below Count lt broken = count_stands es before line d named same broken
  below Value lt broken = omega arith
  below Limit lt broken = omega arith

pub least_limit : (es : List Entrance) (before : ℕ) (line : List ℕ) (call : Call) → IsCall es line call → 2 ^ 16 ≤ before → IsLeastBreak es before line (e.Breaks Limit)
least_limit es before line call c full = (full, below) where
  below : (other : CallRule) → number_of other < 5 → ¬ Breaks es before line other
  below Spelling lt = call_breaks_none es 0 line call Spelling c (omega arith)
  below Method lt = call_breaks_none es 0 line call Method c (omega arith)
  below Count lt = call_breaks_none es 0 line call Count c (omega arith)
  below Value lt = call_breaks_none es 0 line call Value c (omega arith)
  below Limit lt = absurd (omega arith)

-- ---- How many words a line has

pub words_long : (line : List ℕ) → length (words line) ≡ count_by (λ b. b == 32) line + 1
words_long line = length-slice_split (λ b. b == 32) line

-- ---- The entry method that was found

-- what is known of a line whose method was found
pub record Found (es : List Entrance) (m : ℕ) (d : Entrance) (line : List ℕ) : Type 0 where
  pub spelled : IsWellSpelled line
  pub method : IsMethod es m d
  pub others : List (List ℕ)
  pub parts : words line ≡ d.name ∷ others

pub found : (es : List Entrance) (m : ℕ) (d : Entrance) (line name : List ℕ) (others : List (List ℕ)) → IsWellSpelled line → IsMethod es m d × (d.name ≡ name) → words line ≡ name ∷ others → Found es m d line
found es m d line name others spelled method parts =
    record { spelled = spelled; method = method.0; others = others; parts = parts ∙ ap (λ (n : List ℕ). n ∷ others) (sym method.1) }

named : (es : List Entrance) (m : ℕ) (d : Entrance) (line : List ℕ) → Found es m d line → IsNamed es line d
named es m d line f = is_named es m d line f.others f.method f.parts

pub found_count : (es : List Entrance) (m : ℕ) (d : Entrance) (line : List ℕ) (n before : ℕ) → Found es m d line → n ≡ count_by (λ b. b == 32) line → n ≢ length d.parameters → IsLeastBreak es before line (e.Breaks Count)
found_count es m d line n before f counted differs =
    least_count es before line d f.spelled (named es m d line f) (λ same. differs (omega (arith, words_long line)))

pub found_args : (es : List Entrance) (m : ℕ) (d : Entrance) (line : List ℕ) (n before : ℕ) (error : LineError) → Found es m d line → n ≡ count_by (λ b. b == 32) line → n ≡ length d.parameters → IsMisfit d.parameters (drop 1 (words line)) error → IsLeastBreak es before line error
found_args es m d line n before e.Memory f counted same misfit = tt
found_args es m d line n before (e.Breaks Value) f counted same misfit =
    least_value es before line d f.spelled (named es m d line f) (omega (arith, words_long line)) misfit
found_args es m d line n before (e.Breaks Spelling) f counted same misfit = absurd misfit
found_args es m d line n before (e.Breaks Method) f counted same misfit = absurd misfit
found_args es m d line n before (e.Breaks Count) f counted same misfit = absurd misfit
found_args es m d line n before (e.Breaks Limit) f counted same misfit = absurd misfit

pub found_call : (es : List Entrance) (m : ℕ) (d : Entrance) (line : List ℕ) (args : List Val) → Found es m d line → AllZip Fits d.parameters args × (map value_text args ≡ drop 1 (words line)) → IsCall es line (record { method = d.number; args = args })
found_call es m d line args f h =
    record {
      spelled = f.spelled;
      fits = record { place = m; entrance = d; method = f.method.entry; number = refl; args = h.0 };
      method = f.method;
      words = f.parts ∙ ap (λ (ws : List (List ℕ)). d.name ∷ ws) (sym (h.1 ∙ ap (drop 1) f.parts));
    }
