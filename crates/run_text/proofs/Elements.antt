-- A vector between its brackets.
use Rattle.std.proofs.Common.{◌≡◌, ◌≢◌, ℕ, ◌+◌, ◌<◌, eqb, List, [], ◌∷◌, ◌++◌, length, map, get_or, All, ℤ, pos, refl, sym, ap, ◌∙◌, arith, false, true, eq-eqb}
use Rattle.std.specs.Prelude.{FitsSigned}
use Rattle.std.specs.List.{slice_split, join_with_byte, AllByRecursion}
use Rattle.std.specs.Fmt.{signed_decimal}
use Rattle.std.specs.Int.{w64}
use Rattle.std.proofs.lemmas.List.{get_or_at, get_or-map, length-map, length-append, append_cancel_right}
use Rattle.std.proofs.lemmas.List.Elements.{recursion_from_All, All-weaker}
use Rattle.std.proofs.lemmas.List.Splits.{slice_split_none, slice_split_at, join_with_byte-slice_split}
use Rattle.sdg_base.specs.declared.val.Val.TheVariants as v
use Rattle.run_text.specs.declared.entrance.ValueType.TheVariants as t
use Rattle.run_text.specs.Values.{FitVector, value_text, IsNoValue}
use Rattle.run_text.proofs.Parts.{differs}
use Rattle.run_text.proofs.Decimal.{lacks}

-- ---- Joined parts are cut again.

abbrev pub Lack : ℕ → List (List ℕ) → Type 0
Lack c pieces = AllByRecursion (λ piece. All (λ b. b ≢ c) piece) pieces

pub split_join : (c : ℕ) (piece : List ℕ) (pieces : List (List ℕ)) → Lack c (piece ∷ pieces) → slice_split (λ b. eqb b c) (join_with_byte c (piece ∷ pieces)) ≡ piece ∷ pieces
split_join c piece [] h = slice_split_none (λ b. eqb b c) piece (All-weaker (λ b. b ≢ c) (λ b. eqb b c ≡ false) (differs c) piece h.0)
split_join c piece (second ∷ pieces) h =
    slice_split_at (λ b. eqb b c) piece c (join_with_byte c (second ∷ pieces)) (All-weaker (λ b. b ≢ c) (λ b. eqb b c ≡ false) (differs c) piece h.0) (eq-eqb c c refl)
    ∙ ap (λ (ps : List (List ℕ)). piece ∷ ps) (split_join c second pieces h.1)

lack_commas : (ns : List ℤ) → AllByRecursion (FitsSigned w64) ns → Lack 44 (map signed_decimal ns)
lack_commas [] h = tt
lack_commas (n ∷ ns) h = (lacks 44 (λ e. absurd (omega arith)) (λ r. absurd (omega (arith, r.0))) n h.0, lack_commas ns h.1)

pub split_elements : (n : ℤ) (ns : List ℤ) → FitVector (n ∷ ns) → slice_split (λ b. eqb b 44) (join_with_byte 44 (map signed_decimal (n ∷ ns))) ≡ map signed_decimal (n ∷ ns)
split_elements n ns fit = split_join 44 (signed_decimal n) (map signed_decimal ns) (lack_commas (n ∷ ns) (recursion_from_All (FitsSigned w64) (n ∷ ns) fit.1))

-- ---- An element that is no number

pub no_element : (done ns : List ℤ) (element : List ℕ) (more texts : List (List ℕ)) → FitVector ns → map signed_decimal done ++ (element ∷ more) ≡ texts → map signed_decimal ns ≡ texts → ((n : ℤ) → FitsSigned w64 n → signed_decimal n ≢ element) → ⊥
no_element done ns element more texts fit told same none =
    let e : map signed_decimal done ++ (element ∷ more) ≡ map signed_decimal ns = told ∙ sym same in
    let len : length done + length (element ∷ more) ≡ length ns = sym (length-append (map signed_decimal done) (element ∷ more) ∙ ap (λ n. n + length (element ∷ more)) (length-map done signed_decimal)) ∙ ap length e ∙ length-map ns signed_decimal in
    let within : length done < length ns = omega arith in
    let here : get_or (map signed_decimal done ++ (element ∷ more)) (length done) [] ≡ element = get_or_at (map signed_decimal done) element more [] (length done) (length-map done signed_decimal) in
    let there : get_or (map signed_decimal ns) (length done) [] ≡ signed_decimal (get_or ns (length done) (pos 0)) = get_or-map signed_decimal ns (length done) (pos 0) [] within in
    none (get_or ns (length done) (pos 0)) (fit.1 (length done) (pos 0) within) (sym there ∙ ap (λ (ts : List (List ℕ)). get_or ts (length done) []) (sym e) ∙ here)

-- ---- The whole word

pub vector_text : (ns : List ℤ) (inner word : List ℕ) → map signed_decimal ns ≡ slice_split (λ b. eqb b 44) inner → ◌≡◌ {A = List ℕ} (91 ∷ (inner ++ 93 ∷ [])) word → value_text (v.Vector ns) ≡ word
vector_text ns inner word same whole =
    ap (λ (text : List ℕ). 91 ∷ (text ++ 93 ∷ [])) (ap (join_with_byte 44) same ∙ join_with_byte-slice_split 44 inner) ∙ whole

pub same_inner : (a b word : List ℕ) → ◌≡◌ {A = List ℕ} (91 ∷ (a ++ 93 ∷ [])) word → ◌≡◌ {A = List ℕ} (91 ∷ (b ++ 93 ∷ [])) word → a ≡ b
same_inner a b word p q = let e : a ++ 93 ∷ [] ≡ b ++ 93 ∷ [] = cc in append_cancel_right a b (93 ∷ []) e

pub no_vector : (inner word : List ℕ) → inner ≢ [] → ((ns : List ℤ) → FitVector ns → map signed_decimal ns ≢ slice_split (λ b. eqb b 44) inner) → ◌≡◌ {A = List ℕ} (91 ∷ (inner ++ 93 ∷ [])) word → IsNoValue t.Vector word
no_vector inner word some none whole (v.Vector []) fits e = some (sym (same_inner [] inner word e whole))
no_vector inner word some none whole (v.Vector (n ∷ ns)) fits e =
    let inside = same_inner (join_with_byte 44 (map signed_decimal (n ∷ ns))) inner word e whole in
    none (n ∷ ns) fits (sym (split_elements n ns fits) ∙ ap (slice_split (λ b. eqb b 44)) inside)
no_vector inner word some none whole (v.Int n) fits e = absurd fits
no_vector inner word some none whole (v.Long n) fits e = absurd fits
no_vector inner word some none whole (v.Bool b) fits e = absurd fits
no_vector inner word some none whole v.Unit fits e = absurd fits

pub not_empty : (bytes : List ℕ) → eqb (length bytes) 0 ≡ false → bytes ≢ []
not_empty bytes h e = let zero_long : eqb (length bytes) 0 ≡ true = ap (λ (bs : List ℕ). eqb (length bs) 0) e in cc
