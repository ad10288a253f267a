-- Cutting a text into parts.
use Rattle.std.proofs.Common.{◌≡◌, ◌≢◌, ℕ, ◌+◌, Bool, true, false, cond, eqb, List, [], ◌∷◌, ◌++◌, take, drop, get_or, All, refl, sym, ap, ◌∙◌, arith}
use Rattle.std.specs.List.{slice_split, onto_first}
use Rattle.std.specs.Str.Lines.{lines, lines_of_parts, strip_carriage_return}
use Rattle.std.proofs.lemmas.List.{take-append-drop, drop_more, drop-drop}
use Rattle.std.proofs.lemmas.List.Elements.{All-weaker}
use Rattle.std.proofs.lemmas.List.Splits.{slice_split_none, slice_split_at}
use Rattle.std.proofs.lemmas.Bool.Decides.{nat_tests}
use Rattle.run_text.specs.Parts.{IsFirstPlace}

abbrev is_at : ℕ → ℕ → Bool
is_at c b = eqb b c

pub differs : (c b : ℕ) → b ≢ c → eqb b c ≡ false
differs c b h = grind (arith, nat_tests)

pub parts_none : (c : ℕ) (bs : List ℕ) → All (λ b. b ≢ c) bs → slice_split (λ b. eqb b c) bs ≡ bs ∷ []
parts_none c bs h = slice_split_none (is_at c) bs (All-weaker (λ b. b ≢ c) (λ b. eqb b c ≡ false) (differs c) bs h)

pub parts_at : (c at : ℕ) (bs : List ℕ) → IsFirstPlace bs c at → slice_split (λ b. eqb b c) bs ≡ take at bs ∷ slice_split (λ b. eqb b c) (drop (at + 1) bs)
parts_at c at bs h =
    let e : bs ≡ take at bs ++ get_or bs at 0 ∷ drop (at + 1) bs = sym (take-append-drop at bs) ∙ ap (λ (t : List ℕ). take at bs ++ t) (drop_more bs at 0 h.within) in
    let hit : eqb (get_or bs at 0) c ≡ true = grind (arith, nat_tests, h.here) in
    ap (slice_split (is_at c)) e ∙ slice_split_at (is_at c) (take at bs) (get_or bs at 0) (drop (at + 1) bs) (All-weaker (λ b. b ≢ c) (λ b. eqb b c ≡ false) (differs c) (take at bs) h.none_before) hit

-- there is always a part
pub parts_some : (c : ℕ) (bs : List ℕ) → (first : List ℕ) × (others : List (List ℕ)) × (slice_split (λ b. eqb b c) bs ≡ first ∷ others)
parts_some c [] = ([], [], refl)
parts_some c (b ∷ bs) = elim (eqb b c) as (λ t. (first : List ℕ) × (others : List (List ℕ)) × (cond t ([] ∷ slice_split (is_at c) bs) (onto_first b (slice_split (is_at c) bs)) ≡ first ∷ others)) [
  | true ↦ ([], slice_split (is_at c) bs, refl)
  | false ↦ let p = parts_some c bs in (b ∷ p.0, p.1, ap (onto_first b) p.2)
]

pub lines_more : (line rest : List ℕ) → lines_of_parts (line ∷ slice_split (λ b. eqb b 10) rest) ≡ strip_carriage_return line ∷ lines rest
lines_more line rest =
    let p = parts_some 10 rest in
    ap (λ (ps : List (List ℕ)). lines_of_parts (line ∷ ps)) p.2 ∙ ap (λ (ps : List (List ℕ)). strip_carriage_return line ∷ lines_of_parts ps) (sym p.2)

pub parts_cut : (c at : ℕ) (bs front back rest : List ℕ) → IsFirstPlace bs c at → front ≡ take at bs → back ≡ drop at bs → rest ≡ drop 1 back → slice_split (λ b. eqb b c) bs ≡ front ∷ slice_split (λ b. eqb b c) rest
parts_cut c at bs front back rest h f b r =
    let e : rest ≡ drop (at + 1) bs = r ∙ ap (drop 1) b ∙ drop-drop 1 at bs in
    rw (f, e) (parts_at c at bs h)
