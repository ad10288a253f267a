-- Texts that are read in two parts, the first of which ends with a line.
use Rattle.std.proofs.Common.{◌≡◌, ℕ, ◌+◌, ◌-◌, ◌<◌, ◌≤◌, ◌⊎◌, inl, inr, Bool, true, false, cond, eqb, List, [], ◌∷◌, ◌++◌, length, map, take, refl, sym, ap, ◌∙◌, arith, append_assoc}
use Rattle.std.specs.List.{slice_split, onto_first, join_with_byte}
use Rattle.std.specs.Str.Lines.{lines, lines_of_parts, strip_carriage_return}
use Rattle.std.proofs.lemmas.List.{append-nil, length-append, take_all, take_at}
use Rattle.std.proofs.lemmas.List.Splits.{join_with_byte-slice_split}
use Rattle.run_text.proofs.Parts.{parts_some, lines_more}

abbrev Text : Type 0
Text = List ℕ

abbrev parts : Text → List Text
parts bs = slice_split (λ b. eqb b 10) bs

onto_append : (b : ℕ) (xs ys : List Text) (first : Text) (others : List Text) → xs ≡ first ∷ others → onto_first b (xs ++ ys) ≡ onto_first b xs ++ ys
onto_append b xs ys first others e = rw e refl

parts_append : (p q : Text) → parts (p ++ 10 ∷ q) ≡ parts p ++ parts q
parts_append [] q = refl
parts_append (b ∷ p) q = ap (λ (ps : List Text). cond (eqb b 10) ([] ∷ ps) (onto_first b ps)) (parts_append p q) ∙ either (eqb b 10) where
  either : (t : Bool) → cond t ([] ∷ (parts p ++ parts q)) (onto_first b (parts p ++ parts q)) ≡ cond t ([] ∷ parts p) (onto_first b (parts p)) ++ parts q
  either true = refl
  either false = let s = parts_some 10 p in onto_append b (parts p) (parts q) s.0 s.1 s.2

lines_front : (ps : List Text) (y : Text) (more : List Text) → lines_of_parts (ps ++ y ∷ more) ≡ map strip_carriage_return ps ++ lines_of_parts (y ∷ more)
lines_front [] y more = refl
lines_front (x ∷ []) y more = refl
lines_front (x ∷ z ∷ ps) y more = ap (λ (ls : List Text). strip_carriage_return x ∷ ls) (lines_front (z ∷ ps) y more)

lines_split : (p q : Text) → lines (p ++ 10 ∷ q) ≡ map strip_carriage_return (parts p) ++ lines q
lines_split p q =
    let s = parts_some 10 q in
    ap lines_of_parts (parts_append p q ∙ ap (λ (ps : List Text). parts p ++ ps) s.2) ∙ lines_front (parts p) s.0 s.1 ∙ ap (λ (ps : List Text). map strip_carriage_return (parts p) ++ lines_of_parts ps) (sym s.2)

-- nothing, or what ends with a line's end
abbrev pub Closed : Text → Type 0
Closed p = (p ≡ []) ⊎ ((front : Text) × (p ≡ front ++ 10 ∷ []))

pub lines_closed : (p q : Text) → Closed p → lines (p ++ q) ≡ lines p ++ lines q
lines_closed p q (inl e) = rw e refl
lines_closed p q (inr c) =
    let whole : lines (p ++ q) ≡ map strip_carriage_return (parts c.0) ++ lines q = ap (λ (t : Text). lines (t ++ q)) c.1 ∙ ap lines (append_assoc c.0 (10 ∷ []) q) ∙ lines_split c.0 q in
    let alone : lines p ≡ map strip_carriage_return (parts c.0) = ap lines c.1 ∙ lines_split c.0 [] ∙ append-nil (map strip_carriage_return (parts c.0)) in
    whole ∙ ap (λ (ls : List Text). ls ++ lines q) (sym alone)

-- so many lines stand before the rest of a text
pub record Behind (bytes rest : Text) (number : ℕ) : Type 0 where
  pub front : Text
  pub whole : bytes ≡ front ++ rest
  pub closed : Closed front
  pub counted : length (lines front) + 1 ≡ number

pub at_first : (bytes : Text) → Behind bytes bytes 1
at_first bytes = record { front = []; whole = refl; closed = inl refl; counted = refl }

cut_text : (rest part more : Text) → parts rest ≡ part ∷ parts more → rest ≡ part ++ 10 ∷ more
cut_text rest part more e =
    let s = parts_some 10 more in
    sym (join_with_byte-slice_split 10 rest) ∙ ap (join_with_byte 10) (e ∙ ap (λ (ps : List Text). part ∷ ps) s.2) ∙ ap (λ (t : Text). part ++ 10 ∷ t) (sym (ap (join_with_byte 10) s.2) ∙ join_with_byte-slice_split 10 more)

one_part : (rest part more : Text) → parts rest ≡ part ∷ parts more → length (lines (part ++ 10 ∷ [])) ≡ 1
one_part rest part more e =
    let whole : lines rest ≡ strip_carriage_return part ∷ lines more = ap lines_of_parts e ∙ lines_more part more in
    let text : lines rest ≡ lines (part ++ 10 ∷ []) ++ lines more = ap lines (cut_text rest part more e ∙ sym (append_assoc part (10 ∷ []) more)) ∙ lines_closed (part ++ 10 ∷ []) more (inr (part, refl)) in
    omega (arith, ap length whole, ap length text, length-append (lines (part ++ 10 ∷ [])) (lines more))

pub one_behind : (bytes rest part more : Text) (number : ℕ) → parts rest ≡ part ∷ parts more → Behind bytes rest number → Behind bytes more (number + 1)
one_behind bytes rest part more number e b =
    let step : bytes ≡ (b.front ++ part) ++ 10 ∷ more = b.whole ∙ ap (λ (t : Text). b.front ++ t) (cut_text rest part more e) ∙ sym (append_assoc b.front part (10 ∷ more)) in
    let lines_now : lines ((b.front ++ part) ++ 10 ∷ []) ≡ lines b.front ++ lines (part ++ 10 ∷ []) = ap lines (append_assoc b.front part (10 ∷ [])) ∙ lines_closed b.front (part ++ 10 ∷ []) b.closed in
    record {
      front = (b.front ++ part) ++ 10 ∷ [];
      whole = step ∙ sym (append_assoc (b.front ++ part) (10 ∷ []) more);
      closed = inr (b.front ++ part, refl);
      counted = omega (arith, ap length lines_now, length-append (lines b.front) (lines (part ++ 10 ∷ [])), one_part rest part more e, b.counted);
    }

pub front_lines : (bytes rest : Text) (number line : ℕ) (before : Text) → Behind bytes rest number → number - 1 ≡ line - 1 → before ≡ take (length bytes - length rest) bytes → lines before ≡ take (line - 1) (lines bytes)
front_lines bytes rest number line before b same at =
    let long : length bytes - length rest ≡ length b.front = omega (arith, ap length b.whole, length-append b.front rest) in
    let front : before ≡ b.front = at ∙ ap (λ (n : ℕ). take n bytes) long ∙ ap (take (length b.front)) b.whole ∙ take_at b.front rest (length b.front) refl in
    let count : length (lines b.front) ≡ line - 1 = omega (arith, b.counted) in
    ap lines front ∙ sym (ap (take (line - 1)) (ap lines b.whole ∙ lines_closed b.front rest b.closed) ∙ take_at (lines b.front) (lines rest) (line - 1) count)

few_lines : (rest part : Text) → parts rest ≡ part ∷ [] → length (lines rest) ≤ 1
few_lines rest part e = omega (arith, ap (λ (ps : List Text). length (lines_of_parts ps)) e, either (eqb (length part) 0)) where
  either : (t : Bool) → length (cond t [] (part ∷ [])) ≤ 1
  either true = omega arith
  either false = omega arith

pub no_more_lines : (bytes rest part : Text) (number line : ℕ) → parts rest ≡ part ∷ [] → Behind bytes rest number → number < line → lines bytes ≡ take (line - 1) (lines bytes)
no_more_lines bytes rest part number line e b lt =
    let text = ap lines b.whole ∙ lines_closed b.front rest b.closed in
    let short : length (lines bytes) ≤ line - 1 = omega (arith, ap length text, length-append (lines b.front) (lines rest), few_lines rest part e, b.counted, lt) in
    sym (take_all (line - 1) (lines bytes) short)

pub whole_front : (bytes : Text) → bytes ≡ take (length bytes) bytes
whole_front bytes = sym (take_all (length bytes) bytes (omega arith))
