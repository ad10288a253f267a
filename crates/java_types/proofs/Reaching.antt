-- Which methods reach which by calls, as a table.
use Rattle.std.proofs.Common.{◌≡◌, ◌⊎◌, ℕ, ◌+◌, ◌*◌, ◌/◌, ◌%◌, ◌<◌, Bool, true, false, ◌||◌, ◌&&◌, nat_eq, List, [], ◌∷◌, ◌++◌, fold, length, get_or, inl, inr, refl, sym, ap, ◌∙◌, arith}
use Rattle.std.proofs.lemmas.Bool.{eqb-true, eq-eqb}
use Rattle.std.proofs.lemmas.List.Sums.{fold_push}
use Rattle.java_types.specs.declared.calls.Call.{Call}
use Rattle.java_types.specs.Calls.{with_call, reaches, Holds, IsTransitive}

or_true : (a b : Bool) → (a || b) ≡ true → (a ≡ true) ⊎ (b ≡ true)
or_true true b h = inl refl
or_true false b h = inr h

and_true : (a b : Bool) → (a && b) ≡ true → (a ≡ true) × (b ≡ true)
and_true true b h = (refl, h)
and_true false b h = absurd (cc)

by_left : (a b : Bool) → a ≡ true → (a || b) ≡ true
by_left true b h = refl
by_left false b h = absurd (cc)

by_right : (a b c : Bool) → b ≡ true → c ≡ true → (a || b && c) ≡ true
by_right true b c p q = refl
by_right false true c p q = q
by_right false false c p q = absurd (cc)

or_left : (a b : Bool) → (b ≡ true → a ≡ true) → (a || b) ≡ a
or_left true b h = refl
or_left false true h = sym (h refl)
or_left false false h = refl

transitive_with : (r : ℕ → ℕ → Bool) (c : Call) → IsTransitive r → IsTransitive (with_call r c)
transitive_with r c t x y z p q =
    elim (or_true (r x y) (r x c.caller && r c.callee y) p) [
      | inl a ↦ elim (or_true (r y z) (r y c.caller && r c.callee z) q) [
        | inl b ↦ by_left (r x z) (r x c.caller && r c.callee z) (t x y z a b)
        | inr b ↦ let h = and_true (r y c.caller) (r c.callee z) b in by_right (r x z) (r x c.caller) (r c.callee z) (t x y c.caller a h.0) h.1
      ]
      | inr a ↦ let g = and_true (r x c.caller) (r c.callee y) a in
          elim (or_true (r y z) (r y c.caller && r c.callee z) q) [
            | inl b ↦ by_right (r x z) (r x c.caller) (r c.callee z) g.0 (t c.callee y z g.1 b)
            | inr b ↦ let h = and_true (r y c.caller) (r c.callee z) b in by_right (r x z) (r x c.caller) (r c.callee z) g.0 h.1
          ]
    ]

transitive_fold : (calls : List Call) (r : ℕ → ℕ → Bool) → IsTransitive r → IsTransitive (fold with_call r calls)
transitive_fold [] r t = t
transitive_fold (c ∷ calls) r t = transitive_fold calls (with_call r c) (transitive_with r c t)

transitive_nat_eq : IsTransitive nat_eq
transitive_nat_eq x y z p q = eq-eqb x z (eqb-true x y p ∙ eqb-true y z q)

pub reaches_transitive : (calls : List Call) → IsTransitive (reaches calls)
reaches_transitive calls = transitive_fold calls nat_eq transitive_nat_eq

pub reaches-push : (calls : List Call) (call : Call) → reaches (calls ++ call ∷ []) ≡ with_call (reaches calls) call
reaches-push calls call = fold_push with_call nat_eq calls call

row : (from to : ℕ) → to < 256 → (from * 256 + to) / 256 ≡ from
row from to h = omega arith

column : (from to : ℕ) → to < 256 → (from * 256 + to) % 256 ≡ to
column from to h = omega arith

inside : (from to : ℕ) → from < 256 → to < 256 → from * 256 + to < 65536
inside from to f t = omega arith

pub holds_from :
    (r : ℕ → ℕ → Bool) (table : List Bool) → length table ≡ 65536 →
    ((k : ℕ) → k < 65536 → get_or table k false ≡ r (k / 256) (k % 256)) → Holds r table
holds_from r table size each = record {
  size = size;
  each = λ from to f t. each (from * 256 + to) (inside from to f t) ∙ ap (λ x. r x ((from * 256 + to) % 256)) (row from to t) ∙ ap (r from) (column from to t);
}

place : (k : ℕ) → k / 256 * 256 + k % 256 ≡ k
place k = omega arith

pub at_place : (r : ℕ → ℕ → Bool) (table : List Bool) → Holds r table → (k : ℕ) → k < 65536 → get_or table k false ≡ r (k / 256) (k % 256)
at_place r table h k below =
    let row_below : k / 256 < 256 = omega arith in
    let column_below : k % 256 < 256 = omega arith in
    ap (λ n. get_or table n false) (sym (place k)) ∙ h.each (k / 256) (k % 256) row_below column_below

pub holds_with :
    (r : ℕ → ℕ → Bool) (c : Call) (old new : List Bool) → c.caller < 256 → c.callee < 256 → Holds r old → length new ≡ 65536 →
    ((k : ℕ) → k < 65536 → get_or new k false ≡ (get_or old k false || get_or old (k / 256 * 256 + c.caller) false && get_or old (c.callee * 256 + k % 256) false)) →
    Holds (with_call r c) new
holds_with r c old new caller callee h size each = holds_from (with_call r c) new size (λ k below.
    let row_below : k / 256 < 256 = omega arith in
    let column_below : k % 256 < 256 = omega arith in
    each k below
    ∙ ap (λ b. b || get_or old (k / 256 * 256 + c.caller) false && get_or old (c.callee * 256 + k % 256) false) (at_place r old h k below)
    ∙ ap (λ b. r (k / 256) (k % 256) || b && get_or old (c.callee * 256 + k % 256) false) (h.each (k / 256) c.caller row_below caller)
    ∙ ap (λ b. r (k / 256) (k % 256) || r (k / 256) c.caller && b) (h.each c.callee (k % 256) callee column_below))

-- a call whose callee is reached already changes nothing
pub holds_still :
    (r : ℕ → ℕ → Bool) (c : Call) (table : List Bool) → IsTransitive r → r c.caller c.callee ≡ true → Holds r table → Holds (with_call r c) table
holds_still r c table t known h = record {
  size = h.size;
  each = λ from to f g. h.each from to f g ∙ sym (or_left (r from to) (r from c.caller && r c.callee to)
      (λ way. let w = and_true (r from c.caller) (r c.callee to) way in t from c.callee to (t from c.caller c.callee w.0 known) w.1));
}
