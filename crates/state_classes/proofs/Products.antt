-- Sums of products over the columns of a row.
use Rattle.std.proofs.Common.{◌≡◌, ℕ, zero, suc, ◌+◌, ◌<◌, ◌≤◌, ℤ, pos, ◌+ℤ◌, ◌*ℤ◌, List, [], ◌∷◌, ◌++◌, length, take, get_or, zero-add, add-zero, add-one, ◌-◌, refl, ap, sym, subst, ◌∙◌, arith}
use Rattle.std.proofs.lemmas.Int.{ints, int_wrap-add_left, int_wrap-add_right}
use Rattle.std.specs.Int.{w64, int_wrap}
use Rattle.std.proofs.lemmas.List.{length-take-le}
use Rattle.std.proofs.Math.Seq.{take-suc}
use Rattle.sdg_base.specs.declared.val.Num.TheVariants as num
use Rattle.sdg_base.specs.Arithmetic.{wrap}
use Rattle.sdg_base.proofs.Wrapping.{wrap_is}
use Rattle.state_classes.specs.Entries.{Entries, MatrixKey}
use Rattle.state_classes.specs.Plans.{element, weighted, sum_of, product_of}
use Rattle.state_classes.specs.Walks.{IsBlank}

regroup : (a b c : ℤ) → a +ℤ (b +ℤ c) ≡ a +ℤ b +ℤ c
regroup a b c = omega (arith, ints)

module _ (row : ℤ) (es : Entries MatrixKey) where
  pub weighted-push : (column : ℕ) (v : List ℤ) (x : ℤ) → weighted row column (v ++ x ∷ []) es ≡ weighted row column v es +ℤ (element row (pos (column + length v)) es *ℤ x)
  weighted-push column [] x = grind (arith, ints)
  weighted-push column (y ∷ v) x =
      let e : column + 1 + length v ≡ column + suc (length v) = omega arith in
      let h = weighted-push (column + 1) v x ∙ ap (λ n. weighted row (column + 1) v es +ℤ (element row (pos n) es *ℤ x)) e in
      ap (λ z. (element row (pos column) es *ℤ y) +ℤ z) h ∙ regroup (element row (pos column) es *ℤ y) (weighted row (column + 1) v es) (element row (pos (column + suc (length v))) es *ℤ x)

wrap-left : (a b : ℤ) → wrap num.Long (wrap num.Long a +ℤ b) ≡ wrap num.Long (a +ℤ b)
wrap-left a b = wrap_is num.Long (wrap num.Long a +ℤ b) ∙ ap (λ z. int_wrap w64 (z +ℤ b)) (wrap_is num.Long a) ∙ int_wrap-add_left w64 a b ∙ sym (wrap_is num.Long (a +ℤ b))

wrap-right : (a b : ℤ) → wrap num.Long (a +ℤ wrap num.Long b) ≡ wrap num.Long (a +ℤ b)
wrap-right a b = wrap_is num.Long (a +ℤ wrap num.Long b) ∙ ap (λ z. int_wrap w64 (a +ℤ z)) (wrap_is num.Long b) ∙ int_wrap-add_right w64 a b ∙ sym (wrap_is num.Long (a +ℤ b))

-- a product added to a sum that wrapped around on the way
pub sum-step : (a e x : ℤ) → sum_of (wrap num.Long a) (product_of e x) ≡ wrap num.Long (a +ℤ (e *ℤ x))
sum-step a e x = wrap-left a (product_of e x) ∙ wrap-right a (e *ℤ x)

pub wrap-zero : pos 0 ≡ wrap num.Long (pos 0)
unfolding wrap
wrap-zero = refl

-- one column more of a row's sum
pub weighted-more : (row : ℤ) (es : Entries MatrixKey) (v : List ℤ) (at : ℕ) → at < length v → weighted row 0 (take (at + 1) v) es ≡ weighted row 0 (take at v) es +ℤ (element row (pos at) es *ℤ get_or v at (pos 0))
weighted-more row es v at h =
    let x = get_or v at (pos 0) in
    let n : 0 + length (take at v) ≡ at = zero-add (length (take at v)) ∙ length-take-le at v (omega arith) in
    let more : take (at + 1) v ≡ take at v ++ x ∷ [] = ap (λ n. take n v) (add-one at) ∙ take-suc v at (pos 0) h in
    ap (λ w. weighted row 0 w es) more ∙ weighted-push row es 0 (take at v) x ∙ ap (λ n. weighted row 0 (take at v) es +ℤ (element row (pos n) es *ℤ x)) n

pub row-step : (row : ℤ) (es : Entries MatrixKey) (v : List ℤ) (at : ℕ) → at < length v → sum_of (wrap num.Long (weighted row 0 (take at v) es)) (product_of (element row (pos at) es) (get_or v at (pos 0))) ≡ wrap num.Long (weighted row 0 (take (at + 1) v) es)
row-step row es v at h = sum-step (weighted row 0 (take at v) es) (element row (pos at) es) (get_or v at (pos 0)) ∙ sym (ap (wrap num.Long) (weighted-more row es v at h))

nothing-added : (a x : ℤ) → a +ℤ (pos 0 *ℤ x) ≡ a
nothing-added a x = grind (arith, ints)

-- columns whose elements are 0 add nothing
blank-run : (row : ℤ) (es : Entries MatrixKey) (v : List ℤ) (from n : ℕ) → from + n ≤ length v → IsBlank row from (from + n) es → weighted row 0 (take (from + n) v) es ≡ weighted row 0 (take from v) es
blank-run row es v from zero h b = ap (λ n. weighted row 0 (take n v) es) (add-zero from)
blank-run row es v from (suc n) h b =
    let at : from + suc n ≡ from + n + 1 = omega arith in
    let x = get_or v (from + n) (pos 0) in
    let before = weighted row 0 (take (from + n) v) es in
    let rest = blank-run row es v from n (omega arith) (record { is = λ j l u. b.is j l (omega arith) }) in
    ap (λ n. weighted row 0 (take n v) es) at ∙ weighted-more row es v (from + n) (omega arith)
    ∙ ap (λ e. before +ℤ (e *ℤ x)) (b.is (from + n) (omega arith) (omega arith)) ∙ nothing-added before x ∙ rest

pub blank-columns : (row : ℤ) (es : Entries MatrixKey) (v : List ℤ) (from upto : ℕ) → from ≤ upto → upto ≤ length v → IsBlank row from upto es → weighted row 0 (take upto v) es ≡ weighted row 0 (take from v) es
blank-columns row es v from upto l h b =
    let e : from + (upto - from) ≡ upto = omega arith in
    let P : ℕ → Type 0 = λ n. IsBlank row from n es in
    ap (λ n. weighted row 0 (take n v) es) (sym e) ∙ blank-run row es v from (upto - from) (omega arith) (subst P (sym e) b)
