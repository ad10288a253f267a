-- A change leaves the entries of other keys as they were.
use Rattle.std.proofs.Common.{◌≡◌, ◌≢◌, ℤ, [], ◌∷◌, false, cond, Option, Some, None, refl, sym, ap, ◌∙◌}
use Rattle.std.specs.Cmp.{IsTotalOrder, int_cmp_total}
use Rattle.std.proofs.lemmas.Cmp.{then_total}
use Rattle.std.specs.Map.{remove_entry}
use Rattle.std.specs.BTreeMap.{is_at, insert_entry}
use Rattle.std.specs.declared.cmp.Ordering.{Ordering}
use Rattle.std.specs.declared.cmp.Ordering.TheVariants.{Less, Equal, Greater}
use Rattle.std.specs.Ordering.{int_cmp, is_eq, match_ordering, ordering_reverse}
use Rattle.state_classes.specs.Entries.{Entries, MatrixKey, by_row_and_column, entry_at, with_entry}
use Rattle.state_classes.specs.Laws.{OthersStay}

module _ {K : Type 0} (cmp : K → K → Ordering) (o : IsTotalOrder cmp) where
  apart : (q k : K) → cmp q k ≢ Equal → is_at (cmp q) k ≡ false
  apart q k n = by (cmp q k) n
    where
      by : (r : Ordering) → r ≢ Equal → is_eq r ≡ false
      by Less n = refl
      by Equal n = absurd (n refl)
      by Greater n = refl

  apart-equal : (q k e : K) → cmp q k ≢ Equal → cmp k e ≡ Equal → cmp q e ≢ Equal
  apart-equal q k e n same also = n (o.congr q e k also ∙ o.antisymm e k ∙ ap ordering_reverse same)

  stay-insert : (q k : K) (v : ℤ) (es : Entries K) → cmp q k ≢ Equal → entry_at cmp q (insert_entry cmp es k v) ≡ entry_at cmp q es
  stay-insert q k v [] n = ap (λ b. cond b (Some v) None) (apart q k n)
  stay-insert q k v (e ∷ es) n = by (stay-insert q k v es n) (cmp k e.0) refl
    where
      by : entry_at cmp q (insert_entry cmp es k v) ≡ entry_at cmp q es → (r : Ordering) → cmp k e.0 ≡ r → entry_at cmp q (match_ordering r ((k, v) ∷ e ∷ es) ((e.0, v) ∷ es) (e ∷ insert_entry cmp es k v)) ≡ entry_at cmp q (e ∷ es)
      by h Less s = ap (λ b. cond b (Some v) (entry_at cmp q (e ∷ es))) (apart q k n)
      by h Equal s = let f = apart q e.0 (apart-equal q k e.0 n s) in ap (λ b. cond b (Some v) (entry_at cmp q es)) f ∙ sym (ap (λ b. cond b (Some e.1) (entry_at cmp q es)) f)
      by h Greater s = ap (λ x. cond (is_at (cmp q) e.0) (Some e.1) x) h

  stay-remove : (q k : K) (es : Entries K) → cmp q k ≢ Equal → entry_at cmp q (remove_entry (is_at (cmp k)) es) ≡ entry_at cmp q es
  stay-remove q k [] n = refl
  stay-remove q k (e ∷ es) n = by (stay-remove q k es n) (cmp k e.0) refl
    where
      by : entry_at cmp q (remove_entry (is_at (cmp k)) es) ≡ entry_at cmp q es → (r : Ordering) → cmp k e.0 ≡ r → entry_at cmp q (cond (is_eq r) es (e ∷ remove_entry (is_at (cmp k)) es)) ≡ entry_at cmp q (e ∷ es)
      by h Less s = ap (λ x. cond (is_at (cmp q) e.0) (Some e.1) x) h
      by h Equal s = sym (ap (λ b. cond b (Some e.1) (entry_at cmp q es)) (apart q e.0 (apart-equal q k e.0 n s)))
      by h Greater s = ap (λ x. cond (is_at (cmp q) e.0) (Some e.1) x) h

  pub others_stay : OthersStay cmp
  others_stay None q es h = refl
  others_stay (Some change) q es h = by change.1
    where
      by : (v : Option ℤ) → entry_at cmp q (with_entry cmp change.0 v es) ≡ entry_at cmp q es
      by None = stay-remove q change.0 es h
      by (Some v) = stay-insert q change.0 v es h

pub by_row_and_column_total : IsTotalOrder by_row_and_column
by_row_and_column_total = then_total (rows_total (λ k. k.0)) (rows_total (λ k. k.1))
  where
    rows_total : (f : MatrixKey → ℤ) → IsTotalOrder (λ a b. int_cmp (f a) (f b))
    rows_total f = record { antisymm = λ x y. int_cmp_total.antisymm (f x) (f y); trans = λ x y z. int_cmp_total.trans (f x) (f y) (f z); congr = λ x y z. int_cmp_total.congr (f x) (f y) (f z) }
