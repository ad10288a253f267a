-- The least key above another, as an ordered map finds it.
use Rattle.std.proofs.Common.{◌≡◌, ◌≢◌, cond, List, [], ◌∷◌, refl, ap, sym, ◌∙◌, Some, None, arith}
use Rattle.std.specs.Cmp.{IsTotalOrder}
use Rattle.std.specs.List.{AllByRecursion}
use Rattle.std.specs.List.Sorted.{IsStrictlySortedBy}
use Rattle.std.specs.Map.{keys_of}
use Rattle.std.specs.Ordering.{is_eq, is_lt, ordering_reverse}
use Rattle.std.specs.declared.cmp.Ordering.{Ordering}
use Rattle.std.specs.declared.cmp.Ordering.TheVariants.{Less, Equal, Greater}
use Rattle.std.specs.declared.ops.Bound.TheVariants.{Excluded, Unbounded}
use Rattle.std.specs.BTreeMap.Range.{entries_between}
use Rattle.state_classes.specs.Entries.{key_after, entry_at}

module _ {K X : Type 0} (cmp : K → K → Ordering) where
  pub least_is : (es : List (K × X)) (p : K × X) (rest : List (K × X)) → es ≡ p ∷ rest → key_after cmp None es ≡ Some p.0
  least_is es p rest h = ap (key_after cmp None) h

  pub least_is_none : (es : List (K × X)) → es ≡ [] → key_after cmp None es ≡ None
  least_is_none es h = ap (key_after cmp None) h

  pub above_is : (key : K) (es : List (K × X)) (p : K × X) (rest : List (K × X)) → entries_between cmp (Excluded key) Unbounded es ≡ p ∷ rest → key_after cmp (Some key) es ≡ Some p.0
  above_is key [] p rest h = cc
  above_is key (e ∷ es) p rest h = grind (arith, above_is key es p rest)

  pub above_is_none : (key : K) (es : List (K × X)) → entries_between cmp (Excluded key) Unbounded es ≡ [] → key_after cmp (Some key) es ≡ None
  above_is_none key [] h = refl
  above_is_none key (e ∷ es) h = grind (arith, above_is_none key es)

-- ---- what stands between a key and the least key above it: nothing

not_at_lower : {K : Type 0} (cmp : K → K → Ordering) (o : IsTotalOrder cmp) (a q e : K) → cmp a e ≢ Less → cmp a q ≡ Less → cmp q e ≢ Equal
not_at_lower cmp o a q e n below same = n (o.antisymm a e ∙ ap ordering_reverse (sym (o.congr q e a same)) ∙ sym (o.antisymm a q) ∙ below)

not_at_higher : {K : Type 0} (cmp : K → K → Ordering) (q e : K) → cmp q e ≡ Less → cmp q e ≢ Equal
not_at_higher cmp q e below same = cc

module _ {K X : Type 0} (cmp : K → K → Ordering) (o : IsTotalOrder cmp) where
  skipped : (q : K) (e : K × X) (es : List (K × X)) → cmp q e.0 ≢ Equal → entry_at cmp q (e ∷ es) ≡ entry_at cmp q es
  skipped q e es n = by (cmp q e.0) n
    where
      by : (r : Ordering) → r ≢ Equal → cond (is_eq r) (Some e.1) (entry_at cmp q es) ≡ entry_at cmp q es
      by Less n = refl
      by Equal n = absurd (n refl)
      by Greater n = refl

  below_all : (q k : K) (es : List (K × X)) → AllByRecursion (λ y. cmp k y ≡ Less) (keys_of es) → cmp q k ≡ Less → entry_at cmp q es ≡ None
  below_all q k [] all below = refl
  below_all q k (e ∷ es) all below = skipped q e es (not_at_higher cmp q e.0 (o.trans q k e.0 below all.0)) ∙ below_all q k es all.1 below

  pub none_above : (a q : K) (es : List (K × X)) → key_after cmp (Some a) es ≡ None → cmp a q ≡ Less → entry_at cmp q es ≡ None
  none_above a q [] h below = refl
  none_above a q (e ∷ es) h below = by (λ g. none_above a q es g below) (cmp a e.0) refl h
    where
      by : (key_after cmp (Some a) es ≡ None → entry_at cmp q es ≡ None) → (r : Ordering) → cmp a e.0 ≡ r → cond (is_lt r) (Some e.0) (key_after cmp (Some a) es) ≡ None → entry_at cmp q (e ∷ es) ≡ None
      by rest Less s g = cc
      by rest Equal s g = skipped q e es (not_at_lower cmp o a q e.0 (λ l. cc) below) ∙ rest g
      by rest Greater s g = skipped q e es (not_at_lower cmp o a q e.0 (λ l. cc) below) ∙ rest g

  pub none_between : (a q k : K) (es : List (K × X)) → IsStrictlySortedBy cmp (keys_of es) → key_after cmp (Some a) es ≡ Some k → cmp a q ≡ Less → cmp q k ≡ Less → entry_at cmp q es ≡ None
  unfolding IsStrictlySortedBy
  none_between a q k [] rising h above below = refl
  none_between a q k (e ∷ es) rising h above below = by (λ g. none_between a q k es rising.1 g above below) (cmp a e.0) refl h
    where
      by : (key_after cmp (Some a) es ≡ Some k → entry_at cmp q es ≡ None) → (r : Ordering) → cmp a e.0 ≡ r → cond (is_lt r) (Some e.0) (key_after cmp (Some a) es) ≡ Some k → entry_at cmp q (e ∷ es) ≡ None
      by rest Less s g =
          let same : e.0 ≡ k = cc in
          let lower : cmp q e.0 ≡ Less = ap (cmp q) same ∙ below in
          skipped q e es (not_at_higher cmp q e.0 lower) ∙ below_all q e.0 es rising.0 lower
      by rest Equal s g = skipped q e es (not_at_lower cmp o a q e.0 (λ l. cc) above) ∙ rest g
      by rest Greater s g = skipped q e es (not_at_lower cmp o a q e.0 (λ l. cc) above) ∙ rest g

  -- the key that was found is above
  pub found_above : (a k : K) (es : List (K × X)) → key_after cmp (Some a) es ≡ Some k → cmp a k ≡ Less
  found_above a k [] h = cc
  found_above a k (e ∷ es) h = by (found_above a k es) (cmp a e.0) refl h
    where
      by : (key_after cmp (Some a) es ≡ Some k → cmp a k ≡ Less) → (r : Ordering) → cmp a e.0 ≡ r → cond (is_lt r) (Some e.0) (key_after cmp (Some a) es) ≡ Some k → cmp a k ≡ Less
      by rest Less s g = let same : e.0 ≡ k = cc in ap (cmp a) (sym same) ∙ s
      by rest Equal s g = rest g
      by rest Greater s g = rest g
