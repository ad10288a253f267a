-- The variables that a task finds agree with the whole frame that its item's values are from, on each that the task carries.
use Rattle.std.proofs.Common.{◌≡◌, ◌≢◌, refl, sym, ap, subst, ◌∙◌, ℕ, ◌<◌, List, [], ◌∷◌, length, replicate, Option, Some, slice_get, slice_set, inl, inr, ◌⊎◌}
use Rattle.sdg_base.specs.declared.val.Val.{Val}
use Rattle.sdg_base.specs.declared.val.Val.TheVariants as val
use Rattle.flat_code.specs.declared.graph.GraphMethod.{GraphMethod}
use Rattle.flat_code.specs.declared.graph.Task.{Task}
use Rattle.flat_code.specs.Items.{with_first, carried, set_all, carried_variables}
use Rattle.flat_code.specs.Ways.{IsIn, IsFirst, IsLater}
use Rattle.std.proofs.lemmas.List.{length-replicate}
use Rattle.graph_safety.proofs.Carried.{carried_room}
use Rattle.graph_safety.proofs.Lists.{none_some, some_is, get_within, within_get, get_set, get_set_other, length_set, same_or_not}
use Rattle.graph_safety.proofs.Ways.{Among, among}
use Rattle.live_runs.specs.Alike.{Agree}
use Rattle.live_runs.specs.Items.{AreCarriedFrom}

-- ---- values of variables

-- Lists that agree on all of the variables carry the same.
pub carried_same : (ns : List ℕ) (here there : List Val) → ((v : ℕ) → IsIn v ns → Agree here there v) → carried ns there ≡ carried ns here
carried_same [] here there agree = refl
carried_same (n ∷ ns) here there agree =
    ap (λ (o : Option Val). with_first o (carried ns there)) (agree n (IsFirst ns))
    ∙ ap (λ (o : Option (List Val)). with_first (slice_get here n) o) (carried_same ns here there (λ v h. agree v (IsLater n ns h)))

pub record IsCarried (n : ℕ) (ns : List ℕ) (variables : List Val) (values : List Val) : Type 0 where
  pub first : Val
  pub others : List Val
  pub is_first : slice_get variables n ≡ Some first
  pub are_others : carried ns variables ≡ Some others
  pub is : values ≡ first ∷ others

pub is_carried : (n : ℕ) (ns : List ℕ) (variables values : List Val) → carried (n ∷ ns) variables ≡ Some values → IsCarried n ns variables values
is_carried n ns variables values e = by (slice_get variables n) (carried ns variables) refl refl e
  where
    by : (o : Option Val) (p : Option (List Val)) → slice_get variables n ≡ o → carried ns variables ≡ p → with_first o p ≡ Some values → IsCarried n ns variables values
    by (Some v) (Some vs) first others e = record { first = v; others = vs; is_first = first; are_others = others; is = sym (some_is (v ∷ vs) values e) }
    by _ _ first others e = absurd (none_some values e)

-- ---- a task finds what was carried

set_all_agrees : (ns : List ℕ) (variables values base : List Val) → carried ns variables ≡ Some values → length base ≡ length variables
    → (v : ℕ) → Agree variables base v ⊎ Among v ns → Agree variables (set_all ns values base) v
set_all_agrees [] variables values base e many v (inl h) = h
set_all_agrees [] variables values base e many v (inr h) = absurd h
set_all_agrees (n ∷ ns) variables values base e many v o =
    subst (λ (vs : List Val). Agree variables (set_all (n ∷ ns) vs base) v) (sym c.is)
    (set_all_agrees ns variables c.others (slice_set base n c.first) c.are_others (length_set base n c.first ∙ many) v (by o))
  where
    c : IsCarried n ns variables values
    c = is_carried n ns variables values e

    within : n < length base
    within = subst (λ (k : ℕ). n < k) (sym many) (get_within variables n c.first c.is_first)

    is_set : Agree variables (slice_set base n c.first) n
    is_set = get_set base n c.first within ∙ sym c.is_first

    kept : Agree variables base v → (v ≡ n) ⊎ (v ≢ n) → Agree variables (slice_set base n c.first) v
    kept h (inl same) = subst (λ (k : ℕ). Agree variables (slice_set base n c.first) k) (sym same) is_set
    kept h (inr other) = get_set_other base n v c.first other ∙ h

    by : Agree variables base v ⊎ Among v (n ∷ ns) → Agree variables (slice_set base n c.first) v ⊎ Among v ns
    by (inl h) = inl (kept h (same_or_not v n))
    by (inr (inl same)) = inl (subst (λ (k : ℕ). Agree variables (slice_set base n c.first) k) (sym same) is_set)
    by (inr (inr h)) = inr h

pub found_agree : (m : GraphMethod) (t : Task) (variables values : List Val) → AreCarriedFrom m t variables values → (v : ℕ) → IsIn v t.vars → Agree variables (carried_variables m t values) v
found_agree m t variables values from v h =
    set_all_agrees t.vars variables values (replicate (length m.vars) val.Unit) from.are_its (length-replicate (length m.vars) val.Unit ∙ sym from.whole) v (inr (among v t.vars h))

pub found_as_many : (m : GraphMethod) (t : Task) (variables values : List Val) → AreCarriedFrom m t variables values → length (carried_variables m t values) ≡ length variables
found_as_many m t variables values from = carried_room m t values ∙ sym from.whole

-- ---- there is a value for each

pub all_carried : (ns : List ℕ) (variables : List Val) → ((v : ℕ) → Among v ns → v < length variables) → (values : List Val) × (carried ns variables ≡ Some values)
all_carried [] variables within = ([], refl)
all_carried (n ∷ ns) variables within =
    let first = within_get variables n (within n (inl refl)) in
    let others = all_carried ns variables (λ v h. within v (inr h)) in
    (first.0 ∷ others.0, ap (λ (o : Option Val). with_first o (carried ns variables)) first.1 ∙ ap (λ (o : Option (List Val)). with_first (Some first.0) o) others.1)
