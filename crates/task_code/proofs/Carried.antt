-- The variables of a list of numbers, taken one after the other.
use Rattle.std.proofs.Common.{◌≡◌, ℕ, ◌<◌, ◌≤◌, ◌+◌, List, [], ◌∷◌, ◌++◌, length, get_or, drop, Option, Some, None, IsSome, inl, inr, refl, sym, ap, ◌∙◌}
use Rattle.std.specs.List.{slice_get}
use Rattle.std.proofs.lemmas.List.{append_assoc, append-nil, drop_more, drop_all}
use Rattle.std.proofs.lemmas.Bool.{cases_lt, false≢true}
use Rattle.std.proofs.lemmas.Option.{slice_get_past}
use Rattle.sdg_base.specs.declared.val.Val.{Val}
use Rattle.flat_code.specs.Items.{carried, with_first}

abbrev pub after : List Val → Option (List Val) → Option (List Val)
after done None = None
after done (Some rest) = Some (done ++ rest)

pub after-nothing : (o : Option (List Val)) → after [] o ≡ o
after-nothing None = refl
after-nothing (Some rest) = refl

after-cons : (done : List Val) (v : Val) (o : Option (List Val)) → after done (with_first (Some v) o) ≡ after (done ++ v ∷ []) o
after-cons done v None = refl
after-cons done v (Some rest) = ap Some (sym (append_assoc done (v ∷ []) rest))

carried-drop : (numbers : List ℕ) (vars : List Val) (i d : ℕ) → i < length numbers → carried (drop i numbers) vars ≡ with_first (slice_get vars (get_or numbers i d)) (carried (drop (i + 1) numbers) vars)
carried-drop numbers vars i d within = ap (λ (ns : List ℕ). carried ns vars) (drop_more numbers i d within)

cons_none : (done : List Val) (o : Option Val) (p : Option (List Val)) → o ≡ None → after done (with_first o p) ≡ None
cons_none done None p e = refl
cons_none done (Some v) p e = cc

none_is_not : {A : Type 0} (o : Option A) → o ≡ None → IsSome o → ⊥
none_is_not None e some = false≢true some
none_is_not (Some x) e some = cc

pub carried-within : (numbers : List ℕ) (vars done : List Val) (i d : ℕ) → after done (carried (drop i numbers) vars) ≡ carried numbers vars → IsSome (carried numbers vars) → i < length numbers → get_or numbers i d < length vars
carried-within numbers vars done i d e some within =
    elim (cases_lt (get_or numbers i d) (length vars)) [
      | inl below ↦ below
      | inr above ↦ absurd (none_is_not (carried numbers vars)
          (sym e ∙ ap (after done) (carried-drop numbers vars i d within) ∙ cons_none done (slice_get vars (get_or numbers i d)) (carried (drop (i + 1) numbers) vars) (slice_get_past vars (get_or numbers i d) above))
          some)
    ]

pub carried-more : (numbers : List ℕ) (vars done : List Val) (i d : ℕ) (v : Val) → after done (carried (drop i numbers) vars) ≡ carried numbers vars → i < length numbers → slice_get vars (get_or numbers i d) ≡ Some v → after (done ++ v ∷ []) (carried (drop (i + 1) numbers) vars) ≡ carried numbers vars
carried-more numbers vars done i d v e within there =
    sym (after-cons done v (carried (drop (i + 1) numbers) vars))
    ∙ ap (λ (o : Option Val). after done (with_first o (carried (drop (i + 1) numbers) vars))) (sym there)
    ∙ ap (after done) (sym (carried-drop numbers vars i d within))
    ∙ e

pub carried-end : (numbers : List ℕ) (vars done : List Val) (i : ℕ) → after done (carried (drop i numbers) vars) ≡ carried numbers vars → length numbers ≤ i → carried numbers vars ≡ Some done
carried-end numbers vars done i e beyond =
    sym e ∙ ap (λ (ns : List ℕ). after done (carried ns vars)) (drop_all i numbers beyond) ∙ ap Some (append-nil done)
