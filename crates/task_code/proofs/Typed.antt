-- Values against the types of variables, one after the other.
use Rattle.std.proofs.Common.{◌≡◌, ℕ, zero, suc, ◌+◌, ◌-◌, ◌<◌, ◌≤◌, Bool, true, false, List, [], ◌∷◌, drop, refl, sym, ap, ◌∙◌, arith}
use Rattle.std.specs.Prelude.{◌&&◌}
use Rattle.std.specs.List.{slice_get, range_with_len}
use Rattle.sdg_base.specs.declared.val.Val.{Val}
use Rattle.flat_code.specs.declared.graph.GraphMethod.{GraphMethod}
use Rattle.flat_code.specs.Fits.{has_types}
use Rattle.task_code.specs.Taken.{has_type_at, is_absent}

one_more : (m : GraphMethod) (n : ℕ) (ns : List ℕ) (i : ℕ) (vs : List Val) → has_types m (n ∷ ns) (drop i vs) ≡ (has_type_at m n (slice_get vs i) && has_types m ns (drop (suc i) vs))
one_more m n ns zero [] = refl
one_more m n ns zero (v ∷ vs) = refl
one_more m n ns (suc i) [] = refl
one_more m n ns (suc i) (v ∷ vs) = one_more m n ns i vs

no_more : (m : GraphMethod) (i : ℕ) (vs : List Val) → has_types m [] (drop i vs) ≡ is_absent (slice_get vs i)
no_more m zero [] = refl
no_more m zero (v ∷ vs) = refl
no_more m (suc i) [] = refl
no_more m (suc i) (v ∷ vs) = no_more m i vs

unfolded : (m : GraphMethod) (all ns : List ℕ) (n i : ℕ) (vs : List Val) (whole b : Bool) → all ≡ n ∷ ns → has_types m all (drop i vs) ≡ whole → has_type_at m n (slice_get vs i) ≡ b → (b && has_types m ns (drop (i + 1) vs)) ≡ whole
unfolded m all ns n i vs whole b is so_far here =
    let next : i + 1 ≡ suc i = omega arith in
    ap (λ (x : Bool). x && has_types m ns (drop (i + 1) vs)) (sym here)
    ∙ ap (λ (k : ℕ). has_type_at m n (slice_get vs i) && has_types m ns (drop k vs)) next
    ∙ sym (one_more m n ns i vs)
    ∙ ap (λ (xs : List ℕ). has_types m xs (drop i vs)) (sym is)
    ∙ so_far

pub stops : (m : GraphMethod) (all ns : List ℕ) (n i : ℕ) (vs : List Val) (whole : Bool) → all ≡ n ∷ ns → has_types m all (drop i vs) ≡ whole → has_type_at m n (slice_get vs i) ≡ false → false ≡ whole
stops m all ns n i vs whole is so_far here = unfolded m all ns n i vs whole false is so_far here

pub passes : (m : GraphMethod) (all ns : List ℕ) (n i : ℕ) (vs : List Val) (whole : Bool) → all ≡ n ∷ ns → has_types m all (drop i vs) ≡ whole → has_type_at m n (slice_get vs i) ≡ true → has_types m ns (drop (i + 1) vs) ≡ whole
passes m all ns n i vs whole is so_far here = unfolded m all ns n i vs whole true is so_far here

pub ends : (m : GraphMethod) (all : List ℕ) (i k : ℕ) (vs : List Val) (whole : Bool) → all ≡ [] → i ≡ k → has_types m all (drop i vs) ≡ whole → is_absent (slice_get vs k) ≡ whole
ends m all i k vs whole is at_end so_far =
    ap (λ (j : ℕ). is_absent (slice_get vs j)) (sym at_end)
    ∙ sym (no_more m i vs)
    ∙ ap (λ (xs : List ℕ). has_types m xs (drop i vs)) (sym is)
    ∙ so_far

pub range_more : (j p : ℕ) → j < p → range_with_len j (p - j) ≡ j ∷ range_with_len (j + 1) (p - (j + 1))
range_more j p within =
    let more : p - j ≡ suc (p - (j + 1)) = omega arith in
    ap (range_with_len j) more

pub range_all : (j p : ℕ) → p ≤ j → range_with_len j (p - j) ≡ []
range_all j p past =
    let none : p - j ≡ 0 = omega arith in
    ap (range_with_len j) none
