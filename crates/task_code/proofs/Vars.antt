-- Variables set by number, one after the other.
use Rattle.std.proofs.Common.{◌≡◌, ℕ, ◌<◌, ◌≤◌, ◌+◌, List, [], ◌∷◌, length, get_or, drop, refl, sym, ap, ◌∙◌}
use Rattle.std.proofs.Math.ListN.{set}
use Rattle.std.proofs.lemmas.List.{drop_more, drop_all, set_past, get_or_default}
use Rattle.sdg_base.specs.declared.val.Val.{Val}
use Rattle.sdg_base.specs.declared.val.Val.TheVariants as val
use Rattle.flat_code.specs.Items.{set_all}

pub set_all-none : (numbers : List ℕ) (vars : List Val) → set_all numbers [] vars ≡ vars
set_all-none [] vars = refl
set_all-none (n ∷ ns) vars = refl

pub set_all-more : (numbers : List ℕ) (values vars : List Val) (i d : ℕ) (e : Val) → i < length numbers → i < length values → set_all (drop i numbers) (drop i values) vars ≡ set_all (drop (i + 1) numbers) (drop (i + 1) values) (set vars (get_or numbers i d) (get_or values i e))
set_all-more numbers values vars i d e here there =
    ap (λ (ns : List ℕ). set_all ns (drop i values) vars) (drop_more numbers i d here)
    ∙ ap (λ (vs : List Val). set_all (get_or numbers i d ∷ drop (i + 1) numbers) vs vars) (drop_more values i e there)

pub set_all-past : (numbers : List ℕ) (values vars : List Val) (i : ℕ) → length values ≤ i → set_all (drop i numbers) (drop i values) vars ≡ vars
set_all-past numbers values vars i beyond =
    ap (λ (vs : List Val). set_all (drop i numbers) vs vars) (drop_all i values beyond) ∙ set_all-none (drop i numbers) vars

pub set_all-end : (numbers : List ℕ) (values vars : List Val) (i : ℕ) → length numbers ≤ i → set_all (drop i numbers) (drop i values) vars ≡ vars
set_all-end numbers values vars i beyond = ap (λ (ns : List ℕ). set_all ns (drop i values) vars) (drop_all i numbers beyond)

pub set_all-next : (numbers : List ℕ) (values vars vars' whole : List Val) (i : ℕ) (v : Val) → i < length numbers → i < length values → v ≡ get_or values i v → vars' ≡ set vars (get_or numbers i 0) v → set_all (drop i numbers) (drop i values) vars ≡ whole → set_all (drop (i + 1) numbers) (drop (i + 1) values) vars' ≡ whole
set_all-next numbers values vars vars' whole i v here there read e so_far =
    ap (λ (vs : List Val). set_all (drop (i + 1) numbers) (drop (i + 1) values) vs) (e ∙ ap (λ (x : Val). set vars (get_or numbers i 0) x) read)
    ∙ sym (set_all-more numbers values vars i 0 v here there)
    ∙ so_far

-- a number that no variable has
pub set_all-skip : (numbers : List ℕ) (values vars vars' whole : List Val) (i : ℕ) → i < length numbers → i < length values → length vars ≤ get_or numbers i 0 → vars' ≡ vars → set_all (drop i numbers) (drop i values) vars ≡ whole → set_all (drop (i + 1) numbers) (drop (i + 1) values) vars' ≡ whole
set_all-skip numbers values vars vars' whole i here there past e so_far =
    set_all-next numbers values vars vars' whole i (get_or values i val.Unit) here there (get_or_default values i val.Unit (get_or values i val.Unit) there) (e ∙ sym (set_past vars (get_or numbers i 0) (get_or values i val.Unit) past)) so_far
