-- Two ports are one exactly where the test says so.
use Rattle.std.proofs.Common.{◌≡◌, ◌≢◌, ℕ, ◌∙◌, true, false, ◌&&◌, ◌==◌, refl, sym, subst, arith}
use Rattle.std.proofs.lemmas.Bool.{eqb-true, and_parts, false_from_ne_true, true≢false, false≢true}
use Rattle.sdg_base.specs.declared.port.Port.{Port}
use Rattle.sdg_base.specs.declared.port.Port.TheVariants as port
use Rattle.sdg_base.specs.Ports.{same_port}
use Rattle.std.proofs.lemmas.Bool.Decides.{nat_tests}

both_same : (f s : ℕ) → (f == f && s == s) ≡ true
both_same f s = grind (arith, nat_tests)

pub same_port-refl : (p : Port) → same_port p p ≡ true
unfolding same_port
same_port-refl port.Caller = refl
same_port-refl port.Sink = refl
same_port-refl port.Front = refl
same_port-refl port.Join = refl
same_port-refl (port.Slot f s) = both_same f s
same_port-refl (port.Inst f s) = both_same f s

both_equal : (A : ℕ → ℕ → Port) (f s g t : ℕ) → (f == g && s == t) ≡ true → A f s ≡ A g t
both_equal A f s g t e =
    let both = and_parts (f == g) (s == t) e in
    let first = eqb-true f g both.0 in
    let second = eqb-true s t both.1 in
    cc

pub same_port-true : (p q : Port) → same_port p q ≡ true → p ≡ q
unfolding same_port
same_port-true port.Caller port.Caller e = refl
same_port-true port.Sink port.Sink e = refl
same_port-true port.Front port.Front e = refl
same_port-true port.Join port.Join e = refl
same_port-true (port.Slot f s) (port.Slot g t) e = both_equal port.Slot f s g t e
same_port-true (port.Inst f s) (port.Inst g t) e = both_equal port.Inst f s g t e
same_port-true _ _ e = absurd (false≢true e)

pub same_port-equal : (p q : Port) → p ≡ q → same_port p q ≡ true
same_port-equal p q e = subst (λ (x : Port). same_port p x ≡ true) e (same_port-refl p)

pub same_port-false : (p q : Port) → same_port p q ≡ false → p ≢ q
same_port-false p q e same = true≢false (sym (same_port-equal p q same) ∙ e)

pub same_port-other : (p q : Port) → p ≢ q → same_port p q ≡ false
same_port-other p q other = false_from_ne_true (same_port p q) (λ e. other (same_port-true p q e))
