-- Jumps that get their targets late.
use Rattle.std.proofs.Common.{◌≡◌, ◌≢◌, ℕ, zero, suc, ◌<◌, ◌≤◌, List, [], ◌∷◌, ◌++◌, length, slice_set, refl, ap, ◌∙◌, arith}
use Rattle.flat_code.specs.declared.graph.Instr.{Instr}
use Rattle.body_code.specs.StatementCode.{Exits}
use Rattle.task_lower.specs.declared.draft.Hole.{Hole}
use Rattle.task_lower.specs.Drafting.{jump, filled, AreWithin}

pub set_left : {A : Type 0} (xs ys : List A) (i : ℕ) (y : A) → i < length xs → slice_set (xs ++ ys) i y ≡ slice_set xs i y ++ ys
set_left [] ys i y h = absurd (omega (arith, h))
set_left (x ∷ xs) ys zero y h = refl
set_left (x ∷ xs) ys (suc i) y h = ap (λ rest. x ∷ rest) (set_left xs ys i y (omega (arith, h)))

pub set_long : {A : Type 0} (xs : List A) (i : ℕ) (y : A) → length (slice_set xs i y) ≡ length xs
set_long [] i y = refl
set_long (x ∷ xs) zero y = refl
set_long (x ∷ xs) (suc i) y = ap suc (set_long xs i y)

pub set_apart : {A : Type 0} (xs : List A) (i j : ℕ) (x y : A) → i ≢ j → slice_set (slice_set xs i x) j y ≡ slice_set (slice_set xs j y) i x
set_apart [] i j x y ne = refl
set_apart (z ∷ xs) zero zero x y ne = absurd (ne refl)
set_apart (z ∷ xs) zero (suc j) x y ne = refl
set_apart (z ∷ xs) (suc i) zero x y ne = refl
set_apart (z ∷ xs) (suc i) (suc j) x y ne = ap (λ rest. z ∷ rest) (set_apart xs i j x y (λ e. ne (ap suc e)))

pub filled_long : (code : List Instr) (holes : List Hole) (exits : Exits) → length (filled code holes exits) ≡ length code
filled_long code [] exits = refl
filled_long code (h ∷ holes) exits = set_long (filled code holes exits) h.at (jump h.exit exits) ∙ filled_long code holes exits

-- What stands behind the holes stays.
pub filled_front : (front more : List Instr) (low : ℕ) (holes : List Hole) (exits : Exits) → AreWithin low (length front) holes → filled (front ++ more) holes exits ≡ filled front holes exits ++ more
filled_front front more low [] exits w = refl
filled_front front more low (h ∷ holes) exits w =
    ap (λ code. slice_set code h.at (jump h.exit exits)) (filled_front front more low holes exits w.2)
    ∙ set_left (filled front holes exits) more h.at (jump h.exit exits) (let l = filled_long front holes exits in let below = w.1 in omega (arith, l, below))

-- What stands before the holes may be set before or after.
pub filled_set : (code : List Instr) (at : ℕ) (i : Instr) (low high : ℕ) (holes : List Hole) (exits : Exits) → at < low → AreWithin low high holes
    → filled (slice_set code at i) holes exits ≡ slice_set (filled code holes exits) at i
filled_set code at i low high [] exits below w = refl
filled_set code at i low high (h ∷ holes) exits below w =
    ap (λ c. slice_set c h.at (jump h.exit exits)) (filled_set code at i low high holes exits below w.2)
    ∙ set_apart (filled code holes exits) at h.at i (jump h.exit exits) (λ e. let above = w.0 in absurd (omega (arith, e, above, below)))

pub filled_more : (code : List Instr) (first second : List Hole) (exits : Exits) → filled code (first ++ second) exits ≡ filled (filled code second exits) first exits
filled_more code [] second exits = refl
filled_more code (h ∷ first) second exits = ap (λ c. slice_set c h.at (jump h.exit exits)) (filled_more code first second exits)

pub within_wider : (low high low_2 high_2 : ℕ) (holes : List Hole) → low_2 ≤ low → high ≤ high_2 → AreWithin low high holes → AreWithin low_2 high_2 holes
within_wider low high low_2 high_2 [] below above w = tt
within_wider low high low_2 high_2 (h ∷ holes) below above w =
    (let a = w.0 in omega (arith, a, below), let b = w.1 in omega (arith, b, above), within_wider low high low_2 high_2 holes below above w.2)

pub within_both : (low high : ℕ) (first second : List Hole) → AreWithin low high first → AreWithin low high second → AreWithin low high (first ++ second)
within_both low high [] second w v = v
within_both low high (h ∷ first) second w v = (w.0, w.1, within_both low high first second w.2 v)
