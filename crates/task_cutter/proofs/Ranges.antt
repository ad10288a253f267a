-- One number more.
use Rattle.std.proofs.Common.{◌≡◌, ℕ, zero, suc, ◌+◌, [], ◌∷◌, ◌++◌, sym, ap, ◌∙◌, arith}
use Rattle.std.specs.List.{range_with_len}

pub range_more : (a n : ℕ) → range_with_len a (n + 1) ≡ range_with_len a n ++ (a + n) ∷ []
range_more a zero = (let e : a + 0 ≡ a = omega arith in ap (λ x. x ∷ []) (sym e))
range_more a (suc n) =
    let e : (a + 1) + n ≡ a + suc n = omega arith in
    let k : suc n + 1 ≡ suc (n + 1) = omega arith in
    ap (range_with_len a) k ∙ ap (λ xs. a ∷ xs) (range_more (a + 1) n ∙ ap (λ x. range_with_len (a + 1) n ++ x ∷ []) e)
