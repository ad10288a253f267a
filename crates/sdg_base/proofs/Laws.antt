-- Division's laws (JLS 15.17.2, 15.17.3): (a / b) * b + a % b is a, also where the quotient wraps around, and the least
-- number by -1 is itself, with no remainder.
use Rattle.std.proofs.Common.{◌≡◌, ℤ, pos, negsuc, ◌-◌, ◌^◌, ◌+ℤ◌, ◌*ℤ◌, refl, sym, ap, ◌∙◌}
use Rattle.std.specs.Prelude.{FitsSigned, Some, Ok}
use Rattle.std.specs.Int.{int_wrap}
use Rattle.std.specs.Int.RustNames.{int_div}
use Rattle.std.proofs.lemmas.Int.{quot-rem, int_wrap_fits, int_wrap-mul_left, int_wrap-add_left}
use Rattle.sdg_base.specs.declared.operator.BinOp.TheVariants as bin
use Rattle.sdg_base.specs.declared.val.Num.{Num}
use Rattle.sdg_base.specs.declared.val.Val.TheVariants as val
use Rattle.sdg_base.specs.Arithmetic.{wrap, remainder}
use Rattle.sdg_base.specs.Operations.{operation}
use Rattle.sdg_base.proofs.Wrapping.{width, wrap_is, remainder_is}

product : (t : Num) (q b : ℤ) → wrap t (wrap t q *ℤ b) ≡ int_wrap (width t) (q *ℤ b)
product t q b = wrap_is t (wrap t q *ℤ b) ∙ ap (λ x. int_wrap (width t) (x *ℤ b)) (wrap_is t q) ∙ int_wrap-mul_left (width t) q b

pub quotient-remainder : (t : Num) (a b : ℤ) → FitsSigned (width t) a → wrap t (wrap t (wrap t (int_div a b) *ℤ b) +ℤ remainder a b) ≡ a
quotient-remainder t a b fits =
    let w = width t in
    let q = int_div a b in
    wrap_is t (wrap t (wrap t q *ℤ b) +ℤ remainder a b)
    ∙ ap (λ x. int_wrap w (x +ℤ remainder a b)) (product t q b)
    ∙ int_wrap-add_left w (q *ℤ b) (remainder a b)
    ∙ ap (λ r. int_wrap w (q *ℤ b +ℤ r)) (sym (remainder_is a b))
    ∙ ap (int_wrap w) (quot-rem a b)
    ∙ int_wrap_fits w a fits

pub least_int : operation bin.Div (val.Int (negsuc (2 ^ 31 - 1))) (val.Int (negsuc 0)) ≡ Some (Ok (val.Int (negsuc (2 ^ 31 - 1))))
unfolding wrap
least_int = refl

pub least_int_rest : operation bin.Rem (val.Int (negsuc (2 ^ 31 - 1))) (val.Int (negsuc 0)) ≡ Some (Ok (val.Int (pos 0)))
unfolding remainder
least_int_rest = refl

pub least_long : operation bin.Div (val.Long (negsuc (2 ^ 63 - 1))) (val.Long (negsuc 0)) ≡ Some (Ok (val.Long (negsuc (2 ^ 63 - 1))))
unfolding wrap
least_long = refl

pub least_long_rest : operation bin.Rem (val.Long (negsuc (2 ^ 63 - 1))) (val.Long (negsuc 0)) ≡ Some (Ok (val.Long (pos 0)))
unfolding remainder
least_long_rest = refl
