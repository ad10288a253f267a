-- Nothing is first only where there is nothing.
use Rattle.std.proofs.Common.{◌≡◌, Bool, true, false, List, [], ◌∷◌, fold, Option, None, Some, is_some, length, if◌then◌else◌, refl, ap, arith}
use Rattle.annotations.specs.declared.checking.Refused.{Refused}
use Rattle.annotations.specs.declared.error.AnnotError.{AnnotError}
use Rattle.annotations.specs.declared.error.AnnotError.TheVariants as errors
use Rattle.annotations.specs.Check.{is_before, earlier, first_of, Refuses}

some_of : (b : Bool) (f g : Refused) → is_some (if b then Some f else Some g) ≡ true
some_of true f g = refl
some_of false f g = refl

kept : (o : Option Refused) (all : List Refused) → is_some o ≡ true → is_some (fold earlier o all) ≡ true
kept None all h = absurd (cc)
kept (Some f) [] h = refl
kept (Some f) (x ∷ all) h = kept (earlier (Some f) x) all (some_of (is_before x f) x f)

pub none_left : (all : List Refused) → first_of all ≡ None → all ≡ []
none_left [] h = refl
none_left (x ∷ all) h = absurd (let k = kept (Some x) all refl in let n : is_some (first_of (x ∷ all)) ≡ false = ap is_some h in cc)

-- Where nothing is refused, a refusal is want of memory.
pub only_memory : (all : List Refused) (e : AnnotError) → Refuses all e → all ≡ [] → e ≡ errors.Memory
only_memory all errors.Memory h none = refl
only_memory all (errors.Rule rule place) h none = absurd (let lt = h.is_one.1 in let e = ap length none in omega arith)
