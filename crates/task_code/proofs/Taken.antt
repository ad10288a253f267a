-- Arguments off a stack that grows at the end of a list.
use Rattle.std.proofs.Common.{◌≡◌, ℕ, zero, suc, ◌≤◌, ◌-◌, List, [], ◌∷◌, ◌++◌, length, reverse, take, drop, Option, Some, None, IsSome, refl, sym, ap, subst, ◌∙◌, arith, length-drop}
use Rattle.std.proofs.lemmas.Bool.{false≢true}
use Rattle.std.proofs.lemmas.List.{reverse-append, reverse-reverse, length-reverse, take-append-drop}
use Rattle.std.proofs.lemmas.Grind.{reverse_onto}
use Rattle.sdg_base.specs.declared.val.Val.{Val}
use Rattle.flat_code.specs.Machine.{arguments, with_last}

onto : (taken rest : List Val) → arguments (length taken) (taken ++ rest) ≡ Some (reverse taken, rest)
onto [] rest = refl
onto (v ∷ taken) rest =
    ap (with_last v) (onto taken rest)
    ∙ ap (λ (vs : List Val). Some (vs, rest)) (sym (reverse_onto taken v []))

pub taken_off : (front back : List Val) → arguments (length back) (reverse (front ++ back)) ≡ Some (back, reverse front)
taken_off front back =
    ap (arguments (length back)) (reverse-append front back)
    ∙ ap (λ (n : ℕ). arguments n (reverse back ++ reverse front)) (sym (length-reverse back))
    ∙ onto (reverse back) (reverse front)
    ∙ ap (λ (vs : List Val). Some (vs, reverse front)) (reverse-reverse back)

-- the last so many of a list, whose last is on top
pub last_taken : (xs : List Val) (n : ℕ) → n ≤ length xs → arguments n (reverse xs) ≡ Some (drop (length xs - n) xs, reverse (take (length xs - n) xs))
last_taken xs n within =
    let k = length xs - n in
    ap (λ (m : ℕ). arguments m (reverse xs)) (omega (arith, length-drop k xs))
    ∙ ap (λ (ys : List Val). arguments (length (drop k xs)) (reverse ys)) (sym (take-append-drop k xs))
    ∙ taken_off (take k xs) (drop k xs)

bound_after : (v : Val) (n : ℕ) (stack : List Val) → (IsSome (arguments n stack) → n ≤ length stack) → (o : Option (List Val × List Val)) → arguments n stack ≡ o → IsSome (with_last v o) → suc n ≤ suc (length stack)
bound_after v n stack below None e some = absurd (false≢true some)
bound_after v n stack below (Some taken) e some = omega (arith, below (subst (λ (o : Option (List Val × List Val)). IsSome o) (sym e) some))

-- There are as many as were taken.
pub there_are : (n : ℕ) (stack : List Val) → IsSome (arguments n stack) → n ≤ length stack
there_are zero stack some = omega arith
there_are (suc n) [] some = absurd (false≢true some)
there_are (suc n) (v ∷ stack) some = bound_after v n stack (there_are n stack) (arguments n stack) refl some

pub there_are_in : (n : ℕ) (xs stack : List Val) → reverse xs ≡ stack → IsSome (arguments n stack) → n ≤ length xs
there_are_in n xs stack is some = omega (arith, there_are n stack some, ap length is, length-reverse xs)

pub popped : (n len : ℕ) (xs stack args rest : List Val) → reverse xs ≡ stack → IsSome (arguments n stack) → len ≡ length xs → args ≡ drop (len - n) xs → rest ≡ take (len - n) xs → arguments n stack ≡ Some (args, reverse rest)
popped n len xs stack args rest is some long tail front =
    ap (arguments n) (sym is)
    ∙ last_taken xs n (there_are_in n xs stack is some)
    ∙ ap (λ (k : ℕ). Some (drop (k - n) xs, reverse (take (k - n) xs))) (sym long)
    ∙ ap (λ (ys : List Val). Some (ys, reverse (take (len - n) xs))) (sym tail)
    ∙ ap (λ (ys : List Val). Some (args, reverse ys)) (sym front)
