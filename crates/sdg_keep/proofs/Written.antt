-- laws on what is added in steps
use Rattle.std.proofs.Common.{◌≡◌, ℕ, ◌+◌, ◌≤◌, List, ◌++◌, [], length, take, drop, Option, Some, None, Err, refl, sym, ap, subst, ◌∙◌, arith, append_assoc, length-drop}
use Rattle.std.proofs.Math.Seq.{take-add}
use Rattle.std.proofs.lemmas.List.{append-nil}
use Rattle.sdg_base.specs.declared.store.KeepError.{KeepError}
use Rattle.sdg_base.specs.declared.store.KeepError.TheVariants.{Failed, Memory}
use Rattle.sdg_keep.specs.Writes.{Appends, AppendsPrefix, TakesOnFault}

-- what is added in two steps is added in one
pub Appends-append : {T : Type 0} → (a b c : Option (List T)) (xs ys : List T) → Appends a b xs → Appends b c ys → Appends a c (xs ++ ys)
Appends-append None None c xs ys first second = second
Appends-append None (Some b) c xs ys first second = cc
Appends-append (Some a) None c xs ys first second = cc
Appends-append (Some a) (Some b) c xs ys first second = second ∙ ap Some (ap (λ w. w ++ ys) (let e : b ≡ a ++ xs = cc in e) ∙ append_assoc a xs ys)

-- the first n bytes, and then m of those that follow
pub Appends-more : (a b c : Option (List ℕ)) (n m : ℕ) (xs : List ℕ) → Appends a b (take n xs) → Appends b c (take m (drop n xs)) → Appends a c (take (n + m) xs)
Appends-more a b c n m xs first second = rw (take-add n m xs) (Appends-append a b c _ _ first second)

-- at the start nothing is added
pub Appends-none : {T : Type 0} → (a : Option (List T)) → Appends a a []
Appends-none None = refl
Appends-none (Some a) = ap Some (sym (append-nil a))

-- after a fault in the midst the bytes added are some first bytes of the whole
pub AppendsPrefix-fault : (a b c : Option (List ℕ)) (n : ℕ) (xs piece : List ℕ) (e : KeepError) → piece ≡ drop n xs → n ≤ length xs → Appends a b (take n xs) → TakesOnFault {T = ℕ} b c piece (Err e) → AppendsPrefix a c xs
AppendsPrefix-fault a b c n xs piece Failed same within first last =
    (n + last.0, let l : last.0 ≤ length piece = last.1 in omega (arith, length-drop n xs, ap length same), Appends-more a b c n last.0 xs first (rw (← same) last.2))
AppendsPrefix-fault a b c n xs piece Memory same within first last = (n, within, subst (λ w. Appends a w (take n xs)) (sym last) first)
