-- Calls among which no callee reaches its caller: one more such call, and why no method calls itself through others.
use Rattle.std.proofs.Common.{◌≡◌, ◌⊎◌, ℕ, zero, suc, ◌<◌, Bool, true, false, ◌||◌, ◌&&◌, nat_eq, List, [], ◌∷◌, ◌++◌, fold, length, slice_index_or, inl, inr, refl, sym, ap, subst, ◌∙◌, eq-eqb, arith}
use Rattle.std.proofs.lemmas.List.Elements.{Contains-push_cases}
use Rattle.java_types.specs.declared.calls.Call.{Call}
use Rattle.java_types.specs.Calls.{with_call, reaches}
use Rattle.java_types.specs.Walks.{call}
use Rattle.java_types.proofs.Reaching.{reaches_transitive, reaches-push}
use Rattle.accepted_classes.proofs.Steps.{IsCall, IsAcyclic}

-- ---- a call reaches

abbrev Holds : (ℕ → ℕ → Bool) → Type 0
Holds r = (n : ℕ) → r n n ≡ true

by_left : (a b : Bool) → a ≡ true → (a || b) ≡ true
by_left true b h = refl
by_left false b h = absurd (cc)

by_right : (a b c : Bool) → b ≡ true → c ≡ true → (a || b && c) ≡ true
by_right true b c p q = refl
by_right false true c p q = q
by_right false false c p q = absurd (cc)

kept_with : (r : ℕ → ℕ → Bool) (c : Call) → Holds r → Holds (with_call r c)
kept_with r c h n = by_left (r n n) (r n c.caller && r c.callee n) (h n)

still_reaches : (calls : List Call) (r : ℕ → ℕ → Bool) (x y : ℕ) → r x y ≡ true → fold with_call r calls x y ≡ true
still_reaches [] r x y h = h
still_reaches (c ∷ calls) r x y h = still_reaches calls (with_call r c) x y (by_left (r x y) (r x c.caller && r c.callee y) h)

there_reaches : (calls : List Call) (r : ℕ → ℕ → Bool) (x y k : ℕ) → Holds r → k < length calls → slice_index_or calls k (call x y) ≡ call x y → fold with_call r calls x y ≡ true
there_reaches [] r x y k h lt is = absurd (omega arith)
there_reaches (c ∷ calls) r x y zero h lt is =
    let from : r x c.caller ≡ true = subst (λ (n : ℕ). r x n ≡ true) (sym (ap (λ (d : Call). d.caller) is)) (h x) in
    let to : r c.callee y ≡ true = subst (λ (n : ℕ). r n y ≡ true) (sym (ap (λ (d : Call). d.callee) is)) (h y) in
    still_reaches calls (with_call r c) x y (by_right (r x y) (r x c.caller) (r c.callee y) from to)
there_reaches (c ∷ calls) r x y (suc k) h lt is = there_reaches calls (with_call r c) x y k (kept_with r c h) (omega arith) is

itself : Holds nat_eq
itself n = eq-eqb n n refl

pub call_reaches : (calls : List Call) (x y : ℕ) → IsCall calls x y → reaches calls x y ≡ true
call_reaches calls x y is = there_reaches calls nat_eq x y is.0 itself is.1 is.2

pub reaches_itself : (calls : List Call) (n : ℕ) → reaches calls n n ≡ true
reaches_itself calls n = still_reaches calls nat_eq n n (itself n)

-- ---- one more call

neither : (a b c : Bool) → a ≡ false → (b ≡ true → c ≡ true → ⊥) → (a || b && c) ≡ false
neither true b c h k = absurd (cc)
neither false true true h k = absurd (k refl refl)
neither false true false h k = refl
neither false false c h k = refl

both_ways : (b : Bool) → b ≡ true → b ≡ false → ⊥
both_ways b h k = cc

module _ (calls : List Call) (from to : ℕ) (acyclic : IsAcyclic calls) (closes : reaches calls to from ≡ false) where
  now : (x y : ℕ) → reaches (calls ++ call from to ∷ []) x y ≡ (reaches calls x y || reaches calls x from && reaches calls to y)
  now x y = ap (λ (r : ℕ → ℕ → Bool). r x y) (reaches-push calls (call from to))

  old : (x y : ℕ) → IsCall calls x y → reaches (calls ++ call from to ∷ []) y x ≡ false
  old x y is =
      now y x ∙ neither (reaches calls y x) (reaches calls y from) (reaches calls to x) (acyclic x y is)
      (λ a b. both_ways (reaches calls to from)
      (reaches_transitive calls to y from (reaches_transitive calls to x y b (call_reaches calls x y is)) a) closes)

  new : (x y : ℕ) → call from to ≡ call x y → reaches (calls ++ call from to ∷ []) y x ≡ false
  new x y is =
      let f : from ≡ x = ap (λ (d : Call). d.caller) is in
      let t : to ≡ y = ap (λ (d : Call). d.callee) is in
      subst (λ (n : ℕ). reaches (calls ++ call from to ∷ []) y n ≡ false) f
      (subst (λ (n : ℕ). reaches (calls ++ call from to ∷ []) n from ≡ false) t
      (now to from ∙ neither (reaches calls to from) (reaches calls to from) (reaches calls to from) closes (λ a b. both_ways (reaches calls to from) a closes)))

  pub acyclic_push : IsAcyclic (calls ++ call from to ∷ [])
  acyclic_push x y is = cases (Contains-push_cases calls (call from to) (call x y) is)
    where
      cases : IsCall calls x y ⊎ (call from to ≡ call x y) → reaches (calls ++ call from to ∷ []) y x ≡ false
      cases (inl p) = old x y p
      cases (inr p) = new x y p

-- ---- paths

pub acyclic_nil : IsAcyclic []
acyclic_nil x y is = absurd (let lt = is.1 in omega arith)
