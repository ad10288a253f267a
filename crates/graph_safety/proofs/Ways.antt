-- Ways through code: what comes next, ways that spend no turn, and how many instructions such a way may still pass.
use Rattle.std.proofs.Common.{◌≡◌, ◌≢◌, refl, sym, subst, ℕ, zero, suc, ◌+◌, ◌*◌, ◌<◌, ◌≤◌, arith, mul-le-mul_right, suc-mul, List, [], ◌∷◌, Some, slice_get, inl, inr, ◌⊎◌}
use Rattle.flat_code.specs.declared.graph.Instr.{Instr}
use Rattle.flat_code.specs.declared.graph.Instr.TheVariants as instr
use Rattle.flat_code.specs.declared.graph.Task.{Task}
use Rattle.flat_code.specs.Ways.{IsIn, IsFirst, IsLater, next_of, next_in_task, reads, needs, IsFree, One, More}
use Rattle.flat_code.specs.Verified.{IsJumpTo}
use Rattle.graph_safety.proofs.Lists.{same_or_not}

abbrev pub Among : ℕ → List ℕ → Type 0
Among x [] = ⊥
Among x (y ∷ ys) = (x ≡ y) ⊎ Among x ys

pub among : (x : ℕ) (ys : List ℕ) → IsIn x ys → Among x ys
among x ys (IsFirst xs) = inl refl
among x ys (IsLater y xs h) = inr (among x xs h)

pub only_one : (x y : ℕ) → IsIn x (y ∷ []) → x ≡ y
only_one x y h = by (among x (y ∷ []) h)
  where
    by : Among x (y ∷ []) → x ≡ y
    by (inl e) = e
    by (inr k) = absurd k

pub one_or_other : (x y z : ℕ) → IsIn x (y ∷ z ∷ []) → (x ≡ y) ⊎ (x ≡ z)
one_or_other x y z h = by (among x (y ∷ z ∷ []) h)
  where
    by : Among x (y ∷ z ∷ []) → (x ≡ y) ⊎ (x ≡ z)
    by (inl e) = inl e
    by (inr (inl e)) = inr e
    by (inr (inr k)) = absurd k

pub reads_needed : (tasks : List Task) (i : Instr) (v : ℕ) → IsIn v (reads i) → IsIn v (needs tasks i)
reads_needed tasks (instr.Cut t) v h = absurd (among v [] h)
reads_needed tasks _ v h = h

pub next_is : (at : ℕ) (i : Instr) (next : ℕ) → IsIn next (next_in_task at i) → IsIn next (next_of at i)
next_is at (instr.Cut t) next h = absurd (among next [] h)
next_is at (instr.Part t) next h = absurd (among next [] h)
next_is at _ next h = h

-- a run comes to an instruction from the one before it or by a jump
pub comes : (at : ℕ) (i : Instr) (next : ℕ) → IsIn next (next_in_task at i) → (next ≡ suc at) ⊎ IsJumpTo next i
comes at (instr.Jump to) next h = inr (sym (only_one next to h))
comes at (instr.IfFalse to) next h = by (one_or_other next (suc at) to h)
  where
    by : (next ≡ suc at) ⊎ (next ≡ to) → (next ≡ suc at) ⊎ (to ≡ next)
    by (inl e) = inl e
    by (inr e) = inr (sym e)
comes at (instr.Cut t) next h = absurd (among next [] h)
comes at (instr.Part t) next h = absurd (among next [] h)
comes at instr.Return next h = absurd (among next [] h)
comes at instr.ReturnVoid next h = absurd (among next [] h)
comes at _ next h = inl (only_one next (suc at) h)

pub free_more : (code : List Instr) (from at next : ℕ) (i : Instr) → IsFree code from at → slice_get code at ≡ Some i → i ≢ instr.Turn → IsIn next (next_of at i) → IsFree code from next
free_more code from at next i (One a b j is no_turn step) is_code plain is_next = More a b next j is no_turn step (One b next i is_code plain is_next)
free_more code from at next i (More a via b j is no_turn step way) is_code plain is_next = More a via next j is no_turn step (free_more code via b next i way is_code plain is_next)

-- ---- how many numbers below another one are not among some

pub among_or_not : (x : ℕ) (ys : List ℕ) → Among x ys ⊎ (Among x ys → ⊥)
among_or_not x [] = inr (λ h. h)
among_or_not x (y ∷ ys) = by (same_or_not x y) (among_or_not x ys)
  where
    by : (x ≡ y) ⊎ (x ≢ y) → Among x ys ⊎ (Among x ys → ⊥) → Among x (y ∷ ys) ⊎ (Among x (y ∷ ys) → ⊥)
    by (inl e) o = inl (inl e)
    by (inr n) (inl h) = inl (inr h)
    by (inr n) (inr k) = inr none
      where
        none : Among x (y ∷ ys) → ⊥
        none (inl e) = n e
        none (inr h) = k h

abbrev pub missing : {A B : Type 0} → A ⊎ B → ℕ
missing (inl a) = 0
missing (inr b) = 1

abbrev pub rest_of : ℕ → List ℕ → ℕ
rest_of zero ys = 0
rest_of (suc n) ys = missing (among_or_not n ys) + rest_of n ys

missing_less : (n v : ℕ) (ys : List ℕ) (a : Among n (v ∷ ys) ⊎ (Among n (v ∷ ys) → ⊥)) (b : Among n ys ⊎ (Among n ys → ⊥)) → missing a ≤ missing b
missing_less n v ys (inl h) b = omega arith
missing_less n v ys (inr k) (inl h) = absurd (k (inr h))
missing_less n v ys (inr k) (inr l) = omega arith

rest_less : (n v : ℕ) (ys : List ℕ) → rest_of n (v ∷ ys) ≤ rest_of n ys
rest_less zero v ys = omega arith
rest_less (suc n) v ys =
    let h = missing_less n v ys (among_or_not n (v ∷ ys)) (among_or_not n ys) in
    let k = rest_less n v ys in
    omega arith

missing_here : (n : ℕ) (ys : List ℕ) (a : Among n (n ∷ ys) ⊎ (Among n (n ∷ ys) → ⊥)) (b : Among n ys ⊎ (Among n ys → ⊥)) → (Among n ys → ⊥) → suc (missing a) ≤ missing b
missing_here n ys (inr k) b new = absurd (k (inl refl))
missing_here n ys (inl h) (inl l) new = absurd (new l)
missing_here n ys (inl h) (inr l) new = omega arith

rest_here : (n : ℕ) (ys : List ℕ) → (Among n ys → ⊥) → suc (rest_of (suc n) (n ∷ ys)) ≤ rest_of (suc n) ys
rest_here n ys new =
    let h = missing_here n ys (among_or_not n (n ∷ ys)) (among_or_not n ys) new in
    let k = rest_less n n ys in
    omega arith

rest_above : (n v : ℕ) (ys : List ℕ) → suc (rest_of n (v ∷ ys)) ≤ rest_of n ys → suc (rest_of (suc n) (v ∷ ys)) ≤ rest_of (suc n) ys
rest_above n v ys h =
    let k = missing_less n v ys (among_or_not n (v ∷ ys)) (among_or_not n ys) in
    omega arith

pub rest_fewer : (n v : ℕ) (ys : List ℕ) → v < n → (Among v ys → ⊥) → suc (rest_of n (v ∷ ys)) ≤ rest_of n ys
rest_fewer zero v ys within new = absurd (omega arith)
rest_fewer (suc n) v ys within new = by (same_or_not v n) (rest_fewer n v ys)
  where
    by : (v ≡ n) ⊎ (v ≢ n) → (v < n → (Among v ys → ⊥) → suc (rest_of n (v ∷ ys)) ≤ rest_of n ys) → suc (rest_of (suc n) (v ∷ ys)) ≤ rest_of (suc n) ys
    by (inl e) more = subst (λ (k : ℕ). suc (rest_of (suc n) (k ∷ ys)) ≤ rest_of (suc n) ys) (sym e) (rest_here n ys (subst (λ (k : ℕ). Among k ys → ⊥) e new))
    by (inr ne) more = let below : v < n = omega arith in rest_above n v ys (more below new)

missing_most : {A B : Type 0} → (o : A ⊎ B) → missing o ≤ 1
missing_most (inl a) = omega arith
missing_most (inr b) = omega arith

pub rest_most : (n : ℕ) (ys : List ℕ) → rest_of n ys ≤ n
rest_most zero ys = omega arith
rest_most (suc n) ys =
    let h = missing_most (among_or_not n ys) in
    let k = rest_most n ys in
    omega arith

-- ---- how many steps are left

-- steps that suffice with so many turns, from an instruction to which a way came that passed these since its last turn
abbrev pub Suffices : ℕ → ℕ → List ℕ → ℕ → Type 0
Suffices size turns passed steps = turns * suc size + suc (rest_of size passed) ≤ steps

pub suffices_at_first : (size turns : ℕ) → Suffices size turns [] (suc turns * suc size)
suffices_at_first size turns =
    let h = rest_most size [] in
    let e = suc-mul turns (suc size) in
    omega arith

plain_steps : (t u r s k : ℕ) → t ≤ u → suc r ≤ s → u + suc s ≤ suc k → t + suc r ≤ k
plain_steps t u r s k h i j = omega arith

pub suffices_next : (size turns left : ℕ) (passed : List ℕ) (at steps : ℕ) → Suffices size turns passed (suc steps) → left ≤ turns → at < size → (Among at passed → ⊥) → Suffices size left (at ∷ passed) steps
suffices_next size turns left passed at steps enough less within new =
    plain_steps (left * suc size) (turns * suc size) (rest_of size (at ∷ passed)) (rest_of size passed) steps (mul-le-mul_right (suc size) less) (rest_fewer size at passed within new) enough

spent_plain : (t u z r s k : ℕ) → suc z + t ≤ u → r ≤ z → u + suc s ≤ suc k → t + suc r ≤ k
spent_plain t u z r s k h i j = omega arith

pub suffices_spent : (size turns left : ℕ) (passed : List ℕ) (steps : ℕ) → Suffices size turns passed (suc steps) → left < turns → Suffices size left [] steps
suffices_spent size turns left passed steps enough less =
    let whole : suc left * suc size ≤ turns * suc size = mul-le-mul_right (suc size) less in
    let e = suc-mul left (suc size) in
    let apart : suc size + left * suc size ≤ turns * suc size = omega arith in
    spent_plain (left * suc size) (turns * suc size) size (rest_of size []) (rest_of size passed) steps apart (rest_most size []) enough

pub suffices_some : (size turns : ℕ) (passed : List ℕ) → Suffices size turns passed 0 → ⊥
suffices_some size turns passed enough = omega arith
