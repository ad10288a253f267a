-- Runs one after the other, and instructions one after the other.
use Rattle.std.proofs.Common.{◌≡◌, ◌≤◌, ◌+◌, ◌-◌, ◌*◌, ℕ, zero, suc, List, [], ◌∷◌, ◌++◌, length, Option, Some, None, slice_get, refl, ap, subst, ◌∙◌, add_assoc, one-add, zero-add, mul-le-mul_left, mul-le-mul_right, arith}
use Rattle.sdg_base.specs.declared.val.Val.{Val}
use Rattle.sdg_base.specs.declared.val.Outcome.{Outcome}
use Rattle.sdg_base.specs.declared.val.Outcome.TheVariants as outcome
use Rattle.state_classes.specs.declared.method.Method.{Method}
use Rattle.state_classes.specs.States.{State, called}
use Rattle.flat_code.specs.declared.graph.Instr.{Instr}
use Rattle.flat_code.specs.declared.graph.Instr.TheVariants as instr
use Rattle.flat_code.specs.Machine.{Setting, Frame, Ending, Stopped, Performed, Goes, Accesses, Ends, Ran, perform, perform_on, after, after_access, pushed_result, run_within}
use Rattle.code_meaning.specs.Laid.{IsLaid, frame, Leads, EndsSo, Stops}

-- ---- instructions in code

pub laid_parts : (code : List Instr) (at : ℕ) (xs ys : List Instr) → IsLaid code at (xs ++ ys) → IsLaid code at xs × IsLaid code (at + length xs) ys
laid_parts code at [] ys h = let e : at ≡ at + 0 = omega arith in (tt, subst (λ a. IsLaid code a ys) e h)
laid_parts code at (x ∷ xs) ys h =
    let more = laid_parts code (suc at) xs ys h.1 in
    let e : suc at + length xs ≡ at + suc (length xs) = omega arith in
    ((h.0, more.0), subst (λ a. IsLaid code a ys) e more.1)

-- the same where the length of the first is known
pub laid_two : (code : List Instr) (at n : ℕ) (xs ys : List Instr) → length xs ≡ n → IsLaid code at (xs ++ ys) → IsLaid code at xs × IsLaid code (at + n) ys
laid_two code at n xs ys is h = let parts = laid_parts code at xs ys h in (parts.0, subst (λ k. IsLaid code (at + k) ys) is parts.1)

-- ---- how many steps

few_of_two : (na nb s1 s2 t0 t1 t2 : ℕ) → s1 + na * t1 ≤ na * suc t0 → s2 + nb * t2 ≤ nb * suc t1 → t2 ≤ t1 → t1 ≤ t0
    → (s1 + s2) + (na + nb) * t2 ≤ (na + nb) * suc t0
few_of_two na nb s1 s2 t0 t1 t2 h1 h2 l2 l1 = omega (arith, mul-le-mul_left na l2, mul-le-mul_left nb l1)

few_to_end : (na nb s1 s2 t0 t1 : ℕ) → s1 + na * t1 ≤ na * suc t0 → s2 ≤ nb * suc t1 → t1 ≤ t0 → s1 + s2 ≤ (na + nb) * suc t0
few_to_end na nb s1 s2 t0 t1 h1 h2 l1 = let k : 0 ≤ t1 = omega arith in omega (arith, mul-le-mul_left nb l1, mul-le-mul_left na k)

few_more : (n d s t0 t1 : ℕ) → t1 ≤ t0 → s + n * t1 ≤ n * suc t0 → s + (n + d) * t1 ≤ (n + d) * suc t0
few_more n d s t0 t1 l h = omega (arith, mul-le-mul_left d l)

few_wider : (n m s t0 t1 : ℕ) → n ≤ m → t1 ≤ t0 → s + n * t1 ≤ n * suc t0 → s + m * t1 ≤ m * suc t0
few_wider n m s t0 t1 l l1 h = let e : n + (m - n) ≡ m = omega arith in subst (λ k. s + k * t1 ≤ k * suc t0) e (few_more n (m - n) s t0 t1 l1 h)

few_ends_wider : (n m s t0 : ℕ) → n ≤ m → s ≤ n * suc t0 → s ≤ m * suc t0
few_ends_wider n m s t0 l h = omega (arith, mul-le-mul_right (suc t0) l)

-- ---- more fuel

access_more : (next longer : Frame → State → Option Ran) (r : Ran) → ((f : Frame) (a : State) → next f a ≡ Some r → longer f a ≡ Some r)
    → (f : Frame) (answer : Outcome × State) → after_access next f answer ≡ Some r → after_access longer f answer ≡ Some r
access_more next longer r more f (outcome.Value v, state) e = more (record { at = f.at; stack = pushed_result v f.stack; variables = f.variables; turns = f.turns }) state e
access_more next longer r more f (outcome.Throws x, state) e = e
access_more next longer r more f (outcome.Limit, state) e = e

after_more : (next longer : Frame → State → Option Ran) (r : Ran) → ((f : Frame) (a : State) → next f a ≡ Some r → longer f a ≡ Some r)
    → (state : State) (p : Option Performed) → after next state p ≡ Some r → after longer state p ≡ Some r
after_more next longer r more state None e = e
after_more next longer r more state (Some (Goes f)) e = more f state e
after_more next longer r more state (Some (Accesses m args f)) e = access_more next longer r more f (called m args state) e
after_more next longer r more state (Some (Ends ending f)) e = e

no_fuel : {A : Type 0} {r : A} → None ≡ Some r → ⊥
no_fuel e = cc

module _ (s : Setting) (code : List Instr) where
  -- A run that has ended ends so with more fuel.
  pub more_fuel : (n m : ℕ) → n ≤ m → (f : Frame) (state : State) (r : Ran) → run_within n s code f state ≡ Some r → run_within m s code f state ≡ Some r
  unfolding run_within
  more_fuel zero m l f state r e = absurd (no_fuel e)
  more_fuel (suc n) zero l f state r e = absurd (omega arith)
  more_fuel (suc n) (suc m) l f state r e =
      let k : n ≤ m = omega arith in
      after_more (run_within n s code) (run_within m s code) r (λ g a. more_fuel n m k g a r) state (perform s (slice_get code f.at) f) e

  -- ---- one instruction

  one_more : (n : ℕ) (f : Frame) (state : State) → run_within (1 + n) s code f state ≡ after (run_within n s code) state (perform s (slice_get code f.at) f)
  unfolding run_within
  one_more n f state = ap (λ k. run_within k s code f state) (one-add n)

  performed : (n : ℕ) (i : Instr) (f : Frame) (state : State) (p : Option Performed) → slice_get code f.at ≡ Some i → perform_on s i f.stack f ≡ p
      → run_within (1 + n) s code f state ≡ after (run_within n s code) state p
  performed n i f state p is does =
      one_more n f state ∙ ap (λ o. after (run_within n s code) state (perform s o f)) is ∙ ap (after (run_within n s code) state) does

  pub one_step : (i : Instr) {f g : Frame} {state : State} → slice_get code f.at ≡ Some i → perform_on s i f.stack f ≡ Some (Goes g) → g.turns ≤ f.turns → Leads s code 1 f state g state
  one_step i {f} {g} {state} is does falls = record {
    steps = 1;
    same = λ n. performed n i f state (Some (Goes g)) is does;
    falls = falls;
    few = omega arith;
  }

  -- The step of a turn is one.
  pub one_turn : (at left : ℕ) (stack variables : List Val) (state : State) → slice_get code at ≡ Some instr.Turn → (n : ℕ)
      → run_within (1 + n) s code (frame at stack variables (suc left)) state ≡ run_within n s code (frame (at + 1) stack variables left) state
  one_turn at left stack variables state is n =
      let e : suc at ≡ at + 1 = omega arith in
      subst (λ k. run_within (1 + n) s code (frame at stack variables (suc left)) state ≡ run_within n s code (frame k stack variables left) state) e
      (performed n instr.Turn (frame at stack variables (suc left)) state (Some (Goes (frame (suc at) stack variables left))) is refl)

  pub one_end : (i : Instr) {f g : Frame} {state : State} {ending : Ending} → slice_get code f.at ≡ Some i → perform_on s i f.stack f ≡ Some (Ends ending g) → EndsSo s code 1 f state ending g state
  one_end i {f} {g} {state} {ending} is does = record {
    steps = 1;
    same = λ n. performed n i f state (Some (Ends ending g)) is does;
    few = omega arith;
  }

  pub one_stop : (i : Instr) {f g : Frame} {state : State} {how : Outcome} → slice_get code f.at ≡ Some i → perform_on s i f.stack f ≡ Some (Ends (Stopped how) g) → Stops s code 1 f state how state
  one_stop i {g = g} is does = record { last = g; ends = one_end i is does }

  pub one_access : (i : Instr) (m : Method) (args : List Val) {f g : Frame} {state next : State} {v : Val} → slice_get code f.at ≡ Some i → perform_on s i f.stack f ≡ Some (Accesses m args g)
      → g.turns ≤ f.turns → called m args state ≡ (outcome.Value v, next) → Leads s code 1 f state (frame g.at (pushed_result v g.stack) g.variables g.turns) next
  one_access i m args {f} {g} {state} {next} {v} is does falls answers = record {
    steps = 1;
    same = λ n. performed n i f state (Some (Accesses m args g)) is does ∙ ap (after_access (run_within n s code) g) answers;
    falls = falls;
    few = omega arith;
  }

  pub one_refused : (i : Instr) (m : Method) (args : List Val) {f g : Frame} {state next : State} (how : Outcome) → slice_get code f.at ≡ Some i → perform_on s i f.stack f ≡ Some (Accesses m args g)
      → called m args state ≡ (how, next) → ((v : Val) → how ≡ outcome.Value v → ⊥) → Stops s code 1 f state how next
  one_refused i m args {f} {g} {state} {next} (outcome.Value v) is does answers other = absurd (other v refl)
  one_refused i m args {f} {g} {state} {next} (outcome.Throws x) is does answers other = record {
    last = g;
    ends = record {
      steps = 1;
      same = λ n. performed n i f state (Some (Accesses m args g)) is does ∙ ap (after_access (run_within n s code) g) answers;
      few = omega arith;
    };
  }
  one_refused i m args {f} {g} {state} {next} outcome.Limit is does answers other = record {
    last = g;
    ends = record {
      steps = 1;
      same = λ n. performed n i f state (Some (Accesses m args g)) is does ∙ ap (after_access (run_within n s code) g) answers;
      few = omega arith;
    };
  }

  -- an end, and an access that is refused, in one step
  pub end_step : (i : Instr) (f g : Frame) (state : State) (ending : Ending) → slice_get code f.at ≡ Some i → perform_on s i f.stack f ≡ Some (Ends ending g) → (n : ℕ)
      → run_within (1 + n) s code f state ≡ Some (record { ending = ending; frame = g; state = state })
  end_step i f g state ending is does n = performed n i f state (Some (Ends ending g)) is does

  pub refused_step : (i : Instr) (m : Method) (args : List Val) (f g : Frame) (state next : State) (how : Outcome) → slice_get code f.at ≡ Some i → perform_on s i f.stack f ≡ Some (Accesses m args g)
      → called m args state ≡ (how, next) → ((v : Val) → how ≡ outcome.Value v → ⊥) → (n : ℕ) → run_within (1 + n) s code f state ≡ Some (record { ending = Stopped how; frame = g; state = next })
  refused_step i m args f g state next (outcome.Value v) is does answers other n = absurd (other v refl)
  refused_step i m args f g state next (outcome.Throws x) is does answers other n = performed n i f state (Some (Accesses m args g)) is does ∙ ap (after_access (run_within n s code) g) answers
  refused_step i m args f g state next outcome.Limit is does answers other n = performed n i f state (Some (Accesses m args g)) is does ∙ ap (after_access (run_within n s code) g) answers

  -- ---- runs one after the other

  pub stays : {f : Frame} {state : State} → Leads s code 0 f state f state
  stays {f} {state} = record { steps = 0; same = λ n. ap (λ k. run_within k s code f state) (zero-add n); falls = omega arith; few = omega arith }

  pub leads_on : {na nb : ℕ} {f g h : Frame} {a b c : State} → Leads s code na f a g b → Leads s code nb g b h c → Leads s code (na + nb) f a h c
  leads_on {na} {nb} {f} {g} {h} {a} {b} {c} p q = record {
    steps = p.steps + q.steps;
    same = λ n. ap (λ k. run_within k s code f a) (add_assoc p.steps q.steps n) ∙ p.same (q.steps + n) ∙ q.same n;
    falls = omega (arith, p.falls, q.falls);
    few = few_of_two na nb p.steps q.steps f.turns g.turns h.turns p.few q.few q.falls p.falls;
  }

  pub ends_on : {na nb : ℕ} {f g h : Frame} {a b c : State} {ending : Ending} → Leads s code na f a g b → EndsSo s code nb g b ending h c → EndsSo s code (na + nb) f a ending h c
  ends_on {na} {nb} {f} {g} {h} {a} {b} {c} p q = record {
    steps = p.steps + q.steps;
    same = λ n. ap (λ k. run_within k s code f a) (add_assoc p.steps q.steps n) ∙ p.same (q.steps + n) ∙ q.same n;
    few = few_to_end na nb p.steps q.steps f.turns g.turns p.few q.few p.falls;
  }

  pub stops_on : {na nb : ℕ} {f g : Frame} {a b c : State} {how : Outcome} → Leads s code na f a g b → Stops s code nb g b how c → Stops s code (na + nb) f a how c
  stops_on p q = record { last = q.last; ends = ends_on p q.ends }

  pub wider : {n m : ℕ} {f g : Frame} {a b : State} → n ≤ m → Leads s code n f a g b → Leads s code m f a g b
  wider {n} {m} {f} {g} l p = record { steps = p.steps; same = p.same; falls = p.falls; few = few_wider n m p.steps f.turns g.turns l p.falls p.few }

  pub ends_wider : {n m : ℕ} {f g : Frame} {a b : State} {ending : Ending} → n ≤ m → EndsSo s code n f a ending g b → EndsSo s code m f a ending g b
  ends_wider {n} {m} {f} l p = record { steps = p.steps; same = p.same; few = few_ends_wider n m p.steps f.turns l p.few }

  pub stops_wider : {n m : ℕ} {f : Frame} {a b : State} {how : Outcome} → n ≤ m → Stops s code n f a how b → Stops s code m f a how b
  stops_wider l p = record { last = p.last; ends = ends_wider l p.ends }

  -- to the same place, said otherwise
  pub leads_to : {n : ℕ} {f : Frame} {a b : State} {stack variables : List Val} {turns : ℕ} {at to : ℕ} → at ≡ to → Leads s code n f a (frame at stack variables turns) b → Leads s code n f a (frame to stack variables turns) b
  leads_to {n} {f} {a} {b} {stack} {variables} {turns} e p = subst (λ k. Leads s code n f a (frame k stack variables turns) b) e p
