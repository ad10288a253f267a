-- What single instructions do with operands, and one evaluation after the other.
use Rattle.std.proofs.Common.{◌≡◌, ◌≤◌, refl, sym, ap, subst, ℕ, suc, ◌+◌, ℤ, pos, negsuc, arith, Bool, true, false, cond, if◌then◌else◌, nat_lt, List, ◌∷◌, length, replicate, Option, Some, None, Ok, Err, slice_get}
use Rattle.sdg_base.specs.declared.val.Exn.TheVariants as exn
use Rattle.sdg_base.specs.declared.val.Outcome.TheVariants as outcome
use Rattle.sdg_base.specs.declared.val.Val.{Val}
use Rattle.sdg_base.specs.declared.val.Val.TheVariants as val
use Rattle.sdg_base.specs.declared.value_type.ValueType.{ValueType}
use Rattle.sdg_base.specs.declared.value_type.ValueType.TheVariants as type
use Rattle.sdg_base.specs.Operations.{Answer}
use Rattle.sdg_base.specs.Types as values
use Rattle.sdg_base.specs.Types.{binary_type, unary_type}
use Rattle.flat_code.specs.Types.{same_type}
use Rattle.state_classes.specs.States.{State}
use Rattle.flat_code.specs.declared.graph.Instr.{Instr}
use Rattle.flat_code.specs.declared.graph.Instr.TheVariants as instr
use Rattle.flat_code.specs.Machine as machine
use Rattle.flat_code.specs.Machine.{Setting, Frame, Performed, Goes, Stopped, Called, Gave, Failed, perform_on, pushed_result}
use Rattle.access_blocks.specs.declared.halt.Halt.{Halt}
use Rattle.access_blocks.specs.declared.halt.Halt.TheVariants.{Threw, TooLong}
use Rattle.access_blocks.specs.Expressions.{Ended, Gives, Ends, followed, outcome_of, answered, given, new_vector, most_elements, member_at, found, size_of, element_of}
use Rattle.body_code.specs.Typing.{where_type, and_then}
use Rattle.body_code.specs.Codes.{Code}
use Rattle.body_code.specs.ExpressionCode.{either}
use Rattle.code_meaning.specs.Laid.{IsSized, IsLaid, frame, Leads}
use Rattle.code_meaning.specs.Evaluating.{IsValue, AreOf, Evaluates}
use Rattle.code_meaning.proofs.Lists.{none_some, some_is}
use Rattle.code_meaning.proofs.Values.{AnswerHas, ValueHas, same_is}
use Rattle.code_meaning.proofs.Running.{laid_two, one_step, one_stop, leads_on, stops_on, wider, stops_wider, leads_to}
use Rattle.code_meaning.proofs.Operands.{on_stack}

-- ---- what is evaluated, as the start of more

module _ (s : Setting) (code : List Instr) (variables : List Val) (state : State) where
  pub onward : {na nb to : ℕ} {f g : Frame} {stack : List Val} {t : ValueType} (x : Ended Val) → Leads s code na f state g state
      → Evaluates s code nb g state to stack variables t x → Evaluates s code (na + nb) f state to stack variables t x
  onward (Gives v left) p q = record { does = (q.does.0, leads_on s code p q.does.1) }
  onward (Ends h) p q = record { does = stops_on s code p q.does }

  pub wide : {n m to : ℕ} {f : Frame} {stack : List Val} {t : ValueType} (x : Ended Val) → n ≤ m → Evaluates s code n f state to stack variables t x → Evaluates s code m f state to stack variables t x
  wide (Gives v left) l q = record { does = (q.does.0, wider s code l q.does.1) }
  wide (Ends h) l q = record { does = stops_wider s code l q.does }

  pub arrives : {n at to : ℕ} {f : Frame} {stack : List Val} {t : ValueType} {x : Ended Val} → at ≡ to → Evaluates s code n f state at stack variables t x → Evaluates s code n f state to stack variables t x
  arrives {n} {f = f} {stack = stack} {t = t} {x = x} e q = subst (λ to. Evaluates s code n f state to stack variables t x) e q

  -- One operand, and what follows it.
  pub operand_then : {na nb at to : ℕ} {f : Frame} {stack under : List Val} {r t : ValueType} (x : Ended Val) (k : Val → ℕ → Ended Val)
      → IsValue r → Evaluates s code na f state at stack variables r x
      → ((v : Val) (left : ℕ) → values.type_of v ≡ r → left ≤ f.turns → Evaluates s code nb (frame at (v ∷ stack) variables left) state to under variables t (k v left))
      → Evaluates s code (na + nb) f state to under variables t (followed x k)
  operand_then {na} {at = at} {f = f} {stack = stack} {r = r} (Gives v left) k h q more =
      onward (k v left) (subst (λ st. Leads s code na f state (frame at st variables left) state) (on_stack r v stack h q.does.0) q.does.1) (more v left q.does.0 q.does.1.falls)
  operand_then (Ends x) k h q more = record { does = stops_wider s code (omega arith) q.does }

  -- ---- one instruction

  pub gives_value : {at left : ℕ} {stack under : List Val} {t : ValueType} (i : Instr) (w : Val) → slice_get code at ≡ Some i
      → perform_on s i stack (frame at stack variables left) ≡ Some (Goes (frame (suc at) (w ∷ under) variables left))
      → IsValue t → values.type_of w ≡ t → Evaluates s code 1 (frame at stack variables left) state (at + 1) under variables t (Gives w left)
  gives_value {at} {left} {stack} {under} {t} i w is does h has =
      let there : Leads s code 1 (frame at stack variables left) state (frame (suc at) (w ∷ under) variables left) state = one_step s code i is does (omega arith) in
      let e : suc at ≡ at + 1 = omega arith in
      record { does = (has, subst (λ st. Leads s code 1 (frame at stack variables left) state (frame (at + 1) st variables left) state) (sym (on_stack t w under h has)) (leads_to s code e there)) }

  pub throws : {at to left : ℕ} {stack under : List Val} {t : ValueType} (i : Instr) (h : Halt) → slice_get code at ≡ Some i
      → perform_on s i stack (frame at stack variables left) ≡ Some (machine.Ends (Stopped (outcome_of h)) (frame at stack variables left))
      → Evaluates s code 1 (frame at stack variables left) state to under variables t (Ends h)
  throws i h is does = record { does = one_stop s code i is does }

  pub answers : {at left : ℕ} {stack under : List Val} {t : ValueType} (i : Instr) (a : Answer) → slice_get code at ≡ Some i
      → perform_on s i stack (frame at stack variables left) ≡ machine.answered a under (frame at stack variables left)
      → IsValue t → AnswerHas (Some t) a → Evaluates s code 1 (frame at stack variables left) state (at + 1) under variables t (answered a left)
  answers i None is does h has = absurd has
  answers i (Some (Ok v)) is does h has = gives_value i v is does h has
  answers i (Some (Err x)) is does h has = throws i (Threw x) is does

  pub gives_one : {at left : ℕ} {stack under : List Val} {t : ValueType} (i : Instr) (o : Option Val) → slice_get code at ≡ Some i
      → perform_on s i stack (frame at stack variables left) ≡ machine.pushed o under (frame at stack variables left)
      → IsValue t → ValueHas (Some t) o → Evaluates s code 1 (frame at stack variables left) state (at + 1) under variables t (given o left)
  gives_one i None is does h has = absurd has
  gives_one i (Some v) is does h has = gives_value i v is does h has

  -- a jump behind
  pub jumps : {n at to : ℕ} {f : Frame} {stack : List Val} {t : ValueType} (x : Ended Val) → slice_get code at ≡ Some (instr.Jump to)
      → Evaluates s code n f state at stack variables t x → Evaluates s code (n + 1) f state to stack variables t x
  jumps (Gives v left) is q = record { does = (q.does.0, leads_on s code q.does.1 (one_step s code (instr.Jump _) is refl (omega arith))) }
  jumps (Ends h) is q = record { does = stops_wider s code (omega arith) q.does }

  -- ---- one of two

  pub either_goes : (a b : Code) → IsSized a → IsSized b → (at left : ℕ) (stack : List Val) (t : ValueType) (holds : Bool) (x y : Ended Val) → IsLaid code at ((either a b).from at)
      → (IsLaid code (at + 1) (a.from (at + 1)) → Evaluates s code a.size (frame (at + 1) stack variables left) state (at + 1 + a.size) stack variables t x)
      → (IsLaid code (at + a.size + 2) (b.from (at + a.size + 2)) → Evaluates s code b.size (frame (at + a.size + 2) stack variables left) state (at + a.size + 2 + b.size) stack variables t y)
      → Evaluates s code (a.size + b.size + 2) (frame at (val.Bool holds ∷ stack) variables left) state (at + (a.size + b.size + 2)) stack variables t (if holds then x else y)
  either_goes a b ha hb at left stack t true x y laid first second =
      let parts = laid_two code (suc at) a.size (a.from (at + 1)) (instr.Jump (at + a.size + b.size + 2) ∷ b.from (at + a.size + 2)) (ha (at + 1)) laid.1 in
      let e1 : suc at ≡ at + 1 = omega arith in
      let e2 : suc at + a.size ≡ at + 1 + a.size = omega arith in
      let e3 : at + a.size + b.size + 2 ≡ at + (a.size + b.size + 2) = omega arith in
      let test : Leads s code 1 (frame at (val.Bool true ∷ stack) variables left) state (frame (at + 1) stack variables left) state = leads_to s code e1 (one_step s code (instr.IfFalse (at + a.size + 2)) laid.0 refl (omega arith)) in
      let jump : slice_get code (at + 1 + a.size) ≡ Some (instr.Jump (at + a.size + b.size + 2)) = subst (λ k. slice_get code k ≡ Some (instr.Jump (at + a.size + b.size + 2))) e2 parts.1.0 in
      arrives e3 (wide x (omega arith) (onward x test (jumps x jump (first (subst (λ k. IsLaid code k (a.from (at + 1))) e1 parts.0)))))
  either_goes a b ha hb at left stack t false x y laid first second =
      let parts = laid_two code (suc at) a.size (a.from (at + 1)) (instr.Jump (at + a.size + b.size + 2) ∷ b.from (at + a.size + 2)) (ha (at + 1)) laid.1 in
      let e2 : suc (suc at + a.size) ≡ at + a.size + 2 = omega arith in
      let e3 : at + a.size + 2 + b.size ≡ at + (a.size + b.size + 2) = omega arith in
      let test : Leads s code 1 (frame at (val.Bool false ∷ stack) variables left) state (frame (at + a.size + 2) stack variables left) state = one_step s code (instr.IfFalse (at + a.size + 2)) laid.0 refl (omega arith) in
      arrives e3 (wide y (omega arith) (onward y test (second (subst (λ k. IsLaid code k (b.from (at + a.size + 2))) e2 parts.1.1))))

  -- ---- vectors and what was gathered

  pub makes_vector : (v : Val) (at left : ℕ) (under : List Val) → values.type_of v ≡ type.Int → slice_get code at ≡ Some instr.NewVector
      → Evaluates s code 1 (frame at (v ∷ under) variables left) state (at + 1) under variables type.Vector (new_vector v left)
  makes_vector (val.Int (pos n)) at left under has is = by (nat_lt most_elements n) refl
    where
      by : (b : Bool) → perform_on s instr.NewVector (val.Int (pos n) ∷ under) (frame at (val.Int (pos n) ∷ under) variables left)
          ≡ cond b (Some (machine.Ends (Stopped outcome.Limit) (frame at (val.Int (pos n) ∷ under) variables left))) (Some (Goes (frame (suc at) (val.Vector (replicate n (pos 0)) ∷ under) variables left)))
          → Evaluates s code 1 (frame at (val.Int (pos n) ∷ under) variables left) state (at + 1) under variables type.Vector (cond b (Ends TooLong) (Gives (val.Vector (replicate n (pos 0))) left))
      by true does = throws instr.NewVector TooLong is does
      by false does = gives_value instr.NewVector (val.Vector (replicate n (pos 0))) is does tt refl
  makes_vector (val.Int (negsuc n)) at left under has is = throws instr.NewVector (Threw exn.NegativeSize) is refl
  makes_vector (val.Long n) at left under has is = absurd (cc)
  makes_vector (val.Bool b) at left under has is = absurd (cc)
  makes_vector (val.Vector longs) at left under has is = absurd (cc)
  makes_vector val.Unit at left under has is = absurd (cc)

  finds_long : (i : Instr) (o : Option ℤ) (at left : ℕ) (stack under : List Val) → slice_get code at ≡ Some i
      → perform_on s i stack (frame at stack variables left) ≡ machine.found (machine.a_long o) under (frame at stack variables left)
      → Evaluates s code 1 (frame at stack variables left) state (at + 1) under variables type.Long (found val.Long o left)
  finds_long i None at left stack under is does = throws i (Threw exn.Index) is does
  finds_long i (Some n) at left stack under is does = gives_value i (val.Long n) is does tt refl

  pub takes_element : (i : Instr) (v j : Val) (at left : ℕ) (stack under : List Val) → values.type_of v ≡ type.Vector → values.type_of j ≡ type.Int → slice_get code at ≡ Some i
      → perform_on s i stack (frame at stack variables left) ≡ machine.element (Some v) j under (frame at stack variables left)
      → Evaluates s code 1 (frame at stack variables left) state (at + 1) under variables type.Long (element_of v j left)
  takes_element i (val.Vector longs) (val.Int (pos n)) at left stack under hv hj is does = finds_long i (slice_get longs n) at left stack under is does
  takes_element i (val.Vector longs) (val.Int (negsuc n)) at left stack under hv hj is does = finds_long i None at left stack under is does
  takes_element i (val.Vector longs) (val.Long n) at left stack under hv hj is does = absurd (cc)
  takes_element i (val.Vector longs) (val.Bool n) at left stack under hv hj is does = absurd (cc)
  takes_element i (val.Vector longs) (val.Vector n) at left stack under hv hj is does = absurd (cc)
  takes_element i (val.Vector longs) val.Unit at left stack under hv hj is does = absurd (cc)
  takes_element i (val.Int m) j at left stack under hv hj is does = absurd (cc)
  takes_element i (val.Long m) j at left stack under hv hj is does = absurd (cc)
  takes_element i (val.Bool m) j at left stack under hv hj is does = absurd (cc)
  takes_element i val.Unit j at left stack under hv hj is does = absurd (cc)

  finds_value : (i : Instr) (o : Option Val) (at left : ℕ) (stack under : List Val) (t : ValueType) → slice_get code at ≡ Some i
      → perform_on s i stack (frame at stack variables left) ≡ machine.found o under (frame at stack variables left)
      → IsValue t → ((v : Val) → o ≡ Some v → values.type_of v ≡ t) → Evaluates s code 1 (frame at stack variables left) state (at + 1) under variables t (found (λ v. v) o left)
  finds_value i None at left stack under t is does h has = throws i (Threw exn.Index) is does
  finds_value i (Some v) at left stack under t is does h has = gives_value i v is does h (has v refl)

  pub takes_member : (i : Instr) (members : List Val) (j : Val) (at left : ℕ) (stack under : List Val) (t : ValueType) → values.type_of j ≡ type.Int → slice_get code at ≡ Some i
      → perform_on s i stack (frame at stack variables left) ≡ machine.member members j under (frame at stack variables left)
      → IsValue t → AreOf t members → Evaluates s code 1 (frame at stack variables left) state (at + 1) under variables t (found (λ v. v) (member_at j members) left)
  takes_member i members (val.Int (pos n)) at left stack under t hj is does h has = finds_value i (slice_get members n) at left stack under t is does h (has n)
  takes_member i members (val.Int (negsuc n)) at left stack under t hj is does h has = throws i (Threw exn.Index) is does
  takes_member i members (val.Long n) at left stack under t hj is does h has = absurd (cc)
  takes_member i members (val.Bool n) at left stack under t hj is does h has = absurd (cc)
  takes_member i members (val.Vector n) at left stack under t hj is does h has = absurd (cc)
  takes_member i members val.Unit at left stack under t hj is does h has = absurd (cc)

  pub gives_size : (i : Instr) (v : Val) (at left : ℕ) (stack under : List Val) → values.type_of v ≡ type.Vector → slice_get code at ≡ Some i
      → perform_on s i stack (frame at stack variables left) ≡ machine.pushed (machine.size_of (Some v)) under (frame at stack variables left)
      → Evaluates s code 1 (frame at stack variables left) state (at + 1) under variables type.Int (Gives (size_of v) left)
  gives_size i (val.Vector longs) at left stack under has is does = gives_value i (val.Int (pos (length longs))) is does tt refl
  gives_size i (val.Int n) at left stack under has is does = absurd (cc)
  gives_size i (val.Long n) at left stack under has is does = absurd (cc)
  gives_size i (val.Bool n) at left stack under has is does = absurd (cc)
  gives_size i val.Unit at left stack under has is does = absurd (cc)

  -- the member at an index, and what follows; an index outside ends the call
  pub with_member : (i : Instr) (members : List Val) (j : Val) (g : Val → Option Performed) (k : Val → ℕ → Ended Val) (at left : ℕ) (stack under : List Val) (t : ValueType) → values.type_of j ≡ type.Int → slice_get code at ≡ Some i
      → perform_on s i stack (frame at stack variables left) ≡ machine.with_member members j g (frame at stack variables left)
      → ((v : Val) (n : ℕ) → slice_get members n ≡ Some v → perform_on s i stack (frame at stack variables left) ≡ g v → Evaluates s code 1 (frame at stack variables left) state (at + 1) under variables t (k v left))
      → Evaluates s code 1 (frame at stack variables left) state (at + 1) under variables t (followed (found (λ v. v) (member_at j members) left) k)
  with_member i members (val.Int (pos n)) g k at left stack under t hj is does more = by (slice_get members n) refl does
    where
      by : (o : Option Val) → slice_get members n ≡ o → perform_on s i stack (frame at stack variables left) ≡ machine.with_found o g (frame at stack variables left)
          → Evaluates s code 1 (frame at stack variables left) state (at + 1) under variables t (followed (found (λ v. v) o left) k)
      by None there does = throws i (Threw exn.Index) is does
      by (Some v) there does = more v n there does
  with_member i members (val.Int (negsuc n)) g k at left stack under t hj is does more = throws i (Threw exn.Index) is does
  with_member i members (val.Long n) g k at left stack under t hj is does more = absurd (cc)
  with_member i members (val.Bool n) g k at left stack under t hj is does more = absurd (cc)
  with_member i members (val.Vector n) g k at left stack under t hj is does more = absurd (cc)
  with_member i members val.Unit g k at left stack under t hj is does more = absurd (cc)

-- ---- tests of types

pub and_then_is : (o p : Option ValueType) (u : ValueType) → and_then o p ≡ Some u → (r : ValueType) × (o ≡ Some r) × (p ≡ Some u)
and_then_is None p u is = absurd (none_some u is)
and_then_is (Some r) p u is = (r, refl, is)

pub where_is : (o : Option ValueType) (r t u : ValueType) → where_type o r t ≡ Some u → (o ≡ Some r) × (t ≡ u)
where_is None r t u is = absurd (none_some u is)
where_is (Some x) r t u is = by (same_type x r) refl is
  where
    by : (b : Bool) → same_type x r ≡ b → cond b (Some t) None ≡ Some u → (Some x ≡ Some r) × (t ≡ u)
    by true same is = (ap Some (same_is x r same), some_is t u is)
    by false same is = absurd (none_some u is)

pub boolean_cases : (P : Val → Type 0) (v : Val) → values.type_of v ≡ type.Boolean → ((b : Bool) → P (val.Bool b)) → P v
boolean_cases P (val.Bool b) has each = each b
boolean_cases P (val.Int b) has each = absurd (cc)
boolean_cases P (val.Long b) has each = absurd (cc)
boolean_cases P (val.Vector b) has each = absurd (cc)
boolean_cases P val.Unit has each = absurd (cc)
