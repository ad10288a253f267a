-- The code of an expression gives its value.
use Rattle.std.proofs.Common.{◌≡◌, ◌≤◌, ◌<◌, refl, sym, ap, ap₂, subst, ◌∙◌, ℕ, zero, suc, ◌+◌, ℤ, pos, negsuc, arith, Bool, true, false, cond, ◌||◌, if◌then◌else◌, List, [], ◌∷◌, ◌++◌, map, length, Option, Some, None, slice_get, unwrap_or}
use mathlib.Core.Path.{transport}
use Rattle.std.specs.List.{AllByRecursion}
use Rattle.std.proofs.lemmas.Bool.{false≢true}
use Rattle.sdg_base.specs.declared.operator.BinOp.{BinOp}
use Rattle.sdg_base.specs.declared.operator.BinOp.TheVariants as bin
use Rattle.sdg_base.specs.declared.operator.UnOp.{UnOp}
use Rattle.sdg_base.specs.declared.operator.UnOp.TheVariants as un
use Rattle.sdg_base.specs.declared.val.Num.{Num}
use Rattle.sdg_base.specs.declared.val.Num.TheVariants as num
use Rattle.sdg_base.specs.declared.val.Val.{Val}
use Rattle.sdg_base.specs.declared.val.Val.TheVariants as val
use Rattle.sdg_base.specs.declared.value_type.ValueType.{ValueType}
use Rattle.sdg_base.specs.declared.value_type.ValueType.TheVariants as type
use Rattle.sdg_base.specs.Operations.{operation, unary_operation, converted}
use Rattle.sdg_base.specs.Types as values
use Rattle.sdg_base.specs.Types.{binary_type, unary_type}
use Rattle.flat_code.specs.Types.{same_type, same_types, right_type}
use Rattle.state_classes.specs.States.{State}
use Rattle.flat_code.specs.declared.graph.Instr.{Instr}
use Rattle.flat_code.specs.declared.graph.Instr.TheVariants as instr
use Rattle.flat_code.specs.Machine as machine
use Rattle.flat_code.specs.Machine.{Setting, Frame, Performed, Goes, Stopped, Called, Gave, Failed, perform_on, pushed_result, operated}
use Rattle.access_blocks.specs.declared.body.Expression.{Expression, roll-Expression}
use Rattle.access_blocks.specs.declared.body.Expression.TheOpen.{Expression-F}
use Rattle.access_blocks.specs.declared.body.Expression.TheOpen as e
use Rattle.access_blocks.specs.declared.body.Expression.TheFolds.{fold-roll-Expression, ind-Expression, map-Expression}
use Rattle.access_blocks.specs.declared.halt.Halt.TheVariants.{OutOfTurns}
use Rattle.access_blocks.specs.Expressions.{Calls, Ended, Gives, Ends, Seen, Meaning, followed, outcome_of, answered, given, is_true, after_first, new_vector, most_elements, member_at, found, longs_in, size_of, variable_of, element_of, gathered_at, expression_step, value_of}
use Rattle.access_blocks.specs.Expressions as source
use Rattle.java_tree.specs.declared.method_kinds.MethodKind.{MethodKind}
use Rattle.java_tree.specs.declared.method_kinds.MethodKind.TheVariants.{Entry, Helper, Merge}
use Rattle.body_code.specs.declared.callee.Callee.{Callee}
use Rattle.body_code.specs.Typing.{Context, Needs, both, needs, needs_step, type_of, type_step, variable_type, of_one, of_two, cast_type, chosen_type, alike, where_type, and_then, all_types, with_type, called_type, called_by, merged_type, merged_by}
use Rattle.body_code.specs.Typing as typing
use Rattle.body_code.specs.Codes.{Code, plain, followed_by}
use Rattle.body_code.specs.Codes as codes
use Rattle.body_code.specs.ExpressionCode.{Lowered, behind, either, unary, binary, operand_of, code_step, lowered_step, lowered, code_of, codes_of}
use Rattle.code_meaning.specs.Laid.{IsSized, IsLaid, frame, Leads, Stops}
use Rattle.code_meaning.specs.Evaluating.{IsValue, AreOf, HasSame, CallAgrees, HelperAgrees, CallsAgree, MergesThese, HasKey, Meets, GathersSame, Evaluates, ExpressionsGiveTheirValues}
use Rattle.code_meaning.proofs.Lists.{none_some, some_is}
use Rattle.code_meaning.proofs.Values.{AnswerHas, ValueHas, operation_has, unary_has, same_is, same_are}
use Rattle.code_meaning.proofs.Running.{laid_two, stays, one_step, one_stop, leads_on, stops_on, stops_wider, leads_to}
use Rattle.code_meaning.proofs.Evaluations.{onward, wide, arrives, operand_then, gives_value, answers, gives_one, either_goes, makes_vector, takes_member, gives_size, takes_element, with_member, and_then_is, where_is, boolean_cases}
use Rattle.code_meaning.proofs.Sizes.{followed_sized, behind_sized, code_sized, type_beside}
use Rattle.code_meaning.proofs.Operands.{on_stack, a_value_is, variable_has_value, unary_values, plus_same, plus_type, AreTaken, binary_taken, condition_taken, operated_is, pushed_all, arguments_are}

-- ---- casts

cast_of_number : (to : Num) (r t : ValueType) → cast_type to (Some r) ≡ Some t → IsValue r × IsValue t
cast_of_number num.Int type.Int t is = (tt, subst IsValue (some_is type.Int t is) tt)
cast_of_number num.Int type.Long t is = (tt, subst IsValue (some_is type.Int t is) tt)
cast_of_number num.Long type.Int t is = (tt, subst IsValue (some_is type.Long t is) tt)
cast_of_number num.Long type.Long t is = (tt, subst IsValue (some_is type.Long t is) tt)
cast_of_number _ _ t is = absurd (none_some t is)

cast_has : (to : Num) (v : Val) → ValueHas (cast_type to (Some (values.type_of v))) (converted to v)
cast_has num.Int (val.Int n) = refl
cast_has num.Int (val.Long n) = refl
cast_has num.Long (val.Int n) = refl
cast_has num.Long (val.Long n) = refl
cast_has _ _ = tt

cast_operand : (to : Num) (o : Option ValueType) (t : ValueType) → cast_type to o ≡ Some t → (r : ValueType) × (o ≡ Some r)
cast_operand to None t is = absurd (none_some t is)
cast_operand to (Some r) t is = (r, refl)

-- ---- what an expression needs

all_parts : {A : Type 0} (P : A → Type 0) (xs ys : List A) → AllByRecursion P (xs ++ ys) → AllByRecursion P xs × AllByRecursion P ys
all_parts P [] ys h = (tt, h)
all_parts P (x ∷ xs) ys h = let more = all_parts P xs ys h.1 in ((h.0, more.0), more.1)

in_first : (a b : Bool) → a ≡ true → (a || b) ≡ true
in_first true b is = refl
in_first false b is = absurd (false≢true is)

in_second : (a b : Bool) → b ≡ true → (a || b) ≡ true
in_second true b is = refl
in_second false b is = is

pub meets_both : (c : Context) (s : Setting) (here : List Val) (seen : Seen) (a b : Needs) → Meets c s here seen (both a b) → Meets c s here seen a × Meets c s here seen b
meets_both c s here seen a b h =
    let variables = all_parts (HasSame c here seen.variables) a.variables b.variables h.variables in
    let merges = all_parts (MergesThese c seen.gathered) a.merges b.merges h.merges in (
      record { variables = variables.0; merges = merges.0; key = λ is. h.key (in_first a.key b.key is) },
      record { variables = variables.1; merges = merges.1; key = λ is. h.key (in_second a.key b.key is) },
    )

-- ---- several values

-- values of these types that are pushed on a stack, or the end of the call
abbrev pub PushesAll : Setting → List Instr → ℕ → Frame → State → ℕ → List Val → List Val → List ValueType → Ended (List Val) → Type 0
PushesAll s code size f state to stack variables ts (Gives vs left) =
    (map values.type_of vs ≡ ts) × Leads s code size f state (frame to (pushed_all vs stack) variables left) state
PushesAll s code size f state to stack variables ts (Ends h) = Stops s code size f state (outcome_of h) state

pub record EvaluatesAll (s : Setting) (code : List Instr) (size : ℕ) (f : Frame) (state : State) (to : ℕ) (stack variables : List Val) (ts : List ValueType) (given : Ended (List Val)) : Type 0 where
  pub does : PushesAll s code size f state to stack variables ts given

module _ (s : Setting) (code : List Instr) (variables : List Val) (state : State) where
  with_more : {na nb to : ℕ} {f g : Frame} {stack : List Val} {r : ValueType} {rs : List ValueType} (v : Val) (more : Ended (List Val)) → values.type_of v ≡ r → Leads s code na f state g state
      → EvaluatesAll s code nb g state to (v ∷ stack) variables rs more
      → EvaluatesAll s code (na + nb) f state to stack variables (r ∷ rs) (source.followed more (λ vs rest. Gives (v ∷ vs) rest))
  with_more v (Gives vs left) has p q = record { does = ((λ i. has i ∷ q.does.0 i), leads_on s code p q.does.1) }
  with_more v (Ends h) has p q = record { does = stops_on s code p q.does }

  one_and_all : {na nb at to : ℕ} {f : Frame} {stack : List Val} {r : ValueType} {rs : List ValueType} (x : Ended Val) (more : ℕ → Ended (List Val)) → IsValue r
      → Evaluates s code na f state at stack variables r x
      → ((v : Val) (left : ℕ) → left ≤ f.turns → EvaluatesAll s code nb (frame at (v ∷ stack) variables left) state to (v ∷ stack) variables rs (more left))
      → EvaluatesAll s code (na + nb) f state to stack variables (r ∷ rs) (source.followed x (λ v left. source.followed (more left) (λ vs rest. Gives (v ∷ vs) rest)))
  one_and_all {na} {at = at} {f = f} {stack = stack} {r = r} (Gives v left) more h q each =
      with_more v (more left) q.does.0 (subst (λ st. Leads s code na f state (frame at st variables left) state) (on_stack r v stack h q.does.0) q.does.1) (each v left q.does.1.falls)
  one_and_all (Ends x) more h q each = record { does = stops_wider s code (omega arith) q.does }

  pub arrives_all : {n at to : ℕ} {f : Frame} {stack : List Val} {ts : List ValueType} {x : Ended (List Val)} → at ≡ to → EvaluatesAll s code n f state at stack variables ts x → EvaluatesAll s code n f state to stack variables ts x
  arrives_all {n} {f = f} {stack = stack} {ts = ts} {x = x} is q = subst (λ to. EvaluatesAll s code n f state to stack variables ts x) is q

-- ---- expressions

module _ (c : Context) (calls : Calls) (s : Setting) (code : List Instr) (most : ℕ) (agree : CallsAgree c.methods s.methods calls s.calls most) (variables : List Val) (seen : Seen) (same : GathersSame c s seen) where
  abbrev Right : Option ValueType → Needs → Code → Meaning → Type 0
  Right o n k value =
      (t : ValueType) (at turns : ℕ) (stack : List Val) (state : State) → o ≡ Some t → Meets c s variables seen n → IsLaid code at (k.from at) → turns ≤ most
      → Evaluates s code k.size (frame at stack variables turns) state (at + k.size) stack variables t (value seen turns)

  abbrev AllRight : Option (List ValueType) → Needs → Code → (Seen → ℕ → Ended (List Val)) → Type 0
  AllRight o n k value =
      (ts : List ValueType) (at turns : ℕ) (stack : List Val) (state : State) → o ≡ Some ts → AllByRecursion IsValue ts → Meets c s variables seen n → IsLaid code at (k.from at) → turns ≤ most
      → EvaluatesAll s code k.size (frame at stack variables turns) state (at + k.size) stack variables ts (value seen turns)

  none_right : AllRight (Some []) typing.nothing codes.nothing (λ seen turns. Gives [] turns)
  none_right ts at turns stack state is h meets laid less =
      record { does = (some_is {A = List ValueType} [] ts is, let z : at ≡ at + 0 = omega arith in leads_to s code z (stays s code)) }

  typed_parts : (o : Option ValueType) (os : Option (List ValueType)) (ts : List ValueType) → with_type o os ≡ Some ts → (r : ValueType) × (rs : List ValueType) × (o ≡ Some r) × (os ≡ Some rs) × (r ∷ rs ≡ ts)
  typed_parts (Some r) (Some rs) ts is = (r, rs, refl, refl, some_is (r ∷ rs) ts is)
  typed_parts (Some r) None ts is = absurd (none_some ts is)
  typed_parts None os ts is = absurd (none_some ts is)

  more_right : (o : Option ValueType) (os : Option (List ValueType)) (n ns : Needs) (k ks : Code) (value : Meaning) (more : Seen → ℕ → Ended (List Val)) → IsSized k → Right o n k value → AllRight os ns ks more
      → AllRight (with_type o os) (both n ns) (followed_by k ks) (λ seen turns. source.followed (value seen turns) (λ v left. source.followed (more seen left) (λ vs rest. Gives (v ∷ vs) rest)))
  more_right o os n ns k ks value more sized right all ts at turns stack state is h meets laid less =
      let ty = typed_parts o os ts is in
      let hs : AllByRecursion IsValue (ty.0 ∷ ty.1) = subst (AllByRecursion IsValue) (sym ty.4) h in
      let parts = laid_two code at k.size (k.from at) (ks.from (at + k.size)) (sized at) laid in
      let m = meets_both c s variables seen n ns meets in
      let e3 : at + k.size + ks.size ≡ at + (k.size + ks.size) = omega arith in
      subst (λ z. EvaluatesAll s code (k.size + ks.size) (frame at stack variables turns) state (at + (k.size + ks.size)) stack variables z (source.followed (value seen turns) (λ v left. source.followed (more seen left) (λ vs rest. Gives (v ∷ vs) rest)))) ty.4
      (arrives_all s code variables state e3
      (one_and_all s code variables state (value seen turns) (more seen) hs.0 (right ty.0 at turns stack state ty.2 m.0 parts.0 less)
      (λ v left l. all ty.1 (at + k.size) left (v ∷ stack) state ty.3 hs.1 m.1 parts.1 (omega arith))))

  -- an operand, and an instruction behind it
  behind_goes : (k : Code) (i : Instr) (o : Option ValueType) (n : Needs) (value : Meaning) (g : Val → ℕ → Ended Val) (r t : ValueType) (at turns : ℕ) (stack : List Val) (state : State)
      → IsSized k → Right o n k value → o ≡ Some r → IsValue r → Meets c s variables seen n → IsLaid code at ((behind k i).from at) → turns ≤ most
      → ((v : Val) (left : ℕ) → values.type_of v ≡ r → slice_get code (at + k.size) ≡ Some i → Evaluates s code 1 (frame (at + k.size) (v ∷ stack) variables left) state (at + k.size + 1) stack variables t (g v left))
      → Evaluates s code (k.size + 1) (frame at stack variables turns) state (at + (k.size + 1)) stack variables t (followed (value seen turns) g)
  behind_goes k i o n value g r t at turns stack state sized right is h meets laid less more =
      let parts = laid_two code at k.size (k.from at) (i ∷ []) (sized at) laid in
      let e3 : at + k.size + 1 ≡ at + (k.size + 1) = omega arith in
      arrives s code variables state e3
      (operand_then s code variables state (value seen turns) g h (right r at turns stack state is meets parts.0 less) (λ v left has l. more v left has parts.1.0))

  plus_goes : {n to : ℕ} {f : Frame} {stack : List Val} {r t : ValueType} {state : State} (x : Ended Val) → unary_type un.Plus r ≡ Some t → Evaluates s code n f state to stack variables r x
      → Evaluates s code n f state to stack variables t (followed x (λ v left. given (unary_operation un.Plus v) left))
  plus_goes {n} {to} {f} {stack} {r} {t} {state} (Gives v left) is q =
      subst (λ w. Evaluates s code n f state to stack variables t (Gives w left)) (sym (plus_same v t (ap (unary_type un.Plus) q.does.0 ∙ is)))
      (record { does = (q.does.0 ∙ plus_type r t is, q.does.1) })
  plus_goes (Ends h) is q = record { does = q.does }

  unary_right : (op : UnOp) (o : Option ValueType) (n : Needs) (k : Code) (value : Meaning) → IsSized k → Right o n k value
      → Right (of_one (unary_type op) o) n (unary op k) (λ seen turns. followed (value seen turns) (λ v left. given (unary_operation op v) left))
  unary_right op None n k value sized right t at turns stack state is meets laid less = absurd (none_some t is)
  unary_right un.Plus (Some r) n k value sized right t at turns stack state is meets laid less = plus_goes (value seen turns) is (right r at turns stack state refl meets laid less)
  unary_right op (Some r) n k value sized right t at turns stack state is meets laid less =
      behind_goes k (instr.Un op) (Some r) n value (λ v left. given (unary_operation op v) left) r t at turns stack state sized right refl (unary_values op r t is).0 meets laid less
      (λ v left has there. gives_one s code variables state (instr.Un op) (unary_operation op v) there refl (unary_values op r t is).1 (subst (λ z. ValueHas z (unary_operation op v)) (ap (unary_type op) has ∙ is) (unary_has op v)))

  -- two operands, and an instruction behind them
  two_go : (a b : Code) (i : Instr) (oa ob : Option ValueType) (na nb : Needs) (va vb : Meaning) (g : Val → Val → ℕ → Ended Val) (r u t : ValueType) (at turns : ℕ) (stack : List Val) (state : State)
      → IsSized a → IsSized b → Right oa na a va → Right ob nb b vb → oa ≡ Some r → ob ≡ Some u → IsValue r → IsValue u → Meets c s variables seen (both na nb)
      → IsLaid code at ((behind (followed_by a b) i).from at) → turns ≤ most
      → ((v w : Val) (at left : ℕ) → values.type_of v ≡ r → values.type_of w ≡ u → slice_get code at ≡ Some i → Evaluates s code 1 (frame at (w ∷ v ∷ stack) variables left) state (at + 1) stack variables t (g v w left))
      → Evaluates s code (a.size + b.size + 1) (frame at stack variables turns) state (at + (a.size + b.size + 1)) stack variables t
      (followed (va seen turns) (λ v left. followed (vb seen left) (g v)))
  two_go a b i oa ob na nb va vb g r u t at turns stack state ha hb ra rb ia ib vr vu meets laid less more =
      let outer = laid_two code at (a.size + b.size) (a.from at ++ b.from (at + a.size)) (i ∷ []) (followed_sized a b ha hb at) laid in
      let inner = laid_two code at a.size (a.from at) (b.from (at + a.size)) (ha at) outer.0 in
      let m = meets_both c s variables seen na nb meets in
      let e1 : at + a.size + b.size + 1 ≡ at + (a.size + b.size + 1) = omega arith in
      let e2 : at + (a.size + b.size) ≡ at + a.size + b.size = omega arith in
      let there : slice_get code (at + a.size + b.size) ≡ Some i = subst (λ k. slice_get code k ≡ Some i) e2 outer.1.0 in
      wide s code variables state (followed (va seen turns) (λ v left. followed (vb seen left) (g v))) (omega arith)
      (arrives s code variables state e1
      (operand_then s code variables state (va seen turns) (λ v left. followed (vb seen left) (g v)) vr (ra r at turns stack state ia m.0 inner.0 less) (λ v left hv l.
      operand_then s code variables state (vb seen left) (g v) vu (rb u (at + a.size) left (v ∷ stack) state ib m.1 inner.1 (omega arith)) (λ w rest hw k.
      more v w (at + a.size + b.size) rest hv hw there))))

  type_pair : (o p : Option ValueType) (f : ValueType → ValueType → Option ValueType) (t : ValueType) → of_two f o p ≡ Some t → (r : ValueType) × (u : ValueType) × (o ≡ Some r) × (p ≡ Some u) × (f r u ≡ Some t)
  type_pair (Some r) (Some u) f t is = (r, u, refl, refl, is)
  type_pair (Some r) None f t is = absurd (none_some t is)
  type_pair None p f t is = absurd (none_some t is)

  operators_right : (op : BinOp) (la lb : Lowered) (oa ob : Option ValueType) (na nb : Needs) (va vb : Meaning) → la.type ≡ oa → IsSized la.code → IsSized lb.code → Right oa na la.code va → Right ob nb lb.code vb
      → Right (of_two (binary_type op) oa ob) (both na nb) (behind (followed_by la.code lb.code) (instr.Bin op (operand_of la.type)))
      (λ seen turns. followed (va seen turns) (λ v left. followed (vb seen left) (λ w rest. answered (operation op v w) rest)))
  operators_right op la lb oa ob na nb va vb beside ha hb ra rb t at turns stack state is meets laid less =
      let ty = type_pair oa ob (binary_type op) t is in
      let taken : AreTaken (right_type op) ty.0 ty.1 t = binary_taken op ty.0 ty.1 t ty.4 in
      two_go la.code lb.code (instr.Bin op (operand_of la.type)) oa ob na nb va vb (λ v w rest. answered (operation op v w) rest) ty.0 ty.1 t at turns stack state ha hb ra rb ty.2 ty.3 taken.left taken.second meets laid less
      (λ v w at left hv hw there.
      let works : operated op (operand_of la.type) v w ≡ operation op v w = ap (λ o. operated op (operand_of o) v w) (beside ∙ ty.2) ∙ operated_is op ty.0 ty.1 t v w taken hv hw in
      answers s code variables state (instr.Bin op (operand_of la.type)) (operation op v w) there (ap (λ a. machine.answered a stack (frame at (w ∷ v ∷ stack) variables left)) works) taken.result
      (subst (λ z. AnswerHas z (operation op v w)) (ap₂ (binary_type op) hv hw ∙ ty.4) (operation_has op v w)))

  -- a condition, and one of two behind it
  chosen_goes : (k a b : Code) (o : Option ValueType) (n : Needs) (value : Meaning) (x y : ℕ → Ended Val) (t : ValueType) (at turns : ℕ) (stack : List Val) (state : State)
      → IsSized k → IsSized a → IsSized b → Right o n k value → o ≡ Some type.Boolean → Meets c s variables seen n → IsLaid code at ((followed_by k (either a b)).from at) → turns ≤ most
      → ((at left : ℕ) → left ≤ turns → IsLaid code at (a.from at) → Evaluates s code a.size (frame at stack variables left) state (at + a.size) stack variables t (x left))
      → ((at left : ℕ) → left ≤ turns → IsLaid code at (b.from at) → Evaluates s code b.size (frame at stack variables left) state (at + b.size) stack variables t (y left))
      → Evaluates s code (k.size + (a.size + b.size + 2)) (frame at stack variables turns) state (at + (k.size + (a.size + b.size + 2))) stack variables t
      (followed (value seen turns) (λ v left. if is_true v then x left else y left))
  chosen_goes k a b o n value x y t at turns stack state hk ha hb right is meets laid less first second =
      let parts = laid_two code at k.size (k.from at) ((either a b).from (at + k.size)) (hk at) laid in
      let e1 : at + k.size + (a.size + b.size + 2) ≡ at + (k.size + (a.size + b.size + 2)) = omega arith in
      arrives s code variables state e1
      (operand_then s code variables state (value seen turns) (λ v left. if is_true v then x left else y left) tt (right type.Boolean at turns stack state is meets parts.0 less) (λ v left has l.
      boolean_cases (λ v. Evaluates s code (a.size + b.size + 2) (frame (at + k.size) (v ∷ stack) variables left) state (at + k.size + (a.size + b.size + 2)) stack variables t (if is_true v then x left else y left)) v has (λ holds.
      either_goes s code variables state a b ha hb (at + k.size) left stack t holds (x left) (y left) parts.1 (first (at + k.size + 1) left l) (second (at + k.size + a.size + 2) left l))))

  constant_goes : (b : Bool) (at left : ℕ) (stack : List Val) (state : State) (t : ValueType) → t ≡ type.Boolean → IsLaid code at (instr.Bool b ∷ [])
      → Evaluates s code 1 (frame at stack variables left) state (at + 1) stack variables t (Gives (val.Bool b) left)
  constant_goes b at left stack state t is laid = gives_value s code variables state (instr.Bool b) (val.Bool b) laid.0 refl (subst IsValue (sym is) tt) (sym is)

  binary_right : (op : BinOp) (la lb : Lowered) (oa ob : Option ValueType) (na nb : Needs) (va vb : Meaning) → la.type ≡ oa → IsSized la.code → IsSized lb.code → Right oa na la.code va → Right ob nb lb.code vb
      → Right (of_two (binary_type op) oa ob) (both na nb) (binary op la lb) (λ seen turns. followed (va seen turns) (λ v left. after_first op v (vb seen) left))
  binary_right bin.AndAlso la lb oa ob na nb va vb beside ha hb ra rb t at turns stack state is meets laid less =
      let ty = type_pair oa ob (binary_type bin.AndAlso) t is in
      let k = condition_taken ty.0 ty.1 t ty.4 in
      let m = meets_both c s variables seen na nb meets in
      chosen_goes la.code lb.code (plain (instr.Bool false ∷ [])) oa na va (vb seen) (λ left. Gives (val.Bool false) left) t at turns stack state ha hb (λ at. refl) ra (ty.2 ∙ ap Some k.0) m.0 laid less
      (λ at left l there. rb t at left stack state (ty.3 ∙ ap Some (k.1 ∙ sym k.2)) m.1 there (omega arith))
      (λ at left l there. constant_goes false at left stack state t k.2 there)
  binary_right bin.OrElse la lb oa ob na nb va vb beside ha hb ra rb t at turns stack state is meets laid less =
      let ty = type_pair oa ob (binary_type bin.OrElse) t is in
      let k = condition_taken ty.0 ty.1 t ty.4 in
      let m = meets_both c s variables seen na nb meets in
      chosen_goes la.code (plain (instr.Bool true ∷ [])) lb.code oa na va (λ left. Gives (val.Bool true) left) (vb seen) t at turns stack state ha (λ at. refl) hb ra (ty.2 ∙ ap Some k.0) m.0 laid less
      (λ at left l there. constant_goes true at left stack state t k.2 there)
      (λ at left l there. rb t at left stack state (ty.3 ∙ ap Some (k.1 ∙ sym k.2)) m.1 there (omega arith))
  binary_right op la lb oa ob na nb va vb beside ha hb ra rb t at turns stack state is meets laid less = operators_right op la lb oa ob na nb va vb beside ha hb ra rb t at turns stack state is meets laid less

  conditional_type : (test a b : Option ValueType) (t : ValueType) → chosen_type test a b ≡ Some t → (test ≡ Some type.Boolean) × (a ≡ Some t) × (b ≡ Some t)
  conditional_type (Some type.Boolean) a b t is = by (type_pair a b alike t is)
    where
      same_both : (r u : ValueType) → alike r u ≡ Some t → (r ≡ t) × (u ≡ t)
      same_both r u is = go (same_type r u) refl is
        where
          go : (z : Bool) → same_type r u ≡ z → cond z (Some r) None ≡ Some t → (r ≡ t) × (u ≡ t)
          go true e h = (some_is r t h, sym (same_is r u e) ∙ some_is r t h)
          go false e h = absurd (none_some t h)

      by : (r : ValueType) × (u : ValueType) × (a ≡ Some r) × (b ≡ Some u) × (alike r u ≡ Some t) → (Some type.Boolean ≡ Some type.Boolean) × (a ≡ Some t) × (b ≡ Some t)
      by k = let z = same_both k.0 k.1 k.4 in (refl, k.2 ∙ ap Some z.0, k.3 ∙ ap Some z.1)
  conditional_type (Some type.Int) a b t is = absurd (none_some t is)
  conditional_type (Some type.Long) a b t is = absurd (none_some t is)
  conditional_type (Some type.Vector) a b t is = absurd (none_some t is)
  conditional_type (Some type.Void) a b t is = absurd (none_some t is)
  conditional_type None a b t is = absurd (none_some t is)

  conditional_right : (ok oa ob : Option ValueType) (nk na nb : Needs) (k a b : Code) (vk va vb : Meaning) → IsSized k → IsSized a → IsSized b → Right ok nk k vk → Right oa na a va → Right ob nb b vb
      → Right (chosen_type ok oa ob) (both nk (both na nb)) (followed_by k (either a b)) (λ seen turns. followed (vk seen turns) (λ v left. if is_true v then va seen left else vb seen left))
  conditional_right ok oa ob nk na nb k a b vk va vb hk ha hb rk ra rb t at turns stack state is meets laid less =
      let ty = conditional_type ok oa ob t is in
      let m = meets_both c s variables seen nk (both na nb) meets in
      let mm = meets_both c s variables seen na nb m.1 in
      chosen_goes k a b ok nk vk (va seen) (vb seen) t at turns stack state hk ha hb rk ty.0 m.0 laid less
      (λ at left l there. ra t at left stack state ty.1 mm.0 there (omega arith))
      (λ at left l there. rb t at left stack state ty.2 mm.1 there (omega arith))

  cast_right : (to : Num) (o : Option ValueType) (n : Needs) (k : Code) (value : Meaning) → IsSized k → Right o n k value
      → Right (cast_type to o) n (behind k (instr.Cast to)) (λ seen turns. followed (value seen turns) (λ v left. given (converted to v) left))
  cast_right to o n k value sized right t at turns stack state is meets laid less =
      let ty = cast_operand to o t is in
      let h = cast_of_number to ty.0 t (sym (ap (cast_type to) ty.1) ∙ is) in
      behind_goes k (instr.Cast to) o n value (λ v left. given (converted to v) left) ty.0 t at turns stack state sized right ty.1 h.0 meets laid less
      (λ v left has there. gives_one s code variables state (instr.Cast to) (converted to v) there refl h.1
      (subst (λ z. ValueHas z (converted to v)) (ap (λ r. cast_type to (Some r)) has ∙ sym (ap (cast_type to) ty.1) ∙ is) (cast_has to v)))

  -- ---- variables and the key

  variable_goes : (v : ℕ) (k : HasSame c variables seen.variables v) (t : ValueType) (at left : ℕ) (stack : List Val) (state : State) → variable_type c v ≡ Some t → slice_get code at ≡ Some (instr.Load v)
      → Evaluates s code 1 (frame at stack variables left) state (at + 1) stack variables t (Gives (variable_of seen v) left)
  variable_goes v k t at left stack state is there =
      let has : values.type_of k.value ≡ t = k.has_type ∙ some_is k.type t (sym k.is_type ∙ is) in
      let h : IsValue t = variable_has_value c v t is in
      subst (λ w. Evaluates s code 1 (frame at stack variables left) state (at + 1) stack variables t (Gives w left)) (sym (ap (λ o. unwrap_or o val.Unit) k.is_there))
      (gives_value s code variables state (instr.Load v) k.value there
      (ap (λ o. machine.pushed (machine.a_value o) stack (frame at stack variables left)) k.is_here ∙ ap (λ o. machine.pushed o stack (frame at stack variables left)) (a_value_is t k.value h has)) h has)

  key_goes : (t : ValueType) (at left : ℕ) (stack : List Val) (state : State) → Some type.Long ≡ Some t → HasKey s.key seen.key → slice_get code at ≡ Some instr.Key
      → Evaluates s code 1 (frame at stack variables left) state (at + 1) stack variables t (Gives seen.key left)
  key_goes t at left stack state is k there =
      let e : type.Long ≡ t = some_is type.Long t is in
      subst (λ w. Evaluates s code 1 (frame at stack variables left) state (at + 1) stack variables t (Gives w left)) (sym k.is_there)
      (gives_value s code variables state instr.Key (val.Long k.number) there (ap (λ o. machine.pushed (machine.key_value o) stack (frame at stack variables left)) k.is_here) (subst IsValue e tt) e)

  -- ---- vectors

  new_vector_right : (o : Option ValueType) (n : Needs) (k : Code) (value : Meaning) → IsSized k → Right o n k value
      → Right (where_type o type.Int type.Vector) n (behind k instr.NewVector) (λ seen turns. followed (value seen turns) new_vector)
  new_vector_right o n k value sized right t at turns stack state is meets laid less =
      let ty = where_is o type.Int type.Vector t is in
      behind_goes k instr.NewVector o n value new_vector type.Int t at turns stack state sized right ty.0 tt meets laid less
      (λ v left has there. subst (λ z. Evaluates s code 1 (frame (at + k.size) (v ∷ stack) variables left) state (at + k.size + 1) stack variables z (new_vector v left)) ty.1
      (makes_vector s code variables state v (at + k.size) left stack has there))

  -- a vector in a variable
  vector_there : (v : ℕ) → HasSame c variables seen.variables v → variable_type c v ≡ Some type.Vector
      → (longs : List ℤ) × (slice_get variables v ≡ Some (val.Vector longs)) × (variable_of seen v ≡ val.Vector longs)
  vector_there v k is = by k.value (k.has_type ∙ some_is k.type type.Vector (sym k.is_type ∙ is)) k.is_here k.is_there
    where
      by : (w : Val) → values.type_of w ≡ type.Vector → slice_get variables v ≡ Some w → slice_get seen.variables v ≡ Some w
          → (longs : List ℤ) × (slice_get variables v ≡ Some (val.Vector longs)) × (variable_of seen v ≡ val.Vector longs)
      by (val.Vector longs) has here there = (longs, here, ap (λ o. unwrap_or o val.Unit) there)
      by (val.Int n) has here there = absurd (cc)
      by (val.Long n) has here there = absurd (cc)
      by (val.Bool n) has here there = absurd (cc)
      by val.Unit has here there = absurd (cc)

  vector_size_goes : (v : ℕ) (t : ValueType) (at left : ℕ) (stack : List Val) (state : State) → where_type (variable_type c v) type.Vector type.Int ≡ Some t → HasSame c variables seen.variables v → slice_get code at ≡ Some (instr.VectorSize v)
      → Evaluates s code 1 (frame at stack variables left) state (at + 1) stack variables t (Gives (size_of (variable_of seen v)) left)
  vector_size_goes v t at left stack state is k there =
      let ty = where_is (variable_type c v) type.Vector type.Int t is in
      let w = vector_there v k ty.0 in
      subst (λ z. Evaluates s code 1 (frame at stack variables left) state (at + 1) stack variables t (Gives (size_of z) left)) (sym w.2)
      (gives_value s code variables state (instr.VectorSize v) (size_of (val.Vector w.0)) there (ap (λ o. machine.pushed (machine.size_of (machine.a_value o)) stack (frame at stack variables left)) w.1) (subst IsValue ty.1 tt) ty.1)

  vector_element_right : (v : ℕ) (o : Option ValueType) (n : Needs) (k : Code) (value : Meaning) → IsSized k → Right o n k value
      → Right (and_then (where_type (variable_type c v) type.Vector type.Long) (where_type o type.Int type.Long)) (both n (typing.variable_alone v)) (behind k (instr.VectorGet v)) (λ seen turns. followed (value seen turns) (element_of (variable_of seen v)))
  vector_element_right v o n k value sized right t at turns stack state is meets laid less =
      let m = meets_both c s variables seen n (typing.variable_alone v) meets in
      let first = and_then_is (where_type (variable_type c v) type.Vector type.Long) (where_type o type.Int type.Long) t is in
      let second = where_is o type.Int type.Long t first.2 in
      let w = vector_there v m.1.variables.0 (where_is (variable_type c v) type.Vector type.Long first.0 first.1).0 in
      behind_goes k (instr.VectorGet v) o n value (element_of (variable_of seen v)) type.Int t at turns stack state sized right second.0 tt m.0 laid less
      (λ j left has there. subst (λ z. Evaluates s code 1 (frame (at + k.size) (j ∷ stack) variables left) state (at + k.size + 1) stack variables z (element_of (variable_of seen v) j left)) second.1
      (subst (λ z. Evaluates s code 1 (frame (at + k.size) (j ∷ stack) variables left) state (at + k.size + 1) stack variables type.Long (element_of z j left)) (sym w.2)
      (takes_element s code variables state (instr.VectorGet v) (val.Vector w.0) j (at + k.size) left (j ∷ stack) stack refl has there
      (ap (λ o. machine.element (machine.a_value o) j stack (frame (at + k.size) (j ∷ stack) variables left)) w.1))))

  -- ---- what was gathered

  gathered_length_goes : (t : ValueType) (at left : ℕ) (stack : List Val) (state : State) → and_then c.members (Some type.Int) ≡ Some t → slice_get code at ≡ Some (instr.CollectionLength 0)
      → Evaluates s code 1 (frame at stack variables left) state (at + 1) stack variables t (Gives (val.Int (pos (length seen.gathered))) left)
  gathered_length_goes t at left stack state is there =
      let e = some_is type.Int t (and_then_is c.members (Some type.Int) t is).2 in
      gives_value s code variables state (instr.CollectionLength 0) (val.Int (pos (length seen.gathered))) there (ap (λ vs. machine.goes (val.Int (pos (length vs)) ∷ stack) (frame at stack variables left)) same.same) (subst IsValue e tt) e

  gathered_right : (o : Option ValueType) (n : Needs) (k : Code) (value : Meaning) → IsSized k → Right o n k value
      → Right (and_then (where_type o type.Int type.Int) c.members) n (behind k (instr.CollectionItem 0)) (λ seen turns. followed (value seen turns) (gathered_at seen))
  gathered_right o n k value sized right t at turns stack state is meets laid less =
      let first = and_then_is (where_type o type.Int type.Int) c.members t is in
      let second = where_is o type.Int type.Int first.0 first.1 in
      behind_goes k (instr.CollectionItem 0) o n value (gathered_at seen) type.Int t at turns stack state sized right second.0 tt meets laid less
      (λ j left has there. takes_member s code variables state (instr.CollectionItem 0) seen.gathered j (at + k.size) left (j ∷ stack) stack t has there
      (ap (λ vs. machine.member vs j stack (frame (at + k.size) (j ∷ stack) variables left)) same.same) (same.are_values t first.2) (same.members t first.2))

  gathered_size_right : (o : Option ValueType) (n : Needs) (k : Code) (value : Meaning) → IsSized k → Right o n k value
      → Right (and_then (where_type o type.Int type.Int) (where_type c.members type.Vector type.Int)) n (behind k (instr.CollectionSize 0))
      (λ seen turns. followed (value seen turns) (λ i left. followed (gathered_at seen i left) (λ v rest. Gives (size_of v) rest)))
  gathered_size_right o n k value sized right t at turns stack state is meets laid less =
      let first = and_then_is (where_type o type.Int type.Int) (where_type c.members type.Vector type.Int) t is in
      let second = where_is o type.Int type.Int first.0 first.1 in
      let third = where_is c.members type.Vector type.Int t first.2 in
      behind_goes k (instr.CollectionSize 0) o n value (λ i left. followed (gathered_at seen i left) (λ v rest. Gives (size_of v) rest)) type.Int t at turns stack state sized right second.0 tt meets laid less
      (λ j left has there. with_member s code variables state (instr.CollectionSize 0) seen.gathered j (machine.member_size stack (frame (at + k.size) (j ∷ stack) variables left)) (λ v rest. Gives (size_of v) rest) (at + k.size) left (j ∷ stack) stack t has there
      (ap (λ vs. machine.with_member vs j (machine.member_size stack (frame (at + k.size) (j ∷ stack) variables left)) (frame (at + k.size) (j ∷ stack) variables left)) same.same)
      (λ v m is_member does. subst (λ z. Evaluates s code 1 (frame (at + k.size) (j ∷ stack) variables left) state (at + k.size + 1) stack variables z (Gives (size_of v) left)) third.1
      (gives_size s code variables state (instr.CollectionSize 0) v (at + k.size) left (j ∷ stack) stack (same.members type.Vector third.0 m v is_member) there does)))

  -- The index is tested, and then the code of the other index follows.
  checked_goes : (b : Code) (ob : Option ValueType) (nb : Needs) (vb : Meaning) → IsSized b → Right ob nb b vb → ob ≡ Some type.Int → Meets c s variables seen nb → AreOf type.Vector seen.gathered
      → (j : Val) (at left : ℕ) (stack : List Val) (state : State) → values.type_of j ≡ type.Int → left ≤ most → slice_get code at ≡ Some (instr.CollectionCheck 0) → IsLaid code (at + 1) (b.from (at + 1)) → slice_get code (at + 1 + b.size) ≡ Some (instr.CollectionGet 0)
      → Evaluates s code (1 + (b.size + 1)) (frame at (j ∷ stack) variables left) state (at + 1 + b.size + 1) stack variables type.Long (followed (gathered_at seen j left) (λ v rest. followed (vb seen rest) (element_of v)))
  checked_goes b ob nb vb sized rb ib meets vectors (val.Int (pos m)) at left stack state has less check laid get = by (slice_get seen.gathered m) refl
    where
      j : Val
      j = val.Int (pos m)

      here : Frame
      here = frame at (val.Int (pos m) ∷ stack) variables left

      does : perform_on s (instr.CollectionCheck 0) (val.Int (pos m) ∷ stack) (frame at (val.Int (pos m) ∷ stack) variables left)
          ≡ machine.with_found (slice_get seen.gathered m) (machine.member_checked (val.Int (pos m)) stack (frame at (val.Int (pos m) ∷ stack) variables left)) (frame at (val.Int (pos m) ∷ stack) variables left)
      does = ap (λ vs. machine.with_member vs (val.Int (pos m)) (machine.member_checked (val.Int (pos m)) stack (frame at (val.Int (pos m) ∷ stack) variables left)) (frame at (val.Int (pos m) ∷ stack) variables left)) same.same

      by : (o : Option Val) → slice_get seen.gathered m ≡ o
          → Evaluates s code (1 + (b.size + 1)) (frame at (val.Int (pos m) ∷ stack) variables left) state (at + 1 + b.size + 1) stack variables type.Long (followed (found (λ v. v) o left) (λ v rest. followed (vb seen rest) (element_of v)))
      by None there = record {
        does = stops_wider s code (omega arith) (one_stop s code (instr.CollectionCheck 0) check
            (does ∙ ap (λ o. machine.with_found o (machine.member_checked (val.Int (pos m)) stack (frame at (val.Int (pos m) ∷ stack) variables left)) (frame at (val.Int (pos m) ∷ stack) variables left)) there));
      }
      by (Some v) there =
          let e : suc at ≡ at + 1 = omega arith in
          let checked : perform_on s (instr.CollectionCheck 0) (val.Int (pos m) ∷ stack) (frame at (val.Int (pos m) ∷ stack) variables left) ≡ Some (Goes (frame (suc at) (val.Int (pos m) ∷ stack) variables left)) =
          does ∙ ap (λ o. machine.with_found o (machine.member_checked (val.Int (pos m)) stack (frame at (val.Int (pos m) ∷ stack) variables left)) (frame at (val.Int (pos m) ∷ stack) variables left)) there in
          let test : Leads s code 1 (frame at (val.Int (pos m) ∷ stack) variables left) state (frame (at + 1) (val.Int (pos m) ∷ stack) variables left) state =
          leads_to s code e (one_step s code (instr.CollectionCheck 0) check checked (omega arith)) in
          onward s code variables state (followed (vb seen left) (element_of v)) test
          (operand_then s code variables state (vb seen left) (element_of v) tt (rb type.Int (at + 1) left (val.Int (pos m) ∷ stack) state ib meets laid less) (λ w rest hw l.
          takes_element s code variables state (instr.CollectionGet 0) v w (at + 1 + b.size) rest (w ∷ val.Int (pos m) ∷ stack) stack (vectors m v there) hw get
          (ap (λ vs. machine.with_found (slice_get vs m) (machine.member_element w stack (frame (at + 1 + b.size) (w ∷ val.Int (pos m) ∷ stack) variables rest)) (frame (at + 1 + b.size) (w ∷ val.Int (pos m) ∷ stack) variables rest)) same.same
          ∙ ap (λ o. machine.with_found o (machine.member_element w stack (frame (at + 1 + b.size) (w ∷ val.Int (pos m) ∷ stack) variables rest)) (frame (at + 1 + b.size) (w ∷ val.Int (pos m) ∷ stack) variables rest)) there)))
  checked_goes b ob nb vb sized rb ib meets vectors (val.Int (negsuc m)) at left stack state has less check laid get = record { does = stops_wider s code (omega arith) (one_stop s code (instr.CollectionCheck 0) check refl) }
  checked_goes b ob nb vb sized rb ib meets vectors (val.Long m) at left stack state has less check laid get = absurd (cc)
  checked_goes b ob nb vb sized rb ib meets vectors (val.Bool m) at left stack state has less check laid get = absurd (cc)
  checked_goes b ob nb vb sized rb ib meets vectors (val.Vector m) at left stack state has less check laid get = absurd (cc)
  checked_goes b ob nb vb sized rb ib meets vectors val.Unit at left stack state has less check laid get = absurd (cc)

  gathered_element_right : (oa ob : Option ValueType) (na nb : Needs) (a b : Code) (va vb : Meaning) → IsSized a → IsSized b → Right oa na a va → Right ob nb b vb
      → Right (and_then (where_type oa type.Int type.Int) (and_then (where_type c.members type.Vector type.Long) (where_type ob type.Int type.Long))) (both na nb)
      (behind (followed_by (behind a (instr.CollectionCheck 0)) b) (instr.CollectionGet 0))
      (λ seen turns. followed (va seen turns) (λ i left. followed (gathered_at seen i left) (λ v rest. followed (vb seen rest) (element_of v))))
  gathered_element_right oa ob na nb a b va vb ha hb ra rb t at turns stack state is meets laid less =
      let first = and_then_is (where_type oa type.Int type.Int) (and_then (where_type c.members type.Vector type.Long) (where_type ob type.Int type.Long)) t is in
      let index = where_is oa type.Int type.Int first.0 first.1 in
      let second = and_then_is (where_type c.members type.Vector type.Long) (where_type ob type.Int type.Long) t first.2 in
      let vectors = where_is c.members type.Vector type.Long second.0 second.1 in
      let other = where_is ob type.Int type.Long t second.2 in
      let m = meets_both c s variables seen na nb meets in
      let outer = laid_two code at (a.size + 1 + b.size) ((a.from at ++ instr.CollectionCheck 0 ∷ []) ++ b.from (at + (a.size + 1))) (instr.CollectionGet 0 ∷ []) (followed_sized (behind a (instr.CollectionCheck 0)) b (behind_sized a (instr.CollectionCheck 0) ha) hb at) laid in
      let middle = laid_two code at (a.size + 1) (a.from at ++ instr.CollectionCheck 0 ∷ []) (b.from (at + (a.size + 1))) (behind_sized a (instr.CollectionCheck 0) ha at) outer.0 in
      let inner = laid_two code at a.size (a.from at) (instr.CollectionCheck 0 ∷ []) (ha at) middle.0 in
      let e1 : at + (a.size + 1) ≡ at + a.size + 1 = omega arith in
      let e2 : at + (a.size + 1 + b.size) ≡ at + a.size + 1 + b.size = omega arith in
      let e3 : at + a.size + 1 + b.size + 1 ≡ at + (a.size + 1 + b.size + 1) = omega arith in
      let there : IsLaid code (at + a.size + 1) (b.from (at + a.size + 1)) = subst (λ k. IsLaid code k (b.from k)) e1 middle.1 in
      let get : slice_get code (at + a.size + 1 + b.size) ≡ Some (instr.CollectionGet 0) = subst (λ k. slice_get code k ≡ Some (instr.CollectionGet 0)) e2 outer.1.0 in
      let g : Val → ℕ → Ended Val = λ i left. followed (gathered_at seen i left) (λ v rest. followed (vb seen rest) (element_of v)) in
      subst (λ z. Evaluates s code (a.size + 1 + b.size + 1) (frame at stack variables turns) state (at + (a.size + 1 + b.size + 1)) stack variables z (followed (va seen turns) g)) other.1
      (wide s code variables state (followed (va seen turns) g) (omega arith)
      (arrives s code variables state e3
      (operand_then s code variables state (va seen turns) g tt (ra type.Int at turns stack state index.0 m.0 inner.0 less) (λ i left has l.
      checked_goes b ob nb vb hb rb other.0 m.1 (same.members type.Vector vectors.0) i (at + a.size) left stack state has (omega arith) inner.1.0 there get))))

  -- ---- calls

  called_gives : (i : Instr) (x : Ended Val) (gave : Option Called) (t : ValueType) (at left : ℕ) (stack under : List Val) (state : State) → CallAgrees t left x gave → slice_get code at ≡ Some i
      → perform_on s i stack (frame at stack variables left) ≡ machine.after_call gave under (frame at stack variables left)
      → Evaluates s code 1 (frame at stack variables left) state (at + 1) under variables t x
  called_gives i (Gives v rest) gave t at left stack under state agrees is does =
      let e : suc at ≡ at + 1 = omega arith in
      record { does = (agrees.1, leads_to s code e (one_step s code i is (does ∙ ap (λ g. machine.after_call g under (frame at stack variables left)) agrees.0) agrees.2)) }
  called_gives i (Ends h) gave t at left stack under state agrees is does =
      record { does = one_stop s code i is (does ∙ ap (λ g. machine.after_call g under (frame at stack variables left)) agrees.1) }

  -- A turn is spent, and then the method is called.
  spends_and_calls : (i : Instr) (x : ℕ → Ended Val) (gave : ℕ → Option Called) (t : ValueType) (at left : ℕ) (stack under : List Val) (state : State) → left ≤ most
      → x zero ≡ Ends OutOfTurns → ((turns : ℕ) → turns < most → CallAgrees t turns (x (suc turns)) (gave turns)) → IsLaid code at (instr.Turn ∷ i ∷ [])
      → ((turns : ℕ) → perform_on s i stack (frame (suc at) stack variables turns) ≡ machine.after_call (gave turns) under (frame (suc at) stack variables turns))
      → Evaluates s code 2 (frame at stack variables left) state (at + 2) under variables t (x left)
  spends_and_calls i x gave t at zero stack under state less out agrees laid does =
      subst (λ z. Evaluates s code 2 (frame at stack variables zero) state (at + 2) under variables t z) (sym out) (record { does = stops_wider s code (omega arith) (one_stop s code instr.Turn laid.0 refl) })
  spends_and_calls i x gave t at (suc left) stack under state less out agrees laid does =
      let e : suc at + 1 ≡ at + 2 = omega arith in
      let turn : Leads s code 1 (frame at stack variables (suc left)) state (frame (suc at) stack variables left) state = one_step s code instr.Turn laid.0 refl (omega arith) in
      arrives s code variables state e
      (onward s code variables state (x (suc left)) turn (called_gives i (x (suc left)) (gave left) t (suc at) left stack under state (agrees left (omega arith)) laid.1.0 (does left)))

  called_is : (o : Option Callee) (args : Option (List ValueType)) (t : ValueType) → called_type o args ≡ Some t → (callee : Callee) × (o ≡ Some callee) × (callee.kind ≡ Helper) × (args ≡ Some callee.params) × (callee.result ≡ t)
  called_is None args t is = absurd (none_some t is)
  called_is (Some m) None t is = absurd (none_some t is)
  called_is (Some m) (Some args) t is = by m.kind refl is
    where
      types : (b : Bool) → same_types args m.params ≡ b → m.kind ≡ Helper → cond b (Some m.result) None ≡ Some t → (callee : Callee) × (Some m ≡ Some callee) × (callee.kind ≡ Helper) × (Some args ≡ Some callee.params) × (callee.result ≡ t)
      types true e h is = (m, refl, h, ap Some (same_are args m.params e), some_is m.result t is)
      types false e h is = absurd (none_some t is)

      by : (k : MethodKind) → m.kind ≡ k → called_by k m.params m.result args ≡ Some t → (callee : Callee) × (Some m ≡ Some callee) × (callee.kind ≡ Helper) × (Some args ≡ Some callee.params) × (callee.result ≡ t)
      by Helper h is = types (same_types args m.params) refl h is
      by Entry h is = absurd (none_some t is)
      by Merge h is = absurd (none_some t is)

  then_call : {na at to : ℕ} {f : Frame} {stack : List Val} {ts : List ValueType} {t : ValueType} {state : State} (x : Ended (List Val)) (k : List Val → ℕ → Ended Val) → EvaluatesAll s code na f state at stack variables ts x
      → ((vs : List Val) (left : ℕ) → map values.type_of vs ≡ ts → left ≤ f.turns → Evaluates s code 2 (frame at (pushed_all vs stack) variables left) state to stack variables t (k vs left))
      → Evaluates s code (na + 2) f state to stack variables t (source.followed x k)
  then_call {state = state} (Gives vs left) k q more = onward s code variables state (k vs left) q.does.1 (more vs left q.does.0 q.does.1.falls)
  then_call (Ends h) k q more = record { does = stops_wider s code (omega arith) q.does }

  args_length : (vs : List Val) (ts : List ValueType) → map values.type_of vs ≡ ts → length vs ≡ length ts
  args_length [] ts is = ap length is
  args_length (v ∷ vs) [] is = absurd (cc)
  args_length (v ∷ vs) (t ∷ ts) is = let h : map values.type_of vs ≡ ts = cc in ap suc (args_length vs ts h)

  call_right : (m : ℕ) (os : Option (List ValueType)) (ns : Needs) (ks : Code) (all : Seen → ℕ → Ended (List Val)) → IsSized ks → AllRight os ns ks all
      → Right (called_type (slice_get c.methods m) os) ns (followed_by ks (plain (instr.Turn ∷ instr.Call m ∷ []))) (λ seen turns. source.followed (all seen turns) (λ vs left. calls m vs [] left))
  call_right m os ns ks all sized right t at turns stack state is meets laid less =
      let k = called_is (slice_get c.methods m) os t is in
      let callee = k.0 in
      let h : HelperAgrees m callee s.methods calls s.calls most = agree.helpers m callee k.1 k.2 in
      let parts = laid_two code at ks.size (ks.from at) (instr.Turn ∷ instr.Call m ∷ []) (sized at) laid in
      let e : at + ks.size + 2 ≡ at + (ks.size + 2) = omega arith in
      subst (λ z. Evaluates s code (ks.size + 2) (frame at stack variables turns) state (at + (ks.size + 2)) stack variables z (source.followed (all seen turns) (λ vs left. calls m vs [] left))) k.4
      (arrives s code variables state e
      (then_call (all seen turns) (λ vs left. calls m vs [] left) (right callee.params at turns stack state k.3 h.take_values meets parts.0 less) (λ vs left has l.
      spends_and_calls (instr.Call m) (calls m vs []) (s.calls m vs []) callee.result (at + ks.size) left (pushed_all vs stack) stack state (omega arith) (agree.want_a_turn m vs []) (λ turns fewer. h.agrees vs turns has fewer) parts.1 (λ turns.
      let there : Frame = frame (suc (at + ks.size)) (pushed_all vs stack) variables turns in
      ap (λ o. machine.call s.calls m o (pushed_all vs stack) there) h.is_method
      ∙ ap (λ n. machine.call_on s.calls m (machine.arguments n (pushed_all vs stack)) there) (h.as_many ∙ sym (args_length vs callee.params has))
      ∙ ap (λ o. machine.call_on s.calls m o there) (arguments_are vs stack)))))

  merged_is : (o : Option Callee) (t : ValueType) → merged_type o ≡ Some t → (callee : Callee) × (o ≡ Some callee) × (callee.result ≡ t)
  merged_is None t is = absurd (none_some t is)
  merged_is (Some m) t is = by m.kind is
    where
      by : (k : MethodKind) → merged_by k m.result ≡ Some t → (callee : Callee) × (Some m ≡ Some callee) × (callee.result ≡ t)
      by Merge is = (m, refl, some_is m.result t is)
      by Entry is = absurd (none_some t is)
      by Helper is = absurd (none_some t is)

  merge_right : (m : ℕ) → Right (merged_type (slice_get c.methods m)) (typing.merge_alone m) (plain (instr.Turn ∷ instr.Merge m ∷ [])) (λ seen turns. calls m (val.Unit ∷ []) seen.gathered turns)
  merge_right m t at turns stack state is meets laid less =
      let k = merged_is (slice_get c.methods m) t is in
      let h : MergesThese c seen.gathered m = meets.merges.0 in
      let e : h.callee.result ≡ t = ap (λ (z : Callee). z.result) (some_is h.callee k.0 (sym h.is_callee ∙ k.1)) ∙ k.2 in
      subst (λ z. Evaluates s code 2 (frame at stack variables turns) state (at + 2) stack variables z (calls m (val.Unit ∷ []) seen.gathered turns)) e
      (spends_and_calls (instr.Merge m) (calls m (val.Unit ∷ []) seen.gathered) (s.calls m (val.Unit ∷ []) seen.gathered) h.callee.result at turns stack stack state less (agree.want_a_turn m (val.Unit ∷ []) seen.gathered)
      (λ turns fewer. agree.merges m h.callee h.type seen.gathered turns h.is_callee h.merges h.takes h.are_of fewer) laid (λ turns.
      ap (λ vs. machine.after_call (s.calls m (val.Unit ∷ []) vs turns) stack (frame (suc at) stack variables turns)) same.same))

  -- ---- all expressions

  abbrev IsRight : Expression → Type 0
  IsRight x = Right (type_of c x) (needs x) (code_of c x) (value_of calls x)

  abbrev Part : Type 0
  Part = (x : Expression) × IsRight x

  abbrev bare : Expression-F Part → Expression-F Expression
  bare = map-Expression Part Expression (λ x. x.0)

  abbrev types : Expression-F Expression → Expression-F (Option ValueType)
  types = map-Expression Expression (Option ValueType) (type_of c)

  abbrev needed : Expression-F Expression → Expression-F Needs
  needed = map-Expression Expression Needs needs

  abbrev low : Expression-F Expression → Expression-F Lowered
  low = map-Expression Expression Lowered (lowered c)

  abbrev meant : Expression-F Expression → Expression-F Meaning
  meant = map-Expression Expression Meaning (value_of calls)

  abbrev LayerRight : Expression-F Expression → Type 0
  LayerRight y = Right (type_step c (types y)) (needs_step (needed y)) (code_step (low y)) (expression_step calls (meant y))

  args_sized : (xs : List Part) → IsSized (codes.all_of (map (λ (a : Lowered). a.code) (map (lowered c) (map (λ (x : Part). x.0) xs))))
  args_sized [] at = refl
  args_sized (x ∷ xs) at = followed_sized (code_of c x.0) (codes.all_of (map (λ (a : Lowered). a.code) (map (lowered c) (map (λ (y : Part). y.0) xs)))) (code_sized c x.0) (args_sized xs) at

  args_right : (xs : List Part) → AllRight (all_types (map (type_of c) (map (λ (x : Part). x.0) xs))) (typing.all_of (map needs (map (λ (x : Part). x.0) xs)))
      (codes.all_of (map (λ (a : Lowered). a.code) (map (lowered c) (map (λ (x : Part). x.0) xs)))) (source.all_of (map (value_of calls) (map (λ (x : Part). x.0) xs)))
  args_right [] ts at turns stack state is h meets laid less = none_right ts at turns stack state is h meets laid less
  args_right (x ∷ xs) ts at turns stack state is h meets laid less =
      more_right (type_of c x.0) (all_types (map (type_of c) (map (λ (y : Part). y.0) xs))) (needs x.0) (typing.all_of (map needs (map (λ (y : Part). y.0) xs)))
      (code_of c x.0) (codes.all_of (map (λ (a : Lowered). a.code) (map (lowered c) (map (λ (y : Part). y.0) xs)))) (value_of calls x.0) (source.all_of (map (value_of calls) (map (λ (y : Part). y.0) xs)))
      (code_sized c x.0) x.1 (args_right xs) ts at turns stack state is h meets laid less

  layer_right : (y : Expression-F Part) → LayerRight (bare y)
  layer_right e.Nothing t at turns stack state is meets laid less = absurd (none_some t is)
  layer_right (e.Int n) t at turns stack state is meets laid less = let h = some_is type.Int t is in gives_value s code variables state (instr.Int n) (val.Int n) laid.0 refl (subst IsValue h tt) h
  layer_right (e.Long n) t at turns stack state is meets laid less = let h = some_is type.Long t is in gives_value s code variables state (instr.Long n) (val.Long n) laid.0 refl (subst IsValue h tt) h
  layer_right (e.Bool b) t at turns stack state is meets laid less = let h = some_is type.Boolean t is in gives_value s code variables state (instr.Bool b) (val.Bool b) laid.0 refl (subst IsValue h tt) h
  layer_right (e.Variable v) t at turns stack state is meets laid less = variable_goes v meets.variables.0 t at turns stack state is laid.0
  layer_right e.CarriedKey t at turns stack state is meets laid less = key_goes t at turns stack state is (meets.key refl) laid.0
  layer_right (e.Unary op a) t at turns stack state is meets laid less = unary_right op (type_of c a.0) (needs a.0) (code_of c a.0) (value_of calls a.0) (code_sized c a.0) a.1 t at turns stack state is meets laid less
  layer_right (e.Binary op a b) t at turns stack state is meets laid less =
      binary_right op (lowered c a.0) (lowered c b.0) (type_of c a.0) (type_of c b.0) (needs a.0) (needs b.0) (value_of calls a.0) (value_of calls b.0) (type_beside c a.0) (code_sized c a.0) (code_sized c b.0) a.1 b.1 t at turns stack state is meets laid less
  layer_right (e.Cast to a) t at turns stack state is meets laid less = cast_right to (type_of c a.0) (needs a.0) (code_of c a.0) (value_of calls a.0) (code_sized c a.0) a.1 t at turns stack state is meets laid less
  layer_right (e.Conditional test a b) t at turns stack state is meets laid less =
      conditional_right (type_of c test.0) (type_of c a.0) (type_of c b.0) (needs test.0) (needs a.0) (needs b.0) (code_of c test.0) (code_of c a.0) (code_of c b.0) (value_of calls test.0) (value_of calls a.0) (value_of calls b.0)
      (code_sized c test.0) (code_sized c a.0) (code_sized c b.0) test.1 a.1 b.1 t at turns stack state is meets laid less
  layer_right (e.NewVector n) t at turns stack state is meets laid less = new_vector_right (type_of c n.0) (needs n.0) (code_of c n.0) (value_of calls n.0) (code_sized c n.0) n.1 t at turns stack state is meets laid less
  layer_right (e.VectorSize v) t at turns stack state is meets laid less = vector_size_goes v t at turns stack state is meets.variables.0 laid.0
  layer_right (e.VectorElement v j) t at turns stack state is meets laid less = vector_element_right v (type_of c j.0) (needs j.0) (code_of c j.0) (value_of calls j.0) (code_sized c j.0) j.1 t at turns stack state is meets laid less
  layer_right e.GatheredLength t at turns stack state is meets laid less = gathered_length_goes t at turns stack state is laid.0
  layer_right (e.Gathered j) t at turns stack state is meets laid less = gathered_right (type_of c j.0) (needs j.0) (code_of c j.0) (value_of calls j.0) (code_sized c j.0) j.1 t at turns stack state is meets laid less
  layer_right (e.GatheredSize j) t at turns stack state is meets laid less = gathered_size_right (type_of c j.0) (needs j.0) (code_of c j.0) (value_of calls j.0) (code_sized c j.0) j.1 t at turns stack state is meets laid less
  layer_right (e.GatheredElement j k) t at turns stack state is meets laid less =
      gathered_element_right (type_of c j.0) (type_of c k.0) (needs j.0) (needs k.0) (code_of c j.0) (code_of c k.0) (value_of calls j.0) (value_of calls k.0) (code_sized c j.0) (code_sized c k.0) j.1 k.1 t at turns stack state is meets laid less
  layer_right (e.Call m args) t at turns stack state is meets laid less =
      call_right m (all_types (map (type_of c) (map (λ (x : Part). x.0) args))) (typing.all_of (map needs (map (λ (x : Part). x.0) args)))
      (codes.all_of (map (λ (a : Lowered). a.code) (map (lowered c) (map (λ (x : Part). x.0) args)))) (source.all_of (map (value_of calls) (map (λ (x : Part). x.0) args))) (args_sized args) (args_right args) t at turns stack state is meets laid less
  layer_right (e.Merge m) t at turns stack state is meets laid less = merge_right m t at turns stack state is meets laid less

  made_right : (x : Expression-F Expression) (y : Expression-F Part) → bare y ≡ x → IsRight (roll-Expression x)
  made_right x y is =
      let o = fold-roll-Expression (Option ValueType) (type_step c) x in
      let n = fold-roll-Expression Needs needs_step x in
      let l = fold-roll-Expression Lowered (lowered_step c) x in
      let v = fold-roll-Expression Meaning (expression_step calls) x in
      let whole : Right (type_of c (roll-Expression x)) (needs (roll-Expression x)) (code_of c (roll-Expression x)) (value_of calls (roll-Expression x)) ≡ LayerRight x =
      λ i. Right (o i) (n i) (l i).code (v i) in
      transport (sym whole) (subst LayerRight is (layer_right y))

  pub expression_right : (x : Expression) → IsRight x
  expression_right = ind-Expression IsRight made_right

  pub expressions_right : (xs : List Expression) → AllRight (typing.types_of c xs) (typing.needs_of_all xs) (codes_of c xs) (source.values_of calls xs)
  expressions_right [] ts at turns stack state is h meets laid less = none_right ts at turns stack state is h meets laid less
  expressions_right (x ∷ xs) ts at turns stack state is h meets laid less =
      more_right (type_of c x) (typing.types_of c xs) (needs x) (typing.needs_of_all xs) (code_of c x) (codes_of c xs) (value_of calls x) (source.values_of calls xs) (code_sized c x) (expression_right x) (expressions_right xs) ts at turns stack state is h meets laid less

pub expressions_give_their_values : ExpressionsGiveTheirValues
expressions_give_their_values c calls s code most agree variables seen same x t at turns stack state is meets laid less = expression_right c calls s code most agree variables seen same x t at turns stack state is meets laid less
