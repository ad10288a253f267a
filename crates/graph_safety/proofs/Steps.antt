-- Each instruction of typed code does something, and what it leaves is of the types that come after it.
use Rattle.std.proofs.Common.{◌≡◌, ◌≢◌, refl, sym, ap, ap₂, subst, ◌∙◌, ℕ, ℤ, zero, suc, pos, negsuc, ◌<◌, arith, Bool, true, false, cond, List, [], ◌∷◌, map, length, replicate, Option, Some, None, Result, Ok, Err, slice_get, slice_set, nat_lt}
use Rattle.std.proofs.lemmas.Bool.{false≢true, lt-ltb}
use Rattle.sdg_base.specs.declared.operator.BinOp.{BinOp}
use Rattle.sdg_base.specs.declared.operator.BinOp.TheVariants as bin
use Rattle.sdg_base.specs.declared.operator.UnOp.{UnOp}
use Rattle.sdg_base.specs.declared.operator.UnOp.TheVariants as un
use Rattle.sdg_base.specs.declared.val.Exn.{Exn}
use Rattle.sdg_base.specs.declared.val.Num.{Num}
use Rattle.sdg_base.specs.declared.val.Num.TheVariants as num
use Rattle.sdg_base.specs.declared.val.Val.{Val}
use Rattle.sdg_base.specs.declared.val.Val.TheVariants as val
use Rattle.sdg_base.specs.declared.value_type.ValueType.{ValueType}
use Rattle.sdg_base.specs.declared.value_type.ValueType.TheVariants as type
use Rattle.sdg_base.specs.Operations.{operation, unary_operation}
use Rattle.sdg_base.specs.Types.{type_of, binary_type, unary_type, arithmetic_type, shift_type, order_type, equality_type, bitwise_type, condition_type, number_type, boolean_type}
use Rattle.flat_code.specs.declared.graph.Graph.{Graph}
use Rattle.flat_code.specs.declared.graph.GraphMethod.{GraphMethod}
use Rattle.flat_code.specs.declared.graph.Instr.{Instr}
use Rattle.flat_code.specs.declared.graph.Instr.TheVariants as instr
use Rattle.flat_code.specs.declared.graph.OperandType.{OperandType}
use Rattle.flat_code.specs.declared.graph.VarType.{VarType}
use Rattle.flat_code.specs.declared.graph.VariableType.{VariableType}
use Rattle.flat_code.specs.declared.graph.VariableType.TheVariants.{One, Collection}
use Rattle.flat_code.specs.Types.{type_by, one_type, member_type, in_variable, type_of_variable, operand_type, right_type, same_type}
use Rattle.flat_code.specs.Machine as machine
use Rattle.flat_code.specs.Machine.{Frame, Calls, Called, Gave, Failed, Ending, Returned, Stopped, CutTo, PartFor, Performed, Goes, Accesses, Ends, perform_on, a_value}
use Rattle.flat_code.specs.Ways.{IsIn, IsFirst, IsLater, next_in_task, writes}
use Rattle.flat_code.specs.Fits.{is_type}
use Rattle.flat_code.specs.Verified.{Stack, types_after, without, on_top, with_result, pushing, if_type, if_members, stored_type, operated_type}
use Rattle.graph_safety.proofs.Values.{same_is, is_same, operation_has, unary_has, AnswerHas, ValueHas}
use Rattle.graph_safety.proofs.Lists.{none_some, some_is, length_set}
use Rattle.graph_safety.proofs.Stacks.{type_by_value, on_top_is, on_top_by, one_off, two_off, pushing_is}
use Rattle.graph_safety.proofs.Frames.{AreOf, HoldsIn, Holds, value_holds, is_declared, set_holds, set_keeps, setting_of, is_turn, frame, StepFits, stays}

-- ---- operators give no void

not_arithmetic : (s t : ValueType) → arithmetic_type s t ≢ Some type.Void
not_arithmetic type.Int type.Int e = absurd (cc)
not_arithmetic type.Long type.Long e = absurd (cc)
not_arithmetic _ _ e = absurd (cc)

not_shift : (s t : ValueType) → shift_type s t ≢ Some type.Void
not_shift type.Int type.Int e = absurd (cc)
not_shift type.Long type.Int e = absurd (cc)
not_shift _ _ e = absurd (cc)

not_order : (s t : ValueType) → order_type s t ≢ Some type.Void
not_order type.Int type.Int e = absurd (cc)
not_order type.Long type.Long e = absurd (cc)
not_order _ _ e = absurd (cc)

not_equality : (s t : ValueType) → equality_type s t ≢ Some type.Void
not_equality type.Boolean type.Boolean e = absurd (cc)
not_equality type.Int type.Int e = absurd (cc)
not_equality type.Long type.Long e = absurd (cc)
not_equality _ _ e = absurd (cc)

not_bitwise : (s t : ValueType) → bitwise_type s t ≢ Some type.Void
not_bitwise type.Boolean type.Boolean e = absurd (cc)
not_bitwise type.Int type.Int e = absurd (cc)
not_bitwise type.Long type.Long e = absurd (cc)
not_bitwise _ _ e = absurd (cc)

not_condition : (s t : ValueType) → condition_type s t ≢ Some type.Void
not_condition type.Boolean type.Boolean e = absurd (cc)
not_condition _ _ e = absurd (cc)

not_binary : (op : BinOp) (s t : ValueType) → binary_type op s t ≢ Some type.Void
not_binary bin.Mul s t = not_arithmetic s t
not_binary bin.Div s t = not_arithmetic s t
not_binary bin.Rem s t = not_arithmetic s t
not_binary bin.Add s t = not_arithmetic s t
not_binary bin.Sub s t = not_arithmetic s t
not_binary bin.Shl s t = not_shift s t
not_binary bin.Shr s t = not_shift s t
not_binary bin.UShr s t = not_shift s t
not_binary bin.Lt s t = not_order s t
not_binary bin.Le s t = not_order s t
not_binary bin.Gt s t = not_order s t
not_binary bin.Ge s t = not_order s t
not_binary bin.Eq s t = not_equality s t
not_binary bin.Ne s t = not_equality s t
not_binary bin.And s t = not_bitwise s t
not_binary bin.Xor s t = not_bitwise s t
not_binary bin.Or s t = not_bitwise s t
not_binary bin.AndAlso s t = not_condition s t
not_binary bin.OrElse s t = not_condition s t

not_number : (t : ValueType) → number_type t ≢ Some type.Void
not_number type.Int e = absurd (cc)
not_number type.Long e = absurd (cc)
not_number _ e = absurd (cc)

not_unary : (op : UnOp) (t : ValueType) → unary_type op t ≢ Some type.Void
not_unary un.Plus t = not_number t
not_unary un.Minus t = not_number t
not_unary un.Complement t = not_number t
not_unary un.Not t = not_boolean t
  where
    not_boolean : (t : ValueType) → boolean_type t ≢ Some type.Void
    not_boolean type.Boolean e = absurd (cc)
    not_boolean _ e = absurd (cc)

-- ---- going on

abbrev pub Has : ValueType → Option Val → Type 0
Has t None = Unit {0}
Has t (Some v) = type_of v ≡ t

module _ (graph : Graph) (m : GraphMethod) (field : Option (List ℕ)) (gathered : List Val) where
  pub goes_on : (i : Instr) (at : ℕ) (stack variables next : List Val) (turns : ℕ) (after : Stack)
      → IsIn (suc at) (next_in_task at i) → ((v : ℕ) → writes i ≡ Some v → ⊥) → (is_turn i ≡ true → ⊥) → map type_of next ≡ after
      → StepFits graph m field gathered i (frame at stack variables turns) after (machine.goes next (frame at stack variables turns))
  goes_on i at stack variables next turns after is_next none no_turn typed = record {
    next = is_next;
    typed = typed;
    as_many = refl;
    kept = λ v h. h;
    written = λ v e. absurd (none v e);
    turns = omega arith;
    spent = λ e. absurd (no_turn e);
  }

  pub jumps : (i : Instr) (at to : ℕ) (stack variables next : List Val) (turns : ℕ) (after : Stack)
      → IsIn to (next_in_task at i) → ((v : ℕ) → writes i ≡ Some v → ⊥) → (is_turn i ≡ true → ⊥) → map type_of next ≡ after
      → StepFits graph m field gathered i (frame at stack variables turns) after (machine.jumped to next (frame at stack variables turns))
  jumps i at to stack variables next turns after is_next none no_turn typed = record {
    next = is_next;
    typed = typed;
    as_many = refl;
    kept = λ v h. h;
    written = λ v e. absurd (none v e);
    turns = omega arith;
    spent = λ e. absurd (no_turn e);
  }

  -- a value pushed on others
  pub pushes : (t : ValueType) (o : Option Val) (i : Instr) (at : ℕ) (stack variables next : List Val) (turns : ℕ) (after : Stack)
      → IsIn (suc at) (next_in_task at i) → ((v : ℕ) → writes i ≡ Some v → ⊥) → (is_turn i ≡ true → ⊥)
      → ValueHas (Some t) o → t ∷ map type_of next ≡ after
      → StepFits graph m field gathered i (frame at stack variables turns) after (machine.pushed o next (frame at stack variables turns))
  pushes t None i at stack variables next turns after is_next none no_turn has typed = has
  pushes t (Some v) i at stack variables next turns after is_next none no_turn has typed =
      goes_on i at stack variables (v ∷ next) turns after is_next none no_turn (ap (λ u. u ∷ map type_of next) has ∙ typed)

  pub answers : (t : ValueType) (o : Option (Result Val Exn)) (i : Instr) (at : ℕ) (stack variables next : List Val) (turns : ℕ) (after : Stack)
      → IsIn (suc at) (next_in_task at i) → ((v : ℕ) → writes i ≡ Some v → ⊥) → (is_turn i ≡ true → ⊥)
      → AnswerHas (Some t) o → t ∷ map type_of next ≡ after
      → StepFits graph m field gathered i (frame at stack variables turns) after (machine.answered o next (frame at stack variables turns))
  answers t None i at stack variables next turns after is_next none no_turn has typed = has
  answers t (Some (Ok v)) i at stack variables next turns after is_next none no_turn has typed =
      goes_on i at stack variables (v ∷ next) turns after is_next none no_turn (ap (λ u. u ∷ map type_of next) has ∙ typed)
  answers t (Some (Err e)) i at stack variables next turns after is_next none no_turn has typed = (stays _, tt)

  pub finds : (t : ValueType) (o : Option Val) (i : Instr) (at : ℕ) (stack variables next : List Val) (turns : ℕ) (after : Stack)
      → IsIn (suc at) (next_in_task at i) → ((v : ℕ) → writes i ≡ Some v → ⊥) → (is_turn i ≡ true → ⊥)
      → Has t o → t ∷ map type_of next ≡ after
      → StepFits graph m field gathered i (frame at stack variables turns) after (machine.found o next (frame at stack variables turns))
  finds t None i at stack variables next turns after is_next none no_turn has typed = (stays _, tt)
  finds t (Some v) i at stack variables next turns after is_next none no_turn has typed =
      goes_on i at stack variables (v ∷ next) turns after is_next none no_turn (ap (λ u. u ∷ map type_of next) has ∙ typed)

  pub stores : (i : Instr) (at v : ℕ) (x : Val) (stack variables next : List Val) (turns : ℕ) (after : Stack)
      → IsIn (suc at) (next_in_task at i) → ((w : ℕ) → writes i ≡ Some w → v ≡ w) → (is_turn i ≡ true → ⊥)
      → v < length variables → HoldsIn (slice_get m.vars v) gathered (Some x) → map type_of next ≡ after
      → StepFits graph m field gathered i (frame at stack variables turns) after (machine.stored v x next (frame at stack variables turns))
  stores i at v x stack variables next turns after is_next its no_turn within has typed =
      subst (λ (b : Bool). StepFits graph m field gathered i (frame at stack variables turns) after (cond b (Some (Goes (frame (suc at) next (slice_set variables v x) turns))) None))
      (sym (lt-ltb v (length variables) within))
      (record {
        next = is_next;
        typed = typed;
        as_many = length_set variables v x;
        kept = set_keeps m gathered variables v x within has;
        written = λ w e. subst (λ (k : ℕ). Holds m gathered (slice_set variables v x) k) (its w e) (set_holds m gathered variables v x within has);
        turns = omega arith;
        spent = λ e. absurd (no_turn e);
      })

-- ---- each instruction

value_of : (t : VarType) (x : Val) → type_of x ≡ type_by t → ValueHas (Some (type_by t)) (a_value (Some x))
value_of t val.Unit h = absurd (type_by_value t (sym h))
value_of t _ h = h

stored_parts : (o : Option ValueType) (types after : Stack) → stored_type o types ≡ Some after → (t : ValueType) × (o ≡ Some t) × (types ≡ t ∷ after)
stored_parts None types after e = absurd (none_some after e)
stored_parts (Some t) types after e = (t, refl, one_off t types after e)

pub result_parts : (t : ValueType) (o : Option Stack) (after : Stack) → with_result t o ≡ Some after → (stack : Stack) × (o ≡ Some stack) × (on_top t stack ≡ after)
result_parts t None after e = absurd (none_some after e)
result_parts t (Some stack) after e = (stack, refl, some_is (on_top t stack) after e)

pub if_parts : (o : Option ValueType) (t : ValueType) (p : Option Stack) (after : Stack) → if_type o t p ≡ Some after → (o ≡ Some t) × (p ≡ Some after)
if_parts None t p after e = absurd (none_some after e)
if_parts (Some s) t p after e = by (same_type s t) refl e
  where
    by : (b : Bool) → same_type s t ≡ b → cond b p None ≡ Some after → (Some s ≡ Some t) × (p ≡ Some after)
    by true is e = (ap Some (same_is s t is), e)
    by false is e = absurd (none_some after e)

pub members_parts : (o : Option ValueType) (p : Option Stack) (after : Stack) → if_members o p ≡ Some after → p ≡ Some after
members_parts None p after e = absurd (none_some after e)
members_parts (Some t) p after e = e

-- a variable of type `Vector` that holds something holds a vector
pub vector_in : (gathered : List Val) (o : Option VariableType) (x : Option Val) → in_variable one_type o ≡ Some type.Vector → HoldsIn o gathered x → (longs : List ℤ) × (x ≡ Some (val.Vector longs))
vector_in gathered None x e h = absurd h
vector_in gathered (Some (Collection t)) x e h = absurd (none_some type.Vector e)
vector_in gathered (Some (One t)) None e h = absurd h
vector_in gathered (Some (One t)) (Some (val.Vector longs)) e h = (longs, refl)
vector_in gathered (Some (One t)) (Some (val.Int n)) e h = let k : type.Int ≡ type.Vector = h ∙ some_is (type_by t) type.Vector e in absurd (cc)
vector_in gathered (Some (One t)) (Some (val.Long n)) e h = let k : type.Long ≡ type.Vector = h ∙ some_is (type_by t) type.Vector e in absurd (cc)
vector_in gathered (Some (One t)) (Some (val.Bool b)) e h = let k : type.Boolean ≡ type.Vector = h ∙ some_is (type_by t) type.Vector e in absurd (cc)
vector_in gathered (Some (One t)) (Some val.Unit) e h = let k : type.Void ≡ type.Vector = h ∙ some_is (type_by t) type.Vector e in absurd (cc)

-- the members of a collection that is held
pub members_in : (gathered : List Val) (o : Option VariableType) (x : Option Val) (t : ValueType) → in_variable member_type o ≡ Some t → HoldsIn o gathered x → AreOf t gathered
members_in gathered None x t e h = absurd h
members_in gathered (Some (One s)) x t e h = absurd (none_some t e)
members_in gathered (Some (Collection s)) x t e h = subst (λ u. AreOf u gathered) (some_is (type_by s) t e) h

member_at : (t : ValueType) (gathered : List Val) (k : ℕ) → AreOf t gathered → Has t (slice_get gathered k)
member_at t [] k h = tt
member_at t (v ∷ vs) zero h = h.0
member_at t (v ∷ vs) (suc k) h = member_at t vs k h.1

pub member_found : (t : ValueType) (gathered : List Val) (i : ℤ) → AreOf t gathered → Has t (machine.item_at gathered (machine.at_index i))
member_found t gathered (pos i) h = member_at t gathered i h
member_found t gathered (negsuc i) h = tt

pub long_found : (o : Option ℤ) → Has type.Long (machine.a_long o)
long_found None = tt
long_found (Some n) = refl

pub pushed_types : (v : Val) (stack : List Val) → map type_of (machine.pushed_result v stack) ≡ on_top (type_of v) (map type_of stack)
pushed_types val.Unit stack = refl
pushed_types _ stack = refl

module _ (graph : Graph) (m : GraphMethod) (calls : Calls) (field : Option (List ℕ)) (key : Option ℤ) (gathered : List Val) where
  abbrev pub Does : Instr → ℕ → List Val → List Val → ℕ → Stack → Type 0
  Does i at stack variables turns after = StepFits graph m field gathered i (frame at stack variables turns) after (perform_on (setting_of graph calls field key gathered) i stack (frame at stack variables turns))

  pub load : (v : ℕ) (o : Option VariableType) (x : Option Val) (at : ℕ) (stack variables : List Val) (turns : ℕ) (after : Stack) → HoldsIn o gathered x
      → pushing (in_variable one_type o) (Some (map type_of stack)) ≡ Some after
      → StepFits graph m field gathered (instr.Load v) (frame at stack variables turns) after (machine.pushed (a_value x) stack (frame at stack variables turns))
  load v None x at stack variables turns after h e = absurd h
  load v (Some (Collection t)) x at stack variables turns after h e = absurd (none_some after e)
  load v (Some (One t)) None at stack variables turns after h e = absurd h
  load v (Some (One t)) (Some x) at stack variables turns after h e =
      pushes graph m field gathered (type_by t) (a_value (Some x)) (instr.Load v) at stack variables stack turns after (IsFirst []) none_some false≢true (value_of t x h)
      (sym (on_top_by t (map type_of stack)) ∙ some_is (on_top (type_by t) (map type_of stack)) after e)

  pub store : (v : ℕ) (at : ℕ) (stack variables : List Val) (turns : ℕ) (after : Stack) → length variables ≡ length m.vars
      → stored_type (type_of_variable m v) (map type_of stack) ≡ Some after → Does (instr.Store v) at stack variables turns after
  store v at [] variables turns after room e = let k = (stored_parts (type_of_variable m v) [] after e).2 in absurd (cc)
  store v at (x ∷ stack) variables turns after room e =
      let k = stored_parts (type_of_variable m v) (type_of x ∷ map type_of stack) after e in
      let l = k.2 in
      let same : type_of x ≡ k.0 = cc in
      let is : is_type (type_of_variable m v) x ≡ true = ap (λ p. is_type p x) k.1 ∙ is_same (type_of x) k.0 same in
      let declared = is_declared m v x is in
      let within : v < length variables = omega arith in
      stores graph m field gathered (instr.Store v) at v x (x ∷ stack) variables stack turns after (IsFirst []) (λ w q. some_is v w q) false≢true within (value_holds m gathered v x is) (cc)

  pub pop : (at : ℕ) (stack variables : List Val) (turns : ℕ) (after : Stack) → types_after graph m instr.Pop (map type_of stack) ≡ Some after → Does instr.Pop at stack variables turns after
  pop at [] variables turns after e = none_some after e
  pop at (x ∷ stack) variables turns after e = goes_on graph m field gathered instr.Pop at (x ∷ stack) variables stack turns after (IsFirst []) none_some false≢true (some_is (map type_of stack) after e)

  operated_is : (op : BinOp) (t : OperandType) (a b : Val) → type_of a ≡ operand_type t → type_of b ≡ right_type op t → machine.operated op t a b ≡ operation op a b
  operated_is op t a b e h =
      ap (λ (c : Bool). cond c (cond (same_type (type_of b) (right_type op t)) (operation op a b) None) None) (is_same (type_of a) (operand_type t) e)
      ∙ ap (λ (c : Bool). cond c (operation op a b) None) (is_same (type_of b) (right_type op t) h)

  bin_on : (op : BinOp) (t : OperandType) (of : ValueType) (types : Stack) (at : ℕ) (stack variables : List Val) (turns : ℕ) (after : Stack)
      → map type_of stack ≡ right_type op t ∷ operand_type t ∷ types → binary_type op (operand_type t) (right_type op t) ≡ Some of → on_top of types ≡ after
      → Does (instr.Bin op t) at stack variables turns after
  bin_on op t of types at [] variables turns after e is top = absurd (cc)
  bin_on op t of types at (b ∷ []) variables turns after e is top = absurd (cc)
  bin_on op t of types at (b ∷ a ∷ rest) variables turns after e is top =
      let right : type_of b ≡ right_type op t = cc in
      let left : type_of a ≡ operand_type t = cc in
      let others : map type_of rest ≡ types = cc in
      let given : binary_type op (type_of a) (type_of b) ≡ Some of = ap₂ (λ s r. binary_type op s r) left right ∙ is in
      let has : AnswerHas (Some of) (operation op a b) = subst (λ o. AnswerHas o (operation op a b)) given (operation_has op a b) in
      let value : of ≢ type.Void = λ q. not_binary op (operand_type t) (right_type op t) (is ∙ ap Some q) in
      subst (λ o. StepFits graph m field gathered (instr.Bin op t) (frame at (b ∷ a ∷ rest) variables turns) after (machine.answered o rest (frame at (b ∷ a ∷ rest) variables turns)))
      (sym (operated_is op t a b left right))
      (answers graph m field gathered of (operation op a b) (instr.Bin op t) at (b ∷ a ∷ rest) variables rest turns after (IsFirst []) none_some false≢true has
      (ap (λ us. of ∷ us) others ∙ sym (on_top_is of types value) ∙ top))

  pub binary : (op : BinOp) (t : OperandType) (at : ℕ) (stack variables : List Val) (turns : ℕ) (after : Stack)
      → operated_type op (operand_type t) (right_type op t) (map type_of stack) ≡ Some after → Does (instr.Bin op t) at stack variables turns after
  binary op t at stack variables turns after e =
      let p = pushing_is (binary_type op (operand_type t) (right_type op t)) (without (operand_type t ∷ right_type op t ∷ []) (map type_of stack)) after e in
      bin_on op t p.of p.stack at stack variables turns after (two_off (operand_type t) (right_type op t) (map type_of stack) p.stack p.is_stack) p.is_type p.top

  pub un_op : (op : UnOp) (at : ℕ) (stack variables : List Val) (turns : ℕ) (after : Stack)
      → types_after graph m (instr.Un op) (map type_of stack) ≡ Some after → Does (instr.Un op) at stack variables turns after
  un_op op at [] variables turns after e = none_some after e
  un_op op at (a ∷ rest) variables turns after e =
      let p = pushing_is (unary_type op (type_of a)) (Some (map type_of rest)) after e in
      let value : p.of ≢ type.Void = λ q. not_unary op (type_of a) (p.is_type ∙ ap Some q) in
      pushes graph m field gathered p.of (unary_operation op a) (instr.Un op) at (a ∷ rest) variables rest turns after (IsFirst []) none_some false≢true
      (subst (λ o. ValueHas o (unary_operation op a)) p.is_type (unary_has op a))
      (ap (λ us. p.of ∷ us) (some_is (map type_of rest) p.stack p.is_stack) ∙ sym (on_top_is p.of p.stack value) ∙ p.top)

  pub cast : (t : Num) (at : ℕ) (stack variables : List Val) (turns : ℕ) (after : Stack)
      → types_after graph m (instr.Cast t) (map type_of stack) ≡ Some after → Does (instr.Cast t) at stack variables turns after
  cast num.Int at (val.Int a ∷ rest) variables turns after e = goes_on graph m field gathered (instr.Cast num.Int) at (val.Int a ∷ rest) variables (_ ∷ rest) turns after (IsFirst []) none_some false≢true (some_is (type.Int ∷ map type_of rest) after e)
  cast num.Int at (val.Long a ∷ rest) variables turns after e = goes_on graph m field gathered (instr.Cast num.Int) at (val.Long a ∷ rest) variables (_ ∷ rest) turns after (IsFirst []) none_some false≢true (some_is (type.Int ∷ map type_of rest) after e)
  cast num.Long at (val.Int a ∷ rest) variables turns after e = goes_on graph m field gathered (instr.Cast num.Long) at (val.Int a ∷ rest) variables (_ ∷ rest) turns after (IsFirst []) none_some false≢true (some_is (type.Long ∷ map type_of rest) after e)
  cast num.Long at (val.Long a ∷ rest) variables turns after e = goes_on graph m field gathered (instr.Cast num.Long) at (val.Long a ∷ rest) variables (_ ∷ rest) turns after (IsFirst []) none_some false≢true (some_is (type.Long ∷ map type_of rest) after e)
  cast _ at _ variables turns after e = absurd (none_some after e)

  pub if_false : (to : ℕ) (at : ℕ) (stack variables : List Val) (turns : ℕ) (after : Stack)
      → without (type.Boolean ∷ []) (map type_of stack) ≡ Some after → Does (instr.IfFalse to) at stack variables turns after
  if_false to at (val.Bool true ∷ rest) variables turns after e = goes_on graph m field gathered (instr.IfFalse to) at (val.Bool true ∷ rest) variables rest turns after (IsFirst (to ∷ [])) none_some false≢true (some_is (map type_of rest) after e)
  if_false to at (val.Bool false ∷ rest) variables turns after e = jumps graph m field gathered (instr.IfFalse to) at to (val.Bool false ∷ rest) variables rest turns after (IsLater (suc at) (to ∷ []) (IsFirst [])) none_some false≢true (some_is (map type_of rest) after e)
  if_false to at _ variables turns after e = absurd (none_some after e)

  pub turn : (at : ℕ) (stack variables : List Val) (turns : ℕ) (after : Stack) → Some (map type_of stack) ≡ Some after → Does instr.Turn at stack variables turns after
  turn at stack variables zero after e = (stays _, tt)
  turn at stack variables (suc left) after e = record {
    next = IsFirst [];
    typed = some_is (map type_of stack) after e;
    as_many = refl;
    kept = λ v h. h;
    written = λ v q. absurd (none_some v q);
    turns = omega arith;
    spent = λ q. omega arith;
  }

  pub new_vector : (at : ℕ) (stack variables : List Val) (turns : ℕ) (after : Stack)
      → with_result type.Vector (without (type.Int ∷ []) (map type_of stack)) ≡ Some after → Does instr.NewVector at stack variables turns after
  new_vector at (val.Int (pos n) ∷ rest) variables turns after e = by (nat_lt machine.most_elements n)
    where
      by : (b : Bool) → StepFits graph m field gathered instr.NewVector (frame at (val.Int (pos n) ∷ rest) variables turns) after
          (cond b (machine.ends_at_limit (frame at (val.Int (pos n) ∷ rest) variables turns)) (machine.goes (val.Vector (replicate n (pos 0)) ∷ rest) (frame at (val.Int (pos n) ∷ rest) variables turns)))
      by true = (stays _, tt)
      by false = goes_on graph m field gathered instr.NewVector at (val.Int (pos n) ∷ rest) variables (val.Vector (replicate n (pos 0)) ∷ rest) turns after (IsFirst []) none_some false≢true (some_is (type.Vector ∷ map type_of rest) after e)
  new_vector at (val.Int (negsuc n) ∷ rest) variables turns after e = (stays _, tt)
  new_vector at _ variables turns after e = absurd (none_some after e)
