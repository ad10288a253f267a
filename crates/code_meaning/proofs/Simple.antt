-- The code of simple statements does what they mean.
use Rattle.std.proofs.Common.{◌≡◌, ◌≤◌, ◌<◌, refl, sym, ap, ap₂, subst, ◌∙◌, ℕ, suc, ◌+◌, pos, negsuc, arith, Bool, true, false, cond, ◌||◌, not, nat_lt, List, [], ◌∷◌, ◌++◌, map, length, Option, Some, None, slice_get, slice_set, unwrap_or}
use Rattle.std.specs.List.{AllByRecursion}
use Rattle.std.proofs.lemmas.Bool.{false≢true, lt-ltb}
use Rattle.std.proofs.lemmas.Slice.Eq.{bytes_eq-Decides}
use Rattle.sdg_base.specs.declared.val.Exn.TheVariants as exn
use Rattle.sdg_base.specs.declared.val.Val.{Val}
use Rattle.sdg_base.specs.declared.val.Val.TheVariants as val
use Rattle.sdg_base.specs.declared.val.Outcome.{Outcome}
use Rattle.sdg_base.specs.declared.val.Outcome.TheVariants as outcome
use Rattle.sdg_base.specs.declared.store.ClassName.{ClassName}
use Rattle.sdg_base.specs.declared.store.ClassName.TheVariants as class_name
use Rattle.sdg_base.specs.declared.value_type.ValueType.{ValueType}
use Rattle.sdg_base.specs.declared.value_type.ValueType.TheVariants as type
use Rattle.sdg_base.specs.Signatures.{Signature}
use Rattle.sdg_base.specs.Types as values
use Rattle.state_classes.specs.declared.method.Method.{Method}
use Rattle.state_classes.specs.declared.method.Method.TheVariants as method
use Rattle.state_classes.specs.Methods.{signature}
use Rattle.state_classes.specs.States.{State, class_of, called}
use Rattle.flat_code.specs.declared.graph.Instr.{Instr}
use Rattle.flat_code.specs.declared.graph.Instr.TheVariants as instr
use Rattle.flat_code.specs.Types as flat
use Rattle.flat_code.specs.Types.{same_type, same_types}
use Rattle.flat_code.specs.Machine as machine
use Rattle.flat_code.specs.Machine.{Setting, Frame, Performed, Goes, Accesses, Stopped, Returned, perform_on, pushed_result}
use Rattle.access_blocks.specs.declared.body.Access.{Access}
use Rattle.access_blocks.specs.declared.body.Expression.{Expression}
use Rattle.access_blocks.specs.declared.body.Target.{Target}
use Rattle.access_blocks.specs.declared.body.Target.TheVariants as target
use Rattle.access_blocks.specs.Expressions.{Ended, Gives, Ends, value_of, values_of}
use Rattle.access_blocks.specs.Statements.{Machine, Completion, Normal, Breaks, Continues, Returns, Halts, Completed, completed, normal, seen_by, with_turns, with_variable, with_value, evaluated, with_element, element_set, variable_in, part_of, with_state, targeted, called_on, returned, Running}
use Rattle.access_blocks.specs.Statements as source
use Rattle.body_code.specs.Early.{is_in}
use Rattle.body_code.specs.Typing.{needs, needs_of_all, type_of, types_of, variable_type}
use Rattle.body_code.specs.Codes.{plain, followed_by}
use Rattle.body_code.specs.ExpressionCode.{behind, code_of, codes_of}
use Rattle.body_code.specs.StatementCode.{Place, Exits, Piece, Scope, of_code}
use Rattle.body_code.specs.StatementCode as code
use Rattle.body_code.specs.Checking.{Surroundings, Standing, Around, Checking, with_known, are_met, is_type, takes, takes_all, has_type, is_partitioned, is_access, is_result, is_void, same_number}
use Rattle.body_code.specs.Checking as checking
use Rattle.code_meaning.specs.Laid.{IsLaid, frame, Leads}
use Rattle.code_meaning.specs.Evaluating.{IsValue, HasSame, Evaluates}
use Rattle.code_meaning.specs.Running.{Below, Ground, IsGround, scope_on, FieldsAgree, Agrees, Completes}
use Rattle.code_meaning.proofs.Lists.{none_some, some_is, both_true}
use Rattle.code_meaning.proofs.Values.{same_is, are_same}
use Rattle.code_meaning.proofs.States.{Answers, OutcomeHas, call_answers, call_keeps}
use Rattle.code_meaning.proofs.Running.{laid_two, one_step, one_end, one_stop, one_access, one_refused, stays, leads_to, stops_wider}
use Rattle.code_meaning.proofs.Sizes.{followed_sized, code_sized, codes_sized}
use Rattle.code_meaning.proofs.Operands.{on_stack, variable_has_value, pushed_all, arguments_are}
use Rattle.code_meaning.proofs.Expressions.{EvaluatesAll, expression_right, expressions_right}
use Rattle.code_meaning.proofs.Agreeing.{covers_below, agrees_below, agrees_fewer, agrees_set, variable_within, meets_of, is_type_is, are_types_are, same_number_is}
use Rattle.code_meaning.proofs.Sites.{part_is, class_is, fields_set}
use Rattle.code_meaning.proofs.Completing.{completes_on, completes_wider, completes_to, completes_below, valued_goes, value_goes}
use Rattle.code_meaning.proofs.Growing.{if_so_is, if_then}

-- ---- the types of arguments and results of state methods

Values : Option Signature → Type 0
Values None = Unit {0}
Values (Some sig) = AllByRecursion IsValue sig.arguments

table_values : (k : Method) → Values (signature class_name.Table k)
unfolding Values
table_values method.Get = (tt, tt)
table_values method.Has = (tt, tt)
table_values method.Put = (tt, (tt, tt))
table_values method.Add = (tt, (tt, tt))
table_values method.Remove = (tt, tt)
table_values _ = tt

matrix_values : (k : Method) → Values (signature class_name.Matrix k)
unfolding Values
matrix_values method.GetElement = (tt, (tt, tt))
matrix_values method.SetElement = (tt, (tt, (tt, tt)))
matrix_values method.AddElement = (tt, (tt, (tt, tt)))
matrix_values method.GetRow = (tt, (tt, tt))
matrix_values method.Multiply = (tt, tt)
matrix_values _ = tt

counter_values : (k : Method) → Values (signature class_name.Counter k)
unfolding Values
counter_values method.Add = (tt, tt)
counter_values method.Set = (tt, tt)
counter_values _ = tt

class_values : (c : ClassName) (k : Method) → Values (signature c k)
class_values class_name.Table k = table_values k
class_values class_name.Matrix k = matrix_values k
class_values class_name.Counter k = counter_values k

pub arguments_are_values : (c : ClassName) (k : Method) (sig : Signature) → signature c k ≡ Some sig → AllByRecursion IsValue sig.arguments
unfolding Values
arguments_are_values c k sig is = subst Values is (class_values c k)

pub answers_type : (c : ClassName) (k : Method) (sig : Signature) (args : List Val) (state : State) → class_of state ≡ c → signature c k ≡ Some sig → map values.type_of args ≡ sig.arguments → OutcomeHas sig.result (called k args state).0
answers_type c k sig args state of is has =
    (subst (λ o. Answers o args (called k args state).0) (ap (λ z. signature z k) of ∙ is) (call_answers k args state)) has

length_map : (vs : List Val) → length (map values.type_of vs) ≡ length vs
length_map [] = refl
length_map (v ∷ vs) = ap suc (length_map vs)

-- ---- expressions in statements

module _ {g : Ground} (ground : IsGround g) where
  pub evaluates : {st : Standing} {variables : List Val} {state : State} {m : Machine} → Agrees g st variables state m → (x : Expression) (t : ValueType) (at : ℕ) (stack : List Val)
      → type_of g.around.context x ≡ Some t → are_met g.around st (needs x) ≡ true → IsLaid g.code at ((code_of g.around.context x).from at)
      → Evaluates g.setting g.code (code_of g.around.context x).size (frame at stack variables m.turns) state (at + (code_of g.around.context x).size) stack variables t (value_of g.calls x (seen_by m) m.turns)
  evaluates {st} {variables} {state} {m} h x t at stack is met laid =
      expression_right g.around.context g.calls g.setting g.code g.most ground.calls_agree variables (seen_by m) h.gathers x t at m.turns stack state is (meets_of h (needs x) met) laid h.few

  pub takes_parts : (st : Standing) (x : Expression) (t : ValueType) → takes g.around st x t ≡ true → (are_met g.around st (needs x) ≡ true) × (type_of g.around.context x ≡ Some t)
  takes_parts st x t is = let k = both_true (are_met g.around st (needs x)) (is_type (type_of g.around.context x) t) is in (k.0, is_type_is (type_of g.around.context x) t k.1)

  pub evaluates_taken : {st : Standing} {variables : List Val} {state : State} {m : Machine} → Agrees g st variables state m → (x : Expression) (t : ValueType) (at : ℕ) (stack : List Val)
      → takes g.around st x t ≡ true → IsLaid g.code at ((code_of g.around.context x).from at)
      → Evaluates g.setting g.code (code_of g.around.context x).size (frame at stack variables m.turns) state (at + (code_of g.around.context x).size) stack variables t (value_of g.calls x (seen_by m) m.turns)
  evaluates_taken {st} h x t at stack is laid = let k = takes_parts st x t is in evaluates h x t at stack k.1 k.0 laid

  pub evaluates_all : {st : Standing} {variables : List Val} {state : State} {m : Machine} → Agrees g st variables state m → (xs : List Expression) (ts : List ValueType) (at : ℕ)
      → takes_all g.around st xs ts ≡ true → AllByRecursion IsValue ts → IsLaid g.code at ((codes_of g.around.context xs).from at)
      → EvaluatesAll g.setting g.code (codes_of g.around.context xs).size (frame at [] variables m.turns) state (at + (codes_of g.around.context xs).size) [] variables ts (values_of g.calls xs (seen_by m) m.turns)
  evaluates_all {st} {variables} {state} {m} h xs ts at is value laid =
      let k = both_true (are_met g.around st (needs_of_all xs)) _ is in
      expressions_right g.around.context g.calls g.setting g.code g.most ground.calls_agree variables (seen_by m) h.gathers xs ts at m.turns [] state (are_types_are (types_of g.around.context xs) ts k.1) value (meets_of h (needs_of_all xs) k.0) laid h.few

  -- ---- stores

  pub within : {st : Standing} {variables : List Val} {state : State} {m : Machine} (v : ℕ) (t : ValueType) → variable_type g.around.context v ≡ Some t → Agrees g st variables state m → v < length variables
  within v t is h = let a = variable_within g.around.context v t is in let b = ground.room in let c = h.room in omega arith

  pub stores : {variables : List Val} {state : State} (v : ℕ) (x : Val) (at left : ℕ) (stack : List Val) → v < length variables → slice_get g.code at ≡ Some (instr.Store v)
      → Leads g.setting g.code 1 (frame at (x ∷ stack) variables left) state (frame (at + 1) stack (slice_set variables v x) left) state
  stores {variables} v x at left stack less is =
      let e : suc at ≡ at + 1 = omega arith in
      leads_to g.setting g.code e (one_step g.setting g.code (instr.Store v) is (ap (λ b. cond b (Some (Goes (frame (suc at) stack (slice_set variables v x) left))) None) (lt-ltb v (length variables) less)) (omega arith))

  pub stored_goes : {st : Standing} {variables : List Val} {state : State} {m : Machine} {loop : Around} {exits : Exits} (v : ℕ) (x : Val) (t : ValueType) (at : ℕ) → variable_type g.around.context v ≡ Some t → values.type_of x ≡ t
      → Agrees g st variables state m → slice_get g.code at ≡ Some (instr.Store v)
      → Completes g loop exits 1 (frame at (x ∷ []) variables m.turns) state (at + 1) (with_known v st) (normal (with_variable v x m))
  stored_goes {state = state} v x t at is has h there =
      record { does = record { variables = _; next = state; leads = stores v x at _ [] (within v t is h) there; agrees = agrees_set ground v x t is has h } }

  popped_one : {variables : List Val} {state : State} (t : ValueType) (v : Val) (at left : ℕ) → IsValue t → values.type_of v ≡ t → slice_get g.code at ≡ Some instr.Pop
      → Leads g.setting g.code 1 (frame at (pushed_result v []) variables left) state (frame (at + 1) [] variables left) state
  popped_one {variables} {state} t v at left value has is =
      let e : suc at ≡ at + 1 = omega arith in
      subst (λ st. Leads g.setting g.code 1 (frame at st variables left) state (frame (at + 1) [] variables left) state) (sym (on_stack t v [] value has))
      (leads_to g.setting g.code e (one_step g.setting g.code instr.Pop is refl (omega arith)))

  pub popped : {variables : List Val} {state : State} (t : ValueType) (v : Val) (at left : ℕ) → values.type_of v ≡ t → IsLaid g.code at (code.popped t)
      → Leads g.setting g.code (length (code.popped t)) (frame at (pushed_result v []) variables left) state (frame (at + length (code.popped t)) [] variables left) state
  popped type.Void (val.Int n) at left has laid = absurd (cc)
  popped type.Void (val.Long n) at left has laid = absurd (cc)
  popped type.Void (val.Bool n) at left has laid = absurd (cc)
  popped type.Void (val.Vector n) at left has laid = absurd (cc)
  popped type.Void val.Unit at left has laid = let e : at ≡ at + 0 = omega arith in leads_to g.setting g.code e (stays g.setting g.code)
  popped type.Int v at left has laid = popped_one type.Int v at left tt has laid.0
  popped type.Long v at left has laid = popped_one type.Long v at left tt has laid.0
  popped type.Boolean v at left has laid = popped_one type.Boolean v at left tt has laid.0
  popped type.Vector v at left has laid = popped_one type.Vector v at left tt has laid.0

  -- ---- simple statements

  -- from a standing to another one a piece of code runs as the statement does
  abbrev pub Does : (Around → Standing → Option Standing) → Piece → Running → Type 0
  Does check piece run =
      (loop : Around) (st end : Standing) (p : Place) (exits : Exits) → check loop st ≡ Some end → IsLaid g.code p.at (piece.from p exits)
      → (variables : List Val) (state : State) (m : Machine) → Agrees g st variables state m
      → Completes g loop exits piece.size (frame p.at [] variables m.turns) state (p.at + piece.size) end (run m)

  assigned_is : (v : ℕ) (o : Option ValueType) (met : Bool) (st end : Standing) → checking.assigned g.around v o met st ≡ Some end
      → (t : ValueType) × (o ≡ Some t) × (met ≡ true) × (variable_type g.around.context v ≡ Some t) × (with_known v st ≡ end)
  assigned_is v None met st end is = absurd (none_some end is)
  assigned_is v (Some t) met st end is =
      let k = if_then met (checking.to_variable g.around v t st) end is in
      let l = if_so_is (is_type (variable_type g.around.context v) t) (with_known v st) end k.1 in
      (t, refl, k.0, is_type_is (variable_type g.around.context v) t l.0, l.1)

  pub assign_does : (v : ℕ) (x : Expression)
      → Does (λ loop st. checking.assigned g.around v (type_of g.around.context x) (are_met g.around st (needs x)) st) (of_code (behind (code_of g.around.context x) (instr.Store v)))
      (λ m. evaluated g.calls x m (λ value n. normal (with_variable v value n)))
  assign_does v x loop st end p exits is laid variables state m h =
      let k = assigned_is v (type_of g.around.context x) (are_met g.around st (needs x)) st end is in
      let size = (code_of g.around.context x).size in
      let parts = laid_two g.code p.at size ((code_of g.around.context x).from p.at) (instr.Store v ∷ []) (code_sized g.around.context x p.at) laid in
      let e : p.at + size + 1 ≡ p.at + (size + 1) = omega arith in
      subst (λ z. Completes g loop exits (size + 1) (frame p.at [] variables m.turns) state (p.at + (size + 1)) z (evaluated g.calls x m (λ value n. normal (with_variable v value n)))) k.4
      (completes_to e
      (value_goes (value_of g.calls x (seen_by m) m.turns) m (λ value n. normal (with_variable v value n)) (variable_has_value g.around.context v k.0 k.3) h.fields (evaluates h x k.0 p.at [] k.1 k.2 parts.0)
      (λ w left has l. stored_goes v w k.0 (p.at + size) k.3 has (agrees_fewer left l h) parts.1.0)))

  same_below : (v : ℕ) (st : Standing) → Below (with_known v st) st
  same_below v st = record { known = λ w known. one_more w known; field = λ f is. is; gathered = λ t is. is }
    where
      by : (b c : Bool) → c ≡ true → (b || c) ≡ true
      by true c known = refl
      by false c known = known

      one_more : (w : ℕ) → is_in w st.known ≡ true → is_in w (v ∷ st.known) ≡ true
      one_more w known = by _ (is_in w st.known) known

  -- a vector with another element, where the index isn't outside
  element_goes : {st : Standing} {variables : List Val} {state : State} {m : Machine} {loop : Around} {exits : Exits} (v : ℕ) (vector i x : Val) (at : ℕ) → variable_type g.around.context v ≡ Some type.Vector
      → values.type_of vector ≡ type.Vector → values.type_of i ≡ type.Int → values.type_of x ≡ type.Long → slice_get variables v ≡ Some vector → Agrees g st variables state m → slice_get g.code at ≡ Some (instr.VectorSet v)
      → Completes g loop exits 1 (frame at (x ∷ i ∷ []) variables m.turns) state (at + 1) st (element_set v (with_element vector i x) m)
  element_goes {st} {variables} {state} {m} {loop} {exits} v (val.Vector longs) (val.Int (pos n)) (val.Long x) at is hv hi hx here h there = by (nat_lt n (length longs)) refl
    where
      f : Frame
      f = frame at (val.Long x ∷ val.Int (pos n) ∷ []) variables m.turns

      works : perform_on g.setting (instr.VectorSet v) (val.Long x ∷ val.Int (pos n) ∷ []) (frame at (val.Long x ∷ val.Int (pos n) ∷ []) variables m.turns)
          ≡ machine.set_at v longs (Some n) x [] (frame at (val.Long x ∷ val.Int (pos n) ∷ []) variables m.turns)
      works = ap (λ o. machine.element_set v (machine.a_value o) (val.Int (pos n)) (val.Long x) [] (frame at (val.Long x ∷ val.Int (pos n) ∷ []) variables m.turns)) here

      by : (b : Bool) → nat_lt n (length longs) ≡ b
          → Completes g loop exits 1 (frame at (val.Long x ∷ val.Int (pos n) ∷ []) variables m.turns) state (at + 1) st (element_set v (cond b (Some (val.Vector (slice_set longs n x))) None) m)
      by true less =
          let e : suc at ≡ at + 1 = omega arith in
          let new : Val = val.Vector (slice_set longs n x) in
          let room : v < length variables = within v type.Vector is h in
          let step : perform_on g.setting (instr.VectorSet v) (val.Long x ∷ val.Int (pos n) ∷ []) (frame at (val.Long x ∷ val.Int (pos n) ∷ []) variables m.turns) ≡ Some (Goes (frame (suc at) [] (slice_set variables v (val.Vector (slice_set longs n x))) m.turns)) =
          works ∙ ap (λ b. cond b (machine.stored v (val.Vector (slice_set longs n x)) [] (frame at (val.Long x ∷ val.Int (pos n) ∷ []) variables m.turns)) (machine.throws exn.Index (frame at (val.Long x ∷ val.Int (pos n) ∷ []) variables m.turns))) less
          ∙ ap (λ b. cond b (Some (Goes (frame (suc at) [] (slice_set variables v (val.Vector (slice_set longs n x))) m.turns))) None) (lt-ltb v (length variables) room) in
          completes_below (same_below v st) (record {
            does = record {
              variables = slice_set variables v (val.Vector (slice_set longs n x));
              next = state;
              leads = leads_to g.setting g.code e (one_step g.setting g.code (instr.VectorSet v) there step (omega arith));
              agrees = agrees_set ground v (val.Vector (slice_set longs n x)) type.Vector is refl h;
            };
          })
      by false less = record {
        does = record {
          next = state;
          stops = one_stop g.setting g.code (instr.VectorSet v) there
              (works ∙ ap (λ b. cond b (machine.stored v (val.Vector (slice_set longs n x)) [] (frame at (val.Long x ∷ val.Int (pos n) ∷ []) variables m.turns)) (machine.throws exn.Index (frame at (val.Long x ∷ val.Int (pos n) ∷ []) variables m.turns))) less);
          fields = h.fields;
        };
      }
  element_goes {st} {variables} {state} {m} v (val.Vector longs) (val.Int (negsuc n)) (val.Long x) at is hv hi hx here h there = record {
    does = record {
      next = state;
      stops = one_stop g.setting g.code (instr.VectorSet v) there (ap (λ o. machine.element_set v (machine.a_value o) (val.Int (negsuc n)) (val.Long x) [] (frame at (val.Long x ∷ val.Int (negsuc n) ∷ []) variables m.turns)) here);
      fields = h.fields;
    };
  }
  element_goes v (val.Vector longs) (val.Int n) (val.Int x) at is hv hi hx here h there = absurd (cc)
  element_goes v (val.Vector longs) (val.Int n) (val.Bool x) at is hv hi hx here h there = absurd (cc)
  element_goes v (val.Vector longs) (val.Int n) (val.Vector x) at is hv hi hx here h there = absurd (cc)
  element_goes v (val.Vector longs) (val.Int n) val.Unit at is hv hi hx here h there = absurd (cc)
  element_goes v (val.Vector longs) (val.Long n) x at is hv hi hx here h there = absurd (cc)
  element_goes v (val.Vector longs) (val.Bool n) x at is hv hi hx here h there = absurd (cc)
  element_goes v (val.Vector longs) (val.Vector n) x at is hv hi hx here h there = absurd (cc)
  element_goes v (val.Vector longs) val.Unit x at is hv hi hx here h there = absurd (cc)
  element_goes v (val.Int z) i x at is hv hi hx here h there = absurd (cc)
  element_goes v (val.Long z) i x at is hv hi hx here h there = absurd (cc)
  element_goes v (val.Bool z) i x at is hv hi hx here h there = absurd (cc)
  element_goes v val.Unit i x at is hv hi hx here h there = absurd (cc)

  pub set_element_does : (v : ℕ) (at x : Expression)
      → Does (λ loop st. checking.set_element g.around v at x st) (of_code (behind (followed_by (code_of g.around.context at) (code_of g.around.context x)) (instr.VectorSet v)))
      (λ m. evaluated g.calls at m (λ i n. evaluated g.calls x n (λ value o. element_set v (with_element (variable_in o v) i value) o)))
  set_element_does v at x loop st end p exits is laid variables state m h =
      let a = code_of g.around.context at in
      let b = code_of g.around.context x in
      let top = if_so_is _ st end is in
      let k = both_true (is_type (variable_type g.around.context v) type.Vector) _ top.0 in
      let l = both_true (is_in v st.known) _ k.1 in
      let n = both_true (takes g.around st at type.Int) (takes g.around st x type.Long) l.1 in
      let typed : variable_type g.around.context v ≡ Some type.Vector = is_type_is (variable_type g.around.context v) type.Vector k.0 in
      let known : HasSame g.around.context variables m.variables v = h.known v l.0 in
      let has : values.type_of known.value ≡ type.Vector = known.has_type ∙ some_is known.type type.Vector (sym known.is_type ∙ typed) in
      let outer = laid_two g.code p.at (a.size + b.size) (a.from p.at ++ b.from (p.at + a.size)) (instr.VectorSet v ∷ []) (followed_sized a b (code_sized g.around.context at) (code_sized g.around.context x) p.at) laid in
      let inner = laid_two g.code p.at a.size (a.from p.at) (b.from (p.at + a.size)) (code_sized g.around.context at p.at) outer.0 in
      let e1 : p.at + a.size + b.size + 1 ≡ p.at + (a.size + b.size + 1) = omega arith in
      let e2 : p.at + (a.size + b.size) ≡ p.at + a.size + b.size = omega arith in
      let there : slice_get g.code (p.at + a.size + b.size) ≡ Some (instr.VectorSet v) = subst (λ k. slice_get g.code k ≡ Some (instr.VectorSet v)) e2 outer.1.0 in
      completes_wider (omega arith)
      (completes_to e1
      (value_goes (value_of g.calls at (seen_by m) m.turns) m (λ i n. evaluated g.calls x n (λ value o. element_set v (with_element (variable_in o v) i value) o)) tt h.fields (evaluates_taken h at type.Int p.at [] n.0 inner.0) (λ i left hi less.
      value_goes (value_of g.calls x (seen_by m) left) (with_turns left m) (λ value o. element_set v (with_element (variable_in o v) i value) o) tt (agrees_fewer left less h).fields (evaluates_taken (agrees_fewer left less h) x type.Long (p.at + a.size) (i ∷ []) n.1 inner.1) (λ w rest hw fewer.
      let later : Agrees g st variables state (with_turns rest m) = agrees_fewer rest fewer (agrees_fewer left less h) in
      subst (λ z. Completes g loop exits 1 (frame (p.at + a.size + b.size) (w ∷ i ∷ []) variables rest) state (p.at + a.size + b.size + 1) z (element_set v (with_element (variable_in (with_turns rest m) v) i w) (with_turns rest m))) top.1
      (subst (λ z. Completes g loop exits 1 (frame (p.at + a.size + b.size) (w ∷ i ∷ []) variables rest) state (p.at + a.size + b.size + 1) st (element_set v (with_element z i w) (with_turns rest m))) (sym (ap (λ o. unwrap_or o val.Unit) known.is_there))
      (element_goes v known.value i w (p.at + a.size + b.size) typed has hi hw known.is_here later there))))))

  has_type_is : (o : Option ValueType) → has_type o ≡ true → (t : ValueType) × (o ≡ Some t)
  has_type_is None is = absurd (false≢true is)
  has_type_is (Some t) is = (t, refl)

  dropped_leads : {variables : List Val} {state : State} (o : Option ValueType) (t : ValueType) (v : Val) (at left : ℕ) → o ≡ Some t → values.type_of v ≡ t → IsLaid g.code at (code.dropped o)
      → Leads g.setting g.code (length (code.dropped o)) (frame at (pushed_result v []) variables left) state (frame (at + length (code.dropped o)) [] variables left) state
  dropped_leads None t v at left is has laid = absurd (none_some t is)
  dropped_leads (Some u) t v at left is has laid = popped u v at left (has ∙ sym (some_is u t is)) laid

  pub evaluate_does : (x : Expression)
      → Does (λ loop st. checking.evaluated g.around x st) (of_code (followed_by (code_of g.around.context x) (plain (code.dropped (type_of g.around.context x))))) (λ m. evaluated g.calls x m (λ value n. normal n))
  evaluate_does x loop st end p exits is laid variables state m h =
      let a = code_of g.around.context x in
      let o : Option ValueType = type_of g.around.context x in
      let top = if_so_is _ st end is in
      let k = both_true (are_met g.around st (needs x)) (has_type (type_of g.around.context x)) top.0 in
      let t = has_type_is (type_of g.around.context x) k.1 in
      let parts = laid_two g.code p.at a.size (a.from p.at) (code.dropped (type_of g.around.context x)) (code_sized g.around.context x p.at) laid in
      let e : p.at + a.size + length (code.dropped o) ≡ p.at + (a.size + length (code.dropped o)) = omega arith in
      subst (λ z. Completes g loop exits (a.size + length (code.dropped o)) (frame p.at [] variables m.turns) state (p.at + (a.size + length (code.dropped o))) z (evaluated g.calls x m (λ value n. normal n))) top.1
      (completes_to e
      (valued_goes (value_of g.calls x (seen_by m) m.turns) m (λ value n. normal n) h.fields (evaluates h x t.0 p.at [] t.1 k.0 parts.0) (λ w left has l.
      record { does = record { variables = variables; next = state; leads = dropped_leads o t.0 w (p.at + a.size) left t.1 has parts.1; agrees = agrees_fewer left l h } })))

  -- ---- returns

  void_value : (t : ValueType) → is_void t ≡ false → IsValue t
  void_value type.Int is = tt
  void_value type.Long is = tt
  void_value type.Boolean is = tt
  void_value type.Vector is = tt
  void_value type.Void is = absurd (false≢true (sym is))

  is_void_is : (t : ValueType) → is_void t ≡ true → t ≡ type.Void
  is_void_is type.Void is = refl
  is_void_is type.Int is = absurd (false≢true is)
  is_void_is type.Long is = absurd (false≢true is)
  is_void_is type.Boolean is = absurd (false≢true is)
  is_void_is type.Vector is = absurd (false≢true is)

  not_true : (b : Bool) → not b ≡ true → b ≡ false
  not_true true is = absurd (false≢true is)
  not_true false is = refl

  returns_goes : {variables : List Val} {state : State} {m : Machine} {loop : Around} {exits : Exits} {to : ℕ} {end : Standing} (v : Val) (at : ℕ) → values.type_of v ≡ g.around.result → FieldsAgree g state m
      → slice_get g.code at ≡ Some instr.Return → Completes g loop exits 1 (frame at (v ∷ []) variables m.turns) state to end (completed (Returns v) m)
  returns_goes {variables = variables} {state = state} {m = m} v at has fields is = record {
    does = record {
      last = frame at (v ∷ []) variables m.turns;
      next = state;
      ends = one_end g.setting g.code instr.Return is refl;
      turns = refl;
      falls = omega arith;
      fields = fields;
      of_result = has;
    };
  }

  pub return_does : (x : Option Expression) → Does (λ loop st. checking.returning g.around x st) (of_code (code.returned g.around.context x)) (returned g.calls x)
  return_does None loop st end p exits is laid variables state m h =
      let top = if_so_is (is_void g.around.result) st end is in
      record { does = record { last = frame p.at [] variables m.turns; next = state; ends = one_end g.setting g.code instr.ReturnVoid laid.0 refl; turns = refl; falls = omega arith; fields = h.fields; of_result = sym (is_void_is g.around.result top.0) } }
  return_does (Some x) loop st end p exits is laid variables state m h =
      let a = code_of g.around.context x in
      let top = if_so_is _ st end is in
      let k = both_true (takes g.around st x g.around.result) (not (is_void g.around.result)) top.0 in
      let parts = laid_two g.code p.at a.size (a.from p.at) (instr.Return ∷ []) (code_sized g.around.context x p.at) laid in
      value_goes (value_of g.calls x (seen_by m) m.turns) m (λ v n. completed (Returns v) n) (void_value g.around.result (not_true (is_void g.around.result) k.1)) h.fields (evaluates_taken h x g.around.result p.at [] k.0 parts.0) (λ w left has l.
      returns_goes w (p.at + a.size) has (agrees_fewer left l h).fields parts.1.0)

  pub break_does : Does checking.jumping (code.jump_to (λ exits. exits.break_to)) (λ m. completed Breaks m)
  break_does None st end p exits is laid variables state m h = absurd (none_some end is)
  break_does (Some need) st end p exits is laid variables state m h =
      let below = covers_below st need (if_so_is (checking.covers st need) st end is).0 in
      record { does = record { need = need; in_loop = refl; goes = record { variables = variables; next = state; leads = one_step g.setting g.code (instr.Jump exits.break_to) laid.0 refl (omega arith); agrees = agrees_below below h } } }

  pub continue_does : Does checking.jumping (code.jump_to (λ exits. exits.continue_to)) (λ m. completed Continues m)
  continue_does None st end p exits is laid variables state m h = absurd (none_some end is)
  continue_does (Some need) st end p exits is laid variables state m h =
      let below = covers_below st need (if_so_is (checking.covers st need) st end is).0 in
      record { does = record { need = need; in_loop = refl; goes = record { variables = variables; next = state; leads = one_step g.setting g.code (instr.Jump exits.continue_to) laid.0 refl (omega arith); agrees = agrees_below below h } } }

  -- ---- accesses

  -- after an access, with another state
  agrees_next : {st : Standing} {variables : List Val} {state : State} {m : Machine} (field : ℕ) (on : g.site ≡ Some field) (next : State) → class_of next ≡ class_of state → Agrees g st variables state m → Agrees g st variables next (with_state field next m)
  agrees_next field on next same h = record {
    known = h.known;
    room = h.room;
    room_there = h.room_there;
    few = h.few;
    gathers = record { same = h.gathers.same; members = h.gathers.members; are_values = h.gathers.are_values };
    gathered = h.gathered;
    key = h.key;
    at_site = h.at_site;
    fields = fields_set field on (ground.site_agrees field on) next h.fields same;
  }

  -- what was answered goes to its target
  target_goes : {st : Standing} {variables : List Val} {state : State} {m : Machine} {loop : Around} {exits : Exits} {end : Standing} (to : Target) (t : ValueType) (v : Val) (at : ℕ) → checking.targeted g.around to t st ≡ Some end → values.type_of v ≡ t
      → Agrees g st variables state m → IsLaid g.code at (code.targeted to t)
      → Completes g loop exits (length (code.targeted to t)) (frame at (pushed_result v []) variables m.turns) state (at + length (code.targeted to t)) end (targeted to (outcome.Value v) m)
  target_goes {st} {variables} {state} {m} {loop} {exits} {end} target.Dropped t v at is has h laid =
      subst (λ z. Completes g loop exits (length (code.popped t)) (frame at (pushed_result v []) variables m.turns) state (at + length (code.popped t)) z (normal m)) (some_is st end is)
      (record { does = record { variables = variables; next = state; leads = popped t v at m.turns has laid; agrees = h } })
  target_goes {st} {variables} {state} {m} {loop} {exits} {end} (target.Variable x) t v at is has h laid =
      let k = if_so_is (is_type (variable_type g.around.context x) t) (with_known x st) end is in
      let typed = is_type_is (variable_type g.around.context x) t k.0 in
      subst (λ z. Completes g loop exits 1 (frame at (pushed_result v []) variables m.turns) state (at + 1) z (normal (with_variable x v m))) k.1
      (subst (λ stack. Completes g loop exits 1 (frame at stack variables m.turns) state (at + 1) (with_known x st) (normal (with_variable x v m))) (sym (on_stack t v [] (variable_has_value g.around.context x t typed) has))
      (stored_goes x v t at typed has h laid.0))
  target_goes {st} {variables} {state} {m} {loop} {exits} {end} target.Returned t v at is has h laid =
      let k = if_so_is (is_result g.around t) st end is in
      let l = both_true (same_type t g.around.result) (not (is_void t)) k.0 in
      subst (λ stack. Completes g loop exits 1 (frame at stack variables m.turns) state (at + 1) end (completed (Returns v) m)) (sym (on_stack t v [] (void_value t (not_true (is_void t) l.1)) has))
      (returns_goes v at (has ∙ same_is t g.around.result l.0) h.fields laid.0)

  -- an instruction that calls a method of the field, and then what was answered goes to its target
  answered_goes : {st : Standing} {variables : List Val} {state : State} {m : Machine} {loop : Around} {exits : Exits} {end : Standing} (i : Instr) (method : Method) (field : ℕ) (on : g.site ≡ Some field) (to : Target) (t : ValueType) (args : List Val) (answer : Outcome × State) (at : ℕ)
      → called method args state ≡ answer → checking.targeted g.around to t st ≡ Some end → OutcomeHas t answer.0 → class_of answer.1 ≡ class_of state → Agrees g st variables state m → IsLaid g.code at (i ∷ code.targeted to t)
      → perform_on g.setting i (pushed_all args []) (frame at (pushed_all args []) variables m.turns) ≡ Some (Accesses method args (frame (suc at) [] variables m.turns))
      → Completes g loop exits (1 + length (code.targeted to t)) (frame at (pushed_all args []) variables m.turns) state (suc at + length (code.targeted to t)) end (targeted to answer.0 (with_state field answer.1 m))
  answered_goes i method field on to t args (outcome.Value v, next) at answers is has same h laid does =
      completes_on (one_access g.setting g.code i method args laid.0 does (omega arith) answers) (target_goes to t v (suc at) is has (agrees_next field on next same h) laid.1)
  answered_goes i method field on target.Dropped t args (outcome.Throws x, next) at answers is has same h laid does = record { does = record { next = next; stops = stops_wider g.setting g.code (omega arith) (one_refused g.setting g.code i method args (outcome.Throws x) laid.0 does answers (λ v e. cc)); fields = (agrees_next field on next same h).fields } }
  answered_goes i method field on (target.Variable y) t args (outcome.Throws x, next) at answers is has same h laid does = record { does = record { next = next; stops = stops_wider g.setting g.code (omega arith) (one_refused g.setting g.code i method args (outcome.Throws x) laid.0 does answers (λ v e. cc)); fields = (agrees_next field on next same h).fields } }
  answered_goes i method field on target.Returned t args (outcome.Throws x, next) at answers is has same h laid does = record { does = record { next = next; stops = stops_wider g.setting g.code (omega arith) (one_refused g.setting g.code i method args (outcome.Throws x) laid.0 does answers (λ v e. cc)); fields = (agrees_next field on next same h).fields } }
  answered_goes i method field on target.Dropped t args (outcome.Limit, next) at answers is has same h laid does = record { does = record { next = next; stops = stops_wider g.setting g.code (omega arith) (one_refused g.setting g.code i method args outcome.Limit laid.0 does answers (λ v e. cc)); fields = (agrees_next field on next same h).fields } }
  answered_goes i method field on (target.Variable y) t args (outcome.Limit, next) at answers is has same h laid does = record { does = record { next = next; stops = stops_wider g.setting g.code (omega arith) (one_refused g.setting g.code i method args outcome.Limit laid.0 does answers (λ v e. cc)); fields = (agrees_next field on next same h).fields } }
  answered_goes i method field on target.Returned t args (outcome.Limit, next) at answers is has same h laid does = record { does = record { next = next; stops = stops_wider g.setting g.code (omega arith) (one_refused g.setting g.code i method args outcome.Limit laid.0 does answers (λ v e. cc)); fields = (agrees_next field on next same h).fields } }

  access_is : (a : Access) (o : Option Signature) (st end : Standing) → checking.access g.around a o st ≡ Some end
      → (sig : Signature) × (o ≡ Some sig) × (is_access g.around a sig st ≡ true) × (checking.targeted g.around a.target sig.result st ≡ Some end)
  access_is a None st end is = absurd (none_some end is)
  access_is a (Some sig) st end is = let k = if_then (is_access g.around a sig st) (checking.targeted g.around a.target sig.result st) end is in (sig, refl, k.0, k.1)

  -- the instruction of an access calls the method of the field
  pub access_works : (field : ℕ) (on : g.site ≡ Some field) (k : Method) (sig : Signature) (args : List Val) (f : Frame) → signature (ground.site_agrees field on).holder.class k ≡ Some sig → map values.type_of args ≡ sig.arguments
      → f.stack ≡ pushed_all args []
      → perform_on g.setting (instr.Access (code.field_name (scope_on g) field) k) (pushed_all args []) f ≡ Some (Accesses k args (record { at = suc f.at; stack = []; variables = f.variables; turns = f.turns }))
  access_works field on k sig args f is has stacked =
      let site = ground.site_agrees field on in
      let named = site.named in
      let name : code.field_name (scope_on g) field ≡ named.named.name = ap code.name_in named.is_named in
      let own : machine.is_own_field g.setting.field (code.field_name (scope_on g) field) ≡ true =
      ap₂ machine.is_own_field site.own name ∙ (bytes_eq-Decides named.named.name named.named.name).1 refl in
      let found : flat.signature_at g.setting.fields (code.field_name (scope_on g) field) k ≡ Some sig =
      ap₂ (λ fs n. flat.signature_at fs n k) ground.same_fields name ∙ ap (λ o. flat.signature_in o k) named.only ∙ ap (λ z. signature z k) named.same_class ∙ is in
      let many : length sig.arguments ≡ length args = ap length (sym has) ∙ length_map args in
      let stack : List Val = pushed_all args [] in
      ap (λ b. cond b (machine.access_by k (flat.signature_at g.setting.fields (code.field_name (scope_on g) field) k) (pushed_all args []) f) None) own
      ∙ ap (λ o. machine.access_by k o (pushed_all args []) f) found
      ∙ ap (λ n. machine.access_with k sig (machine.arguments n (pushed_all args [])) f) many
      ∙ ap (λ o. machine.access_with k sig o f) (arguments_are args [])
      ∙ ap (λ b. cond b (Some (Accesses k args (record { at = suc f.at; stack = []; variables = f.variables; turns = f.turns }))) None) (are_same (map values.type_of args) sig.arguments has)

  all_valued_goes : {na nb at to : ℕ} {f : Frame} {variables : List Val} {a : State} {loop : Around} {exits : Exits} {end : Standing} {ts : List ValueType} (x : Ended (List Val)) (m : Machine) (k : List Val → Machine → Completed)
      → FieldsAgree g a m → EvaluatesAll g.setting g.code na f a at [] variables ts x
      → ((vs : List Val) (left : ℕ) → map values.type_of vs ≡ ts → left ≤ f.turns → Completes g loop exits nb (frame at (pushed_all vs []) variables left) a to end (k vs (with_turns left m)))
      → Completes g loop exits (na + nb) f a to end (with_value x m k)
  all_valued_goes (Gives vs left) m k fields q more = completes_on q.does.1 (more vs left q.does.0 q.does.1.falls)
  all_valued_goes {a = a} (Ends h) m k fields q more = record { does = record { next = a; stops = stops_wider g.setting g.code (omega arith) q.does; fields = fields } }

  called_there : (a : Access) (args : List Val) (m : Machine) (state : State) → part_of (slice_get m.fields a.field) m.instance ≡ Some state
      → called_on (part_of (slice_get m.fields a.field) m.instance) a.field a.target a.method args m ≡ targeted a.target (called a.method args state).0 (with_state a.field (called a.method args state).1 m)
  called_there a args m state is = ap (λ o. called_on o a.field a.target a.method args m) is

  pub access_does : (a : Access)
      → Does (λ loop st. checking.access g.around a (checking.signature_of g.around a.field a.method) st) (of_code (code.access (scope_on g) a)) (source.access g.calls a)
  access_does a loop st end p exits is laid variables state m h =
      let top = access_is a (checking.signature_of g.around a.field a.method) st end is in
      let sig = top.0 in
      let k = both_true (same_number st.field (Some a.field)) _ top.2 in
      let l = both_true (sig.keyed || not (is_partitioned (slice_get g.around.fields a.field))) (takes_all g.around st a.args sig.arguments) k.1 in
      let on : g.site ≡ Some a.field = h.at_site a.field (same_number_is st.field (Some a.field) k.0) in
      let site = ground.site_agrees a.field on in
      let signed : signature site.holder.class a.method ≡ Some sig = sym (ap (λ o. checking.signature_in o a.method) site.is_holder) ∙ top.1 in
      let in_graph : code.signature_of (scope_on g) a.field a.method ≡ Some sig = ap (λ o. code.signature_in o a.method) site.named.is_named ∙ ap (λ z. signature z a.method) site.named.same_class ∙ signed in
      let t : ValueType = code.result_of (code.signature_of (scope_on g) a.field a.method) in
      let same : t ≡ sig.result = ap code.result_of in_graph in
      let c = codes_of g.around.context a.args in
      let i = instr.Access (code.field_name (scope_on g) a.field) a.method in
      let parts = laid_two g.code p.at c.size (c.from p.at) (i ∷ code.targeted a.target t) (codes_sized g.around.context a.args p.at) laid in
      let e : suc (p.at + c.size) + length (code.targeted a.target t) ≡ p.at + (c.size + (1 + length (code.targeted a.target t))) = omega arith in
      let z : 1 + length (code.targeted a.target t) ≡ suc (length (code.targeted a.target t)) = omega arith in
      completes_wider (omega arith)
      (completes_to (e ∙ ap (λ n. p.at + (c.size + n)) z)
      (all_valued_goes (values_of g.calls a.args (seen_by m) m.turns) m (λ args n. called_on (part_of (slice_get n.fields a.field) n.instance) a.field a.target a.method args n) h.fields
      (evaluates_all h a.args sig.arguments p.at l.1 (arguments_are_values site.holder.class a.method sig signed) parts.0) (λ vs left has less.
      let later : Agrees g st variables state (with_turns left m) = agrees_fewer left less h in
      subst (λ r. Completes g loop exits (1 + length (code.targeted a.target t)) (frame (p.at + c.size) (pushed_all vs []) variables left) state (suc (p.at + c.size) + length (code.targeted a.target t)) end r)
      (sym (called_there a vs (with_turns left m) state (part_is a.field on site later.fields)))
      (answered_goes i a.method a.field on a.target t vs (called a.method vs state) (p.at + c.size) refl (ap (λ r. checking.targeted g.around a.target r st) same ∙ top.3)
      (subst (λ r. OutcomeHas r (called a.method vs state).0) (sym same) (answers_type site.holder.class a.method sig vs state (class_is a.field on site later.fields) signed has))
      (call_keeps a.method vs state) later parts.1 (access_works a.field on a.method sig vs (frame (p.at + c.size) (pushed_all vs []) variables left) signed has refl)))))
