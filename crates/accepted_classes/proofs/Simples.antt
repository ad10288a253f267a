-- Declarations and statements that are expressions go: the walk adds the calls of the methods that are read of them.
use Rattle.std.proofs.Common.{◌≡◌, ℕ, pos, Bool, true, false, List, [], ◌∷◌, length, Option, Some, None, refl, sym, ap, subst, ◌∙◌}
use Rattle.sdg_base.specs.declared.operator.BinOp.{BinOp}
use Rattle.sdg_base.specs.declared.operator.BinOp.TheVariants as bin
use Rattle.java_tree.specs.declared.tree.AssignOp.{AssignOp}
use Rattle.java_tree.specs.declared.tree.AssignOp.TheVariants as assign
use Rattle.java_tree.specs.declared.tree.CallForm.{CallForm}
use Rattle.java_tree.specs.declared.tree.CallForm.TheOpen.{CallForm-F, Expr-F, Value-F}
use Rattle.java_tree.specs.declared.tree.CallForm.TheOpen as e
use Rattle.java_tree.specs.declared.tree.CallForm.TheFolds.{fold-roll-Expr, fold-roll-Value, map-Value}
use Rattle.java_tree.specs.declared.tree.Expr.{Expr, roll-Expr, out-Expr, roll-out-Expr}
use Rattle.java_tree.specs.declared.tree.Local.{Local}
use Rattle.java_tree.specs.declared.tree.Simple.{Simple}
use Rattle.java_tree.specs.declared.tree.Simple.TheVariants as simple
use Rattle.java_tree.specs.declared.tree.TypeName.{TypeName}
use Rattle.java_tree.specs.declared.tree.Value.{Value as Written, out-Value, roll-out-Value}
use Rattle.java_tree.specs.declared.types.ValueType.{ValueType}
use Rattle.java_tree.specs.declared.types.ValueType.TheVariants.{Int, Long, Boolean, Vector}
use Rattle.java_tree.specs.declared.types.ExprType.{ExprType}
use Rattle.java_tree.specs.declared.types.ExprType.TheVariants.{Unknown, Value}
use Rattle.java_types.specs.declared.walk.Env.{Env}
use Rattle.java_types.specs.declared.walk.Variable.{Variable}
use Rattle.java_types.specs.declared.walk.Walk.{Walk}
use Rattle.java_types.specs.Walks.{past, past_if, noted, named, opened}
use Rattle.java_types.specs.Expressions.{Passing, Reading, Argument, Calling, expr_step, value_step, call_step, expr_walk, value_walk, call_walk}
use Rattle.java_types.specs.Simples.{typed_name, declared, declared_local, put, target, stepped, writes, initialised, local, operator_of, assigned_by, assigned, call_alone, simple_walk}
use Rattle.access_blocks.specs.declared.body.Access.{Access}
use Rattle.access_blocks.specs.declared.body.Expression.{Expression}
use Rattle.access_blocks.specs.declared.body.Expression.TheVariants as x
use Rattle.access_blocks.specs.declared.body.Statement.{Statement}
use Rattle.access_blocks.specs.declared.body.Statement.TheVariants as statement
use Rattle.access_blocks.specs.declared.body.Target.{Target}
use Rattle.access_blocks.specs.declared.body.Target.TheVariants as target
use Rattle.access_blocks.specs.declared.resolved.Invoked.{Invoked}
use Rattle.access_blocks.specs.declared.resolved.Invoked.TheVariants as invoked
use Rattle.access_blocks.specs.declared.resolved.Resolved.{Resolved}
use Rattle.access_blocks.specs.declared.resolved.Whole.{Whole}
use Rattle.access_blocks.specs.declared.scope.Scope.{Scope}
use Rattle.access_blocks.specs.Cursors.{Cursor, Read, read, name_here, behind_name, type_here, variable_of, type_of}
use Rattle.access_blocks.specs.Cursors as cursors
use Rattle.access_blocks.specs.Resolving.{converted_to, resolved, is_long, operated_type, expression_of, call_of}
use Rattle.access_blocks.specs.Resolving as resolving
use Rattle.access_blocks.specs.ResolvingStatements as statements
use Rattle.accepted_classes.proofs.Calls.{Calls, CallsAll, CallsIn, int_calls, long_calls, bool_calls, variable_calls, binary_calls, new_calls, converted_calls, operated_calls, assign_calls, set_calls, evaluate_calls, access_calls, gather_calls, return_calls}
use Rattle.accepted_classes.proofs.Steps.{unchanged, Extends, Still, here, after, noted_still, past_still, past_if_still, opened_still, closed_still, used_still, Goes, unread, before, behind, in_turn}
use Rattle.accepted_classes.proofs.Steps as steps
use Rattle.accepted_classes.proofs.Expressions.{Tells, TellsCall, one_name, operated_still}
use Rattle.accepted_classes.proofs.ExpressionsGo.{expression_goes, call_goes_all}

-- ---- whole values

module _ (P : ℕ → Type 0) (env : Env) (scope : Scope) where
  abbrev pub TellsWhole : Whole → Type 0
  TellsWhole w = TellsCall P w.invoked

  abbrev WholeGoes : Expr → Expr-F CallForm Expr Written → Type 0
  WholeGoes a layer = (w : Walk) → Goes P env w (expr_walk env a false w).walk (statements.whole_in scope a layer) TellsWhole

  abbrev call_layer : CallForm → Reading
  call_layer call = expr_step env (e.Call (call_walk env call))

  call_is : (a : Expr) (call : CallForm) → roll-Expr (e.Call call) ≡ a → call_layer call ≡ expr_walk env a
  call_is a call rolled = sym (fold-roll-Expr Calling Reading Argument (call_step env) (expr_step env) (value_step env) (e.Call call)) ∙ ap (expr_walk env) rolled

  whole_call_goes : (a : Expr) (call : CallForm) → roll-Expr (e.Call call) ≡ a → WholeGoes a (e.Call call)
  whole_call_goes a call rolled w =
      subst (λ (r : Reading). Goes P env w (r false w).walk (statements.whole_call_of scope call) TellsWhole) (call_is a call rolled)
      (before P (opened_still w)
      (behind P
      (steps.made P TellsWhole cursors.behind_type (λ c i. record { invoked = i; found = type_here c }) (λ c. refl) (λ c. unchanged _) (λ c i h. h) (call_goes_all P env scope call (opened w)))
      (after (used_still _ _) (closed_still _ _ _))))

  whole_expression_goes : (a : Expr) (w : Walk) → Goes P env w (expr_walk env a false w).walk (λ c. statements.whole_expression (expression_of scope a c)) TellsWhole
  whole_expression_goes a w = steps.made P TellsWhole (λ c. c) (λ c r. statements.whole_resolved r) (λ c. refl) (λ c. unchanged _) (λ c r h. h) (expression_goes P env scope a false w)

  whole_layer : (a : Expr) (layer : Expr-F CallForm Expr Written) → roll-Expr layer ≡ a → WholeGoes a layer
  whole_layer a (e.Call call) rolled = whole_call_goes a call rolled
  whole_layer a layer rolled = whole_expression_goes a

  abbrev argument_layer : Value-F CallForm Expr Written → Argument
  argument_layer layer = value_step env (map-Value CallForm Expr Written Calling Reading Argument (call_walk env) (expr_walk env) (value_walk env) layer)

  value_is : (v : Written) → argument_layer (out-Value v) ≡ value_walk env v
  value_is v = sym (fold-roll-Value Calling Reading Argument (call_step env) (expr_step env) (value_step env) (out-Value v)) ∙ ap (value_walk env) (roll-out-Value v)

  pub whole_goes : (v : Written) (w : Walk) → Goes P env w (value_walk env v w).walk (statements.whole_of scope v) TellsWhole
  whole_goes v w =
      let a = (out-Value v).expr in
      subst (λ (r : Argument). Goes P env w (r w).walk (statements.whole_of scope v) TellsWhole) (value_is v)
      (before P (past_if_still env (out-Value v).is_global 2 w) (whole_layer a (out-Expr a) (roll-out-Expr a) (past_if env (out-Value v).is_global 2 w)))

  -- the expression of a value
  pub inner_goes : (v : Written) (w : Walk) → Goes P env w (value_walk env v w).walk (expression_of scope (out-Value v).expr) (Tells P)
  inner_goes v w =
      let a = (out-Value v).expr in
      subst (λ (r : Argument). Goes P env w (r w).walk (expression_of scope (out-Value v).expr) (Tells P)) (value_is v)
      (before P (past_if_still env (out-Value v).is_global 2 w) (expression_goes P env scope a false (past_if env (out-Value v).is_global 2 w)))

-- ---- what a value is put to

module _ (P : ℕ → Type 0) where
  put_calls : (to : Target) (a : Expression) → Calls P a → CallsIn P (statements.put to a)
  put_calls target.Dropped a h = evaluate_calls P a h
  put_calls (target.Variable v) a h = assign_calls P v a h
  put_calls target.Returned a h = return_calls P (Some a) h

  accessing_calls : (is_global : Bool) (to : Target) (a : Access) → CallsAll P a.args → CallsIn P (statements.accessing is_global to a)
  accessing_calls true to a h = gather_calls P _ h
  accessing_calls false to a h = access_calls P _ h

  pub given_calls : (is_global : Bool) (to : Target) (wanted found : ExprType) (i : Invoked) → TellsCall P i → CallsIn P (statements.given_to is_global to wanted found i)
  given_calls is_global to wanted found (invoked.Value a) h = put_calls to (converted_to wanted found a) (converted_calls P wanted found a h)
  given_calls is_global to wanted found (invoked.Sets v at a) h = set_calls P v at a h.0 h.1
  given_calls is_global to wanted found (invoked.Accesses a) h = accessing_calls is_global to a h

  start_calls : (t : ValueType) → Calls P (statements.start_expression t)
  start_calls Int = int_calls P (pos 0)
  start_calls Long = long_calls P (pos 0)
  start_calls Boolean = bool_calls P false
  start_calls Vector = new_calls P (x.Int (pos 0)) (int_calls P (pos 0))

  one_calls : (long : Bool) → Calls P (statements.one long)
  one_calls true = long_calls P (pos 1)
  one_calls false = int_calls P (pos 1)

  step_calls : (op : BinOp) (v : ℕ) (t : ExprType) → CallsIn P (statements.step_of op v t)
  step_calls op v t = assign_calls P v _ (binary_calls P op (x.Variable v) (statements.one (is_long t)) (variable_calls P v) (one_calls (is_long t)))

  compounded_calls : (op : BinOp) (v : ℕ) (old a : Resolved) → Calls P old.expression → Calls P a.expression → CallsIn P (statements.compounded op v old a)
  compounded_calls op v old a h k =
      assign_calls P v _ (converted_calls P old.found (operated_type op old.found a.found) (resolving.operated op old a) (operated_calls P op old a h k))

-- ---- rules add no name and no call

pub typed_name_still : (env : Env) (at : ℕ) (name : TypeName) (w : Walk) → Still w (typed_name env at name w).walk
unfolding typed_name
typed_name_still env at name w = after (noted_still _ w.at 3 w) (after (noted_still _ at 5 _) (past_still env 1 _))

pub declared_still : (env : Env) (at : ℕ) (name : List ℕ) (v : Variable) (w : Walk) → Still w (declared env at name v w)
unfolding declared
declared_still env at name v w =
    let n = noted_still _ at 2 w in
    after (record { back = n.back; names = n.names; caller = n.caller; calls = n.calls }) (past_still env 1 _)

declared_local_still : (env : Env) (at : ℕ) (name : List ℕ) (t : ExprType) (w : Walk) → Still w (declared_local env at name t w)
unfolding declared_local
declared_local_still env at name t w = after (record { back = λ q. q; names = refl; caller = refl; calls = refl }) (declared_still env at name _ _)

put_still : (wanted : ExprType) (p : Passing) (a : Expr) (at : ℕ) → Still p.walk (put wanted p a at)
unfolding put
put_still wanted p a at = after (noted_still _ at 7 p.walk) (noted_still _ at 10 _)

assigned_by_still : (op : Option BinOp) (at : ℕ) (v : Option Variable) (value_at : ℕ) (a : Expr) (p : Passing) → Still p.walk (assigned_by op at v value_at a p)
assigned_by_still None at v value_at a p = after (noted_still _ at 10 p.walk) (put_still _ _ a value_at)
assigned_by_still (Some op) at v value_at a p = operated_still op _ _ p.walk

target_still : (env : Env) (at : ℕ) (name : List ℕ) (w : Walk) → Still (named env name w).walk (target env at name w).walk
unfolding target
target_still env at name w = noted_still _ at 9 _

-- ---- declarations and statements

module _ (P : ℕ → Type 0) (env : Env) (scope : Scope) where
  abbrev pub Simply : Walk → Walk → (Cursor → Read Statement) → Type 0
  Simply w v reading = Goes P env w v reading (CallsIn P)

  -- a value for a target that the cursor before tells
  pub value_to_goes : (v : Written) (to : Target) (wanted : ExprType) (w : Walk) → Simply w (value_walk env v w).walk (statements.value_to scope to wanted v)
  value_to_goes v to wanted w =
      steps.made P (CallsIn P) (λ c. c) (λ c whole. statements.given_to (out-Value v).is_global to wanted whole.found whole.invoked) (λ c. refl) (λ c. unchanged _)
      (λ c whole h. given_calls P (out-Value v).is_global to wanted whole.found whole.invoked h) (whole_goes P env scope v w)

  more_variables : (is_partial : Bool) (t : ValueType) (c : Cursor) → Extends c.variables (cursors.declared is_partial t c).variables
  more_variables true t c = unchanged _
  more_variables false t c = record { more = t ∷ []; is = refl }

  initialised_goes : (is_partial : Bool) (t : ValueType) (wanted : ExprType) (v : Option Written) (w : Walk)
      → Simply w (initialised env wanted v w) (λ c. statements.initialised scope (length c.variables) t v (cursors.declared is_partial t c))
  initialised_goes is_partial t wanted None w =
      unread P w (λ c. read (statement.Assign (length c.variables) (statements.start_expression t)) (cursors.declared is_partial t c)) (CallsIn P) (λ c. refl) (more_variables is_partial t)
      (λ c. assign_calls P (length c.variables) (statements.start_expression t) (start_calls P t))
  initialised_goes is_partial t wanted (Some v) w =
      before P (past_still env 1 w)
      (behind P
      (steps.made P (CallsIn P) (cursors.declared is_partial t) (λ c whole. statements.given_to (out-Value v).is_global (target.Variable (length c.variables)) (Value t) whole.found whole.invoked) (λ c. refl) (more_variables is_partial t)
      (λ c whole h. given_calls P (out-Value v).is_global (target.Variable (length c.variables)) (Value t) whole.found whole.invoked h) (whole_goes P env scope v (past env 1 w)))
      (put_still wanted (value_walk env v (past env 1 w)) (out-Value v).expr (past env 1 w).at))

  pub local_goes : (l : Local) (w : Walk) → Simply w (local env l w) (statements.local scope l)
  unfolding local
  local_goes l w =
      let t = typed_name env w.at l.type_name (past_if env l.is_partial 2 w) in
      before P (after (past_if_still env l.is_partial 2 w) (after (typed_name_still env w.at l.type_name _) (declared_local_still env w.at l.name t.found t.walk)))
      (initialised_goes l.is_partial (statements.declared_type l.type_name) t.found l.value (declared_local env w.at l.name t.found t.walk))

  -- the variable whose name comes first
  abbrev named_here : Cursor → ℕ
  named_here c = variable_of c (name_here c)

  -- the name of the variable that is assigned
  target_goes : (at : ℕ) (name : List ℕ) (w : Walk) → Goes P env w (target env at name w).walk (λ c. read tt (behind_name c)) (λ (u : Unit {0}). Unit {0})
  target_goes at name w = behind P (one_name P env name w) (target_still env at name w)

  step_goes : (op : BinOp) (at : ℕ) (name : List ℕ) (w : Walk) → Simply w (stepped env at name w) (statements.stepped op)
  unfolding stepped
  step_goes op at name w =
      behind P
      (steps.made P (CallsIn P) (λ c. c) (λ c u. statements.step_of op (named_here c) (type_of c (named_here c))) (λ c. refl) (λ c. unchanged _)
      (λ c u h. step_calls P op (named_here c) (type_of c (named_here c))) (target_goes at name w))
      (noted_still _ w.at 7 _)

  assigned_reading : (op : Option BinOp) (name : List ℕ) (v : Written) (at value_at : ℕ) (t : Option Variable) (w : Walk)
      → Simply w (assigned_by op at t value_at (out-Value v).expr (value_walk env v (past env 1 (target env at name w).walk)))
      (λ c. statements.assigned scope op (named_here c) v (behind_name c))
  assigned_reading None name v at value_at t w =
      let w1 = (target env at name w).walk in
      behind P
      (in_turn P (CallsIn P) (λ c. c)
      (λ c (u : Unit {0}) whole. statements.given_to (out-Value v).is_global (target.Variable (named_here c)) (type_of (behind_name c) (named_here c)) whole.found whole.invoked) (λ c. refl) (λ c. unchanged _)
      (λ c u whole h k. given_calls P (out-Value v).is_global (target.Variable (named_here c)) (type_of (behind_name c) (named_here c)) whole.found whole.invoked k)
      (target_goes at name w) (before P (past_still env 1 w1) (whole_goes P env scope v (past env 1 w1))))
      (assigned_by_still None at t value_at (out-Value v).expr (value_walk env v (past env 1 w1)))
  assigned_reading (Some op) name v at value_at t w =
      let w1 = (target env at name w).walk in
      behind P
      (in_turn P (CallsIn P) (λ c. c)
      (λ c (u : Unit {0}) a. statements.compounded op (named_here c) (statements.variable (behind_name c) (named_here c)) a) (λ c. refl) (λ c. unchanged _)
      (λ c u a h k. compounded_calls P op (named_here c) (statements.variable (behind_name c) (named_here c)) a (variable_calls P (named_here c)) k)
      (target_goes at name w) (before P (past_still env 1 w1) (inner_goes P env scope v (past env 1 w1))))
      (assigned_by_still (Some op) at t value_at (out-Value v).expr (value_walk env v (past env 1 w1)))

  operator_is : (op : AssignOp) → operator_of op ≡ statements.operator_of op
  operator_is assign.Assign = refl
  operator_is assign.Add = refl
  operator_is assign.Sub = refl
  operator_is assign.Mul = refl
  operator_is assign.Div = refl
  operator_is assign.Rem = refl
  operator_is assign.And = refl
  operator_is assign.Or = refl
  operator_is assign.Xor = refl
  operator_is assign.Shl = refl
  operator_is assign.Shr = refl
  operator_is assign.UShr = refl

  assigned_goes : (name : List ℕ) (op : AssignOp) (v : Written) (w : Walk) → Simply w (assigned env name op v w) (λ c. statements.assigned scope (statements.operator_of op) (named_here c) v (behind_name c))
  unfolding assigned
  assigned_goes name op v w =
      let t = target env w.at name w in
      subst (λ (o : Option BinOp). Simply w (assigned env name op v w) (λ c. statements.assigned scope o (named_here c) v (behind_name c))) (operator_is op)
      (assigned_reading (operator_of op) name v w.at (past env 1 t.walk).at t.variable w)

  call_alone_goes : (is_global : Bool) (call : CallForm) (w : Walk) → Simply w (call_alone env is_global call w) (statements.called_alone scope is_global call)
  unfolding call_alone
  call_alone_goes is_global call w =
      let g = past_if env is_global 2 w in
      let n = noted (writes env g call) w.at 10 g in
      before P (after (past_if_still env is_global 2 w) (after (noted_still (writes env g call) w.at 10 g) (opened_still n)))
      (behind P
      (steps.made P (CallsIn P) cursors.behind_type (λ c i. statements.given_to is_global target.Dropped Unknown Unknown i) (λ c. refl) (λ c. unchanged _)
      (λ c i h. given_calls P is_global target.Dropped Unknown Unknown i h) (call_goes_all P env scope call (opened n)))
      (closed_still _ _ _))

  pub simple_goes : (a : Simple) (w : Walk) → Simply w (simple_walk env a w) (statements.simple_of scope a)
  simple_goes (simple.Assign name op v) w = assigned_goes name op v w
  simple_goes (simple.PostIncrement name) w = behind P (step_goes bin.Add w.at name w) (past_still env 1 _)
  simple_goes (simple.PostDecrement name) w = behind P (step_goes bin.Sub w.at name w) (past_still env 1 _)
  simple_goes (simple.PreIncrement name) w = before P (past_still env 1 w) (step_goes bin.Add w.at name (past env 1 w))
  simple_goes (simple.PreDecrement name) w = before P (past_still env 1 w) (step_goes bin.Sub w.at name (past env 1 w))
  simple_goes (simple.Call is_global call) w = call_alone_goes is_global call w
