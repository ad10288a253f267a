-- Declarations and simple statements: in the header of a loop they are no accesses where the rules on annotations find nothing.
use Rattle.std.proofs.Common.{◌≡◌, ℕ, zero, suc, Bool, true, false, not, ◌&&◌, List, [], ◌∷◌, ◌++◌, length, map, fold, nat_eq, Option, Some, None, if◌then◌else◌, refl, sym, ap, subst, ◌∙◌}
use Rattle.sdg_base.specs.declared.operator.BinOp.{BinOp}
use Rattle.sdg_base.specs.declared.operator.BinOp.TheVariants as bin
use Rattle.java_tree.specs.declared.tree.Local.{Local}
use Rattle.java_tree.specs.declared.tree.Simple.{Simple}
use Rattle.java_tree.specs.declared.tree.Simple.TheVariants as simple
use Rattle.java_tree.specs.declared.tree.Value.{Value, out-Value}
use Rattle.java_tree.specs.declared.tree.CallForm.{CallForm}
use Rattle.java_tree.specs.declared.types.ValueType.{ValueType}
use Rattle.java_tree.specs.declared.types.ExprType.{ExprType}
use Rattle.java_tree.specs.declared.types.ExprType.TheVariants as types
use Rattle.annotations.specs.declared.position.Position.{Position}
use Rattle.annotations.specs.declared.position.Position.TheVariants.{Statement as Alone}
use Rattle.annotations.specs.declared.walk.Env.{Env}
use Rattle.annotations.specs.declared.walk.Walk.{Walk}
use Rattle.annotations.specs.Walks.{past, past_if, past_none, token_if, noted, named, unmerged}
use Rattle.annotations.specs.Positions.{assigned_by, initialiser_of}
use Rattle.annotations.specs.Expressions.{value_of, call_of}
use Rattle.annotations.specs.Simples as walks
use Rattle.annotations.specs.Simples.{gathers, awaiting, simple_walk, simples}
use Rattle.access_blocks.specs.declared.body.Expression.{Expression}
use Rattle.access_blocks.specs.declared.body.Statement.{Statement}
use Rattle.access_blocks.specs.declared.body.Statement.TheOpen as s
use Rattle.access_blocks.specs.declared.body.Statement.TheVariants as statement
use Rattle.access_blocks.specs.declared.body.Target.TheVariants as target
use Rattle.access_blocks.specs.declared.scope.Scope.{Scope}
use Rattle.access_blocks.specs.Cursors.{Cursor, Read, type_here, behind_type, name_here, behind_name, variable_of, type_of}
use Rattle.access_blocks.specs.Cursors as cursors
use Rattle.access_blocks.specs.Resolving as reads
use Rattle.access_blocks.specs.Resolving.{Resolving, expression_of}
use Rattle.access_blocks.specs.ResolvingStatements as stating
use Rattle.access_blocks.specs.ResolvingStatements.{Stating, start_expression, declared_type, operator_of, listed, simple_of, step_of}
use Rattle.resolved_bodies.specs.Together.{AreTogether, Goes}
use Rattle.resolved_bodies.proofs.Going.{here, further, going_past, going_past_if, going_noted, going_named, going_unmerged}
use Rattle.resolved_bodies.proofs.ExpressionsGo.{value_goes, call_goes}
use Rattle.resolved_bodies.proofs.CallsInHeaders.{call_in_header}
use Rattle.resolved_bodies.proofs.Heading.{IsRight, HasNone, AreRight, HaveNone, right_as, none_as, right_with, none_with}
use Rattle.resolved_bodies.proofs.ValuesGo.{States, given_right, given_none, value_states, value_read}

module _ (env : Env) (scope : Scope) where
  -- what goes on before and behind a statement
  pub stated_behind : {w v u : Walk} {c k : Cursor} {r : Read Statement} → Goes env w v c k → States env scope v u k r → States env scope w u c r
  stated_behind g a = record {
    goes = further env g a.goes;
    right = a.right;
    none = λ together quiet in_header. a.none (g.together together) quiet (g.stays ∙ in_header);
  }

  pub then_goes : {w v u : Walk} {c : Cursor} {r : Read Statement} → States env scope w v c r → Goes env v u r.cursor r.cursor → States env scope w u c r
  then_goes a g = record {
    goes = further env a.goes g;
    right = a.right;
    none = λ together quiet in_header. a.none together (g.grows quiet) in_header;
  }

  -- ---- declarations

  going_declared : (is_partial : Bool) (at : ℕ) (t : ValueType) (w : Walk) (c : Cursor) → Goes env w (walks.declared env is_partial at w) c (cursors.declared is_partial t c)
  unfolding walks.declared
  going_declared is_partial at t w c =
      let u = record w { locals = w.locals ++ token_if is_partial at ∷ [] } in
      let g = further env (going_past_if env is_partial 2 u c) (going_past env 2 _ c) in
      record { grows = g.grows; stays = g.stays; together = g.together }

  awaiting_goes : (is_partial : Bool) (local at : ℕ) (w : Walk) (c : Cursor) → Goes env w (awaiting is_partial local at w) c c
  unfolding awaiting
  awaiting_goes true local at w c = record { grows = λ q. q; stays = refl; together = λ t. t }
  awaiting_goes false local at w c = here env w c

  initialised_states : (is_partial : Bool) (at v : ℕ) (t : ValueType) (value : Option Value) (w : Walk) (c : Cursor)
      → States env scope w (walks.initialised env is_partial at value w) c (stating.initialised scope v t value c)
  initialised_states is_partial at v t None w c = record {
    goes = going_noted env is_partial at 7 w c;
    right = right_as (s.Assign v (start_expression t)) (statement.rolls-Assign v (start_expression t)) refl;
    none = λ together quiet in_header. none_as (s.Assign v (start_expression t)) (statement.rolls-Assign v (start_expression t)) refl;
  }
  initialised_states is_partial at v t (Some value) w c =
      let b = past env 1 w in
      stated_behind (further env (going_past env 1 w c) (going_noted env (is_partial && not (gathers env b value)) at 7 b c))
      (value_states env scope (target.Variable v) (types.Value t) value (initialiser_of is_partial) _ c)

  pub local_states : (l : Local) (w : Walk) (c : Cursor) → States env scope w (walks.local env l w) c (stating.local scope l c)
  unfolding walks.local
  local_states l w c =
      let t = declared_type l.type_name in
      then_goes (then_goes (stated_behind (going_declared l.is_partial w.at t w c) (initialised_states l.is_partial w.at (length c.variables) t l.value _ (cursors.declared l.is_partial t c)))
      (going_unmerged env _ _)) (awaiting_goes l.is_partial (length w.locals) w.at _ _)

  -- ---- simple statements

  -- an assignment of what is no whole
  plain_states : {w v : Walk} {c : Cursor} (r : Read Statement) (n : ℕ) (a : Expression) → r.it ≡ statement.Assign n a → Goes env w v c r.cursor → States env scope w v c r
  plain_states r n a is goes = record {
    goes = goes;
    right = subst IsRight (sym is) (right_as (s.Assign n a) (statement.rolls-Assign n a) refl);
    none = λ together quiet in_header. subst HasNone (sym is) (none_as (s.Assign n a) (statement.rolls-Assign n a) refl);
  }

  stepped_states : (op : BinOp) (v : Walk) (w : Walk) (c : Cursor) → Goes env w v c (behind_name c) → States env scope w v c (stating.stepped op c)
  stepped_states op v w c goes = plain_states (stating.stepped op c) _ _ refl goes

  assigned_states : (op : Option BinOp) (position : Position) (n : ℕ) (v : Value) (w : Walk) (c : Cursor)
      → States env scope w ((value_of env v).walk position w) c (stating.assigned scope op n v c)
  assigned_states None position n v w c = value_states env scope (target.Variable n) (type_of c n) v position w c
  assigned_states (Some op) position n v w c =
      let g = value_goes env scope v position w c in
      plain_states (stating.assigned scope (Some op) n v c) _ _ refl (subst (λ (r : Resolving). Goes env w ((value_of env v).walk position w) c (r c).cursor) (value_read env scope v) g)

  call_states : (is_global : Bool) (call : CallForm) (w : Walk) (c : Cursor) → States env scope w (walks.call_alone env is_global call w) c (stating.called_alone scope is_global call c)
  call_states is_global call w c =
      let p = going_past_if env is_global 2 w c in
      let g = call_goes env scope call Alone (token_if is_global w.at) (past_if env is_global 2 w) (behind_type c) in
      record {
        goes = record { grows = λ q. p.grows (g.grows q); stays = g.stays ∙ p.stays; together = λ t. g.together (p.together t) };
        right = given_right is_global target.Dropped types.Unknown types.Unknown _;
        none = λ together quiet in_header.
            given_none is_global target.Dropped types.Unknown types.Unknown _
            (call_in_header env scope call Alone (token_if is_global w.at) (past_if env is_global 2 w) (behind_type c) (p.together together) quiet (p.stays ∙ in_header));
      }

  pub simple_states : (x : Simple) (w : Walk) (c : Cursor) → States env scope w (simple_walk env x w) c (simple_of scope x c)
  simple_states (simple.Assign name op v) w c =
      stated_behind (further env (going_named env w c) (going_past env 1 _ _)) (assigned_states (operator_of op) (assigned_by op) (variable_of c (name_here c)) v _ (behind_name c))
  simple_states (simple.PostIncrement name) w c = stepped_states bin.Add _ w c (further env (going_named env w c) (going_past env 1 _ _))
  simple_states (simple.PostDecrement name) w c = stepped_states bin.Sub _ w c (further env (going_named env w c) (going_past env 1 _ _))
  simple_states (simple.PreIncrement name) w c = stepped_states bin.Add _ w c (further env (going_past env 1 w c) (going_named env _ c))
  simple_states (simple.PreDecrement name) w c = stepped_states bin.Sub _ w c (further env (going_past env 1 w c) (going_named env _ c))
  simple_states (simple.Call is_global call) w c = call_states is_global call w c

  -- ---- lists of them in the header of a loop

  -- what is read there after the statements before
  pub record Lists (w v : Walk) (before after : Read (List Statement)) : Type 0 where
    pub goes : Goes env w v before.cursor after.cursor
    pub right : AreRight before.it → AreRight after.it
    pub none : AreTogether env w before.cursor → v.findings ≡ [] → w.in_header ≡ true → HaveNone before.it → HaveNone after.it

  pub list_here : (w : Walk) (r : Read (List Statement)) → Lists w w r r
  list_here w r = record { goes = here env w r.cursor; right = λ a. a; none = λ t q h a. a }

  pub list_one : {w v : Walk} (before : Read (List Statement)) (part : Stating) → States env scope w v before.cursor (part before.cursor) → Lists w v before (listed before part)
  list_one before part a = record {
    goes = a.goes;
    right = λ all. right_with before.it (part before.cursor).it all a.right;
    none = λ together quiet in_header all. none_with before.it (part before.cursor).it all (a.none together quiet in_header);
  }

  pub list_further : {w v u : Walk} {a b c : Read (List Statement)} → Lists w v a b → Lists v u b c → Lists w u a c
  list_further x y = record {
    goes = further env x.goes y.goes;
    right = λ all. y.right (x.right all);
    none = λ together quiet in_header all. y.none (x.goes.together together) quiet (x.goes.stays ∙ in_header) (x.none together (y.goes.grows quiet) in_header all);
  }

  pub list_then : {w v u : Walk} {a b : Read (List Statement)} → Lists w v a b → Goes env v u b.cursor b.cursor → Lists w u a b
  list_then x g = record {
    goes = further env x.goes g;
    right = x.right;
    none = λ together quiet in_header all. x.none together (g.grows quiet) in_header all;
  }

  each_listed : (all : List Simple) (w : Walk) (before : Read (List Statement)) → Lists w (fold (λ w s. simple_walk env s (past env 1 w)) w all) before (fold listed before (map (simple_of scope) all))
  each_listed [] w before = list_here w before
  each_listed (x ∷ all) w before =
      list_further (list_one before (simple_of scope x) (stated_behind (going_past env 1 w before.cursor) (simple_states x _ before.cursor)))
      (each_listed all _ (listed before (simple_of scope x)))

  pub simples_listed : (all : List Simple) (w : Walk) (before : Read (List Statement)) → Lists w (simples env all w) before (fold listed before (map (simple_of scope) all))
  unfolding simples
  simples_listed all w before = list_then (each_listed all w before) (going_past_if env (nat_eq (length all) 0) 1 _ _)
