-- What is declared or stands as a simple statement in the header of a loop gathers nothing, where the rules on annotations find nothing.
use Rattle.std.proofs.Common.{◌≡◌, ℕ, Bool, true, false, inr, [], length, Option, Some, None, refl, sym, subst, ◌∙◌}
use Rattle.java_tree.specs.declared.tree.AssignOp.{AssignOp}
use Rattle.java_tree.specs.declared.tree.AssignOp.TheVariants as assign
use Rattle.java_tree.specs.declared.tree.Local.{Local}
use Rattle.java_tree.specs.declared.tree.Simple.{Simple}
use Rattle.java_tree.specs.declared.tree.Simple.TheVariants as simple
use Rattle.java_tree.specs.declared.tree.Value.{Value}
use Rattle.java_tree.specs.declared.types.ValueType.{ValueType}
use Rattle.java_tree.specs.declared.types.ExprType.{ExprType}
use Rattle.java_tree.specs.declared.types.ExprType.TheVariants as types
use Rattle.annotations.specs.declared.position.Position.TheVariants.{Statement as Alone, Whole}
use Rattle.annotations.specs.declared.walk.Awaited.{Awaited}
use Rattle.annotations.specs.declared.walk.Env.{Env}
use Rattle.annotations.specs.declared.walk.Walk.{Walk}
use Rattle.annotations.specs.Walks.{past, named, unmerged_from, unmerged}
use Rattle.annotations.specs.Positions.{assigned_by}
use Rattle.annotations.specs.Expressions.{value_of}
use Rattle.annotations.specs.Simples as walks
use Rattle.annotations.specs.Simples.{gathers, awaiting, simple_walk}
use Rattle.access_blocks.specs.declared.body.Expression.{Expression}
use Rattle.access_blocks.specs.declared.body.Statement.TheOpen as s
use Rattle.access_blocks.specs.declared.body.Statement.TheVariants as statement
use Rattle.access_blocks.specs.declared.body.Target.{Target}
use Rattle.access_blocks.specs.declared.body.Target.TheVariants as target
use Rattle.access_blocks.specs.declared.resolved.Invoked.{Invoked}
use Rattle.access_blocks.specs.declared.resolved.Invoked.TheVariants as invoked
use Rattle.access_blocks.specs.declared.scope.Scope.{Scope}
use Rattle.access_blocks.specs.Cursors.{Cursor}
use Rattle.access_blocks.specs.Cursors as cursors
use Rattle.access_blocks.specs.Resolving.{converted_to}
use Rattle.access_blocks.specs.ResolvingStatements as reads
use Rattle.access_blocks.specs.ResolvingStatements.{put, given_to, value_to, operator_of, declared_type, simple_of}
use Rattle.typed_statements.proofs.Keeping.{keeps_past, keeps_unmerged}
use Rattle.typed_statements.proofs.GlobalRefused.{call_refused, whole_value_alone}
use Rattle.typed_statements.proofs.Gathering.{GathersNone}
use Rattle.typed_statements.proofs.Steps.{noted_findings}

-- ---- by what is read

assigned_none : (v : ℕ) (a : Expression) → GathersNone (statement.Assign v a)
assigned_none v a = record { layer = s.Assign v a; is = statement.rolls-Assign v a; none = refl }

put_none : (to : Target) (a : Expression) → GathersNone (put to a)
put_none target.Dropped a = record { layer = s.Evaluate a; is = statement.rolls-Evaluate a; none = refl }
put_none (target.Variable v) a = assigned_none v a
put_none target.Returned a = record { layer = s.Return (Some a); is = statement.rolls-Return (Some a); none = refl }

given_none : (to : Target) (wanted found : ExprType) (i : Invoked) → GathersNone (given_to false to wanted found i)
given_none to wanted found (invoked.Value a) = put_none to (converted_to wanted found a)
given_none to wanted found (invoked.Sets v at a) = record { layer = s.SetElement v at a; is = statement.rolls-SetElement v at a; none = refl }
given_none to wanted found (invoked.Accesses a) = record { layer = s.Access (record a { target = to }); is = statement.rolls-Access (record a { target = to }); none = refl }

module _ (env : Env) (scope : Scope) where
  whole_none : (to : Target) (wanted : ExprType) (v : Value) (u : Walk) (c : Cursor) → ((value_of env v).walk Whole u).findings ≡ [] → GathersNone (value_to scope to wanted v c).it
  whole_none to wanted v u c q =
      let w = (reads.whole_of scope v c).it in
      subst (λ b. GathersNone (given_to b to wanted w.found w.invoked)) (sym (whole_value_alone env v u q)) (given_none to wanted w.found w.invoked)

  -- ---- simple statements

  assigned_as : (op : AssignOp) (n : ℕ) (v : Value) (u : Walk) (c : Cursor) → ((value_of env v).walk (assigned_by op) u).findings ≡ [] → GathersNone (reads.assigned scope (operator_of op) n v c).it
  assigned_as assign.Assign n v u c q = whole_none (target.Variable n) (cursors.type_of c n) v u c q
  assigned_as assign.Add n v u c q = assigned_none n _
  assigned_as assign.Sub n v u c q = assigned_none n _
  assigned_as assign.Mul n v u c q = assigned_none n _
  assigned_as assign.Div n v u c q = assigned_none n _
  assigned_as assign.Rem n v u c q = assigned_none n _
  assigned_as assign.And n v u c q = assigned_none n _
  assigned_as assign.Or n v u c q = assigned_none n _
  assigned_as assign.Xor n v u c q = assigned_none n _
  assigned_as assign.Shl n v u c q = assigned_none n _
  assigned_as assign.Shr n v u c q = assigned_none n _
  assigned_as assign.UShr n v u c q = assigned_none n _

  pub simple_none : (x : Simple) (u : Walk) (c : Cursor) → u.in_header ≡ true → (simple_walk env x u).findings ≡ [] → GathersNone (simple_of scope x c).it
  simple_none (simple.Assign name op v) u c head q = assigned_as op _ v (past env 1 (named env u)) (cursors.behind_name c) q
  simple_none (simple.PostIncrement name) u c head q = assigned_none _ _
  simple_none (simple.PostDecrement name) u c head q = assigned_none _ _
  simple_none (simple.PreIncrement name) u c head q = assigned_none _ _
  simple_none (simple.PreDecrement name) u c head q = assigned_none _ _
  simple_none (simple.Call true call) u c head q = absurd (call_refused env call Alone u.at (past env 2 u) (inr ((keeps_past env 2 u).in_header ∙ head)) q)
  simple_none (simple.Call false call) u c head q = given_none target.Dropped types.Unknown types.Unknown _

  -- ---- declarations

  awaits_unmerged : (o : Option Awaited) (a : Awaited) (u : Walk) → o ≡ Some a → (unmerged_from o u).findings ≡ [] → ⊥
  awaits_unmerged None a u is q = absurd (cc)
  awaits_unmerged (Some b) a u is q = noted_findings b.token 9 u q

  -- Where the header ends behind it, what waits to be merged is found.
  awaiting_refused : (local at : ℕ) (u : Walk) → (unmerged (awaiting true local at u)).findings ≡ [] → ⊥
  unfolding unmerged awaiting
  awaiting_refused local at u q = noted_findings at 9 _ q

  initialised_none : (at n : ℕ) (t : ValueType) (value : Option Value) (u : Walk) (c : Cursor) → (walks.initialised env false at value u).findings ≡ [] → GathersNone (reads.initialised scope n t value c).it
  initialised_none at n t None u c q = assigned_none n _
  initialised_none at n t (Some v) u c q = whole_none (target.Variable n) (types.Value t) v _ c q

  awaiting_none : (local at : ℕ) (u : Walk) → (awaiting false local at u).findings ≡ u.findings
  unfolding awaiting
  awaiting_none local at u = refl

  local_by : (is_partial : Bool) (l : Local) (local at token : ℕ) (u : Walk) (c : Cursor)
      → (unmerged (awaiting is_partial local at (unmerged (walks.initialised env is_partial token l.value u)))).findings ≡ []
      → GathersNone (reads.initialised scope (length c.variables) (declared_type l.type_name) l.value (cursors.declared is_partial (declared_type l.type_name) c)).it
  local_by true l local at token u c q = absurd (awaiting_refused local at _ q)
  local_by false l local at token u c q =
      initialised_none token (length c.variables) (declared_type l.type_name) l.value u (cursors.declared false (declared_type l.type_name) c)
      ((keeps_unmerged env _).back (sym (awaiting_none local at _) ∙ (keeps_unmerged env _).back q))

  pub local_none : (l : Local) (u : Walk) (c : Cursor) → (unmerged (walks.local env l u)).findings ≡ [] → GathersNone (reads.local scope l c).it
  unfolding walks.local
  local_none l u c q = local_by l.is_partial l (length u.locals) u.at u.at (walks.declared env l.is_partial u.at u) c q
