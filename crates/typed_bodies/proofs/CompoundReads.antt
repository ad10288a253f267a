-- A compound assignment is read as a statement that gives its variable a value.
use Rattle.std.proofs.Common.{◌≡◌, ℕ, List, [], slice_get, Some, sym, ap, subst, ◌∙◌}
use Rattle.sdg_base.specs.declared.operator.BinOp.{BinOp}
use Rattle.java_tree.specs.declared.tree.AssignOp.{AssignOp}
use Rattle.java_tree.specs.declared.tree.CallForm.TheFolds.{fold-roll-Value}
use Rattle.java_tree.specs.declared.tree.Value.{Value, out-Value, roll-out-Value}
use Rattle.java_tree.specs.declared.types.ValueType.{ValueType}
use Rattle.java_tree.specs.declared.types.ExprType.TheVariants as types
use Rattle.java_types.specs.declared.expressions.Operand.{Operand}
use Rattle.java_types.specs.declared.walk.Walk.{Walk as TypesWalk}
use Rattle.java_types.specs.Expressions.{operated, value_walk}
use Rattle.java_types.specs.Fits.{sort_of}
use Rattle.java_types.specs.Simples.{operator_of}
use Rattle.annotations.specs.declared.position.Position.TheVariants.{Inside}
use Rattle.annotations.specs.Expressions as marking
use Rattle.access_blocks.specs.declared.body.Expression.TheVariants as x
use Rattle.access_blocks.specs.declared.resolved.Resolved.{Resolved}
use Rattle.access_blocks.specs.Cursors.{Cursor, value_or_none}
use Rattle.access_blocks.specs.Resolving.{Resolving, Calling, call_step, expr_step, value_step, expression_of, resolved, value_of}
use Rattle.access_blocks.specs.ResolvingStatements.{compound, compounded}
use Rattle.access_blocks.specs.ResolvingStatements as resolving
use Rattle.access_blocks.specs.declared.scope.Scope.{Scope}
use Rattle.body_code.specs.Checking.{Surroundings}
use Rattle.typed_bodies.specs.Reading.{Place, IsSound, Follows}
use Rattle.typed_bodies.specs.Expressions.{IsFound, as_reading}
use Rattle.typed_bodies.specs.Parts.{Changes, ReadsPart}
use Rattle.typed_bodies.specs.PartLaws.{IsVariable}
use Rattle.typed_bodies.specs.Targets.{StandsIn}
use Rattle.typed_bodies.proofs.Compounds.{compound_changes, of_assignment}
use Rattle.typed_bodies.proofs.ExpressionsFollow.{value_follows}
use Rattle.typed_bodies.proofs.Layers.{goes, no_state_second}
use Rattle.typed_bodies.proofs.PartsFound.{part_reads}
use Rattle.typed_bodies.proofs.SitesRead.{expression_sites}

-- a value is read as its expression
value_read : (scope : Scope) (v : Value) → value_of scope v ≡ expression_of scope (out-Value v).expr
value_read scope v =
    ap (λ (z : Value). value_of scope z) (sym (roll-out-Value v)) ∙ fold-roll-Value Calling Resolving Resolving (call_step scope) (expr_step scope) value_step (out-Value v)

module _ (p : Place) (sound : IsSound p) (around : Surroundings) (stands : StandsIn p around) (assign : AssignOp) (op : BinOp) (assigning : operator_of assign ≡ Some op)
    (variable : ℕ) (t : ValueType) (is : IsVariable p variable t) (v : Value) where
  -- the variable as it is read
  variable_read : (c : Cursor) → c.variables ≡ p.variables → resolving.variable c variable ≡ resolved (x.Variable variable) (types.Value t)
  variable_read c same =
      ap (λ (vs : List ValueType). resolved (x.Variable variable) (value_or_none (slice_get vs variable))) same ∙ ap (λ o. resolved (x.Variable variable) (value_or_none o)) is.so_far

  pub compound_reads : (at value_at : ℕ) (w : TypesWalk)
      → (operated op (record { found = types.Value t; at = at }) (record { found = (value_walk p.env v w).given.found; at = value_at }) (value_walk p.env v w).walk).walk.findings ≡ []
      → ReadsPart p (Changes p around variable) w (operated op (record { found = types.Value t; at = at }) (record { found = (value_walk p.env v w).given.found; at = value_at }) (value_walk p.env v w).walk).walk
      ((marking.value_of p.marks v).walk Inside) (compound p.scope op variable v)
  unfolding operated
  compound_reads at value_at w quiet =
      let e = value_walk p.env v w in
      let a : Operand = record { found = types.Value t; at = at } in
      let b : Operand = record { found = e.given.found; at = value_at } in
      let g = goes (sort_of op) at a b e.walk quiet in
      let m = as_reading (marking.value_of p.marks v) in
      let f = subst (λ (s : Resolving). Follows p w e.walk s (IsFound p e.given.found m)) (value_read p.scope v) (value_follows p sound v w g.quiet) in
      part_reads p e.given.found m (expression_of p.scope (out-Value v).expr) (expression_sites p.scope (out-Value v).expr) (no_state_second (sort_of op) (types.Value t) e.given.found g.second)
      (λ c r. compounded op variable (resolving.variable c variable) r) (Changes p around variable)
      (λ c ts names stand r found.
      subst (λ (o : Resolved). Changes p around variable (compounded op variable o r)) (sym (variable_read c stand.are_variables))
      (compound_changes p around stands variable t is op e.given.found r (of_assignment assign op assigning) g.no_vectors g.first g.second found))
      (subst (λ (end : TypesWalk). Follows p w end (expression_of p.scope (out-Value v).expr) (IsFound p e.given.found m)) (sym g.same) f)
