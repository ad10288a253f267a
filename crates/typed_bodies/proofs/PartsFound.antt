-- What is read of an expression that is a part: its names are plain, and it reads no site.
use Rattle.std.proofs.Common.{◌≡◌, Bool, true, false, not, List, [], ◌++◌, None, refl, ap, ◌∙◌}
use Rattle.sdg_base.specs.declared.value_type.ValueType.TheVariants as type
use Rattle.java_tree.specs.declared.tree.Expr.{Expr}
use Rattle.java_tree.specs.declared.types.ExprType.{ExprType}
use Rattle.java_tree.specs.declared.types.ExprType.TheVariants.{Unknown, Void, Value, Collection, State}
use Rattle.java_tree.specs.declared.types.Declaration.{Declaration}
use Rattle.java_types.specs.declared.walk.Walk.{Walk as TypesWalk}
use Rattle.java_types.specs.Expressions.{expr_walk}
use Rattle.java_types.specs.Fits.{may_be_boolean}
use Rattle.java_types.specs.Statements.{condition}
use Rattle.annotations.specs.declared.position.Position.TheVariants.{Inside}
use Rattle.annotations.specs.declared.walk.Walk.{Walk}
use Rattle.annotations.specs.Expressions as marking
use Rattle.access_blocks.specs.declared.resolved.Resolved.{Resolved}
use Rattle.access_blocks.specs.Cursors.{Cursor, Read}
use Rattle.access_blocks.specs.Resolving.{Resolving, expression_of}
use Rattle.body_code.specs.Typing.{Context, needs, type_of}
use Rattle.body_code.specs.Checking.{Surroundings, are_met}
use Rattle.typed_bodies.specs.Reading.{Place, IsSound, IsOfType, Stands, Follows}
use Rattle.typed_bodies.specs.Needing.{IsWithin}
use Rattle.typed_bodies.specs.Expressions.{IsFound}
use Rattle.typed_bodies.specs.Marking.{Begins, is_state}
use Rattle.typed_bodies.specs.Parts.{IsPart, ReadsPart, Tests}
use Rattle.typed_bodies.specs.Targets.{StandsIn}
use Rattle.typed_bodies.proofs.ExpressionsFollow.{expression_follows}
use Rattle.typed_bodies.proofs.Layers.{boolean_alone}
use Rattle.typed_bodies.proofs.Running.{knows_read, plain_met, is_of_type, both_hold}
use Rattle.typed_bodies.proofs.SitesRead.{ReadsSites, expression_sites}
use Rattle.typed_bodies.proofs.Steps.{unbroken, follows_noted}
use Rattle.typed_bodies.proofs.WholesPut.{plain_no_fields, sites_stay}

-- what is known of what is read of a part
pub record Found (p : Place) (found : ExprType) (r : Resolved) : Type 0 where
  pub same : r.found ≡ found
  pub typed : IsOfType p.context found r.expression
  pub within : IsWithin p (needs r.expression)

module _ {A : Type 0} (p : Place) (found : ExprType) (m : marking.Reading) (reading : Resolving) (sites : ReadsSites reading) (no_state : is_state found ≡ false) (make : Cursor → Resolved → A)
    (Is : A → Type 0) (means : (c : Cursor) (types : List ExprType) (names : List Declaration) → Stands p c types names → (r : Resolved) → Found p found r → Is (make c r)) {w v : TypesWalk}
    (f : Follows p w v reading (IsFound p found m)) where
  abbrev made : Cursor → Read A
  made c = record { it = make c (reading c).it; cursor = (reading c).cursor }

  part_read : (names rest : List Declaration) (types : List ExprType) (c : Cursor) → Stands p c types (names ++ rest) → (reading c).cursor.names ≡ rest → IsFound p found m names (reading c).it → (u : Walk)
      → Begins p (marking.inside m) names u rest → IsPart p Is u (marking.inside m u) rest c (made c)
  part_read names rest types c stand after is u b =
      let begins : Begins p (m.walk Inside None) names u rest = record { agrees = b.agrees; before = b.before; quiet = b.quiet } in
      let plain = is.marked.inside.plain u rest begins no_state in
      record {
        passed = is.marked.inside.passed u rest begins;
        no_sites = sites_stay c (reading c).cursor names rest (sites c) stand.are_names after (plain_no_fields p names plain);
        is = means c types (names ++ rest) stand (reading c).it (record { same = is.same; typed = is.typed plain; within = is.within plain });
      }

  -- a part that is followed is read as it should
  pub part_reads : ReadsPart p Is w v (marking.inside m) made
  part_reads = record {
    added = f.added;
    grows = λ known u quiet.
        let c : Cursor = record { names = f.added.names ++ []; types = f.added.types ++ []; sites = []; variables = p.variables; locals = p.locals } in
        (f.in_step known c [] [] (record { are_types = refl; are_names = refl; are_variables = refl; are_locals = refl })).fits.marked.grows Inside None u quiet;
    behind = λ known c types names stand. let b = (f.in_step known c types names stand).behind in record { are_types = b.are_types; are_names = b.are_names; are_variables = b.are_variables; are_locals = b.are_locals };
    part = λ known c types names stand u b.
        let r = f.in_step known c types names stand in
        part_read f.added.names names (f.added.types ++ types) c stand r.behind.are_names r.fits u b;
  }

-- ---- conditions

not_false : (b : Bool) → not b ≡ false → b ≡ true
not_false true e = refl
not_false false e = absurd (cc)

boolean_no_state : (found : ExprType) → may_be_boolean found ≡ true → is_state found ≡ false
boolean_no_state Unknown e = refl
boolean_no_state Void e = refl
boolean_no_state (Value t) e = refl
boolean_no_state (Collection t) e = refl
boolean_no_state (State class) e = absurd (cc)

module _ (p : Place) (sound : IsSound p) (around : Surroundings) (stands : StandsIn p around) (x : Expr) where
  condition_holds : (found : ExprType) → not (may_be_boolean found) ≡ false → (r : Resolved) → Found p found r → Tests p around r
  condition_holds found fit r is st knows =
      let typed = boolean_alone p found r.expression is.typed fit in
      both_hold (are_met around st (needs r.expression)) _ (plain_met p st around r.expression type.Boolean typed is.within (knows_read p st knows (needs r.expression).variables))
      (is_of_type _ type.Boolean (ap (λ (c : Context). type_of c r.expression) stands.context ∙ typed))

  pub condition_reads : (w : TypesWalk) → (condition p.env x w).findings ≡ [] → ReadsPart p (Tests p around) w (condition p.env x w) (marking.inside (marking.expr_of p.marks x)) (expression_of p.scope x)
  unfolding condition
  condition_reads w quiet =
      let t = expr_walk p.env x false w in
      let u = unbroken (not (may_be_boolean t.found)) w.at 8 t.walk quiet in
      part_reads p t.found (marking.expr_of p.marks x) (expression_of p.scope x) (expression_sites p.scope x) (boolean_no_state t.found (not_false _ u.holds)) (λ c r. r) (Tests p around)
      (λ c types names stand r is. condition_holds t.found u.holds r is) (follows_noted p u (expression_follows p sound x false w u.quiet))
