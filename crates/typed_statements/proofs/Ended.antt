-- From a point to the end of a statement: whole values that went to their targets, and changes of variables, are stated there.
use Rattle.std.proofs.Common.{◌≡◌, ℕ, ◌<◌, Bool, List, [], ◌++◌, length, drop, None, sym, ap, ◌∙◌, append-nil}
use Rattle.java_tree.specs.declared.types.ExprType.{ExprType}
use Rattle.java_tree.specs.declared.types.Declaration.{Declaration}
use Rattle.java_types.specs.declared.statements.Around.{Around}
use Rattle.java_types.specs.declared.walk.Walk.{Walk}
use Rattle.annotations.specs.declared.site.Site.{Site}
use Rattle.annotations.specs.declared.walk.Walk.{Walk as MarkingWalk}
use Rattle.annotations.specs.Walks.{unmerged}
use Rattle.access_blocks.specs.declared.body.Statement.{Statement}
use Rattle.access_blocks.specs.declared.body.Target.{Target}
use Rattle.access_blocks.specs.Cursors.{Cursor, Read}
use Rattle.typed_bodies.specs.Marking.{Stays, Passed}
use Rattle.typed_bodies.specs.Parts.{Changes}
use Rattle.typed_bodies.specs.Reading.{Place, Adds, Stands}
use Rattle.typed_bodies.specs.Targets.{IsPut}
use Rattle.typed_statements.specs.Points.{Setting, Point, point, place_at, IsPoint}
use Rattle.typed_statements.specs.Leaves.{Stated}
use Rattle.typed_statements.proofs.Fitting.{Moves, moves_alike, Steps}
use Rattle.typed_statements.proofs.Going.{Unmoved}
use Rattle.typed_statements.proofs.Stated.{Runs, runs_stated, IsTargetBelow, whole_runs, changes_run}
use Rattle.typed_statements.proofs.Steps.{unmerged_merges_none}

-- a walk that ends a statement: it goes on from another one, and nothing waits
pub record Ends (x z : MarkingWalk) : Type 0 where
  pub moved : Unmoved x z
  pub none : z.awaited ≡ None

pub unmerged_ends : (x : MarkingWalk) → (unmerged x).findings ≡ [] → Ends x (unmerged x)
unmerged_ends x quiet = let m = unmerged_merges_none x in record { moved = m.moved; none = m.none quiet }

-- behind some steps that change nothing
pub then_ends : {x y z : MarkingWalk} → Unmoved x y → Ends y z → Ends x z
then_ends s e = record {
  moved = record {
    back = λ q. s.back (e.moved.back q);
    used = e.moved.used ∙ s.used;
    in_entry = e.moved.in_entry ∙ s.in_entry;
    locals = e.moved.locals ∙ s.locals;
    awaited = λ q. e.moved.awaited q ∙ s.awaited (e.moved.back q);
    sites = e.moved.sites ∙ s.sites;
  };
  none = e.none;
}

module _ (k : Setting) (a : Around) (w v : Walk) (u : MarkingWalk) (c : Cursor) (types : List ExprType) (names : List Declaration) (is : IsPoint k (point w u c)) where
  abbrev at : Point
  at = point w u c

  abbrev p : Place
  p = place_at k at

  -- what was read, and that it runs
  pub record Ran (r : Read Statement) (more : List Site) : Type 0 where
    pub sites : r.cursor.sites ≡ more
    pub runs : Runs k at r.it

  pub ran_steps : (z : MarkingWalk) (r : Read Statement) → Moves k w v u z c r.cursor types names → z.awaited ≡ None → (sites : List Site) → z.sites ≡ u.sites ++ sites
      → ((more : List Site) → c.sites ≡ sites ++ more → Ran r more) → Steps k w v u z c r types names (Stated k a)
  ran_steps z r moves none sites to_sites ran = record {
    moves = moves;
    sites = sites;
    to_sites = to_sites;
    tells = λ more ss. (let t = ran more ss in record { sites = t.sites; means = runs_stated k a at (point v z r.cursor) (moves_alike moves) none r.it t.runs });
  }

  -- a whole that begins at another walk and cursor
  pub put_steps : (m x z : MarkingWalk) (d : Cursor) (r : Read Statement) (is_global : Bool) (to : Target) (wanted : ExprType) → Adds w v → Stays u m → d.sites ≡ c.sites → Stands p r.cursor types names
      → IsPut p k.around is_global to wanted m x names d r → IsTargetBelow (length c.variables) to → Ends x z → Steps k w v u z c r types names (Stated k a)
  put_steps m x z d r is_global to wanted adds stays same stands put below ends =
      let l = put.leaves in
      let e = ends.moved in
      ran_steps z r
      (record {
        known = adds.same_variables;
        locals_known = adds.same_locals;
        marks = e.locals ∙ (l.locals ∙ stays.locals);
        in_entry = e.in_entry ∙ (l.in_entry ∙ stays.in_entry);
        variables = stands.are_variables;
        locals = stands.are_locals;
        are_types = stands.are_types;
        are_names = stands.are_names;
        behind = ap (λ n. drop n k.marks.names) e.used ∙ l.behind;
      })
      ends.none l.sites (e.sites ∙ (l.to_sites ∙ ap (λ (ss : List Site). ss ++ l.sites) stays.sites))
      (λ more ss. record {
        sites = put.sites_read more (same ∙ ss);
        runs = whole_runs k at m is_global to wanted r.it is stays.awaited stays.in_entry below (put.goes more (same ∙ ss));
      })

  -- a change of a variable
  pub change_steps : (m x z : MarkingWalk) (r : Read Statement) (variable : ℕ) → Adds w v → Stays u m → Passed p m x names → r.cursor.sites ≡ c.sites → Stands p r.cursor types names → Changes p k.around variable r.it
      → variable < length c.variables → Ends x z → Steps k w v u z c r types names (Stated k a)
  change_steps m x z r variable adds stays passed same stands changes below ends =
      let s = passed.stays in
      let e = ends.moved in
      ran_steps z r
      (record {
        known = adds.same_variables;
        locals_known = adds.same_locals;
        marks = e.locals ∙ (s.locals ∙ stays.locals);
        in_entry = e.in_entry ∙ (s.in_entry ∙ stays.in_entry);
        variables = stands.are_variables;
        locals = stands.are_locals;
        are_types = stands.are_types;
        are_names = stands.are_names;
        behind = ap (λ n. drop n k.marks.names) e.used ∙ passed.behind;
      })
      ends.none [] (e.sites ∙ (s.sites ∙ (stays.sites ∙ sym (append-nil u.sites))))
      (λ more ss. record { sites = same ∙ ss; runs = changes_run k at variable r.it below changes })
