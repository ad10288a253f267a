-- What stands in braces goes, and the block is typed as its statements are.
use Rattle.std.proofs.Common.{◌≡◌, List, [], length, refl, sym, ap, subst, ◌∙◌}
use Rattle.java_tree.specs.declared.types.ExprType.{ExprType}
use Rattle.java_tree.specs.declared.types.Declaration.{Declaration}
use Rattle.java_types.specs.declared.walk.Walk.{Walk}
use Rattle.java_types.specs.Walks.{left}
use Rattle.annotations.specs.declared.walk.Walk.{Walk as MarkingWalk}
use Rattle.access_blocks.specs.Cursors.{Cursor, Read, read}
use Rattle.typed_statements.specs.Points.{Setting, Point, point, IsPoint}
use Rattle.typed_statements.specs.Goes.{Grows, Brings, Meaning, Behind, Goes}
use Rattle.typed_statements.proofs.Going.{same}
use Rattle.typed_statements.proofs.InTurn.{Way}
use Rattle.typed_statements.proofs.Steps.{left_leaves, left_quiet}
use Rattle.typed_statements.proofs.Closing.{Closes, closed_agree}

-- what lies between the point before, the last one inside, and the one behind
pub record Closing (k : Setting) (at inside behind : Point) : Type 0 where
  pub way : Way k at inside
  pub closes : Closes k at behind
  pub begins : IsPoint k at
  pub ends : IsPoint k behind
  pub same_cursor : behind.cursor ≡ inside.cursor
  pub same_marks : behind.marks ≡ inside.marks

abbrev pub outer : Walk → Walk → Walk
outer w v = left (length w.variables) v

abbrev brings_outer : (w v : Walk) → Brings w v → Brings w (outer w v)
brings_outer w v b =
    let l = left_leaves w v b.variables in
    record {
      types = b.types;
      names = b.names;
      quiet = b.quiet;
      to_types = l.types ∙ b.to_types;
      to_names = l.names ∙ b.to_names;
      variables = subst (λ vs. Grows w.variables vs) (sym l.variables) (same w.variables);
    }

module _ {A B : Type 0} (k : Setting) (w v : Walk) (u x : MarkingWalk) (reading : Cursor → Read A) (First : Meaning A) (Means : Meaning B) (f : A → B)
    (means : (at inside behind : Point) (a : A) → (x.findings ≡ []) → at.marks ≡ u → behind.marks ≡ x → Closing k at inside behind → First at inside a → Means at behind (f a)) where
  closed_behind : (c : Cursor) → x.findings ≡ [] → IsPoint k (point w u c) → (added : Brings w v) → Grows c.variables (reading c).cursor.variables
      → (types : List ExprType) (names : List Declaration) → Behind k (point w u c) v x (reading c) types names First
      → Behind k (point w u c) (outer w v) x (read (f (reading c).it) (reading c).cursor) types names Means
  closed_behind c quiet is added grows types names b =
      let d = (reading c).cursor in
      let l = left_leaves w v added.variables in
      let closes : Closes k (point w u c) (point (outer w v) x d) = record { known = l.variables; variables = grows; locals = b.locals; marks = b.marks } in
      let ends : IsPoint k (point (outer w v) x d) = record {
        agree = closed_agree k (point w u c) (point (outer w v) x d) is closes;
        same_locals = ap length l.locals ∙ b.is_point.same_locals;
        same_marks = b.is_point.same_marks;
        in_entry = b.is_point.in_entry;
        names = b.is_point.names;
      } in
      let way : Way k (point w u c) (point v x d) = record { begins = is; ends = b.is_point; known = added.variables; variables = grows; locals = b.locals; marks = b.marks } in
      record {
        is_point = ends;
        are_types = b.are_types;
        are_names = b.are_names;
        locals = b.locals;
        marks = b.marks;
        sites = b.sites;
        to_sites = b.to_sites;
        tells = λ more ss.
            let t = b.tells more ss in
            record {
              sites = t.sites;
              means = means (point w u c) (point v x d) (point (outer w v) x d) (reading c).it quiet refl refl
                  (record { way = way; closes = closes; begins = is; ends = ends; same_cursor = refl; same_marks = refl }) t.means;
            };
      }

  pub closing : Goes k w v u x reading First → Goes k w (outer w v) u x (λ c. read (f (reading c).it) (reading c).cursor) Means
  closing g = record {
    back = g.back;
    grows = g.grows;
    passes = λ qv qx.
        let p = g.passes (sym (left_quiet (length w.variables) v) ∙ qv) qx in
        let added = brings_outer w v p.added in
        record { added = added; behind = λ c types names is ts ns all. closed_behind c qx is p.added (g.grows c) types names (p.behind c types names is ts ns all) };
  }
