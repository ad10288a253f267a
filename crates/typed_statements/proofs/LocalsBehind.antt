-- Behind a declaration stands a point again, whatever its value is: the walks and the reading go on from behind its name.
use Rattle.std.proofs.Common.{◌≡◌, ℕ, List, [], ◌∷◌, ◌++◌, ap, ◌∙◌}
use Rattle.java_tree.specs.declared.tree.Local.{Local}
use Rattle.java_tree.specs.declared.types.ExprType.{ExprType}
use Rattle.java_tree.specs.declared.types.Declaration.{Declaration}
use Rattle.java_types.specs.declared.walk.Walk.{Walk}
use Rattle.annotations.specs.declared.site.Site.{Site}
use Rattle.annotations.specs.declared.walk.Walk.{Walk as MarkingWalk}
use Rattle.annotations.specs.Simples as marking
use Rattle.annotations.specs.Walks.{token_if}
use Rattle.access_blocks.specs.Cursors.{Cursor, Read, declared}
use Rattle.access_blocks.specs.ResolvingStatements.{declared_type}
use Rattle.typed_statements.specs.Points.{Setting, Point, point, IsPoint}
use Rattle.typed_statements.specs.Goes.{Grows, Brings, Meaning, Tells, Behind}
use Rattle.typed_statements.proofs.Declaring.{Declares, named_walk, walk_adds, walk_declares_value}
use Rattle.typed_statements.proofs.Fitting.{Moves, moves_alike}
use Rattle.typed_statements.proofs.Going.{grown_to, alike_point}
use Rattle.typed_statements.proofs.NewPlace.{Entered, entered}

-- ---- behind the name

abbrev pub marked_name : Setting → Local → MarkingWalk → MarkingWalk
marked_name k l u = marking.declared k.marks l.is_partial u.at u

abbrev pub cursor_named : Local → Cursor → Cursor
cursor_named l c = declared l.is_partial (declared_type l.type_name) c

abbrev pub point_named : Setting → Local → Walk → MarkingWalk → Cursor → Point
point_named k l w u c = point (named_walk k.env l w) (marked_name k l u) (cursor_named l c)

pub entered_named : (k : Setting) (l : Local) (w : Walk) (u : MarkingWalk) (c : Cursor) → (named_walk k.env l w).findings ≡ [] → IsPoint k (point w u c) → Grows (cursor_named l c).variables k.around.context.variables
    → Entered k (point w u c) (point_named k l w u c) l.is_partial (declared_type l.type_name)
entered_named k l w u c quiet is all =
    entered k w (named_walk k.env l w) u (marked_name k l u) c l.is_partial l.name (declared_type l.type_name) is (walk_declares_value k.env l w quiet) (walk_adds k.marks l.is_partial u.at u) all

-- ---- behind the value

abbrev pub brings_local : {name : List ℕ} {t : ExprType} {w y v : Walk} (types : List ExprType) (names : List Declaration) → Declares name t w y → v.types ≡ y.types ++ types → v.names ≡ y.names ++ names
    → v.variables ≡ y.variables → Brings w v
brings_local {name = name} {t = t} {w = w} types names d ts ns vs = record {
  types = types;
  names = names;
  quiet = d.quiet;
  to_types = ts ∙ ap (λ (zs : List ExprType). zs ++ types) d.types;
  to_names = ns ∙ ap (λ (zs : List Declaration). zs ++ names) d.names;
  variables = record { more = _; is = vs ∙ d.variables };
}

module _ {A : Type 0} (k : Setting) (l : Local) (w v : Walk) (u x : MarkingWalk) (c : Cursor) (r : Read A) (types : List ExprType) (names : List Declaration) (Means : Meaning A)
    (quiet : (named_walk k.env l w).findings ≡ []) (is : IsPoint k (point w u c)) (all : Grows (cursor_named l c).variables k.around.context.variables) where
  pub local_behind : Moves k (named_walk k.env l w) v (marked_name k l u) x (cursor_named l c) r.cursor types names → (sites : List Site) → x.sites ≡ (marked_name k l u).sites ++ sites
      → ((more : List Site) → c.sites ≡ sites ++ more → Tells Means (point w u c) (point v x r.cursor) r.it more) → Behind k (point w u c) v x r types names Means
  local_behind m sites to_sites tells =
      let e = entered_named k l w u c quiet is all in
      let a = walk_adds k.marks l.is_partial u.at u in
      record {
        is_point = alike_point (moves_alike m) e.is_point;
        are_types = m.are_types;
        are_names = m.are_names;
        locals = grown_to e.locals m.locals;
        marks = record { more = token_if l.is_partial a.at ∷ []; is = m.marks ∙ a.locals };
        sites = sites;
        to_sites = to_sites ∙ ap (λ (ss : List Site). ss ++ sites) a.sites;
        tells = tells;
      }
