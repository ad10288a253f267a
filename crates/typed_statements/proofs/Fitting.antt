-- What a point is to expressions and whole statements: a place that they stand in, before these types and names, with a standing
-- that is ready for what they read. And back: behind what passes types and names and declares nothing stands a point again.
use Rattle.std.proofs.Common.{◌≡◌, ℕ, zero, suc, false, List, [], ◌∷◌, ◌++◌, map, drop, is_some, slice_get, unwrap_or, Option, None, refl, sym, ◌∙◌}
use Rattle.java_tree.specs.declared.types.ExprType.{ExprType}
use Rattle.java_tree.specs.declared.types.Declaration.{Declaration}
use Rattle.java_types.specs.declared.walk.Walk.{Walk}
use Rattle.annotations.specs.declared.site.Site.{Site}
use Rattle.annotations.specs.declared.walk.Walk.{Walk as MarkingWalk}
use Rattle.access_blocks.specs.Cursors.{Cursor, Read}
use Rattle.body_code.specs.Checking.{Standing}
use Rattle.typed_bodies.specs.Reading.{Place, Adds, Stands}
use Rattle.typed_bodies.specs.Marking.{Agrees, Begins, Passed}
use Rattle.typed_bodies.specs.Targets as targets
use Rattle.typed_bodies.specs.Targets.{StandsIn, IsReady, Leaves}
use Rattle.typed_statements.specs.Points.{Setting, Point, point, place_at, Agree, IsPoint, Knows, Waits}
use Rattle.typed_statements.specs.Goes.{Brings, Meaning, Tells, Behind, Goes}
use Rattle.typed_statements.proofs.Going.{same, grown_to, Alike, alike_point}

-- ---- a place

pub stands_in : (k : Setting) (at : Point) → Agree k (place_at k at) → StandsIn (place_at k at) k.around
stands_in k at g = record {
  context = refl;
  fields = λ name v field is d. (let h = g.held name v field is d in record { holder = h.holder; is = h.is; of_class = h.of_class; to_rules = h.marked; kind = h.is_partial });
}

pub stands_at : (k : Setting) (w : Walk) (u : MarkingWalk) (c : Cursor) (types : List ExprType) (names : List Declaration) → c.types ≡ types → c.names ≡ names → Stands (place_at k (point w u c)) c types names
stands_at k w u c types names ts ns = record { are_types = ts; are_names = ns; are_variables = refl; are_locals = refl }

some_at : (ls : List (Option ℕ)) (n : ℕ) → is_some (unwrap_or (slice_get ls n) None) ≡ unwrap_or (slice_get (map is_some ls) n) false
some_at [] zero = refl
some_at [] (suc n) = refl
some_at (o ∷ ls) zero = refl
some_at (o ∷ ls) (suc n) = some_at ls n

pub agrees_at : (k : Setting) (at : Point) → Agrees (place_at k at) at.marks
agrees_at k at n = some_at at.marks.locals n

pub begins_at : (k : Setting) (w : Walk) (u : MarkingWalk) (c : Cursor) (walk : MarkingWalk → MarkingWalk) (names rest : List Declaration) → IsPoint k (point w u c) → c.names ≡ names ++ rest → (walk u).findings ≡ []
    → Begins (place_at k (point w u c)) walk names u rest
begins_at k w u c walk names rest is ns quiet = record { agrees = agrees_at k (point w u c); before = is.names ∙ ns; quiet = quiet }

-- ---- a standing

pub knows_in_scope : (p : Place) (st : Standing) → Knows p st → targets.Knows p st
knows_in_scope p st h = λ v scope t typed. h v t scope typed

pub knows_read : (p : Place) (st : Standing) (reads : List ℕ) → Knows p st → targets.KnowsRead p st reads
knows_read p st reads h = λ v read scope t typed. h v t scope typed

-- ready for what is read, also where a walk went on that keeps what waits
pub is_ready : (k : Setting) (at : Point) (u : MarkingWalk) (st : Standing) (reads : List ℕ) → IsPoint k at → u.awaited ≡ at.marks.awaited → u.in_entry ≡ at.marks.in_entry
    → targets.KnowsRead (place_at k at) st reads → Waits (place_at k at) at.marks.awaited st → IsReady (place_at k at) k.around u st reads
is_ready k at u st reads is awaited entry knows waits = record {
  known = knows;
  waits = λ a name it waiting known d. (let g = (waits a.local a.token (sym awaited ∙ waiting)).gathered name it known d in record { type = g.type; found = g.found; gathered = g.gathered });
  entry = λ e. sym (entry ∙ is.in_entry) ∙ e;
}

-- ---- behind it

-- These types and names were passed, and nothing was declared.
pub record Moves (k : Setting) (w v : Walk) (u x : MarkingWalk) (c d : Cursor) (types : List ExprType) (names : List Declaration) : Type 0 where
  pub known : v.variables ≡ w.variables
  pub locals_known : v.locals ≡ w.locals
  pub marks : x.locals ≡ u.locals
  pub in_entry : x.in_entry ≡ u.in_entry
  pub variables : d.variables ≡ c.variables
  pub locals : d.locals ≡ c.locals
  pub are_types : d.types ≡ types
  pub are_names : d.names ≡ names
  pub behind : drop x.used k.marks.names ≡ names

pub moves_alike : {k : Setting} {w v : Walk} {u x : MarkingWalk} {c d : Cursor} {types : List ExprType} {names : List Declaration} → Moves k w v u x c d types names → Alike k (point w u c) (point v x d)
moves_alike m = record {
  known = m.known;
  types = m.locals_known;
  marks = m.marks;
  in_entry = m.in_entry;
  variables = m.variables;
  locals = m.locals;
  names = m.behind ∙ sym m.are_names;
}

-- as a whole statement leaves them
pub whole_moves : (k : Setting) {w v : Walk} {u x : MarkingWalk} {c d : Cursor} {types : List ExprType} {names : List Declaration} → Adds w v → Leaves (place_at k (point w u c)) u x names
    → Stands (place_at k (point w u c)) d types names → Moves k w v u x c d types names
whole_moves k a l s = record {
  known = a.same_variables;
  locals_known = a.same_locals;
  marks = l.locals;
  in_entry = l.in_entry;
  variables = s.are_variables;
  locals = s.are_locals;
  are_types = s.are_types;
  are_names = s.are_names;
  behind = l.behind;
}

-- as a part of a statement leaves them
pub part_moves : (k : Setting) {w v : Walk} {u x : MarkingWalk} {c d : Cursor} {types : List ExprType} {names : List Declaration} → Adds w v → Passed (place_at k (point w u c)) u x names
    → Stands (place_at k (point w u c)) d types names → Moves k w v u x c d types names
part_moves k a l s = record {
  known = a.same_variables;
  locals_known = a.same_locals;
  marks = l.stays.locals;
  in_entry = l.stays.in_entry;
  variables = s.are_variables;
  locals = s.are_locals;
  are_types = s.are_types;
  are_names = s.are_names;
  behind = l.behind;
}

-- what is read from a point on, where nothing is declared
pub record Steps {A : Type 0} (k : Setting) (w v : Walk) (u x : MarkingWalk) (c : Cursor) (r : Read A) (types : List ExprType) (names : List Declaration) (Means : Meaning A) : Type 0 where
  pub moves : Moves k w v u x c r.cursor types names
  pub sites : List Site
  pub to_sites : x.sites ≡ u.sites ++ sites
  pub tells : (more : List Site) → c.sites ≡ sites ++ more → Tells Means (point w u c) (point v x r.cursor) r.it more

steps_behind : {A : Type 0} (k : Setting) {w v : Walk} {u x : MarkingWalk} {c : Cursor} {r : Read A} {types : List ExprType} {names : List Declaration} {Means : Meaning A} → IsPoint k (point w u c)
    → Steps k w v u x c r types names Means → Behind k (point w u c) v x r types names Means
steps_behind k {u = u} {c = c} is s = record {
  is_point = alike_point (moves_alike s.moves) is;
  are_types = s.moves.are_types;
  are_names = s.moves.are_names;
  locals = grown_to (same c.locals) s.moves.locals;
  marks = grown_to (same u.locals) s.moves.marks;
  sites = s.sites;
  to_sites = s.to_sites;
  tells = s.tells;
}

abbrev pub adds_bring : {w v : Walk} → Adds w v → Brings w v
adds_bring {w = w} a = record { types = a.types; names = a.names; quiet = a.no_findings; to_types = a.to_types; to_names = a.to_names; variables = grown_to (same w.variables) a.same_variables }

-- A part of a method that declares nothing.
pub record Stepping {A : Type 0} (k : Setting) (w v : Walk) (u x : MarkingWalk) (reading : Cursor → Read A) (Means : Meaning A) : Type 0 where
  pub back : x.findings ≡ [] → u.findings ≡ []
  pub keeps : (c : Cursor) → (reading c).cursor.variables ≡ c.variables
  pub added : v.findings ≡ [] → Adds w v
  pub behind : (quiet : v.findings ≡ []) → x.findings ≡ [] → (c : Cursor) (types : List ExprType) (names : List Declaration) → IsPoint k (point w u c)
      → c.types ≡ (added quiet).types ++ types → c.names ≡ (added quiet).names ++ names → Steps k w v u x c (reading c) types names Means

pub stepping_goes : {A : Type 0} (k : Setting) {w v : Walk} {u x : MarkingWalk} {reading : Cursor → Read A} {Means : Meaning A} → Stepping k w v u x reading Means → Goes k w v u x reading Means
stepping_goes k s = record {
  back = s.back;
  grows = λ c. grown_to (same c.variables) (s.keeps c);
  passes = λ qv qx. record {
    added = adds_bring (s.added qv);
    behind = λ c types names is ts ns all. steps_behind k is (s.behind qv qx c types names is ts ns);
  };
}
