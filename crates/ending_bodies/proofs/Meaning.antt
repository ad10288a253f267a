-- What goes means something of what is read alone, wherever it stands.
use Rattle.std.proofs.Common.{◌≡◌, List, [], ◌∷◌, ◌++◌, map, fold, refl, sym, ap, ◌∙◌}
use Rattle.std.proofs.lemmas.List.{append_cancel_left}
use Rattle.java_tree.specs.declared.types.ExprType.{ExprType}
use Rattle.java_tree.specs.declared.types.Declaration.{Declaration}
use Rattle.java_types.specs.declared.walk.Walk.{Walk}
use Rattle.annotations.specs.declared.walk.Walk.{Walk as MarkingWalk}
use Rattle.access_blocks.specs.declared.body.Statement.{Statement}
use Rattle.access_blocks.specs.Cursors.{Cursor, Read}
use Rattle.access_blocks.specs.ResolvingStatements.{Stating, list_of}
use Rattle.typed_bodies.specs.Reading.{Stands, Follows}
use Rattle.typed_statements.specs.Points.{Setting, point, place_at, IsPoint}
use Rattle.typed_statements.specs.Goes.{Brings, Meaning, Goes}
use Rattle.typed_statements.proofs.InTurn.{Stable, unread, in_turn}
use Rattle.typed_statements.proofs.Lists.{goes_as, list_is}

-- ---- facts

abbrev pub Fact : {A : Type 0} → (A → Type 0) → Meaning A
Fact Holds at to a = Holds a

pub fact_stable : {A : Type 0} (k : Setting) (Holds : A → Type 0) → Stable k (Fact Holds)
fact_stable k Holds = record { from = λ at mid to a same h. h; to = λ at mid to a same h. h }

-- of which nothing is said
abbrev pub Nothing : {A : Type 0} → A → Type 0
Nothing a = Unit {0}

-- where the reading stands at a point, before what the walk of the rules on types adds
pub record StandsAt (k : Setting) (w v : Walk) (u x : MarkingWalk) (c : Cursor) : Type 0 where
  pub quiet : v.findings ≡ []
  pub quiet_marks : x.findings ≡ []
  pub added : Brings w v
  pub is_point : IsPoint k (point w u c)
  pub types : List ExprType
  pub names : List Declaration
  pub are_types : c.types ≡ added.types ++ types
  pub are_names : c.names ≡ added.names ++ names

-- the same behind less of the walk of the rules on annotations
pub stands_inside : (k : Setting) {w v : Walk} {u x y : MarkingWalk} (c : Cursor) → (x.findings ≡ [] → y.findings ≡ []) → StandsAt k w v u x c → StandsAt k w v u y c
stands_inside k c back s = record {
  quiet = s.quiet;
  quiet_marks = back s.quiet_marks;
  added = s.added;
  is_point = s.is_point;
  types = s.types;
  names = s.names;
  are_types = s.are_types;
  are_names = s.are_names;
}

module _ {A : Type 0} (k : Setting) {w v : Walk} {u x : MarkingWalk} {reading : Cursor → Read A} {First : Meaning A} where
  -- what is known of it where it stands so
  pub goes_with : (Holds : A → Type 0) → ((c : Cursor) → StandsAt k w v u x c → Holds (reading c).it) → Goes k w v u x reading First → Goes k w v u x reading (Fact Holds)
  goes_with Holds holds g = record {
    back = g.back;
    grows = g.grows;
    passes = λ qv qx.
        let p = g.passes qv qx in
        record {
          added = p.added;
          behind = λ c types names is ts ns all.
              let b = p.behind c types names is ts ns all in
              let h = holds c (record { quiet = qv; quiet_marks = qx; added = p.added; is_point = is; types = types; names = names; are_types = ts; are_names = ns }) in
              record {
                is_point = b.is_point;
                are_types = b.are_types;
                are_names = b.are_names;
                locals = b.locals;
                marks = b.marks;
                sites = b.sites;
                to_sites = b.to_sites;
                tells = λ more ss. (let t = b.tells more ss in record { sites = t.sites; means = h });
              };
        };
  }

-- What follows the same walk fits where it stands.
module _ {A : Type 0} (k : Setting) {w v : Walk} {u x : MarkingWalk} (c : Cursor) (s : StandsAt k w v u x c) {reading : Cursor → Read A} {Fits : List Declaration → A → Type 0}
    (f : Follows (place_at k (point w u c)) w v reading Fits) where
  same_types : f.added.types ≡ s.added.types
  same_types = append_cancel_left w.types f.added.types s.added.types (sym f.added.to_types ∙ s.added.to_types)

  same_names : f.added.names ≡ s.added.names
  same_names = append_cancel_left w.names f.added.names s.added.names (sym f.added.to_names ∙ s.added.to_names)

  stands : Stands (place_at k (point w u c)) c (f.added.types ++ s.types) (f.added.names ++ s.names)
  stands = record {
    are_types = s.are_types ∙ ap (λ (ts : List ExprType). ts ++ s.types) (sym same_types);
    are_names = s.are_names ∙ ap (λ (ns : List Declaration). ns ++ s.names) (sym same_names);
    are_variables = refl;
    are_locals = refl;
  }

  pub stands_before : c.names ≡ f.added.names ++ s.names
  stands_before = stands.are_names

  pub fits_there : Fits f.added.names (reading c).it
  fits_there = (f.in_step refl c s.types s.names stands).fits

-- ---- lists

-- of each statement something is said, and so of all
module _ {A : Type 0} (k : Setting) (Holds : A → Statement → Type 0) (All : List A → List Statement → Type 0) (none : All [] [])
    (more : (x : A) (xs : List A) (s : Statement) (ss : List Statement) → Holds x s → All xs ss → All (x ∷ xs) (s ∷ ss)) where
  pub list_goes : (step : Walk → A → Walk) (mark : MarkingWalk → A → MarkingWalk) (reading : A → Stating)
      → ((x : A) (w : Walk) (u : MarkingWalk) → Goes k w (step w x) u (mark u x) (reading x) (Fact (Holds x)))
      → (xs : List A) (w : Walk) (u : MarkingWalk) → Goes k w (fold step w xs) u (fold mark u xs) (list_of (map reading xs)) (Fact (All xs))
  list_goes step mark reading each [] w u = unread k w u [] (λ at is. none)
  list_goes step mark reading each (x ∷ xs) w u =
      goes_as k (Fact (All (x ∷ xs))) (list_is (reading x) (map reading xs))
      (in_turn k (λ (s : Statement) ss. s ∷ ss) (λ at mid to s ss p q h t. more x xs s ss h t) (each x w u) (list_goes step mark reading each xs (step w x) (mark u x)))
