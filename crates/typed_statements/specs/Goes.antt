-- A part of a method goes: where neither walk of the rules finds anything in it, what is read of it, as many types, names and
-- sites as the walks add, means what it should between the points before and behind.
use Rattle.std.specs.Prelude.{◌≡◌, List, [], ◌++◌}
use Rattle.java_tree.specs.declared.types.ExprType.{ExprType}
use Rattle.java_tree.specs.declared.types.Declaration.{Declaration}
use Rattle.java_types.specs.declared.walk.Walk.{Walk}
use Rattle.annotations.specs.declared.site.Site.{Site}
use Rattle.annotations.specs.declared.walk.Walk.{Walk as MarkingWalk}
use Rattle.access_blocks.specs.Cursors.{Cursor, Read}
use Rattle.typed_statements.specs.Points.{Setting, Point, point, IsPoint}

-- a list, and more behind it
pub record Grows {A : Type 0} (xs ys : List A) : Type 0 where
  pub more : List A
  pub is : ys ≡ xs ++ more

-- What the walk of the rules on types adds where it finds nothing; names that it declares come into scope.
pub record Brings (w v : Walk) : Type 0 where
  pub types : List ExprType
  pub names : List Declaration
  pub quiet : w.findings ≡ []
  pub to_types : v.types ≡ w.types ++ types
  pub to_names : v.names ≡ w.names ++ names
  pub variables : Grows w.variables v.variables

abbrev pub Meaning : Type 0 → Type 1
Meaning A = Point → Point → A → Type 0

-- What was read of the sites that the walk of the rules on annotations adds, where the cursor stood before them.
pub record Tells {A : Type 0} (Means : Meaning A) (at to : Point) (a : A) (more : List Site) : Type 0 where
  pub sites : to.cursor.sites ≡ more
  pub means : Means at to a

pub record Behind {A : Type 0} (k : Setting) (at : Point) (v : Walk) (x : MarkingWalk) (r : Read A) (types : List ExprType) (names : List Declaration) (Means : Meaning A) : Type 0 where
  pub is_point : IsPoint k (point v x r.cursor)
  pub are_types : r.cursor.types ≡ types
  pub are_names : r.cursor.names ≡ names
  pub locals : Grows at.cursor.locals r.cursor.locals
  pub marks : Grows at.marks.locals x.locals
  pub sites : List Site
  pub to_sites : x.sites ≡ at.marks.sites ++ sites
  pub tells : (more : List Site) → at.cursor.sites ≡ sites ++ more → Tells Means at (point v x r.cursor) r.it more

-- All variables of the method are those that are read of it.
pub record Passes {A : Type 0} (k : Setting) (w v : Walk) (u x : MarkingWalk) (reading : Cursor → Read A) (Means : Meaning A) : Type 0 where
  pub added : Brings w v
  pub behind : (c : Cursor) (types : List ExprType) (names : List Declaration) → IsPoint k (point w u c) → c.types ≡ added.types ++ types → c.names ≡ added.names ++ names
      → Grows (reading c).cursor.variables k.around.context.variables → Behind k (point w u c) v x (reading c) types names Means

pub record Goes {A : Type 0} (k : Setting) (w v : Walk) (u x : MarkingWalk) (reading : Cursor → Read A) (Means : Meaning A) : Type 0 where
  pub back : x.findings ≡ [] → u.findings ≡ []
  pub grows : (c : Cursor) → Grows c.variables (reading c).cursor.variables
  pub passes : v.findings ≡ [] → x.findings ≡ [] → Passes k w v u x reading Means
