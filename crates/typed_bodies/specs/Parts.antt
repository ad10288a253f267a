-- What parts of statements are that are no wholes: conditions, and values of compound assignments.
use Rattle.std.specs.Prelude.{◌≡◌, ℕ, true, List, ◌∷◌, [], ◌++◌, Some}
use Rattle.sdg_base.specs.declared.value_type.ValueType.TheVariants.{Boolean}
use Rattle.java_tree.specs.declared.types.ExprType.{ExprType}
use Rattle.java_tree.specs.declared.types.Declaration.{Declaration}
use Rattle.java_types.specs.declared.walk.Walk.{Walk as TypesWalk}
use Rattle.annotations.specs.declared.walk.Walk.{Walk}
use Rattle.access_blocks.specs.declared.body.Statement.{Statement}
use Rattle.access_blocks.specs.declared.resolved.Resolved.{Resolved}
use Rattle.access_blocks.specs.Cursors.{Cursor, Read}
use Rattle.body_code.specs.Checking.{Surroundings, Standing, Around, takes, with_known, outside}
use Rattle.marked_bodies.specs.Unmarked.{unmarked}
use Rattle.body_code.specs.Early.{assigned_in}
use Rattle.typed_bodies.specs.Reading.{Place, Adds, Stands}
use Rattle.typed_bodies.specs.Marking.{Begins, Passed}
use Rattle.typed_bodies.specs.Targets.{Knows}

-- a truth value
abbrev pub Tests : Place → Surroundings → Resolved → Type 0
Tests p around r = (st : Standing) → Knows p st → takes around st r.expression Boolean ≡ true

-- a statement that gives a variable a value
pub record Changes (p : Place) (around : Surroundings) (v : ℕ) (s : Statement) : Type 0 where
  pub reads : List ℕ
  pub assigns : assigned_in s ≡ record { variable = v; reads = reads } ∷ []
  pub runs : (exits : Around) (st : Standing) → Knows p st → unmarked around s exits st ≡ Some (with_known v (outside st))

-- the same of one that reads nothing
pub record Starts (around : Surroundings) (v : ℕ) (s : Statement) : Type 0 where
  pub assigns : assigned_in s ≡ record { variable = v; reads = [] } ∷ []
  pub runs : (exits : Around) (st : Standing) → unmarked around s exits st ≡ Some (with_known v (outside st))

-- what is read of a part, which reads no site
pub record IsPart {A : Type 0} (p : Place) (Is : A → Type 0) (u v : Walk) (rest : List Declaration) (c : Cursor) (r : Read A) : Type 0 where
  pub passed : Passed p u v rest
  pub no_sites : r.cursor.sites ≡ c.sites
  pub is : Is r.it

-- the walk of the rules on types, that of the rules on annotations, and the reading
pub record ReadsPart {A : Type 0} (p : Place) (Is : A → Type 0) (w v : TypesWalk) (marked : Walk → Walk) (reading : Cursor → Read A) : Type 0 where
  pub added : Adds w v
  pub grows : w.variables ≡ p.known → (u : Walk) → (marked u).findings ≡ [] → u.findings ≡ []
  pub behind : w.variables ≡ p.known → (c : Cursor) (types : List ExprType) (names : List Declaration) → Stands p c (added.types ++ types) (added.names ++ names)
      → Stands p (reading c).cursor types names
  pub part : w.variables ≡ p.known → (c : Cursor) (types : List ExprType) (names : List Declaration) → Stands p c (added.types ++ types) (added.names ++ names)
      → (u : Walk) → Begins p marked added.names u names → IsPart p Is u (marked u) names c (reading c)
