-- What a whole value makes of its target, and a call that stands alone, among the statements of a body before marks stand in them.
use Rattle.std.specs.Prelude.{◌≡◌, ℕ, Bool, true, false, not, List, [], ◌++◌, drop, slice_get, unwrap_or, Some, None}
use Rattle.sdg_base.specs.declared.value_type.ValueType.{ValueType as SignatureType}
use Rattle.java_tree.specs.declared.types.ValueType.{ValueType}
use Rattle.java_tree.specs.declared.types.ExprType.{ExprType}
use Rattle.java_tree.specs.declared.types.ExprType.TheVariants.{Value}
use Rattle.java_tree.specs.declared.types.Declaration.{Declaration}
use Rattle.java_tree.specs.declared.types.Declaration.TheVariants as declaration
use Rattle.java_types.specs.declared.walk.Variable.{Variable}
use Rattle.java_types.specs.declared.walk.Walk.{Walk as TypesWalk}
use Rattle.annotations.specs.declared.position.Position.{Position}
use Rattle.annotations.specs.declared.site.Site.{Site}
use Rattle.annotations.specs.declared.walk.Awaited.{Awaited}
use Rattle.annotations.specs.declared.walk.Walk.{Walk}
use Rattle.annotations.specs.Accesses.{is_partitioned}
use Rattle.annotations.specs.Positions.{is_whole}
use Rattle.annotations.specs.Walks.{kind_at}
use Rattle.access_blocks.specs.declared.body.Holder.{Holder}
use Rattle.access_blocks.specs.declared.body.Statement.{Statement}
use Rattle.access_blocks.specs.declared.body.Target.{Target}
use Rattle.access_blocks.specs.declared.body.Target.TheVariants as target
use Rattle.access_blocks.specs.Cursors.{Cursor, Read}
use Rattle.access_blocks.specs.Resolving.{class_at, wanted_by}
use Rattle.body_code.specs.Early.{Assigned, assigned_in, is_in, to_target}
use Rattle.body_code.specs.Typing.{type_by, variable_type}
use Rattle.body_code.specs.Checking.{Surroundings, Standing, Around, with_known, outside, gathering, is_entry}
use Rattle.marked_bodies.specs.Unmarked.{unmarked}
use Rattle.typed_bodies.specs.Reading.{Place, Adds, Stands, known_as}
use Rattle.typed_bodies.specs.Needing.{InScope}
use Rattle.typed_bodies.specs.Marking.{Begins}

-- ---- what a body stands in

-- A field is the same to names, to the rules on annotations and to the body.
pub record IsHeld (p : Place) (around : Surroundings) (field : ℕ) : Type 0 where
  pub holder : Holder
  pub is : slice_get around.fields field ≡ Some holder
  pub of_class : holder.class ≡ class_at p.scope field
  pub to_rules : unwrap_or (slice_get p.marks.classes field) None ≡ Some (class_at p.scope field)
  pub kind : holder.is_partial ≡ not (is_partitioned (kind_at p.marks field))

pub record StandsIn (p : Place) (around : Surroundings) : Type 0 where
  pub context : around.context ≡ p.context
  pub fields : (name : List ℕ) (v : Variable) (field : ℕ) → known_as p name ≡ Some v → v.declaration ≡ declaration.Field field → IsHeld p around field

-- ---- what holds before and behind a statement

-- what was gathered is what waits to be merged
pub record IsGathered (it : Variable) (st : Standing) : Type 0 where
  pub type : SignatureType
  pub found : it.found ≡ wanted_by type
  pub gathered : st.gathered ≡ Some type

-- each variable in scope with a type has a value; a collection has none of its own
abbrev pub Knows : Place → Standing → Type 0
Knows p st = (v : ℕ) → InScope p v → (t : SignatureType) → variable_type p.context v ≡ Some t → is_in v st.known ≡ true

-- the same of what is read alone: a local's own initialiser stands where its name is in scope and has no value yet
abbrev pub KnowsRead : Place → Standing → List ℕ → Type 0
KnowsRead p st reads = (v : ℕ) → is_in v reads ≡ true → InScope p v → (t : SignatureType) → variable_type p.context v ≡ Some t → is_in v st.known ≡ true

-- What is read has values, and what waits was gathered; state is accessed in entry methods alone.
pub record IsReady (p : Place) (around : Surroundings) (u : Walk) (st : Standing) (reads : List ℕ) : Type 0 where
  pub known : KnowsRead p st reads
  pub waits : (a : Awaited) (name : List ℕ) (it : Variable) → u.awaited ≡ Some a → known_as p name ≡ Some it → it.declaration ≡ declaration.Local a.local → IsGathered it st
  pub entry : u.in_entry ≡ true → is_entry around.kind ≡ true

-- ---- where a value goes

-- A target takes values of a type. Behind `@Global` there may be no variable.
abbrev pub Takes : Surroundings → Bool → Target → ExprType → Type 0
Takes around is_global target.Dropped wanted = ⊥
Takes around is_global (target.Variable v) wanted = (t : ValueType) × (wanted ≡ Value t) × (is_global ≡ false → variable_type around.context v ≡ Some (type_by t))
Takes around is_global target.Returned wanted = (t : ValueType) × (wanted ≡ Value t) × (around.result ≡ type_by t)

abbrev pub put_in : Target → Standing → Standing
put_in target.Dropped st = outside st
put_in (target.Variable v) st = with_known v (outside st)
put_in target.Returned st = outside st

-- what holds behind a whole, behind `@Global` with what was gathered
abbrev pub behind_whole : Bool → Target → SignatureType → Standing → Standing
behind_whole true to t st = gathering t st
behind_whole false to t st = put_in to st

-- what is assigned so: nothing behind `@Global`
abbrev pub assigned_by : Bool → Target → List ℕ → List Assigned
assigned_by true to reads = []
assigned_by false to reads = to_target to reads

-- The statement is typed from each standing that is ready for what it reads.
pub record Goes (p : Place) (around : Surroundings) (is_global : Bool) (to : Target) (wanted : ExprType) (u : Walk) (s : Statement) : Type 0 where
  pub reads : List ℕ
  pub assigns : assigned_in s ≡ assigned_by is_global to reads
  pub brings : SignatureType
  pub of_type : is_global ≡ true → (t : ValueType) → wanted ≡ Value t → wanted ≡ wanted_by brings
  pub runs : (exits : Around) (st : Standing) → IsReady p around u st reads → unmarked around s exits st ≡ Some (behind_whole is_global to brings st)

-- ---- what is read of it

-- what the walk of the rules on annotations leaves, before these names
pub record Leaves (p : Place) (u v : Walk) (rest : List Declaration) : Type 0 where
  pub in_entry : v.in_entry ≡ u.in_entry
  pub in_header : v.in_header ≡ u.in_header
  pub locals : v.locals ≡ u.locals
  pub behind : drop v.used p.marks.names ≡ rest
  pub sites : List Site
  pub to_sites : v.sites ≡ u.sites ++ sites

-- The sites that the walk adds are read, and the statement is typed.
pub record IsPut (p : Place) (around : Surroundings) (is_global : Bool) (to : Target) (wanted : ExprType) (u v : Walk) (rest : List Declaration) (c : Cursor) (r : Read Statement) : Type 0 where
  pub leaves : Leaves p u v rest
  pub sites_read : (more : List Site) → c.sites ≡ leaves.sites ++ more → r.cursor.sites ≡ more
  pub goes : (more : List Site) → c.sites ≡ leaves.sites ++ more → Goes p around is_global to wanted u r.it

-- the walk of the rules on types, that of the rules on annotations at a position, and the reading
pub record Puts (p : Place) (around : Surroundings) (is_global : Bool) (to : Target) (wanted : ExprType) (w v : TypesWalk) (marked : Position → Walk → Walk)
    (reading : Cursor → Read Statement) : Type 0 where
  pub added : Adds w v
  pub grows : w.variables ≡ p.known → (position : Position) → is_whole position ≡ true → (u : Walk) → (marked position u).findings ≡ [] → u.findings ≡ []
  pub behind : w.variables ≡ p.known → (c : Cursor) (types : List ExprType) (names : List Declaration) → Stands p c (added.types ++ types) (added.names ++ names)
      → Stands p (reading c).cursor types names
  pub put : w.variables ≡ p.known → (c : Cursor) (types : List ExprType) (names : List Declaration) → Stands p c (added.types ++ types) (added.names ++ names)
      → (position : Position) → is_whole position ≡ true → (u : Walk) → Begins p (marked position) added.names u names
      → IsPut p around is_global to wanted u (marked position u) names c (reading c)
