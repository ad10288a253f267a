-- Where a statement stands: what the walk of the rules on types and that of the rules on annotations know there, and the cursor
-- from which it is read. They know the same names, as what they are resolved to.
use Rattle.std.specs.Prelude.{◌≡◌, ℕ, ◌<◌, true, not, List, length, map, drop, is_some, slice_get, unwrap_or, Option, Some, None}
use Rattle.sdg_base.specs.declared.value_type.ValueType.{ValueType as SignatureType}
use Rattle.java_tree.specs.declared.types.ValueType.{ValueType}
use Rattle.java_tree.specs.declared.types.ExprType.TheVariants.{Value}
use Rattle.java_tree.specs.declared.types.Declaration.TheVariants as declaration
use Rattle.java_types.specs.declared.walk.Env.{Env}
use Rattle.java_types.specs.declared.walk.Variable.{Variable}
use Rattle.java_types.specs.declared.walk.Walk.{Walk}
use Rattle.annotations.specs.declared.walk.Awaited.{Awaited}
use Rattle.annotations.specs.declared.walk.Env.{Env as MarkingEnv}
use Rattle.annotations.specs.declared.walk.Walk.{Walk as MarkingWalk}
use Rattle.annotations.specs.Accesses.{is_partitioned}
use Rattle.annotations.specs.Walks.{kind_at}
use Rattle.access_blocks.specs.declared.body.Holder.{Holder}
use Rattle.access_blocks.specs.declared.scope.Scope.{Scope}
use Rattle.access_blocks.specs.Cursors.{Cursor, variable_of}
use Rattle.access_blocks.specs.Resolving.{class_at, wanted_by}
use Rattle.body_code.specs.Checking.{Surroundings, Standing, is_entry}
use Rattle.body_code.specs.Early.{is_in}
use Rattle.body_code.specs.Typing.{variable_type}
use Rattle.typed_bodies.specs.Reading.{Place, IsSound, cursor_at, known_as, is_plain}
use Rattle.typed_bodies.specs.Needing.{InScope}

-- ---- points

-- the class, as each walk and the names know it, and the method with all its variables
pub record Setting : Type 0 where
  pub env : Env
  pub marks : MarkingEnv
  pub scope : Scope
  pub around : Surroundings

pub record Point : Type 0 where
  pub types : Walk
  pub marks : MarkingWalk
  pub cursor : Cursor

abbrev pub point : Walk → MarkingWalk → Cursor → Point
point w u c = record { types = w; marks = u; cursor = c }

abbrev pub place_at : Setting → Point → Place
place_at k at = record {
  env = k.env;
  known = at.types.variables;
  scope = k.scope;
  variables = at.cursor.variables;
  locals = at.cursor.locals;
  partial = map is_some at.marks.locals;
  context = k.around.context;
  marks = k.marks;
}

-- a field, with its class and its kind
pub record IsHeld (k : Setting) (field : ℕ) : Type 0 where
  pub holder : Holder
  pub is : slice_get k.around.fields field ≡ Some holder
  pub of_class : holder.class ≡ class_at k.scope field
  pub is_partial : holder.is_partial ≡ not (is_partitioned (kind_at k.marks field))
  pub marked : unwrap_or (slice_get k.marks.classes field) None ≡ Some (class_at k.scope field)

-- What is known there agrees. Each local that is in scope is one of those so far, and its variable has its type. Where a method has
-- a collection, this is its first variable.
pub record Agree (k : Setting) (p : Place) : Type 0 where
  pub sound : IsSound p
  pub held : (name : List ℕ) (v : Variable) (field : ℕ) → known_as p name ≡ Some v → v.declaration ≡ declaration.Field field → IsHeld k field
  pub of_type : (name : List ℕ) (v : Variable) (t : ValueType) → known_as p name ≡ Some v → is_plain p v.declaration ≡ true → v.found ≡ Value t
      → slice_get p.variables (variable_of (cursor_at p) (Some v.declaration)) ≡ Some t
  pub in_range : (name : List ℕ) (v : Variable) (n : ℕ) → known_as p name ≡ Some v → v.declaration ≡ declaration.Local n → n < length p.locals
  pub has_collection : (t : SignatureType) → p.context.members ≡ Some t → 0 < length p.variables

pub record IsPoint (k : Setting) (at : Point) : Type 0 where
  pub agree : Agree k (place_at k at)
  pub same_locals : length at.types.locals ≡ length at.cursor.locals
  pub same_marks : length at.marks.locals ≡ length at.cursor.locals
  pub in_entry : at.marks.in_entry ≡ is_entry k.around.kind
  pub names : drop at.marks.used k.marks.names ≡ at.cursor.names

-- At some point of the class what is known of names is sound.
pub record IsSoundSomewhere (k : Setting) : Type 0 where
  pub point : Point
  pub sound : IsSound (place_at k point)

-- ---- what holds before a statement

-- Each variable of a name in scope has a value; a collection has none of its own.
abbrev pub Knows : Place → Standing → Type 0
Knows p st = (v : ℕ) (t : SignatureType) → InScope p v → variable_type p.context v ≡ Some t → is_in v st.known ≡ true

-- What was gathered is of the type of the local that waits for it.
pub record IsGathered (v : Variable) (st : Standing) : Type 0 where
  pub type : SignatureType
  pub gathered : st.gathered ≡ Some type
  pub found : v.found ≡ wanted_by type

-- The local that waits is one of those so far.
pub record IsAwaited (p : Place) (local : ℕ) (st : Standing) : Type 0 where
  pub within : local < length p.locals
  pub gathered : (name : List ℕ) (v : Variable) → known_as p name ≡ Some v → v.declaration ≡ declaration.Local local → IsGathered v st

abbrev pub Waits : Place → Option Awaited → Standing → Type 0
Waits p awaited st = (local token : ℕ) → awaited ≡ Some (record { local = local; token = token }) → IsAwaited p local st
