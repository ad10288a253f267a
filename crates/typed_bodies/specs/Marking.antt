-- What the walk of the rules on annotations passes in an expression that is a part of another one.
use Rattle.std.specs.Prelude.{◌≡◌, ℕ, Bool, true, false, List, [], ◌∷◌, ◌++◌, drop, slice_get, unwrap_or, is_some, Option, Some, None}
use Rattle.java_tree.specs.declared.types.ExprType.{ExprType}
use Rattle.java_tree.specs.declared.types.ExprType.TheVariants.{State}
use Rattle.java_tree.specs.declared.types.Declaration.{Declaration}
use Rattle.java_tree.specs.declared.types.Declaration.TheVariants as declaration
use Rattle.java_types.specs.declared.walk.Variable.{Variable}
use Rattle.annotations.specs.declared.position.Position.{Position}
use Rattle.annotations.specs.declared.position.Position.TheVariants.{Inside, Merged}
use Rattle.annotations.specs.declared.site.Key.{Key}
use Rattle.annotations.specs.declared.site.Key.TheVariants as key
use Rattle.annotations.specs.declared.walk.Walk.{Walk}
use Rattle.access_blocks.specs.Cursors.{variable_of}
use Rattle.body_code.specs.Typing.{Needs, nothing, variable_alone}
use Rattle.typed_bodies.specs.Reading.{Place, cursor_at, known_as, are_plain}

-- what the walk leaves as it is there
pub record Stays (u v : Walk) : Type 0 where
  pub in_entry : v.in_entry ≡ u.in_entry
  pub in_header : v.in_header ≡ u.in_header
  pub locals : v.locals ≡ u.locals
  pub awaited : v.awaited ≡ u.awaited
  pub sites : v.sites ≡ u.sites

-- It knows the same locals as `@Partial`.
abbrev pub Agrees : Place → Walk → Type 0
Agrees p u = (n : ℕ) → is_some (unwrap_or (slice_get u.locals n) None) ≡ unwrap_or (slice_get p.partial n) false

-- behind some names, before these
pub record Passed (p : Place) (u v : Walk) (rest : List Declaration) : Type 0 where
  pub stays : Stays u v
  pub behind : drop v.used p.marks.names ≡ rest

abbrev pub is_state : ExprType → Bool
is_state (State class) = true
is_state _ = false

-- what is marked of a part: at its position, behind `@Global` at some token or not
abbrev pub Marks : Type 0
Marks = Position → Option ℕ → Walk → Walk

-- a walk that begins before these names, and finds nothing
pub record Begins (p : Place) (walk : Walk → Walk) (names : List Declaration) (u : Walk) (rest : List Declaration) : Type 0 where
  pub agrees : Agrees p u
  pub before : drop u.used p.marks.names ≡ names ++ rest
  pub quiet : (walk u).findings ≡ []

-- A walk passes these names and no others. They stand for values by themselves, but for a field that is the whole.
pub record Passes (p : Place) (walk : Walk → Walk) (is_field : Bool) (names : List Declaration) : Type 0 where
  pub grows : (u : Walk) → (walk u).findings ≡ [] → u.findings ≡ []
  pub passed : (u : Walk) (rest : List Declaration) → Begins p walk names u rest → Passed p u (walk u) rest
  pub plain : (u : Walk) (rest : List Declaration) → Begins p walk names u rest → is_field ≡ false → are_plain p names ≡ true

-- The name of the `@Partial` local that the statement before declares, and no more, for a merge method.
pub record Merges (p : Place) (merging : Bool) (found : ExprType) (names rest : List Declaration) (u v : Walk) : Type 0 where
  pub may : merging ≡ true
  pub local : ℕ
  pub token : ℕ
  pub name : List ℕ
  pub it : Variable
  pub is : known_as p name ≡ Some it
  pub declared : it.declaration ≡ declaration.Local local
  pub of : found ≡ it.found
  pub alone : names ≡ declaration.Local local ∷ []
  pub waits : u.awaited ≡ Some (record { local = local; token = token })
  pub met : v.awaited ≡ None
  pub in_entry : v.in_entry ≡ u.in_entry
  pub in_header : v.in_header ≡ u.in_header
  pub locals : v.locals ≡ u.locals
  pub sites : v.sites ≡ u.sites
  pub behind : drop v.used p.marks.names ≡ rest

-- The same of a part that may stand anywhere. Within another one it does not stand behind `@Global`, and a merge method takes no other
-- one than what may be merged.
pub record IsMarked (p : Place) (marks : Marks) (found : ExprType) (names : List Declaration) : Type 0 where
  pub grows : (position : Position) (global : Option ℕ) (u : Walk) → (marks position global u).findings ≡ [] → u.findings ≡ []
  pub inside : Passes p (marks Inside None) (is_state found) names
  pub no_global : (at : ℕ) (u : Walk) → (marks Inside (Some at) u).findings ≡ [] → ⊥
  pub merged : (at : ℕ) (merging : Bool) (global : Option ℕ) (u : Walk) (rest : List Declaration) → Begins p (marks (Merged at merging) global) names u rest
      → Merges p merging found names rest u (marks (Merged at merging) global u)

-- What a key needs is what it says that it is.
abbrev pub IsKey : Place → Key → Needs → Type 0
IsKey p (key.Literal n) needs = needs ≡ nothing
IsKey p (key.Variable d) needs = needs ≡ variable_alone (variable_of (cursor_at p) (Some d))
IsKey p key.Compound needs = Unit {0}
