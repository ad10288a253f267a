-- What the walk of the rules on types adds over a part of a method, and what is read there as the part is resolved: as many types
-- and names, in the same order.
use Rattle.std.specs.Prelude.{◌≡◌, ℕ, Bool, true, false, not, List, [], ◌∷◌, ◌++◌, map, slice_get, unwrap_or, Option, Some, None}
use Rattle.std.specs.List.{list_all}
use Rattle.java_tree.specs.declared.types.ValueType.{ValueType}
use Rattle.java_tree.specs.declared.types.ExprType.{ExprType}
use Rattle.java_tree.specs.declared.types.ExprType.TheVariants as types
use Rattle.java_tree.specs.declared.types.Declaration.{Declaration}
use Rattle.java_tree.specs.declared.types.Declaration.TheVariants as declaration
use Rattle.java_tree.specs.declared.method_kinds.MethodKind.TheVariants.{Helper, Merge}
use Rattle.sdg_base.specs.declared.value_type.ValueType.TheVariants as type
use Rattle.annotations.specs.declared.walk.Env.{Env as MarkingEnv}
use Rattle.annotations.specs.Walks as marking
use Rattle.java_types.specs.declared.walk.Env.{Env}
use Rattle.java_types.specs.declared.walk.Signature.{Signature}
use Rattle.java_types.specs.declared.walk.Variable.{Variable}
use Rattle.java_types.specs.declared.walk.Walk.{Walk}
use Rattle.java_types.specs.Names.{entry_of}
use Rattle.java_types.specs.Walks.{first_of}
use Rattle.access_blocks.specs.declared.body.Expression.{Expression}
use Rattle.access_blocks.specs.declared.body.Expression.TheVariants as x
use Rattle.access_blocks.specs.declared.scope.Header.{Header}
use Rattle.access_blocks.specs.declared.scope.Scope.{Scope}
use Rattle.access_blocks.specs.Cursors.{Cursor, Read, variable_of}
use Rattle.access_blocks.specs.Programs.{is_merge}
use Rattle.access_blocks.specs.Resolving.{class_at, wanted_by}
use Rattle.body_code.specs.declared.callee.Callee.{Callee}
use Rattle.body_code.specs.Typing.{Context, type_by, type_of}

-- ---- expressions of a type

-- An expression that the rules on types find a type of has it where it stands for a value; a collection is there.
abbrev pub IsOfType : Context → ExprType → Expression → Type 0
IsOfType context types.Unknown a = ⊥
IsOfType context types.Void a = type_of context a ≡ Some type.Void
IsOfType context (types.Value t) a = type_of context a ≡ Some (type_by t)
IsOfType context (types.Collection t) a = context.members ≡ Some (type_by t)
IsOfType context (types.State class) a = ⊥

-- ---- where an expression stands

-- What the rules on types know of the class and of the names in scope, what names are resolved to, and what expressions are typed in.
pub record Place : Type 0 where
  pub env : Env
  pub known : List (List ℕ × Variable)
  pub scope : Scope
  -- the types of the variables so far, and the variable of each local so far
  pub variables : List ValueType
  pub locals : List ℕ
  -- whether each local so far is `@Partial`
  pub partial : List Bool
  pub context : Context
  -- what the rules on annotations know of the class
  pub marks : MarkingEnv

-- a cursor there, with nothing to read
abbrev pub cursor_at : Place → Cursor
cursor_at p = record { names = []; types = []; sites = []; variables = p.variables; locals = p.locals }

abbrev pub merges : Option Header → Bool
merges None = false
merges (Some h) = h.is_merge

-- what stands for a value by itself: a parameter, a local with a variable, or a method that merges nothing
abbrev pub is_plain : Place → Declaration → Bool
is_plain p (declaration.Field n) = false
is_plain p (declaration.Method n) = not (merges (slice_get p.scope.methods n))
is_plain p (declaration.Parameter n) = true
is_plain p (declaration.Local n) = not (unwrap_or (slice_get p.partial n) false)

abbrev pub are_plain : Place → List Declaration → Bool
are_plain p names = list_all (is_plain p) names

abbrev pub known_as : Place → List ℕ → Option Variable
known_as p name = first_of (entry_of name p.known) (entry_of name p.env.fields)

-- A method is known to the rules, to names and to types as the same.
pub record IsOneMethod (p : Place) (s : Signature) : Type 0 where
  pub is_sound : s.is_sound ≡ true
  pub header : Header
  pub is_header : slice_get p.scope.methods s.number ≡ Some header
  pub header_params : header.params ≡ s.params
  pub header_merges : header.is_merge ≡ is_merge s.kind
  pub callee : Callee
  pub is_callee : slice_get p.context.methods s.number ≡ Some callee
  pub kind : callee.kind ≡ s.kind
  pub takes : s.kind ≡ Helper → s.params ≡ map wanted_by callee.params
  pub merged : s.kind ≡ Merge → (item : ValueType) × (s.params ≡ types.Collection item ∷ []) × (callee.params ≡ type_by item ∷ [])
  pub gives : s.result ≡ wanted_by callee.result

abbrev pub is_method : Declaration → Bool
is_method (declaration.Method n) = true
is_method _ = false

-- What the rules on types know of names agrees with what names are resolved to, with the types of that, and with what the rules on
-- annotations know of them.
pub record IsSound (p : Place) : Type 0 where
  pub variables : (name : List ℕ) (v : Variable) → known_as p name ≡ Some v → is_plain p v.declaration ≡ true
      → IsOfType p.context v.found (x.Variable (variable_of (cursor_at p) (Some v.declaration)))
  pub fields : (name : List ℕ) (v : Variable) (field : ℕ) → known_as p name ≡ Some v → v.declaration ≡ declaration.Field field
      → v.found ≡ types.State (class_at p.scope field)
  pub no_methods : (name : List ℕ) (v : Variable) → known_as p name ≡ Some v → is_method v.declaration ≡ false
  pub methods : (name : List ℕ) (s : Signature) → entry_of name p.env.methods ≡ Some s → IsOneMethod p s
  pub merging : (n : ℕ) → merges (slice_get p.scope.methods n) ≡ marking.is_merge (slice_get p.marks.methods n)

-- ---- a walk, and a reading

-- What the walk adds between two points where it has found nothing.
pub record Adds (w v : Walk) : Type 0 where
  pub types : List ExprType
  pub names : List Declaration
  pub no_findings : w.findings ≡ []
  pub to_types : v.types ≡ w.types ++ types
  pub to_names : v.names ≡ w.names ++ names
  pub same_variables : v.variables ≡ w.variables
  pub same_locals : v.locals ≡ w.locals

-- a cursor at a place, before these types and names
pub record Stands (p : Place) (c : Cursor) (types : List ExprType) (names : List Declaration) : Type 0 where
  pub are_types : c.types ≡ types
  pub are_names : c.names ≡ names
  pub are_variables : c.variables ≡ p.variables
  pub are_locals : c.locals ≡ p.locals

-- What is read fits, and the reading goes on before these types and names.
pub record Reads {A : Type 0} (p : Place) (r : Read A) (types : List ExprType) (names : List Declaration) (Fits : A → Type 0) : Type 0 where
  pub behind : Stands p r.cursor types names
  pub fits : Fits r.it

-- A reading goes over what the walk adds and no further, and fits the names there.
abbrev pub InStep : {A : Type 0} {w v : Walk} → Place → Adds w v → (Cursor → Read A) → (List Declaration → A → Type 0) → Type 0
InStep {w = w} p added reading Fits =
    w.variables ≡ p.known → (c : Cursor) (types : List ExprType) (names : List Declaration)
    → Stands p c (added.types ++ types) (added.names ++ names) → Reads p (reading c) types names (Fits added.names)

pub record Follows {A : Type 0} (p : Place) (w v : Walk) (reading : Cursor → Read A) (Fits : List Declaration → A → Type 0) : Type 0 where
  pub added : Adds w v
  pub in_step : InStep p added reading Fits
