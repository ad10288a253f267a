-- What the rules know of the fields and methods of a class, beside what they are resolved to.
use Rattle.std.specs.Prelude.{◌≡◌, ℕ, Bool, true, false, List, [], ◌∷◌, map, slice_get, Option, Some, None}
use Rattle.java_tree.specs.declared.tree.Class.{Class}
use Rattle.java_tree.specs.declared.method_kinds.MethodKind.TheVariants.{Helper, Merge}
use Rattle.java_tree.specs.declared.types.Declaration.{Declaration}
use Rattle.java_tree.specs.declared.types.Declaration.TheVariants as declaration
use Rattle.java_tree.specs.declared.types.ExprType.TheVariants.{Collection, State}
use Rattle.java_tree.specs.declared.types.ValueType.{ValueType}
use Rattle.java_types.specs.declared.walk.Signature.{Signature}
use Rattle.java_types.specs.declared.walk.Variable.{Variable}
use Rattle.java_types.specs.Check.{env_of}
use Rattle.java_types.specs.Names.{entry_of}
use Rattle.annotations.specs.declared.walk.Env.{Env as MarkingEnv}
use Rattle.annotations.specs.Environment.{env_of as marking_env_of}
use Rattle.annotations.specs.Walks.{kind_at}
use Rattle.annotations.specs.Walks as marking
use Rattle.access_blocks.specs.declared.body.Holder.{Holder}
use Rattle.access_blocks.specs.declared.scope.Header.{Header}
use Rattle.access_blocks.specs.declared.scope.Scope.{Scope}
use Rattle.access_blocks.specs.Programs.{is_merge, is_partial, scope_of}
use Rattle.access_blocks.specs.Resolving.{class_at, wanted_by}
use Rattle.body_code.specs.declared.callee.Callee.{Callee}
use Rattle.body_code.specs.ClassCode.{callees_of}
use Rattle.body_code.specs.Typing.{type_by}
use Rattle.accepted_classes.specs.Classes.{resolved_of, IsQuiet}

-- a method of a sound declaration, which names, callers and both kinds of rules know as the same
pub record IsKnownMethod (scope : Scope) (callees : List Callee) (marks : MarkingEnv) (s : Signature) : Type 0 where
  pub is_sound : s.is_sound ≡ true
  pub header : Header
  pub is_header : slice_get scope.methods s.number ≡ Some header
  pub header_params : header.params ≡ s.params
  pub header_merges : header.is_merge ≡ is_merge s.kind
  pub callee : Callee
  pub is_callee : slice_get callees s.number ≡ Some callee
  pub kind : callee.kind ≡ s.kind
  pub takes : s.kind ≡ Helper → s.params ≡ map wanted_by callee.params
  pub merged : s.kind ≡ Merge → (item : ValueType) × (s.params ≡ Collection item ∷ []) × (callee.params ≡ type_by item ∷ [])
  pub gives : s.result ≡ wanted_by callee.result
  pub marked : slice_get marks.methods s.number ≡ Some s.kind

-- a field, which is known by its number with its class, and held by its class and its kind
pub record IsKnownField (scope : Scope) (holders : List Holder) (marks : MarkingEnv) (v : Variable) : Type 0 where
  pub number : ℕ
  pub is_field : v.declaration ≡ declaration.Field number
  pub found : v.found ≡ State (class_at scope number)
  pub holder : Holder
  pub is_holder : slice_get holders number ≡ Some holder
  pub class : holder.class ≡ class_at scope number
  pub kind : holder.is_partial ≡ is_partial (kind_at marks number)
  pub marked : slice_get marks.classes number ≡ Some (Some (class_at scope number))

-- whether names take it for a merge method
abbrev pub merges : Option Header → Bool
merges None = false
merges (Some h) = h.is_merge

-- In a class in which neither the rules on types nor those on annotations find anything, each name of a field or a method is known
-- as what it is resolved to. Names and the rules on annotations take the same methods for merge methods.
pub record MembersAreKnown : Type 0 where
  pub methods : (class : Class) → IsQuiet class → (names : List Declaration) (name : List ℕ) (s : Signature) → entry_of name (env_of class).methods ≡ Some s
      → IsKnownMethod (scope_of class) (callees_of class (resolved_of class)) (marking_env_of class names) s
  pub fields : (class : Class) → IsQuiet class → (names : List Declaration) (name : List ℕ) (v : Variable) → entry_of name (env_of class).fields ≡ Some v
      → IsKnownField (scope_of class) (resolved_of class).fields (marking_env_of class names) v
  pub merging : (class : Class) (names : List Declaration) (n : ℕ) → merges (slice_get (scope_of class).methods n) ≡ marking.is_merge (slice_get (marking_env_of class names).methods n)
