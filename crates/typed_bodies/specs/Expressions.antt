-- What is resolved of expressions and calls in which the rules on types find nothing.
use Rattle.std.specs.Prelude.{◌≡◌, ℕ, Bool, true, false, ◌&&◌, ◌||◌, List, [], ◌∷◌, ◌++◌, length, map, fold, drop, Option, Some, None}
use Rattle.std.specs.List.{list_all}
use Rattle.sdg_base.specs.declared.value_type.ValueType.{ValueType as SignatureType}
use Rattle.sdg_base.specs.declared.value_type.ValueType.TheVariants as type
use Rattle.sdg_base.specs.Signatures.{Signature}
use Rattle.state_classes.specs.Methods.{signature}
use Rattle.java_tree.specs.declared.tree.CallForm.{CallForm, out-CallForm}
use Rattle.java_tree.specs.declared.tree.CallForm.TheOpen.{CallForm-F}
use Rattle.java_tree.specs.declared.tree.CallForm.TheOpen as e
use Rattle.java_tree.specs.declared.types.ExprType.{ExprType}
use Rattle.java_tree.specs.declared.types.ExprType.TheVariants.{Void}
use Rattle.java_tree.specs.declared.types.Declaration.{Declaration}
use Rattle.java_tree.specs.declared.types.Declaration.TheVariants as declaration
use Rattle.java_types.specs.declared.walk.Given.{Given}
use Rattle.java_types.specs.Expressions.{param_at}
use Rattle.java_types.specs.Fits.{is_known, is_void, may_be_passed}
use Rattle.annotations.specs.declared.position.Position.{Position}
use Rattle.annotations.specs.declared.position.Position.TheVariants.{Inside, Merged}
use Rattle.annotations.specs.declared.walk.Env.{Env}
use Rattle.annotations.specs.declared.walk.Walk.{Walk}
use Rattle.annotations.specs.Walks.{past, noted_at}
use Rattle.annotations.specs.Positions.{is_whole}
use Rattle.annotations.specs.Expressions as marking
use Rattle.access_blocks.specs.declared.body.Access.{Access}
use Rattle.access_blocks.specs.declared.body.Expression.{Expression}
use Rattle.access_blocks.specs.declared.resolved.Invoked.{Invoked}
use Rattle.access_blocks.specs.declared.resolved.Invoked.TheVariants as invoked
use Rattle.access_blocks.specs.declared.resolved.Resolved.{Resolved}
use Rattle.access_blocks.specs.Resolving.{class_at, wanted_by, argument}
use Rattle.body_code.specs.Typing.{type_of, types_of, variable_type, needs, needs_of_all}
use Rattle.typed_bodies.specs.Reading.{Place, IsOfType, is_plain, are_plain}
use Rattle.typed_bodies.specs.Needing.{IsWithin, IsWithinCall}
use Rattle.typed_bodies.specs.Wholes.{IsWhole}
use Rattle.typed_bodies.specs.Marking.{Begins, Passes, Merges, IsMarked, IsKey}

-- An expression with the type that the rules find, which it has where it is made of plain names; then it reads what is in scope.
-- The rules on annotations pass as many names, which are plain where they find nothing in it as a part of another expression.
pub record IsFound (p : Place) (found : ExprType) (m : marking.Reading) (names : List Declaration) (r : Resolved) : Type 0 where
  pub same : r.found ≡ found
  pub typed : are_plain p names ≡ true → IsOfType p.context found r.expression
  pub within : are_plain p names ≡ true → IsWithin p (needs r.expression)
  pub marked : IsMarked p m.walk found names
  pub key : (u : Walk) (rest : List Declaration) → drop u.used p.marks.names ≡ names ++ rest → IsKey p (m.key u) (needs r.expression)

-- An argument stands as an expression does; a further `@Global` before it would be one too many.
abbrev pub as_reading : marking.Argument → marking.Reading
as_reading a = record { key = a.key; walk = λ position global u. a.walk position (noted_at global 10 u) }

-- ---- calls

-- an element of a vector in a variable is set
pub record SetsElement (p : Place) (found : ExprType) (v : ℕ) (at value : Expression) : Type 0 where
  pub is_void : found ≡ Void
  pub is_vector : variable_type p.context v ≡ Some type.Vector
  pub is_index : type_of p.context at ≡ Some type.Int
  pub is_value : type_of p.context value ≡ Some type.Long

-- the arguments and the answer of an access are those of its method
pub record IsAccess (p : Place) (found : ExprType) (a : Access) : Type 0 where
  pub of_method : Signature
  pub is : signature (class_at p.scope a.field) a.method ≡ Some of_method
  pub takes : types_of p.context a.args ≡ Some of_method.arguments
  pub gives : found ≡ wanted_by of_method.result

abbrev pub IsInvoked : Place → ExprType → Invoked → Type 0
IsInvoked p found (invoked.Value a) = IsOfType p.context found a
IsInvoked p found (invoked.Sets v at value) = SetsElement p found v at value
IsInvoked p found (invoked.Accesses a) = IsAccess p found a

abbrev pub is_access : Invoked → Bool
is_access (invoked.Value a) = false
is_access (invoked.Sets v at value) = false
is_access (invoked.Accesses a) = true

abbrev pub is_field : Declaration → Bool
is_field (declaration.Field n) = true
is_field _ = false

-- A call begins with a name, of a field too.
abbrev pub begins_plainly : Place → List Declaration → Bool
begins_plainly p [] = false
begins_plainly p (d ∷ names) = (is_field d || is_plain p d) && are_plain p names

abbrev pub of_member_layer : {C E V : Type 0} → CallForm-F C E V → Bool
of_member_layer (e.Own name args) = false
of_member_layer (e.Of object name args) = false
of_member_layer (e.OfMember object at name args) = true

-- a call of a method of a member of a collection
abbrev pub is_of_member : CallForm → Bool
is_of_member c = of_member_layer (out-CallForm c)

-- A call with the type that the rules find of it; a member of a collection is not written.
pub record IsCall (p : Place) (of_member : Bool) (found : ExprType) (m : marking.Calling) (names : List Declaration) (i : Invoked) : Type 0 where
  pub typed : (of_member && is_void found) ≡ false → begins_plainly p names ≡ true → IsInvoked p found i
  pub within : begins_plainly p names ≡ true → IsWithinCall p i
  pub grows : (position : Position) (global : Option ℕ) (u : Walk) → (m position global u).findings ≡ [] → u.findings ≡ []
  pub inside : Passes p (m Inside None) false names
  pub no_global : (at : ℕ) (u : Walk) → (m Inside (Some at) u).findings ≡ [] → ⊥
  pub whole : (position : Position) (global : Option ℕ) → is_whole position ≡ true → (u : Walk) (rest : List Declaration) → Begins p (m position global) names u rest
      → IsWhole p position global found i names rest u (m position global u)
  pub begins : are_plain p names ≡ true → begins_plainly p names ≡ true
  pub no_access : are_plain p names ≡ true → is_access i ≡ false

-- ---- arguments

-- what is marked of arguments, with a token before each
abbrev pub all_marked : Env → Position → List marking.Argument → Walk → Walk
all_marked env position ms u = fold (λ w a. a.walk position (past env 1 w)) u ms

-- What is merged is passed for a parameter of this type. It fits where what is before it does.
pub record MergesOne (p : Place) (merging : Bool) (wanted : ExprType) (start fit : Bool) (names rest : List Declaration) (u v : Walk) : Type 0 where
  pub given : Given
  pub merges : Merges p merging given.found names rest u v
  pub may : may_be_passed wanted given ≡ true
  pub holds : start ≡ true → is_known given.found ≡ true → fit ≡ true

-- as many as are passed, and of the types that are wanted
pub record ArePassed (p : Place) (count : ℕ) (fit : Bool) (wanted params : List ExprType) (ms : List marking.Argument) (names : List Declaration) (args : List Expression) : Type 0 where
  pub all : length args ≡ count
  pub fits : are_plain p names ≡ true → fit ≡ true
  pub within : are_plain p names ≡ true → IsWithin p (needs_of_all args)
  pub grows : (position : Position) (u : Walk) → (all_marked p.marks position ms u).findings ≡ [] → u.findings ≡ []
  pub inside : list_all is_known wanted ≡ true → length wanted ≡ count → Passes p (all_marked p.marks Inside ms) false names
  pub merged : count ≡ 1 → (at : ℕ) (merging : Bool) (u : Walk) (rest : List Declaration) → Begins p (all_marked p.marks (Merged at merging) ms) names u rest
      → MergesOne p merging (param_at wanted 0) true fit names rest u (all_marked p.marks (Merged at merging) ms u)
  pub key : (u : Walk) (rest : List Declaration) → drop u.used p.marks.names ≡ names ++ rest → IsKey p (marking.first_key ms u) (needs (argument args 0))
  pub typed : are_plain p names ≡ true → (ts : List SignatureType) → wanted ≡ map wanted_by ts → params ≡ map wanted_by ts
      → length ts ≡ count → types_of p.context args ≡ Some ts
