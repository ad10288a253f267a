-- What the rules on annotations pass in a call that is a whole value or a whole statement.
use Rattle.std.specs.Prelude.{◌≡◌, ℕ, true, false, List, [], ◌∷◌, ◌++◌, drop, is_some, Option, Some, None, ◌⊎◌}
use Rattle.java_tree.specs.declared.method_kinds.MethodKind.TheVariants.{Merge}
use Rattle.java_tree.specs.declared.types.ExprType.{ExprType}
use Rattle.java_tree.specs.declared.types.Declaration.{Declaration}
use Rattle.java_tree.specs.declared.types.Declaration.TheVariants as declaration
use Rattle.java_types.specs.declared.walk.Given.{Given}
use Rattle.java_types.specs.declared.walk.Signature.{Signature}
use Rattle.java_types.specs.Expressions.{param_at}
use Rattle.java_types.specs.Fits.{is_known, may_be_passed}
use Rattle.annotations.specs.declared.position.Position.{Position}
use Rattle.annotations.specs.declared.site.Key.{Key}
use Rattle.annotations.specs.declared.walk.Walk.{Walk}
use Rattle.annotations.specs.Accesses.{is_keyed, is_partitioned, method_at, reach_of}
use Rattle.annotations.specs.Positions.{is_for_global}
use Rattle.annotations.specs.Walks.{kind_at}
use Rattle.access_blocks.specs.declared.body.Access.{Access}
use Rattle.access_blocks.specs.declared.body.Expression.TheVariants as x
use Rattle.access_blocks.specs.declared.resolved.Invoked.{Invoked}
use Rattle.access_blocks.specs.declared.resolved.Invoked.TheVariants as invoked
use Rattle.access_blocks.specs.Resolving.{argument, class_at, wanted_by}
use Rattle.body_code.specs.Typing.{needs, needs_of_all, types_of}
use Rattle.sdg_base.specs.Signatures.{Signature as MethodSignature, state_method}
use Rattle.state_classes.specs.Methods.{signature}
use Rattle.java_types.specs.declared.walk.Variable.{Variable}
use Rattle.typed_bodies.specs.Reading.{Place, IsOneMethod, known_as, are_plain}
use Rattle.typed_bodies.specs.Needing.{IsWithin}
use Rattle.typed_bodies.specs.Marking.{Passed, Merges, IsKey}

-- no state is reached, and nothing is merged
pub record StaysPlain (p : Place) (global : Option ℕ) (names rest : List Declaration) (u v : Walk) : Type 0 where
  pub passed : Passed p u v rest
  pub plain : are_plain p names ≡ true
  pub local : global ≡ None

-- an access to a field, by the method of this name
pub record AccessOf (p : Place) (field : ℕ) (method : List ℕ) (found : ExprType) (i : Invoked) : Type 0 where
  pub access : Access
  pub is : i ≡ invoked.Accesses access
  pub of_field : access.field ≡ field
  pub of_method : MethodSignature
  pub signed : signature (class_at p.scope field) access.method ≡ Some of_method
  pub named : state_method (class_at p.scope field) method ≡ Some of_method
  pub takes : types_of p.context access.args ≡ Some of_method.arguments
  pub gives : found ≡ wanted_by of_method.result
  pub within : IsWithin p (needs_of_all access.args)

-- a field is reached, in an entry method and outside of the header of a loop, by the method of this name
pub record Reaches (p : Place) (position : Position) (global : Option ℕ) (found : ExprType) (i : Invoked) (names rest : List Declaration) (u v : Walk) : Type 0 where
  pub field : ℕ
  pub object : List ℕ
  pub variable : Variable
  pub is_object : known_as p object ≡ Some variable
  pub declared : variable.declaration ≡ declaration.Field field
  pub method : List ℕ
  pub of : AccessOf p field method found i
  pub more : List Declaration
  pub are : names ≡ declaration.Field field ∷ more
  pub plain : are_plain p more ≡ true
  pub entry : u.in_entry ≡ true
  pub header : u.in_header ≡ false
  pub keyed : is_partitioned (kind_at p.marks field) ≡ true → is_keyed (method_at p.marks field method) ≡ true
  pub globally : is_some global ≡ true → is_partitioned (kind_at p.marks field) ≡ false × is_for_global position ≡ true
  pub key : Key
  pub is_key : (a : Access) → i ≡ invoked.Accesses a → IsKey p key (needs (argument a.args 0))
  pub sites : v.sites ≡ u.sites ++ record { field = field; reach = reach_of (kind_at p.marks field) (is_some global) key } ∷ []
  pub in_entry : v.in_entry ≡ u.in_entry
  pub in_header : v.in_header ≡ u.in_header
  pub locals : v.locals ≡ u.locals
  pub awaited : v.awaited ≡ u.awaited
  pub behind : drop v.used p.marks.names ≡ rest

-- a merge method takes the local that waits
pub record MergesAll (p : Place) (global : Option ℕ) (found : ExprType) (i : Invoked) (names rest : List Declaration) (u v : Walk) : Type 0 where
  pub by : Signature
  pub method : IsOneMethod p by
  pub merges : by.kind ≡ Merge
  pub given : Given
  pub fit : may_be_passed (param_at by.params 0) given ≡ true
  pub more : List Declaration
  pub are : names ≡ declaration.Method by.number ∷ more
  pub one : Merges p true given.found more rest u v
  pub is : i ≡ invoked.Value (x.Merge by.number)
  pub gives : is_known given.found ≡ true → found ≡ by.result
  pub local : global ≡ None

abbrev pub IsWhole : Place → Position → Option ℕ → ExprType → Invoked → List Declaration → List Declaration → Walk → Walk → Type 0
IsWhole p position global found i names rest u v =
    StaysPlain p global names rest u v ⊎ (Reaches p position global found i names rest u v ⊎ MergesAll p global found i names rest u v)
