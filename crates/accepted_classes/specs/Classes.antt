-- The class that the passes of the front end make of a tree, and what they say of it.
use Rattle.std.specs.Prelude.{◌≡◌, ℕ, ◌≤◌, true, List, [], ◌∷◌, ◌++◌, map, length, slice_get, All, Some, None}
use Rattle.sdg_base.specs.declared.value_type.ValueType.TheVariants as type
use Rattle.java_tree.specs.declared.token.Place.{Place}
use Rattle.java_tree.specs.declared.tree.Class.{Class}
use Rattle.java_tree.specs.declared.tree.Method.{Method}
use Rattle.java_tree.specs.declared.tree.Param.{Param}
use Rattle.java_tree.specs.declared.method_kinds.MethodKind.{MethodKind}
use Rattle.java_tree.specs.declared.method_kinds.MethodKind.TheVariants.{Merge}
use Rattle.java_tree.specs.declared.types.ExprType.TheVariants.{Value, Collection}
use Rattle.java_tree.specs.declared.types.Typed.{Typed}
use Rattle.java_tree.specs.declared.types.ValueType.{ValueType as VariableType}
use Rattle.java_tree.specs.Kinds.{kind_of}
use Rattle.java_tree.specs.Placed.{IsWellPlaced}
use Rattle.java_tree.specs.Tokens.{tokens_of}
use Rattle.java_lexer.specs.Spelling.{Spells}
use Rattle.java_types.specs.Check.{findings_of, types_of}
use Rattle.java_types.specs.Declarations.{param_type}
use Rattle.annotations.specs.declared.class.Annotated.{Annotated}
use Rattle.annotations.specs.Check.{findings_of as annotation_findings, sites_of, first_partial}
use Rattle.annotations.specs.Kinds.{kinds_of}
use Rattle.access_blocks.specs.declared.body.Body.{Body}
use Rattle.access_blocks.specs.declared.body.Holder.{Holder}
use Rattle.access_blocks.specs.declared.body.Program.{Program}
use Rattle.access_blocks.specs.Programs.{fields_in, methods_in, param_variable, program_of}
use Rattle.flat_code.specs.Verified.{IsIdentifier}
use Rattle.body_code.specs.declared.callee.Callee.{Callee}
use Rattle.body_code.specs.ClassCode.{callees_of, result_type}
use Rattle.body_code.specs.Completing.{body_completes}
use Rattle.body_code.specs.Checking.{Standing, IsOne, surroundings, checked_list, at_start, accessing_in, one_by_one}

abbrev pub typed_of : Class → Typed
typed_of class = record { class = class; types = types_of class }

-- the class with its types, the kinds of its fields and its sites
abbrev pub annotated_of : Class → Annotated
annotated_of class = record { typed = typed_of class; kinds = kinds_of class; sites = sites_of (typed_of class); partial = first_partial (typed_of class) }

-- its methods and fields, resolved
abbrev pub resolved_of : Class → Program
resolved_of class = program_of (annotated_of class)

-- ---- names

-- the name of each field and method is a Java identifier
pub record HasIdentifiers (class : Class) : Type 0 where
  pub fields : All IsIdentifier (map (λ f. f.name) (fields_in class.members))
  pub methods : All IsIdentifier (map (λ m. m.name) (methods_in class.members))

-- A text spells the tokens of the class.
pub record IsSpelled (class : Class) : Type 0 where
  pub text : List ℕ
  pub begins : Place
  pub ends : Place
  pub spelled : Spells begins (tokens_of class) ends text
  pub placed : IsWellPlaced class

-- ---- bodies

-- No rule on types and none on annotations has a finding.
pub record IsQuiet (class : Class) : Type 0 where
  pub types : findings_of class ≡ []
  pub annotations : annotation_findings (typed_of class) ≡ []

-- The rules on types know the parameter of a merge method as a collection of its variable's type, and each other one as a value of it.
abbrev pub AreKnownAs : MethodKind → List Param → Type 0
AreKnownAs Merge params = (item : VariableType) × (map param_type params ≡ Collection item ∷ []) × (map param_variable params ≡ item ∷ [])
AreKnownAs _ params = map param_type params ≡ map (λ p. Value (param_variable p)) params

-- A body is of its method's kind and takes its parameters, which are its first variables; a merge method has one.
pub record HasParameters (m : Method) (b : Body) : Type 0 where
  pub kind : b.kind ≡ kind_of m
  pub arity : b.arity ≡ length m.params
  pub others : List VariableType
  pub variables : b.variables ≡ map param_variable m.params ++ others
  pub are_variables : b.arity ≤ length b.variables
  pub one : IsOne b.kind b.arity
  pub known : AreKnownAs b.kind m.params

-- what a body's statements are where they are typed
pub record HasTypedStatements (fields : List Holder) (methods : List Callee) (m : Method) (b : Body) : Type 0 where
  pub after : Standing
  pub checked : checked_list (surroundings fields methods m b) b.statements None (at_start b) ≡ Some after
  pub blocks : (one_by_one (map accessing_in b.statements)).is_right ≡ true
  pub returns : body_completes b.statements ≡ true → result_type m.result ≡ type.Void

-- Each body of the class has typed statements.
abbrev pub AreTypedStatements : Class → Type 0
AreTypedStatements class =
    (n : ℕ) (m : Method) (b : Body) → slice_get (methods_in class.members) n ≡ Some m → slice_get (resolved_of class).methods n ≡ Some b
    → HasTypedStatements (resolved_of class).fields (callees_of class (resolved_of class)) m b
