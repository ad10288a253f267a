-- What is known where the body of a method begins: its parameters, and no local.
use Rattle.std.specs.Prelude.{◌≡◌, ℕ, ◌<◌, List, [], slice_get, Some}
use Rattle.java_tree.specs.declared.tree.Class.{Class}
use Rattle.java_tree.specs.declared.tree.Method.{Method}
use Rattle.java_tree.specs.declared.method_kinds.MethodKind.{MethodKind}
use Rattle.java_tree.specs.declared.method_kinds.MethodKind.TheVariants.{Merge}
use Rattle.java_tree.specs.declared.types.Declaration.{Declaration}
use Rattle.java_tree.specs.declared.types.Declaration.TheVariants as declaration
use Rattle.java_tree.specs.declared.types.ExprType.{ExprType}
use Rattle.java_tree.specs.declared.types.ExprType.TheVariants.{Value, Collection}
use Rattle.java_tree.specs.declared.types.ValueType.{ValueType}
use Rattle.java_tree.specs.Kinds.{kind_of}
use Rattle.java_types.specs.declared.walk.Variable.{Variable}
use Rattle.java_types.specs.declared.walk.Walk.{Walk}
use Rattle.java_types.specs.Check.{env_of}
use Rattle.java_types.specs.Members.{params_walk, entered}
use Rattle.java_types.specs.Names.{entry_of}
use Rattle.annotations.specs.declared.walk.Walk.{Walk as MarkingWalk}
use Rattle.annotations.specs.Environment.{env_of as marking_env_of}
use Rattle.annotations.specs.Members.{is_entry}
use Rattle.annotations.specs.Members as marking
use Rattle.access_blocks.specs.declared.body.Body.{Body}
use Rattle.access_blocks.specs.Programs.{methods_in}
use Rattle.accepted_classes.specs.Classes.{resolved_of, IsQuiet}

-- the walk of the rules on types behind the parameters of a method
abbrev pub at_body : Class → Method → Walk → Walk
at_body class m w = params_walk (env_of class) m.params (entered (env_of class) m.name w)

-- the same of the rules on annotations, with the names that they find
abbrev pub at_marked_body : Class → List Declaration → Method → MarkingWalk → MarkingWalk
at_marked_body class names m u = marking.params_walk (marking_env_of class names) m.params (marking.entered (is_entry (kind_of m)) u)

-- The parameter of a merge method is a collection.
abbrev pub known_by : MethodKind → ValueType → ExprType
known_by Merge t = Collection t
known_by _ t = Value t

-- a parameter, which is a variable of the body, and known with its type
pub record IsKnownParameter (b : Body) (v : Variable) : Type 0 where
  pub number : ℕ
  pub is_parameter : v.declaration ≡ declaration.Parameter number
  pub within : number < b.arity
  pub type : ValueType
  pub has_type : slice_get b.variables number ≡ Some type
  pub found : v.found ≡ known_by b.kind type

-- Parameters bring no type, and use no name.
pub record HasNoLocals (w v : Walk) : Type 0 where
  pub locals : v.locals ≡ []
  pub types : v.types ≡ w.types
  pub names : v.names ≡ w.names

-- They use no name and access nothing; nothing is awaited that was not before.
pub record HasNoMarks (m : Method) (u x : MarkingWalk) : Type 0 where
  pub locals : x.locals ≡ []
  pub in_entry : x.in_entry ≡ is_entry (kind_of m)
  pub in_header : x.in_header ≡ u.in_header
  pub used : x.used ≡ u.used
  pub awaited : x.awaited ≡ u.awaited
  pub sites : x.sites ≡ u.sites

-- In a class in which neither the rules on types nor those on annotations find anything, the names in scope where a body begins are
-- those of parameters.
pub record BodiesBeginWithParameters : Type 0 where
  pub parameters : (class : Class) → IsQuiet class → (n : ℕ) (m : Method) (b : Body) → slice_get (methods_in class.members) n ≡ Some m → slice_get (resolved_of class).methods n ≡ Some b
      → (w : Walk) (name : List ℕ) (v : Variable) → entry_of name (at_body class m w).variables ≡ Some v → IsKnownParameter b v
  pub no_locals : (class : Class) (m : Method) (w : Walk) → HasNoLocals w (at_body class m w)
  pub no_marks : (class : Class) (names : List Declaration) (m : Method) (u : MarkingWalk) → HasNoMarks m u (at_marked_body class names m u)
