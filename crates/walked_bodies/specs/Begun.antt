-- Where the body of a method is read, and what both kinds of rules know there.
use Rattle.std.specs.Prelude.{◌≡◌, ℕ, zero, suc, List, [], ◌∷◌, ◌++◌, drop}
use Rattle.java_tree.specs.declared.tree.Class.{Class}
use Rattle.java_tree.specs.declared.tree.Method.{Method}
use Rattle.java_tree.specs.declared.types.Declaration.{Declaration}
use Rattle.java_tree.specs.declared.types.ExprType.{ExprType}
use Rattle.java_types.specs.declared.walk.Walk.{Walk}
use Rattle.java_types.specs.Check.{env_of, types_of}
use Rattle.java_types.specs.Members.{method_walk}
use Rattle.annotations.specs.declared.site.Site.{Site}
use Rattle.annotations.specs.declared.walk.Env.{Env as MarkingEnv}
use Rattle.annotations.specs.declared.walk.Walk.{Walk as MarkingWalk}
use Rattle.annotations.specs.Environment.{env_of as marking_env_of}
use Rattle.annotations.specs.Members as marking
use Rattle.access_blocks.specs.declared.scope.Scope.{Scope}
use Rattle.access_blocks.specs.Cursors.{Cursor}
use Rattle.access_blocks.specs.Programs.{methods_in, scope_of, body_of}
use Rattle.access_blocks.specs.Programs as programs
use Rattle.body_code.specs.ClassCode.{callees_of}
use Rattle.body_code.specs.Checking.{surroundings}
use Rattle.typed_bodies.specs.Bodies.{annotated_of, resolved_of, bare_of}
use Rattle.typed_statements.specs.Points.{Setting}

-- the declarations of the names of a class, as the rules on types find them
abbrev pub names_of : Class → List Declaration
names_of class = (types_of class).names

-- what the rules on annotations know of the class
abbrev pub marks_of : Class → MarkingEnv
marks_of class = marking_env_of class (names_of class)

-- where the body of a method of some number is read, among these methods
abbrev pub cursor_before : Scope → List Method → Cursor → ℕ → Cursor
cursor_before scope [] c n = c
cursor_before scope (m ∷ ms) c zero = c
cursor_before scope (m ∷ ms) c (suc n) = cursor_before scope ms (body_of scope m c).cursor n

-- where the body of a method of the class is read
abbrev pub before : Class → ℕ → Cursor
before class n = cursor_before (scope_of class) (methods_in class.members) (programs.start (annotated_of class)) n

-- the class and a method of it, whose body is read from a cursor on
abbrev pub setting : Class → Method → Cursor → Setting
setting class m c = record {
  env = env_of class;
  marks = marks_of class;
  scope = scope_of class;
  around = surroundings (resolved_of class).fields (callees_of class (resolved_of class)) m (bare_of (scope_of class) m c);
}

-- Neither walk finds anything in a method, and its body is read of as many types, names and sites as the walks pass there.
pub record IsMet (class : Class) (m : Method) (c : Cursor) : Type 0 where
  pub walk : Walk
  pub marks : MarkingWalk
  pub quiet : (method_walk (env_of class) m walk).findings ≡ []
  pub quiet_marks : (marking.method_walk (marks_of class) m marks).findings ≡ []
  pub types : List ExprType
  pub names : List Declaration
  pub more_types : List ExprType
  pub more_names : List Declaration
  pub to_types : (method_walk (env_of class) m walk).types ≡ walk.types ++ types
  pub to_names : (method_walk (env_of class) m walk).names ≡ walk.names ++ names
  pub are_types : c.types ≡ types ++ more_types
  pub are_names : c.names ≡ names ++ more_names
  pub passed : drop marks.used (names_of class) ≡ c.names
  pub sites : List Site
  pub more_sites : List Site
  pub to_sites : (marking.method_walk (marks_of class) m marks).sites ≡ marks.sites ++ sites
  pub are_sites : c.sites ≡ sites ++ more_sites
