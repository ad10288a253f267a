-- What holds of the bodies of a class in which no rule has a finding, before marks stand in them.
use Rattle.std.specs.Prelude.{◌≡◌, ℕ, true, List, [], length, map, slice_get, Some}
use Rattle.sdg_base.specs.declared.value_type.ValueType.TheVariants as type
use Rattle.java_tree.specs.declared.tree.Class.{Class}
use Rattle.java_tree.specs.declared.tree.Method.{Method}
use Rattle.java_tree.specs.declared.types.Typed.{Typed}
use Rattle.java_tree.specs.Kinds.{kind_of}
use Rattle.java_types.specs.Check.{findings_of as findings_on_types, types_of}
use Rattle.java_flow.specs.Findings.{findings as findings_on_flow}
use Rattle.annotations.specs.declared.class.Annotated.{Annotated}
use Rattle.annotations.specs.Check.{findings_of as findings_on_annotations, sites_of, first_partial}
use Rattle.annotations.specs.Kinds.{kinds_of}
use Rattle.access_blocks.specs.declared.body.Body.{Body}
use Rattle.access_blocks.specs.declared.body.Holder.{Holder}
use Rattle.access_blocks.specs.declared.body.Program.{Program}
use Rattle.access_blocks.specs.declared.body.Statement.{Statement}
use Rattle.access_blocks.specs.declared.scope.Scope.{Scope}
use Rattle.access_blocks.specs.Cursors.{Cursor, Read}
use Rattle.access_blocks.specs.ResolvingStatements.{list_of, item_of}
use Rattle.access_blocks.specs.Programs as programs
use Rattle.access_blocks.specs.Programs.{scope_of, in_method, body_of, program_of}
use Rattle.body_code.specs.declared.callee.Callee.{Callee}
use Rattle.body_code.specs.ClassCode.{callees_of, result_type}
use Rattle.body_code.specs.Checking.{surroundings, at_start}
use Rattle.body_code.specs.Completing.{body_completes}
use Rattle.marked_bodies.specs.Unmarked.{AreUnmarkedTyped}

-- ---- classes

abbrev pub typed_of : Class → Typed
typed_of class = record { class = class; types = types_of class }

-- No rule on types has a finding, and none on the flow of statements and on annotations.
pub record BreaksNoRule (class : Class) : Type 0 where
  pub types : findings_on_types class ≡ []
  pub flow : findings_on_flow class ≡ []
  pub annotations : findings_on_annotations (typed_of class) ≡ []

-- the class with its types, the kinds of its fields and its sites
abbrev pub annotated_of : Class → Annotated
annotated_of class = record { typed = typed_of class; kinds = kinds_of class; sites = sites_of (typed_of class); partial = first_partial (typed_of class) }

abbrev pub resolved_of : Class → Program
resolved_of class = program_of (annotated_of class)

-- ---- bodies

abbrev pub statements_of : Scope → Method → Cursor → Read (List Statement)
statements_of scope m c = list_of (map (item_of scope (programs.result_type m.result)) m.body) (in_method m c)

abbrev pub bare_by : Method → Read (List Statement) → Body
bare_by m all = record { kind = kind_of m; arity = length m.params; variables = all.cursor.variables; statements = all.it }

-- the body of a method before marks stand in it, read from a cursor on
abbrev pub bare_of : Scope → Method → Cursor → Body
bare_of scope m c = bare_by m (statements_of scope m c)

-- Its statements are typed, and it does not complete normally where a result is due.
pub record IsTypedBare (fields : List Holder) (methods : List Callee) (m : Method) (b : Body) : Type 0 where
  pub statements : AreUnmarkedTyped (surroundings fields methods m b) b.statements (at_start b)
  pub returns : body_completes b.statements ≡ true → result_type m.result ≡ type.Void

-- the body of a method of the class is resolved of one that is typed so
pub record HasTypedBare (class : Class) (n : ℕ) (m : Method) : Type 0 where
  pub before : Cursor
  pub is : slice_get (resolved_of class).methods n ≡ Some (body_of (scope_of class) m before).it
  pub bare : IsTypedBare (resolved_of class).fields (callees_of class (resolved_of class)) m (bare_of (scope_of class) m before)
