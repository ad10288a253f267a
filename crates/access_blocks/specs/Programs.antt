-- The fields and methods of a class, resolved.
use Rattle.std.specs.Prelude.{Bool, true, false, List, [], ◌∷◌, ◌++◌, length, map, fold, unwrap_or, Option, Some, None, if◌then◌else◌}
use Rattle.std.specs.List.{filter_map}
use Rattle.sdg_base.specs.declared.store.ClassName.{ClassName}
use Rattle.sdg_base.specs.declared.store.ClassName.TheVariants.{Table}
use Rattle.java_tree.specs.declared.tree.Class.{Class}
use Rattle.java_tree.specs.declared.tree.Member.{Member}
use Rattle.java_tree.specs.declared.tree.Member.TheVariants as member
use Rattle.java_tree.specs.declared.tree.Field.{Field}
use Rattle.java_tree.specs.declared.tree.Method.{Method}
use Rattle.java_tree.specs.declared.tree.Param.{Param}
use Rattle.java_tree.specs.declared.tree.ResultType.{ResultType}
use Rattle.java_tree.specs.declared.tree.ResultType.TheVariants as result_types
use Rattle.java_tree.specs.declared.method_kinds.MethodKind.{MethodKind}
use Rattle.java_tree.specs.declared.method_kinds.MethodKind.TheVariants.{Entry, Helper, Merge}
use Rattle.java_tree.specs.declared.types.ValueType.{ValueType}
use Rattle.java_tree.specs.declared.types.ExprType.{ExprType}
use Rattle.java_tree.specs.declared.types.ExprType.TheVariants.{Void, Value, Collection}
use Rattle.java_tree.specs.Kinds.{kind_of}
use Rattle.java_tree.specs.Words.{state_class}
use Rattle.annotations.specs.declared.class.Annotated.{Annotated}
use Rattle.annotations.specs.declared.site.FieldKind.{FieldKind}
use Rattle.annotations.specs.declared.site.FieldKind.TheVariants.{Partitioned, Partial}
use Rattle.access_blocks.specs.declared.body.Body.{Body}
use Rattle.access_blocks.specs.declared.body.Holder.{Holder}
use Rattle.access_blocks.specs.declared.body.Program.{Program}
use Rattle.access_blocks.specs.declared.body.Statement.{Statement}
use Rattle.access_blocks.specs.declared.scope.Header.{Header}
use Rattle.access_blocks.specs.declared.scope.Scope.{Scope}
use Rattle.access_blocks.specs.Cursors.{Cursor, Read, read, begin, entered}
use Rattle.access_blocks.specs.ResolvingStatements.{declared_type, list_of, item_of}
use Rattle.access_blocks.specs.Marks.{with_marks}

-- ---- what holds in the whole class

abbrev pub class_of : Field → ClassName
class_of f = unwrap_or (state_class f.type_name) Table

abbrev pub result_type : ResultType → ExprType
result_type result_types.Void = Void
result_type (result_types.Type name) = Value (declared_type name)

-- A merge method takes a collection.
abbrev pub param_type : Param → ExprType
param_type p = if p.is_array then Collection (declared_type p.type_name) else Value (declared_type p.type_name)

abbrev pub is_merge : MethodKind → Bool
is_merge Entry = false
is_merge Helper = false
is_merge Merge = true

abbrev pub header_of : Method → Header
header_of m = record { is_merge = is_merge (kind_of m); params = map param_type m.params; result = result_type m.result }

abbrev pub field_in : Member → Option Field
field_in (member.Field f) = Some f
field_in (member.Method m) = None

abbrev pub method_in : Member → Option Method
method_in (member.Field f) = None
method_in (member.Method m) = Some m

abbrev pub fields_in : List Member → List Field
fields_in = filter_map field_in

abbrev pub methods_in : List Member → List Method
methods_in = filter_map method_in

abbrev pub scope_of : Class → Scope
scope_of c = record { fields = map class_of (fields_in c.members); methods = map header_of (methods_in c.members) }

-- ---- methods

abbrev pub param_variable : Param → ValueType
param_variable p = declared_type p.type_name

abbrev pub in_method : Method → Cursor → Cursor
in_method m c = entered (map param_variable m.params) c

abbrev pub body_by : Method → Read (List Statement) → Read Body
body_by m all = read (record { kind = kind_of m; arity = length m.params; variables = all.cursor.variables; statements = with_marks all.it }) all.cursor

abbrev pub body_of : Scope → Method → Cursor → Read Body
body_of scope m c = body_by m (list_of (map (item_of scope (result_type m.result)) m.body) (in_method m c))

abbrev pub with_method : Scope → Read (List Body) → Method → Read (List Body)
with_method scope before m = let b = body_of scope m before.cursor in read (before.it ++ b.it ∷ []) b.cursor

-- ---- the class

abbrev pub start : Annotated → Cursor
start a = begin a.typed.types.names a.typed.types.exprs a.sites

abbrev pub bodies_of : Annotated → List Body
bodies_of a = (fold (with_method (scope_of a.typed.class)) (read [] (start a)) (methods_in a.typed.class.members)).it

abbrev pub is_partial : FieldKind → Bool
is_partial Partitioned = false
is_partial Partial = true

-- each field beside its kind
abbrev pub holders : List ClassName → List FieldKind → List Holder
holders (c ∷ cs) (k ∷ ks) = record { class = c; is_partial = is_partial k } ∷ holders cs ks
holders _ _ = []

abbrev pub program_of : Annotated → Program
program_of a = record { fields = holders (map class_of (fields_in a.typed.class.members)) a.kinds; methods = bodies_of a }
