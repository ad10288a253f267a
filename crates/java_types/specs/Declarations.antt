-- The fields and methods of a class.
use Rattle.std.specs.Prelude.{ℕ, Bool, true, false, not, ◌||◌, nat_le, List, [], length, map, fold, Option, Some, None, if◌then◌else◌}
use Rattle.std.specs.List.{list_any}
use Rattle.std.specs.Str.{bytes_eq}
use Rattle.sdg_base.specs.declared.store.ClassName.{ClassName}
use Rattle.java_tree.specs.declared.tree.Member.{Member}
use Rattle.java_tree.specs.declared.tree.Member.TheVariants as member
use Rattle.java_tree.specs.declared.tree.Field.{Field}
use Rattle.java_tree.specs.declared.tree.Method.{Method}
use Rattle.java_tree.specs.declared.tree.Param.{Param}
use Rattle.java_tree.specs.declared.tree.ResultType.{ResultType}
use Rattle.java_tree.specs.declared.tree.ResultType.TheVariants as result_types
use Rattle.java_tree.specs.Kinds.{kind_of}
use Rattle.java_tree.specs.declared.types.ExprType.{ExprType}
use Rattle.java_tree.specs.declared.types.ExprType.TheVariants.{Unknown, Void, Value, Collection, State}
use Rattle.java_tree.specs.declared.types.Declaration.TheVariants as declaration
use Rattle.java_types.specs.declared.walk.Signature.{Signature}
use Rattle.java_types.specs.declared.walk.Variable.{Variable}
use Rattle.java_types.specs.Names.{with_entry}
use Rattle.java_types.specs.Fits.{is_known}
use Rattle.java_types.specs.Walks.{most_fields, most_methods}
use Rattle.java_tree.specs.Words.{state_class, is_reserved}
use Rattle.java_types.specs.Simples.{declared_type}

abbrev pub state_or_none : Option ClassName → ExprType
state_or_none None = Unknown
state_or_none (Some c) = State c

-- A field whose declaration breaks a rule has no type: it has a reserved name, is past the most that there may be, or is
-- made of another class. One of no class of state has none either.
abbrev pub field_type : ℕ → Field → ExprType
field_type number f =
    if is_reserved f.name || (nat_le most_fields number || not (bytes_eq f.type_name f.maker)) then Unknown
    else state_or_none (state_class f.type_name)

abbrev pub result_type : ResultType → ExprType
result_type result_types.Void = Void
result_type (result_types.Type name) = declared_type name

abbrev pub collection_of : ExprType → ExprType
collection_of (Value t) = Collection t
collection_of _ = Unknown

abbrev pub param_type : Param → ExprType
param_type p = if p.is_array then collection_of (declared_type p.type_name) else declared_type p.type_name

-- whether the declaration of a method of this number breaks no rule, by its name, its number and its types
abbrev pub is_sound : ℕ → Method → Bool
is_sound number m =
    not (is_reserved m.name || (nat_le most_methods number || (not (is_known (result_type m.result)) || list_any (λ p. not (is_known (param_type p))) m.params)))

abbrev pub Fields : Type 0
Fields = List (List ℕ × Variable)

abbrev pub Methods : Type 0
Methods = List (List ℕ × Signature)

-- Fields and methods are numbered in text order.
abbrev pub with_field : Fields → Member → Fields
with_field fields (member.Field f) = with_entry f.name (record { declaration = declaration.Field (length fields); found = field_type (length fields) f }) fields
with_field fields (member.Method m) = fields

abbrev pub with_method : Methods → Member → Methods
with_method methods (member.Field f) = methods
with_method methods (member.Method m) =
    with_entry m.name (record { number = length methods; is_sound = is_sound (length methods) m; kind = kind_of m; result = result_type m.result; params = map param_type m.params }) methods

abbrev pub fields_of : List Member → Fields
fields_of = fold with_field []

abbrev pub methods_of : List Member → Methods
methods_of = fold with_method []
