-- What is declared in a class.
use Rattle.std.specs.Prelude.{List, [], ◌∷◌, ◌++◌, length, fold, Option}
use Rattle.sdg_base.specs.declared.store.ClassName.{ClassName}
use Rattle.java_tree.specs.declared.tree.Class.{Class}
use Rattle.java_tree.specs.declared.tree.Member.{Member}
use Rattle.java_tree.specs.declared.tree.Member.TheVariants as member
use Rattle.java_tree.specs.declared.types.Declaration.{Declaration}
use Rattle.java_tree.specs.declared.method_kinds.MethodKind.{MethodKind}
use Rattle.java_tree.specs.Kinds.{kind_of}
use Rattle.java_tree.specs.Words.{state_class}
use Rattle.annotations.specs.declared.walk.Env.{Env}
use Rattle.annotations.specs.Kinds.{kinds_of}

abbrev pub with_class : List (Option ClassName) → Member → List (Option ClassName)
with_class classes (member.Field f) = classes ++ state_class f.type_name ∷ []
with_class classes (member.Method m) = classes

-- the class of each field
abbrev pub classes_of : Class → List (Option ClassName)
classes_of c = fold with_class [] c.members

abbrev pub with_method : List MethodKind → Member → List MethodKind
with_method methods (member.Field f) = methods
with_method methods (member.Method m) = methods ++ kind_of m ∷ []

-- what each method is for
abbrev pub methods_of : Class → List MethodKind
methods_of c = fold with_method [] c.members

abbrev pub env_of : Class → List Declaration → Env
env_of c names = record {
  limit = length c.places;
  kinds = kinds_of c;
  classes = classes_of c;
  methods = methods_of c;
  names = names;
}
