-- The methods behind a dot and their signatures, name by name.
use Rattle.std.proofs.Common.{ℕ, Bool, true, false, List, Option, if◌then◌else◌, refl, codes}
use Rattle.std.specs.Str.{bytes_eq}
use Rattle.sdg_base.specs.declared.store.ClassName.{ClassName}
use Rattle.sdg_base.specs.declared.store.ClassName.TheVariants as class_name
use Rattle.sdg_base.specs.Signatures.{Signature, state_method, vector_method}
use Rattle.java_tree.specs.declared.types.ValueType.TheVariants as value_types
use Rattle.java_tree.specs.declared.types.ExprType.TheVariants as types
use Rattle.java_types.specs.declared.methods.Shape.{Shape}
use Rattle.java_types.specs.Methods.{method_of}
use Rattle.java_types.specs.Laws.{Agree}

-- Both ask for the same names in the same order.
choose : (is_it : Bool) (shape others : Option Shape) (signature further : Option Signature) → Agree shape signature → Agree others further → Agree (if is_it then shape else others) (if is_it then signature else further)
choose true shape others signature further this that = this
choose false shape others signature further this that = that

asked : (name other : List ℕ) (shape others : Option Shape) (signature further : Option Signature) → Agree shape signature → Agree others further → Agree (if bytes_eq name other then shape else others) (if bytes_eq name other then signature else further)
asked name other = choose (bytes_eq name other)

pub state_agrees : (class : ClassName) (name : List ℕ) → Agree (method_of (types.State class) name) (state_method class name)
state_agrees class_name.Table name =
    asked name (codes "get") _ _ _ _ refl (asked name (codes "has") _ _ _ _ refl (asked name (codes "put") _ _ _ _ refl (asked name (codes "add") _ _ _ _ refl (asked name (codes "remove") _ _ _ _ refl (asked name (codes "size") _ _ _ _ refl refl)))))
state_agrees class_name.Matrix name =
    asked name (codes "getElement") _ _ _ _ refl (asked name (codes "setElement") _ _ _ _ refl (asked name (codes "addElement") _ _ _ _ refl (asked name (codes "getRow") _ _ _ _ refl (asked name (codes "multiply") _ _ _ _ refl (asked name (codes "size") _ _ _ _ refl refl)))))
state_agrees class_name.Counter name = asked name (codes "get") _ _ _ _ refl (asked name (codes "add") _ _ _ _ refl (asked name (codes "set") _ _ _ _ refl refl))

pub vector_agrees : (name : List ℕ) → Agree (method_of (types.Value value_types.Vector) name) (vector_method name)
vector_agrees name = asked name (codes "size") _ _ _ _ refl (asked name (codes "get") _ _ _ _ refl (asked name (codes "set") _ _ _ _ refl refl))
