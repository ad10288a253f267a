-- The methods of the classes that hold state, and their names.
use Rattle.std.specs.Prelude.{◌≡◌, ℕ, List, [], ◌∷◌, Bool, false, Option, Some, None, map, codes, if◌then◌else◌, unwrap_or}
use Rattle.std.specs.Option.{option_map}
use Rattle.std.specs.Str.{bytes_eq}
use Rattle.sdg_base.specs.declared.store.ClassName.{ClassName}
use Rattle.sdg_base.specs.declared.store.ClassName.TheVariants as class_name
use Rattle.sdg_base.specs.declared.val.Val.{Val}
use Rattle.sdg_base.specs.Signatures.{Signature, state_method}
use Rattle.sdg_base.specs.Types.{type_of}
use Rattle.state_classes.specs.declared.method.Method.{Method}
use Rattle.state_classes.specs.declared.method.Method.TheVariants as method

abbrev pub method_text : Method → List ℕ
method_text method.Get = codes "get"
method_text method.Has = codes "has"
method_text method.Put = codes "put"
method_text method.Add = codes "add"
method_text method.Remove = codes "remove"
method_text method.Size = codes "size"
method_text method.GetElement = codes "getElement"
method_text method.SetElement = codes "setElement"
method_text method.AddElement = codes "addElement"
method_text method.GetRow = codes "getRow"
method_text method.Multiply = codes "multiply"
method_text method.Set = codes "set"

abbrev pub methods_of : ClassName → List Method
methods_of class_name.Table = method.Get ∷ method.Has ∷ method.Put ∷ method.Add ∷ method.Remove ∷ method.Size ∷ []
methods_of class_name.Matrix = method.GetElement ∷ method.SetElement ∷ method.AddElement ∷ method.GetRow ∷ method.Multiply ∷ method.Size ∷ []
methods_of class_name.Counter = method.Get ∷ method.Add ∷ method.Set ∷ []

-- the method with a name, where there is one
abbrev pub named : List ℕ → List Method → Option Method
named name [] = None
named name (m ∷ others) = if bytes_eq name (method_text m) then Some m else named name others

abbrev pub method_named : ClassName → List ℕ → Option Method
method_named class name = named name (methods_of class)

-- what a class says of its method of this name
abbrev pub signature : ClassName → Method → Option Signature
signature class m = state_method class (method_text m)

-- The first argument is the key, or the row, that chooses a part.
abbrev pub is_keyed : ClassName → Method → Bool
is_keyed class m = unwrap_or (option_map (λ s. s.keyed) (signature class m)) false

-- The class has the method, and the arguments are of its types.
pub record IsCallable (class : ClassName) (m : Method) (args : List Val) : Type 0 where
  pub of_class : Signature
  pub is : signature class m ≡ Some of_class
  pub fits : map type_of args ≡ of_class.arguments
