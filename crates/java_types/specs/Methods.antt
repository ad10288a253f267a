-- The methods of the classes that hold state and of vectors: the types of their parameters and of their results.
use Rattle.std.specs.Prelude.{ℕ, List, [], ◌∷◌, Option, Some, None, if◌then◌else◌, codes}
use Rattle.std.specs.Str.{bytes_eq}
use Rattle.sdg_base.specs.declared.store.ClassName.TheVariants.{Table, Matrix, Counter}
use Rattle.java_tree.specs.declared.types.ValueType.TheVariants.{Int, Long, Boolean, Vector}
use Rattle.java_tree.specs.declared.types.ExprType.{ExprType}
use Rattle.java_tree.specs.declared.types.ExprType.TheVariants.{Void, Value, State}
use Rattle.java_types.specs.declared.methods.Params.{Params}
use Rattle.java_types.specs.declared.methods.Params.TheVariants as params
use Rattle.java_types.specs.declared.methods.Shape.{Shape}

abbrev pub shape : Params → ExprType → Option Shape
shape ps t = Some (record { params = ps; result = t })

abbrev pub params_of : Params → List ExprType
params_of params.Nothing = []
params_of params.Key = Value Long ∷ []
params_of params.KeyAndValue = Value Long ∷ Value Long ∷ []
params_of params.RowColumnAndValue = Value Long ∷ Value Long ∷ Value Long ∷ []
params_of params.RowAndCount = Value Long ∷ Value Int ∷ []
params_of params.Vector = Value Vector ∷ []
params_of params.Index = Value Int ∷ []
params_of params.IndexAndValue = Value Int ∷ Value Long ∷ []

abbrev pub table_method : List ℕ → Option Shape
table_method name =
    if bytes_eq name (codes "get") then shape params.Key (Value Long)
    else (if bytes_eq name (codes "has") then shape params.Key (Value Boolean)
    else (if bytes_eq name (codes "put") then shape params.KeyAndValue Void
    else (if bytes_eq name (codes "add") then shape params.KeyAndValue Void
    else (if bytes_eq name (codes "remove") then shape params.Key Void
    else (if bytes_eq name (codes "size") then shape params.Nothing (Value Long) else None)))))

abbrev pub matrix_method : List ℕ → Option Shape
matrix_method name =
    if bytes_eq name (codes "getElement") then shape params.KeyAndValue (Value Long)
    else (if bytes_eq name (codes "setElement") then shape params.RowColumnAndValue Void
    else (if bytes_eq name (codes "addElement") then shape params.RowColumnAndValue Void
    else (if bytes_eq name (codes "getRow") then shape params.RowAndCount (Value Vector)
    else (if bytes_eq name (codes "multiply") then shape params.Vector (Value Vector)
    else (if bytes_eq name (codes "size") then shape params.Nothing (Value Long) else None)))))

abbrev pub counter_method : List ℕ → Option Shape
counter_method name =
    if bytes_eq name (codes "get") then shape params.Nothing (Value Long)
    else (if bytes_eq name (codes "add") then shape params.Key Void
    else (if bytes_eq name (codes "set") then shape params.Key Void else None))

abbrev pub vector_method : List ℕ → Option Shape
vector_method name =
    if bytes_eq name (codes "size") then shape params.Nothing (Value Int)
    else (if bytes_eq name (codes "get") then shape params.Index (Value Long)
    else (if bytes_eq name (codes "set") then shape params.IndexAndValue Void else None))

-- the method of this name of what stands before the dot
abbrev pub method_of : ExprType → List ℕ → Option Shape
method_of (State Table) name = table_method name
method_of (State Matrix) name = matrix_method name
method_of (State Counter) name = counter_method name
method_of (Value Vector) name = vector_method name
method_of _ name = None
