-- The tree of a class of the straight form.
use Rattle.std.specs.Prelude.{ℕ, true, false, List, [], ◌∷◌, ◌++◌, map, Some, None, codes}
use Rattle.sdg_base.specs.declared.operator.BinOp.TheVariants as bin
use Rattle.java_tree.specs.declared.tree.Class.{Class}
use Rattle.java_tree.specs.declared.tree.Member.{Member}
use Rattle.java_tree.specs.declared.tree.Member.TheVariants as member
use Rattle.java_tree.specs.declared.tree.FieldModifier.TheVariants.{Partitioned}
use Rattle.java_tree.specs.declared.tree.TypeName.TheVariants as type_name
use Rattle.java_tree.specs.declared.tree.ResultType.{ResultType}
use Rattle.java_tree.specs.declared.tree.ResultType.TheVariants as result_type
use Rattle.java_tree.specs.declared.tree.Param.{Param}
use Rattle.java_tree.specs.declared.tree.Method.{Method}
use Rattle.java_tree.specs.declared.tree.BlockItem.{BlockItem}
use Rattle.java_tree.specs.declared.tree.BlockItem.TheVariants as item
use Rattle.java_tree.specs.declared.tree.Stmt.TheVariants as stmt
use Rattle.java_tree.specs.declared.tree.Simple.TheVariants as simple
use Rattle.java_tree.specs.declared.tree.Expr.{Expr}
use Rattle.java_tree.specs.declared.tree.Expr.TheVariants as e
use Rattle.java_tree.specs.declared.tree.Value.{Value, roll-Value}
use Rattle.java_tree.specs.declared.tree.CallForm.{CallForm}
use Rattle.java_tree.specs.declared.tree.CallForm.TheVariants as call
use Rattle.early_forms.specs.declared.straight.Atom.{Atom}
use Rattle.early_forms.specs.declared.straight.Atom.TheVariants.{Literal, Variable}
use Rattle.early_forms.specs.declared.straight.Sum.{Sum}
use Rattle.early_forms.specs.declared.straight.Statement.{Statement}
use Rattle.early_forms.specs.declared.straight.Statement.TheVariants.{Get, Set, Put}
use Rattle.early_forms.specs.declared.straight.Ending.{Ending}
use Rattle.early_forms.specs.declared.straight.Ending.TheVariants as ending
use Rattle.early_forms.specs.declared.straight.StraightMethod.{StraightMethod}
use Rattle.early_forms.specs.declared.straight.StraightClass.{StraightClass}

abbrev pub atom_tree : Atom → Expr
atom_tree (Literal n) = e.Number n true false
atom_tree (Variable name) = e.Name name

-- `+` associates to the left (JLS 15.18).
abbrev pub chain : Expr → List Atom → Expr
chain left [] = left
chain left (atom ∷ atoms) = chain (e.Binary bin.Add left (atom_tree atom)) atoms

-- a sum of one atom is the atom
abbrev pub sum_tree : Sum → Expr
sum_tree s = chain (atom_tree s.first) s.others

abbrev pub plain : Expr → Value
plain x = roll-Value (record { is_global = false; expr = x })

-- a call of a method of the field
abbrev pub access : List ℕ → List ℕ → List Expr → CallForm
access field method args = call.Of field method (map plain args)

abbrev pub got : List ℕ → Sum → Value
got field key = plain (e.Call (access field (codes "get") (sum_tree key ∷ [])))

abbrev pub return_value : Value → BlockItem
return_value v = item.Stmt (stmt.Return (Some v))

abbrev pub long_local : List ℕ → Value → BlockItem
long_local name v = item.Local (record { is_partial = false; type_name = type_name.Long; name = name; value = Some v })

abbrev pub put_statement : List ℕ → Sum → Sum → BlockItem
put_statement field key value = item.Stmt (stmt.Simple (simple.Call false (access field (codes "put") (sum_tree key ∷ sum_tree value ∷ []))))

abbrev pub statement_tree : Statement → BlockItem
statement_tree (Get local field key) = long_local local (got field key)
statement_tree (Set local value) = long_local local (plain (sum_tree value))
statement_tree (Put field key value) = put_statement field key value

abbrev pub ending_tree : Ending → List BlockItem
ending_tree ending.Nothing = []
ending_tree (ending.Get field key) = return_value (got field key) ∷ []
ending_tree (ending.Sum value) = return_value (plain (sum_tree value)) ∷ []

abbrev pub body_tree : List Statement → Ending → List BlockItem
body_tree statements end = map statement_tree statements ++ ending_tree end

abbrev pub result_of : Ending → ResultType
result_of ending.Nothing = result_type.Void
result_of _ = result_type.Type type_name.Long

abbrev pub long_parameter : List ℕ → Param
long_parameter name = record { is_collection = false; type_name = type_name.Long; is_array = false; name = name }

abbrev pub method_tree : StraightMethod → Method
method_tree m =
    record { modifiers = []; result = result_of m.ending; name = m.name; params = map long_parameter m.parameters; body = body_tree m.statements m.ending }

abbrev pub table_member : List ℕ → Member
table_member field = member.Field (record { modifiers = Partitioned ∷ []; type_name = codes "Table"; name = field; maker = codes "Table" })

abbrev pub method_member : StraightMethod → Member
method_member m = member.Method (method_tree m)

abbrev pub class_tree : StraightClass → Class
class_tree c =
    record { «package» = None; imports = []; modifiers = []; name = c.name; members = map table_member c.fields ++ map method_member c.methods; places = c.places }
