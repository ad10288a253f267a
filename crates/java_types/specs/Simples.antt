-- The rules on declarations of locals, and on statements that are expressions.
use Rattle.std.specs.Prelude.{ℕ, Bool, true, false, not, ◌&&◌, ◌||◌, List, [], ◌∷◌, ◌++◌, length, fold, Option, Some, None, is_some, if◌then◌else◌, codes}
use Rattle.std.specs.Str.{bytes_eq}
use Rattle.sdg_base.specs.declared.operator.BinOp.{BinOp}
use Rattle.sdg_base.specs.declared.operator.BinOp.TheVariants as bin
use Rattle.java_tree.specs.declared.tree.TypeName.{TypeName}
use Rattle.java_tree.specs.declared.tree.AssignOp.{AssignOp}
use Rattle.java_tree.specs.declared.tree.AssignOp.TheVariants as assign
use Rattle.java_tree.specs.declared.tree.Local.{Local}
use Rattle.java_tree.specs.declared.tree.Simple.{Simple}
use Rattle.java_tree.specs.declared.tree.Simple.TheVariants as simple
use Rattle.java_tree.specs.declared.tree.Expr.{Expr, out-Expr}
use Rattle.java_tree.specs.declared.tree.Value.{Value, out-Value}
use Rattle.java_tree.specs.declared.tree.CallForm.{CallForm, out-CallForm}
use Rattle.java_tree.specs.declared.tree.CallForm.TheOpen.{CallForm-F, Expr-F}
use Rattle.java_tree.specs.declared.tree.CallForm.TheOpen as e
use Rattle.java_tree.specs.declared.types.ValueType.{ValueType}
use Rattle.java_tree.specs.declared.types.ExprType.{ExprType}
use Rattle.java_tree.specs.declared.types.ExprType.TheVariants as types
use Rattle.java_tree.specs.declared.types.Declaration.{Declaration}
use Rattle.java_tree.specs.declared.types.Declaration.TheVariants as declaration
use Rattle.java_types.specs.declared.walk.Env.{Env}
use Rattle.java_types.specs.declared.walk.Variable.{Variable}
use Rattle.java_types.specs.declared.walk.Walk.{Walk}
use Rattle.java_types.specs.Fits.{is_known, is_vector, item_type, may_be_number, fits}
use Rattle.java_types.specs.Names.{entry_of, with_entry}
use Rattle.java_types.specs.Walks.{Typing, past, past_if, noted, opened, variable, named}
use Rattle.java_tree.specs.Words.{value_type, is_declared, is_reserved}
use Rattle.java_types.specs.Expressions.{Passing, operated, value_walk, call_walk, typed, past_none}

abbrev pub value_or_none : Option ValueType → ExprType
value_or_none None = types.Unknown
value_or_none (Some t) = types.Value t

-- the type of what is declared so
abbrev pub declared_type : TypeName → ExprType
declared_type name = value_or_none (value_type name)

-- Rules 3 and 5: the type of a local, a parameter or a result, which begins at a token.
unfoldable pub typed_name : Env → ℕ → TypeName → Walk → Typing
typed_name env at name w = record {
  found = declared_type name;
  walk = past env 1 (noted (not (is_known (declared_type name))) at 5 (noted (not (is_declared env.class_name name)) w.at 3 w));
}

-- Rule 2: a local or a parameter, which begins at a token. What is declared twice keeps its first meaning.
unfoldable pub declared : Env → ℕ → List ℕ → Variable → Walk → Walk
declared env at name v w =
    let n = noted (is_some (entry_of name w.variables) || is_reserved name) at 2 w in
    past env 1 (record n { variables = with_entry name v n.variables })

unfoldable pub declared_local : Env → ℕ → List ℕ → ExprType → Walk → Walk
declared_local env at name t w =
    declared env at name (record { declaration = declaration.Local (length w.locals); found = t }) (record w { locals = w.locals ++ t ∷ [] })

abbrev pub is_fresh_layer : {C E V : Type 0} → Expr-F C E V → Bool
is_fresh_layer (e.New name size) = true
is_fresh_layer (e.Call call) = true
is_fresh_layer _ = false

-- A vector comes from `new`, an access or a call, by the form of the expression.
abbrev pub is_fresh : Expr → Bool
is_fresh x = is_fresh_layer (out-Expr x)

-- Rules 7 and 10: what a variable is initialised or assigned with.
unfoldable pub put : ExprType → Passing → Expr → ℕ → Walk
put wanted p x at =
    noted (is_vector wanted && (is_vector p.given.found && not (is_fresh x))) at 10 (noted (not (fits wanted p.given.found)) at 7 p.walk)

abbrev pub is_of_method : Declaration → Bool
is_of_method (declaration.Field n) = false
is_of_method (declaration.Method n) = false
is_of_method (declaration.Parameter n) = true
is_of_method (declaration.Local n) = true

abbrev pub is_parameter : Declaration → Bool
is_parameter (declaration.Field n) = false
is_parameter (declaration.Method n) = false
is_parameter (declaration.Parameter n) = true
is_parameter (declaration.Local n) = false

abbrev pub is_collection : ExprType → Bool
is_collection (types.Collection item) = true
is_collection _ = false

-- A local or a parameter is assigned, unless it is a collection.
abbrev pub target_of : Option Variable → Option Variable
target_of None = None
target_of (Some v) = if is_of_method v.declaration && not (is_collection v.found) then Some v else None

pub record Target : Type 0 where
  pub variable : Option Variable
  pub walk : Walk

-- Rule 9: the variable whose name comes next, in an assignment that begins at a token.
unfoldable pub target : Env → ℕ → List ℕ → Walk → Target
target env at name w =
    let t = target_of (variable env w name) in
    record { variable = t; walk = noted (not (is_some t)) at 9 (named env name w).walk }

abbrev pub type_of : Option Variable → ExprType
type_of None = types.Unknown
type_of (Some v) = v.found

-- Rule 7: `++` or `--` on what is no number.
unfoldable pub stepped : Env → ℕ → List ℕ → Walk → Walk
stepped env at name w =
    let t = target env at name w in
    noted (not (may_be_number (type_of t.variable))) w.at 7 t.walk

abbrev pub is_vector_parameter : Option Variable → Bool
is_vector_parameter None = false
is_vector_parameter (Some v) = is_parameter v.declaration && is_vector v.found

abbrev pub writes_layer : {C E V : Type 0} → Env → Walk → CallForm-F C E V → Bool
writes_layer env w (e.Own name args) = false
writes_layer env w (e.Of object name args) = bytes_eq name (codes "set") && is_vector_parameter (variable env w object)
writes_layer env w (e.OfMember object at name args) = bytes_eq name (codes "set") && is_vector (item_type (type_of (variable env w object)))

-- A parameter or a member of a collection is written.
abbrev pub writes : Env → Walk → CallForm → Bool
writes env w call = writes_layer env w (out-CallForm call)

-- ---- declarations and statements

abbrev pub initialised : Env → ExprType → Option Value → Walk → Walk
initialised env wanted None w = w
initialised env wanted (Some v) w = put wanted (value_walk env v (past env 1 w)) (out-Value v).expr (past env 1 w).at

unfoldable pub local : Env → Local → Walk → Walk
local env l w =
    let t = typed_name env w.at l.type_name (past_if env l.is_partial 2 w) in
    initialised env t.found l.value (declared_local env w.at l.name t.found t.walk)

abbrev pub operator_of : AssignOp → Option BinOp
operator_of assign.Assign = None
operator_of assign.Add = Some bin.Add
operator_of assign.Sub = Some bin.Sub
operator_of assign.Mul = Some bin.Mul
operator_of assign.Div = Some bin.Div
operator_of assign.Rem = Some bin.Rem
operator_of assign.And = Some bin.And
operator_of assign.Or = Some bin.Or
operator_of assign.Xor = Some bin.Xor
operator_of assign.Shl = Some bin.Shl
operator_of assign.Shr = Some bin.Shr
operator_of assign.UShr = Some bin.UShr

-- Of a compound assignment the target is the first operand, and the value the last.
abbrev pub assigned_by : Option BinOp → ℕ → Option Variable → ℕ → Expr → Passing → Walk
assigned_by None at v value_at x p = put (type_of v) (record { given = p.given; walk = noted (is_vector_parameter v) at 10 p.walk }) x value_at
assigned_by (Some op) at v value_at x p =
    (operated op (record { found = type_of v; at = at }) (record { found = p.given.found; at = value_at }) p.walk).walk

unfoldable pub assigned : Env → List ℕ → AssignOp → Value → Walk → Walk
assigned env name op v w =
    let t = target env w.at name w in
    let behind = past env 1 t.walk in
    assigned_by (operator_of op) w.at t.variable behind.at (out-Value v).expr (value_walk env v behind)

unfoldable pub call_alone : Env → Bool → CallForm → Walk → Walk
call_alone env is_global call w =
    let g = past_if env is_global 2 w in
    let n = noted (writes env g call) w.at 10 g in
    (typed n (call_walk env call (opened n))).walk

abbrev pub simple_walk : Env → Simple → Walk → Walk
simple_walk env (simple.Assign name op v) w = assigned env name op v w
simple_walk env (simple.PostIncrement name) w = past env 1 (stepped env w.at name w)
simple_walk env (simple.PostDecrement name) w = past env 1 (stepped env w.at name w)
simple_walk env (simple.PreIncrement name) w = stepped env w.at name (past env 1 w)
simple_walk env (simple.PreDecrement name) w = stepped env w.at name (past env 1 w)
simple_walk env (simple.Call is_global call) w = call_alone env is_global call w

-- simple statements with one token before each, and one where there is none
unfoldable pub simples : Env → List Simple → Walk → Walk
simples env all w = past_none env all (fold (λ w s. simple_walk env s (past env 1 w)) w all)
