-- The statements of a method, resolved: declarations are assignments, what may be left out is written out, and a call of a
-- method of a field is an access of its own.
use Rattle.std.specs.Prelude.{ℕ, pos, Bool, true, false, List, [], ◌∷◌, ◌++◌, length, map, fold, unwrap_or, Option, Some, None}
use Rattle.sdg_base.specs.declared.operator.BinOp.{BinOp}
use Rattle.sdg_base.specs.declared.operator.BinOp.TheVariants as bin
use Rattle.java_tree.specs.declared.tree.AssignOp.{AssignOp}
use Rattle.java_tree.specs.declared.tree.AssignOp.TheVariants as assign
use Rattle.java_tree.specs.declared.tree.BlockItem.{BlockItem}
use Rattle.java_tree.specs.declared.tree.BlockItem.TheOpen.{BlockItem-F, Stmt-F}
use Rattle.java_tree.specs.declared.tree.BlockItem.TheOpen as s
use Rattle.java_tree.specs.declared.tree.BlockItem.TheFolds.{fold-BlockItem, fold-Stmt}
use Rattle.java_tree.specs.declared.tree.CallForm.{CallForm}
use Rattle.java_tree.specs.declared.tree.CallForm.TheOpen.{Expr-F}
use Rattle.java_tree.specs.declared.tree.CallForm.TheOpen as e
use Rattle.java_tree.specs.declared.tree.Expr.{Expr, out-Expr}
use Rattle.java_tree.specs.declared.tree.ForHeader.{ForHeader}
use Rattle.java_tree.specs.declared.tree.ForInit.{ForInit}
use Rattle.java_tree.specs.declared.tree.ForInit.TheVariants as for_init
use Rattle.java_tree.specs.declared.tree.Local.{Local}
use Rattle.java_tree.specs.declared.tree.Simple.{Simple}
use Rattle.java_tree.specs.declared.tree.Simple.TheVariants as simple
use Rattle.java_tree.specs.declared.tree.Stmt.{Stmt}
use Rattle.java_tree.specs.declared.tree.Value.{Value as Written, out-Value}
use Rattle.java_tree.specs.declared.types.ValueType.{ValueType}
use Rattle.java_tree.specs.declared.types.ValueType.TheVariants.{Int, Long, Boolean, Vector}
use Rattle.java_tree.specs.declared.types.ExprType.{ExprType}
use Rattle.java_tree.specs.declared.types.ExprType.TheVariants.{Unknown, Value}
use Rattle.java_tree.specs.Words.{value_type}
use Rattle.java_tree.specs.declared.tree.TypeName.{TypeName}
use Rattle.access_blocks.specs.declared.body.Access.{Access}
use Rattle.access_blocks.specs.declared.body.Expression.{Expression}
use Rattle.access_blocks.specs.declared.body.Expression.TheVariants as x
use Rattle.access_blocks.specs.declared.body.Statement.{Statement}
use Rattle.access_blocks.specs.declared.body.Statement.TheVariants as statement
use Rattle.access_blocks.specs.declared.body.Target.{Target}
use Rattle.access_blocks.specs.declared.body.Target.TheVariants as target
use Rattle.access_blocks.specs.declared.resolved.Invoked.{Invoked}
use Rattle.access_blocks.specs.declared.resolved.Invoked.TheVariants as invoked
use Rattle.access_blocks.specs.declared.resolved.Resolved.{Resolved}
use Rattle.access_blocks.specs.declared.resolved.Whole.{Whole}
use Rattle.access_blocks.specs.declared.scope.Scope.{Scope}
use Rattle.access_blocks.specs.Cursors.{Cursor, Read, read, type_here, behind_type, name_here, behind_name, variable_of, type_of, declared}
use Rattle.access_blocks.specs.Resolving.{converted_to, resolved, is_long, operated, operated_type, expression_of, call_of}

-- what does nothing
abbrev pub nothing : Statement
nothing = statement.Block []

-- ---- values

-- what stands in the place of a value: an expression, or a call of a method of a field
abbrev pub whole_call : Read Invoked → ExprType → Read Whole
whole_call r t = read (record { invoked = r.it; found = t }) r.cursor

abbrev pub whole_call_of : Scope → CallForm → Cursor → Read Whole
whole_call_of scope call c = whole_call (call_of scope call (behind_type c)) (type_here c)

abbrev pub whole_resolved : Resolved → Whole
whole_resolved r = record { invoked = invoked.Value r.expression; found = r.found }

abbrev pub whole_expression : Read Resolved → Read Whole
whole_expression r = read (whole_resolved r.it) r.cursor

abbrev pub whole_in : Scope → Expr → Expr-F CallForm Expr Written → Cursor → Read Whole
whole_in scope a (e.Call call) c = whole_call_of scope call c
whole_in scope a layer c = whole_expression (expression_of scope a c)

abbrev pub whole_of : Scope → Written → Cursor → Read Whole
whole_of scope v = whole_in scope (out-Value v).expr (out-Expr (out-Value v).expr)

-- an expression goes to its target
abbrev pub put : Target → Expression → Statement
put target.Dropped a = statement.Evaluate a
put (target.Variable v) a = statement.Assign v a
put target.Returned a = statement.Return (Some a)

-- Behind `@Global` an access is of each instance.
abbrev pub accessing : Bool → Target → Access → Statement
accessing true to a = statement.Gather (record { field = a.field; method = a.method; args = a.args })
accessing false to a = statement.Access (record a { target = to })

abbrev pub given_to : Bool → Target → ExprType → ExprType → Invoked → Statement
given_to is_global to wanted found (invoked.Value a) = put to (converted_to wanted found a)
given_to is_global to wanted found (invoked.Sets v at a) = statement.SetElement v at a
given_to is_global to wanted found (invoked.Accesses a) = accessing is_global to a

-- a value that goes to a target of some type
abbrev pub value_to : Scope → Target → ExprType → Written → Cursor → Read Statement
value_to scope to wanted v c =
    let w = whole_of scope v c in
    read (given_to (out-Value v).is_global to wanted w.it.found w.it.invoked) w.cursor

-- ---- declarations

-- the type of what is declared so
abbrev pub declared_type : TypeName → ValueType
declared_type name = unwrap_or (value_type name) Int

-- what a local without initialiser starts with
abbrev pub start_expression : ValueType → Expression
start_expression Int = x.Int (pos 0)
start_expression Long = x.Long (pos 0)
start_expression Boolean = x.Bool false
start_expression Vector = x.NewVector (x.Int (pos 0))

abbrev pub initialised : Scope → ℕ → ValueType → Option Written → Cursor → Read Statement
initialised scope v t None c = read (statement.Assign v (start_expression t)) c
initialised scope v t (Some written) c = value_to scope (target.Variable v) (Value t) written c

-- Its scope begins with its own initialiser (JLS 6.3).
abbrev pub local : Scope → Local → Cursor → Read Statement
local scope l c = initialised scope (length c.variables) (declared_type l.type_name) l.value (declared l.is_partial (declared_type l.type_name) c)

-- ---- simple statements

abbrev pub operator_of : AssignOp → Option BinOp
operator_of assign.Assign = None
operator_of assign.Add = Some bin.Add
operator_of assign.Sub = Some bin.Sub
operator_of assign.Mul = Some bin.Mul
operator_of assign.Div = Some bin.Div
operator_of assign.Rem = Some bin.Rem
operator_of assign.And = Some bin.And
operator_of assign.Or = Some bin.Or
operator_of assign.Xor = Some bin.Xor
operator_of assign.Shl = Some bin.Shl
operator_of assign.Shr = Some bin.Shr
operator_of assign.UShr = Some bin.UShr

-- the variable that a statement changes
abbrev pub variable : Cursor → ℕ → Resolved
variable c v = resolved (x.Variable v) (type_of c v)

-- `x op= e` is `x = (T) (x op e)` with the type of x (JLS 15.26.2).
abbrev pub compounded : BinOp → ℕ → Resolved → Resolved → Statement
compounded op v old a = statement.Assign v (converted_to old.found (operated_type op old.found a.found) (operated op old a))

abbrev pub compound : Scope → BinOp → ℕ → Written → Cursor → Read Statement
compound scope op v written c =
    let a = expression_of scope (out-Value written).expr c in
    read (compounded op v (variable c v) a.it) a.cursor

abbrev pub assigned : Scope → Option BinOp → ℕ → Written → Cursor → Read Statement
assigned scope None v written c = value_to scope (target.Variable v) (type_of c v) written c
assigned scope (Some op) v written c = compound scope op v written c

abbrev pub one : Bool → Expression
one true = x.Long (pos 1)
one false = x.Int (pos 1)

abbrev pub step_of : BinOp → ℕ → ExprType → Statement
step_of op v t = statement.Assign v (x.Binary op (x.Variable v) (one (is_long t)))

-- `++` and `--` (JLS 15.14, 15.15)
abbrev pub stepped : BinOp → Cursor → Read Statement
stepped op c =
    let v = variable_of c (name_here c) in
    read (step_of op v (type_of c v)) (behind_name c)

abbrev pub called_alone : Scope → Bool → CallForm → Cursor → Read Statement
called_alone scope is_global call c =
    let r = call_of scope call (behind_type c) in
    read (given_to is_global target.Dropped Unknown Unknown r.it) r.cursor

abbrev pub simple_of : Scope → Simple → Cursor → Read Statement
simple_of scope (simple.Assign name op v) c = assigned scope (operator_of op) (variable_of c (name_here c)) v (behind_name c)
simple_of scope (simple.PostIncrement name) c = stepped bin.Add c
simple_of scope (simple.PostDecrement name) c = stepped bin.Sub c
simple_of scope (simple.PreIncrement name) c = stepped bin.Add c
simple_of scope (simple.PreDecrement name) c = stepped bin.Sub c
simple_of scope (simple.Call is_global call) c = called_alone scope is_global call c

-- ---- lists

abbrev pub Stating : Type 0
Stating = Cursor → Read Statement

abbrev pub listed : Read (List Statement) → Stating → Read (List Statement)
listed before part = let r = part before.cursor in read (before.it ++ r.it ∷ []) r.cursor

abbrev pub list_of : List Stating → Cursor → Read (List Statement)
list_of parts c = fold listed (read [] c) parts

-- ---- statements

abbrev pub condition : Scope → Option Expr → Cursor → Read (Option Expression)
condition scope None c = read None c
condition scope (Some a) c = let r = expression_of scope a c in read (Some r.it.expression) r.cursor

abbrev pub init_of : Scope → ForInit → Cursor → Read (List Statement)
init_of scope for_init.Nothing c = read [] c
init_of scope (for_init.Local l) c = list_of (local scope l ∷ []) c
init_of scope (for_init.Simples all) c = list_of (map (simple_of scope) all) c

-- the update of a `for`: the empty statement where none is written, so that a loop without an update is a `while`
abbrev pub update_of : Scope → List Simple → Cursor → Read (List Statement)
update_of scope [] c = read (nothing ∷ []) c
update_of scope (first ∷ others) c = list_of (map (simple_of scope) (first ∷ others)) c

-- In the text the update stands before the body.
abbrev pub for_of : Scope → ForHeader → Stating → Cursor → Read Statement
for_of scope h body c =
    let start = init_of scope h.init c in
    let test = condition scope h.test start.cursor in
    let update = update_of scope h.update test.cursor in
    let inner = body update.cursor in
    read (statement.Loop start.it test.it update.it inner.it) inner.cursor

abbrev pub while_of : Scope → Expr → Stating → Cursor → Read Statement
while_of scope test body c =
    let holds = expression_of scope test c in
    let inner = body holds.cursor in
    read (statement.Loop [] (Some holds.it.expression) [] inner.it) inner.cursor

abbrev pub second_of : Option Stating → Cursor → Read (Option Statement)
second_of None c = read None c
second_of (Some part) c = let r = part c in read (Some r.it) r.cursor

abbrev pub if_of : Scope → Expr → Stating → Option Stating → Cursor → Read Statement
if_of scope test first second c =
    let holds = expression_of scope test c in
    let a = first holds.cursor in
    let b = second_of second a.cursor in
    read (statement.If holds.it.expression a.it b.it) b.cursor

abbrev pub return_of : Scope → ExprType → Option Written → Cursor → Read Statement
return_of scope wanted None c = read (statement.Return None) c
return_of scope wanted (Some v) c = value_to scope target.Returned wanted v c

abbrev pub block_of : List Stating → Cursor → Read Statement
block_of items c = let all = list_of items c in read (statement.Block all.it) all.cursor

abbrev pub item_step : Scope → BlockItem-F Stating Stating → Stating
item_step scope (s.Local l) c = local scope l c
item_step scope (s.Stmt body) c = body c

-- in a method with a result of some type
abbrev pub statement_step : Scope → ExprType → Stmt-F Stating Stating → Stating
statement_step scope wanted (s.Block items) c = block_of items c
statement_step scope wanted s.Empty c = read nothing c
statement_step scope wanted (s.Simple a) c = simple_of scope a c
statement_step scope wanted (s.If test first second) c = if_of scope test first second c
statement_step scope wanted (s.While test body) c = while_of scope test body c
statement_step scope wanted (s.For h body) c = for_of scope h body c
statement_step scope wanted s.Break c = read statement.Break c
statement_step scope wanted s.Continue c = read statement.Continue c
statement_step scope wanted (s.Return v) c = return_of scope wanted v c

abbrev pub item_of : Scope → ExprType → BlockItem → Stating
item_of scope wanted = fold-BlockItem Stating Stating (item_step scope) (statement_step scope wanted)

abbrev pub statement_of : Scope → ExprType → Stmt → Stating
statement_of scope wanted = fold-Stmt Stating Stating (item_step scope) (statement_step scope wanted)
