-- How resolved statements leave, by their form; what simple statements and declarations are resolved to leaves no loop.
use Rattle.std.proofs.Common.{◌≡◌, ℕ, Bool, true, false, not, ◌||◌, List, map, Option, Some, None, sym, ap, ◌∙◌}
use Rattle.sdg_base.specs.declared.operator.BinOp.{BinOp}
use Rattle.java_tree.specs.declared.tree.Local.{Local}
use Rattle.java_tree.specs.declared.tree.Simple.{Simple}
use Rattle.java_tree.specs.declared.tree.Simple.TheVariants as simple
use Rattle.java_tree.specs.declared.tree.Value.{Value as Written, out-Value}
use Rattle.java_tree.specs.declared.types.ExprType.{ExprType}
use Rattle.java_tree.specs.declared.types.ExprType.TheVariants.{Unknown, Value}
use Rattle.java_tree.specs.declared.types.ValueType.{ValueType}
use Rattle.access_blocks.specs.declared.body.Access.{Access}
use Rattle.access_blocks.specs.declared.body.Expression.{Expression}
use Rattle.access_blocks.specs.declared.body.Gather.{Gather}
use Rattle.access_blocks.specs.declared.body.Statement.{Statement, roll-Statement}
use Rattle.access_blocks.specs.declared.body.Statement.TheVariants as statement
use Rattle.access_blocks.specs.declared.body.Statement.TheOpen.{Statement-F}
use Rattle.access_blocks.specs.declared.body.Statement.TheOpen as s
use Rattle.access_blocks.specs.declared.body.Statement.TheFolds.{fold-roll-Statement, map-Statement}
use Rattle.access_blocks.specs.declared.body.Target.{Target}
use Rattle.access_blocks.specs.declared.body.Target.TheVariants as target
use Rattle.access_blocks.specs.declared.resolved.Invoked.{Invoked}
use Rattle.access_blocks.specs.declared.resolved.Invoked.TheVariants as invoked
use Rattle.access_blocks.specs.declared.scope.Scope.{Scope}
use Rattle.access_blocks.specs.Cursors.{Cursor}
use Rattle.access_blocks.specs.Resolving.{converted_to}
use Rattle.access_blocks.specs.ResolvingStatements.{put, accessing, given_to, value_to, initialised, local, operator_of, assigned, simple_of}
use Rattle.body_code.specs.Completing.{Leaving, leaving, completing, breaking, of_second, goes_on, is_returned, leaving_step, leaving_of}

-- ---- by form

from_layer : (layer : Statement-F Statement) {r : Statement} → roll-Statement layer ≡ r → leaving_of r ≡ leaving_step (map-Statement Statement Leaving leaving_of layer)
from_layer layer rolled = ap leaving_of (sym rolled) ∙ fold-roll-Statement Leaving leaving_step layer

pub block_is : (ss : List Statement) → leaving_of (statement.Block ss) ≡ leaving (completing (map leaving_of ss)) (breaking (map leaving_of ss))
block_is ss = from_layer (s.Block ss) (statement.rolls-Block ss)

pub if_is : (test : Expression) (first : Statement) → leaving_of (statement.If test first None) ≡ of_second (leaving_of first) None
if_is test first = from_layer (s.If test first None) (statement.rolls-If test first None)

pub else_is : (test : Expression) (first second : Statement) → leaving_of (statement.If test first (Some second)) ≡ of_second (leaving_of first) (Some (leaving_of second))
else_is test first second = from_layer (s.If test first (Some second)) (statement.rolls-If test first (Some second))

pub loop_is : (start : List Statement) (test : Option Expression) (update : List Statement) (body : Statement)
    → leaving_of (statement.Loop start test update body) ≡ leaving (not (goes_on test) || (leaving_of body).breaks) false
loop_is start test update body = from_layer (s.Loop start test update body) (statement.rolls-Loop start test update body)

pub break_is : leaving_of statement.Break ≡ leaving false true
break_is = from_layer s.Break statement.rolls-Break

pub continue_is : leaving_of statement.Continue ≡ leaving false false
continue_is = from_layer s.Continue statement.rolls-Continue

pub return_is : (x : Option Expression) → leaving_of (statement.Return x) ≡ leaving false false
return_is x = from_layer (s.Return x) (statement.rolls-Return x)

pub access_is : (a : Access) → leaving_of (statement.Access a) ≡ leaving (not (is_returned a.target)) false
access_is a = from_layer (s.Access a) (statement.rolls-Access a)

gather_is : (g : Gather) → leaving_of (statement.Gather g) ≡ leaving true false
gather_is g = from_layer (s.Gather g) (statement.rolls-Gather g)

assign_is : (v : ℕ) (x : Expression) → leaving_of (statement.Assign v x) ≡ leaving true false
assign_is v x = from_layer (s.Assign v x) (statement.rolls-Assign v x)

set_is : (v : ℕ) (at x : Expression) → leaving_of (statement.SetElement v at x) ≡ leaving true false
set_is v at x = from_layer (s.SetElement v at x) (statement.rolls-SetElement v at x)

evaluate_is : (x : Expression) → leaving_of (statement.Evaluate x) ≡ leaving true false
evaluate_is x = from_layer (s.Evaluate x) (statement.rolls-Evaluate x)

-- ---- what leaves no loop

abbrev pub LeavesNoLoop : Statement → Type 0
LeavesNoLoop r = (leaving_of r).breaks ≡ false

none_by : (r : Statement) (completes : Bool) → leaving_of r ≡ leaving completes false → LeavesNoLoop r
none_by r completes is = ap (λ (l : Leaving). l.breaks) is

put_none : (to : Target) (a : Expression) → LeavesNoLoop (put to a)
put_none target.Dropped a = none_by (statement.Evaluate a) true (evaluate_is a)
put_none (target.Variable v) a = none_by (statement.Assign v a) true (assign_is v a)
put_none target.Returned a = none_by (statement.Return (Some a)) false (return_is (Some a))

accessing_none : (is_global : Bool) (to : Target) (a : Access) → LeavesNoLoop (accessing is_global to a)
accessing_none true to a = none_by (accessing true to a) true (gather_is _)
accessing_none false to a = none_by (accessing false to a) (not (is_returned to)) (access_is _)

given_none : (is_global : Bool) (to : Target) (wanted found : ExprType) (i : Invoked) → LeavesNoLoop (given_to is_global to wanted found i)
given_none is_global to wanted found (invoked.Value a) = put_none to (converted_to wanted found a)
given_none is_global to wanted found (invoked.Sets v at a) = none_by (statement.SetElement v at a) true (set_is v at a)
given_none is_global to wanted found (invoked.Accesses a) = accessing_none is_global to a

pub value_none : (scope : Scope) (to : Target) (wanted : ExprType) (v : Written) (c : Cursor) → LeavesNoLoop (value_to scope to wanted v c).it
value_none scope to wanted v c = given_none (out-Value v).is_global to wanted _ _

-- ---- declarations and simple statements

initialised_none : (scope : Scope) (v : ℕ) (t : ValueType) (w : Option Written) (c : Cursor) → LeavesNoLoop (initialised scope v t w c).it
initialised_none scope v t None c = none_by _ true (assign_is v _)
initialised_none scope v t (Some written) c = value_none scope (target.Variable v) (Value t) written c

pub local_none : (scope : Scope) (l : Local) (c : Cursor) → LeavesNoLoop (local scope l c).it
local_none scope l c = initialised_none scope _ _ l.value _

assigned_none : (scope : Scope) (op : Option BinOp) (v : ℕ) (w : Written) (c : Cursor) → LeavesNoLoop (assigned scope op v w c).it
assigned_none scope None v w c = value_none scope (target.Variable v) _ w c
assigned_none scope (Some op) v w c = none_by _ true (assign_is v _)

pub simple_none : (scope : Scope) (x : Simple) (c : Cursor) → LeavesNoLoop (simple_of scope x c).it
simple_none scope (simple.Assign name op v) c = assigned_none scope (operator_of op) _ v _
simple_none scope (simple.PostIncrement name) c = none_by _ true (assign_is _ _)
simple_none scope (simple.PostDecrement name) c = none_by _ true (assign_is _ _)
simple_none scope (simple.PreIncrement name) c = none_by _ true (assign_is _ _)
simple_none scope (simple.PreDecrement name) c = none_by _ true (assign_is _ _)
simple_none scope (simple.Call is_global call) c = given_none is_global target.Dropped Unknown Unknown _

-- ---- what stops

abbrev pub Stops : Statement → Type 0
Stops r = leaving_of r ≡ leaving false false

abbrev pub SetsNothing : Invoked → Type 0
SetsNothing (invoked.Value a) = Unit {0}
SetsNothing (invoked.Sets v at a) = ⊥
SetsNothing (invoked.Accesses a) = Unit {0}

-- What is returned stops, but for what is gathered or set.
pub returned_stops : (wanted found : ExprType) (i : Invoked) → SetsNothing i → Stops (given_to false target.Returned wanted found i)
returned_stops wanted found (invoked.Value a) sets = return_is (Some (converted_to wanted found a))
returned_stops wanted found (invoked.Sets v at a) sets = absurd sets
returned_stops wanted found (invoked.Accesses a) sets = access_is (record a { target = target.Returned })
