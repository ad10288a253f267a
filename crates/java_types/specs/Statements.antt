-- The rules on statements.
use Rattle.std.specs.Prelude.{ℕ, Bool, true, false, not, ◌&&◌, List, length, fold, Option, Some, None}
use Rattle.java_tree.specs.declared.tree.Expr.{Expr}
use Rattle.java_tree.specs.declared.tree.Value.{Value, out-Value}
use Rattle.java_tree.specs.declared.tree.ForInit.{ForInit}
use Rattle.java_tree.specs.declared.tree.ForInit.TheVariants as for_init
use Rattle.java_tree.specs.declared.tree.ForHeader.{ForHeader}
use Rattle.java_tree.specs.declared.tree.BlockItem.{BlockItem}
use Rattle.java_tree.specs.declared.tree.Stmt.{Stmt}
use Rattle.java_tree.specs.declared.tree.BlockItem.TheOpen.{BlockItem-F, Stmt-F}
use Rattle.java_tree.specs.declared.tree.BlockItem.TheOpen as s
use Rattle.java_tree.specs.declared.tree.BlockItem.TheFolds.{fold-BlockItem, fold-Stmt}
use Rattle.java_tree.specs.declared.tree.CallForm.TheOpen.{CallForm-F, Expr-F, Value-F}
use Rattle.java_tree.specs.declared.tree.CallForm.TheOpen as e
use Rattle.java_tree.specs.declared.tree.CallForm.TheFolds.{fold-Expr}
use Rattle.java_tree.specs.declared.types.ExprType.{ExprType}
use Rattle.java_types.specs.declared.walk.Env.{Env}
use Rattle.java_types.specs.declared.walk.Walk.{Walk}
use Rattle.java_types.specs.declared.statements.Around.{Around}
use Rattle.java_types.specs.Fits.{is_void, is_vector, may_be_boolean, fits}
use Rattle.java_types.specs.Walks.{past, noted, left, variable}
use Rattle.java_types.specs.Expressions.{Passing, expr_walk, value_walk}
use Rattle.java_types.specs.Simples.{is_vector_parameter, local, simple_walk, simples}

-- Rule 8.
unfoldable pub condition : Env → Expr → Walk → Walk
condition env x w = let t = expr_walk env x false w in noted (not (may_be_boolean t.found)) w.at 8 t.walk

abbrev pub borrowed_step : Env → Walk → Expr-F Bool Bool Bool → Bool
borrowed_step env w (e.Paren inner) = inner
borrowed_step env w (e.Name name) = is_vector_parameter (variable env w name)
borrowed_step env w (e.Index name at) = true
borrowed_step env w _ = false

-- a parameter of the type of vectors or a member of a collection, also in parentheses
unfoldable pub is_borrowed : Env → Walk → Expr → Bool
is_borrowed env w = fold-Expr Bool Bool Bool (λ call. false) (borrowed_step env w) (λ v. false)

-- Rules 7 and 10: what is returned where a type is wanted.
abbrev pub returned_value : Env → ExprType → Value → ℕ → Passing → Walk
returned_value env wanted v at p =
    noted (is_vector p.given.found && is_borrowed env p.walk (out-Value v).expr) at 10 (noted (not (is_void wanted) && not (fits wanted p.given.found)) at 7 p.walk)

-- Rule 12: a value in a method without a result, or none in another.
abbrev pub returned_walk : Env → ExprType → Option Value → ℕ → Walk → Walk
returned_walk env wanted None at w = past env 1 (noted (not (is_void wanted)) at 12 w)
returned_walk env wanted (Some v) at w =
    let n = noted (is_void wanted) at 12 w in
    past env 1 (returned_value env wanted v n.at (value_walk env v n))

unfoldable pub returned : Env → ExprType → Option Value → Walk → Walk
returned env wanted v w = returned_walk env wanted v w.at (past env 1 w)

abbrev pub init_walk : Env → ForInit → Walk → Walk
init_walk env for_init.Nothing w = past env 1 w
init_walk env (for_init.Local l) w = local env l (past env 1 w)
init_walk env (for_init.Simples all) w = simples env all w

abbrev pub test_walk : Env → Option Expr → Walk → Walk
test_walk env None w = w
test_walk env (Some x) w = condition env x w

-- from `for` to the closing parenthesis
unfoldable pub header_walk : Env → ForHeader → Walk → Walk
header_walk env h w = past env 1 (simples env h.update (test_walk env h.test (past env 1 (init_walk env h.init (past env 1 w)))))

-- A statement is read in a method of some result, and in a loop or outside of one.
abbrev pub Running : Type 0
Running = Around → Walk → Walk

abbrev pub in_loop : Around → Around
in_loop a = record { result = a.result; in_loop = true }

-- What is declared in braces is in scope up to their end.
abbrev pub in_block : Env → List Running → Running
in_block env items a w = left (length w.variables) (past env 1 (fold (λ w i. i a w) (past env 1 w) items))

abbrev pub otherwise : Env → Option Running → Running
otherwise env None a w = w
otherwise env (Some second) a w = second a (past env 1 w)

abbrev pub item_step : Env → BlockItem-F Running Running → Running
item_step env (s.Local l) a w = past env 1 (local env l w)
item_step env (s.Stmt body) a w = body a w

-- Rule 11: `break` and `continue` outside a loop.
abbrev pub jump_walk : Env → Around → Walk → Walk
jump_walk env a w = past env 2 (noted (not a.in_loop) w.at 11 w)

abbrev pub statement_step : Env → Stmt-F Running Running → Running
statement_step env (s.Block items) a w = in_block env items a w
statement_step env s.Empty a w = past env 1 w
statement_step env (s.Simple x) a w = past env 1 (simple_walk env x w)
statement_step env (s.If test first second) a w = otherwise env second a (first a (past env 1 (condition env test (past env 2 w))))
statement_step env (s.While test body) a w = body (in_loop a) (past env 1 (condition env test (past env 2 w)))
statement_step env (s.For header body) a w = left (length w.variables) (body (in_loop a) (header_walk env header w))
statement_step env s.Break a w = jump_walk env a w
statement_step env s.Continue a w = jump_walk env a w
statement_step env (s.Return v) a w = returned env a.result v w

abbrev pub item_walk : Env → BlockItem → Running
item_walk env = fold-BlockItem Running Running (item_step env) (statement_step env)

abbrev pub statement_walk : Env → Stmt → Running
statement_walk env = fold-Stmt Running Running (item_step env) (statement_step env)
