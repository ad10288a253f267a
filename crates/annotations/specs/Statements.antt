-- The rules on statements.
use Rattle.std.specs.Prelude.{true, false, List, fold, Option, Some, None}
use Rattle.java_tree.specs.declared.tree.Expr.{Expr}
use Rattle.java_tree.specs.declared.tree.Value.{Value}
use Rattle.java_tree.specs.declared.tree.ForInit.{ForInit}
use Rattle.java_tree.specs.declared.tree.ForInit.TheVariants as for_init
use Rattle.java_tree.specs.declared.tree.ForHeader.{ForHeader}
use Rattle.java_tree.specs.declared.tree.BlockItem.{BlockItem}
use Rattle.java_tree.specs.declared.tree.Stmt.{Stmt}
use Rattle.java_tree.specs.declared.tree.BlockItem.TheOpen.{BlockItem-F, Stmt-F}
use Rattle.java_tree.specs.declared.tree.BlockItem.TheOpen as s
use Rattle.java_tree.specs.declared.tree.BlockItem.TheFolds.{fold-BlockItem, fold-Stmt}
use Rattle.annotations.specs.declared.position.Position.TheVariants.{Whole}
use Rattle.annotations.specs.declared.walk.Env.{Env}
use Rattle.annotations.specs.declared.walk.Walk.{Walk}
use Rattle.annotations.specs.Walks.{past, unmerged}
use Rattle.annotations.specs.Expressions.{inside, expr_of, value_of}
use Rattle.annotations.specs.Simples.{local, simple_walk, simples}

abbrev pub returned : Env → Option Value → Walk → Walk
returned env None w = past env 2 w
returned env (Some v) w = past env 1 ((value_of env v).walk Whole (past env 1 w))

abbrev pub init_walk : Env → ForInit → Walk → Walk
init_walk env for_init.Nothing w = past env 1 w
init_walk env (for_init.Local l) w = unmerged (local env l (past env 1 w))
init_walk env (for_init.Simples all) w = simples env all w

abbrev pub test_walk : Env → Option Expr → Walk → Walk
test_walk env None w = w
test_walk env (Some x) w = inside (expr_of env x) w

-- from `for` to the closing parenthesis
unfoldable pub header_walk : Env → ForHeader → Walk → Walk
header_walk env h w =
    record (past env 1 (simples env h.update (test_walk env h.test (past env 1 (init_walk env h.init (past env 1 (record w { in_header = true }))))))) { in_header = false }

abbrev pub Running : Type 0
Running = Walk → Walk

-- Nothing behind the braces merges what is declared last in them.
abbrev pub in_block : Env → List Running → Running
in_block env items w = past env 1 (unmerged (fold (λ w i. i w) (past env 1 w) items))

abbrev pub otherwise : Env → Option Running → Running
otherwise env None w = w
otherwise env (Some second) w = second (past env 1 w)

abbrev pub item_step : Env → BlockItem-F Running Running → Running
item_step env (s.Local l) w = past env 1 (local env l w)
item_step env (s.Stmt body) w = body w

-- An assignment or a `return` may merge what the statement before declares, and no other statement.
abbrev pub statement_step : Env → Stmt-F Running Running → Running
statement_step env (s.Block items) w = in_block env items (unmerged w)
statement_step env s.Empty w = past env 1 (unmerged w)
statement_step env (s.Simple x) w = past env 1 (unmerged (simple_walk env x w))
statement_step env (s.If test first second) w = otherwise env second (first (past env 1 (inside (expr_of env test) (past env 2 (unmerged w)))))
statement_step env (s.While test body) w = body (past env 1 (inside (expr_of env test) (past env 2 (unmerged w))))
statement_step env (s.For header body) w = body (header_walk env header (unmerged w))
statement_step env s.Break w = past env 2 (unmerged w)
statement_step env s.Continue w = past env 2 (unmerged w)
statement_step env (s.Return v) w = unmerged (returned env v w)

abbrev pub item_walk : Env → BlockItem → Running
item_walk env = fold-BlockItem Running Running (item_step env) (statement_step env)

abbrev pub statement_walk : Env → Stmt → Running
statement_walk env = fold-Stmt Running Running (item_step env) (statement_step env)
