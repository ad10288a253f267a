-- The walk of the rules on annotations only adds findings: over statements.
use Rattle.std.proofs.Common.{◌≡◌, ℕ, Bool, true, false, List, [], ◌∷◌, length, map, fold, Option, None, Some, sym, subst}
use Rattle.java_tree.specs.declared.tree.Local.{Local}
use Rattle.java_tree.specs.declared.tree.Simple.{Simple}
use Rattle.java_tree.specs.declared.tree.Simple.TheVariants as simple
use Rattle.java_tree.specs.declared.tree.ForInit.{ForInit}
use Rattle.java_tree.specs.declared.tree.ForInit.TheVariants as for_init
use Rattle.java_tree.specs.declared.tree.ForHeader.{ForHeader}
use Rattle.java_tree.specs.declared.tree.Expr.{Expr}
use Rattle.java_tree.specs.declared.tree.Value.{Value}
use Rattle.java_tree.specs.declared.tree.BlockItem.{BlockItem, roll-BlockItem}
use Rattle.java_tree.specs.declared.tree.Stmt.{Stmt, roll-Stmt}
use Rattle.java_tree.specs.declared.tree.BlockItem.TheOpen.{BlockItem-F, Stmt-F}
use Rattle.java_tree.specs.declared.tree.BlockItem.TheOpen as s
use Rattle.java_tree.specs.declared.tree.BlockItem.TheFolds.{fold-roll-BlockItem, fold-roll-Stmt, ind-BlockItem, map-BlockItem, map-Stmt}
use Rattle.annotations.specs.declared.position.Position.TheVariants.{Inside, Whole, Statement}
use Rattle.annotations.specs.declared.walk.Env.{Env}
use Rattle.annotations.specs.declared.walk.Walk.{Walk}
use Rattle.annotations.specs.Walks.{past, unmerged}
use Rattle.annotations.specs.Positions.{assigned_by, initialiser_of}
use Rattle.annotations.specs.Expressions.{inside, expr_of}
use Rattle.annotations.specs.Simples.{initialised, declared, awaiting, local, simple_walk, simples}
use Rattle.annotations.specs.Statements.{returned, init_walk, test_walk, header_walk, Running, in_block, item_step, statement_step, item_walk, statement_walk}
use Rattle.java_types.proofs.Lists.{map_map}
use Rattle.accepted_classes.proofs.RuledExpressions.{Back, here, after, noted_back, past_back, past_if_back, past_none_back, unmerged_back, named_back, fold_back, expression_back, value_back, call_back}

-- ---- declarations and simple statements

initialised_back : (env : Env) (is_partial : Bool) (at : ℕ) (v : Option Value) (w : Walk) → Back w (initialised env is_partial at v w)
initialised_back env is_partial at None w = noted_back is_partial at 7 w
initialised_back env is_partial at (Some v) w = after (past_back env 1 w) (after (noted_back _ at 7 _) (value_back env v (initialiser_of is_partial) _))

declared_back : (env : Env) (is_partial : Bool) (at : ℕ) (w : Walk) → Back w (declared env is_partial at w)
unfolding declared
declared_back env is_partial at w = after (record { back = λ q. q }) (after (past_if_back env is_partial 2 _) (past_back env 2 _))

awaiting_back : (is_partial : Bool) (n at : ℕ) (w : Walk) → Back w (awaiting is_partial n at w)
unfolding awaiting
awaiting_back true n at w = record { back = λ q. q }
awaiting_back false n at w = here w

local_back : (env : Env) (l : Local) (w : Walk) → Back w (local env l w)
unfolding local
local_back env l w =
    after (declared_back env l.is_partial w.at w) (after (initialised_back env l.is_partial w.at l.value _) (after (unmerged_back _) (awaiting_back l.is_partial (length w.locals) w.at _)))

simple_back : (env : Env) (x : Simple) (w : Walk) → Back w (simple_walk env x w)
simple_back env (simple.Assign name op v) w = after (named_back env w) (after (past_back env 1 _) (value_back env v (assigned_by op) _))
simple_back env (simple.PostIncrement name) w = after (named_back env w) (past_back env 1 _)
simple_back env (simple.PostDecrement name) w = after (named_back env w) (past_back env 1 _)
simple_back env (simple.PreIncrement name) w = after (past_back env 1 w) (named_back env _)
simple_back env (simple.PreDecrement name) w = after (past_back env 1 w) (named_back env _)
simple_back env (simple.Call is_global call) w = after (past_if_back env is_global 2 w) (call_back env call Statement _ _)

simples_back : (env : Env) (all : List Simple) (w : Walk) → Back w (simples env all w)
unfolding simples
simples_back env all w =
    after (fold_back (λ w x. simple_walk env x (past env 1 w)) (λ u x. after (past_back env 1 u) (simple_back env x (past env 1 u))) all w) (past_none_back env all _)

-- ---- statements

init_back : (env : Env) (i : ForInit) (w : Walk) → Back w (init_walk env i w)
init_back env for_init.Nothing w = past_back env 1 w
init_back env (for_init.Local l) w = after (past_back env 1 w) (after (local_back env l _) (unmerged_back _))
init_back env (for_init.Simples all) w = simples_back env all w

inside_back : (env : Env) (x : Expr) (w : Walk) → Back w (inside (expr_of env x) w)
inside_back env x w = expression_back env x Inside None w

test_back : (env : Env) (test : Option Expr) (w : Walk) → Back w (test_walk env test w)
test_back env None w = here w
test_back env (Some x) w = inside_back env x w

header_back : (env : Env) (h : ForHeader) (w : Walk) → Back w (header_walk env h w)
unfolding header_walk
header_back env h w =
    let s = after (past_back env 1 _) (after (init_back env h.init _) (after (past_back env 1 _) (after (test_back env h.test _) (after (simples_back env h.update _) (past_back env 1 _))))) in
    record { back = s.back }

returned_back : (env : Env) (v : Option Value) (w : Walk) → Back w (returned env v w)
returned_back env None w = past_back env 2 w
returned_back env (Some v) w = after (past_back env 1 w) (after (value_back env v Whole _) (past_back env 1 _))

abbrev pub RunsBack : Running → Type 0
RunsBack run = (w : Walk) → Back w (run w)

items_back : {A : Type 0} (item : A → Running) → ((x : A) → RunsBack (item x)) → (xs : List A) (w : Walk) → Back w (fold (λ w i. i w) w (map item xs))
items_back item each [] w = here w
items_back item each (x ∷ xs) w = after (each x w) (items_back item each xs (item x w))

pub block_back : {A : Type 0} (env : Env) (item : A → Running) → ((x : A) → RunsBack (item x)) → (xs : List A) → RunsBack (in_block env (map item xs))
block_back env item each xs w = after (past_back env 1 w) (after (items_back item each xs _) (after (unmerged_back _) (past_back env 1 _)))

module _ (env : Env) where
  abbrev pub ItemBack : BlockItem → Type 0
  ItemBack i = RunsBack (item_walk env i)

  abbrev StatementBack : Stmt → Type 0
  StatementBack x = RunsBack (statement_walk env x)

  abbrev Item : Type 0
  Item = (i : BlockItem) × ItemBack i

  abbrev Part : Type 0
  Part = (x : Stmt) × StatementBack x

  abbrev walks : Stmt-F BlockItem Stmt → Stmt-F Running Running
  walks = map-Stmt BlockItem Stmt Running Running (item_walk env) (statement_walk env)

  abbrev bare : Stmt-F Item Part → Stmt-F BlockItem Stmt
  bare = map-Stmt Item Part BlockItem Stmt (λ i. i.0) (λ x. x.0)

  block_layer : (items : List Item) → RunsBack (in_block env (map (item_walk env) (map (λ i. i.0) items)))
  block_layer items =
      let Q : List Running → Type 0 = λ runs. RunsBack (in_block env runs) in
      subst Q (sym (map_map (item_walk env) (λ (i : Item). i.0) items)) (block_back env (λ (i : Item). item_walk env i.0) (λ i. i.1) items)

  condition_back : (test : Expr) (w : Walk) → Back w (past env 1 (inside (expr_of env test) (past env 2 (unmerged w))))
  condition_back test w = after (unmerged_back w) (after (past_back env 2 _) (after (inside_back env test _) (past_back env 1 _)))

  statement_layer : (y : Stmt-F Item Part) → RunsBack (statement_step env (walks (bare y)))
  statement_layer (s.Block items) w = after (unmerged_back w) (block_layer items _)
  statement_layer s.Empty w = after (unmerged_back w) (past_back env 1 _)
  statement_layer (s.Simple x) w = after (simple_back env x w) (after (unmerged_back _) (past_back env 1 _))
  statement_layer (s.If test first None) w = after (condition_back test w) (first.1 _)
  statement_layer (s.If test first (Some second)) w = after (condition_back test w) (after (first.1 _) (after (past_back env 1 _) (second.1 _)))
  statement_layer (s.While test body) w = after (condition_back test w) (body.1 _)
  statement_layer (s.For header body) w = after (unmerged_back w) (after (header_back env header _) (body.1 _))
  statement_layer s.Break w = after (unmerged_back w) (past_back env 2 _)
  statement_layer s.Continue w = after (unmerged_back w) (past_back env 2 _)
  statement_layer (s.Return v) w = after (returned_back env v w) (unmerged_back _)

  statement_made : (x : Stmt-F BlockItem Stmt) (y : Stmt-F Item Part) → bare y ≡ x → StatementBack (roll-Stmt x)
  statement_made x y is =
      let Q : Stmt-F BlockItem Stmt → Type 0 = λ x. RunsBack (statement_step env (walks x)) in
      subst RunsBack (sym (fold-roll-Stmt Running Running (item_step env) (statement_step env) x)) (subst Q is (statement_layer y))

  abbrev walks_item : BlockItem-F BlockItem Stmt → BlockItem-F Running Running
  walks_item = map-BlockItem BlockItem Stmt Running Running (item_walk env) (statement_walk env)

  abbrev bare_item : BlockItem-F Item Part → BlockItem-F BlockItem Stmt
  bare_item = map-BlockItem Item Part BlockItem Stmt (λ i. i.0) (λ x. x.0)

  item_layer : (y : BlockItem-F Item Part) → RunsBack (item_step env (walks_item (bare_item y)))
  item_layer (s.Local l) w = after (local_back env l w) (past_back env 1 _)
  item_layer (s.Stmt body) w = body.1 w

  item_made : (x : BlockItem-F BlockItem Stmt) (y : BlockItem-F Item Part) → bare_item y ≡ x → ItemBack (roll-BlockItem x)
  item_made x y is =
      let Q : BlockItem-F BlockItem Stmt → Type 0 = λ x. RunsBack (item_step env (walks_item x)) in
      subst RunsBack (sym (fold-roll-BlockItem Running Running (item_step env) (statement_step env) x)) (subst Q is (item_layer y))

  pub item_back : (i : BlockItem) → ItemBack i
  item_back = ind-BlockItem ItemBack StatementBack item_made statement_made
