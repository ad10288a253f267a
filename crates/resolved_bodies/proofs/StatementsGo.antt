-- No access stands in the header of a loop of what a statement is resolved to where the rules on annotations find nothing in it.
use Rattle.std.proofs.Common.{◌≡◌, ℕ, Bool, true, false, not, ◌&&◌, ◌||◌, List, [], ◌∷◌, map, fold, Option, Some, None, refl, sym, ap, ap₂, subst, ◌∙◌}
use Rattle.java_tree.specs.declared.tree.BlockItem.{BlockItem, roll-BlockItem}
use Rattle.java_tree.specs.declared.tree.BlockItem.TheOpen.{BlockItem-F, Stmt-F}
use Rattle.java_tree.specs.declared.tree.BlockItem.TheOpen as s
use Rattle.java_tree.specs.declared.tree.BlockItem.TheFolds.{fold-roll-BlockItem, fold-roll-Stmt, ind-BlockItem, ind-Stmt, map-BlockItem, map-Stmt}
use Rattle.java_tree.specs.declared.tree.Stmt.{Stmt, roll-Stmt}
use Rattle.java_tree.specs.declared.tree.Expr.{Expr}
use Rattle.java_tree.specs.declared.tree.Value.{Value}
use Rattle.java_tree.specs.declared.tree.ForHeader.{ForHeader}
use Rattle.java_tree.specs.declared.types.ExprType.{ExprType}
use Rattle.annotations.specs.declared.position.Position.TheVariants.{Inside, Whole}
use Rattle.annotations.specs.declared.walk.Env.{Env}
use Rattle.annotations.specs.declared.walk.Walk.{Walk}
use Rattle.annotations.specs.Walks.{past, unmerged}
use Rattle.annotations.specs.Expressions.{inside, expr_of, value_of}
use Rattle.annotations.specs.Statements as walks
use Rattle.annotations.specs.Statements.{Running, header_walk, in_block}
use Rattle.access_blocks.specs.declared.body.Statement.{Statement}
use Rattle.access_blocks.specs.declared.body.Statement.TheOpen as made
use Rattle.access_blocks.specs.declared.body.Statement.TheVariants as statement
use Rattle.access_blocks.specs.declared.body.Target.TheVariants as target
use Rattle.access_blocks.specs.declared.scope.Scope.{Scope}
use Rattle.access_blocks.specs.Cursors.{Cursor, Read, read}
use Rattle.access_blocks.specs.Resolving.{expression_of}
use Rattle.access_blocks.specs.ResolvingStatements as stating
use Rattle.access_blocks.specs.ResolvingStatements.{Stating, nothing, listed, init_of}
use Rattle.marked_bodies.specs.Unmarked.{headed_in, one_by_one}
use Rattle.resolved_bodies.specs.Together.{AreTogether, Goes}
use Rattle.resolved_bodies.proofs.Going.{here, further, going_past, going_unmerged}
use Rattle.resolved_bodies.proofs.ExpressionsGo.{expression_goes}
use Rattle.resolved_bodies.proofs.Heading.{IsRight, AreRight, HaveNone, right_as, right_with, both_true, both_false}
use Rattle.resolved_bodies.proofs.ValuesGo.{States, value_states}
use Rattle.resolved_bodies.proofs.SimplesGo.{local_states, simple_states}
use Rattle.resolved_bodies.proofs.LoopHeaders.{update, header_has_none}

module _ (env : Env) (scope : Scope) (wanted : ExprType) where
  -- The reading goes on where the walk does, and what is read is right where the walk finds nothing.
  pub record Passes {A : Type 0} (Right : A → Type 0) (w v : Walk) (c : Cursor) (r : Read A) : Type 0 where
    pub grows : v.findings ≡ [] → w.findings ≡ []
    pub together : AreTogether env w c → AreTogether env v r.cursor
    pub right : AreTogether env w c → v.findings ≡ [] → Right r.it

  abbrev Runs : Walk → Walk → Cursor → Read Statement → Type 0
  Runs = Passes IsRight

  abbrev pub AllRun : Walk → Walk → Cursor → Read (List Statement) → Type 0
  AllRun = Passes AreRight

  pub behind_more : {A : Type 0} {Right : A → Type 0} {w v u : Walk} {c k : Cursor} {r : Read A} → Goes env w v c k → Passes Right v u k r → Passes Right w u c r
  behind_more g a = record { grows = λ q. g.grows (a.grows q); together = λ t. a.together (g.together t); right = λ t q. a.right (g.together t) q }

  pub then_more : {A : Type 0} {Right : A → Type 0} {w v u : Walk} {c : Cursor} {r : Read A} → Passes Right w v c r → Goes env v u r.cursor r.cursor → Passes Right w u c r
  then_more a g = record { grows = λ q. a.grows (g.grows q); together = λ t. g.together (a.together t); right = λ t q. a.right t (g.grows q) }

  stated : {w v : Walk} {c : Cursor} {r : Read Statement} → States env scope w v c r → Runs w v c r
  stated a = record { grows = a.goes.grows; together = a.goes.together; right = λ t q. a.right }

  -- one that is right by itself
  plain : {w v : Walk} {c : Cursor} (x : Statement) → IsRight x → Goes env w v c c → Runs w v c (read x c)
  plain x right g = record { grows = g.grows; together = g.together; right = λ t q. right }

  -- ---- lists

  abbrev pub Runner : Running → Stating → Type 0
  Runner run part = (w : Walk) (c : Cursor) → Runs w (run w) c (part c)

  one_more : {w v : Walk} (c : Cursor) (before : Read (List Statement)) (run : Running) (part : Stating) → AllRun w v c before → Runner run part → AllRun w (run v) c (listed before part)
  one_more {v = v} c before run part all one =
      let o = one v before.cursor in
      record {
        grows = λ q. all.grows (o.grows q);
        together = λ t. o.together (all.together t);
        right = λ t q. right_with before.it (part before.cursor).it (all.right t (o.grows q)) (o.right (all.together t) q);
      }

  -- what each of the items is walked and read as
  items_run : {A B : Type 0} (run : B → Running) (part : B → Stating) (f : A → B) → ((a : A) → Runner (run (f a)) (part (f a))) → (items : List A) (w v : Walk) (c : Cursor) (before : Read (List Statement))
      → AllRun w v c before → AllRun w (fold (λ w i. i w) v (map run (map f items))) c (fold listed before (map part (map f items)))
  items_run run part f each [] w v c before all = all
  items_run run part f each (a ∷ items) w v c before all =
      items_run run part f each items w (run (f a) v) c (listed before (part (f a))) (one_more c before (run (f a)) (part (f a)) all (each a))

  pub block_runs : {A B : Type 0} (run : B → Running) (part : B → Stating) (f : A → B) → ((a : A) → Runner (run (f a)) (part (f a))) → (items : List A) (w : Walk) (c : Cursor)
      → AllRun w (in_block env (map run (map f items)) w) c (stating.list_of (map part (map f items)) c)
  block_runs run part f each items w c =
      let g = going_past env 1 w c in
      let begun : AllRun w (past env 1 w) c (read [] c) = record { grows = g.grows; together = g.together; right = λ t q. refl } in
      let all = items_run run part f each items w (past env 1 w) c (read [] c) begun in
      then_more all (further env (going_unmerged env _ _) (going_past env 1 _ _))

  -- ---- statements

  abbrev RunsItem : BlockItem → Type 0
  RunsItem i = Runner (walks.item_walk env i) (stating.item_of scope wanted i)

  abbrev RunsStmt : Stmt → Type 0
  RunsStmt x = Runner (walks.statement_walk env x) (stating.statement_of scope wanted x)

  abbrev TheItem : Type 0
  TheItem = (i : BlockItem) × RunsItem i

  abbrev TheStmt : Type 0
  TheStmt = (x : Stmt) × RunsStmt x

  abbrev bare : Stmt-F TheItem TheStmt → Stmt-F BlockItem Stmt
  bare = map-Stmt TheItem TheStmt BlockItem Stmt (λ i. i.0) (λ x. x.0)

  abbrev walking : Stmt-F BlockItem Stmt → Stmt-F Running Running
  walking = map-Stmt BlockItem Stmt Running Running (walks.item_walk env) (walks.statement_walk env)

  abbrev reading : Stmt-F BlockItem Stmt → Stmt-F Stating Stating
  reading = map-Stmt BlockItem Stmt Stating Stating (stating.item_of scope wanted) (stating.statement_of scope wanted)

  test_goes : (test : Expr) (w : Walk) (c : Cursor) → Goes env w (past env 1 (inside (expr_of env test) (past env 2 (unmerged w)))) c (expression_of scope test c).cursor
  test_goes test w c = further env (going_unmerged env w c) (further env (going_past env 2 _ c) (further env (expression_goes env scope test Inside None _ c) (going_past env 1 _ _)))

  returned_runs : (v : Option Value) → Runner (λ w. unmerged (walks.returned env v w)) (stating.return_of scope wanted v)
  returned_runs None w c = plain (statement.Return None) (right_as (made.Return None) (statement.rolls-Return None) refl) (further env (going_past env 2 w c) (going_unmerged env _ c))
  returned_runs (Some v) w c =
      behind_more (going_past env 1 w c) (then_more (stated (value_states env scope target.Returned wanted v Whole _ c)) (further env (going_past env 1 _ _) (going_unmerged env _ _)))

  if_runs : (test : Expr) (first : TheStmt) (second : Option TheStmt)
      → Runner (walks.statement_step env (walking (bare (s.If test first second)))) (stating.statement_step scope wanted (reading (bare (s.If test first second))))
  if_runs test first None w c =
      let g = test_goes test w c in
      let a = first.1 (past env 1 (inside (expr_of env test) (past env 2 (unmerged w)))) (expression_of scope test c).cursor in
      record {
        grows = λ q. g.grows (a.grows q);
        together = λ t. a.together (g.together t);
        right = λ t q. right_as (made.If _ _ None) (statement.rolls-If _ _ None) (a.right (g.together t) q);
      }
  if_runs test first (Some second) w c =
      let g = test_goes test w c in
      let v = past env 1 (inside (expr_of env test) (past env 2 (unmerged w))) in
      let k = (expression_of scope test c).cursor in
      let a = first.1 v k in
      let l = (stating.statement_of scope wanted first.0 k).cursor in
      let p = going_past env 1 (walks.statement_walk env first.0 v) l in
      let b = second.1 (past env 1 (walks.statement_walk env first.0 v)) l in
      record {
        grows = λ q. g.grows (a.grows (p.grows (b.grows q)));
        together = λ t. b.together (p.together (a.together (g.together t)));
        right = λ t q.
            right_as (made.If _ _ (Some _)) (statement.rolls-If _ _ (Some _))
            (both_true (a.right (g.together t) (p.grows (b.grows q))) (b.right (p.together (a.together (g.together t))) q));
      }

  while_runs : (test : Expr) (body : TheStmt)
      → Runner (walks.statement_step env (walking (bare (s.While test body)))) (stating.statement_step scope wanted (reading (bare (s.While test body))))
  while_runs test body w c =
      let g = test_goes test w c in
      let b = body.1 (past env 1 (inside (expr_of env test) (past env 2 (unmerged w)))) (expression_of scope test c).cursor in
      record {
        grows = λ q. g.grows (b.grows q);
        together = λ t. b.together (g.together t);
        right = λ t q. right_as (made.Loop [] _ [] _) (statement.rolls-Loop [] _ [] _) (b.right (g.together t) q);
      }

  not_either : {a b d : Bool} → a ≡ false → b ≡ false → d ≡ true → (not (a || b) && d) ≡ true
  not_either p q r = both_true (ap not (both_false p q)) r

  for_runs : (h : ForHeader) (body : TheStmt)
      → Runner (walks.statement_step env (walking (bare (s.For h body)))) (stating.statement_step scope wanted (reading (bare (s.For h body))))
  for_runs h body w c =
      let g = going_unmerged env w c in
      let a = header_has_none env scope h (unmerged w) c in
      let k = update env scope h c in
      let b = body.1 (header_walk env h (unmerged w)) k.cursor in
      record {
        grows = λ q. g.grows (a.grows (b.grows q));
        together = λ t. b.together (a.together (g.together t));
        right = λ t q.
            right_as (made.Loop _ _ _ _) (statement.rolls-Loop _ _ _ _)
            (not_either (a.start_none (g.together t) (b.grows q)) (a.update_none (g.together t) (b.grows q)) (b.right (a.together (g.together t)) q));
      }

  block_layer : (items : List TheItem) → Runner (walks.statement_step env (walking (bare (s.Block items)))) (stating.statement_step scope wanted (reading (bare (s.Block items))))
  block_layer items w c =
      let g = going_unmerged env w c in
      let a = block_runs (walks.item_walk env) (stating.item_of scope wanted) (λ (i : TheItem). i.0) (λ i. i.1) items (unmerged w) c in
      record {
        grows = λ q. g.grows (a.grows q);
        together = λ t. a.together (g.together t);
        right = λ t q. right_as (made.Block _) (statement.rolls-Block _) (a.right (g.together t) q);
      }

  layer : (y : Stmt-F TheItem TheStmt) → Runner (walks.statement_step env (walking (bare y))) (stating.statement_step scope wanted (reading (bare y)))
  layer (s.Block items) w c = block_layer items w c
  layer s.Empty w c = plain nothing (right_as (made.Block []) (statement.rolls-Block []) refl) (further env (going_unmerged env w c) (going_past env 1 _ c))
  layer (s.Simple x) w c = then_more (stated (simple_states env scope x w c)) (further env (going_unmerged env _ _) (going_past env 1 _ _))
  layer (s.If test first second) w c = if_runs test first second w c
  layer (s.While test body) w c = while_runs test body w c
  layer (s.For h body) w c = for_runs h body w c
  layer s.Break w c = plain statement.Break (right_as made.Break statement.rolls-Break refl) (further env (going_unmerged env w c) (going_past env 2 _ c))
  layer s.Continue w c = plain statement.Continue (right_as made.Continue statement.rolls-Continue refl) (further env (going_unmerged env w c) (going_past env 2 _ c))
  layer (s.Return v) w c = returned_runs v w c

  statement_made : (x : Stmt-F BlockItem Stmt) (y : Stmt-F TheItem TheStmt) → bare y ≡ x → RunsStmt (roll-Stmt x)
  statement_made x y is =
      let P : Stmt-F BlockItem Stmt → Type 0 = λ x. Runner (walks.statement_step env (walking x)) (stating.statement_step scope wanted (reading x)) in
      let Q : Running → Type 0 = λ r. Runner r (stating.statement_step scope wanted (reading x)) in
      let R : Stating → Type 0 = λ r. Runner (walks.statement_walk env (roll-Stmt x)) r in
      subst R (sym (fold-roll-Stmt Stating Stating (stating.item_step scope) (stating.statement_step scope wanted) x))
      (subst Q (sym (fold-roll-Stmt Running Running (walks.item_step env) (walks.statement_step env) x)) (subst P is (layer y)))

  -- ---- items of blocks

  abbrev bare_item : BlockItem-F TheItem TheStmt → BlockItem-F BlockItem Stmt
  bare_item = map-BlockItem TheItem TheStmt BlockItem Stmt (λ i. i.0) (λ x. x.0)

  abbrev walking_item : BlockItem-F BlockItem Stmt → BlockItem-F Running Running
  walking_item = map-BlockItem BlockItem Stmt Running Running (walks.item_walk env) (walks.statement_walk env)

  abbrev reading_item : BlockItem-F BlockItem Stmt → BlockItem-F Stating Stating
  reading_item = map-BlockItem BlockItem Stmt Stating Stating (stating.item_of scope wanted) (stating.statement_of scope wanted)

  item_layer : (y : BlockItem-F TheItem TheStmt) → Runner (walks.item_step env (walking_item (bare_item y))) (stating.item_step scope (reading_item (bare_item y)))
  item_layer (s.Local l) w c = then_more (stated (local_states env scope l w c)) (going_past env 1 _ _)
  item_layer (s.Stmt body) w c = body.1 w c

  item_made : (x : BlockItem-F BlockItem Stmt) (y : BlockItem-F TheItem TheStmt) → bare_item y ≡ x → RunsItem (roll-BlockItem x)
  item_made x y is =
      let P : BlockItem-F BlockItem Stmt → Type 0 = λ x. Runner (walks.item_step env (walking_item x)) (stating.item_step scope (reading_item x)) in
      let Q : Running → Type 0 = λ r. Runner r (stating.item_step scope (reading_item x)) in
      let R : Stating → Type 0 = λ r. Runner (walks.item_walk env (roll-BlockItem x)) r in
      subst R (sym (fold-roll-BlockItem Stating Stating (stating.item_step scope) (stating.statement_step scope wanted) x))
      (subst Q (sym (fold-roll-BlockItem Running Running (walks.item_step env) (walks.statement_step env) x)) (subst P is (item_layer y)))

  pub item_runs : (i : BlockItem) → RunsItem i
  item_runs = ind-BlockItem RunsItem RunsStmt item_made statement_made
