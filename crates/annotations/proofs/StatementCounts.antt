-- The walk passes as many tokens as a statement has.
use Rattle.std.proofs.Common.{◌≡◌, ℕ, suc, ◌+◌, ◌≤◌, List, length, map, fold, Option, None, Some, flat_map, refl, sym, ap, subst, arith}
use Rattle.std.proofs.lemmas.List.{length-append}
use Rattle.java_tree.specs.declared.tree.Simple.{Simple}
use Rattle.java_tree.specs.declared.tree.ForInit.{ForInit}
use Rattle.java_tree.specs.declared.tree.ForInit.TheVariants as for_init
use Rattle.java_tree.specs.declared.tree.ForHeader.{ForHeader}
use Rattle.java_tree.specs.declared.tree.Expr.{Expr}
use Rattle.java_tree.specs.declared.tree.Value.{Value}
use Rattle.java_tree.specs.declared.tree.BlockItem.{BlockItem, roll-BlockItem}
use Rattle.java_tree.specs.declared.tree.Stmt.{Stmt, roll-Stmt}
use Rattle.java_tree.specs.declared.tree.BlockItem.TheOpen.{BlockItem-F, Stmt-F}
use Rattle.java_tree.specs.declared.tree.BlockItem.TheOpen as s
use Rattle.java_tree.specs.declared.tree.BlockItem.TheFolds.{fold-roll-BlockItem, fold-roll-Stmt, ind-BlockItem, ind-Stmt, map-BlockItem, map-Stmt}
use Rattle.java_tree.specs.Tokens.{Kinds, separated, type_tokens, initialiser, partial, local_tokens, simple_tokens, init_tokens, header_tokens, expr_tokens, value_tokens, item_tokens, statement_tokens}
use Rattle.java_tree.specs.Tokens as tokens
use Rattle.annotations.specs.declared.position.Position.TheVariants.{Inside, Whole}
use Rattle.annotations.specs.declared.walk.Env.{Env}
use Rattle.annotations.specs.declared.walk.Walk.{Walk}
use Rattle.annotations.specs.Walks.{past, unmerged}
use Rattle.annotations.specs.Expressions.{inside, expr_of}
use Rattle.annotations.specs.Simples.{simple_walk, simples}
use Rattle.annotations.specs.Statements.{returned, init_walk, test_walk, header_walk, Running, in_block, item_step, statement_step, item_walk, statement_walk}
use Rattle.annotations.proofs.Lists.{length_map, map_map, fold_map, flat_map_map, flat_map_fuse}
use Rattle.annotations.proofs.Counting.{Passed, none, within, over, further, stays, counted, unmerged_stays, all_pass, past_none_passes, flat_pass}
use Rattle.annotations.proofs.ExpressionCounts.{expr_counts, value_counts}
use Rattle.annotations.proofs.SimpleCounts.{local_passes, simple_passes}

one_simple_passes : (env : Env) (w : Walk) (x : Simple) → w.at ≤ env.limit → Passed env (suc (length (simple_tokens x))) w (simple_walk env x (past env 1 w))
one_simple_passes env w x h = counted (simple_passes x (over 1 (none {env = env} w h))) (omega arith)

module _ {env : Env} {n : ℕ} {w v : Walk} where
  simples_pass : (all : List Simple) → Passed env n w v → Passed env (n + suc (length (separated (map simple_tokens all)))) w (simples env all v)
  unfolding simples
  simples_pass all p =
      let q = all_pass env (λ (u : Walk). u) (λ u x. simple_walk env x (past env 1 u)) simple_tokens (one_simple_passes env) all v (within p) in
      further p (past_none_passes all (map simple_tokens all) (sym (length_map simple_tokens all)) q)

  condition_passes : (x : Expr) → Passed env n w v → Passed env (n + length (expr_tokens x)) w (inside (expr_of env x) v)
  condition_passes x p = further p (expr_counts env x Inside None _ (within p))

  init_passes : (i : ForInit) → Passed env n w v → Passed env (n + suc (length (init_tokens i))) w (init_walk env i v)
  init_passes for_init.Nothing p = counted (over 1 p) (omega arith)
  init_passes (for_init.Local l) p = counted (stays (local_passes l (over 1 p)) (unmerged_stays _)) (omega arith)
  init_passes (for_init.Simples all) p = simples_pass all p

module _ {env : Env} {n : ℕ} {w v : Walk} where
  test_passes : (test : Option Expr) → Passed env n w v → Passed env (n + length (tokens.condition test)) w (test_walk env test v)
  test_passes None p = counted p (omega arith)
  test_passes (Some x) p = condition_passes x p

module _ {env : Env} {n : ℕ} {w v : Walk} where
  -- from `for` to the closing parenthesis
  pub header_passes : (h : ForHeader) → Passed env n w v → Passed env (n + suc (length (tokens.in_parentheses (header_tokens h)))) w (header_walk env h v)
  unfolding header_walk
  header_passes h p =
      let first = over 1 (stays p (record { at = refl })) in
      counted (stays (over 1 (simples_pass h.update (test_passes h.test (over 1 (init_passes h.init first))))) (record { at = refl })) (simp length-append (omega arith))

  returned_passes : (x : Option Value) → Passed env n w v → Passed env (n + 2 + length (tokens.returned x)) w (returned env x v)
  returned_passes None p = counted (over 2 p) (omega arith)
  returned_passes (Some x) p =
      let behind = over 1 p in
      counted (over 1 (further behind (value_counts env x Whole _ (within behind)))) (omega arith)

-- ---- statements

abbrev pub Runs : Env → Running → Kinds → Type 0
Runs env run ks = (w : Walk) → w.at ≤ env.limit → Passed env (length ks) w (run w)

module _ {A : Type 0} (env : Env) (item : A → Running) (of_item : A → Kinds) (each : (x : A) → Runs env (item x) (of_item x)) where
  pub block_passes : {n : ℕ} {w v : Walk} (xs : List A) → Passed env n w v
      → Passed env (n + 2 + length (flat_map of_item xs)) w (in_block env (map item xs) v)
  block_passes {w = w} {v = v} xs p =
      let first = over 1 p in
      let all = flat_pass env (λ (u : Walk). u) (λ u x. item x u) of_item (λ u x h. each x u h) xs (past env 1 v) (within first) in
      let P : Walk → Type 0 = λ u. Passed env (length (flat_map of_item xs)) (past env 1 v) u in
      let q : P (fold (λ u i. i u) (past env 1 v) (map item xs)) = subst P (sym (fold_map (λ u (i : Running). i u) item (past env 1 v) xs)) all in
      counted (over 1 (stays (further first q) (unmerged_stays _))) (omega arith)

module _ (env : Env) where
  abbrev CountsItem : BlockItem → Type 0
  CountsItem i = Runs env (item_walk env i) (item_tokens i)

  abbrev Counts : Stmt → Type 0
  Counts x = Runs env (statement_walk env x) (statement_tokens x)

  abbrev Item : Type 0
  Item = (i : BlockItem) × CountsItem i

  abbrev Part : Type 0
  Part = (x : Stmt) × Counts x

  abbrev walks : Stmt-F BlockItem Stmt → Stmt-F Running Running
  walks = map-Stmt BlockItem Stmt Running Running (item_walk env) (statement_walk env)

  abbrev kinds : Stmt-F BlockItem Stmt → Stmt-F Kinds Kinds
  kinds = map-Stmt BlockItem Stmt Kinds Kinds item_tokens statement_tokens

  abbrev bare : Stmt-F Item Part → Stmt-F BlockItem Stmt
  bare = map-Stmt Item Part BlockItem Stmt (λ i. i.0) (λ x. x.0)

  block_layer : {n : ℕ} {w v : Walk} (items : List Item) → Passed env n w v
      → Passed env (n + length (tokens.in_braces (flat_map (λ x. x) (map item_tokens (map (λ i. i.0) items))))) w (in_block env (map (item_walk env) (map (λ i. i.0) items)) v)
  block_layer {n} {w} {v} items p =
      let P : List Running → Type 0 = λ all. Passed env (n + 2 + length (flat_map (λ (i : Item). item_tokens i.0) items)) w (in_block env all v) in
      let q : P (map (item_walk env) (map (λ (i : Item). i.0) items)) =
      subst P (sym (map_map (item_walk env) (λ (i : Item). i.0) items)) (block_passes env (λ (i : Item). item_walk env i.0) (λ i. item_tokens i.0) (λ i. i.1) items p) in
      let same = ap length (flat_map_map item_tokens (map (λ (i : Item). i.0) items)) in
      let more = ap length (flat_map_fuse item_tokens (λ (i : Item). i.0) items) in
      counted q (simp length-append (omega (arith, same, more)))

  -- A statement that can't merge ends the wait first.
  begins : (w : Walk) → w.at ≤ env.limit → Passed env 0 w (unmerged w)
  begins w h = stays (none w h) (unmerged_stays w)

  statement_layer : (y : Stmt-F Item Part) → Runs env (statement_step env (walks (bare y))) (tokens.statement_step (kinds (bare y)))
  statement_layer (s.Block items) w h = counted (block_layer items (begins w h)) (omega arith)
  statement_layer s.Empty w h = over 1 (begins w h)
  statement_layer (s.Simple x) w h = counted (over 1 (stays (simple_passes x (none w h)) (unmerged_stays _))) (simp length-append (omega arith))
  statement_layer (s.If test first None) w h =
      let p = over 1 (condition_passes test (over 2 (begins w h))) in
      counted (further p (first.1 _ (within p))) (simp length-append (omega arith))
  statement_layer (s.If test first (Some second)) w h =
      let p = over 1 (condition_passes test (over 2 (begins w h))) in
      let q = over 1 (further p (first.1 _ (within p))) in
      counted (further q (second.1 _ (within q))) (simp length-append (omega arith))
  statement_layer (s.While test body) w h =
      let p = over 1 (condition_passes test (over 2 (begins w h))) in
      counted (further p (body.1 _ (within p))) (simp length-append (omega arith))
  statement_layer (s.For header body) w h =
      let p = header_passes header (begins w h) in
      counted (further p (body.1 _ (within p))) (simp length-append (omega arith))
  statement_layer s.Break w h = over 2 (begins w h)
  statement_layer s.Continue w h = over 2 (begins w h)
  statement_layer (s.Return x) w h = counted (stays (returned_passes x (none w h)) (unmerged_stays _)) (simp length-append (omega arith))

  statement_made : (x : Stmt-F BlockItem Stmt) (y : Stmt-F Item Part) → bare y ≡ x → Counts (roll-Stmt x)
  statement_made x y is =
      let P : Stmt-F BlockItem Stmt → Type 0 = λ x. Runs env (statement_step env (walks x)) (tokens.statement_step (kinds x)) in
      let Q : Running → Type 0 = λ r. Runs env r (tokens.statement_step (kinds x)) in
      let R : Kinds → Type 0 = λ ks. Runs env (statement_walk env (roll-Stmt x)) ks in
      subst R (sym (fold-roll-Stmt Kinds Kinds tokens.item_step tokens.statement_step x))
      (subst Q (sym (fold-roll-Stmt Running Running (item_step env) (statement_step env) x)) (subst P is (statement_layer y)))

  abbrev walks_item : BlockItem-F BlockItem Stmt → BlockItem-F Running Running
  walks_item = map-BlockItem BlockItem Stmt Running Running (item_walk env) (statement_walk env)

  abbrev kinds_item : BlockItem-F BlockItem Stmt → BlockItem-F Kinds Kinds
  kinds_item = map-BlockItem BlockItem Stmt Kinds Kinds item_tokens statement_tokens

  abbrev bare_item : BlockItem-F Item Part → BlockItem-F BlockItem Stmt
  bare_item = map-BlockItem Item Part BlockItem Stmt (λ i. i.0) (λ x. x.0)

  item_layer : (y : BlockItem-F Item Part) → Runs env (item_step env (walks_item (bare_item y))) (tokens.item_step (kinds_item (bare_item y)))
  item_layer (s.Local l) w h = counted (over 1 (local_passes l (none w h))) (simp length-append (omega arith))
  item_layer (s.Stmt body) w h = body.1 w h

  item_made : (x : BlockItem-F BlockItem Stmt) (y : BlockItem-F Item Part) → bare_item y ≡ x → CountsItem (roll-BlockItem x)
  item_made x y is =
      let P : BlockItem-F BlockItem Stmt → Type 0 = λ x. Runs env (item_step env (walks_item x)) (tokens.item_step (kinds_item x)) in
      let Q : Running → Type 0 = λ r. Runs env r (tokens.item_step (kinds_item x)) in
      let R : Kinds → Type 0 = λ ks. Runs env (item_walk env (roll-BlockItem x)) ks in
      subst R (sym (fold-roll-BlockItem Kinds Kinds tokens.item_step tokens.statement_step x))
      (subst Q (sym (fold-roll-BlockItem Running Running (item_step env) (statement_step env) x)) (subst P is (item_layer y)))

  pub item_counts : (i : BlockItem) → CountsItem i
  item_counts = ind-BlockItem CountsItem Counts item_made statement_made

  pub statement_counts : (x : Stmt) → Counts x
  statement_counts = ind-Stmt CountsItem Counts item_made statement_made
