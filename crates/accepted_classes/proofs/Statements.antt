-- Statements go: the walk adds the calls of the methods that are read of them.
use Rattle.std.proofs.Common.{◌≡◌, ℕ, false, List, [], ◌∷◌, ◌++◌, map, fold, Option, Some, None, refl, sym, subst}
use Rattle.java_tree.specs.declared.tree.Simple.{Simple}
use Rattle.java_tree.specs.declared.tree.ForInit.{ForInit}
use Rattle.java_tree.specs.declared.tree.ForInit.TheVariants as for_init
use Rattle.java_tree.specs.declared.tree.ForHeader.{ForHeader}
use Rattle.java_tree.specs.declared.tree.Expr.{Expr}
use Rattle.java_tree.specs.declared.tree.Value.{Value}
use Rattle.java_tree.specs.declared.tree.BlockItem.{BlockItem, roll-BlockItem}
use Rattle.java_tree.specs.declared.tree.Stmt.{Stmt, roll-Stmt}
use Rattle.java_tree.specs.declared.tree.BlockItem.TheOpen.{BlockItem-F, Stmt-F}
use Rattle.java_tree.specs.declared.tree.BlockItem.TheOpen as s
use Rattle.java_tree.specs.declared.tree.BlockItem.TheFolds.{fold-roll-BlockItem, fold-roll-Stmt, ind-BlockItem, map-BlockItem, map-Stmt}
use Rattle.java_tree.specs.declared.types.ExprType.{ExprType}
use Rattle.java_types.specs.declared.statements.Around.{Around}
use Rattle.java_types.specs.declared.walk.Env.{Env}
use Rattle.java_types.specs.declared.walk.Walk.{Walk}
use Rattle.java_types.specs.Walks.{past}
use Rattle.java_types.specs.Simples.{simple_walk, simples}
use Rattle.java_types.specs.Statements.{condition, returned, returned_walk, init_walk, test_walk, header_walk, Running, in_block, in_loop, otherwise, jump_walk, item_step, statement_step, item_walk, statement_walk}
use Rattle.java_types.proofs.Lists.{map_map, fold_map}
use Rattle.access_blocks.specs.declared.body.Expression.{Expression}
use Rattle.access_blocks.specs.declared.body.Statement.{Statement}
use Rattle.access_blocks.specs.declared.body.Statement.TheVariants as statement
use Rattle.access_blocks.specs.declared.body.Target.TheVariants as target
use Rattle.access_blocks.specs.declared.scope.Scope.{Scope}
use Rattle.access_blocks.specs.Cursors.{Cursor, Read, read}
use Rattle.access_blocks.specs.Resolving.{expression_of}
use Rattle.access_blocks.specs.ResolvingStatements.{Stating, listed, list_of, nothing, item_of, statement_of}
use Rattle.access_blocks.specs.ResolvingStatements as statements
use Rattle.accepted_classes.proofs.Calls.{Calls, CallsIn, CallsInAll, CallsInSecond, CallsMaybe, block_calls, if_calls, loop_calls, break_calls, continue_calls, return_calls, push_statement}
use Rattle.accepted_classes.proofs.Steps.{unchanged, Still, here, after, noted_still, past_still, past_none_still, left_still, Goes, unread, before, behind, in_turn}
use Rattle.accepted_classes.proofs.Steps as steps
use Rattle.accepted_classes.proofs.Arguments.{by_first}
use Rattle.accepted_classes.proofs.Expressions.{Tells}
use Rattle.accepted_classes.proofs.ExpressionsGo.{expression_goes}
use Rattle.accepted_classes.proofs.Simples.{Simply, local_goes, simple_goes, value_to_goes}

nothing_calls : (P : ℕ → Type 0) → CallsIn P nothing
nothing_calls P = block_calls P [] tt

-- ---- lists

module _ {A : Type 0} (P : ℕ → Type 0) (env : Env) (step : Walk → A → Walk) (reading : A → Stating) (each : (x : A) (w : Walk) → Goes P env w (step w x) (reading x) (CallsIn P)) where
  -- behind those that are read already
  listed_go : (xs : List A) (w : Walk) (first : List Statement)
      → Goes P env w (fold step w xs) (λ c. fold listed (read first c) (map reading xs)) (λ all. CallsInAll P first → CallsInAll P all)
  listed_go [] w first = unread P w (λ c. read first c) (λ all. CallsInAll P first → CallsInAll P all) (λ c. refl) (λ c. unchanged _) (λ c h. h)
  listed_go (x ∷ xs) w first =
      by_first P {first = λ c. listed (read first c) (reading x)} {second = λ more c. fold listed (read more c) (map reading xs)}
      {First = λ more. CallsInAll P first → CallsInAll P more} {Second = λ more all. CallsInAll P more → CallsInAll P all}
      (λ all. CallsInAll P first → CallsInAll P all) [] (λ more all h k is. k (h is))
      (steps.made P (λ more. CallsInAll P first → CallsInAll P more) (λ c. c) (λ c a. first ++ a ∷ []) (λ c. refl) (λ c. unchanged _)
      (λ c a h is. push_statement P first a is h) (each x w))
      (λ more. listed_go xs (step w x) more)

  pub list_goes : (xs : List A) (w : Walk) → Goes P env w (fold step w xs) (list_of (map reading xs)) (CallsInAll P)
  list_goes xs w = steps.made P (CallsInAll P) (λ c. c) (λ c all. all) (λ c. refl) (λ c. unchanged _) (λ c all h. h tt) (listed_go xs w [])

module _ (P : ℕ → Type 0) (env : Env) (scope : Scope) where
  simples_go : (all : List Simple) (w : Walk) → Goes P env w (simples env all w) (list_of (map (statements.simple_of scope) all)) (CallsInAll P)
  unfolding simples
  simples_go all w =
      behind P
      (list_goes P env (λ u a. simple_walk env a (past env 1 u)) (statements.simple_of scope) (λ a u. before P (past_still env 1 u) (simple_goes P env scope a (past env 1 u))) all w)
      (past_none_still env all _)

  update_goes : (all : List Simple) (w : Walk) → Goes P env w (simples env all w) (statements.update_of scope all) (CallsInAll P)
  unfolding simples
  update_goes [] w =
      behind P (unread P w (λ c. read (nothing ∷ []) c) (CallsInAll P) (λ c. refl) (λ c. unchanged _) (λ c. push_statement P [] nothing tt (nothing_calls P))) (past_none_still {A = Simple} env [] w)
  update_goes (a ∷ all) w = simples_go (a ∷ all) w

  one_local : {w v : Walk} {reading : Stating} → Goes P env w v reading (CallsIn P) → Goes P env w v (list_of (reading ∷ [])) (CallsInAll P)
  one_local part = steps.made P (CallsInAll P) (λ c. c) (λ c a. a ∷ []) (λ c. refl) (λ c. unchanged _) (λ c a h. push_statement P [] a tt h) part

  init_goes : (i : ForInit) (w : Walk) → Goes P env w (init_walk env i w) (statements.init_of scope i) (CallsInAll P)
  init_goes for_init.Nothing w = behind P (unread P w (λ c. read [] c) (CallsInAll P) (λ c. refl) (λ c. unchanged _) (λ c. tt)) (past_still env 1 w)
  init_goes (for_init.Local l) w = before P (past_still env 1 w) (one_local (local_goes P env scope l (past env 1 w)))
  init_goes (for_init.Simples all) w = simples_go all w

  condition_goes : (a : Expr) (w : Walk) → Goes P env w (condition env a w) (expression_of scope a) (Tells P)
  unfolding condition
  condition_goes a w = behind P (expression_goes P env scope a false w) (noted_still _ w.at 8 _)

  test_goes : (test : Option Expr) (w : Walk) → Goes P env w (test_walk env test w) (statements.condition scope test) (CallsMaybe P)
  test_goes None w = unread P w (λ c. read None c) (CallsMaybe P) (λ c. refl) (λ c. unchanged _) (λ c. tt)
  test_goes (Some a) w = steps.made P (CallsMaybe P) (λ c. c) (λ c r. Some r.expression) (λ c. refl) (λ c. unchanged _) (λ c r h. h) (condition_goes a w)

  -- ---- loops

  -- the start, the condition and the update
  abbrev Head : Type 0
  Head = List Statement × Option Expression × List Statement

  abbrev TellsHead : Head → Type 0
  TellsHead h = CallsInAll P h.0 × CallsMaybe P h.1 × CallsInAll P h.2

  abbrev head_of : ForHeader → Cursor → Read Head
  head_of h c =
      let start = statements.init_of scope h.init c in
      let test = statements.condition scope h.test start.cursor in
      let update = statements.update_of scope h.update test.cursor in
      read (start.it, test.it, update.it) update.cursor

  head_goes : (h : ForHeader) (w : Walk) → Goes P env w (header_walk env h w) (head_of h) TellsHead
  unfolding header_walk
  head_goes h w =
      let w1 = past env 1 w in
      let w2 = init_walk env h.init w1 in
      let w3 = past env 1 w2 in
      let w4 = test_walk env h.test w3 in
      before P (past_still env 1 w)
      (behind P
      (in_turn P TellsHead (λ c. c) (λ c (two : List Statement × Option Expression) update. (two.0, two.1, update)) (λ c. refl) (λ c. unchanged _) (λ c two update h k. (h.0, h.1, k))
      (in_turn P (λ (two : List Statement × Option Expression). CallsInAll P two.0 × CallsMaybe P two.1) (λ c. c) (λ c start test. (start, test)) (λ c. refl) (λ c. unchanged _) (λ c start test h k. (h, k))
      (init_goes h.init w1) (before P (past_still env 1 w2) (test_goes h.test w3)))
      (update_goes h.update w4))
      (past_still env 1 _))

  -- ---- statements

  abbrev pub Runs : Running → Stating → Type 0
  Runs run reading = (a : Around) (w : Walk) → Goes P env w (run a w) reading (CallsIn P)

  for_goes : (h : ForHeader) (body : Running) (reading : Stating) → Runs body reading → (a : Around) (w : Walk)
      → Goes P env w (body (in_loop a) (header_walk env h w)) (statements.for_of scope h reading) (CallsIn P)
  for_goes h body reading p a w =
      in_turn P (CallsIn P) (λ c. c) (λ c (head : Head) inner. statement.Loop head.0 head.1 head.2 inner) (λ c. refl) (λ c. unchanged _)
      (λ c head inner k b. loop_calls P head.0 head.1 head.2 inner k.0 k.1 k.2 b)
      (head_goes h w) (p (in_loop a) (header_walk env h w))

  while_goes : (test : Expr) (body : Running) (reading : Stating) → Runs body reading → (a : Around) (w : Walk)
      → Goes P env w (body (in_loop a) (past env 1 (condition env test (past env 2 w)))) (statements.while_of scope test reading) (CallsIn P)
  while_goes test body reading p a w =
      let w1 = condition env test (past env 2 w) in
      in_turn P (CallsIn P) (λ c. c) (λ c r inner. statement.Loop [] (Some r.expression) [] inner) (λ c. refl) (λ c. unchanged _)
      (λ c r inner h b. loop_calls P [] (Some r.expression) [] inner tt h tt b)
      (before P (past_still env 2 w) (condition_goes test (past env 2 w))) (before P (past_still env 1 w1) (p (in_loop a) (past env 1 w1)))

  abbrev SecondRuns : Option Running → Option Stating → Type 0
  SecondRuns second reading = (a : Around) (w : Walk) → Goes P env w (otherwise env second a w) (statements.second_of reading) (CallsInSecond P)

  no_second : SecondRuns None None
  no_second a w = unread P w (λ c. read None c) (CallsInSecond P) (λ c. refl) (λ c. unchanged _) (λ c. tt)

  one_second : (second : Running) (reading : Stating) → Runs second reading → SecondRuns (Some second) (Some reading)
  one_second second reading p a w =
      before P (past_still env 1 w) (steps.made P (CallsInSecond P) (λ c. c) (λ c inner. Some inner) (λ c. refl) (λ c. unchanged _) (λ c inner h. h) (p a (past env 1 w)))

  if_goes : (test : Expr) (first : Running) (reading : Stating) (second : Option Running) (other : Option Stating) → Runs first reading → SecondRuns second other → (a : Around) (w : Walk)
      → Goes P env w (otherwise env second a (first a (past env 1 (condition env test (past env 2 w))))) (statements.if_of scope test reading other) (CallsIn P)
  if_goes test first reading second other p q a w =
      let w1 = condition env test (past env 2 w) in
      let w2 = first a (past env 1 w1) in
      in_turn P (CallsIn P) (λ c. c) (λ c (both : Expression × Statement) b. statement.If both.0 both.1 b) (λ c. refl) (λ c. unchanged _)
      (λ c both b h k. if_calls P both.0 both.1 b h.0 h.1 k)
      (in_turn P (λ (both : Expression × Statement). Calls P both.0 × CallsIn P both.1) (λ c. c) (λ c r inner. (r.expression, inner)) (λ c. refl) (λ c. unchanged _) (λ c r inner h k. (h, k))
      (before P (past_still env 2 w) (condition_goes test (past env 2 w))) (before P (past_still env 1 w1) (p a (past env 1 w1))))
      (q a w2)

  return_goes : (result wanted : ExprType) (v : Option Value) (at : ℕ) (w : Walk) → Simply P env scope w (returned_walk env result v at w) (statements.return_of scope wanted v)
  return_goes result wanted None at w =
      behind P (unread P w (λ c. read (statement.Return None) c) (CallsIn P) (λ c. refl) (λ c. unchanged _) (λ c. return_calls P None tt)) (after (noted_still _ at 12 w) (past_still env 1 _))
  return_goes result wanted (Some v) at w =
      before P (noted_still _ at 12 w)
      (behind P (value_to_goes P env scope v target.Returned wanted _) (after (noted_still _ _ 7 _) (after (noted_still _ _ 10 _) (past_still env 1 _))))

  returned_goes : (result wanted : ExprType) (v : Option Value) (w : Walk) → Simply P env scope w (returned env result v w) (statements.return_of scope wanted v)
  unfolding returned
  returned_goes result wanted v w = before P (past_still env 1 w) (return_goes result wanted v w.at (past env 1 w))

  jump_goes : (st : Statement) → CallsIn P st → (a : Around) (w : Walk) → Goes P env w (jump_walk env a w) (λ c. read st c) (CallsIn P)
  jump_goes st h a w = behind P (unread P w (λ c. read st c) (CallsIn P) (λ c. refl) (λ c. unchanged _) (λ c. h)) (after (noted_still _ w.at 11 w) (past_still env 2 _))

  module _ {A : Type 0} (item : A → Running) (reading : A → Stating) (each : (x : A) → Runs (item x) (reading x)) where
    pub block_goes : (xs : List A) (a : Around) (w : Walk) → Goes P env w (in_block env (map item xs) a w) (list_of (map reading xs)) (CallsInAll P)
    block_goes xs a w =
        let w1 = past env 1 w in
        let g = list_goes P env (λ u x. item x a u) reading (λ x u. each x a u) xs w1 in
        let Q : Walk → Type 0 = λ u. Goes P env w1 u (list_of (map reading xs)) (CallsInAll P) in
        let q : Q (fold (λ u (i : Running). i a u) w1 (map item xs)) = subst Q (sym (fold_map (λ u (i : Running). i a u) item w1 xs)) g in
        before P (past_still env 1 w) (behind P q (after (past_still env 1 _) (left_still _ _)))

  module _ (wanted : ExprType) where
    abbrev GoesItem : BlockItem → Type 0
    GoesItem i = Runs (item_walk env i) (item_of scope wanted i)

    abbrev GoesStatement : Stmt → Type 0
    GoesStatement x = Runs (statement_walk env x) (statement_of scope wanted x)

    abbrev Item : Type 0
    Item = (i : BlockItem) × GoesItem i

    abbrev Part : Type 0
    Part = (x : Stmt) × GoesStatement x

    abbrev walks : Stmt-F BlockItem Stmt → Stmt-F Running Running
    walks = map-Stmt BlockItem Stmt Running Running (item_walk env) (statement_walk env)

    abbrev reads : Stmt-F BlockItem Stmt → Stmt-F Stating Stating
    reads = map-Stmt BlockItem Stmt Stating Stating (item_of scope wanted) (statement_of scope wanted)

    abbrev bare : Stmt-F Item Part → Stmt-F BlockItem Stmt
    bare = map-Stmt Item Part BlockItem Stmt (λ i. i.0) (λ x. x.0)

    block_layer : (items : List Item)
        → Runs (in_block env (map (item_walk env) (map (λ i. i.0) items))) (statements.block_of (map (item_of scope wanted) (map (λ i. i.0) items)))
    block_layer items a w =
        let Q : List Running → List Stating → Type 0 = λ runs readings. Goes P env w (in_block env runs a w) (list_of readings) (CallsInAll P) in
        let g : Q (map (λ (i : Item). item_walk env i.0) items) (map (λ (i : Item). item_of scope wanted i.0) items) =
        block_goes (λ (i : Item). item_walk env i.0) (λ i. item_of scope wanted i.0) (λ i. i.1) items a w in
        let h : Q (map (item_walk env) (map (λ (i : Item). i.0) items)) (map (λ (i : Item). item_of scope wanted i.0) items) =
        subst (λ (runs : List Running). Q runs (map (λ (i : Item). item_of scope wanted i.0) items)) (sym (map_map (item_walk env) (λ (i : Item). i.0) items)) g in
        let k : Q (map (item_walk env) (map (λ (i : Item). i.0) items)) (map (item_of scope wanted) (map (λ (i : Item). i.0) items)) =
        subst (Q (map (item_walk env) (map (λ (i : Item). i.0) items))) (sym (map_map (item_of scope wanted) (λ (i : Item). i.0) items)) h in
        steps.made P (CallsIn P) (λ c. c) (λ c all. statement.Block all) (λ c. refl) (λ c. unchanged _) (λ c all is. block_calls P all is) k

    statement_layer : (y : Stmt-F Item Part) → Runs (statement_step env (walks (bare y))) (statements.statement_step scope wanted (reads (bare y)))
    statement_layer (s.Block items) a w = block_layer items a w
    statement_layer s.Empty a w = behind P (unread P w (λ c. read nothing c) (CallsIn P) (λ c. refl) (λ c. unchanged _) (λ c. nothing_calls P)) (past_still env 1 w)
    statement_layer (s.Simple x) a w = behind P (simple_goes P env scope x w) (past_still env 1 _)
    statement_layer (s.If test first None) a w =
        if_goes test (statement_walk env first.0) (statement_of scope wanted first.0) None None first.1 no_second a w
    statement_layer (s.If test first (Some second)) a w =
        if_goes test (statement_walk env first.0) (statement_of scope wanted first.0) (Some (statement_walk env second.0)) (Some (statement_of scope wanted second.0)) first.1
        (one_second (statement_walk env second.0) (statement_of scope wanted second.0) second.1) a w
    statement_layer (s.While test body) a w = while_goes test (statement_walk env body.0) (statement_of scope wanted body.0) body.1 a w
    statement_layer (s.For header body) a w = behind P (for_goes header (statement_walk env body.0) (statement_of scope wanted body.0) body.1 a w) (left_still _ _)
    statement_layer s.Break a w = jump_goes statement.Break (break_calls P) a w
    statement_layer s.Continue a w = jump_goes statement.Continue (continue_calls P) a w
    statement_layer (s.Return v) a w = returned_goes a.result wanted v w

    statement_made : (x : Stmt-F BlockItem Stmt) (y : Stmt-F Item Part) → bare y ≡ x → GoesStatement (roll-Stmt x)
    statement_made x y is =
        let Q : Stmt-F BlockItem Stmt → Type 0 = λ x. Runs (statement_step env (walks x)) (statements.statement_step scope wanted (reads x)) in
        let R : Running → Type 0 = λ r. Runs r (statements.statement_step scope wanted (reads x)) in
        let S : Stating → Type 0 = λ r. Runs (statement_walk env (roll-Stmt x)) r in
        subst S (sym (fold-roll-Stmt Stating Stating (statements.item_step scope) (statements.statement_step scope wanted) x))
        (subst R (sym (fold-roll-Stmt Running Running (item_step env) (statement_step env) x)) (subst Q is (statement_layer y)))

    abbrev walks_item : BlockItem-F BlockItem Stmt → BlockItem-F Running Running
    walks_item = map-BlockItem BlockItem Stmt Running Running (item_walk env) (statement_walk env)

    abbrev reads_item : BlockItem-F BlockItem Stmt → BlockItem-F Stating Stating
    reads_item = map-BlockItem BlockItem Stmt Stating Stating (item_of scope wanted) (statement_of scope wanted)

    abbrev bare_item : BlockItem-F Item Part → BlockItem-F BlockItem Stmt
    bare_item = map-BlockItem Item Part BlockItem Stmt (λ i. i.0) (λ x. x.0)

    item_layer : (y : BlockItem-F Item Part) → Runs (item_step env (walks_item (bare_item y))) (statements.item_step scope (reads_item (bare_item y)))
    item_layer (s.Local l) a w = behind P (local_goes P env scope l w) (past_still env 1 _)
    item_layer (s.Stmt body) a w = body.1 a w

    item_made : (x : BlockItem-F BlockItem Stmt) (y : BlockItem-F Item Part) → bare_item y ≡ x → GoesItem (roll-BlockItem x)
    item_made x y is =
        let Q : BlockItem-F BlockItem Stmt → Type 0 = λ x. Runs (item_step env (walks_item x)) (statements.item_step scope (reads_item x)) in
        let R : Running → Type 0 = λ r. Runs r (statements.item_step scope (reads_item x)) in
        let S : Stating → Type 0 = λ r. Runs (item_walk env (roll-BlockItem x)) r in
        subst S (sym (fold-roll-BlockItem Stating Stating (statements.item_step scope) (statements.statement_step scope wanted) x))
        (subst R (sym (fold-roll-BlockItem Running Running (item_step env) (statement_step env) x)) (subst Q is (item_layer y)))

    pub item_goes : (i : BlockItem) → GoesItem i
    item_goes = ind-BlockItem GoesItem GoesStatement item_made statement_made

    -- the statements of a body
    pub body_goes : (items : List BlockItem) (a : Around) (w : Walk)
        → Goes P env w (in_block env (map (item_walk env) items) a w) (list_of (map (item_of scope wanted) items)) (CallsInAll P)
    body_goes items a w = block_goes (item_walk env) (item_of scope wanted) item_goes items a w
