-- Statements go where those without statements inside go, conditions and loops: what is read of a body is typed.
use Rattle.std.proofs.Common.{◌≡◌, List, map, Some, None, sym, subst}
use Rattle.java_tree.specs.declared.tree.BlockItem.{BlockItem, roll-BlockItem}
use Rattle.java_tree.specs.declared.tree.Stmt.{Stmt, roll-Stmt}
use Rattle.java_tree.specs.declared.tree.BlockItem.TheOpen.{BlockItem-F, Stmt-F}
use Rattle.java_tree.specs.declared.tree.BlockItem.TheOpen as s
use Rattle.java_tree.specs.declared.tree.BlockItem.TheFolds.{fold-roll-BlockItem, fold-roll-Stmt, ind-BlockItem, map-BlockItem, map-Stmt}
use Rattle.java_tree.specs.declared.types.ExprType.{ExprType}
use Rattle.java_types.specs.declared.statements.Around.{Around}
use Rattle.java_types.specs.declared.walk.Walk.{Walk}
use Rattle.java_types.specs.Simples as types_simples
use Rattle.java_types.specs.Statements as types
use Rattle.java_types.proofs.Lists.{map_map}
use Rattle.annotations.specs.declared.walk.Walk.{Walk as MarkingWalk}
use Rattle.annotations.specs.Simples as marking_simples
use Rattle.annotations.specs.Statements as marking
use Rattle.annotations.specs.Walks as marks
use Rattle.access_blocks.specs.declared.body.Statement.{Statement}
use Rattle.access_blocks.specs.Resolving.{wanted_by}
use Rattle.access_blocks.specs.ResolvingStatements.{Stating, list_of, block_of, item_of, statement_of}
use Rattle.access_blocks.specs.ResolvingStatements as statements
use Rattle.body_code.specs.Early.{assigned_in}
use Rattle.marked_bodies.specs.Unmarked.{unmarked}
use Rattle.typed_statements.specs.Points.{Setting, IsSoundSomewhere}
use Rattle.typed_statements.specs.Checks.{Typed, AllTyped}
use Rattle.typed_statements.specs.Goes.{Meaning, Goes}
use Rattle.typed_statements.specs.Laws.{StatementsGo}
use Rattle.typed_statements.specs.Leaves.{Stated, LeavesGo, LoopsGo}
use Rattle.typed_statements.proofs.InTurn.{behind, made}
use Rattle.typed_statements.proofs.Standings.{checks_stable}
use Rattle.typed_statements.proofs.Steps.{past_still, past_unmoved}
use Rattle.typed_statements.proofs.StatedStatements.{stated_stable}
use Rattle.typed_statements.proofs.Jumps.{empty_goes, break_goes, continue_goes}
use Rattle.typed_statements.proofs.Choosing.{if_alone_goes, if_else_goes}
use Rattle.typed_statements.proofs.Bodies.{items_block_goes, items_body_goes}

module _ (leaves : LeavesGo) (loops : LoopsGo) (k : Setting) (sound : IsSoundSomewhere k) where
  abbrev wanted : ExprType
  wanted = wanted_by k.around.result

  -- ---- what goes wherever it stands in the method

  abbrev Runs : (Around → Meaning Statement) → types.Running → marking.Running → Stating → Type 0
  Runs Means run walking reading = (a : Around) → a.result ≡ wanted → (w : Walk) (u : MarkingWalk) → Goes k w (run a w) u (walking u) reading (Means a)

  abbrev runs : BlockItem → types.Running
  runs = types.item_walk k.env

  abbrev runs_statement : Stmt → types.Running
  runs_statement = types.statement_walk k.env

  abbrev marks_item : BlockItem → marking.Running
  marks_item = marking.item_walk k.marks

  abbrev marks_statement : Stmt → marking.Running
  marks_statement = marking.statement_walk k.marks

  abbrev reads : BlockItem → Stating
  reads = item_of k.scope wanted

  abbrev reads_statement : Stmt → Stating
  reads_statement = statement_of k.scope wanted

  abbrev ItemGoes : BlockItem → Type 0
  ItemGoes i = Runs (Typed k) (runs i) (marks_item i) (reads i)

  abbrev StatementGoes : Stmt → Type 0
  StatementGoes x = Runs (Stated k) (runs_statement x) (marks_statement x) (reads_statement x)

  abbrev Item : Type 0
  Item = (i : BlockItem) × ItemGoes i

  abbrev Part : Type 0
  Part = (x : Stmt) × StatementGoes x

  -- ---- statements

  abbrev bare : Stmt-F Item Part → Stmt-F BlockItem Stmt
  bare = map-Stmt Item Part BlockItem Stmt (λ i. i.0) (λ x. x.0)

  abbrev running : Stmt-F BlockItem Stmt → types.Running
  running x = types.statement_step k.env (map-Stmt BlockItem Stmt types.Running types.Running runs runs_statement x)

  abbrev walking : Stmt-F BlockItem Stmt → marking.Running
  walking x = marking.statement_step k.marks (map-Stmt BlockItem Stmt marking.Running marking.Running marks_item marks_statement x)

  abbrev reading : Stmt-F BlockItem Stmt → Stating
  reading x = statements.statement_step k.scope wanted (map-Stmt BlockItem Stmt Stating Stating reads reads_statement x)

  block_layer : (items : List Item) (a : Around) → a.result ≡ wanted → (w : Walk) (u : MarkingWalk)
      → Goes k w (types.in_block k.env (map runs (map (λ i. i.0) items)) a w) u (marking.in_block k.marks (map marks_item (map (λ i. i.0) items)) (marks.unmerged u))
      (block_of (map reads (map (λ i. i.0) items))) (Stated k a)
  block_layer items a result w u =
      let R : List types.Running → List marking.Running → List Stating → Type 0 =
      λ rs ms ss. Goes k w (types.in_block k.env rs a w) u (marking.in_block k.marks ms (marks.unmerged u)) (block_of ss) (Stated k a) in
      let rs = map (λ (i : Item). runs i.0) items in
      let ms = map (λ (i : Item). marks_item i.0) items in
      let g : R rs ms (map (λ (i : Item). reads i.0) items) =
      items_block_goes k a (λ (i : Item). runs i.0) (λ i. marks_item i.0) (λ i. reads i.0) (λ i w u. i.1 a result w u) items w u in
      let h : R rs ms (map reads (map (λ (i : Item). i.0) items)) = subst (R rs ms) (sym (map_map reads (λ (i : Item). i.0) items)) g in
      let j : R rs (map marks_item (map (λ (i : Item). i.0) items)) (map reads (map (λ (i : Item). i.0) items)) =
      subst (λ (qs : List marking.Running). R rs qs (map reads (map (λ (i : Item). i.0) items))) (sym (map_map marks_item (λ (i : Item). i.0) items)) h in
      subst (λ (qs : List types.Running). R qs (map marks_item (map (λ (i : Item). i.0) items)) (map reads (map (λ (i : Item). i.0) items)))
      (sym (map_map runs (λ (i : Item). i.0) items)) j

  statement_layer : (y : Stmt-F Item Part) → Runs (Stated k) (running (bare y)) (walking (bare y)) (reading (bare y))
  statement_layer (s.Block items) a result w u = block_layer items a result w u
  statement_layer s.Empty a result w u = empty_goes k a w u
  statement_layer (s.Simple x) a result w u =
      let m = marking_simples.simple_walk k.marks x u in
      behind k (stated_stable k a) (leaves.simples k sound x a w u) (past_still k.env 1 (types_simples.simple_walk k.env x w)) (past_unmoved k.marks 1 (marks.unmerged m))
  statement_layer (s.If test first None) a result w u =
      if_alone_goes leaves k sound test a (runs_statement first.0) (marks_statement first.0) (reads_statement first.0) (first.1 a result) w u
  statement_layer (s.If test first (Some second)) a result w u =
      if_else_goes leaves k sound test a (runs_statement first.0) (marks_statement first.0) (reads_statement first.0) (first.1 a result) (runs_statement second.0) (marks_statement second.0)
      (reads_statement second.0) (second.1 a result) w u
  statement_layer (s.While test body) a result w u =
      loops.whiles k sound test a (runs_statement body.0) (marks_statement body.0) (reads_statement body.0) (body.1 (types.in_loop a) result) w u
  statement_layer (s.For header body) a result w u =
      loops.fors k sound header a (runs_statement body.0) (marks_statement body.0) (reads_statement body.0) (body.1 (types.in_loop a) result) w u
  statement_layer s.Break a result w u = break_goes k a w u
  statement_layer s.Continue a result w u = continue_goes k a w u
  statement_layer (s.Return v) a result w u = leaves.returns k sound v a w u result

  statement_made : (x : Stmt-F BlockItem Stmt) (y : Stmt-F Item Part) → bare y ≡ x → StatementGoes (roll-Stmt x)
  statement_made x y is =
      let Q : Stmt-F BlockItem Stmt → Type 0 = λ x. Runs (Stated k) (running x) (walking x) (reading x) in
      let R : types.Running → Type 0 = λ r. Runs (Stated k) r (walking x) (reading x) in
      let M : marking.Running → Type 0 = λ m. Runs (Stated k) (runs_statement (roll-Stmt x)) m (reading x) in
      let S : Stating → Type 0 = λ r. Runs (Stated k) (runs_statement (roll-Stmt x)) (marks_statement (roll-Stmt x)) r in
      subst S (sym (fold-roll-Stmt Stating Stating (statements.item_step k.scope) (statements.statement_step k.scope wanted) x))
      (subst M (sym (fold-roll-Stmt marking.Running marking.Running (marking.item_step k.marks) (marking.statement_step k.marks) x))
      (subst R (sym (fold-roll-Stmt types.Running types.Running (types.item_step k.env) (types.statement_step k.env) x)) (subst Q is (statement_layer y))))

  -- ---- items of blocks

  abbrev bare_item : BlockItem-F Item Part → BlockItem-F BlockItem Stmt
  bare_item = map-BlockItem Item Part BlockItem Stmt (λ i. i.0) (λ x. x.0)

  abbrev running_item : BlockItem-F BlockItem Stmt → types.Running
  running_item x = types.item_step k.env (map-BlockItem BlockItem Stmt types.Running types.Running runs runs_statement x)

  abbrev walking_item : BlockItem-F BlockItem Stmt → marking.Running
  walking_item x = marking.item_step k.marks (map-BlockItem BlockItem Stmt marking.Running marking.Running marks_item marks_statement x)

  abbrev reading_item : BlockItem-F BlockItem Stmt → Stating
  reading_item x = statements.item_step k.scope (map-BlockItem BlockItem Stmt Stating Stating reads reads_statement x)

  item_layer : (y : BlockItem-F Item Part) → Runs (Typed k) (running_item (bare_item y)) (walking_item (bare_item y)) (reading_item (bare_item y))
  item_layer (s.Local l) a result w u =
      behind k (checks_stable k a (unmarked k.around) assigned_in) (leaves.locals k sound l a w u) (past_still k.env 1 (types_simples.local k.env l w))
      (past_unmoved k.marks 1 (marking_simples.local k.marks l u))
  item_layer (s.Stmt body) a result w u = made k (λ (x : Statement). x) (λ at to x way h. h.typed) (body.1 a result w u)

  item_made : (x : BlockItem-F BlockItem Stmt) (y : BlockItem-F Item Part) → bare_item y ≡ x → ItemGoes (roll-BlockItem x)
  item_made x y is =
      let Q : BlockItem-F BlockItem Stmt → Type 0 = λ x. Runs (Typed k) (running_item x) (walking_item x) (reading_item x) in
      let R : types.Running → Type 0 = λ r. Runs (Typed k) r (walking_item x) (reading_item x) in
      let M : marking.Running → Type 0 = λ m. Runs (Typed k) (runs (roll-BlockItem x)) m (reading_item x) in
      let S : Stating → Type 0 = λ r. Runs (Typed k) (runs (roll-BlockItem x)) (marks_item (roll-BlockItem x)) r in
      subst S (sym (fold-roll-BlockItem Stating Stating (statements.item_step k.scope) (statements.statement_step k.scope wanted) x))
      (subst M (sym (fold-roll-BlockItem marking.Running marking.Running (marking.item_step k.marks) (marking.statement_step k.marks) x))
      (subst R (sym (fold-roll-BlockItem types.Running types.Running (types.item_step k.env) (types.statement_step k.env) x)) (subst Q is (item_layer y))))

  item_goes : (i : BlockItem) → ItemGoes i
  item_goes = ind-BlockItem ItemGoes StatementGoes item_made statement_made

  body_goes : (items : List BlockItem) (a : Around) (w : Walk) (u : MarkingWalk) → a.result ≡ wanted
      → Goes k w (types.in_block k.env (map runs items) a w) u (marking.in_block k.marks (map marks_item items) u) (list_of (map reads items)) (AllTyped k a)
  body_goes items a w u result = items_body_goes k a runs marks_item reads (λ i w u. item_goes i a result w u) items w u

pub statements_go : LeavesGo → LoopsGo → StatementsGo
statements_go leaves loops k sound items a w u result = body_goes leaves loops k sound items a w u result
