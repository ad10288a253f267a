-- Each statement, and each item of a block, leaves as it is resolved, where no rule has a finding in it.
use Rattle.std.proofs.Common.{◌≡◌, List, map, Some, None, sym, subst}
use Rattle.java_tree.specs.declared.tree.BlockItem.{BlockItem, roll-BlockItem, map-BlockItem}
use Rattle.java_tree.specs.declared.tree.Stmt.{Stmt, roll-Stmt, map-Stmt}
use Rattle.java_tree.specs.declared.tree.BlockItem.TheOpen.{BlockItem-F, Stmt-F}
use Rattle.java_tree.specs.declared.tree.BlockItem.TheOpen as s
use Rattle.java_tree.specs.declared.tree.BlockItem.TheFolds.{fold-roll-BlockItem, fold-roll-Stmt, ind-BlockItem}
use Rattle.java_tree.specs.declared.types.ExprType.{ExprType}
use Rattle.java_types.proofs.Lists.{map_map}
use Rattle.java_types.specs.declared.statements.Around.{Around}
use Rattle.java_types.specs.declared.walk.Walk.{Walk}
use Rattle.java_types.specs.Statements as types
use Rattle.annotations.specs.declared.walk.Walk.{Walk as MarkingWalk}
use Rattle.annotations.specs.Statements as marking
use Rattle.java_flow.specs.Points.{Point as FlowPoint}
use Rattle.java_flow.specs.Statements as flow
use Rattle.java_flow.specs.Statements.{Item}
use Rattle.access_blocks.specs.declared.body.Statement.{Statement}
use Rattle.access_blocks.specs.Resolving.{wanted_by}
use Rattle.access_blocks.specs.ResolvingStatements as statements
use Rattle.access_blocks.specs.ResolvingStatements.{Stating, list_of}
use Rattle.body_code.specs.Completing.{leaving_of}
use Rattle.resolved_constants.specs.Laws.{TestsAreKept}
use Rattle.typed_statements.specs.Goes.{Goes}
use Rattle.typed_statements.specs.Leaves.{LeavesGo}
use Rattle.typed_statements.specs.Points.{Setting, IsSoundSomewhere}
use Rattle.ending_bodies.proofs.Branches.{if_goes, else_goes, while_goes, for_goes}
use Rattle.ending_bodies.proofs.Grown.{item_starts, statement_starts}
use Rattle.ending_bodies.proofs.Leaving.{AllLeave}
use Rattle.ending_bodies.proofs.Meaning.{Fact}
use Rattle.ending_bodies.proofs.Statements.{Runs, local_goes, empty_goes, simple_goes, break_goes, continue_goes, returned_goes, items_go, block_goes}

module _ (leaves : LeavesGo) (kept : TestsAreKept) (k : Setting) (sound : IsSoundSomewhere k) where
  abbrev wanted : ExprType
  wanted = wanted_by k.around.result

  abbrev types_item : BlockItem → types.Running
  types_item = types.item_walk k.env

  abbrev types_statement : Stmt → types.Running
  types_statement = types.statement_walk k.env

  abbrev marking_item : BlockItem → marking.Running
  marking_item = marking.item_walk k.marks

  abbrev marking_statement : Stmt → marking.Running
  marking_statement = marking.statement_walk k.marks

  abbrev item_read : BlockItem → Stating
  item_read = statements.item_of k.scope wanted

  abbrev statement_read : Stmt → Stating
  statement_read = statements.statement_of k.scope wanted

  abbrev pub GoesItem : BlockItem → Type 0
  GoesItem i = Runs k (types_item i) (marking_item i) (item_read i) (flow.item_of i).walk

  abbrev pub GoesStatement : Stmt → Type 0
  GoesStatement x = Runs k (types_statement x) (marking_statement x) (statement_read x) (flow.statement_walk x)

  abbrev OneItem : Type 0
  OneItem = (i : BlockItem) × GoesItem i

  abbrev Part : Type 0
  Part = (x : Stmt) × GoesStatement x

  -- ---- each layer

  abbrev typed_layer : Stmt-F BlockItem Stmt → types.Running
  typed_layer x = types.statement_step k.env (map-Stmt BlockItem Stmt types.Running types.Running types_item types_statement x)

  abbrev marked_layer : Stmt-F BlockItem Stmt → marking.Running
  marked_layer x = marking.statement_step k.marks (map-Stmt BlockItem Stmt marking.Running marking.Running marking_item marking_statement x)

  abbrev read_layer : Stmt-F BlockItem Stmt → Stating
  read_layer x = statements.statement_step k.scope wanted (map-Stmt BlockItem Stmt Stating Stating item_read statement_read x)

  abbrev flow_layer : Stmt-F BlockItem Stmt → FlowPoint → FlowPoint
  flow_layer x = flow.statement_step (map-Stmt BlockItem Stmt Item (FlowPoint → FlowPoint) flow.item_of flow.statement_walk x)

  abbrev Layer : Stmt-F BlockItem Stmt → Type 0
  Layer x = Runs k (typed_layer x) (marked_layer x) (read_layer x) (flow_layer x)

  abbrev bare : Stmt-F OneItem Part → Stmt-F BlockItem Stmt
  bare = map-Stmt OneItem Part BlockItem Stmt (λ i. i.0) (λ x. x.0)

  -- what is said of items by their walks is said of bare ones
  of_bare : (Q : List types.Running → List marking.Running → List Stating → List Item → Type 0) (items : List OneItem)
      → Q (map (λ (i : OneItem). types_item i.0) items) (map (λ (i : OneItem). marking_item i.0) items) (map (λ (i : OneItem). item_read i.0) items) (map (λ (i : OneItem). flow.item_of i.0) items)
      → let xs = map (λ (i : OneItem). i.0) items in Q (map types_item xs) (map marking_item xs) (map item_read xs) (map flow.item_of xs)
  of_bare Q items made =
      let first : OneItem → BlockItem = λ i. i.0 in
      let xs = map first items in
      let ms = map (λ (i : OneItem). marking_item i.0) items in
      let rs = map (λ (i : OneItem). item_read i.0) items in
      let fs = map (λ (i : OneItem). flow.item_of i.0) items in
      let a = subst (λ ts. Q ts ms rs fs) (sym (map_map types_item first items)) made in
      let b = subst (λ ns. Q (map types_item xs) ns rs fs) (sym (map_map marking_item first items)) a in
      let c = subst (λ ns. Q (map types_item xs) (map marking_item xs) ns fs) (sym (map_map item_read first items)) b in
      subst (λ ns. Q (map types_item xs) (map marking_item xs) (map item_read xs) ns) (sym (map_map flow.item_of first items)) c

  statement_layer : (y : Stmt-F OneItem Part) → Layer (bare y)
  statement_layer (s.Block items) =
      of_bare (λ ts ms rs fs. Runs k (types.statement_step k.env (s.Block ts)) (marking.statement_step k.marks (s.Block ms)) (statements.block_of rs) (flow.statement_step (s.Block fs))) items
      (block_goes leaves kept k sound (λ (i : OneItem). types_item i.0) (λ i. marking_item i.0) (λ i. item_read i.0) (λ i. flow.item_of i.0) (λ i. item_starts i.0) (λ i. i.1) items)
  statement_layer s.Empty = empty_goes leaves kept k sound
  statement_layer (s.Simple x) = simple_goes leaves kept k sound x
  statement_layer (s.If test first None) =
      if_goes leaves kept k sound test (types_statement first.0) (marking_statement first.0) (statement_read first.0) (flow.statement_walk first.0) (statement_starts first.0) first.1
  statement_layer (s.If test first (Some second)) =
      else_goes leaves kept k sound test (types_statement first.0) (marking_statement first.0) (statement_read first.0) (flow.statement_walk first.0) (statement_starts first.0) first.1
      (types_statement second.0) (marking_statement second.0) (statement_read second.0) (flow.statement_walk second.0) (statement_starts second.0) second.1
  statement_layer (s.While test body) =
      while_goes leaves kept k sound test (types_statement body.0) (marking_statement body.0) (statement_read body.0) (flow.statement_walk body.0) (statement_starts body.0) body.1
  statement_layer (s.For h body) =
      for_goes leaves kept k sound h (types_statement body.0) (marking_statement body.0) (statement_read body.0) (flow.statement_walk body.0) (statement_starts body.0) body.1
  statement_layer s.Break = break_goes leaves kept k sound
  statement_layer s.Continue = continue_goes leaves kept k sound
  statement_layer (s.Return v) = returned_goes leaves kept k sound v

  statement_made : (x : Stmt-F BlockItem Stmt) (y : Stmt-F OneItem Part) → bare y ≡ x → GoesStatement (roll-Stmt x)
  statement_made x y is =
      let z = roll-Stmt x in
      let T = λ (r : types.Running). Runs k r (marked_layer x) (read_layer x) (flow_layer x) in
      let M = λ (r : marking.Running). Runs k (types_statement z) r (read_layer x) (flow_layer x) in
      let R = λ (r : Stating). Runs k (types_statement z) (marking_statement z) r (flow_layer x) in
      let F = λ (f : FlowPoint → FlowPoint). Runs k (types_statement z) (marking_statement z) (statement_read z) f in
      subst F (sym (fold-roll-Stmt Item (FlowPoint → FlowPoint) flow.item_step flow.statement_step x))
      (subst R (sym (fold-roll-Stmt Stating Stating (statements.item_step k.scope) (statements.statement_step k.scope wanted) x))
      (subst M (sym (fold-roll-Stmt marking.Running marking.Running (marking.item_step k.marks) (marking.statement_step k.marks) x))
      (subst T (sym (fold-roll-Stmt types.Running types.Running (types.item_step k.env) (types.statement_step k.env) x)) (subst Layer is (statement_layer y)))))

  -- ---- items

  abbrev typed_item_layer : BlockItem-F BlockItem Stmt → types.Running
  typed_item_layer x = types.item_step k.env (map-BlockItem BlockItem Stmt types.Running types.Running types_item types_statement x)

  abbrev marked_item_layer : BlockItem-F BlockItem Stmt → marking.Running
  marked_item_layer x = marking.item_step k.marks (map-BlockItem BlockItem Stmt marking.Running marking.Running marking_item marking_statement x)

  abbrev read_item_layer : BlockItem-F BlockItem Stmt → Stating
  read_item_layer x = statements.item_step k.scope (map-BlockItem BlockItem Stmt Stating Stating item_read statement_read x)

  abbrev flow_item_layer : BlockItem-F BlockItem Stmt → Item
  flow_item_layer x = flow.item_step (map-BlockItem BlockItem Stmt Item (FlowPoint → FlowPoint) flow.item_of flow.statement_walk x)

  abbrev ItemLayer : BlockItem-F BlockItem Stmt → Type 0
  ItemLayer x = Runs k (typed_item_layer x) (marked_item_layer x) (read_item_layer x) (flow_item_layer x).walk

  abbrev bare_item : BlockItem-F OneItem Part → BlockItem-F BlockItem Stmt
  bare_item = map-BlockItem OneItem Part BlockItem Stmt (λ i. i.0) (λ x. x.0)

  item_layer : (y : BlockItem-F OneItem Part) → ItemLayer (bare_item y)
  item_layer (s.Local l) = local_goes leaves kept k sound l
  item_layer (s.Stmt body) = body.1

  item_made : (x : BlockItem-F BlockItem Stmt) (y : BlockItem-F OneItem Part) → bare_item y ≡ x → GoesItem (roll-BlockItem x)
  item_made x y is =
      let z = roll-BlockItem x in
      let T = λ (r : types.Running). Runs k r (marked_item_layer x) (read_item_layer x) (flow_item_layer x).walk in
      let M = λ (r : marking.Running). Runs k (types_item z) r (read_item_layer x) (flow_item_layer x).walk in
      let R = λ (r : Stating). Runs k (types_item z) (marking_item z) r (flow_item_layer x).walk in
      let F = λ (f : Item). Runs k (types_item z) (marking_item z) (item_read z) f.walk in
      subst F (sym (fold-roll-BlockItem Item (FlowPoint → FlowPoint) flow.item_step flow.statement_step x))
      (subst R (sym (fold-roll-BlockItem Stating Stating (statements.item_step k.scope) (statements.statement_step k.scope wanted) x))
      (subst M (sym (fold-roll-BlockItem marking.Running marking.Running (marking.item_step k.marks) (marking.statement_step k.marks) x))
      (subst T (sym (fold-roll-BlockItem types.Running types.Running (types.item_step k.env) (types.statement_step k.env) x)) (subst ItemLayer is (item_layer y)))))

  pub item_goes : (i : BlockItem) → GoesItem i
  item_goes = ind-BlockItem GoesItem GoesStatement item_made statement_made

  -- the statements of a body
  pub body_goes : (items : List BlockItem) (a : Around) (w : Walk) (u : MarkingWalk) → a.result ≡ wanted
      → Goes k w (types.in_block k.env (map types_item items) a w) u (marking.in_block k.marks (map marking_item items) u) (list_of (map item_read items))
      (Fact (λ (rs : List Statement). AllLeave flow.item_of item_starts (map leaving_of rs) items))
  body_goes items a w u same = items_go leaves kept k sound types_item marking_item item_read flow.item_of item_starts item_goes items a w u same
