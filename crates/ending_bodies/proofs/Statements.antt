-- Statements without statements inside, and blocks, leave as they are resolved, where no rule has a finding in them.
use Rattle.std.proofs.Common.{◌≡◌, true, false, List, [], map, fold, Option, refl, sym, subst}
use Rattle.java_tree.specs.declared.tree.Local.{Local}
use Rattle.java_tree.specs.declared.tree.Simple.{Simple}
use Rattle.java_tree.specs.declared.tree.Value.{Value}
use Rattle.java_tree.specs.declared.tree.BlockItem.TheOpen as s
use Rattle.java_tree.specs.declared.types.ExprType.{ExprType}
use Rattle.java_types.specs.declared.statements.Around.{Around}
use Rattle.java_types.specs.declared.walk.Walk.{Walk}
use Rattle.java_types.specs.Statements as types
use Rattle.java_types.specs.Walks.{past}
use Rattle.java_types.proofs.Lists.{fold_map}
use Rattle.annotations.specs.declared.walk.Walk.{Walk as MarkingWalk}
use Rattle.annotations.specs.Statements as marking
use Rattle.annotations.specs.Walks as marks
use Rattle.java_flow.specs.Points.{Point as FlowPoint}
use Rattle.java_flow.specs.Points as flow_points
use Rattle.java_flow.specs.Simples as flow_simples
use Rattle.java_flow.specs.Statements as flow
use Rattle.java_flow.specs.Statements.{Item}
use Rattle.access_blocks.specs.declared.body.Statement.{Statement}
use Rattle.access_blocks.specs.declared.body.Statement.TheVariants as statement
use Rattle.access_blocks.specs.Cursors.{read}
use Rattle.access_blocks.specs.Resolving.{wanted_by}
use Rattle.access_blocks.specs.ResolvingStatements as statements
use Rattle.access_blocks.specs.ResolvingStatements.{Stating, list_of, nothing, local, simple_of, return_of}
use Rattle.body_code.specs.Completing.{Leaving, leaving, leaving_of}
use Rattle.resolved_constants.specs.Laws.{TestsAreKept}
use Rattle.typed_statements.specs.Goes.{Goes}
use Rattle.typed_statements.specs.Leaves.{LeavesGo}
use Rattle.typed_statements.specs.Points.{Setting, IsSoundSomewhere}
use Rattle.typed_statements.proofs.Blocks.{closing}
use Rattle.typed_statements.proofs.Going.{still}
use Rattle.typed_statements.proofs.InTurn.{before, behind, unread, made}
use Rattle.typed_statements.proofs.Steps.{past_still, past_unmoved, noted_still, unmerged_merges_none}
use Rattle.ending_bodies.proofs.Forms.{calm_leaves, stop_leaves, before_tokens, break_leaves, block_form}
use Rattle.ending_bodies.proofs.Grown.{Starting}
use Rattle.ending_bodies.proofs.Leaving.{LeavesBy, AllLeave}
use Rattle.ending_bodies.proofs.Calm.{here}
use Rattle.ending_bodies.proofs.Meaning.{Fact, fact_stable, goes_with, list_goes}
use Rattle.ending_bodies.proofs.Passing.{local_calm, simple_calm}
use Rattle.ending_bodies.proofs.Resolved.{block_is, break_is, continue_is, local_none, simple_none}
use Rattle.ending_bodies.proofs.Returns.{return_goes}

-- ---- facts

-- A statement leaves as the walk of the rules on the flow does.
abbrev pub LeavesAs : (FlowPoint → FlowPoint) → Statement → Type 0
LeavesAs walk r = LeavesBy (leaving_of r) walk

pub as_form : (walk : FlowPoint → FlowPoint) (r : Statement) {l : Leaving} → leaving_of r ≡ l → LeavesBy l walk → LeavesAs walk r
as_form walk r is by = subst (λ (l : Leaving). LeavesBy l walk) (sym is) by

-- the walks over a statement, and the reading of it
abbrev pub Runs : Setting → types.Running → marking.Running → Stating → (FlowPoint → FlowPoint) → Type 0
Runs k run mark reading walk = (a : Around) (w : Walk) (u : MarkingWalk) → a.result ≡ wanted_by k.around.result → Goes k w (run a w) u (mark u) reading (Fact (LeavesAs walk))

module _ (leaves : LeavesGo) (kept : TestsAreKept) (k : Setting) (sound : IsSoundSomewhere k) where
  abbrev wanted : ExprType
  wanted = wanted_by k.around.result

  -- ---- statements without statements inside

  pub local_goes : (l : Local) → Runs k (types.item_step k.env (s.Local l)) (marking.item_step k.marks (s.Local l)) (local k.scope l) (flow.item_step (s.Local l)).walk
  local_goes l a w u same =
      let Told : Statement → Type 0 = LeavesAs (flow.item_step (s.Local l)).walk in
      let g = goes_with k Told
      (λ c s. before_tokens (leaving_of (local k.scope l c).it) (λ p. flow_simples.local_walk l (flow_points.begun p)) 1
      (calm_leaves (leaving_of (local k.scope l c).it) (local_none k.scope l c) (flow_simples.local_walk l) (local_calm l)))
      (leaves.locals k sound l a w u) in
      behind k (fact_stable k Told) g (past_still k.env 1 _) (past_unmoved k.marks 1 _)

  pub empty_goes : Runs k (types.statement_step k.env s.Empty) (marking.statement_step k.marks s.Empty) (λ c. read nothing c) (flow.statement_step s.Empty)
  empty_goes a w u same =
      let Told : Statement → Type 0 = LeavesAs (flow.statement_step s.Empty) in
      let fact : Told nothing = as_form (flow.statement_step s.Empty) nothing (block_is []) (before_tokens (leaving true false) (λ p. flow_points.begun p) 1 (calm_leaves (leaving true false) refl (λ p. p) here)) in
      behind k (fact_stable k Told) (before k (fact_stable k Told) (still w) (unmerged_merges_none u).moved (unread k w (marks.unmerged u) nothing (λ at is. fact))) (past_still k.env 1 w) (past_unmoved k.marks 1 _)

  pub simple_goes : (x : Simple) → Runs k (types.statement_step k.env (s.Simple x)) (marking.statement_step k.marks (s.Simple x)) (simple_of k.scope x) (flow.statement_step (s.Simple x))
  simple_goes x a w u same =
      let Told : Statement → Type 0 = LeavesAs (flow.statement_step (s.Simple x)) in
      let g = goes_with k Told
      (λ c s. before_tokens (leaving_of (simple_of k.scope x c).it) (λ p. flow_simples.simple_walk x (flow_points.begun p)) 1
      (calm_leaves (leaving_of (simple_of k.scope x c).it) (simple_none k.scope x c) (flow_simples.simple_walk x) (simple_calm x)))
      (leaves.simples k sound x a w u) in
      behind k (fact_stable k Told) g (past_still k.env 1 _) (past_unmoved k.marks 1 _)

  jump_goes : (walk : FlowPoint → FlowPoint) (r : Statement) → LeavesAs walk r → Runs k (types.jump_walk k.env) (λ u. marks.past k.marks 2 (marks.unmerged u)) (λ c. read r c) walk
  jump_goes walk r fact a w u same =
      behind k (fact_stable k (LeavesAs walk))
      (before k (fact_stable k (LeavesAs walk)) (noted_still _ w.at 11 w) (unmerged_merges_none u).moved (unread k _ (marks.unmerged u) r (λ at is. fact)))
      (past_still k.env 2 _) (past_unmoved k.marks 2 _)

  pub break_goes : Runs k (types.statement_step k.env s.Break) (marking.statement_step k.marks s.Break) (λ c. read statement.Break c) (flow.statement_step s.Break)
  break_goes = jump_goes (flow.statement_step s.Break) statement.Break (as_form (flow.statement_step s.Break) statement.Break break_is break_leaves)

  pub continue_goes : Runs k (types.statement_step k.env s.Continue) (marking.statement_step k.marks s.Continue) (λ c. read statement.Continue c) (flow.statement_step s.Continue)
  continue_goes =
      jump_goes (flow.statement_step s.Continue) statement.Continue
      (as_form (flow.statement_step s.Continue) statement.Continue continue_is (stop_leaves (leaving false false) refl refl (flow.statement_step s.Continue)))

  pub returned_goes : (v : Option Value) → Runs k (types.statement_step k.env (s.Return v)) (marking.statement_step k.marks (s.Return v)) (return_of k.scope wanted v) (flow.statement_step (s.Return v))
  returned_goes v a w u same =
      made k {Means = Fact (LeavesAs (flow.statement_step (s.Return v)))} (λ (r : Statement). r)
      (λ at to r way stops. as_form (flow.statement_step (s.Return v)) r stops (stop_leaves (leaving false false) refl refl (flow.statement_step (s.Return v)))) (return_goes leaves k sound v a w u same)

  -- ---- blocks

  module _ {A : Type 0} (run : A → types.Running) (mark : A → marking.Running) (reading : A → Stating) (item : A → Item) (starts : (x : A) → Starting (item x).walk)
      (each : (x : A) → Runs k (run x) (mark x) (reading x) (item x).walk) where
    -- of what stands in braces, item by item
    abbrev AllLeaveAs : List A → List Statement → Type 0
    AllLeaveAs xs rs = AllLeave item starts (map leaving_of rs) xs

    -- the statements between braces
    pub items_go : (xs : List A) (a : Around) (w : Walk) (u : MarkingWalk) → a.result ≡ wanted
        → Goes k w (types.in_block k.env (map run xs) a w) u (marking.in_block k.marks (map mark xs) u) (list_of (map reading xs)) (Fact (AllLeaveAs xs))
    items_go xs a w u same =
        let w1 = past k.env 1 w in
        let u1 = marks.past k.marks 1 u in
        let Told : List Statement → Type 0 = AllLeaveAs xs in
        let g = list_goes k (λ (x : A) (r : Statement). LeavesAs (item x).walk r) AllLeaveAs tt (λ x xs r rs h t. (h, t)) (λ w x. run x a w) (λ u x. mark x u) reading (λ x w u. each x a w u same) xs w1 u1 in
        let P : Walk → Type 0 = λ v. Goes k w1 v u1 (fold (λ u x. mark x u) u1 xs) (list_of (map reading xs)) (Fact Told) in
        let v1 = fold (λ w (i : types.Running). i a w) w1 (map run xs) in
        let h : P v1 = subst P (sym (fold_map (λ w (i : types.Running). i a w) run w1 xs)) g in
        let Q : MarkingWalk → Type 0 = λ y. Goes k w1 v1 u1 y (list_of (map reading xs)) (Fact Told) in
        let i = subst Q (sym (fold_map (λ u (i : marking.Running). i u) mark u1 xs)) h in
        let inner = before k (fact_stable k Told) (past_still k.env 1 w) (past_unmoved k.marks 1 u)
        (behind k (fact_stable k Told) (behind k (fact_stable k Told) i (still _) (unmerged_merges_none _).moved) (past_still k.env 1 _) (past_unmoved k.marks 1 _)) in
        closing k w (past k.env 1 v1) u _ (list_of (map reading xs)) (Fact Told) (Fact Told) (λ rs. rs) (λ at inside behind rs quiet is_at is_behind c h. h) inner

    pub block_goes : (xs : List A)
        → Runs k (types.in_block k.env (map run xs)) (λ u. marking.in_block k.marks (map mark xs) (marks.unmerged u)) (statements.block_of (map reading xs)) (flow.statement_step (s.Block (map item xs)))
    block_goes xs a w u same =
        let Told : Statement → Type 0 = LeavesAs (flow.statement_step (s.Block (map item xs))) in
        let g = made k {Means = Fact Told} (λ (rs : List Statement). statement.Block rs)
        (λ at to rs way all. as_form (flow.statement_step (s.Block (map item xs))) (statement.Block rs) (block_is rs) (block_form item starts (map leaving_of rs) xs all)) (items_go xs a w (marks.unmerged u) same) in
        before k (fact_stable k Told) (still w) (unmerged_merges_none u).moved g
