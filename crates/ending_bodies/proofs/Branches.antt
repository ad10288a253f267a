-- Branches and loops leave as they are resolved, where their parts do.
use Rattle.std.proofs.Common.{[], Some, None}
use Rattle.java_tree.specs.declared.tree.Expr.{Expr}
use Rattle.java_tree.specs.declared.tree.ForHeader.{ForHeader}
use Rattle.java_tree.specs.declared.tree.BlockItem.TheOpen as s
use Rattle.java_types.specs.declared.walk.Walk.{Walk}
use Rattle.java_types.specs.Statements as types
use Rattle.java_types.specs.Walks.{past}
use Rattle.annotations.specs.declared.walk.Walk.{Walk as MarkingWalk}
use Rattle.annotations.specs.Expressions as marking_expressions
use Rattle.annotations.specs.Statements as marking
use Rattle.annotations.specs.Walks as marks
use Rattle.java_flow.specs.Points.{Point as FlowPoint}
use Rattle.java_flow.specs.Statements as flow
use Rattle.access_blocks.specs.declared.body.Expression.{Expression}
use Rattle.access_blocks.specs.declared.body.Statement.{Statement}
use Rattle.access_blocks.specs.declared.body.Statement.TheVariants as statement
use Rattle.access_blocks.specs.declared.resolved.Resolved.{Resolved}
use Rattle.access_blocks.specs.Resolving.{expression_of}
use Rattle.access_blocks.specs.ResolvingStatements as statements
use Rattle.access_blocks.specs.ResolvingStatements.{Stating}
use Rattle.body_code.specs.Completing.{goes_on, leaving_of}
use Rattle.resolved_constants.specs.Laws.{TestsAreKept}
use Rattle.typed_statements.specs.Goes.{Goes}
use Rattle.typed_statements.specs.Leaves.{LeavesGo}
use Rattle.typed_statements.specs.Points.{Setting, IsSoundSomewhere}
use Rattle.typed_statements.proofs.Blocks.{closing}
use Rattle.typed_statements.proofs.Going.{still}
use Rattle.typed_statements.proofs.Headers.{unmerged_awaits_none}
use Rattle.typed_statements.proofs.InTurn.{before, behind, in_turn}
use Rattle.typed_statements.proofs.Steps.{past_still, past_unmoved, unmerged_merges_none}
use Rattle.ending_bodies.proofs.Forms.{if_form, else_form, while_form, for_form}
use Rattle.ending_bodies.proofs.Grown.{Starting}
use Rattle.ending_bodies.proofs.Headers.{Head, header_goes}
use Rattle.ending_bodies.proofs.Meaning.{Fact, fact_stable}
use Rattle.ending_bodies.proofs.Resolved.{if_is, else_is, loop_is}
use Rattle.ending_bodies.proofs.Statements.{LeavesAs, Runs, as_form}
use Rattle.ending_bodies.proofs.Tests.{IsTrueToo, test_goes}

module _ (leaves : LeavesGo) (kept : TestsAreKept) (k : Setting) (sound : IsSoundSomewhere k) where
  -- ---- tests

  abbrev IsTested : Expr → Resolved → Type 0
  IsTested test r = IsTrueToo (Some test) (Some r.expression)

  module _ (test : Expr) (w : Walk) (u : MarkingWalk) where
    -- behind the test and its parenthesis
    abbrev behind_test : Walk
    behind_test = past k.env 1 (types.condition k.env test (past k.env 2 w))

    abbrev behind_marked : MarkingWalk
    behind_marked = marks.past k.marks 1 (marking_expressions.inside (marking_expressions.expr_of k.marks test) (marks.past k.marks 2 (marks.unmerged u)))

    tested_goes : Goes k w behind_test u behind_marked (expression_of k.scope test) (Fact (IsTested test))
    tested_goes =
        let stable = fact_stable k (IsTested test) in
        before k stable (still w) (unmerged_merges_none u).moved
        (before k stable (past_still k.env 2 w) (past_unmoved k.marks 2 (marks.unmerged u))
        (behind k stable (test_goes leaves kept k sound test (past k.env 2 w) (marks.past k.marks 2 (marks.unmerged u))) (past_still k.env 1 _) (past_unmoved k.marks 1 _)))

  module _ (test : Expr) (first : types.Running) (first_mark : marking.Running) (reading : Stating) (walk : FlowPoint → FlowPoint) (starts : Starting walk) (by : Runs k first first_mark reading walk) where
    -- ---- branches

    -- the test, and the first branch
    abbrev Both : Type 0
    Both = Expression × Statement

    abbrev IsFirst : Both → Type 0
    IsFirst both = LeavesAs walk both.1

    pub if_goes : Runs k (types.statement_step k.env (s.If test first None)) (marking.statement_step k.marks (s.If test first_mark None)) (statements.if_of k.scope test reading None) (flow.statement_step (s.If test walk None))
    if_goes a w u same =
        let form : FlowPoint → FlowPoint = flow.statement_step (s.If test walk None) in
        in_turn k {Means = Fact (LeavesAs form)} (λ (r : Resolved) (b : Statement). statement.If r.expression b None)
        (λ at mid to r b p q g h. as_form form (statement.If r.expression b None) (if_is r.expression b) (if_form test (leaving_of b) walk starts h))
        (tested_goes test w u) (by a (behind_test test w u) (behind_marked test w u) same)

    pub else_goes : (second : types.Running) (second_mark : marking.Running) (other : Stating) (other_walk : FlowPoint → FlowPoint) → Starting other_walk → Runs k second second_mark other other_walk
        → Runs k (types.statement_step k.env (s.If test first (Some second))) (marking.statement_step k.marks (s.If test first_mark (Some second_mark))) (statements.if_of k.scope test reading (Some other))
        (flow.statement_step (s.If test walk (Some other_walk)))
    else_goes second second_mark other other_walk others by_other a w u same =
        let form : FlowPoint → FlowPoint = flow.statement_step (s.If test walk (Some other_walk)) in
        let v = first a (behind_test test w u) in
        let y = first_mark (behind_marked test w u) in
        let one = in_turn k {Means = Fact IsFirst} (λ (r : Resolved) (b : Statement). (r.expression, b)) (λ at mid to r b p q g h. h) (tested_goes test w u) (by a (behind_test test w u) (behind_marked test w u) same) in
        let two = before k (fact_stable k (LeavesAs other_walk)) (past_still k.env 1 v) (past_unmoved k.marks 1 y) (by_other a (past k.env 1 v) (marks.past k.marks 1 y) same) in
        in_turn k {Means = Fact (LeavesAs form)} (λ (both : Both) (b : Statement). statement.If both.0 both.1 (Some b))
        (λ at mid to both b p q g h. as_form form (statement.If both.0 both.1 (Some b)) (else_is both.0 both.1 b)
        (else_form test (leaving_of both.1) (leaving_of b) walk other_walk starts others g h)) one two

    -- ---- loops

    pub while_goes : Runs k (types.statement_step k.env (s.While test first)) (marking.statement_step k.marks (s.While test first_mark)) (statements.while_of k.scope test reading) (flow.statement_step (s.While test walk))
    while_goes a w u same =
        let form : FlowPoint → FlowPoint = flow.statement_step (s.While test walk) in
        in_turn k {Means = Fact (LeavesAs form)} (λ (r : Resolved) (b : Statement). statement.Loop [] (Some r.expression) [] b)
        (λ at mid to r b p q g h. as_form form (statement.Loop [] (Some r.expression) [] b) (loop_is [] (Some r.expression) [] b)
        (while_form test (goes_on (Some r.expression)) (leaving_of b) walk starts g h))
        (tested_goes test w u) (by (types.in_loop a) (behind_test test w u) (behind_marked test w u) same)

  module _ (h : ForHeader) (body : types.Running) (body_mark : marking.Running) (reading : Stating) (walk : FlowPoint → FlowPoint) (starts : Starting walk) (by : Runs k body body_mark reading walk) where
    pub for_goes : Runs k (types.statement_step k.env (s.For h body)) (marking.statement_step k.marks (s.For h body_mark)) (statements.for_of k.scope h reading) (flow.statement_step (s.For h walk))
    for_goes a w u same =
        let form : FlowPoint → FlowPoint = flow.statement_step (s.For h walk) in
        let Told : Statement → Type 0 = LeavesAs form in
        let u1 = marks.unmerged u in
        let v = types.header_walk k.env h w in
        let y = marking.header_walk k.marks h u1 in
        let inside : Goes k w (body (types.in_loop a) v) u1 (body_mark y) (statements.for_of k.scope h reading) (Fact Told) =
        in_turn k {Means = Fact Told} (λ (head : Head) (b : Statement). statement.Loop head.0 head.1 head.2 b)
        (λ at mid to head b p q g b_leaves. as_form form (statement.Loop head.0 head.1 head.2 b) (loop_is head.0 head.1 head.2 b) (for_form h (goes_on head.1) (leaving_of b) walk starts g b_leaves))
        (header_goes leaves kept k sound a h w u1 (unmerged_awaits_none u)) (by (types.in_loop a) v y same) in
        before k (fact_stable k Told) (still w) (unmerged_merges_none u).moved
        (closing k w (body (types.in_loop a) v) u1 (body_mark y) (statements.for_of k.scope h reading) (Fact Told) (Fact Told) (λ r. r) (λ at inside behind r quiet is_at is_behind c h. h) inside)
