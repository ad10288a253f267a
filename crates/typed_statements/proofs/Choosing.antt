-- `if` goes where its branches go.
use Rattle.std.proofs.Common.{◌≡◌, Option, Some, None, ◌∙◌}
use Rattle.java_tree.specs.declared.tree.BlockItem.TheOpen as s
use Rattle.java_tree.specs.declared.tree.Expr.{Expr}
use Rattle.java_types.specs.declared.statements.Around.{Around}
use Rattle.java_types.specs.declared.walk.Walk.{Walk}
use Rattle.java_types.specs.Walks.{past}
use Rattle.java_types.specs.Statements as types
use Rattle.annotations.specs.declared.walk.Walk.{Walk as MarkingWalk}
use Rattle.annotations.specs.Expressions.{inside, expr_of}
use Rattle.annotations.specs.Statements as marking
use Rattle.annotations.specs.Walks as marks
use Rattle.access_blocks.specs.declared.body.Statement.{Statement}
use Rattle.access_blocks.specs.declared.body.Statement.TheVariants as statement
use Rattle.access_blocks.specs.declared.resolved.Resolved.{Resolved}
use Rattle.access_blocks.specs.Cursors.{Cursor, Read, read}
use Rattle.access_blocks.specs.ResolvingStatements.{Stating, second_of, if_of}
use Rattle.typed_statements.specs.Points.{Setting, IsSoundSomewhere}
use Rattle.typed_statements.specs.Goes.{Meaning, Goes}
use Rattle.typed_statements.specs.Leaves.{Stated, LeavesGo}
use Rattle.typed_statements.proofs.Going.{still}
use Rattle.typed_statements.proofs.InTurn.{before, in_turn, made, made_there, stays}
use Rattle.typed_statements.proofs.Steps.{past_still, past_unmoved, unmerged_merges_none}
use Rattle.typed_statements.proofs.StatedStatements.{stated_stable}
use Rattle.typed_statements.proofs.Branching.{Branches, no_second, one_second, if_stated}

-- ---- the branches

abbrev pub Both : Type 0
Both = Statement × Option Statement

abbrev both_of : Stating → Option Stating → Cursor → Read Both
both_of first second c =
    let a = first c in
    let b = second_of second a.cursor in
    read (a.it, b.it) b.cursor

abbrev Branched : Setting → Around → Meaning Both
Branched k a at to both = Branches k a at to both.0 both.1

-- where nothing waits before
abbrev Chosen : Setting → Around → Meaning Statement
Chosen k a at to x = at.marks.awaited ≡ None → Stated k a at to x

-- A branch goes wherever it begins.
abbrev pub Branch : Setting → Around → types.Running → marking.Running → Stating → Type 0
Branch k a run walking reading = (w : Walk) (u : MarkingWalk) → Goes k w (run a w) u (walking u) reading (Stated k a)

second_branch : (k : Setting) (a : Around) (run : types.Running) (walking : marking.Running) (first second : Stating) → Branch k a run walking second
    → (w v : Walk) (u x : MarkingWalk) → Goes k w v u x first (Stated k a)
    → Goes k w (types.otherwise k.env (Some run) a v) u (marking.otherwise k.marks (Some walking) x) (both_of first (Some second)) (Branched k a)
second_branch k a run walking first second goes w v u x g =
    let next : Goes k v (run a (past k.env 1 v)) x (walking (marks.past k.marks 1 x)) second (Stated k a) =
    before k (stated_stable k a) (past_still k.env 1 v) (past_unmoved k.marks 1 x) (goes (past k.env 1 v) (marks.past k.marks 1 x)) in
    in_turn k (λ (a b : Statement). (a, Some b))
    (λ at mid to p q way way_behind h t. record { mid = mid; way = way; way_behind = way_behind; stated = h; second_stated = one_second k a mid to q t }) g next

first_alone : (k : Setting) (a : Around) (first : Stating) → (w v : Walk) (u x : MarkingWalk) → Goes k w v u x first (Stated k a) → Goes k w v u x (both_of first None) (Branched k a)
first_alone k a first w v u x g =
    made k (λ (a : Statement). (a, None))
    (λ at to p way h. record { mid = to; way = way; way_behind = stays k to way.ends; stated = h; second_stated = no_second k a to h.none_awaited }) g

-- ---- the whole

abbrev chosen : Resolved → Both → Statement
chosen r both = statement.If r.expression both.0 both.1

-- from the test on
tested_go : LeavesGo → (k : Setting) → IsSoundSomewhere k → (test : Expr) (a : Around) (first : Stating) (second : Option Stating) (w : Walk) (u : MarkingWalk) (y : Walk) (z : MarkingWalk)
    → Goes k (types.condition k.env test (past k.env 2 w)) y (inside (expr_of k.marks test) (marks.past k.marks 2 (marks.unmerged u))) z (both_of first second) (Branched k a)
    → Goes k w y u z (if_of k.scope test first second) (Stated k a)
tested_go leaves k sound test a first second w u y z branches =
    let m = marks.unmerged u in
    let begins = unmerged_merges_none u in
    let v1 = past k.env 2 w in
    let x1 = marks.past k.marks 2 m in
    let p = past_unmoved k.marks 2 m in
    let both : Goes k v1 y x1 z (if_of k.scope test first second) (Chosen k a) =
    in_turn k chosen (λ at mid to r two way way_behind test b. λ none. if_stated k a at mid to r two.0 two.1 way test b none) (leaves.tests k sound test v1 x1) branches in
    let whole : Goes k v1 y x1 z (if_of k.scope test first second) (Stated k a) =
    made_there k v1 y x1 z (if_of k.scope test first second) (λ (x : Statement). x) (λ c quiet way h. h (p.awaited (both.back quiet) ∙ begins.none (p.back (both.back quiet)))) both in
    before k (stated_stable k a) (still w) begins.moved (before k (stated_stable k a) (past_still k.env 2 w) p whole)

module _ (leaves : LeavesGo) (k : Setting) (sound : IsSoundSomewhere k) (test : Expr) (a : Around) (run : types.Running) (walking : marking.Running) (first : Stating) (goes : Branch k a run walking first) where
  -- the first branch, behind the test
  first_goes : (w : Walk) (u : MarkingWalk) → Goes k w (run a (past k.env 1 w)) u (walking (marks.past k.marks 1 u)) first (Stated k a)
  first_goes w u = before k (stated_stable k a) (past_still k.env 1 w) (past_unmoved k.marks 1 u) (goes (past k.env 1 w) (marks.past k.marks 1 u))

  pub if_alone_goes : (w : Walk) (u : MarkingWalk)
      → Goes k w (types.statement_step k.env (s.If test run None) a w) u (marking.statement_step k.marks (s.If test walking None) u) (if_of k.scope test first None) (Stated k a)
  if_alone_goes w u =
      let v = types.condition k.env test (past k.env 2 w) in
      let x = inside (expr_of k.marks test) (marks.past k.marks 2 (marks.unmerged u)) in
      tested_go leaves k sound test a first None w u (run a (past k.env 1 v)) (walking (marks.past k.marks 1 x))
      (first_alone k a first v (run a (past k.env 1 v)) x (walking (marks.past k.marks 1 x)) (first_goes v x))

  pub if_else_goes : (other : types.Running) (other_walking : marking.Running) (second : Stating) → Branch k a other other_walking second → (w : Walk) (u : MarkingWalk)
      → Goes k w (types.statement_step k.env (s.If test run (Some other)) a w) u (marking.statement_step k.marks (s.If test walking (Some other_walking)) u)
      (if_of k.scope test first (Some second)) (Stated k a)
  if_else_goes other other_walking second others w u =
      let v = types.condition k.env test (past k.env 2 w) in
      let x = inside (expr_of k.marks test) (marks.past k.marks 2 (marks.unmerged u)) in
      let y = run a (past k.env 1 v) in
      let z = walking (marks.past k.marks 1 x) in
      tested_go leaves k sound test a first (Some second) w u (other a (past k.env 1 y)) (other_walking (marks.past k.marks 1 z))
      (second_branch k a other other_walking first second others v y x z (first_goes v x))
