-- `while` goes where its body goes.
use Rattle.std.proofs.Common.{◌≡◌, [], Some, None, ◌∙◌}
use Rattle.java_tree.specs.declared.tree.BlockItem.TheOpen as s
use Rattle.java_tree.specs.declared.tree.Expr.{Expr}
use Rattle.java_types.specs.declared.statements.Around.{Around}
use Rattle.java_types.specs.declared.walk.Walk.{Walk}
use Rattle.java_types.specs.Walks.{past}
use Rattle.java_types.specs.Statements as types
use Rattle.annotations.specs.declared.walk.Walk.{Walk as MarkingWalk}
use Rattle.annotations.specs.Expressions.{inside, expr_of}
use Rattle.annotations.specs.Statements as marking
use Rattle.annotations.specs.Walks as marks
use Rattle.access_blocks.specs.declared.body.Statement.{Statement}
use Rattle.access_blocks.specs.declared.body.Statement.TheVariants as statement
use Rattle.access_blocks.specs.declared.resolved.Resolved.{Resolved}
use Rattle.access_blocks.specs.ResolvingStatements.{Stating, while_of}
use Rattle.typed_statements.specs.Points.{Setting, Point, IsSoundSomewhere}
use Rattle.typed_statements.specs.Goes.{Meaning, Goes}
use Rattle.typed_statements.specs.Leaves.{Tested, Stated, LeavesGo}
use Rattle.typed_statements.proofs.Going.{still}
use Rattle.typed_statements.proofs.InTurn.{Way, before, in_turn, made_there}
use Rattle.typed_statements.proofs.Lists.{none_typed}
use Rattle.typed_statements.proofs.Steps.{past_still, past_unmoved, unmerged_merges_none}
use Rattle.typed_statements.proofs.Standings.{longer}
use Rattle.typed_statements.proofs.Closing.{closed_knows}
use Rattle.typed_statements.proofs.Gathering.{AllGatherNone, list_bare}
use Rattle.typed_statements.proofs.Looping.{in_head, Turns, loop_typed}
use Rattle.typed_statements.proofs.StatedStatements.{stated_stable, way_both, closes_here}

abbrev repeated : Resolved → Statement → Statement
repeated r x = statement.Loop [] (Some r.expression) [] x

-- where nothing waits before
abbrev Repeats : Setting → Around → Meaning Statement
Repeats k a at to x = at.marks.awaited ≡ None → Stated k a at to x

repeats : (k : Setting) (a : Around) (at mid to : Point) (r : Resolved) (x : Statement) → Way k at mid → Way k mid to → Tested k at mid r → Stated k (types.in_loop a) mid to x
    → Repeats k a at to (repeated r x)
repeats k a at mid to r x p q test body none =
    let known = body.same_known ∙ test.same_known in
    let here = closes_here p test.same_known in
    let none_mid = test.awaited ∙ none in
    let turns : Turns k a at at mid mid to [] (Some r.expression) [] x = record {
      starts = none_typed k (in_head a) at p.begins;
      bare = λ exits st after b e. list_bare k.around [] AllGatherNone.NoMore exits st after b e;
      holds = test.holds;
      longer_tested = longer p.variables;
      known_tested = λ st h. closed_knows k at mid p.begins here.closes st h;
      updates = none_typed k (in_head a) mid p.ends;
      known_ready = λ st h. closed_knows k at mid p.begins here.closes st h;
      runs_body = body.typed;
      none_at = none;
      none_tested = none_mid;
      none_ready = none_mid;
    } in
    record {
      typed = loop_typed k a at at mid mid to [] (Some r.expression) [] x turns to (closes_here (way_both p q) known) body.none_awaited;
      same_known = known;
      none_awaited = body.none_awaited;
    }

pub while_goes : LeavesGo → (k : Setting) → IsSoundSomewhere k → (test : Expr) (a : Around) (body : types.Running) (walking : marking.Running) (reading : Stating)
    → ((w : Walk) (u : MarkingWalk) → Goes k w (body (types.in_loop a) w) u (walking u) reading (Stated k (types.in_loop a)))
    → (w : Walk) (u : MarkingWalk)
    → Goes k w (types.statement_step k.env (s.While test body) a w) u (marking.statement_step k.marks (s.While test walking) u) (while_of k.scope test reading) (Stated k a)
while_goes leaves k sound test a body walking reading goes w u =
    let y = marks.unmerged u in
    let begins = unmerged_merges_none u in
    let v1 = past k.env 2 w in
    let x1 = marks.past k.marks 2 y in
    let v2 = types.condition k.env test v1 in
    let x2 = inside (expr_of k.marks test) x1 in
    let v3 = past k.env 1 v2 in
    let x3 = marks.past k.marks 1 x2 in
    let p = past_unmoved k.marks 2 y in
    let inner = before k (stated_stable k (types.in_loop a)) (past_still k.env 1 v2) (past_unmoved k.marks 1 x2) (goes v3 x3) in
    let both : Goes k v1 (body (types.in_loop a) v3) x1 (walking x3) (while_of k.scope test reading) (Repeats k a) =
    in_turn k repeated (λ at mid to r x ways way test body. repeats k a at mid to r x ways way test body) (leaves.tests k sound test v1 x1) inner in
    let whole : Goes k v1 (body (types.in_loop a) v3) x1 (walking x3) (while_of k.scope test reading) (Stated k a) =
    made_there k v1 (body (types.in_loop a) v3) x1 (walking x3) (while_of k.scope test reading) (λ (z : Statement). z)
    (λ c quiet way h. h (p.awaited (both.back quiet) ∙ begins.none (p.back (both.back quiet)))) both in
    before k (stated_stable k a) (still w) begins.moved (before k (stated_stable k a) (past_still k.env 2 w) p whole)
