-- What stands in braces goes: its statements are typed, and what they declare is out of scope behind.
use Rattle.std.proofs.Common.{◌≡◌, List, [], length, None, ap, ◌∙◌}
use Rattle.java_types.specs.declared.statements.Around.{Around}
use Rattle.java_types.specs.declared.walk.Walk.{Walk}
use Rattle.java_types.specs.Walks.{past, left}
use Rattle.annotations.specs.declared.walk.Walk.{Walk as MarkingWalk}
use Rattle.annotations.specs.Walks as marking
use Rattle.access_blocks.specs.declared.body.Statement.{Statement}
use Rattle.access_blocks.specs.declared.body.Statement.TheVariants as statement
use Rattle.access_blocks.specs.Cursors.{Cursor, Read, read}
use Rattle.typed_statements.specs.Points.{Setting}
use Rattle.marked_bodies.specs.Unmarked.{unmarked_list}
use Rattle.typed_statements.specs.Checks.{AllTyped, all_assigned}
use Rattle.typed_statements.specs.Goes.{Goes}
use Rattle.typed_statements.specs.Leaves.{Stated}
use Rattle.typed_statements.proofs.Going.{still}
use Rattle.typed_statements.proofs.InTurn.{Stable, before, behind}
use Rattle.typed_statements.proofs.Standings.{checks_stable}
use Rattle.typed_statements.proofs.Steps.{past_still, past_unmoved, unmerged_merges_none}
use Rattle.typed_statements.proofs.Blocks.{outer, closing}
use Rattle.typed_statements.proofs.Braces.{block_typed}
use Rattle.typed_statements.proofs.StatedStatements.{stated_stable}

-- where the walk before merged nothing, and nothing waits behind the last statement
pub braces_go : (k : Setting) (a : Around) (w v : Walk) (u x : MarkingWalk) (reading : Cursor → Read (List Statement)) → (x.findings ≡ [] → u.awaited ≡ None) → (x.findings ≡ [] → x.awaited ≡ None)
    → Goes k w v u x reading (AllTyped k a) → Goes k w (outer w v) u x (λ c. read (statement.Block (reading c).it) (reading c).cursor) (Stated k a)
braces_go k a w v u x reading none none_behind g =
    closing k w v u x reading (AllTyped k a) (Stated k a) (λ ss. statement.Block ss)
    (λ at inside behind ss quiet is_at is_behind c h.
    let ends = ap (λ (m : MarkingWalk). m.awaited) is_behind ∙ none_behind quiet in
    record { typed = block_typed k a at inside behind ss (ap (λ (m : MarkingWalk). m.awaited) is_at ∙ none quiet) ends c h; same_known = c.closes.known; none_awaited = ends }) g

-- a block, from its opening brace to its closing one
pub block_goes : (k : Setting) (a : Around) (w v : Walk) (u y : MarkingWalk) (reading : Cursor → Read (List Statement))
    → Goes k (past k.env 1 w) v (marking.past k.marks 1 (marking.unmerged u)) y reading (AllTyped k a)
    → Goes k w (left (length w.variables) (past k.env 1 v)) u (marking.past k.marks 1 (marking.unmerged y)) (λ c. read (statement.Block (reading c).it) (reading c).cursor) (Stated k a)
block_goes k a w v u y reading g =
    let lists : Stable k (AllTyped k a) = checks_stable k a (unmarked_list k.around) all_assigned in
    let ones = stated_stable k a in
    let p = past_unmoved k.marks 1 (marking.unmerged y) in
    let ends = unmerged_merges_none y in
    let begins = unmerged_merges_none u in
    let inner = behind k lists (behind k lists (before k lists (past_still k.env 1 w) (past_unmoved k.marks 1 (marking.unmerged u)) g) (still v) ends.moved) (past_still k.env 1 v) p in
    before k ones (still w) begins.moved
    (braces_go k a w (past k.env 1 v) (marking.unmerged u) (marking.past k.marks 1 (marking.unmerged y)) reading (λ q. begins.none (inner.back q)) (λ q. p.awaited q ∙ ends.none (p.back q)) inner)
