-- What reads nothing goes: the empty statement, `break` and `continue`.
use Rattle.std.proofs.Common.{◌≡◌, Bool, true, false, not, [], None, refl}
use Rattle.java_types.specs.declared.statements.Around.{Around}
use Rattle.java_types.specs.declared.walk.Walk.{Walk}
use Rattle.java_types.specs.Walks.{past, noted}
use Rattle.java_types.specs.Statements.{jump_walk}
use Rattle.annotations.specs.declared.walk.Walk.{Walk as MarkingWalk}
use Rattle.annotations.specs.Walks as marking
use Rattle.access_blocks.specs.declared.body.Statement.{Statement}
use Rattle.access_blocks.specs.declared.body.Statement.TheVariants as statement
use Rattle.access_blocks.specs.Cursors.{read}
use Rattle.access_blocks.specs.ResolvingStatements.{nothing}
use Rattle.typed_statements.specs.Points.{Setting, Point, point, IsPoint}
use Rattle.typed_statements.specs.Checks.{Typed}
use Rattle.typed_statements.specs.Goes.{Goes}
use Rattle.typed_statements.specs.Leaves.{Stated}
use Rattle.typed_statements.proofs.Going.{still}
use Rattle.typed_statements.proofs.InTurn.{before, behind, unread_there, stays}
use Rattle.typed_statements.proofs.Lists.{none_typed}
use Rattle.typed_statements.proofs.Steps.{past_still, past_unmoved, noted_still, not_noted, unmerged_merges_none}
use Rattle.typed_statements.proofs.Braces.{block_typed}
use Rattle.typed_statements.proofs.Jumped.{break_typed, continue_typed}
use Rattle.typed_statements.proofs.StatedStatements.{stated_stable, closes_here}

nothing_stated : (k : Setting) (a : Around) (at : Point) → IsPoint k at → at.marks.awaited ≡ None → Stated k a at at nothing
nothing_stated k a at is none = record {
  typed = block_typed k a at at at [] none none (closes_here (stays k at is) refl) (none_typed k a at is);
  same_known = refl;
  none_awaited = none;
}

pub empty_goes : (k : Setting) (a : Around) (w : Walk) (u : MarkingWalk)
    → Goes k w (past k.env 1 w) u (marking.past k.marks 1 (marking.unmerged u)) (λ c. read nothing c) (Stated k a)
empty_goes k a w u =
    let y = marking.unmerged u in
    let begins = unmerged_merges_none u in
    let here : Goes k w w y y (λ c. read nothing c) (Stated k a) =
    unread_there k w y nothing (λ c quiet found is. nothing_stated k a (point w y c) is (begins.none found)) in
    before k (stated_stable k a) (still w) begins.moved (behind k (stated_stable k a) here (past_still k.env 1 w) (past_unmoved k.marks 1 y))

-- ---- jumps

in_loop_where : (b : Bool) → not b ≡ false → b ≡ true
in_loop_where true e = refl
in_loop_where false e = absurd (cc)

jump_goes : (k : Setting) (a : Around) (s : Statement) → ((at : Point) → a.in_loop ≡ true → at.marks.awaited ≡ None → Typed k a at at s) → (w : Walk) (u : MarkingWalk)
    → Goes k w (jump_walk k.env a w) u (marking.past k.marks 2 (marking.unmerged u)) (λ c. read s c) (Stated k a)
jump_goes k a s typed w u =
    let y = marking.unmerged u in
    let begins = unmerged_merges_none u in
    let v = noted (not a.in_loop) w.at 11 w in
    let here : Goes k v v y y (λ c. read s c) (Stated k a) =
    unread_there k v y s (λ c quiet found is. record {
      typed = typed (point v y c) (in_loop_where a.in_loop (not_noted (not a.in_loop) w.at 11 w quiet)) (begins.none found);
      same_known = refl;
      none_awaited = begins.none found;
    }) in
    before k (stated_stable k a) (noted_still (not a.in_loop) w.at 11 w) begins.moved (behind k (stated_stable k a) here (past_still k.env 2 v) (past_unmoved k.marks 2 y))

pub break_goes : (k : Setting) (a : Around) (w : Walk) (u : MarkingWalk)
    → Goes k w (jump_walk k.env a w) u (marking.past k.marks 2 (marking.unmerged u)) (λ c. read statement.Break c) (Stated k a)
break_goes k a = jump_goes k a statement.Break (break_typed k a)

pub continue_goes : (k : Setting) (a : Around) (w : Walk) (u : MarkingWalk)
    → Goes k w (jump_walk k.env a w) u (marking.past k.marks 2 (marking.unmerged u)) (λ c. read statement.Continue c) (Stated k a)
continue_goes k a = jump_goes k a statement.Continue (continue_typed k a)
