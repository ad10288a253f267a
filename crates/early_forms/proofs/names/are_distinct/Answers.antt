use Rattle.early_forms.proofs.Lists.{not_true, not_false}
use Rattle.early_forms.proofs.Distinct.{more_seen, seen_again}
use Rattle.early_forms.proofs.names.are_distinct.Goals as goal

pub returns-then-not-branch : goal.returns-then-not-branch
returns-then-not-branch c =
    let held = not_true _ _ c.if-not-branch.true c.in_ok-insert.ensures.added in (
      λ yes. absurd (cc),
      λ distinct. absurd (seen_again c.args.names.now c.loop-name.name-index _ c.loop-name.seen.keys c.loop-name-test.true c.loop-name.invariant held distinct),
    )

pub loop-name-preserved : goal.loop-name-preserved
loop-name-preserved c =
    more_seen c.args.names.now c.loop-name.name-index _ c.loop-name.seen.keys c.insert.new.self.keys c.loop-name-test.true c.loop-name.invariant
    (not_false _ _ c.if-not-branch.false c.in_ok-insert.ensures.added)
    (λ q. c.in_ok-insert.ensures.updates.0 (record { ref_ptr = c.args.names.ref_ptr; now = q }))
