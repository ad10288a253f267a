use Rattle.std.proofs.Common.{sym, subst}
use Rattle.early_plain.proofs.WholeCalls.{CallsFrom, calls_start, calls_end}
use Rattle.early_plain.proofs.run.plain.Goals as goal

pub loop-call-init : goal.loop-call-init
loop-call-init c =
    subst (CallsFrom c.args.class.now c.args.calls.now 0 c.in_ok-tables.tables) (sym c.new-outcomes.ensures)
    (calls_start c.args.class.now c.args.calls.now c.as_slice.result.now c.in_ok-tables.tables c.as_slice.ensures c.in_ok-tables.ensures)

pub returns-clause-plain : goal.returns-clause-plain
returns-clause-plain c =
    calls_end c.args.class.now c.args.calls.now c.as_slice-call-items.result.now c.loop-call.call-index c.loop-call.tables c.loop-call.outcomes c.loop-call.invariant c.as_slice-call-items.ensures
    c.loop-call-test.false
