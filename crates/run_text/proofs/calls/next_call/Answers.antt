use Rattle.std.proofs.lemmas.Result.{err_from_is_err_and}
use Rattle.run_text.proofs.Rules.{least_limit}
use Rattle.run_text.proofs.calls.next_call.Goals as goal

pub returns-in_err-call-clause-bad : goal.returns-in_err-call-clause-bad
returns-in_err-call-clause-bad c =
    let p = err_from_is_err_and c.from_residual.result c.from_residual.ensures.1 in
    rw (p.1, p.2) (c.in_err-call.ensures.bad c.args.before)

pub returns-then-before-ge-MOST_CALLS-clause-bad : goal.returns-then-before-ge-MOST_CALLS-clause-bad
returns-then-before-ge-MOST_CALLS-clause-bad c =
    least_limit c.args.entrances.now c.args.before c.args.line.now c.in_ok-call.call c.in_ok-call.ensures.found c.if-before-ge-MOST_CALLS.true
