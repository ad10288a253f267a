use Rattle.std.proofs.Common.{length, arith, ap}
use Rattle.sdg_base.specs.declared.call.Step.TheVariants.{Begin}
use Rattle.history_run.proofs.Stepped.{begun, one_more, stopped, read_at}
use Rattle.history_run.proofs.steps.stepped.Goals as goal

pub loop-place-init : goal.loop-place-init
loop-place-init c =
    rw c.new-results.ensures (begun c.args.program.now c.args.calls.now c.args.history.now c.in_ok-source.source c.in_ok-source.ensures.source c.in_ok-source.ensures.program c.in_ok-source.ensures.given)

pub loop-place-preserved : goal.loop-place-preserved
loop-place-preserved c =
    let h = c.loop-place.invariant in
    let here = read_at c.as_slice-steps.result.now c.args.history.now.steps c.loop-place.place (Begin 0) c.as_slice-steps.ensures (omega arith) in
    one_more c.args.program.now c.args.calls.now c.args.history.now c.loop-place.place c.loop-place.results c.make.new.results c.loop-place.source c.make.new.source _ h here
    (c.in-Ok.ensures.made h.now h.is) c.in-Ok.ensures.program c.in-Ok.ensures.given

pub returns-in-Err-clause-illegal : goal.returns-in-Err-clause-illegal
returns-in-Err-clause-illegal c =
    let h = c.loop-place.invariant in
    let here = read_at c.as_slice-steps.result.now c.args.history.now.steps c.loop-place.place (Begin 0) c.as_slice-steps.ensures (omega arith) in
    let number = read_at c.as_slice-lines.result.now c.args.history.now.lines c.loop-place.place 0 c.as_slice-lines.ensures (omega (arith, ap length c.as_slice-lines.ensures, ap length c.as_slice-steps.ensures)) in
    rw c.error_at.ensures (stopped c.args.program.now c.args.calls.now c.args.history.now c.loop-place.place c.loop-place.results c.loop-place.source _ _ c.in-Err.error h here number (c.in-Err.ensures.refused h.now h.is))
