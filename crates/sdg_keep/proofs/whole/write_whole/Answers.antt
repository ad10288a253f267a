use Rattle.std.proofs.Common.{rules, arith}
use Rattle.std.proofs.lemmas.Result.{err_from_is_err_and}
use Rattle.sdg_keep.proofs.Written.{Appends-more, AppendsPrefix-fault}
use Rattle.sdg_keep.proofs.whole.write_whole.Goals as goal

pub returns-in_err-done-clause-written : goal.returns-in_err-done-clause-written
returns-in_err-done-clause-written g c =
    let p = err_from_is_err_and c.from_residual.result c.from_residual.ensures.1 in
    rw p.1 (AppendsPrefix-fault _ (g.S.Sink.written c.loop-done.out) _ _ _ _ c.in_err-done.field-0.0 c.split_at.ensures.back c.loop-done.invariant.within c.loop-done.invariant.written c.in_err-done.ensures.failed)

pub loop-done-preserved : goal.loop-done-preserved
loop-done-preserved g c = record {
  within = omega (arith, c.in_ok-done.ensures.count, c.split_at.ensures.back_len);
  written = Appends-more _ (g.S.Sink.written c.loop-done.out) _ _ _ _ c.loop-done.invariant.written (rw c.split_at.ensures.back at c.in_ok-done.ensures.took);
  faults = search rules;
}
