use Rattle.std.proofs.Common.{sym}
use Rattle.std.proofs.lemmas.Result.{IfOk-weaker}
use Rattle.sdg_top.proofs.Judgements.{AreOnlyTokens, tokens_judged, tokens_taken, error_judged, no_refusal}
use Rattle.sdg_top.proofs.accept.judge.Goals as goal

pub returns-in-Ok : goal.returns-in-Ok
returns-in-Ok c =
    let only : AreOnlyTokens c.args.text.now c.in-Ok.tokens.list = λ others end spelled. sym (c.in-Ok.ensures.only others end spelled).0 in
    record {
      judges = IfOk-weaker c.judge_tokens.result _ _ (λ j h. tokens_judged c.args.text.now c.in-Ok.tokens.list c.in-Ok.tokens.end j c.in-Ok.ensures.found only h) c.judge_tokens.ensures;
      takes = λ class is accepted. IfOk-weaker c.judge_tokens.result _ _ (λ j h. tokens_taken c.args.text.now c.in-Ok.tokens.list class j only is accepted h) c.judge_tokens.ensures;
    }

pub returns-in-Err : goal.returns-in-Err
returns-in-Err c = record {
  judges = IfOk-weaker c.refusal.result _ _ (λ j h. error_judged c.args.text.now c.in-Err.error j c.in-Err.ensures.refused h) c.refusal.ensures;
  takes = λ class is accepted. IfOk-weaker c.refusal.result _ _ (λ j h. absurd (no_refusal c.in-Err.error j (c.in-Err.ensures.only is.tokens is.end is.spelled) h)) c.refusal.ensures;
}
