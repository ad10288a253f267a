use Rattle.std.proofs.Common.{subst}
use Rattle.std.proofs.lemmas.Result.{IfOk-weaker}
use Rattle.std.specs.Str.Lines.{lines}
use Rattle.java_tree.specs.declared.tree.Class.{Class}
use Rattle.history_run.specs.Replays.{IsReplayed}
use Rattle.run_text.specs.Calls.{AreCalls}
use Rattle.sdg_top.specs.Accepted.{program_of}
use Rattle.sdg_top.specs.Due.{RunsAlong}
use Rattle.sdg_top.specs.Entrances.{entrances_of, fields_of}
use Rattle.sdg_top.proofs.answer.answer_for_replay.Goals as goal

pub returns-clause-due : goal.returns-clause-due
returns-clause-due c = λ text class accepts is.
    IfOk-weaker c.answer_replay.result _ _ (λ a d. RunsAlong _ _ _ class a.status a.text accepts d) (c.answer_replay.ensures.due class (c.in_ok-called.ensures.called class is))

pub returns-clause-complete : goal.returns-clause-complete
returns-clause-complete c = λ text class accepts is valid.
    let same = accepts.only valid.class valid.is_class in
    c.answer_replay.ensures.complete class valid.calls valid.replayed (c.in_ok-called.ensures.called class is)
    (subst (λ (k : Class). AreCalls (entrances_of k) (lines c.args.calls_text.now) valid.calls) same valid.are_calls)
    (subst (λ (k : Class). IsReplayed (program_of k) valid.calls (fields_of k) (lines c.args.history_text.now) valid.replayed) same valid.is_replayed)
