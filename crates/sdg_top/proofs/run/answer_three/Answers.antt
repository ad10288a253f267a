use Rattle.std.proofs.Common.{sym, subst}
use Rattle.std.specs.Prelude.{IfOk}
use Rattle.sdg_top.specs.declared.command.Command.{Command}
use Rattle.sdg_top.specs.Commands.{Request, AreAlike, request_of}
use Rattle.sdg_top.specs.Due.{DueForTexts, AreValid}
use Rattle.sdg_top.proofs.Alike.{three_of_run, three_of_replay}
use Rattle.sdg_top.proofs.run.answer_three.Goals as goal

pub returns-in-Run-clause-due : goal.returns-in-Run-clause-due
returns-in-Run-clause-due c texts alike are =
    let same = three_of_run _ _ _ texts _ _ _ (subst (λ (k : Command). AreAlike (request_of k) texts) c.in-Run.is alike) are in
    subst (λ (t : Request). IfOk c.run_texts.result (λ a. DueForTexts t a.status a.text)) same c.run_texts.ensures.due

pub returns-in-Run-clause-complete : goal.returns-in-Run-clause-complete
returns-in-Run-clause-complete c texts alike are valid =
    let same = three_of_run _ _ _ texts _ _ _ (subst (λ (k : Command). AreAlike (request_of k) texts) c.in-Run.is alike) are in
    c.run_texts.ensures.complete (subst (λ (t : Request). AreValid t) (sym same) valid)

pub returns-in-Replay-clause-due : goal.returns-in-Replay-clause-due
returns-in-Replay-clause-due c texts alike are =
    let same = three_of_replay _ _ _ texts _ _ _ (subst (λ (k : Command). AreAlike (request_of k) texts) c.in-Replay.is alike) are in
    subst (λ (t : Request). IfOk c.replay_texts.result (λ a. DueForTexts t a.status a.text)) same c.replay_texts.ensures.due

pub returns-in-Replay-clause-complete : goal.returns-in-Replay-clause-complete
returns-in-Replay-clause-complete c texts alike are valid =
    let same = three_of_replay _ _ _ texts _ _ _ (subst (λ (k : Command). AreAlike (request_of k) texts) c.in-Replay.is alike) are in
    c.replay_texts.ensures.complete (subst (λ (t : Request). AreValid t) (sym same) valid)
