use Rattle.std.proofs.Common.{sym, subst}
use Rattle.std.specs.Prelude.{IfOk}
use Rattle.sdg_top.specs.declared.command.Command.{Command}
use Rattle.sdg_top.specs.Commands.{Request, AreAlike, request_of}
use Rattle.sdg_top.specs.Due.{DueForTexts, AreValid}
use Rattle.sdg_top.proofs.Alike.{two_of_run, two_of_plain}
use Rattle.sdg_top.proofs.run.answer_two.Goals as goal

pub returns-in-Run-clause-due : goal.returns-in-Run-clause-due
returns-in-Run-clause-due c texts alike are =
    let same = two_of_run _ _ _ texts _ _ (subst (λ (k : Command). AreAlike (request_of k) texts) c.in-Run.is alike) are in
    subst (λ (t : Request). IfOk c.run_texts.result (λ a. DueForTexts t a.status a.text)) same c.run_texts.ensures.due

pub returns-in-Run-clause-complete : goal.returns-in-Run-clause-complete
returns-in-Run-clause-complete c texts alike are valid =
    let same = two_of_run _ _ _ texts _ _ (subst (λ (k : Command). AreAlike (request_of k) texts) c.in-Run.is alike) are in
    c.run_texts.ensures.complete (subst (λ (t : Request). AreValid t) (sym same) valid)

pub returns-in-Plain-clause-due : goal.returns-in-Plain-clause-due
returns-in-Plain-clause-due c texts alike are =
    let same = two_of_plain _ _ texts _ _ (subst (λ (k : Command). AreAlike (request_of k) texts) c.in-Plain.is alike) are in
    subst (λ (t : Request). IfOk c.plain_texts.result (λ a. DueForTexts t a.status a.text)) same c.plain_texts.ensures.due

pub returns-in-Plain-clause-complete : goal.returns-in-Plain-clause-complete
returns-in-Plain-clause-complete c texts alike are valid =
    let same = two_of_plain _ _ texts _ _ (subst (λ (k : Command). AreAlike (request_of k) texts) c.in-Plain.is alike) are in
    c.plain_texts.ensures.complete (subst (λ (t : Request). AreValid t) (sym same) valid)
