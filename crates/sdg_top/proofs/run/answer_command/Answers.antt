use Rattle.std.proofs.Common.{List, Err, map, sym, ap, subst, ◌∙◌}
use Rattle.std.proofs.lemmas.Result.{IfOk-weaker}
use Rattle.sdg_keep.specs.Endings.{file_asked, ending_of, AllRead, CutShort}
use Rattle.sdg_top.specs.Commands.{Text, request_of, texts_of}
use Rattle.sdg_top.specs.Due.{RequestAsks}
use Rattle.sdg_top.specs.Read.{AreTexts}
use Rattle.sdg_top.proofs.Dues.{reads_as, reads_cut, files_whole, due_read, due_unread, told_all, told_unread}
use Rattle.sdg_top.proofs.run.answer_command.Goals as goal

pub returns-in_err-asked-clause-reads : goal.returns-in_err-asked-clause-reads
returns-in_err-asked-clause-reads g c words ask = (_, CutShort, RequestAsks _ ask, reads_cut _ _ _ _)

pub answer_read-requires : goal.answer_read-requires
answer_read-requires g c =
    let files_are = ap (map file_asked) c.deref.ensures.value ∙ c.in_ok-asked.ensures.files in
    subst (λ (w : List Text). AreTexts (request_of c.args.command.now) w) (sym c.as_slice.ensures) (files_whole _ _ c.in-Ok.texts (reads_as _ _ _ _ files_are c.in-Ok.ensures.reads))

pub returns-in-Ok-clause-due : goal.returns-in-Ok-clause-due
returns-in-Ok-clause-due g c words ask =
    let files_are = ap (map file_asked) c.deref.ensures.value ∙ c.in_ok-asked.ensures.files in
    due_read words _ _ c.in-Ok.texts c.answer_read.result ask (reads_as _ _ _ _ files_are c.in-Ok.ensures.reads) (λ of alike e. c.answer_read.ensures.due of alike (c.as_slice.ensures ∙ e))

pub returns-in-Ok-clause-complete : goal.returns-in-Ok-clause-complete
returns-in-Ok-clause-complete g c texts alike all valid no_fault =
    let files_are = ap (map file_asked) c.deref.ensures.value ∙ c.in_ok-asked.ensures.files in
    c.answer_read.ensures.complete texts alike (c.as_slice.ensures ∙ told_all _ _ (texts_of texts) c.in-Ok.texts all (reads_as _ _ _ _ files_are c.in-Ok.ensures.reads)) valid

pub returns-in-Ok-clause-reads : goal.returns-in-Ok-clause-reads
returns-in-Ok-clause-reads g c words ask =
    let files_are = ap (map file_asked) c.deref.ensures.value ∙ c.in_ok-asked.ensures.files in
    (_, AllRead c.in-Ok.texts, RequestAsks _ ask, reads_as _ _ _ _ files_are c.in-Ok.ensures.reads)

pub returns-clause-due : goal.returns-clause-due
returns-clause-due g c words ask =
    let files_are = ap (map file_asked) c.deref.ensures.value ∙ c.in_ok-asked.ensures.files in
    IfOk-weaker c.answer_unread.result _ _ (λ a why. due_unread _ _ _ (ending_of (Err c.in-Err.error)) a (RequestAsks _ ask) (reads_as _ _ _ _ files_are c.in-Err.ensures.reads) why) c.answer_unread.ensures

pub returns-clause-complete : goal.returns-clause-complete
returns-clause-complete g c texts alike all valid no_fault =
    let files_are = ap (map file_asked) c.deref.ensures.value ∙ c.in_ok-asked.ensures.files in
    IfOk-weaker c.answer_unread.result _ _
    (λ a why. absurd (told_unread _ _ (texts_of texts) (ending_of (Err c.in-Err.error)) a all no_fault (reads_as _ _ _ _ files_are c.in-Err.ensures.reads) why))
    c.answer_unread.ensures

pub returns-clause-reads : goal.returns-clause-reads
returns-clause-reads g c words ask =
    let files_are = ap (map file_asked) c.deref.ensures.value ∙ c.in_ok-asked.ensures.files in
    (_, ending_of (Err c.in-Err.error), RequestAsks _ ask, reads_as _ _ _ _ files_are c.in-Err.ensures.reads)
