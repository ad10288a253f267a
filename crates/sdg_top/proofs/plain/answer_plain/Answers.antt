use Rattle.std.proofs.Common.{List, subst, ◌∙◌}
use Rattle.std.specs.Str.Lines.{lines}
use Rattle.access_blocks.specs.declared.body.Program.{Program}
use Rattle.plain_java.specs.Plain.{plain}
use Rattle.run_text.specs.declared.entrance.Entrance.{Entrance}
use Rattle.run_text.specs.Calls.{AreCalls, IsFirstBreak}
use Rattle.sdg_top.specs.declared.status.Status.TheVariants as status
use Rattle.sdg_top.specs.Accepted.{program_of}
use Rattle.sdg_top.specs.Due.{DueForPlain, RefusesPlainCalls, RunsPlain}
use Rattle.sdg_top.specs.Entrances.{entrances_of}
use Rattle.sdg_top.specs.Replies.{plain_text}
use Rattle.sdg_top.proofs.Replying.{replied, refused, retold}
use Rattle.sdg_top.proofs.plain.answer_plain.Goals as goal

pub returns-in-Ok-clause-due : goal.returns-in-Ok-clause-due
returns-in-Ok-clause-due c class is =
    let e = c.as_slice.ensures.value ∙ is.entrances in
    let are = subst (λ (es : List Entrance). AreCalls es (lines c.args.text.now) c.in-Ok.calls) e c.in-Ok.ensures.found in
    let text = retold c.reply.result (λ (p : Program). plain_text (plain p c.in-Ok.calls)) c.args.called.now.program (program_of class) is.program c.reply.ensures.text in
    replied (DueForPlain class c.args.text.now) c.reply.result status.Done _ c.reply.ensures.status text (RunsPlain c.in-Ok.calls are)

pub returns-in-Err-Bad-clause-due : goal.returns-in-Err-Bad-clause-due
returns-in-Err-Bad-clause-due c class is =
    let e = c.as_slice.ensures.value ∙ is.entrances in
    let broken : IsFirstBreak (entrances_of class) (lines c.args.text.now) c.in-Err-Bad.line c.in-Err-Bad.rule =
    subst (λ (es : List Entrance). IsFirstBreak es (lines c.args.text.now) c.in-Err-Bad.line c.in-Err-Bad.rule) e (rw c.in-Err-Bad.field-0-is at c.in-Err-Bad.ensures.bad) in
    refused (DueForPlain class c.args.text.now) c.refuse_text.result _ c.refuse_text.ensures.status c.refuse_text.ensures.text
    (RefusesPlainCalls c.in-Err-Bad.line c.in-Err-Bad.rule broken)
