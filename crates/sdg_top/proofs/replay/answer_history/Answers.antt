use Rattle.std.proofs.Common.{List, sym, subst, ap, ◌∙◌}
use Rattle.std.specs.Str.Lines.{lines}
use Rattle.run_text.specs.declared.field.Field.{Field}
use Rattle.history_run.specs.Replays.{IsReplayed, IsRefusedLine}
use Rattle.sdg_top.specs.declared.status.Status.TheVariants as status
use Rattle.sdg_top.specs.Commands.{Text}
use Rattle.sdg_top.specs.Replies.{replay_text}
use Rattle.sdg_top.specs.Due.{DueForHistory, RefusesHistory, RunsHistory}
use Rattle.sdg_top.proofs.Replying.{refused, no_memory}
use Rattle.sdg_top.proofs.replay.answer_history.Goals as goal

pub returns-in_ok-print_replay-in-Ok-clause-due : goal.returns-in_ok-print_replay-in-Ok-clause-due
returns-in_ok-print_replay-in-Ok-clause-due c =
    let is : IsReplayed c.args.called.now.program c.args.calls.now c.args.called.now.fields.items (lines c.args.text.now) c.in-Ok.replayed =
    subst (λ (fs : List Field). IsReplayed c.args.called.now.program c.args.calls.now fs (lines c.args.text.now) c.in-Ok.replayed) c.as_slice.ensures.value c.in-Ok.ensures.found in
    let text = c.in_ok-print_replay-in-Ok.ensures ∙ ap (λ rs. replay_text rs c.in-Ok.replayed.steps) c.as_slice-in-Ok.ensures in
    subst (λ (t : Text). DueForHistory c.args.called.now.program c.args.calls.now c.args.called.now.fields.items c.args.text.now status.Done t) (sym text) (RunsHistory c.in-Ok.replayed is)

pub returns-in-Err-Bad-clause-due : goal.returns-in-Err-Bad-clause-due
returns-in-Err-Bad-clause-due c =
    let found = rw c.in-Err-Bad.field-0-is at c.in-Err-Bad.ensures.found in
    let line : IsRefusedLine c.args.called.now.program c.args.calls.now c.args.called.now.fields.items (lines c.args.text.now) c.in-Err-Bad.line c.in-Err-Bad.rule =
    subst (λ (fs : List Field). IsRefusedLine c.args.called.now.program c.args.calls.now fs (lines c.args.text.now) c.in-Err-Bad.line c.in-Err-Bad.rule) c.as_slice.ensures.value found in
    refused (DueForHistory c.args.called.now.program c.args.calls.now c.args.called.now.fields.items c.args.text.now) c.refuse_text.result _ c.refuse_text.ensures.status c.refuse_text.ensures.text
    (RefusesHistory c.in-Err-Bad.line c.in-Err-Bad.rule line)

pub returns-in-Err-Bad-clause-complete : goal.returns-in-Err-Bad-clause-complete
returns-in-Err-Bad-clause-complete c = λ replayed is.
    let same : IsReplayed c.args.called.now.program c.args.calls.now c.as_slice.result.now (lines c.args.text.now) replayed =
    subst (λ (fs : List Field). IsReplayed c.args.called.now.program c.args.calls.now fs (lines c.args.text.now) replayed) (sym c.as_slice.ensures.value) is in
    absurd (no_memory c.in-Err-Bad.field-0 c.in-Err-Bad.line c.in-Err-Bad.rule c.in-Err-Bad.field-0-is (c.in-Err-Bad.ensures.complete replayed same))
