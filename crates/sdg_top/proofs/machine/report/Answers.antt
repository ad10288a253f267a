use Rattle.std.proofs.Common.{[], map, ap, ◌∙◌}
use Rattle.std.proofs.lemmas.Result.{IfOk-weaker}
use Rattle.std.specs.List.{filter_map}
use Rattle.cluster.specs.History.{steps_of}
use Rattle.cluster.specs.World.{results_of}
use Rattle.sdg_top.specs.Report.{report_text}
use Rattle.sdg_top.proofs.Runs.{printed_history}
use Rattle.sdg_top.proofs.machine.report.Goals as goal

pub returns : goal.returns
returns c s w holds =
    let names = c.args.class.now.fields in
    let words = c.args.words.now in
    let results = c.deref.ensures.value ∙ c.in_ok-results.ensures ∙ ap (map (λ q. (q.shown.call, q.shown.outcome))) c.as_slice.ensures ∙ holds.stands.results in
    let history = c.deref-2.ensures.value ∙ c.in_ok-history.ensures ∙ ap (filter_map (λ q. q.shown)) (c.as_slice-2.ensures ∙ holds.stands.history) ∙ printed_history w.hist in
    IfOk-weaker c.print_report.result _ _ (λ text is.
    is
    ∙ ap (λ h. report_text h c.as_slice-3.result.now words [] c.deref.result.now c.deref-2.result.now [] c.kept.result) holds.stands.header
    ∙ ap (λ f. report_text s.header f words [] c.deref.result.now c.deref-2.result.now [] c.kept.result) c.as_slice-3.ensures
    ∙ ap (λ r. report_text s.header names words [] r c.deref-2.result.now [] c.kept.result) results
    ∙ ap (λ h. report_text s.header names words [] (results_of s w) h [] c.kept.result) history
    ∙ ap (λ k. report_text s.header names words [] (results_of s w) (steps_of w.hist) [] k) (c.kept.ensures s w holds)) c.print_report.ensures
