use Rattle.std.proofs.Common.{Err, ap, sym, ◌∙◌}
use Rattle.serde_json.specs.View.{view}
use Rattle.graph_file.specs.Forms.{graph_form}
use Rattle.graph_file.specs.Reading.{of_form}
use Rattle.graph_file.proofs.Readings.{refusal_of_misfit}
use Rattle.graph_file.proofs.graph_in.Goals as goal

pub returns-in-Ok-clause-exact : goal.returns-in-Ok-clause-exact
returns-in-Ok-clause-exact c other = c.spelled.ensures.exact other ∙ sym (ap (of_form c.args.bytes.now) c.in-Ok.ensures.told)

pub returns-in-Err-clause-exact : goal.returns-in-Err-clause-exact
returns-in-Err-clause-exact c =
    refusal_of_misfit c.args.bytes.now (graph_form (view c.args.value.now)) c.in-Err.fault (Err c.refusal.result) c.in-Err.ensures.told (ap Err c.refusal.ensures)
