use Rattle.std.proofs.Common.{◌≡◌, length, drop}
use Rattle.std.specs.Prelude.{All}
use Rattle.serde_json.specs.View.{items_view}
use Rattle.graph_file.specs.Found.{◌>>=◌}
use Rattle.graph_file.specs.Forms.{items_form}
use Rattle.graph_file.proofs.Lists.{joined}
use Rattle.graph_file.proofs.form.items.Given as goal

abbrev pub invariant-loop-value : goal.invariant-loop-value
invariant-loop-value g l = record {
  as_many : length l.things ≡ l.value-index;
  whole : items_form g.T.Form.form 0 (items_view l.values) ≡ (items_form g.T.Form.form l.value-index (items_view (drop l.value-index l.values)) >>= joined l.things);
  made : All g.T.Form.is_writable l.things;
}
