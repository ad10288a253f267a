use Rattle.std.proofs.Common.{◌≡◌, false, ap, ◌∙◌, subst, sym}
use Rattle.serde_json.specs.Written.{has_float, compact_text}
use Rattle.graph_file.specs.Reading.{reading}
use Rattle.graph_file.specs.Written.{graph_text}
use Rattle.graph_file.proofs.Whole.{whole_graph}
use Rattle.graph_file.proofs.Readings.{reading-graph_text}
use Rattle.graph_file.proofs.write_graph.Goals as goal

pub returns-clause-text : goal.returns-clause-text
unfolding graph_text
returns-clause-text c =
    let shown = c.in_ok-value.ensures in
    let whole = subst (λ d. has_float d ≡ false) (sym shown) (whole_graph c.args.graph.now) in
    c.from_vec.ensures ∙ c.in_ok-text.ensures.text whole ∙ ap compact_text shown

pub returns-clause-back : goal.returns-clause-back
returns-clause-back c writable = ap reading (returns-clause-text c) ∙ reading-graph_text c.args.graph.now writable
