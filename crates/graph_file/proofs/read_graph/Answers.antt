use Rattle.std.proofs.Common.{ap, sym, ◌∙◌, arith}
use Rattle.serde_json.specs.View.{view}
use Rattle.serde_json.specs.Errors.{IsMemory}
use Rattle.graph_file.specs.Reading.{reading}
use Rattle.graph_file.proofs.Readings.{reading_of_json, reading_of_none, reading-graph_text}
use Rattle.graph_file.proofs.read_graph.Goals as goal

pub returns-in-Err-clause-exact : goal.returns-in-Err-clause-exact
returns-in-Err-clause-exact c other =
    let no_memory : ¬ IsMemory c.in-Err.error = grind arith in
    sym (reading_of_none c.args.bytes.now (c.in-Err.ensures.err no_memory))

pub returns-clause-exact : goal.returns-clause-exact
returns-clause-exact c other =
    let read_as = c.in-Ok.ensures.ok in
    c.graph_in.ensures.exact other ∙ sym (reading_of_json c.args.bytes.now (view c.in-Ok.value) read_as.0 read_as.1)

pub returns-clause-whole : goal.returns-clause-whole
returns-clause-whole c g writable is other = returns-clause-exact c other ∙ ap reading is ∙ reading-graph_text g writable

pub returns-in-Err-clause-whole : goal.returns-in-Err-clause-whole
returns-in-Err-clause-whole c g writable is other = returns-in-Err-clause-exact c other ∙ ap reading is ∙ reading-graph_text g writable
