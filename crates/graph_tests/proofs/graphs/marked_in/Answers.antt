use Rattle.graph_tests.proofs.Accepting.{accepted}
use Rattle.graph_tests.proofs.graphs.marked_in.Goals as goal

pub returns : goal.returns
returns c =
    accepted _ c.in_ok-tokens.tokens.list c.in_ok-tokens.tokens.end c.in_ok-tree.tree c.in_ok-typed.typed c.in_ok-annotated.annotated c.in_ok-marked.marked
    (record {
      spelled = c.in_ok-tokens.ensures.found;
      are_tokens = c.in_ok-tree.ensures.found.0;
      placed = c.in_ok-tree.ensures.found.1;
      same_tree = c.in_ok-typed.ensures.found.0;
      are_types = c.in_ok-typed.ensures.found.1;
      no_types = c.in_ok-typed.ensures.found.2;
      no_flow = c.in_ok-flow.ensures;
      same_typed = c.in_ok-annotated.ensures.same;
      kinds = c.in_ok-annotated.ensures.kinds;
      sites = c.in_ok-annotated.ensures.sites;
      partial = c.in_ok-annotated.ensures.partial;
      no_annotations = c.in_ok-annotated.ensures.sound;
      same_annotated = c.in_ok-marked.ensures.same;
      program = c.in_ok-marked.ensures.program;
    })
