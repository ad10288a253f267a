use Rattle.graph_tests.proofs.Accepting.{graph_verified}
use Rattle.graph_tests.proofs.graphs.graph_of_accepted.Goals as goal

pub returns : goal.returns
returns c =
    graph_verified c.args.marked c.graph_of-graph.result c.requires c.accepted_classes_are_typed.ensures.typed c.accepted_classes_are_typed.ensures.placed c.graph_of-graph.ensures.implements
