use Rattle.class_graph.proofs.Implementing.{implement}
use Rattle.class_graph.proofs.graph.graph_of.Goals as goal

pub returns-clause-implements : goal.returns-clause-implements
returns-clause-implements c =
    implement c.args.marked.now c.cut_of.result
    (record {
      verified = c.typed_classes_are_verified.ensures;
      starts = c.flat_code_means_its_source.ensures.starts;
      rests = c.calls_stand_at_their_code.ensures.rests;
      blocks = c.calls_stand_at_their_code.ensures.blocks;
      visits = c.calls_stand_at_their_code.ensures.visits;
      joins = c.calls_stand_at_their_code.ensures.joins;
    }) c.cut_of.ensures
