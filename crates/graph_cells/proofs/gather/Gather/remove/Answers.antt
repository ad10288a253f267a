use Rattle.std.proofs.Common.{None, ap, ◌∙◌}
use Rattle.graph_cells.specs.Gathered.{Waiting, parts_of}
use Rattle.graph_cells.proofs.Calls.{written_parts, other_parts}
use Rattle.graph_cells.proofs.gather.Gather.remove.Goals as goal

pub returns-clause-none : goal.returns-clause-none
returns-clause-none c = written_parts c.args.call c.self.inside.calls c.remove.new.self None c.remove.ensures.updates

pub returns-clause-others : goal.returns-clause-others
returns-clause-others c other differs =
    other_parts c.args.call c.self.inside.calls c.remove.new.self None c.remove.ensures.updates other differs
    ∙ ap (λ (w : Waiting). parts_of w other) c.self.view_is
