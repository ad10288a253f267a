use Rattle.std.proofs.Common.{Some, ap, ◌∙◌}
use Rattle.graph_cells.specs.Gathered.{Waiting, parts_of}
use Rattle.graph_cells.proofs.Calls.{written_parts, other_parts}
use Rattle.graph_cells.proofs.gather.Gather.put.Goals as goal

pub returns-clause-parts : goal.returns-clause-parts
returns-clause-parts c = written_parts c.args.call c.self.inside.calls c.insert.new.self (Some c.args.parts) c.in_ok-insert.ensures.updates

pub returns-clause-others : goal.returns-clause-others
returns-clause-others c other differs =
    other_parts c.args.call c.self.inside.calls c.insert.new.self (Some c.args.parts) c.in_ok-insert.ensures.updates other differs
    ∙ ap (λ (w : Waiting). parts_of w other) c.self.view_is
