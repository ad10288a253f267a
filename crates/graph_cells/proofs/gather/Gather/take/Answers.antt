use Rattle.std.proofs.Common.{None, ap, ◌∙◌}
use Rattle.graph_cells.specs.Gathered.{Waiting, parts_of}
use Rattle.graph_cells.proofs.Calls.{found_parts, no_parts, written_parts, other_parts}
use Rattle.graph_cells.proofs.gather.Gather.take.Goals as goal
use Rattle.graph_cells.proofs.gather.Gather.take.Goals.{in-Some, in-None}

pub returns-clause-parts : goal.returns-clause-parts
returns-clause-parts c =
    elim c.match-remove.branch [
      | in-Some w ↦ let found = found_parts c.args.self.now c.args.call w.in-Some.parts cc in cc
      | in-None w ↦ let none = no_parts c.args.self.now c.args.call cc in cc
    ]

pub returns-clause-none : goal.returns-clause-none
returns-clause-none c = written_parts c.args.call c.self.inside.calls c.remove.new.self None c.remove.ensures.updates

pub returns-clause-others : goal.returns-clause-others
returns-clause-others c other differs =
    other_parts c.args.call c.self.inside.calls c.remove.new.self None c.remove.ensures.updates other differs
    ∙ ap (λ (w : Waiting). parts_of w other) c.self.view_is
