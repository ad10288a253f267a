use Rattle.std.proofs.Common.{ap, ◌∙◌}
use Rattle.graph_cells.specs.Gathered.{Waiting, parts_of, if_any}
use Rattle.graph_cells.proofs.Calls.{parts_found}
use Rattle.graph_cells.proofs.gather.Gather.parts.Goals as goal

pub returns : goal.returns
returns c =
    c.get.ensures.value ∙ parts_found c.self.inside.calls.entries c.args.call c.self.invariant
    ∙ ap (λ (w : Waiting). if_any (parts_of w c.args.call)) c.self.view_is
