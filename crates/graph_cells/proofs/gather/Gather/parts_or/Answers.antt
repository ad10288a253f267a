use Rattle.std.proofs.Common.{◌≡◌, Some, None, sym, ap, ◌∙◌}
use Rattle.std.specs.Option.{option_copied}
use Rattle.graph_cells.specs.Gathered.{parts_of, if_any}
use Rattle.graph_cells.proofs.Calls.{some_are, none_are}
use Rattle.graph_cells.proofs.gather.Gather.parts_or.Goals as goal

pub returns-in-Some : goal.returns-in-Some
returns-in-Some c =
    let there : if_any (parts_of c.args.self.now c.args.call) ≡ Some c.in-Some.parts.now = sym c.parts.ensures ∙ ap option_copied c.in-Some.is in
    sym (some_are (parts_of c.args.self.now c.args.call) c.in-Some.parts.now there)

pub returns-in-None : goal.returns-in-None
returns-in-None c =
    let nowhere : if_any (parts_of c.args.self.now c.args.call) ≡ None = sym c.parts.ensures ∙ ap option_copied c.in-None.is in
    c.requires ∙ sym (none_are (parts_of c.args.self.now c.args.call) nowhere)
