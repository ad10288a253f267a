use Rattle.std.proofs.Common.{sym, ap, ◌∙◌, map, take}
use Rattle.std.proofs.lemmas.List.{take-map}
use Rattle.java_types.proofs.names.Names.truncate.Goals as goal

pub returns : goal.returns
returns g c =
    ap (map (λ e. (e.0.items, e.1))) c.truncate.ensures.entries
    ∙ sym (take-map (λ e. (e.0.items, e.1)) c.args.len c.self.inside.entries.entries)
    ∙ ap (take c.args.len) c.self.view_is
