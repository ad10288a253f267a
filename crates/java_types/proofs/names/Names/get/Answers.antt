use Rattle.std.proofs.Common.{ap, ◌∙◌}
use Rattle.java_types.specs.Names.{entry_of}
use Rattle.java_types.proofs.Lookups.{entry_of-viewed}
use Rattle.java_types.proofs.names.Names.get.Goals as goal

pub returns : goal.returns
returns g c =
    c.get.ensures.value ∙ entry_of-viewed (λ k. k.items) c.args.name.now c.self.inside.entries.entries
    ∙ ap (entry_of c.args.name.now) c.self.view_is
