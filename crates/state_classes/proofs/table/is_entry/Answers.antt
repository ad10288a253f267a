use Rattle.std.proofs.Common.{is_some, ap, ◌∙◌, w64}
use Rattle.std.specs.Ordering.{int_cmp}
use Rattle.std.proofs.lemmas.Int.{to_z-of_z}
use Rattle.state_classes.specs.Entries.{has_entry}
use Rattle.state_classes.proofs.table.is_entry.Goals as goal

pub returns : goal.returns
unfolding has_entry
returns g c =
    c.is_some.ensures ∙ ap is_some c.read.ensures
    ∙ ap (λ key. has_entry int_cmp key (g.H.Held.entries c.args.held.now)) (to_z-of_z w64 c.args.key c.ranges.key)
