use Rattle.std.proofs.Common.{pos, unwrap_or, ap, ◌∙◌, w64}
use Rattle.std.proofs.lemmas.Int.{to_z-of_z}
use Rattle.state_classes.specs.Plans.{element}
use Rattle.state_classes.proofs.matrix.element.Goals as goal

pub returns : goal.returns
returns g c =
    to_z-of_z w64 c.unwrap_or.result (record { sfits = c.unwrap_or.type_inv })
    ∙ c.unwrap_or.ensures
    ∙ ap (λ o. unwrap_or o (pos 0)) c.read.ensures
    ∙ (λ i. element (to_z-of_z w64 c.args.row c.ranges.row i) (to_z-of_z w64 c.args.column c.ranges.column i) (g.H.Held.entries c.args.held.now))
