use Rattle.std.proofs.Common.{◌≡◌, Some, ap, ◌∙◌, sym, refl}
use Rattle.std.specs.Option.{option_copied}
use Rattle.sdg_base.specs.declared.port.Port.TheVariants as port
use Rattle.cluster.specs.World.{next_result}
use Rattle.cluster.proofs.Reading.{kept_result}
use Rattle.cluster.proofs.Lowest.{read_at, offer_of, no_offer}
use Rattle.cluster.proofs.cluster.Cluster.result_offer.Goals as goal

pub returns-in-Some : goal.returns-in-Some
returns-in-Some c s w from holds e =
    let held = c.index-held.result.now in
    let here = read_at c.args.self.now s w c.args.giver from held holds.stands e c.index-held.ensures in
    let next : next_result s w from ≡ Some c.in-Some.item.now = sym (kept_result s w from held.cell here.stands) ∙ sym c.kept_at.ensures ∙ ap option_copied c.in-Some.is in
    offer_of c.call_of.result port.Sink from port.Sink held.port c.in-Some.item.now (next_result s w from) c.call_of.ensures refl here.port_is next

pub returns-in-None : goal.returns-in-None
returns-in-None c s w from holds e =
    let held = c.index-held.result.now in
    let here = read_at c.args.self.now s w c.args.giver from held holds.stands e c.index-held.ensures in
    no_offer port.Sink from (next_result s w from) (sym (kept_result s w from held.cell here.stands) ∙ sym c.kept_at.ensures ∙ ap option_copied c.in-None.is)
