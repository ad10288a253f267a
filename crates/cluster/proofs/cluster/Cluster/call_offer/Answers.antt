use Rattle.std.proofs.Common.{◌≡◌, slice_get, ap, ◌∙◌, sym, refl}
use Rattle.std.specs.Option.{option_map}
use Rattle.sdg_base.specs.declared.port.Port.{Port}
use Rattle.sdg_base.specs.declared.port.Port.TheVariants as port
use Rattle.cluster.specs.History.{call_of, given_at_start}
use Rattle.cluster.specs.World.{next_item, last_step}
use Rattle.cluster.proofs.Reading.{start_next}
use Rattle.cluster.proofs.Lowest.{read_at, offer_of_call, no_offer_of_call, cell_offer-on}
use Rattle.cluster.proofs.cluster.Cluster.call_offer.Goals as goal

pub returns-in-Some : goal.returns-in-Some
returns-in-Some c s w to holds e =
    let self = c.args.self.now in
    let held = c.index-held.result.now in
    let here = read_at self s w c.args.taker to held holds.stands e c.index-held.ensures in
    let next = start_next self s w to port.Caller held.cell c.get-taken.result holds here.stands refl c.get-taken.ensures in
    offer_of_call c.in-Some.call to held.port (next_item s w to port.Caller)
    (ap (option_map call_of) (sym next ∙ ap (λ (p : Port). slice_get (given_at_start self.calls port.Caller p) c.get-taken.result) (sym here.port_is)) ∙ sym c.next_call.ensures ∙ c.in-Some.is)
    here.port_is
    ∙ sym (cell_offer-on s w to port.Caller (λ (last : w.next_step ≡ last_step). c.if-self.false (holds.stands.next_step ∙ last)))

pub returns-in-None : goal.returns-in-None
returns-in-None c s w to holds e =
    let self = c.args.self.now in
    let held = c.index-held.result.now in
    let here = read_at self s w c.args.taker to held holds.stands e c.index-held.ensures in
    let next = start_next self s w to port.Caller held.cell c.get-taken.result holds here.stands refl c.get-taken.ensures in
    no_offer_of_call to (next_item s w to port.Caller)
    (ap (option_map call_of) (sym next ∙ ap (λ (p : Port). slice_get (given_at_start self.calls port.Caller p) c.get-taken.result) (sym here.port_is)) ∙ sym c.next_call.ensures ∙ c.in-None.is)
    ∙ sym (cell_offer-on s w to port.Caller (λ (last : w.next_step ≡ last_step). c.if-self.false (holds.stands.next_step ∙ last)))
