use Rattle.std.proofs.Common.{◌≡◌, Some, slice_get, ap, ◌∙◌, sym}
use Rattle.std.specs.Option.{option_copied}
use Rattle.sdg_base.specs.declared.port.Port.{Port}
use Rattle.channels.specs.Marks.{mark_of}
use Rattle.channels.specs.Outboxes.{outbox_of}
use Rattle.cluster.specs.World.{next_item, last_step}
use Rattle.cluster.proofs.Places.{placed}
use Rattle.cluster.proofs.Reading.{kept_next}
use Rattle.cluster.proofs.Lowest.{read_at, offer_of, no_offer, cell_offer-on}
use Rattle.cluster.proofs.cluster.Cluster.item_offer.Goals as goal

pub returns-in-Some : goal.returns-in-Some
returns-in-Some c s w to from holds e f =
    let self = c.args.self.now in
    let held = c.index-held.result.now in
    let sender = c.index-sender.result.now in
    let here = read_at self s w c.args.taker to held holds.stands e c.index-held.ensures in
    let there = read_at self s w c.args.giver from sender holds.stands f c.index-sender.ensures in
    let taken = c.get-taken.ensures ∙ ap (mark_of held.cell.marks) there.port_is in
    let next : next_item s w to from ≡ Some c.in-Some.item.now =
    sym (kept_next s w to from held.cell sender.cell c.get-taken.result (placed s c.args.taker to e).1 here.stands there.stands taken)
    ∙ ap (λ (p : Port). slice_get (outbox_of sender.cell.outboxes p).kept c.get-taken.result) (sym here.port_is) ∙ sym c.kept_at.ensures ∙ ap option_copied c.in-Some.is in
    offer_of c.call_of.result to from held.port sender.port c.in-Some.item.now (next_item s w to from) c.call_of.ensures here.port_is there.port_is next
    ∙ sym (cell_offer-on s w to from (λ (last : w.next_step ≡ last_step). c.if-self.false (holds.stands.next_step ∙ last)))

pub returns-in-None : goal.returns-in-None
returns-in-None c s w to from holds e f =
    let self = c.args.self.now in
    let held = c.index-held.result.now in
    let sender = c.index-sender.result.now in
    let here = read_at self s w c.args.taker to held holds.stands e c.index-held.ensures in
    let there = read_at self s w c.args.giver from sender holds.stands f c.index-sender.ensures in
    let taken = c.get-taken.ensures ∙ ap (mark_of held.cell.marks) there.port_is in
    no_offer to from (next_item s w to from)
    (sym (kept_next s w to from held.cell sender.cell c.get-taken.result (placed s c.args.taker to e).1 here.stands there.stands taken)
    ∙ ap (λ (p : Port). slice_get (outbox_of sender.cell.outboxes p).kept c.get-taken.result) (sym here.port_is) ∙ sym c.kept_at.ensures ∙ ap option_copied c.in-None.is)
    ∙ sym (cell_offer-on s w to from (λ (last : w.next_step ≡ last_step). c.if-self.false (holds.stands.next_step ∙ last)))
