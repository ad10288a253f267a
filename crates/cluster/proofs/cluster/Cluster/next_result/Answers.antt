use Rattle.std.proofs.Common.{◌≡◌, Some, slice_get, ap, ◌∙◌, sym}
use Rattle.std.specs.Option.{option_copied}
use Rattle.sdg_base.specs.declared.port.Port.TheVariants as port
use Rattle.channels.specs.Outboxes.{outbox_of}
use Rattle.cluster.proofs.Reading.{within_cells, read, same_cell, kept_result, result_ends}
use Rattle.cluster.proofs.cluster.Cluster.next_result.Goals as goal

pub index-held-requires : goal.index-held-requires
index-held-requires c = within_cells c.args.self.now c.requires.s c.requires.w c.args.from c.place_of.result c.requires.holds.stands c.requires.is_cell c.place_of.ensures

pub ended_of-requires : goal.ended_of-requires
ended_of-requires c =
    let s = c.requires.s in
    let w = c.requires.w in
    let here = read c.args.self.now s w c.args.from c.place_of.result c.index-held.result.now c.requires.holds.stands c.requires.is_cell c.place_of.ensures c.index-held.ensures in
    let kept : Some c.in-Some.item.now ≡ slice_get (outbox_of c.index-held.result.now.cell.outboxes port.Sink).kept 0 = ap option_copied (sym c.in-Some.is) ∙ c.kept_at.ensures in
    result_ends s w c.args.from c.in-Some.item.now c.requires.holds.ready c.requires.holds.reached (sym (kept ∙ kept_result s w c.args.from c.index-held.result.now.cell here.stands))

pub returns-in_ok-ended_of-in-Some : goal.returns-in_ok-ended_of-in-Some
returns-in_ok-ended_of-in-Some c s w holds =
    let is = same_cell c.args.self.now c.requires.s s c.requires.w w c.args.from c.requires.holds.stands holds.stands c.requires.is_cell in
    let here = read c.args.self.now s w c.args.from c.place_of.result c.index-held.result.now holds.stands is c.place_of.ensures c.index-held.ensures in
    let kept : Some c.in-Some.item.now ≡ slice_get (outbox_of c.index-held.result.now.cell.outboxes port.Sink).kept 0 = ap option_copied (sym c.in-Some.is) ∙ c.kept_at.ensures in
    ap Some c.in_ok-ended_of-in-Some.ensures ∙ kept ∙ kept_result s w c.args.from c.index-held.result.now.cell here.stands

pub returns-in-None : goal.returns-in-None
returns-in-None c s w holds =
    let is = same_cell c.args.self.now c.requires.s s c.requires.w w c.args.from c.requires.holds.stands holds.stands c.requires.is_cell in
    let here = read c.args.self.now s w c.args.from c.place_of.result c.index-held.result.now holds.stands is c.place_of.ensures c.index-held.ensures in
    ap option_copied (sym c.in-None.is) ∙ c.kept_at.ensures ∙ kept_result s w c.args.from c.index-held.result.now.cell here.stands
