use Rattle.std.proofs.Common.{◌≡◌, Option, Some, IfOk, slice_get, ap, ◌∙◌, sym, subst}
use Rattle.std.specs.Option.{option_copied}
use Rattle.sdg_base.specs.declared.item.Item.{Item}
use Rattle.channels.specs.Outboxes.{outbox_of}
use Rattle.cluster.proofs.Reading.{within_cells, read, same_cell, sender_cell, kept_next, start_next}
use Rattle.cluster.proofs.cluster.Cluster.next_item.Goals as goal

pub index-taker-requires : goal.index-taker-requires
index-taker-requires c = within_cells c.args.self.now c.requires.s c.requires.w c.args.to c.place_of.result c.requires.holds.stands c.requires.is_cell c.place_of.ensures

pub index-sender-requires : goal.index-sender-requires
index-sender-requires c =
    let sends = sender_cell c.requires.s.graph c.requires.s.header c.args.from c.requires.is_sender c.in_default.not-Caller in
    within_cells c.args.self.now c.requires.s c.requires.w c.args.from c.place_of-in_default.result c.requires.holds.stands sends c.place_of-in_default.ensures

pub returns-in-Caller : goal.returns-in-Caller
returns-in-Caller c s w holds =
    let is = same_cell c.args.self.now c.requires.s s c.requires.w w c.args.to c.requires.holds.stands holds.stands c.requires.is_cell in
    let taker = read c.args.self.now s w c.args.to c.place_of.result c.index-taker.result.now holds.stands is c.place_of.ensures c.index-taker.ensures in
    let next = start_next c.args.self.now s w c.args.to c.args.from c.index-taker.result.now.cell c.get-taken.result holds taker.stands c.in-Caller.is c.get-taken.ensures in
    let P : Option Item → Type 0 = λ o. IfOk c.start_of.result (λ item. item ≡ o) in
    subst P next c.start_of.ensures

pub returns-in_ok-copy_item-in-Some : goal.returns-in_ok-copy_item-in-Some
returns-in_ok-copy_item-in-Some c s w holds =
    let is = same_cell c.args.self.now c.requires.s s c.requires.w w c.args.to c.requires.holds.stands holds.stands c.requires.is_cell in
    let from_is = sender_cell c.requires.s.graph c.requires.s.header c.args.from c.requires.is_sender c.in_default.not-Caller in
    let sends = same_cell c.args.self.now c.requires.s s c.requires.w w c.args.from c.requires.holds.stands holds.stands from_is in
    let taker = read c.args.self.now s w c.args.to c.place_of.result c.index-taker.result.now holds.stands is c.place_of.ensures c.index-taker.ensures in
    let sender = read c.args.self.now s w c.args.from c.place_of-in_default.result c.index-sender.result.now holds.stands sends c.place_of-in_default.ensures c.index-sender.ensures in
    let kept : Some c.in-Some.item.now ≡ slice_get (outbox_of c.index-sender.result.now.cell.outboxes c.args.to).kept c.get-taken.result = ap option_copied (sym c.in-Some.is) ∙ c.kept_at.ensures in
    ap Some c.in_ok-copy_item-in-Some.ensures ∙ kept
    ∙ kept_next s w c.args.to c.args.from c.index-taker.result.now.cell c.index-sender.result.now.cell c.get-taken.result is taker.stands sender.stands c.get-taken.ensures

pub returns-in-None : goal.returns-in-None
returns-in-None c s w holds =
    let is = same_cell c.args.self.now c.requires.s s c.requires.w w c.args.to c.requires.holds.stands holds.stands c.requires.is_cell in
    let from_is = sender_cell c.requires.s.graph c.requires.s.header c.args.from c.requires.is_sender c.in_default.not-Caller in
    let sends = same_cell c.args.self.now c.requires.s s c.requires.w w c.args.from c.requires.holds.stands holds.stands from_is in
    let taker = read c.args.self.now s w c.args.to c.place_of.result c.index-taker.result.now holds.stands is c.place_of.ensures c.index-taker.ensures in
    let sender = read c.args.self.now s w c.args.from c.place_of-in_default.result c.index-sender.result.now holds.stands sends c.place_of-in_default.ensures c.index-sender.ensures in
    ap option_copied (sym c.in-None.is) ∙ c.kept_at.ensures
    ∙ kept_next s w c.args.to c.args.from c.index-taker.result.now.cell c.index-sender.result.now.cell c.get-taken.result is taker.stands sender.stands c.get-taken.ensures
