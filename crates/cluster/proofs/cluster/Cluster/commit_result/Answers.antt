use Rattle.std.proofs.Common.{◌≡◌, ◌+◌, slice_set, drop, ap, ◌∙◌, refl}
use Rattle.placement.specs.declared.event.Header.{Header}
use Rattle.sdg_base.specs.declared.port.Port.TheVariants as port
use Rattle.channels.specs.Outboxes.{outbox_of}
use Rattle.channels.specs.Sent.{trimmed}
use Rattle.cluster.specs.Results.{done}
use Rattle.cluster.specs.declared.cells.PortCell.{PortCell}
use Rattle.cluster.specs.declared.past.Committed.{Committed}
use Rattle.cluster.specs.Standing.{place_of}
use Rattle.cluster.proofs.Reading.{within_cells, read, same_cell, next_result_fits, next_fits, one_more}
use Rattle.cluster.proofs.Stands.{holds_after_commit, GaveResult}
use Rattle.cluster.proofs.cluster.Cluster.commit_result.Goals as goal

pub index_mut-held-requires : goal.index_mut-held-requires
index_mut-held-requires c = within_cells c.args.self.now c.requires.s c.requires.w c.args.from c.place_of.result c.requires.holds.stands c.requires.is_cell c.place_of.ensures

pub overflow_add-seq : goal.overflow_add-seq
overflow_add-seq c =
    let here = read c.args.self.now c.requires.s c.requires.w c.args.from c.place_of.result c.index_mut-held.result.now c.requires.holds.stands c.requires.is_cell c.place_of.ensures c.index_mut-held.ensures.value in
    let below = next_result_fits c.requires.s c.requires.w c.args.from c.index_mut-held.result.now.cell (done c.args.shown) c.requires.holds.ready c.requires.holds.reached c.requires.is_cell here.stands c.requires.given in
    next_fits c.trimmed-seq.result _ c.trimmed-seq.ensures below

pub returns : goal.returns
returns c s w holds given =
    let self = c.args.self.now in
    let is = same_cell self c.requires.s s c.requires.w w c.args.from c.requires.holds.stands holds.stands c.requires.is_cell in
    let held = c.index_mut-held.result.now in
    let here = read self s w c.args.from c.place_of.result held holds.stands is c.place_of.ensures c.index_mut-held.ensures.value in
    let place : c.place_of.result ≡ place_of s.header.slots c.args.from = c.place_of.ensures ∙ ap (λ (h : Header). place_of h.slots c.args.from) holds.stands.header in
    let after : PortCell = record { port = held.port; cell = c.trim.new.self } in
    let made : Committed = record { from = c.args.from; seq = c.trimmed-seq.result + 1; shown = c.args.shown } in
    let one = one_more c.trimmed-seq.result (trimmed (outbox_of held.cell.outboxes port.Sink)) c.trimmed-seq.ensures in
    let gave : GaveResult held.cell c.trim.new.self =
    record { shows = c.trim.ensures.shows; kept = c.trim.ensures.kept ∙ ap (λ n. drop n (outbox_of held.cell.outboxes port.Sink).kept) one; others = c.trim.ensures.others } in
    holds_after_commit self _ s w c.args.from c.args.shown.call c.args.shown.outcome held after made holds is given here.there (ap (λ i. slice_set self.cells.items i after) place) refl gave
    (record { calls = refl; header = refl; spent = refl }) refl refl c.in_ok-push.ensures.ok refl (ap (λ n. n + 1) (c.trimmed-seq.ensures ∙ here.stands.dropped port.Sink)) refl refl
