use Rattle.std.proofs.Common.{◌+◌, ◌-◌, ◌<◌, take, length, sum_by, ap, ◌∙◌, arith}
use Rattle.std.specs.Vec.{vec_len}
use Rattle.sdg_base.specs.declared.port.Port.{Port}
use Rattle.sdg_base.specs.declared.port.Port.TheVariants as port
use Rattle.channels.specs.Outboxes.{outbox_of}
use Rattle.cluster.specs.World.{cell, cells_of, committed, last_step}
use Rattle.cluster.proofs.Places.{placed}
use Rattle.cluster.proofs.Lowest.{port_there, read_at, length-kept, length-kept_for, min_first, min_next, sum_by-next}
use Rattle.cluster.proofs.cluster.Cluster.kept_by.Goals as goal

pub loop-taker-init : goal.loop-taker-init
loop-taker-init c s w from holds e =
    let sender = c.index-sender.result.now in
    let here = read_at c.args.self.now s w c.args.giver from sender holds.stands e c.index-sender.ensures in
    let kept = c.kept-kept.ensures ∙ length-kept sender.cell s w from port.Sink here.stands in
    min_first c.kept-kept.result (length ((cell s w from).gave port.Sink) - committed from w.commits) last_step kept c.kept-kept.type_inv

pub loop-taker-preserved : goal.loop-taker-preserved
loop-taker-preserved c s w from holds e =
    let self = c.args.self.now in
    let i = c.loop-taker.taker in
    let sender = c.index-sender.result.now in
    let here = read_at self s w c.args.giver from sender holds.stands e c.index-sender.ensures in
    let within : i < vec_len self.cells = omega arith in
    let to = port_there self s w i holds.stands within in
    let taker = read_at self s w i to.0 c.index.result.now holds.stands to.1 c.index.ensures in
    let kept = c.kept.ensures ∙ ap (λ (p : Port). length (outbox_of sender.cell.outboxes p).kept) taker.port_is ∙ length-kept_for sender.cell s w from to.0 here.stands (placed s i to.0 to.1).1 in
    min_next c.loop-taker.kept c.kept.result (length ((cell s w from).gave port.Sink) - committed from w.commits) (sum_by (λ to. length ((cell s w from).gave to)) (take i (cells_of s)))
    (sum_by (λ to. length ((cell s w from).gave to)) (take (i + 1) (cells_of s))) (length ((cell s w from).gave to.0)) last_step c.saturating_add-kept.result (c.loop-taker.invariant s w from holds e) kept
    (sum_by-next (λ to. length ((cell s w from).gave to)) (cells_of s) i to.0 to.1) c.saturating_add-kept.ensures
