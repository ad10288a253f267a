use Rattle.std.proofs.Common.{subst}
use Rattle.sdg_base.specs.declared.port.Port.TheVariants as port
use Rattle.sdg_base.specs.declared.item.Item.{Item}
use Rattle.tagged_agreement.specs.Machine.{one_to}
use Rattle.graph_cells.specs.Sending.{AreSent}
use Rattle.graph_cells.proofs.Buffers.{sent_to_each}
use Rattle.graph_cells.proofs.sending.send_each.Goals as goal

pub loop-number-preserved : goal.loop-number-preserved
loop-number-preserved c =
    sent_to_each c.args.field c.loop-number.number c.args.item.now c.args.outboxes.now c.loop-number.outboxes c.send_one.new.outboxes c.loop-number.invariant
    (subst (λ (x : Item). AreSent (one_to (port.Inst c.args.field c.loop-number.number) x) c.loop-number.outboxes c.send_one.new.outboxes) c.in_ok-copy.ensures c.in_ok-send_one.ensures)
