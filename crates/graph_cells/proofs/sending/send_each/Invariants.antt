use Rattle.tagged_agreement.specs.Machine.{each_to}
use Rattle.graph_cells.specs.Sending.{AreSent}
use Rattle.graph_cells.proofs.sending.send_each.Given as goal

abbrev pub invariant-loop-number : goal.invariant-loop-number
invariant-loop-number l = AreSent (each_to l.field l.number l.item) l.fn.outboxes l.outboxes
