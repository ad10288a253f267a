use Rattle.graph_cells.proofs.Buffers.{one_sent}
use Rattle.graph_cells.proofs.sending.send_one.Goals as goal

pub returns : goal.returns
returns c = one_sent c.args.to c.args.item c.args.outboxes.now c.send.new.self c.in_ok-send.ensures.last c.in_ok-send.ensures.kept c.in_ok-send.ensures.others
