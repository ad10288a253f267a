use Rattle.std.proofs.Common.{map}
use Rattle.cluster.specs.Beginning.{port_in}
use Rattle.cluster.proofs.Building.{row-push}
use Rattle.cluster.proofs.cells.push_row.Goals as goal

pub loop-slot-preserved : goal.loop-slot-preserved
loop-slot-preserved c = record {
  ports =
      row-push (map port_in c.loop-slot.cells.items) (map port_in c.push_cell.new.cells.items) (map port_in c.args.cells.now.items) c.loop-slot.slot c.args.field c.loop-slot.invariant.ports
      c.in_ok-push_cell.ensures.ports;
  first = λ before. c.in_ok-push_cell.ensures.first (c.loop-slot.invariant.first before);
}
