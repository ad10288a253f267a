use Rattle.std.proofs.Common.{map}
use Rattle.cluster.specs.Beginning.{port_in}
use Rattle.cluster.proofs.Building.{rows-push}
use Rattle.cluster.proofs.cells.first_cells.Goals as goal

pub loop-field-preserved : goal.loop-field-preserved
loop-field-preserved c = record {
  ports =
      rows-push (map port_in c.loop-field.cells.items) (map port_in c.push_row.new.cells.items) c.args.slots c.loop-field.field c.loop-field.invariant.ports
      c.in_ok-push_row.ensures.ports;
  first = c.in_ok-push_row.ensures.first c.loop-field.invariant.first;
}
