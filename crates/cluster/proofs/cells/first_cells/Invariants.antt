use Rattle.std.proofs.Common.{◌≡◌, ◌∷◌, map}
use Rattle.std.specs.List.{AllByRecursion, flat_map}
use Rattle.sdg_base.specs.declared.port.Port.TheVariants as port
use Rattle.cluster.specs.World.{numbers_from}
use Rattle.cluster.specs.Beginning.{port_in, IsFirst, row}
use Rattle.cluster.proofs.cells.first_cells.Given as goal

abbrev pub invariant-loop-field : goal.invariant-loop-field
invariant-loop-field l = record {
  ports : map port_in l.cells.items ≡ port.Front ∷ port.Join ∷ flat_map (row l.slots) (numbers_from 0 l.field);
  first : AllByRecursion IsFirst l.cells.items;
}
