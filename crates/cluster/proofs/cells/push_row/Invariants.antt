use Rattle.std.proofs.Common.{◌≡◌, ◌++◌, map}
use Rattle.std.specs.List.{AllByRecursion}
use Rattle.cluster.specs.Beginning.{port_in, IsFirst, row}
use Rattle.cluster.proofs.cells.push_row.Given as goal

abbrev pub invariant-loop-slot : goal.invariant-loop-slot
invariant-loop-slot l = record {
  ports : map port_in l.cells.items ≡ map port_in l.initial.cells.items ++ row l.slot l.field;
  first : AllByRecursion IsFirst l.initial.cells.items → AllByRecursion IsFirst l.cells.items;
}
