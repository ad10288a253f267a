use Rattle.std.proofs.Common.{◌≤◌, ◌^◌, length}
use Rattle.live_vars.specs.Steps.{AreReaders, AreReadBelow}
use Rattle.live_vars.proofs.table.readers.Given as goal

abbrev pub invariant-loop-at : goal.invariant-loop-at
invariant-loop-at l = record {
  readers : AreReaders l.code l.at l.table.items;
  above : AreReadBelow l.code (length l.code) (length l.table.items);
  few : length l.table.items ≤ 2 ^ 32;
}
