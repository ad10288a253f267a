use Rattle.std.proofs.Common.{◌≡◌, ◌≤◌, ◌-◌, length, take}
use Rattle.sdg_keep.specs.Writes.{Appends}
use Rattle.sdg_keep.proofs.whole.write_whole.Given as goal

abbrev pub invariant-loop-done : goal.invariant-loop-done
invariant-loop-done g l = record {
  within : l.done ≤ length l.bytes;
  written : Appends (g.S.Sink.written l.initial.out) (g.S.Sink.written l.out) (take l.done l.bytes);
  faults : g.S.Sink.faults l.out ≡ g.S.Sink.faults l.initial.out;
}

abbrev pub decreases-loop-done : goal.decreases-loop-done
decreases-loop-done g l = length l.initial.bytes - l.done
