use Rattle.std.proofs.Common.{take}
use Rattle.run_text.specs.HistoryReading.{IsIndexOfFields}
use Rattle.run_text.proofs.index.class_index_of.Given as goal

abbrev pub invariant-loop-number : goal.invariant-loop-number
invariant-loop-number l = IsIndexOfFields (take l.number l.fields) l.index
