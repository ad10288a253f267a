use Rattle.std.proofs.Common.{take}
use Rattle.run_text.specs.Index.{IsIndex}
use Rattle.run_text.proofs.index.index_of.Given as goal

abbrev pub invariant-loop-number : goal.invariant-loop-number
invariant-loop-number l = IsIndex (take l.number l.entrances) l.index
