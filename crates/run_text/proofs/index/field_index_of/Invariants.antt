use Rattle.std.proofs.Common.{take}
use Rattle.run_text.specs.Index.{IsFieldIndex}
use Rattle.run_text.proofs.index.field_index_of.Given as goal

abbrev pub invariant-loop-number : goal.invariant-loop-number
invariant-loop-number l = IsFieldIndex (take l.number l.fields) l.index
