use Rattle.std.proofs.Common.{ℕ, length}
use Rattle.text_rows.proofs.texts.add_plain.Given as goal

-- each turn takes a byte at least
abbrev pub decreases-loop-rest : goal.decreases-loop-rest
decreases-loop-rest l = length l.rest
