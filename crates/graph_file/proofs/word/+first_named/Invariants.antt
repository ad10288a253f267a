use Rattle.std.proofs.Common.{length}
use Rattle.graph_file.proofs.word.+first_named.Given as goal

abbrev pub decreases-first_named : goal.decreases-first_named
decreases-first_named g l = length l.things.now
