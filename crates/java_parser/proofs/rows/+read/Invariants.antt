use Rattle.java_parser.proofs.rows.+read.Given as goal

abbrev pub decreases-read : goal.decreases-read
decreases-read l = l.levels
