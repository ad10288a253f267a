use Rattle.std.proofs.Common.{◌≡◌}
use Rattle.state_classes.specs.Plans.{row_of}
use Rattle.state_classes.proofs.matrix.row_of.Given as goal

abbrev pub invariant-loop-column : goal.invariant-loop-column
invariant-loop-column g l = l.elements ≡ row_of l.row l.column (g.H.Held.entries l.held)
