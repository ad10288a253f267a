use Rattle.std.specs.List.{zip}
use Rattle.early_plain.specs.Bodies.{begin_at}
use Rattle.early_plain.specs.Machines.{at}
use Rattle.early_plain.specs.Scopes.{names_in}
use Rattle.early_plain.proofs.WholeBodies.{BodyFrom}
use Rattle.early_plain.proofs.run.run_method.Given as goal

abbrev pub invariant-loop-statement : goal.invariant-loop-statement
invariant-loop-statement l =
    BodyFrom (names_in l.fn.tables) l.fn.method.statements l.fn.method.ending (begin_at (zip l.fn.method.parameters l.fn.arguments) l.fn.tables) l.statement-index (at l.machine l.tables)
