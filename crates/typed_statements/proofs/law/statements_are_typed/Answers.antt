use Rattle.typed_statements.specs.Leaves.{LeavesGo}
use Rattle.typed_statements.proofs.AllLeaves.{leaves_go}
use Rattle.typed_statements.proofs.Locals.{local_goes}
use Rattle.typed_statements.proofs.Loops.{loops_go}
use Rattle.typed_statements.proofs.Statements.{statements_go}
use Rattle.typed_statements.proofs.law.statements_are_typed.Goals as goal

pub returns : goal.returns
returns c =
    let leaves : LeavesGo =
    leaves_go c.expressions_are_typed.ensures c.wholes_are_typed.ensures c.parts_are_typed.ensures c.parts_stay.ensures
    (local_goes c.expressions_are_typed.ensures c.wholes_are_typed.ensures c.parts_are_typed.ensures c.parts_stay.ensures) in
    statements_go leaves (loops_go leaves)
