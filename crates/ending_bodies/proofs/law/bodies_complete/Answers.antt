use Rattle.typed_statements.specs.Leaves.{LeavesGo}
use Rattle.typed_statements.proofs.AllLeaves.{leaves_go}
use Rattle.typed_statements.proofs.Locals.{local_goes}
use Rattle.ending_bodies.proofs.Bodies as proved
use Rattle.ending_bodies.proofs.law.bodies_complete.Goals as goal

pub returns : goal.returns
returns c =
    let leaves : LeavesGo =
    leaves_go c.expressions_are_typed.ensures c.wholes_are_typed.ensures c.parts_are_typed.ensures c.parts_stay.ensures
    (local_goes c.expressions_are_typed.ensures c.wholes_are_typed.ensures c.parts_are_typed.ensures c.parts_stay.ensures) in
    proved.bodies_complete leaves c.tests_are_kept.ensures
