use Rattle.typed_classes.proofs.Bodies.{bodies_typed}
use Rattle.typed_classes.proofs.Headers.{headers_bare}
use Rattle.typed_classes.proofs.Placing.{entries_placed}
use Rattle.typed_classes.proofs.Whole.{accepted_typed}
use Rattle.typed_classes.proofs.law.accepted_classes_are_typed.Goals as goal

pub returns-clause-typed : goal.returns-clause-typed
returns-clause-typed c =
    accepted_typed c.bodies_are_walked.ensures (headers_bare c.headers_are_kept.ensures) c.bodies_complete.ensures c.marked_bodies_stay_typed.ensures

pub returns-clause-placed : goal.returns-clause-placed
returns-clause-placed c =
    entries_placed c.calls_stand_at_their_code.ensures.marked (bodies_typed c.bodies_are_walked.ensures (headers_bare c.headers_are_kept.ensures) c.bodies_complete.ensures)
