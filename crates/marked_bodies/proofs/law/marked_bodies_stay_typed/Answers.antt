use Rattle.marked_bodies.proofs.StaysTyped as typed
use Rattle.marked_bodies.proofs.law.marked_bodies_stay_typed.Goals as goal

-- src/law.rt:8:1
pub returns : goal.returns
returns c = typed.marked_bodies_stay_typed
