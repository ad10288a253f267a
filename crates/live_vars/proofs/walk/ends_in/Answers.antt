use Rattle.live_vars.proofs.Rising.{ends_last}
use Rattle.live_vars.proofs.walk.ends_in.Goals as goal

pub returns-in-Some : goal.returns-in-Some
returns-in-Some c = ends_last c.args.row.now c.args.number c.in-Some.last.now c.in-Some.ensures.value
