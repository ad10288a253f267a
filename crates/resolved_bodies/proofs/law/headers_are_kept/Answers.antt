use Rattle.resolved_bodies.proofs.MethodHeaders.{headers_kept}
use Rattle.resolved_bodies.proofs.law.headers_are_kept.Goals as goal

pub returns : goal.returns
returns c = headers_kept
