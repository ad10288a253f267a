-- In the bodies of typed classes no access comes before the next mark.
use Rattle.std.proofs.Common.{None, refl}
use Rattle.body_code.specs.Checking.{surroundings, at_start}
use Rattle.body_code.specs.ClassCode.{callees_of}
use Rattle.quiet_runs.specs.Bodies.{TypedBodiesAreQuiet}
use Rattle.quiet_runs.proofs.Typed.{typed_quiet}

pub bodies_quiet : TypedBodiesAreQuiet
bodies_quiet class program typed n m b is placed =
    let t = typed.bodies n m b is.is_method is.is_body in
    typed_quiet (surroundings program.fields (callees_of class program) m b) b.statements None (at_start b) t.after refl t.checked placed
