use Rattle.std.proofs.Common.{◌≡◌, ◌++◌, take, drop}
use Rattle.early_cutter.specs.Scopes.{IsAt}
use Rattle.early_cutter.specs.Lowering.{first_point, point_at_end, body_code}
use Rattle.early_cutter.proofs.lowering.lowered.Given as goal

-- where the code stands, and the code of the rest of the body
abbrev pub invariant-loop-statement : goal.invariant-loop-statement
invariant-loop-statement l =
    let first = first_point l.start l.method in
    let p = point_at_end first (take l.statement-index l.statements) in
    record {
      here : IsAt l.here p;
      code : l.code ++ body_code l.fields p (drop l.statement-index l.statements) l.method.ending ≡ body_code l.fields first l.statements l.method.ending;
    }
