use Rattle.std.proofs.Common.{◌≡◌, take, fold, None}
use Rattle.annotations.specs.Check as spec
use Rattle.annotations.proofs.checking.first_of.Given as goal

abbrev pub invariant-loop-finding : goal.invariant-loop-finding
invariant-loop-finding l = l.first ≡ fold (λ first f. spec.earlier first (spec.refused_at l.places f)) None (take l.finding-index l.findings)
