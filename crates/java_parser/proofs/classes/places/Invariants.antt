use Rattle.std.proofs.Common.{◌≡◌, map, take}
use Rattle.java_parser.proofs.classes.places.Given as goal

-- the places of the tokens so far
abbrev pub invariant-loop-token : goal.invariant-loop-token
invariant-loop-token l = l.places ≡ map (λ t. t.place) (take l.token-index l.tokens)
