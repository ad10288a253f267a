use Rattle.std.proofs.Common.{◌≡◌, ◌+◌, ◌≤◌, length}
use Rattle.java_lexer.specs.Places.{place_after}
use Rattle.java_lexer.proofs.place.place_past.Given as goal

abbrev pub invariant-loop-rest : goal.invariant-loop-rest
invariant-loop-rest l =
    (place_after l.place l.rest ≡ place_after l.fn.place l.bytes)
    × (l.place.line + length l.rest ≤ l.fn.place.line + length l.bytes)
    × (l.place.column + length l.rest ≤ l.fn.place.column + length l.bytes)

abbrev pub decreases-loop-rest : goal.decreases-loop-rest
decreases-loop-rest l = length l.rest
