use Rattle.std.proofs.Common.{◌≡◌, ℕ, ◌<◌, ◌/◌, ◌%◌, nat_eq, get_or, false, vec_len}
use Rattle.java_types.proofs.calls.no_calls.Given as goal

abbrev pub invariant-loop-at : goal.invariant-loop-at
invariant-loop-at l = (vec_len l.reached ≡ l.at) × ((k : ℕ) → k < l.at → get_or l.reached.items k false ≡ nat_eq (k / 256) (k % 256))
