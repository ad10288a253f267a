use Rattle.std.proofs.Common.{◌≡◌, ℕ, ◌+◌, ◌*◌, ◌<◌, ◌/◌, ◌%◌, ◌||◌, ◌&&◌, get_or, false, vec_len}
use Rattle.java_types.proofs.calls.table_with.Given as goal

abbrev pub invariant-loop-at : goal.invariant-loop-at
invariant-loop-at l = (vec_len l.more ≡ l.at)
    × ((k : ℕ) → k < l.at → get_or l.more.items k false ≡ (get_or l.reached k false || get_or l.reached (k / 256 * 256 + l.call.caller) false && get_or l.reached (l.call.callee * 256 + k % 256) false))
