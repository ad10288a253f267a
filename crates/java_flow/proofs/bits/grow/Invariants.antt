use Rattle.std.proofs.Common.{◌≡◌, ℕ, length, get_or}
use Rattle.java_flow.proofs.bits.grow.Given as goal

abbrev pub invariant-loop : goal.invariant-loop
invariant-loop l = record {
  long : length l.words.items ≡ l.counter;
  same : (at : ℕ) → get_or l.words.items at 0 ≡ get_or l.initial.words.items at 0;
}
