-- Which slot of a partitioned field holds a key: multiplicative hashing by the golden ratio, of which the six top bits are taken.
use Rattle.std.specs.Prelude.{ℕ, ℤ, ◌*◌, ◌/◌, ◌%◌, ◌^◌}
use Rattle.std.specs.Int.{cast_unsigned, w64}

abbrev pub slot : ℤ → ℕ → ℕ
slot key slots = ((cast_unsigned w64 key * 0x9E3779B97F4A7C15) % (2 ^ 64)) / (2 ^ 58) % slots
