-- The limits that several meanings share.
use Rattle.std.specs.Prelude.{ℕ}

-- Each call starts with so many turns.
abbrev pub turns_at_start : ℕ
turns_at_start = 100000
