-- What a table holds: its entries in rising key order, no key twice.
use Rattle.std.specs.Prelude.{ℤ, List}

abbrev pub Entries : Type 0
Entries = List (ℤ × ℤ)
