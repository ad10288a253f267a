-- The ports of so many partitioned fields with so many slots each.
use Rattle.std.specs.Prelude.{ℕ, ◌<◌}
use Rattle.sdg_base.specs.declared.port.Port.{Port}
use Rattle.sdg_base.specs.declared.port.Port.TheVariants as port

-- the cells: the one that begins calls, the one that joins parts, and the slots
abbrev pub IsCellAmong : ℕ → ℕ → Port → Type 0
IsCellAmong fields slots port.Front = Unit {0}
IsCellAmong fields slots port.Join = Unit {0}
IsCellAmong fields slots (port.Slot field at) = (field < fields) × (at < slots)
IsCellAmong fields slots p = ⊥

-- what a cell takes from: the caller, or a cell
abbrev pub IsSenderAmong : ℕ → ℕ → Port → Type 0
IsSenderAmong fields slots port.Caller = Unit {0}
IsSenderAmong fields slots p = IsCellAmong fields slots p
