-- Marks by the port that sends.
use Rattle.std.specs.Prelude.{ℕ, Bool, List}
use Rattle.std.specs.List.{find}
use Rattle.std.specs.Option.{option_map_or}
use Rattle.sdg_base.specs.declared.port.Port.{Port}
use Rattle.sdg_base.specs.Ports.{same_port}
use Rattle.channels.specs.declared.mark.Mark.{Mark}

abbrev pub is_from : Port → Mark → Bool
is_from from mark = same_port mark.from from

-- the number of the last item that was taken from a port, and 0 before the first
abbrev pub mark_of : List Mark → Port → ℕ
mark_of marks from = option_map_or (λ m. m.taken) (find (is_from from) marks) 0
