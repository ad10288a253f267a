-- What a run stands on to which no schedule says anything.
use Rattle.std.specs.Prelude.{[]}
use Rattle.placement.specs.declared.event.Header.{Header}
use Rattle.placement.specs.declared.event.Schedule.{Schedule}

-- one node, one slot, one store, one instance
abbrev pub default_header : Header
default_header = record { nodes = 1; slots = 1; stores = 1; width = 1 }

abbrev pub default_schedule : Schedule
default_schedule = record { header = default_header; events = [] }
