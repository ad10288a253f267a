-- Send buffers by the port that receives.
use Rattle.std.specs.Prelude.{◌≢◌, Bool, List, []}
use Rattle.std.specs.List.{find}
use Rattle.std.specs.Option.{option_map_or}
use Rattle.sdg_base.specs.declared.port.Port.{Port}
use Rattle.sdg_base.specs.Ports.{same_port}
use Rattle.channels.specs.declared.outbox.Outbox.{Outbox}
use Rattle.channels.specs.declared.sending.Sending.{Sending}
use Rattle.channels.specs.Sent.{OutboxUnchanged}
use Rattle.std.proofs.Common.{lit≤}

-- nothing was sent
abbrev pub no_outbox : Outbox
no_outbox = record { last = 0; kept = []; within = lit≤ tt }

abbrev pub is_to : Port → Sending → Bool
is_to to sending = same_port sending.to to

-- the send buffer for a port
abbrev pub outbox_of : List Sending → Port → Outbox
outbox_of sendings to = option_map_or (λ s. s.outbox) (find (is_to to) sendings) no_outbox

-- each port but one was sent the same, of which the same is kept
abbrev pub SameButAt : Port → List Sending → List Sending → Type 0
SameButAt to old new = (other : Port) → other ≢ to → OutboxUnchanged (outbox_of old other) (outbox_of new other)
