-- What a cell's send buffers gain.
use Rattle.std.specs.Prelude.{◌≡◌, ◌+◌, ◌-◌, ◌^◌, ◌<◌, ◌++◌, List, length}
use Rattle.sdg_base.specs.declared.port.Port.{Port}
use Rattle.sdg_base.specs.declared.item.Item.{Item}
use Rattle.channels.specs.declared.outbox.Outbox.{Outbox}
use Rattle.channels.specs.declared.sending.Sending.{Sending}
use Rattle.channels.specs.Outboxes.{outbox_of}
use Rattle.tagged_agreement.specs.Machine.{Out, given_to}

-- so many more were sent, and these are kept behind the others
pub record Gains (given : List Item) (old new : Outbox) : Type 0 where
  pub last : new.last ≡ old.last + length given
  pub kept : new.kept ≡ old.kept ++ given

-- each port is sent what is given to it
abbrev pub AreSent : (Port → List Item) → List Sending → List Sending → Type 0
AreSent given old new = (to : Port) → Gains (given to) (outbox_of old to) (outbox_of new to)

abbrev pub IsSent : Out → List Sending → List Sending → Type 0
IsSent out old new = AreSent (given_to out) old new

-- no port was sent so much that its numbers end
abbrev pub HasRoom : List Sending → Type 0
HasRoom sendings = (to : Port) → (outbox_of sendings to).last < 2 ^ 64 - 1
