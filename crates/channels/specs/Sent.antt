-- What a send buffer holds of the items that were sent, which have numbers from 1.
use Rattle.std.specs.Prelude.{◌≡◌, ℕ, ◌-◌, nat_lt, if◌then◌else◌, length, Option, None, slice_get}
use Rattle.sdg_base.specs.declared.item.Item.{Item}
use Rattle.channels.specs.declared.outbox.Outbox.{Outbox}

-- how many items are no longer kept
abbrev pub trimmed : Outbox → ℕ
trimmed box = box.last - length box.kept

-- the item of a number, where it is kept
abbrev pub item_of : Outbox → ℕ → Option Item
item_of box seq = if nat_lt (trimmed box) seq then slice_get box.kept (seq - trimmed box - 1) else None

-- as many were sent, and the same are kept
pub record OutboxUnchanged (old new : Outbox) : Type 0 where
  pub last : new.last ≡ old.last
  pub kept : new.kept ≡ old.kept
