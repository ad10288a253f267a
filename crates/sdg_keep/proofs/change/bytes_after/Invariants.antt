use Rattle.std.proofs.Common.{◌≡◌, None, drop}
use Rattle.std.specs.Option.{option_copied}
use Rattle.sdg_keep.specs.Stored.{read_after}
use Rattle.sdg_keep.proofs.change.bytes_after.Given as goal

abbrev pub invariant-loop-change : goal.invariant-loop-change
invariant-loop-change l = read_after (option_copied l.read) (drop l.change-index l.change-items) l.store l.name ≡ read_after None l.changes l.store l.name
