use Rattle.std.proofs.Common.{◌≡◌, [], drop}
use Rattle.sdg_keep.specs.Stored.{notes_after}
use Rattle.sdg_keep.proofs.change.notes_after.Given as goal

abbrev pub invariant-loop-change : goal.invariant-loop-change
invariant-loop-change l = notes_after l.notes (drop l.change-index l.change-items) l.line ≡ notes_after [] l.changes l.line
