use Rattle.std.proofs.Common.{◌≡◌, ℕ, List, ◌<◌, ◌≤◌, ◌-◌, ◌+◌, vec_len}
use Rattle.std.specs.String.{string_bytes}
use Rattle.sdg_keep.specs.Readings.{ReadsUpTo}
use Rattle.sdg_keep.specs.Wholes.{IsPrefixOf}
use Rattle.sdg_keep.proofs.whole.read_whole.Given as goal

abbrev pub invariant-reading : goal.invariant-reading
invariant-reading g l = record {
  room : 0 < vec_len l.buffer;
  limited : vec_len l.bytes ≤ l.limit + 1;
  front : IsPrefixOf (g.F.Files.content l.fn.files (string_bytes l.name)) l.bytes.items;
  same : (other : List ℕ) → g.F.Files.content l.files other ≡ g.F.Files.content l.fn.files other;
  faults : g.F.Files.faults l.files ≡ g.F.Files.faults l.fn.files;
  reads : ReadsUpTo (g.F.Files.reads l.fn.files) (g.F.Files.reads l.files) (string_bytes l.name) l.limit (vec_len l.bytes);
}

abbrev pub decreases-reading : goal.decreases-reading
decreases-reading g l = l.limit + 1 - vec_len l.bytes
