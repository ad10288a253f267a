use Rattle.std.proofs.Common.{◌≡◌, drop}
use Rattle.std.specs.String.{string_bytes}
use Rattle.sdg_keep.specs.Named.{file_of}
use Rattle.sdg_keep.proofs.files.file_at.Given as goal

abbrev pub invariant-loop-file : goal.invariant-loop-file
invariant-loop-file l = file_of (drop l.file-index l.file-items) (string_bytes l.name) ≡ file_of l.files (string_bytes l.name)
