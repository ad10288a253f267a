use Rattle.std.proofs.Common.{◌≡◌, ℕ, List, map, drop}
use Rattle.sdg_keep.specs.Endings.{file_asked}
use Rattle.sdg_keep.proofs.InOrder.{HasRead}
use Rattle.sdg_keep.proofs.asked.read_files.Given as goal

abbrev pub invariant-loop-file : goal.invariant-loop-file
invariant-loop-file g l = record {
  read : HasRead (g.F.Files.content l.initial.files) (g.F.Files.reads l.initial.files) (g.F.Files.reads l.files) (map file_asked l.asked) (map file_asked (drop l.file-index l.asked)) l.texts;
  same : (other : List ℕ) → g.F.Files.content l.files other ≡ g.F.Files.content l.initial.files other;
  faults : g.F.Files.faults l.files ≡ g.F.Files.faults l.initial.files;
}
