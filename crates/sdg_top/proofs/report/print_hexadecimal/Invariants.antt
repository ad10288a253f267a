use Rattle.std.proofs.Common.{◌≡◌, ◌++◌, take}
use Rattle.sdg_top.specs.Texts.{hexadecimal}
use Rattle.sdg_top.proofs.report.print_hexadecimal.Given as goal

abbrev pub invariant-loop-byte : goal.invariant-loop-byte
invariant-loop-byte l = l.out.items ≡ l.initial.out.items ++ hexadecimal (take l.byte-index l.bytes)
