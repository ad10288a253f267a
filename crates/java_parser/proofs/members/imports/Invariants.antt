use Rattle.std.proofs.Common.{◌≡◌, ◌-◌, length}
use Rattle.java_tree.specs.declared.token.Kind.TheVariants as k
use Rattle.java_tree.specs.declared.token.Reserved.TheVariants as word
use Rattle.java_parser.specs.Words.{kinds, many_at, begins}
use Rattle.java_parser.specs.Members.{import_at, imports_at}
use Rattle.java_parser.proofs.Many.{with_front}
use Rattle.java_parser.proofs.members.imports.Given as goal

abbrev pub invariant-loop : goal.invariant-loop
invariant-loop l = with_front l.imports (many_at (begins (k.Reserved word.Import)) import_at (length l.tokens - l.counter) (kinds l.rest)) ≡ imports_at (kinds l.tokens)
