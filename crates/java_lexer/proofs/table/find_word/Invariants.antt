use Rattle.std.proofs.Common.{◌≡◌, drop}
use Rattle.std.specs.List.{find}
use Rattle.std.specs.Str.{bytes_eq}
use Rattle.java_tree.specs.Texts.{reserved_text}
use Rattle.java_lexer.proofs.table.find_word.Given as goal

abbrev pub invariant-loop-word : goal.invariant-loop-word
invariant-loop-word l =
    find (λ w. bytes_eq (reserved_text w) l.text) (drop l.word-index l.table) ≡ find (λ w. bytes_eq (reserved_text w) l.text) l.table
