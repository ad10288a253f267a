use Rattle.std.proofs.Common.{◌≡◌, map, drop}
use Rattle.java_parser.specs.Words.{kinds, kind_of, after}
use Rattle.java_parser.proofs.words.after.Given as goal

-- what follows the words that are left is what follows them all
abbrev pub invariant-loop-word : goal.invariant-loop-word
invariant-loop-word l = after (map kind_of (drop l.word-index l.words)) (kinds l.rest) ≡ after (map kind_of l.words) (kinds l.tokens)
