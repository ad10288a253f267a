-- The words that a rule wants, one after the other.
use Rattle.std.proofs.Common.{◌≡◌, ℕ, ◌+◌, ◌<◌, ◌≤◌, List, length, map, drop, get_or, Ok}
use Rattle.std.proofs.lemmas.List.{at_drop_more, at_drop_all}
use Rattle.java_tree.specs.Tokens.{Kinds}
use Rattle.java_parser.specs.declared.words.Wanted.{Wanted}
use Rattle.java_parser.specs.Words.{◌>>=◌, kind_of, after_token, after}

pub after_one : (words : List Wanted) (d : Wanted) (i : ℕ) (rest : Kinds) → i < length words
    → after (map kind_of (drop i words)) rest ≡ (after_token (kind_of (get_or words i d)) rest >>= after (map kind_of (drop (i + 1) words)))
unfolding after
after_one words d i rest lt = at_drop_more (λ ws. after (map kind_of ws) rest) words i d lt

pub after_all : (words : List Wanted) (i : ℕ) (rest : Kinds) → length words ≤ i → after (map kind_of (drop i words)) rest ≡ Ok rest
unfolding after
after_all words i rest le = at_drop_all (λ ws. after (map kind_of ws) rest) words i le
