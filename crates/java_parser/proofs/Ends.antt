-- What may stand behind a value, and how many levels are left inside.
use Rattle.std.proofs.Common.{◌≡◌, ℕ, zero, suc, true, false, ◌∷◌, Ok, refl, ap}
use Rattle.java_tree.specs.Tokens.{Kinds}
use Rattle.java_parser.specs.Words.{same_token, begins}
use Rattle.java_parser.specs.Members.{assign, comma, semicolon, close_paren}
use Rattle.java_parser.specs.Expressions.{operator_ahead, follows}
use Rattle.java_parser.specs.Simples.{inside}
use Rattle.java_parser.proofs.Laws.{same_Ok}
use Rattle.java_parser.proofs.ExpressionLaws.{ends}

pub record IsEnd (rest : Kinds) : Type 0 where
  pub ended : ends rest ≡ true
  pub not_assign : begins assign rest ≡ false

pub semicolon_ends : (rest : Kinds) → IsEnd (semicolon ∷ rest)
unfolding begins same_token follows operator_ahead
semicolon_ends rest = record { ended = refl; not_assign = refl }

pub comma_ends : (rest : Kinds) → IsEnd (comma ∷ rest)
unfolding begins same_token follows operator_ahead
comma_ends rest = record { ended = refl; not_assign = refl }

pub paren_ends : (rest : Kinds) → IsEnd (close_paren ∷ rest)
unfolding begins same_token follows operator_ahead
paren_ends rest = record { ended = refl; not_assign = refl }

pub inside_is : (n : ℕ) (ks : Kinds) (m : ℕ) → inside n ks ≡ Ok m → n ≡ suc m
unfolding inside
inside_is zero ks m e = absurd cc
inside_is (suc n) ks m e = ap suc (same_Ok n m e)
