-- Reading the header of a `for` (JLS 14.14). The number is how many levels are left inside the statement.
use Rattle.std.specs.Prelude.{ℕ, if◌then◌else◌, List, [], ◌∷◌, Option, Some, None, Ok}
use Rattle.java_tree.specs.declared.token.Kind.TheVariants as k
use Rattle.java_tree.specs.declared.token.Reserved.TheVariants as word
use Rattle.java_tree.specs.declared.tree.Simple.{Simple}
use Rattle.java_tree.specs.declared.tree.ForInit.{ForInit}
use Rattle.java_tree.specs.declared.tree.ForInit.TheVariants as for_init
use Rattle.java_tree.specs.declared.tree.Expr.{Expr}
use Rattle.java_tree.specs.Tokens.{Kinds}
use Rattle.java_tree.specs.declared.tree.ForHeader.{ForHeader}
use Rattle.java_parser.specs.Words.{◌>>=◌, Reading, begins, after}
use Rattle.java_parser.specs.Members.{semicolon, open_paren, close_paren}
use Rattle.java_parser.specs.Expressions.{expr_at}
use Rattle.java_parser.specs.Simples.{local_ahead, local_at, simples_at}

unfoldable pub init_at : ℕ → Kinds → Reading ForInit
init_at n rest = if begins semicolon rest then Ok (for_init.Nothing, rest) else if local_ahead rest then (do
  local ← local_at n rest
  Ok (for_init.Local local.0, local.1)) else (do
    all ← simples_at n rest
    Ok (for_init.Simples all.0, all.1))

unfoldable pub condition_at : ℕ → Kinds → Reading (Option Expr)
condition_at n rest = if begins semicolon rest then Ok (None, rest) else (do
  test ← expr_at n rest
  Ok (Some test.0, test.1))

unfoldable pub update_at : ℕ → Kinds → Reading (List Simple)
update_at n rest = if begins close_paren rest then Ok ([], rest) else simples_at n rest

-- from the word on, to the first semicolon
unfoldable pub opening_at : ℕ → Kinds → Reading ForInit
opening_at n rest = do
  rest ← after (k.Reserved word.For ∷ open_paren ∷ []) rest
  init ← init_at n rest
  rest ← after (semicolon ∷ []) init.1
  Ok (init.0, rest)

-- from behind the second semicolon on
unfoldable pub closing_at : ℕ → Kinds → Reading (List Simple)
closing_at n rest = do
  update ← update_at n rest
  rest ← after (close_paren ∷ []) update.1
  Ok (update.0, rest)

-- from behind the first semicolon on
unfoldable pub going_on_at : ℕ → Kinds → Reading (Option Expr × List Simple)
going_on_at n rest = do
  test ← condition_at n rest
  rest ← after (semicolon ∷ []) test.1
  update ← closing_at n rest
  Ok ((test.0, update.0), update.1)

-- from the word on
unfoldable pub header_at : ℕ → Kinds → Reading ForHeader
header_at n rest = do
  init ← opening_at n rest
  others ← going_on_at n init.1
  Ok (record { init = init.0; test = others.0.0; update = others.0.1 }, others.1)
