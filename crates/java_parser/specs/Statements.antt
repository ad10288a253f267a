-- Reading statements (JLS 14) and blocks. Of a statement the number is how many levels are left, its own included; of its
-- parts, how many are left inside it. The reader of the statements inside it is passed along.
use Rattle.std.specs.Prelude.{ℕ, zero, suc, Bool, false, not, if◌then◌else◌, List, [], ◌∷◌, Option, Some, None, Result, Ok}
use Rattle.java_tree.specs.declared.token.Kind.{Kind}
use Rattle.java_tree.specs.declared.token.Kind.TheVariants as k
use Rattle.java_tree.specs.declared.token.Reserved.{Reserved}
use Rattle.java_tree.specs.declared.token.Reserved.TheVariants as word
use Rattle.java_tree.specs.declared.token.Symbol.TheVariants as symbol
use Rattle.java_tree.specs.declared.tree.BlockItem.{BlockItem}
use Rattle.java_tree.specs.declared.tree.BlockItem.TheVariants as item
use Rattle.java_tree.specs.declared.tree.Stmt.{Stmt}
use Rattle.java_tree.specs.declared.tree.Stmt.TheVariants as stmt
use Rattle.java_tree.specs.declared.tree.Expr.{Expr}
use Rattle.java_tree.specs.declared.tree.Value.{Value}
use Rattle.java_tree.specs.Tokens.{Kinds}
use Rattle.java_parser.specs.declared.forms.StatementForm.{StatementForm}
use Rattle.java_parser.specs.declared.forms.StatementForm.TheVariants as form
use Rattle.java_parser.specs.Words.{◌>>=◌, Fault, Reading, too_deep, same_token, begins, after, all_at}
use Rattle.java_parser.specs.Members.{semicolon, open_paren, close_paren}
use Rattle.java_parser.specs.Expressions.{expr_at, value_at}
use Rattle.java_parser.specs.Forms.{statement_form}
use Rattle.java_parser.specs.Simples.{local_ahead, local_at, simple_in}
use Rattle.java_parser.specs.Headers.{header_at}

abbrev pub open_brace : Kind
open_brace = k.Symbol symbol.OpenBrace

abbrev pub close_brace : Kind
close_brace = k.Symbol symbol.CloseBrace

abbrev pub else_word : Kind
else_word = k.Reserved word.Else

-- a block goes on until its brace closes, or the tokens end
unfoldable pub has_more : Kinds → Bool
has_more [] = false
has_more (x ∷ rest) = not (same_token x close_brace)

unfoldable pub item_at : ℕ → (Kinds → Reading Stmt) → Kinds → Reading BlockItem
item_at n statement rest = if local_ahead rest then (do
  local ← local_at n rest
  rest ← after (semicolon ∷ []) local.1
  Ok (item.Local local.0, rest)) else (do
    body ← statement rest
    Ok (item.Stmt body.0, body.1))

unfoldable pub items_at : ℕ → (Kinds → Reading Stmt) → Kinds → Reading (List BlockItem)
items_at n statement = all_at has_more (item_at n statement)

unfoldable pub block_at : ℕ → (Kinds → Reading Stmt) → Kinds → Reading (List BlockItem)
block_at n statement rest = do
  rest ← after (open_brace ∷ []) rest
  items ← items_at n statement rest
  rest ← after (close_brace ∷ []) items.1
  Ok (items.0, rest)

-- a condition in parentheses
unfoldable pub test_at : ℕ → Kinds → Reading Expr
test_at n rest = do
  rest ← after (open_paren ∷ []) rest
  test ← expr_at n rest
  rest ← after (close_paren ∷ []) test.1
  Ok (test.0, rest)

-- An `else` belongs to the innermost `if` that is open.
unfoldable pub otherwise_at : (Kinds → Reading Stmt) → Kinds → Reading (Option Stmt)
otherwise_at statement rest = if begins else_word rest then (do
  rest ← after (else_word ∷ []) rest
  body ← statement rest
  Ok (Some body.0, body.1)) else Ok (None, rest)

-- what stands behind the condition of an `if`
unfoldable pub branches_at : (Kinds → Reading Stmt) → Kinds → Reading (Stmt × Option Stmt)
branches_at statement rest = do
  first ← statement rest
  second ← otherwise_at statement first.1
  Ok ((first.0, second.0), second.1)

unfoldable pub if_at : ℕ → (Kinds → Reading Stmt) → Kinds → Reading Stmt
if_at n statement rest = do
  rest ← after (k.Reserved word.If ∷ []) rest
  test ← test_at n rest
  branches ← branches_at statement test.1
  Ok (stmt.If test.0 branches.0.0 branches.0.1, branches.1)

unfoldable pub while_at : ℕ → (Kinds → Reading Stmt) → Kinds → Reading Stmt
while_at n statement rest = do
  rest ← after (k.Reserved word.While ∷ []) rest
  test ← test_at n rest
  body ← statement test.1
  Ok (stmt.While test.0 body.0, body.1)

unfoldable pub for_at : ℕ → (Kinds → Reading Stmt) → Kinds → Reading Stmt
for_at n statement rest = do
  header ← header_at n rest
  body ← statement header.1
  Ok (stmt.For header.0 body.0, body.1)

-- what follows this word and a semicolon
unfoldable pub after_jump : Reserved → Kinds → Result Kinds Fault
after_jump w = after (k.Reserved w ∷ semicolon ∷ [])

unfoldable pub returned_at : ℕ → Kinds → Reading (Option Value)
returned_at n rest = if begins semicolon rest then Ok (None, rest) else (do
  value ← value_at n rest
  Ok (Some value.0, value.1))

unfoldable pub return_at : ℕ → Kinds → Reading Stmt
return_at n rest = do
  rest ← after (k.Reserved word.Return ∷ []) rest
  value ← returned_at n rest
  rest ← after (semicolon ∷ []) value.1
  Ok (stmt.Return value.0, rest)

unfoldable pub simple_statement_at : ℕ → Kinds → Reading Stmt
simple_statement_at n rest = do
  simple ← simple_in n rest
  rest ← after (semicolon ∷ []) simple.1
  Ok (stmt.Simple simple.0, rest)

unfoldable pub statement_of : StatementForm → ℕ → (Kinds → Reading Stmt) → Kinds → Reading Stmt
statement_of form.Block n statement rest = do
  items ← block_at n statement rest
  Ok (stmt.Block items.0, items.1)
statement_of form.Empty n statement rest = do
  rest ← after (semicolon ∷ []) rest
  Ok (stmt.Empty, rest)
statement_of form.If n statement rest = if_at n statement rest
statement_of form.While n statement rest = while_at n statement rest
statement_of form.For n statement rest = for_at n statement rest
statement_of form.Break n statement rest = do
  rest ← after_jump word.Break rest
  Ok (stmt.Break, rest)
statement_of form.Continue n statement rest = do
  rest ← after_jump word.Continue rest
  Ok (stmt.Continue, rest)
statement_of form.Return n statement rest = return_at n rest
statement_of form.Simple n statement rest = simple_statement_at n rest

unfoldable pub statement_at : ℕ → Kinds → Reading Stmt
statement_at zero rest = too_deep rest
statement_at (suc n) rest = statement_of (statement_form rest) n (statement_at n) rest
