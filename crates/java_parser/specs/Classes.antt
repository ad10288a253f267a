-- Reading methods, members and the class (JLS 8.1, 8.3, 8.4). The number is how many levels are left inside a method's body.
use Rattle.std.specs.Prelude.{ℕ, Bool, true, false, ◌&&◌, if◌then◌else◌, List, [], ◌∷◌, is_some, Result, Ok}
use Rattle.java_tree.specs.declared.token.Kind.TheVariants as k
use Rattle.java_tree.specs.declared.token.Reserved.TheVariants as word
use Rattle.java_tree.specs.declared.token.Place.{Place}
use Rattle.java_tree.specs.declared.tree.Class.{Class}
use Rattle.java_tree.specs.declared.tree.Member.{Member}
use Rattle.java_tree.specs.declared.tree.Member.TheVariants as member
use Rattle.java_tree.specs.declared.tree.Method.{Method}
use Rattle.java_tree.specs.Tokens.{Kinds}
use Rattle.java_parser.specs.Words.{◌>>=◌, Fault, Reading, refused, begins, after, name_at, all_at}
use Rattle.java_parser.specs.Members.{at_sign, assign, open_paren, close_paren, behind, package_at, imports_at, modifiers_at, access_ahead, field_at, result_at, params_at}
use Rattle.java_parser.specs.Simples.{begins_name}
use Rattle.java_parser.specs.Statements.{open_brace, close_brace, has_more, block_at, statement_at}

-- a name, and '=' behind it
unfoldable pub initialises : Kinds → Bool
initialises rest = begins_name rest && behind (begins assign) rest

-- an annotation, or a type, a name and '='
unfoldable pub declares : Kinds → Bool
declares rest = if begins at_sign rest then true else begins_name rest && behind initialises rest

-- whether a member is a field: what follows `public` and `private` tells
unfoldable pub field_ahead : Kinds → Bool
field_ahead [] = false
field_ahead (x ∷ rest) = if is_some (access_ahead (x ∷ rest)) then field_ahead rest else declares (x ∷ rest)

unfoldable pub method_at : ℕ → Kinds → Reading Method
method_at n rest = do
  modifiers ← modifiers_at rest
  result ← result_at modifiers.1
  name ← name_at result.1
  rest ← after (open_paren ∷ []) name.1
  params ← params_at rest
  rest ← after (close_paren ∷ []) params.1
  body ← block_at n (statement_at n) rest
  Ok (record { modifiers = modifiers.0; result = result.0; name = name.0; params = params.0; body = body.0 }, body.1)

unfoldable pub member_at : ℕ → Kinds → Reading Member
member_at n rest = if field_ahead rest then (do
  field ← field_at rest
  Ok (member.Field field.0, field.1)) else (do
    method ← method_at n rest
    Ok (member.Method method.0, method.1))

unfoldable pub members_at : ℕ → Kinds → Reading (List Member)
members_at n = all_at has_more (member_at n)

abbrev pub is_empty : Kinds → Bool
is_empty [] = true
is_empty (x ∷ rest) = false

-- all of the tokens, which begin at these places
unfoldable pub class_at : ℕ → List Place → Kinds → Result Class Fault
class_at n places rest = do
  named ← package_at rest
  imports ← imports_at named.1
  modifiers ← modifiers_at imports.1
  rest ← after (k.Reserved word.Class ∷ []) modifiers.1
  name ← name_at rest
  rest ← after (open_brace ∷ []) name.1
  members ← members_at n rest
  rest ← after (close_brace ∷ []) members.1
  if is_empty rest then Ok (record { «package» = named.0; imports = imports.0; modifiers = modifiers.0; name = name.0; members = members.0; places = places }) else refused rest

-- A method's body is the first of the levels that there may be.
abbrev pub body_levels : ℕ
body_levels = 199
