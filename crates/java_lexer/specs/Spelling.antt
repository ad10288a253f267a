-- A text is a list of white space, comments and tokens (JLS 3.5). Each token is the longest that begins at its place
-- (JLS 3.2), and none begins where a comment does.
use Rattle.std.specs.Prelude.{◌≡◌, ◌≢◌, ℕ, ◌≤◌, ◌<◌, Bool, true, false, not, ◌||◌, ◌==◌, nat_eq, List, [], ◌∷◌, ◌++◌, length, codes}
use Rattle.std.specs.List.{AllPass, starts_with}
use Rattle.std.specs.Char.{is_ascii_digit, is_ascii_alphanumeric}
use Rattle.java_tree.specs.declared.token.Kind.{Kind}
use Rattle.java_tree.specs.declared.token.Kind.TheVariants as k
use Rattle.java_tree.specs.declared.token.Reserved.{Reserved}
use Rattle.java_tree.specs.declared.token.Symbol.{Symbol}
use Rattle.java_tree.specs.declared.token.Token.{Token}
use Rattle.java_tree.specs.declared.token.Place.{Place}
use Rattle.java_tree.specs.Texts.{reserved_text, symbol_text}
use Rattle.java_lexer.specs.declared.lexer.LexError.{LexError}
use Rattle.java_lexer.specs.declared.lexer.LexError.TheVariants.{BadByte, BadNumber, OpenComment, Memory}
use Rattle.java_lexer.specs.Numbers.{IsNumber}
use Rattle.java_lexer.specs.Places.{place_after}

-- the text has a first byte, which passes
abbrev pub begins : (ℕ → Bool) → List ℕ → Bool
begins p [] = false
begins p (b ∷ text) = p b

-- ---- white space and comments

abbrev pub is_line_feed : ℕ → Bool
is_line_feed b = b == 10

-- no LF and no CR
abbrev pub is_in_line : ℕ → Bool
is_in_line b = not (b == 10 || b == 13)

-- space, tab, form feed, LF
abbrev pub is_blank : ℕ → Bool
is_blank b = b == 32 || b == 9 || b == 12 || b == 10

abbrev pub is_white : ℕ → Bool
is_white b = is_blank b || b == 13

-- `*/` stands somewhere in the text
abbrev pub HasEnd : List ℕ → Type 0
HasEnd text = (front : List ℕ) × (rest : List ℕ) × (text ≡ front ++ (codes "*/" ++ rest))

-- Before the rest of a text stands white space (JLS 3.6) or a comment (JLS 3.7). CR LF is one end of line (JLS 3.4). What
-- `//` begins runs up to the end of its line, and what `/*` begins ends at the first `*/`.
pub data IsSpace (front rest : List ℕ) : Type 0 where
  blank : (b : ℕ) → front ≡ b ∷ [] → is_blank b ≡ true → IsSpace front rest
  carriage_return : front ≡ 13 ∷ [] → begins is_line_feed rest ≡ false → IsSpace front rest
  carriage_return_line_feed : front ≡ 13 ∷ 10 ∷ [] → IsSpace front rest
  end_of_line_comment : (body : List ℕ) → front ≡ codes "//" ++ body → AllPass is_in_line body → begins is_in_line rest ≡ false → IsSpace front rest
  traditional_comment : (body : List ℕ) → front ≡ codes "/*" ++ (body ++ codes "*/") → (HasEnd body → ⊥) → IsSpace front rest

-- ---- tokens

-- a letter, a digit, `_` or `$` (JLS 3.8)
abbrev pub is_word_byte : ℕ → Bool
is_word_byte b = is_ascii_alphanumeric b || b == 95 || b == 36

-- a letter, a digit or `_`, with which a number's run goes on
abbrev pub is_number_byte : ℕ → Bool
is_number_byte b = is_ascii_alphanumeric b || b == 95

-- word bytes, not a digit first, and no reserved word
pub record IsIdentifier (name : List ℕ) : Type 0 where
  pub not_empty : 0 < length name
  pub each : AllPass is_word_byte name
  pub first : begins is_ascii_digit name ≡ false
  pub not_reserved : (w : Reserved) → reserved_text w ≢ name

-- the text of a token
abbrev pub IsText : Kind → List ℕ → Type 0
IsText (k.Identifier name) text = IsIdentifier name × (text ≡ name)
IsText (k.Number digits decimal long) text = IsNumber digits decimal long text
IsText (k.Reserved w) text = text ≡ reserved_text w
IsText (k.Symbol s) text = text ≡ symbol_text s

-- two slashes, or a slash and a star
abbrev pub begins_comment : List ℕ → Bool
begins_comment text = starts_with nat_eq text (codes "//") || starts_with nat_eq text (codes "/*")

-- A word ends before a byte that is no word byte, a number where its run ends, and a symbol where no longer one begins.
abbrev pub EndsBefore : Kind → List ℕ → Type 0
EndsBefore (k.Symbol s) rest =
    ((longer : Symbol) → starts_with nat_eq (symbol_text s ++ rest) (symbol_text longer) ≡ true → length (symbol_text longer) ≤ length (symbol_text s))
    × (begins_comment (symbol_text s ++ rest) ≡ false)
EndsBefore (k.Number digits decimal_ long) rest = begins is_number_byte rest ≡ false
EndsBefore _ rest = begins is_word_byte rest ≡ false

-- before the rest of a text stands this token
pub record IsToken (kind : Kind) (front rest : List ℕ) : Type 0 where
  pub text : IsText kind front
  pub ends : EndsBefore kind rest

-- ---- a text

abbrev pub token_at : Kind → Place → Token
token_at kind place = record { kind = kind; place = place }

-- From one place to another a front of the text is read: its white space and comments are passed, its tokens are these,
-- with their places, and the last text is left.
pub data Reads : Place → List ℕ → List Token → Place → List ℕ → Type 0 where
  stops : (at : Place) (text : List ℕ) → Reads at text [] at text
  passes : (at to : Place) (front rest left : List ℕ) (tokens : List Token) → IsSpace front rest
      → Reads (place_after at front) rest tokens to left → Reads at (front ++ rest) tokens to left
  keeps : (at to : Place) (kind : Kind) (front rest left : List ℕ) (tokens : List Token) → IsToken kind front rest
      → Reads (place_after at front) rest tokens to left → Reads at (front ++ rest) (token_at kind at ∷ tokens) to left

-- From this place on, the tokens with their places spell the text, which ends at the other place.
abbrev pub Spells : Place → List Token → Place → List ℕ → Type 0
Spells at tokens end text = Reads at text tokens end []

-- ---- a refusal

-- a digit, whose whole run is no number
pub record IsBadNumber (text : List ℕ) : Type 0 where
  pub run : List ℕ
  pub rest : List ℕ
  pub spelled : text ≡ run ++ rest
  pub first : begins is_ascii_digit run ≡ true
  pub each : AllPass is_number_byte run
  pub ends : begins is_number_byte rest ≡ false
  pub no_number : (value : ℕ) (decimal long : Bool) → IsNumber value decimal long run → ⊥

-- `/*` with no `*/` behind it
pub record IsOpenComment (text : List ℕ) : Type 0 where
  pub body : List ℕ
  pub spelled : text ≡ codes "/*" ++ body
  pub unclosed : HasEnd body → ⊥

-- a byte with which no white space, no word or number and no symbol begins
pub record IsBadByte (text : List ℕ) : Type 0 where
  pub byte : ℕ
  pub rest : List ℕ
  pub spelled : text ≡ byte ∷ rest
  pub no_space : is_white byte ≡ false
  pub no_word : is_word_byte byte ≡ false
  pub no_symbol : (s : Symbol) → starts_with nat_eq text (symbol_text s) ≡ false

-- Nothing begins at this place of a text, for the reason and with the place that the error names.
abbrev pub IsFault : LexError → Place → List ℕ → Type 0
IsFault (BadByte at) place text = (at ≡ place) × IsBadByte text
IsFault (BadNumber at) place text = (at ≡ place) × IsBadNumber text
IsFault (OpenComment at) place text = (at ≡ place) × IsOpenComment text
IsFault Memory place text = ⊥

-- From this place on, the text can be read up to the first place at which nothing begins, and is refused there.
pub record Refuses (at : Place) (text : List ℕ) (error : LexError) : Type 0 where
  pub tokens : List Token
  pub place : Place
  pub rest : List ℕ
  pub reads : Reads at text tokens place rest
  pub fault : IsFault error place rest
