-- What is read at the front of a text, step by step.
use Rattle.std.specs.Prelude.{◌≡◌, ℕ, ◌+◌, ◌-◌, ◌*◌, ◌≤◌, ◌<◌, Bool, true, ◌&&◌, ◌||◌, ◌==◌, nat_eq, nat_lt, nat_le, if◌then◌else◌, List, [], ◌∷◌, length, take, drop, Option, Some, None, codes}
use Rattle.std.specs.Char.{is_digit, digit_value}
use Rattle.std.specs.List.{find, starts_with, ends_with}
use Rattle.std.specs.Str.{bytes_eq}
use Rattle.java_tree.specs.declared.token.Kind.{Kind}
use Rattle.java_tree.specs.declared.token.Kind.TheVariants as kind
use Rattle.java_tree.specs.declared.token.Reserved.{Reserved}
use Rattle.java_tree.specs.declared.token.Symbol.{Symbol}
use Rattle.java_tree.specs.declared.token.Token.{Token}
use Rattle.java_tree.specs.declared.token.Place.{Place}
use Rattle.java_tree.specs.Texts.{reserved_text, symbol_text}
use Rattle.java_lexer.specs.declared.table.TheConstants.{RESERVED}
use Rattle.java_lexer.specs.declared.number.Base.{Base}
use Rattle.java_lexer.specs.declared.number.Base.TheVariants as base
use Rattle.java_lexer.specs.declared.run.Class.{Class}
use Rattle.java_lexer.specs.declared.run.Class.TheVariants as class
use Rattle.java_lexer.specs.declared.element.Element.{Element}
use Rattle.java_lexer.specs.declared.element.Element.TheVariants as element
use Rattle.java_lexer.specs.declared.element.Fault.{Fault}
use Rattle.java_lexer.specs.declared.element.Fault.TheVariants as fault
use Rattle.java_lexer.specs.declared.lexer.LexError.{LexError}
use Rattle.java_lexer.specs.declared.lexer.LexError.TheVariants as lexed
use Rattle.java_lexer.specs.Places.{next_line, next_column}
use Rattle.java_lexer.specs.Numbers.{radix, largest, is_decimal, is_underscore}
use Rattle.java_lexer.specs.Spelling.{begins, is_line_feed, is_in_line, is_number_byte, is_word_byte, IsSpace, IsToken, IsBadByte, IsBadNumber, IsOpenComment, token_at}

-- the place after one byte, which the others follow
abbrev pub past_byte : Place → ℕ → List ℕ → Place
past_byte p b after =
    if b == 10 then next_line p else (if b == 13 then (if begins is_line_feed after then p else next_line p) else next_column p)

abbrev pub is_in : Class → ℕ → Bool
is_in class.Line = is_in_line
is_in class.Number = is_number_byte
is_in class.Word = is_word_byte

-- ---- comments

-- how many bytes there are up to the end of the first `*/`, behind n others
abbrev pub closed_from : ℕ → List ℕ → Option ℕ
closed_from n [] = None
closed_from n (b ∷ text) = if b == 42 && begins (λ c. c == 47) text then Some (n + 2) else closed_from (n + 1) text

-- ---- numbers

-- a digit behind those of n, in numbers below 2 ^ 64
abbrev pub with_digit : ℕ → ℕ → ℕ → Option ℕ
with_digit base n b =
    if is_digit b base && nat_lt (n * base + digit_value b) 18446744073709551616 then Some (n * base + digit_value b) else None

-- the number that digits write behind those of n, with `_` anywhere
abbrev pub value_from : ℕ → ℕ → List ℕ → Option ℕ
value_from base n [] = Some n
value_from base n (b ∷ text) =
    if is_underscore b then value_from base n text
    else (if is_digit b base && nat_lt (n * base + digit_value b) 18446744073709551616 then value_from base (n * base + digit_value b) text else None)

-- the number of digits with `_` between them
abbrev pub value_of : ℕ → List ℕ → Option ℕ
value_of base [] = None
value_of base (b ∷ text) =
    if starts_with nat_eq (b ∷ text) (codes "_") || ends_with nat_eq (b ∷ text) (codes "_") then None else value_from base 0 (b ∷ text)

-- the base of a numeral, and how many bytes stand before its digits
abbrev pub base_of : List ℕ → Base × ℕ
base_of text =
    if starts_with nat_eq text (codes "0x") || starts_with nat_eq text (codes "0X") then (base.Hexadecimal, 2)
    else (if starts_with nat_eq text (codes "0b") || starts_with nat_eq text (codes "0B") then (base.Binary, 2)
    else (if starts_with nat_eq text (codes "0") && nat_lt 1 (length text) then (base.Octal, 0) else (base.Decimal, 0)))

abbrev pub has_suffix : List ℕ → Bool
has_suffix text = ends_with nat_eq text (codes "L") || ends_with nat_eq text (codes "l")

abbrev pub without_suffix : List ℕ → List ℕ
without_suffix text = if has_suffix text then take (length text - 1) text else text

abbrev pub literal : Bool → Bool → Option ℕ → Option Kind
literal decimal long None = None
literal decimal long (Some n) = if nat_le n (largest decimal long) then Some (kind.Number n decimal long) else None

abbrev pub numeral : Bool → List ℕ → Option Kind
numeral long text = literal (is_decimal ((base_of text).0)) long (value_of (radix ((base_of text).0)) (drop ((base_of text).1) text))

-- the literal that a text is
abbrev pub number_of : List ℕ → Option Kind
number_of text = numeral (has_suffix text) (without_suffix text)

-- ---- words and symbols

-- the reserved word of a text
unfoldable pub reserved_of : List ℕ → Option Reserved
reserved_of text = find (λ w. bytes_eq (reserved_text w) text) RESERVED

-- what a word is, that is this reserved word or none
abbrev pub word_kind : Option Reserved → List ℕ → Kind
word_kind None name = kind.Identifier name
word_kind (Some w) name = kind.Reserved w

abbrev pub is_longer : Symbol → Option Symbol → Bool
is_longer s None = true
is_longer s (Some other) = nat_lt (length (symbol_text other)) (length (symbol_text s))

-- the longest of these symbols at the front of a text, or what was found before them
abbrev pub longest_from : Option Symbol → List ℕ → List Symbol → Option Symbol
longest_from found text [] = found
longest_from found text (s ∷ symbols) =
    longest_from (if starts_with nat_eq text (symbol_text s) && is_longer s found then Some s else found) text symbols

-- a symbol at the front of a text, and no longer one is there
pub record IsLongest (symbol : Symbol) (text : List ℕ) : Type 0 where
  pub front : starts_with nat_eq text (symbol_text symbol) ≡ true
  pub longest : (other : Symbol) → starts_with nat_eq text (symbol_text other) ≡ true → length (symbol_text other) ≤ length (symbol_text symbol)

-- ---- the front of a text

abbrev pub IsElement : Element → List ℕ → List ℕ → Type 0
IsElement element.Space front rest = IsSpace front rest
IsElement (element.Token kind) front rest = IsToken kind front rest

-- an element of so many bytes stands at the front of a text
pub record Stands (e : Element) (len : ℕ) (text : List ℕ) : Type 0 where
  pub some : 0 < len
  pub within : len ≤ length text
  pub is : IsElement e (take len text) (drop len text)

-- nothing begins at the front of a text, for this reason
abbrev pub IsFaulty : Fault → List ℕ → Type 0
IsFaulty fault.BadByte text = IsBadByte text
IsFaulty fault.BadNumber text = IsBadNumber text
IsFaulty fault.OpenComment text = IsOpenComment text
IsFaulty fault.Memory text = Unit {0}

-- the tokens of an element
abbrev pub tokens_of : Element → Place → List Token
tokens_of element.Space place = []
tokens_of (element.Token kind) place = token_at kind place ∷ []

-- the error of a fault, with its place
abbrev pub IsErrorOf : Fault → Place → LexError → Type 0
IsErrorOf fault.BadByte place error = error ≡ lexed.BadByte place
IsErrorOf fault.BadNumber place error = error ≡ lexed.BadNumber place
IsErrorOf fault.OpenComment place error = error ≡ lexed.OpenComment place
IsErrorOf fault.Memory place error = error ≡ lexed.Memory
