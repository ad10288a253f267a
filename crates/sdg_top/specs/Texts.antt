-- Lines of words, and the texts that stand in them, as bytes.
use Rattle.std.specs.Prelude.{ℕ, ◌/◌, ◌%◌, true, false, List, [], ◌∷◌, ◌++◌, map, codes}
use Rattle.std.specs.Fmt.{digit_glyph, signed_decimal}
use Rattle.std.specs.List.{flat_map, join_with_byte}
use Rattle.placement.specs.declared.Word.{Word}
use Rattle.placement.specs.declared.Word.TheVariants as word
use Rattle.sdg_base.specs.declared.val.Exn.{Exn}
use Rattle.sdg_base.specs.declared.val.Exn.TheVariants as exn
use Rattle.sdg_base.specs.declared.val.Outcome.{Outcome}
use Rattle.sdg_base.specs.declared.val.Outcome.TheVariants as outcome
use Rattle.sdg_base.specs.declared.val.Val.{Val}
use Rattle.sdg_base.specs.declared.val.Val.TheVariants as val

-- the words with a space between each two, and a line feed after the last
abbrev pub line : List (List ℕ) → List ℕ
line [] = codes "\n"
line (last ∷ []) = last ++ codes "\n"
line (first ∷ next ∷ rest) = first ++ (codes " " ++ line (next ∷ rest))

-- each byte as two hexadecimal digits in lower case, the upper half first
abbrev pub hexadecimal : List ℕ → List ℕ
hexadecimal bytes = flat_map (λ byte. digit_glyph false (byte / 16) ∷ digit_glyph false (byte % 16) ∷ []) bytes

-- what an event answered
unfoldable pub word_text : Word → List ℕ
word_text word.Done = codes "done"
word_text word.Replayed = codes "replayed"
word_text word.Absent = codes "absent"
word_text word.Down = codes "down"
word_text word.Held = codes "held"
word_text word.Empty = codes "empty"
word_text word.Fault = codes "fault"
word_text word.Repeat = codes "repeat"
word_text word.Open = codes "open"
word_text word.Full = codes "full"
word_text word.Closed = codes "closed"
word_text word.Up = codes "up"
word_text (word.Damaged stated found) = codes "damaged " ++ hexadecimal stated ++ codes " " ++ hexadecimal found
word_text word.Malformed = codes "malformed"

-- a value: numbers in decimal, a vector as its elements with commas between them in brackets
unfoldable pub value_text : Val → List ℕ
value_text (val.Int number) = signed_decimal number
value_text (val.Long number) = signed_decimal number
value_text (val.Bool true) = codes "true"
value_text (val.Bool false) = codes "false"
value_text (val.Vector elements) = codes "[" ++ join_with_byte 44 (map signed_decimal elements) ++ codes "]"
value_text val.Unit = codes "void"

-- the simple name of an exception's class
abbrev pub exception_text : Exn → List ℕ
exception_text exn.Arithmetic = codes "ArithmeticException"
exception_text exn.Index = codes "ArrayIndexOutOfBoundsException"
exception_text exn.NegativeSize = codes "NegativeArraySizeException"

-- how a call ended
unfoldable pub outcome_text : Outcome → List ℕ
outcome_text (outcome.Value value) = value_text value
outcome_text (outcome.Throws exception) = codes "throws " ++ exception_text exception
outcome_text outcome.Limit = codes "limit"
