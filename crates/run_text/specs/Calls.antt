-- A text of calls: which lines are calls, and which rules a line can break.
use Rattle.std.specs.Prelude.{◌≡◌, ◌≢◌, ℕ, ◌+◌, ◌^◌, ◌<◌, ◌≤◌, false, List, ◌∷◌, length, take, drop, map, All, Some, slice_get}
use Rattle.std.specs.List.{AllZip, join_with_byte}
use Rattle.sdg_base.specs.declared.val.Val.{Val}
use Rattle.sdg_base.specs.declared.call.Call.{Call}
use Rattle.run_text.specs.declared.entrance.ValueType.{ValueType}
use Rattle.run_text.specs.declared.entrance.Entrance.{Entrance}
use Rattle.run_text.specs.declared.error.CallRule.{CallRule}
use Rattle.run_text.specs.declared.error.CallRule.TheVariants.{Spelling, Method, Count, Value, Limit}
use Rattle.run_text.specs.declared.error.TextError.{TextError}
use Rattle.run_text.specs.declared.error.TextError.TheVariants as t
use Rattle.run_text.specs.Lines.{is_skipped, said_lines, words, IsWellSpelled}
use Rattle.run_text.specs.Values.{Fits, value_text, IsNoValue}

-- The entry method stands at this place, and is the first of its name: in a class no two have one name, and where two had, the first would count.
pub record IsMethod (entrances : List Entrance) (place : ℕ) (entrance : Entrance) : Type 0 where
  pub entry : slice_get entrances place ≡ Some entrance
  pub first : All (λ other. other.name ≢ entrance.name) (take place entrances)

-- ---- Calls

-- The method of a call is the number of an entry method, and the arguments have its parameters' types, one for one.
pub record CallFits (entrances : List Entrance) (call : Call) : Type 0 where
  pub place : ℕ
  pub entrance : Entrance
  pub method : slice_get entrances place ≡ Some entrance
  pub number : call.method ≡ entrance.number
  pub args : AllZip Fits entrance.parameters call.args

-- a call as words: the method's name, and each argument
abbrev pub call_words : Entrance → List Val → List (List ℕ)
call_words entrance args = entrance.name ∷ map value_text args

-- a call as a line: its words, with a space between each two
abbrev pub call_text : Entrance → List Val → List ℕ
call_text entrance args = join_with_byte 32 (call_words entrance args)

-- the line is this call's
pub record IsCall (entrances : List Entrance) (line : List ℕ) (call : Call) : Type 0 where
  pub spelled : IsWellSpelled line
  pub fits : CallFits entrances call
  pub method : IsMethod entrances fits.place fits.entrance
  pub words : words line ≡ call_words fits.entrance call.args

-- the line is how this call is written
pub record IsWritten (entrances : List Entrance) (line : List ℕ) (call : Call) : Type 0 where
  pub place : ℕ
  pub entrance : Entrance
  pub method : slice_get entrances place ≡ Some entrance
  pub number : call.method ≡ entrance.number
  pub text : line ≡ call_text entrance call.args

-- The calls of the lines: in order, those of each line that isn't skipped.
pub record AreCalls (entrances : List Entrance) (ls : List (List ℕ)) (calls : List Call) : Type 0 where
  pub each : AllZip (IsCall entrances) (said_lines ls) calls
  pub few : length calls ≤ 2 ^ 16

-- ---- Rules

-- the number of a rule in a report
abbrev pub number_of : CallRule → ℕ
number_of Spelling = 1
number_of Method = 2
number_of Count = 3
number_of Value = 4
number_of Limit = 5

-- the method that the first word of a line names
pub record IsNamed (entrances : List Entrance) (line : List ℕ) (entrance : Entrance) : Type 0 where
  pub place : ℕ
  pub method : IsMethod entrances place entrance
  pub name : slice_get (words line) 0 ≡ Some entrance.name

-- a word that is no value of its parameter's type
pub record HasMisfit (parameters : List ValueType) (args : List (List ℕ)) : Type 0 where
  pub place : ℕ
  pub parameter : ValueType
  pub arg : List ℕ
  pub at_parameter : slice_get parameters place ≡ Some parameter
  pub at_arg : slice_get args place ≡ Some arg
  pub no_value : IsNoValue parameter arg

-- a line before which there are so many calls breaks a rule
abbrev pub Breaks : List Entrance → ℕ → List ℕ → CallRule → Type 0
Breaks entrances before line Spelling = ¬ IsWellSpelled line
Breaks entrances before line Method = All (λ entrance. slice_get (words line) 0 ≢ Some entrance.name) entrances
Breaks entrances before line Count = (entrance : Entrance) × IsNamed entrances line entrance × (length (words line) ≢ length entrance.parameters + 1)
Breaks entrances before line Value = (entrance : Entrance) × IsNamed entrances line entrance × HasMisfit entrance.parameters (drop 1 (words line))
Breaks entrances before line Limit = 2 ^ 16 ≤ before

-- The line at this place, from 0, breaks a rule. Skipped lines break none.
pub record BreaksAt (entrances : List Entrance) (ls : List (List ℕ)) (place : ℕ) (rule : CallRule) : Type 0 where
  pub line : List ℕ
  pub here : slice_get ls place ≡ Some line
  pub said : is_skipped line ≡ false
  pub broken : Breaks entrances (length (said_lines (take place ls))) line rule

-- The first line that breaks a rule has this number, from 1, and the least rule that it breaks has this number.
pub record IsFirstBreak (entrances : List Entrance) (ls : List (List ℕ)) (number rule : ℕ) : Type 0 where
  pub place : ℕ
  pub which : CallRule
  pub number_is : number ≡ place + 1
  pub rule_is : rule ≡ number_of which
  pub broken : BreaksAt entrances ls place which
  pub least : (other : CallRule) → number_of other < rule → ¬ BreaksAt entrances ls place other
  pub first : (earlier : ℕ) (other : CallRule) → earlier < place → ¬ BreaksAt entrances ls earlier other

-- a text was refused by the first line that breaks a rule
abbrev pub IsRefusal : List Entrance → List (List ℕ) → TextError → Type 0
IsRefusal entrances ls t.Memory = Unit {0}
IsRefusal entrances ls (t.Bad line rule) = IsFirstBreak entrances ls line rule
