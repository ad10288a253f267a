-- What the private functions read, and why a line could not be read.
use Rattle.std.specs.Prelude.{◌≡◌, ◌≢◌, ℕ, ℤ, ◌<◌, List, map, Option, Some, None}
use Rattle.std.specs.Fmt.{signed_decimal}
use Rattle.sdg_base.specs.declared.val.Val.{Val}
use Rattle.run_text.specs.declared.entrance.ValueType.{ValueType}
use Rattle.run_text.specs.declared.entrance.Entrance.{Entrance}
use Rattle.run_text.specs.declared.error.CallRule.{CallRule}
use Rattle.run_text.specs.declared.error.CallRule.TheVariants.{Value}
use Rattle.run_text.specs.declared.error.LineError.{LineError}
use Rattle.run_text.specs.declared.error.LineError.TheVariants as e
use Rattle.run_text.specs.declared.error.TextError.{TextError}
use Rattle.run_text.specs.declared.error.TextError.TheVariants as t
use Rattle.run_text.specs.Values.{Fits, FitVector, value_text, IsNoValue}
use Rattle.run_text.specs.Calls.{HasMisfit, Breaks, number_of}

-- the value of the type that is written so, or none
abbrev pub IsValueOf : ValueType → List ℕ → Option Val → Type 0
IsValueOf type text None = IsNoValue type text
IsValueOf type text (Some value) = Fits type value × (value_text value ≡ text)

-- the elements of a vector that are written so, one by one, or none
abbrev pub AreElements : List (List ℕ) → Option (List ℤ) → Type 0
AreElements texts None = (ns : List ℤ) → FitVector ns → map signed_decimal ns ≢ texts
AreElements texts (Some ns) = FitVector ns × (map signed_decimal ns ≡ texts)

-- the arguments were refused because one of them is no value of its parameter's type
abbrev pub IsMisfit : List ValueType → List (List ℕ) → LineError → Type 0
IsMisfit parameters args e.Memory = Unit {0}
IsMisfit parameters args (e.Breaks Value) = HasMisfit parameters args
IsMisfit parameters args (e.Breaks _) = ⊥

-- the line, before which there are so many calls, was refused by the least of the rules that it breaks
abbrev pub IsLeastBreak : List Entrance → ℕ → List ℕ → LineError → Type 0
IsLeastBreak entrances before line e.Memory = Unit {0}
IsLeastBreak entrances before line (e.Breaks rule) = Breaks entrances before line rule × ((other : CallRule) → number_of other < number_of rule → ¬ Breaks entrances before line other)

-- the error of a text whose line of this number can't be read
abbrev pub error_at : ℕ → LineError → TextError
error_at line e.Memory = t.Memory
error_at line (e.Breaks rule) = t.Bad line (number_of rule)
