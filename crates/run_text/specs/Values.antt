-- The values that a caller can give, and how they are written.
use Rattle.std.specs.Prelude.{◌≢◌, ℕ, ℤ, ◌≤◌, true, false, List, [], ◌++◌, length, map, codes, All, FitsSigned}
use Rattle.std.specs.Int.{w32, w64}
use Rattle.std.specs.Fmt.{signed_decimal}
use Rattle.std.specs.List.{join_with_byte}
use Rattle.sdg_base.specs.declared.val.Val.{Val}
use Rattle.sdg_base.specs.declared.val.Val.TheVariants as v
use Rattle.run_text.specs.declared.entrance.ValueType.{ValueType}
use Rattle.run_text.specs.declared.entrance.ValueType.TheVariants as t

-- the elements of a vector: at most 4,096, each in the range of a long
abbrev pub FitVector : List ℤ → Type 0
FitVector ns = (length ns ≤ 4096) × All (FitsSigned w64) ns

-- a value of a type
abbrev pub Fits : ValueType → Val → Type 0
Fits t.Int (v.Int n) = FitsSigned w32 n
Fits t.Long (v.Long n) = FitsSigned w64 n
Fits t.Boolean (v.Bool b) = Unit {0}
Fits t.Vector (v.Vector ns) = FitVector ns
Fits _ _ = ⊥

-- How a value is written. Numbers are decimal, with no zero in front and no plus.
abbrev pub value_text : Val → List ℕ
value_text (v.Int n) = signed_decimal n
value_text (v.Long n) = signed_decimal n
value_text (v.Bool true) = codes "true"
value_text (v.Bool false) = codes "false"
value_text (v.Vector ns) = codes "[" ++ join_with_byte 44 (map signed_decimal ns) ++ codes "]"
value_text v.Unit = []

-- no value of the type is written so
abbrev pub IsNoValue : ValueType → List ℕ → Type 0
IsNoValue type text = (value : Val) → Fits type value → value_text value ≢ text
