-- What one part of the code of an expression adds.
use Rattle.std.specs.Prelude.{◌≡◌, ◌+◌, List, [], ◌∷◌, ◌++◌, length, Option, Some, None}
use Rattle.sdg_base.specs.declared.value_type.ValueType.{ValueType}
use Rattle.flat_code.specs.declared.graph.Instr.{Instr}
use Rattle.body_code.specs.Codes.{Code}

-- The new instructions are the old ones, and behind them the code.
pub record Pushes (c : Code) (old new : List Instr) : Type 0 where
  pub is : new ≡ old ++ c.from (length old)
  pub long : length new ≡ length old + c.size

-- one type more, where all have one
abbrev pub snoc_type : Option (List ValueType) → Option ValueType → Option (List ValueType)
snoc_type (Some ts) (Some t) = Some (ts ++ t ∷ [])
snoc_type _ _ = None
