-- The code of expressions: it pushes their value.
use Rattle.std.specs.Prelude.{pos, ◌+◌, true, false, List, [], ◌∷◌, ◌++◌, map, Option, Some}
use Rattle.sdg_base.specs.declared.operator.BinOp.{BinOp}
use Rattle.sdg_base.specs.declared.operator.BinOp.TheVariants as bin
use Rattle.sdg_base.specs.declared.operator.UnOp.{UnOp}
use Rattle.sdg_base.specs.declared.operator.UnOp.TheVariants as un
use Rattle.sdg_base.specs.declared.value_type.ValueType.{ValueType}
use Rattle.sdg_base.specs.declared.value_type.ValueType.TheVariants as type
use Rattle.flat_code.specs.declared.graph.Instr.{Instr}
use Rattle.flat_code.specs.declared.graph.Instr.TheVariants as instr
use Rattle.flat_code.specs.declared.graph.OperandType.{OperandType}
use Rattle.flat_code.specs.declared.graph.OperandType.TheVariants as operand
use Rattle.access_blocks.specs.declared.body.Expression.{Expression}
use Rattle.access_blocks.specs.declared.body.Expression.TheOpen.{Expression-F}
use Rattle.access_blocks.specs.declared.body.Expression.TheOpen as e
use Rattle.access_blocks.specs.declared.body.Expression.TheFolds.{fold-Expression, map-Expression}
use Rattle.body_code.specs.Typing.{Context, type_step}
use Rattle.body_code.specs.Codes.{Code, plain, followed_by, all_of}

-- an expression's type, on which the operator that it stands under rests, and its code
pub record Lowered : Type 0 where
  pub type : Option ValueType
  pub code : Code

abbrev pub operand_of : Option ValueType → OperandType
operand_of (Some type.Long) = operand.Long
operand_of (Some type.Boolean) = operand.Boolean
operand_of _ = operand.Int

abbrev pub behind : Code → Instr → Code
behind a i = followed_by a (plain (i ∷ []))

-- a where the top is true, and else b
abbrev pub either : Code → Code → Code
either a b = record {
  size = a.size + b.size + 2;
  from = λ at. instr.IfFalse (at + a.size + 2) ∷ (a.from (at + 1) ++ (instr.Jump (at + a.size + b.size + 2) ∷ b.from (at + a.size + 2)));
}

-- A unary plus has no code.
abbrev pub unary : UnOp → Code → Code
unary un.Plus a = a
unary op a = behind a (instr.Un op)

abbrev pub binary : BinOp → Lowered → Lowered → Code
binary bin.AndAlso a b = followed_by a.code (either b.code (plain (instr.Bool false ∷ [])))
binary bin.OrElse a b = followed_by a.code (either (plain (instr.Bool true ∷ [])) b.code)
binary op a b = behind (followed_by a.code b.code) (instr.Bin op (operand_of a.type))

abbrev pub code_step : Expression-F Lowered → Code
code_step e.Nothing = plain (instr.Int (pos 0) ∷ [])
code_step (e.Int n) = plain (instr.Int n ∷ [])
code_step (e.Long n) = plain (instr.Long n ∷ [])
code_step (e.Bool b) = plain (instr.Bool b ∷ [])
code_step (e.Variable v) = plain (instr.Load v ∷ [])
code_step e.CarriedKey = plain (instr.Key ∷ [])
code_step (e.Unary op a) = unary op a.code
code_step (e.Binary op a b) = binary op a b
code_step (e.Cast to a) = behind a.code (instr.Cast to)
code_step (e.Conditional test a b) = followed_by test.code (either a.code b.code)
code_step (e.NewVector n) = behind n.code instr.NewVector
code_step (e.VectorSize v) = plain (instr.VectorSize v ∷ [])
code_step (e.VectorElement v at) = behind at.code (instr.VectorGet v)
code_step e.GatheredLength = plain (instr.CollectionLength 0 ∷ [])
code_step (e.Gathered at) = behind at.code (instr.CollectionItem 0)
code_step (e.GatheredSize at) = behind at.code (instr.CollectionSize 0)
code_step (e.GatheredElement at index) = behind (followed_by (behind at.code (instr.CollectionCheck 0)) index.code) (instr.CollectionGet 0)
code_step (e.Call m args) = followed_by (all_of (map (λ a. a.code) args)) (plain (instr.Turn ∷ instr.Call m ∷ []))
code_step (e.Merge m) = plain (instr.Turn ∷ instr.Merge m ∷ [])

abbrev pub lowered_step : Context → Expression-F Lowered → Lowered
lowered_step c layer = record { type = type_step c (map-Expression Lowered (Option ValueType) (λ a. a.type) layer); code = code_step layer }

abbrev pub lowered : Context → Expression → Lowered
lowered c = fold-Expression Lowered (lowered_step c)

abbrev pub code_of : Context → Expression → Code
code_of c x = (lowered c x).code

-- several, one after the other
abbrev pub codes_of : Context → List Expression → Code
codes_of c xs = all_of (map (code_of c) xs)
