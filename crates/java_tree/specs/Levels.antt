-- How tightly the binary operators hold their operands (JLS 15.17 to 15.24): the loosest first.
use Rattle.std.specs.Prelude.{ℕ}
use Rattle.sdg_base.specs.declared.operator.BinOp.{BinOp}
use Rattle.sdg_base.specs.declared.operator.BinOp.TheVariants as bin

abbrev pub operator_level : BinOp → ℕ
operator_level bin.OrElse = 1
operator_level bin.AndAlso = 2
operator_level bin.Or = 3
operator_level bin.Xor = 4
operator_level bin.And = 5
operator_level bin.Eq = 6
operator_level bin.Ne = 6
operator_level bin.Lt = 7
operator_level bin.Le = 7
operator_level bin.Gt = 7
operator_level bin.Ge = 7
operator_level bin.Shl = 8
operator_level bin.Shr = 8
operator_level bin.UShr = 8
operator_level bin.Add = 9
operator_level bin.Sub = 9
operator_level bin.Mul = 10
operator_level bin.Div = 10
operator_level bin.Rem = 10

-- below and above them: a conditional, an operator or a cast before its operand, and what needs no parentheses
abbrev pub conditional_level : ℕ
conditional_level = 0

abbrev pub unary_level : ℕ
unary_level = 11

abbrev pub primary_level : ℕ
primary_level = 12
