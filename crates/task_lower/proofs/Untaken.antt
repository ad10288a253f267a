-- Operators answer nothing on operands that they do not take.
use Rattle.std.proofs.Common.{◌≡◌, Bool, ℕ, ℤ, None, Result, arith}
use Rattle.std.proofs.lemmas.Grind.{common_steps}
use Rattle.sdg_base.specs.declared.val.Val.{Val}
use Rattle.sdg_base.specs.declared.val.Exn.{Exn}
use Rattle.sdg_base.specs.declared.val.Num.{Num}
use Rattle.sdg_base.specs.declared.operator.BinOp.{BinOp}
use Rattle.sdg_base.specs.declared.operator.BinOp.TheVariants as bin
use Rattle.sdg_base.specs.Types.{type_of, binary_type, arithmetic_type, shift_type, order_type, equality_type, bitwise_type, condition_type}
use Rattle.sdg_base.specs.Operations.{operation, on_numbers, on_shift, on_booleans, on_alike}

numbers : (f : Num → ℤ → ℤ → Result Val Exn) (a b : Val) → arithmetic_type (type_of a) (type_of b) ≡ None → on_numbers f a b ≡ None
numbers f a b h = grind (arith, common_steps)

orders : (f : Num → ℤ → ℤ → Result Val Exn) (a b : Val) → order_type (type_of a) (type_of b) ≡ None → on_numbers f a b ≡ None
orders f a b h = grind (arith, common_steps)

shifts : (f : Num → ℤ → ℕ → ℤ) (a b : Val) → shift_type (type_of a) (type_of b) ≡ None → on_shift f a b ≡ None
shifts f a b h = grind (arith, common_steps)

booleans : (f : Bool → Bool → Bool) (a b : Val) → condition_type (type_of a) (type_of b) ≡ None → on_booleans f a b ≡ None
booleans f a b h = grind (arith, common_steps)

equals : (f : Num → ℤ → ℤ → Result Val Exn) (g : Bool → Bool → Bool) (a b : Val) → equality_type (type_of a) (type_of b) ≡ None → on_alike f g a b ≡ None
equals f g a b h = grind (arith, common_steps)

bitwise : (f : Num → ℤ → ℤ → Result Val Exn) (g : Bool → Bool → Bool) (a b : Val) → bitwise_type (type_of a) (type_of b) ≡ None → on_alike f g a b ≡ None
bitwise f g a b h = grind (arith, common_steps)

pub untaken : (op : BinOp) (a b : Val) → binary_type op (type_of a) (type_of b) ≡ None → operation op a b ≡ None
untaken bin.Mul a b h = search (numbers, h)
untaken bin.Div a b h = search (numbers, h)
untaken bin.Rem a b h = search (numbers, h)
untaken bin.Add a b h = search (numbers, h)
untaken bin.Sub a b h = search (numbers, h)
untaken bin.Shl a b h = search (shifts, h)
untaken bin.Shr a b h = search (shifts, h)
untaken bin.UShr a b h = search (shifts, h)
untaken bin.Lt a b h = search (orders, h)
untaken bin.Le a b h = search (orders, h)
untaken bin.Gt a b h = search (orders, h)
untaken bin.Ge a b h = search (orders, h)
untaken bin.Eq a b h = search (equals, h)
untaken bin.Ne a b h = search (equals, h)
untaken bin.And a b h = search (bitwise, h)
untaken bin.Xor a b h = search (bitwise, h)
untaken bin.Or a b h = search (bitwise, h)
untaken bin.AndAlso a b h = search (booleans, h)
untaken bin.OrElse a b h = search (booleans, h)
