-- Which operands have values, of which types; and arguments on a stack.
use Rattle.std.proofs.Common.{◌≡◌, refl, sym, ap, subst, ◌∙◌, ℕ, zero, suc, cond, List, [], ◌∷◌, ◌++◌, length, Option, Some, None, unwrap_or}
use Rattle.sdg_base.specs.declared.operator.BinOp.{BinOp}
use Rattle.sdg_base.specs.declared.operator.BinOp.TheVariants as bin
use Rattle.sdg_base.specs.declared.operator.UnOp.{UnOp}
use Rattle.sdg_base.specs.declared.operator.UnOp.TheVariants as un
use Rattle.sdg_base.specs.declared.val.Val.{Val}
use Rattle.sdg_base.specs.declared.val.Val.TheVariants as val
use Rattle.sdg_base.specs.declared.value_type.ValueType.{ValueType}
use Rattle.sdg_base.specs.declared.value_type.ValueType.TheVariants as type
use Rattle.sdg_base.specs.Operations.{operation, unary_operation}
use Rattle.sdg_base.specs.Types.{type_of, binary_type, unary_type, arithmetic_type, shift_type, order_type, equality_type, bitwise_type, condition_type, number_type, boolean_type}
use Rattle.java_tree.specs.declared.types.ValueType.{ValueType as VariableType}
use Rattle.java_tree.specs.declared.types.ValueType.TheVariants as variable
use Rattle.flat_code.specs.declared.graph.OperandType.{OperandType}
use Rattle.flat_code.specs.Types.{operand_type, right_type, same_type}
use Rattle.flat_code.specs.Machine.{arguments, with_last, pushed_result, a_value, operated}
use Rattle.body_code.specs.Typing.{Context, type_by, one_type, variable_type, variable_type_in}
use Rattle.body_code.specs.ExpressionCode.{operand_of}
use Rattle.code_meaning.specs.Evaluating.{IsValue}
use Rattle.code_meaning.proofs.Lists.{none_some, some_is}
use Rattle.code_meaning.proofs.Values.{is_same}

-- ---- values on a stack

pub on_stack : (t : ValueType) (v : Val) (stack : List Val) → IsValue t → type_of v ≡ t → pushed_result v stack ≡ v ∷ stack
on_stack t (val.Int n) stack h e = refl
on_stack t (val.Long n) stack h e = refl
on_stack t (val.Bool b) stack h e = refl
on_stack t (val.Vector longs) stack h e = refl
on_stack t val.Unit stack h e = absurd (subst IsValue (sym e) h)

pub a_value_is : (t : ValueType) (v : Val) → IsValue t → type_of v ≡ t → a_value (Some v) ≡ Some v
a_value_is t (val.Int n) h e = refl
a_value_is t (val.Long n) h e = refl
a_value_is t (val.Bool b) h e = refl
a_value_is t (val.Vector longs) h e = refl
a_value_is t val.Unit h e = absurd (subst IsValue (sym e) h)

pub variable_value : (t : VariableType) → IsValue (type_by t)
variable_value variable.Int = tt
variable_value variable.Long = tt
variable_value variable.Boolean = tt
variable_value variable.Vector = tt

one_value : (o : Option VariableType) (t : ValueType) → one_type o ≡ Some t → IsValue t
one_value None t e = absurd (none_some t e)
one_value (Some v) t e = subst IsValue (some_is (type_by v) t e) (variable_value v)

in_value : (members : Option ValueType) (variables : List VariableType) (v : ℕ) (t : ValueType) → variable_type_in members variables v ≡ Some t → IsValue t
in_value None variables v t e = one_value _ t e
in_value (Some m) variables zero t e = absurd (none_some t e)
in_value (Some m) variables (suc v) t e = one_value _ t e

pub variable_has_value : (c : Context) (v : ℕ) (t : ValueType) → variable_type c v ≡ Some t → IsValue t
variable_has_value c v t e = in_value c.members c.variables v t e

-- ---- operands

number_values : (s t : ValueType) → number_type s ≡ Some t → IsValue s × IsValue t
number_values type.Int t e = (tt, subst IsValue (some_is type.Int t e) tt)
number_values type.Long t e = (tt, subst IsValue (some_is type.Long t e) tt)
number_values _ t e = absurd (none_some t e)

boolean_values : (s t : ValueType) → boolean_type s ≡ Some t → IsValue s × IsValue t
boolean_values type.Boolean t e = (tt, subst IsValue (some_is type.Boolean t e) tt)
boolean_values _ t e = absurd (none_some t e)

pub unary_values : (op : UnOp) (s t : ValueType) → unary_type op s ≡ Some t → IsValue s × IsValue t
unary_values un.Plus s t e = number_values s t e
unary_values un.Minus s t e = number_values s t e
unary_values un.Complement s t e = number_values s t e
unary_values un.Not s t e = boolean_values s t e

-- A plus leaves a number as it is.
pub plus_same : (v : Val) (t : ValueType) → number_type (type_of v) ≡ Some t → unwrap_or (unary_operation un.Plus v) val.Unit ≡ v
plus_same (val.Int n) t e = refl
plus_same (val.Long n) t e = refl
plus_same _ t e = absurd (none_some t e)

pub plus_type : (s t : ValueType) → number_type s ≡ Some t → s ≡ t
plus_type type.Int t e = some_is type.Int t e
plus_type type.Long t e = some_is type.Long t e
plus_type _ t e = absurd (none_some t e)

-- what the operands of an operator are, and its result
pub record AreTaken (right : OperandType → ValueType) (s u t : ValueType) : Type 0 where
  pub left : IsValue s
  pub second : IsValue u
  pub result : IsValue t
  pub operand : operand_type (operand_of (Some s)) ≡ s
  pub other : right (operand_of (Some s)) ≡ u

arithmetic_taken : (s u t : ValueType) → arithmetic_type s u ≡ Some t → AreTaken operand_type s u t
arithmetic_taken type.Int type.Int t e = record { left = tt; second = tt; result = subst IsValue (some_is type.Int t e) tt; operand = refl; other = refl }
arithmetic_taken type.Long type.Long t e = record { left = tt; second = tt; result = subst IsValue (some_is type.Long t e) tt; operand = refl; other = refl }
arithmetic_taken _ _ t e = absurd (none_some t e)

shift_taken : (s u t : ValueType) → shift_type s u ≡ Some t → AreTaken (λ o. type.Int) s u t
shift_taken type.Int type.Int t e = record { left = tt; second = tt; result = subst IsValue (some_is type.Int t e) tt; operand = refl; other = refl }
shift_taken type.Long type.Int t e = record { left = tt; second = tt; result = subst IsValue (some_is type.Long t e) tt; operand = refl; other = refl }
shift_taken _ _ t e = absurd (none_some t e)

order_taken : (s u t : ValueType) → order_type s u ≡ Some t → AreTaken operand_type s u t
order_taken type.Int type.Int t e = record { left = tt; second = tt; result = subst IsValue (some_is type.Boolean t e) tt; operand = refl; other = refl }
order_taken type.Long type.Long t e = record { left = tt; second = tt; result = subst IsValue (some_is type.Boolean t e) tt; operand = refl; other = refl }
order_taken _ _ t e = absurd (none_some t e)

equality_taken : (s u t : ValueType) → equality_type s u ≡ Some t → AreTaken operand_type s u t
equality_taken type.Boolean type.Boolean t e = record { left = tt; second = tt; result = subst IsValue (some_is type.Boolean t e) tt; operand = refl; other = refl }
equality_taken s u t e = order_taken s u t e

bitwise_taken : (s u t : ValueType) → bitwise_type s u ≡ Some t → AreTaken operand_type s u t
bitwise_taken type.Boolean type.Boolean t e = record { left = tt; second = tt; result = subst IsValue (some_is type.Boolean t e) tt; operand = refl; other = refl }
bitwise_taken s u t e = arithmetic_taken s u t e

pub condition_taken : (s u t : ValueType) → condition_type s u ≡ Some t → (s ≡ type.Boolean) × (u ≡ type.Boolean) × (t ≡ type.Boolean)
condition_taken type.Boolean type.Boolean t e = (refl, refl, sym (some_is type.Boolean t e))
condition_taken _ _ t e = absurd (none_some t e)

boolean_taken : (s u t : ValueType) → condition_type s u ≡ Some t → AreTaken operand_type s u t
boolean_taken type.Boolean type.Boolean t e = record { left = tt; second = tt; result = subst IsValue (some_is type.Boolean t e) tt; operand = refl; other = refl }
boolean_taken _ _ t e = absurd (none_some t e)

pub binary_taken : (op : BinOp) (s u t : ValueType) → binary_type op s u ≡ Some t → AreTaken (right_type op) s u t
binary_taken bin.Mul s u t e = arithmetic_taken s u t e
binary_taken bin.Div s u t e = arithmetic_taken s u t e
binary_taken bin.Rem s u t e = arithmetic_taken s u t e
binary_taken bin.Add s u t e = arithmetic_taken s u t e
binary_taken bin.Sub s u t e = arithmetic_taken s u t e
binary_taken bin.Shl s u t e = shift_taken s u t e
binary_taken bin.Shr s u t e = shift_taken s u t e
binary_taken bin.UShr s u t e = shift_taken s u t e
binary_taken bin.Lt s u t e = order_taken s u t e
binary_taken bin.Le s u t e = order_taken s u t e
binary_taken bin.Gt s u t e = order_taken s u t e
binary_taken bin.Ge s u t e = order_taken s u t e
binary_taken bin.Eq s u t e = equality_taken s u t e
binary_taken bin.Ne s u t e = equality_taken s u t e
binary_taken bin.And s u t e = bitwise_taken s u t e
binary_taken bin.Xor s u t e = bitwise_taken s u t e
binary_taken bin.Or s u t e = bitwise_taken s u t e
binary_taken bin.AndAlso s u t e = boolean_taken s u t e
binary_taken bin.OrElse s u t e = boolean_taken s u t e

-- On such operands the instruction works as the operator.
pub operated_is : (op : BinOp) (s u t : ValueType) (a b : Val) → AreTaken (right_type op) s u t → type_of a ≡ s → type_of b ≡ u
    → operated op (operand_of (Some s)) a b ≡ operation op a b
operated_is op s u t a b k ha hb =
    ap (λ z. cond z (cond (same_type (type_of b) (right_type op (operand_of (Some s)))) (operation op a b) None) None) (is_same (type_of a) (operand_type (operand_of (Some s))) (ha ∙ sym k.operand))
    ∙ ap (λ z. cond z (operation op a b) None) (is_same (type_of b) (right_type op (operand_of (Some s))) (hb ∙ sym k.other))

-- ---- arguments

abbrev pub pushed_all : List Val → List Val → List Val
pushed_all [] stack = stack
pushed_all (v ∷ vs) stack = pushed_all vs (v ∷ stack)

abbrev pub two : List Val → List Val → List Val × List Val
two a b = (a, b)

pair_parts : (a b c d : List Val) → Some (two a b) ≡ Some (two c d) → (a ≡ c) × (b ≡ d)
pair_parts a b c d e = let h = some_is (two a b) (two c d) e in (ap {B = List Val} (λ (p : List Val × List Val). p.0) h, ap {B = List Val} (λ (p : List Val × List Val). p.1) h)

last_more : (v y : Val) (xs left : List Val) (o p : Option (List Val × List Val))
    → ((ys : List Val) → o ≡ Some (two ys (y ∷ left)) → p ≡ Some (two (y ∷ ys) left))
    → with_last v o ≡ Some (two xs (y ∷ left)) → with_last v p ≡ Some (two (y ∷ xs) left)
last_more v y xs left None p h e = absurd (none_some (two xs (y ∷ left)) e)
last_more v y xs left (Some taken) p h e =
    let parts = pair_parts (taken.0 ++ v ∷ []) taken.1 xs (y ∷ left) e in
    let rest : Some taken ≡ Some (two taken.0 (y ∷ left)) = ap (λ (l : List Val). Some (two taken.0 l)) parts.1 in
    ap (λ (q : Option (List Val × List Val)). with_last v q) (h taken.0 rest) ∙ ap (λ (l : List Val). Some (two (y ∷ l) left)) parts.0

arguments_more : (n : ℕ) (stack xs : List Val) (y : Val) (left : List Val) → arguments n stack ≡ Some (two xs (y ∷ left)) → arguments (suc n) stack ≡ Some (two (y ∷ xs) left)
arguments_more zero [] xs y left e = let h = (pair_parts [] [] xs (y ∷ left) e).1 in absurd (cc)
arguments_more zero (v ∷ stack) xs y left e =
    let parts = pair_parts [] (v ∷ stack) xs (y ∷ left) e in
    let h : v ≡ y = let k = parts.1 in cc in
    let l : stack ≡ left = let k = parts.1 in cc in
    ap (λ (x : Val). Some (two (x ∷ []) stack)) h ∙ ap (λ (r : List Val). Some (two (y ∷ []) r)) l ∙ ap (λ (r : List Val). Some (two (y ∷ r) left)) parts.0
arguments_more (suc n) [] xs y left e = absurd (none_some (two xs (y ∷ left)) e)
arguments_more (suc n) (v ∷ stack) xs y left e = last_more v y xs left (arguments n stack) (arguments (suc n) stack) (λ ys. arguments_more n stack ys y left) e

pub arguments_are : (vs stack : List Val) → arguments (length vs) (pushed_all vs stack) ≡ Some (two vs stack)
arguments_are [] stack = refl
arguments_are (v ∷ vs) stack = arguments_more (length vs) (pushed_all vs (v ∷ stack)) vs v stack (arguments_are vs (v ∷ stack))
