-- Conversions and operators give what the rules on types say.
use Rattle.std.proofs.Common.{◌≡◌, ℕ, ℤ, Bool, true, false, not, List, Option, Some, if◌then◌else◌, slice_get, refl, sym, ap, subst, ◌∙◌}
use Rattle.sdg_base.specs.declared.operator.BinOp.{BinOp}
use Rattle.sdg_base.specs.declared.operator.BinOp.TheVariants as bin
use Rattle.sdg_base.specs.declared.operator.UnOp.{UnOp}
use Rattle.sdg_base.specs.declared.operator.UnOp.TheVariants as un
use Rattle.sdg_base.specs.declared.val.Num.{Num}
use Rattle.sdg_base.specs.declared.val.Num.TheVariants as num
use Rattle.sdg_base.specs.declared.value_type.ValueType.{ValueType as SignatureType}
use Rattle.sdg_base.specs.declared.value_type.ValueType.TheVariants as type
use Rattle.sdg_base.specs.Types.{binary_type, unary_type, arithmetic_type, shift_type, order_type, equality_type, bitwise_type, condition_type}
use Rattle.java_tree.specs.declared.types.ValueType.{ValueType}
use Rattle.java_tree.specs.declared.types.ValueType.TheVariants as value
use Rattle.java_tree.specs.declared.types.ExprType.{ExprType}
use Rattle.java_tree.specs.declared.types.ExprType.TheVariants.{Unknown, Value, State}
use Rattle.access_blocks.specs.declared.body.Expression.{Expression}
use Rattle.access_blocks.specs.declared.body.Expression.{roll-Expression}
use Rattle.access_blocks.specs.declared.body.Expression.TheOpen.{Expression-F}
use Rattle.access_blocks.specs.declared.body.Expression.TheOpen as e
use Rattle.access_blocks.specs.declared.body.Expression.TheFolds.{fold-roll-Expression, map-Expression}
use Rattle.access_blocks.specs.declared.body.Expression.TheVariants as x
use Rattle.access_blocks.specs.Resolving.{converted_to, promoted, operated, chosen_between, negated, number_type, wanted_by}
use Rattle.access_blocks.specs.declared.resolved.Resolved.{Resolved}
use Rattle.java_types.specs.declared.fits.Sort.{Sort}
use Rattle.java_types.specs.declared.fits.Sort.TheVariants as sort
use Rattle.java_types.specs.Fits.{fits, sort_of, is_operand, are_vectors_compared, misfits_behind, given_by, takes, may_be_number, type_of_num}
use Rattle.body_code.specs.Typing.{Context, type_by, type_of, type_step, types_of, variable_type, of_one, of_two, alike, cast_type, chosen_type, where_type, and_then, called_type, merged_type}
use Rattle.typed_bodies.specs.Reading.{IsOfType}

from_layer : (c : Context) (layer : Expression-F Expression) {a : Expression} → roll-Expression layer ≡ a
    → type_of c a ≡ type_step c (map-Expression Expression (Option SignatureType) (type_of c) layer)
from_layer c layer rolled = ap (type_of c) (sym rolled) ∙ fold-roll-Expression (Option SignatureType) (type_step c) layer

pub int_is : (c : Context) (n : ℤ) → type_of c (x.Int n) ≡ Some type.Int
int_is c n = from_layer c (e.Int n) (x.rolls-Int n)

pub long_is : (c : Context) (n : ℤ) → type_of c (x.Long n) ≡ Some type.Long
long_is c n = from_layer c (e.Long n) (x.rolls-Long n)

pub bool_is : (c : Context) (b : Bool) → type_of c (x.Bool b) ≡ Some type.Boolean
bool_is c b = from_layer c (e.Bool b) (x.rolls-Bool b)

pub variable_is : (c : Context) (v : ℕ) → type_of c (x.Variable v) ≡ variable_type c v
variable_is c v = from_layer c (e.Variable v) (x.rolls-Variable v)

pub unary_is : (c : Context) (op : UnOp) (a : Expression) → type_of c (x.Unary op a) ≡ of_one (unary_type op) (type_of c a)
unary_is c op a = from_layer c (e.Unary op a) (x.rolls-Unary op a)

pub binary_is : (c : Context) (op : BinOp) (a b : Expression) → type_of c (x.Binary op a b) ≡ of_two (binary_type op) (type_of c a) (type_of c b)
binary_is c op a b = from_layer c (e.Binary op a b) (x.rolls-Binary op a b)

pub cast_is : (c : Context) (to : Num) (a : Expression) → type_of c (x.Cast to a) ≡ cast_type to (type_of c a)
cast_is c to a = from_layer c (e.Cast to a) (x.rolls-Cast to a)

pub conditional_is : (c : Context) (test a b : Expression) → type_of c (x.Conditional test a b) ≡ chosen_type (type_of c test) (type_of c a) (type_of c b)
conditional_is c test a b = from_layer c (e.Conditional test a b) (x.rolls-Conditional test a b)

pub new_vector_is : (c : Context) (n : Expression) → type_of c (x.NewVector n) ≡ where_type (type_of c n) type.Int type.Vector
new_vector_is c n = from_layer c (e.NewVector n) (x.rolls-NewVector n)

pub vector_size_is : (c : Context) (v : ℕ) → type_of c (x.VectorSize v) ≡ where_type (variable_type c v) type.Vector type.Int
vector_size_is c v = from_layer c (e.VectorSize v) (x.rolls-VectorSize v)

pub vector_element_is : (c : Context) (v : ℕ) (at : Expression) → type_of c (x.VectorElement v at) ≡ and_then (where_type (variable_type c v) type.Vector type.Long) (where_type (type_of c at) type.Int type.Long)
vector_element_is c v at = from_layer c (e.VectorElement v at) (x.rolls-VectorElement v at)

pub gathered_length_is : (c : Context) → type_of c x.GatheredLength ≡ and_then c.members (Some type.Int)
gathered_length_is c = from_layer c e.GatheredLength x.rolls-GatheredLength

pub gathered_is : (c : Context) (at : Expression) → type_of c (x.Gathered at) ≡ and_then (where_type (type_of c at) type.Int type.Int) c.members
gathered_is c at = from_layer c (e.Gathered at) (x.rolls-Gathered at)

pub gathered_size_is : (c : Context) (at : Expression) → type_of c (x.GatheredSize at) ≡ and_then (where_type (type_of c at) type.Int type.Int) (where_type c.members type.Vector type.Int)
gathered_size_is c at = from_layer c (e.GatheredSize at) (x.rolls-GatheredSize at)

pub gathered_element_is : (c : Context) (at index : Expression) → type_of c (x.GatheredElement at index) ≡ and_then (where_type (type_of c at) type.Int type.Int) (and_then (where_type c.members type.Vector type.Long) (where_type (type_of c index) type.Int type.Long))
gathered_element_is c at index = from_layer c (e.GatheredElement at index) (x.rolls-GatheredElement at index)

pub call_is : (c : Context) (m : ℕ) (args : List Expression) → type_of c (x.Call m args) ≡ called_type (slice_get c.methods m) (types_of c args)
call_is c m args = from_layer c (e.Call m args) (x.rolls-Call m args)

pub merge_is : (c : Context) (m : ℕ) → type_of c (x.Merge m) ≡ merged_type (slice_get c.methods m)
merge_is c m = from_layer c (e.Merge m) (x.rolls-Merge m)

-- ---- conversions

pub taken_typed : (c : Context) (wanted : ValueType) (found : ExprType) (a : Expression) → IsOfType c found a → fits (Value wanted) found ≡ true
    → IsOfType c (Value wanted) (converted_to (Value wanted) found a)
taken_typed c value.Int (Value value.Int) a typed fit = typed
taken_typed c value.Long (Value value.Long) a typed fit = typed
taken_typed c value.Long (Value value.Int) a typed fit = cast_is c num.Long a ∙ ap (cast_type num.Long) typed
taken_typed c value.Boolean (Value value.Boolean) a typed fit = typed
taken_typed c value.Vector (Value value.Vector) a typed fit = typed
taken_typed c wanted Unknown a typed fit = absurd typed
taken_typed c wanted (State class) a typed fit = absurd typed
taken_typed c wanted found a typed fit = absurd (cc)

-- ---- operators

abbrev sort_type : Sort → SignatureType → SignatureType → Option SignatureType
sort_type sort.Arithmetic s t = arithmetic_type s t
sort_type sort.Shift s t = shift_type s t
sort_type sort.Comparison s t = order_type s t
sort_type sort.Equality s t = equality_type s t
sort_type sort.Bitwise s t = bitwise_type s t
sort_type sort.Logical s t = condition_type s t

abbrev is_shift_sort : Sort → Bool
is_shift_sort sort.Shift = true
is_shift_sort _ = false

sort_is : (op : BinOp) (s t : SignatureType) → binary_type op s t ≡ sort_type (sort_of op) s t
sort_is bin.Mul s t = refl
sort_is bin.Div s t = refl
sort_is bin.Rem s t = refl
sort_is bin.Add s t = refl
sort_is bin.Sub s t = refl
sort_is bin.Shl s t = refl
sort_is bin.Shr s t = refl
sort_is bin.UShr s t = refl
sort_is bin.Lt s t = refl
sort_is bin.Le s t = refl
sort_is bin.Gt s t = refl
sort_is bin.Ge s t = refl
sort_is bin.Eq s t = refl
sort_is bin.Ne s t = refl
sort_is bin.And s t = refl
sort_is bin.Xor s t = refl
sort_is bin.Or s t = refl
sort_is bin.AndAlso s t = refl
sort_is bin.OrElse s t = refl

abbrev left : Sort → ExprType → ExprType → Expression → Expression
left sort.Shift found other a = a
left _ found other a = converted_to (promoted found other) found a

abbrev right : Sort → ExprType → ExprType → Expression → Expression
right sort.Shift other found b = converted_to (Value value.Int) found b
right _ other found b = converted_to (promoted other found) found b

operated_is : (op : BinOp) (a b : Resolved) → operated op a b ≡ x.Binary op (left (sort_of op) a.found b.found a.expression) (right (sort_of op) a.found b.found b.expression)
operated_is bin.Mul a b = refl
operated_is bin.Div a b = refl
operated_is bin.Rem a b = refl
operated_is bin.Add a b = refl
operated_is bin.Sub a b = refl
operated_is bin.Shl a b = refl
operated_is bin.Shr a b = refl
operated_is bin.UShr a b = refl
operated_is bin.Lt a b = refl
operated_is bin.Le a b = refl
operated_is bin.Gt a b = refl
operated_is bin.Ge a b = refl
operated_is bin.Eq a b = refl
operated_is bin.Ne a b = refl
operated_is bin.And a b = refl
operated_is bin.Xor a b = refl
operated_is bin.Or a b = refl
operated_is bin.AndAlso a b = refl
operated_is bin.OrElse a b = refl

-- the types of two operands, converted, and of what a sort of operators gives of them
record Operands (c : Context) (s : Sort) (given : ExprType) (a b : Expression) : Type 0 where
  first : SignatureType
  second : SignatureType
  result : ValueType
  of_first : type_of c a ≡ Some first
  of_second : type_of c b ≡ Some second
  gives : sort_type s first second ≡ Some (type_by result)
  is : given ≡ Value result

longer : (c : Context) (a : Expression) → type_of c a ≡ Some type.Int → type_of c (x.Cast num.Long a) ≡ Some type.Long
longer c a typed = cast_is c num.Long a ∙ ap (cast_type num.Long) typed

shorter : (c : Context) (a : Expression) → type_of c a ≡ Some type.Long → type_of c (x.Cast num.Int a) ≡ Some type.Int
shorter c a typed = cast_is c num.Int a ∙ ap (cast_type num.Int) typed

operands : (c : Context) (s : Sort) (found other : ExprType) (a b : Expression) → IsOfType c found a → IsOfType c other b
    → are_vectors_compared s found other ≡ false → not (is_operand s found) ≡ false → misfits_behind s found other ≡ false
    → Operands c s (given_by s found other) (left s found other a) (right s found other b)
operands c sort.Arithmetic (Value value.Int) (Value value.Int) a b p q vectors one two = record { first = type.Int; second = type.Int; result = value.Int; of_first = p; of_second = q; gives = refl; is = refl }
operands c sort.Arithmetic (Value value.Int) (Value value.Long) a b p q vectors one two = record { first = type.Long; second = type.Long; result = value.Long; of_first = longer c a p; of_second = q; gives = refl; is = refl }
operands c sort.Arithmetic (Value value.Long) (Value value.Int) a b p q vectors one two = record { first = type.Long; second = type.Long; result = value.Long; of_first = p; of_second = longer c b q; gives = refl; is = refl }
operands c sort.Arithmetic (Value value.Long) (Value value.Long) a b p q vectors one two = record { first = type.Long; second = type.Long; result = value.Long; of_first = p; of_second = q; gives = refl; is = refl }
operands c sort.Comparison (Value value.Int) (Value value.Int) a b p q vectors one two = record { first = type.Int; second = type.Int; result = value.Boolean; of_first = p; of_second = q; gives = refl; is = refl }
operands c sort.Comparison (Value value.Int) (Value value.Long) a b p q vectors one two = record { first = type.Long; second = type.Long; result = value.Boolean; of_first = longer c a p; of_second = q; gives = refl; is = refl }
operands c sort.Comparison (Value value.Long) (Value value.Int) a b p q vectors one two = record { first = type.Long; second = type.Long; result = value.Boolean; of_first = p; of_second = longer c b q; gives = refl; is = refl }
operands c sort.Comparison (Value value.Long) (Value value.Long) a b p q vectors one two = record { first = type.Long; second = type.Long; result = value.Boolean; of_first = p; of_second = q; gives = refl; is = refl }
operands c sort.Equality (Value value.Int) (Value value.Int) a b p q vectors one two = record { first = type.Int; second = type.Int; result = value.Boolean; of_first = p; of_second = q; gives = refl; is = refl }
operands c sort.Equality (Value value.Int) (Value value.Long) a b p q vectors one two = record { first = type.Long; second = type.Long; result = value.Boolean; of_first = longer c a p; of_second = q; gives = refl; is = refl }
operands c sort.Equality (Value value.Long) (Value value.Int) a b p q vectors one two = record { first = type.Long; second = type.Long; result = value.Boolean; of_first = p; of_second = longer c b q; gives = refl; is = refl }
operands c sort.Equality (Value value.Long) (Value value.Long) a b p q vectors one two = record { first = type.Long; second = type.Long; result = value.Boolean; of_first = p; of_second = q; gives = refl; is = refl }
operands c sort.Bitwise (Value value.Int) (Value value.Int) a b p q vectors one two = record { first = type.Int; second = type.Int; result = value.Int; of_first = p; of_second = q; gives = refl; is = refl }
operands c sort.Bitwise (Value value.Int) (Value value.Long) a b p q vectors one two = record { first = type.Long; second = type.Long; result = value.Long; of_first = longer c a p; of_second = q; gives = refl; is = refl }
operands c sort.Bitwise (Value value.Long) (Value value.Int) a b p q vectors one two = record { first = type.Long; second = type.Long; result = value.Long; of_first = p; of_second = longer c b q; gives = refl; is = refl }
operands c sort.Bitwise (Value value.Long) (Value value.Long) a b p q vectors one two = record { first = type.Long; second = type.Long; result = value.Long; of_first = p; of_second = q; gives = refl; is = refl }
operands c sort.Shift (Value value.Int) (Value value.Int) a b p q vectors one two = record { first = type.Int; second = type.Int; result = value.Int; of_first = p; of_second = q; gives = refl; is = refl }
operands c sort.Shift (Value value.Int) (Value value.Long) a b p q vectors one two = record { first = type.Int; second = type.Int; result = value.Int; of_first = p; of_second = shorter c b q; gives = refl; is = refl }
operands c sort.Shift (Value value.Long) (Value value.Int) a b p q vectors one two = record { first = type.Long; second = type.Int; result = value.Long; of_first = p; of_second = q; gives = refl; is = refl }
operands c sort.Shift (Value value.Long) (Value value.Long) a b p q vectors one two = record { first = type.Long; second = type.Int; result = value.Long; of_first = p; of_second = shorter c b q; gives = refl; is = refl }
operands c sort.Equality (Value value.Boolean) (Value value.Boolean) a b p q vectors one two = record { first = type.Boolean; second = type.Boolean; result = value.Boolean; of_first = p; of_second = q; gives = refl; is = refl }
operands c sort.Bitwise (Value value.Boolean) (Value value.Boolean) a b p q vectors one two = record { first = type.Boolean; second = type.Boolean; result = value.Boolean; of_first = p; of_second = q; gives = refl; is = refl }
operands c sort.Logical (Value value.Boolean) (Value value.Boolean) a b p q vectors one two = record { first = type.Boolean; second = type.Boolean; result = value.Boolean; of_first = p; of_second = q; gives = refl; is = refl }
operands c s Unknown other a b p q vectors one two = absurd p
operands c s (State class) other a b p q vectors one two = absurd p
operands c s found Unknown a b p q vectors one two = absurd q
operands c s found (State class) a b p q vectors one two = absurd q
operands c s found other a b p q vectors one two = absurd (cc)

binary_typed : (c : Context) (op : BinOp) {given : ExprType} (a b : Expression) → Operands c (sort_of op) given a b → IsOfType c given (x.Binary op a b)
binary_typed c op a b o =
    let is : type_of c (x.Binary op a b) ≡ Some (type_by o.result) =
    binary_is c op a b ∙ (ap (λ s. of_two (binary_type op) s (type_of c b)) o.of_first ∙ (ap (λ t. of_two (binary_type op) (Some o.first) t) o.of_second ∙ (sort_is op o.first o.second ∙ o.gives))) in
    subst (λ (t : ExprType). IsOfType c t (x.Binary op a b)) (sym o.is) is

-- What an operator gives is of the type that the rules say.
pub operated_typed : (c : Context) (op : BinOp) (a b : Resolved) → IsOfType c a.found a.expression → IsOfType c b.found b.expression
    → are_vectors_compared (sort_of op) a.found b.found ≡ false → not (is_operand (sort_of op) a.found) ≡ false → misfits_behind (sort_of op) a.found b.found ≡ false
    → IsOfType c (given_by (sort_of op) a.found b.found) (operated op a b)
operated_typed c op a b p q vectors one two =
    let o = operands c (sort_of op) a.found b.found a.expression b.expression p q vectors one two in
    subst (λ (y : Expression). IsOfType c (given_by (sort_of op) a.found b.found) y) (sym (operated_is op a b)) (binary_typed c op _ _ o)

alike_too : (s t : SignatureType) {r : SignatureType} → bitwise_type s t ≡ Some r → alike s t ≡ Some r
alike_too type.Int type.Int e = e
alike_too type.Long type.Long e = e
alike_too type.Boolean type.Boolean e = e
alike_too s t e = absurd (cc)

-- one of two
pub chosen_typed : (c : Context) (test a b : Resolved) → type_of c test.expression ≡ Some type.Boolean → IsOfType c a.found a.expression → IsOfType c b.found b.expression
    → not (is_operand sort.Equality a.found) ≡ false → misfits_behind sort.Equality a.found b.found ≡ false
    → IsOfType c (given_by sort.Bitwise a.found b.found) (chosen_between (given_by sort.Bitwise a.found b.found) test a b)
chosen_typed c test a b holds p q one two =
    let o = operands c sort.Bitwise a.found b.found a.expression b.expression p q refl one two in
    let t = given_by sort.Bitwise a.found b.found in
    let first = left sort.Bitwise a.found b.found a.expression in
    let second = right sort.Bitwise a.found b.found b.expression in
    let is : type_of c (x.Conditional test.expression first second) ≡ Some (type_by o.result) =
    conditional_is c test.expression first second
    ∙ (ap (λ s. chosen_type s (type_of c first) (type_of c second)) holds
    ∙ (ap (λ s. of_two alike s (type_of c second)) o.of_first ∙ (ap (λ s. of_two alike (Some o.first) s) o.of_second ∙ alike_too o.first o.second o.gives))) in
    subst (λ (u : ExprType). IsOfType c u (x.Conditional test.expression first second)) (sym o.is) is

-- ---- one operand

by_operator : (c : Context) (op : UnOp) (found : ExprType) (a : Expression) → IsOfType c found a → not (takes op found) ≡ false → IsOfType c found (x.Unary op a)
by_operator c un.Plus (Value value.Int) a p fit = unary_is c un.Plus a ∙ ap (of_one (unary_type un.Plus)) p
by_operator c un.Plus (Value value.Long) a p fit = unary_is c un.Plus a ∙ ap (of_one (unary_type un.Plus)) p
by_operator c un.Minus (Value value.Int) a p fit = unary_is c un.Minus a ∙ ap (of_one (unary_type un.Minus)) p
by_operator c un.Minus (Value value.Long) a p fit = unary_is c un.Minus a ∙ ap (of_one (unary_type un.Minus)) p
by_operator c un.Complement (Value value.Int) a p fit = unary_is c un.Complement a ∙ ap (of_one (unary_type un.Complement)) p
by_operator c un.Complement (Value value.Long) a p fit = unary_is c un.Complement a ∙ ap (of_one (unary_type un.Complement)) p
by_operator c un.Not (Value value.Boolean) a p fit = unary_is c un.Not a ∙ ap (of_one (unary_type un.Not)) p
by_operator c op Unknown a p fit = absurd p
by_operator c op (State class) a p fit = absurd p
by_operator c op found a p fit = absurd (cc)

either : (c : Context) (b : Bool) (found : ExprType) (a a' : Expression) → IsOfType c found a → IsOfType c found a' → IsOfType c found (if b then a else a')
either c true found a a' p q = p
either c false found a a' p q = q

pub negated_typed : (c : Context) (op : UnOp) (a : Resolved) → IsOfType c a.found a.expression → not (takes op a.found) ≡ false → IsOfType c a.found (negated op a)
negated_typed c un.Plus a p fit = p
negated_typed c un.Minus a p fit = either c a.is_minimum a.found a.expression _ p (by_operator c un.Minus a.found a.expression p fit)
negated_typed c un.Complement a p fit = by_operator c un.Complement a.found a.expression p fit
negated_typed c un.Not a p fit = by_operator c un.Not a.found a.expression p fit

pub cast_typed : (c : Context) (to : Num) (found : ExprType) (a : Expression) → IsOfType c found a → not (may_be_number found) ≡ false
    → IsOfType c (type_of_num to) (converted_to (number_type to) found a)
cast_typed c num.Int (Value value.Int) a p fit = p
cast_typed c num.Int (Value value.Long) a p fit = shorter c a p
cast_typed c num.Long (Value value.Int) a p fit = longer c a p
cast_typed c num.Long (Value value.Long) a p fit = p
cast_typed c to Unknown a p fit = absurd p
cast_typed c to (State class) a p fit = absurd p
cast_typed c to found a p fit = absurd (cc)

-- ---- what is passed for a parameter

pub passed_typed : (c : Context) (wanted : SignatureType) (found : ExprType) (a : Expression) → IsOfType c found a → fits (wanted_by wanted) found ≡ true
    → type_of c (converted_to (wanted_by wanted) found a) ≡ Some wanted
passed_typed c type.Int found a p fit = taken_typed c value.Int found a p fit
passed_typed c type.Long found a p fit = taken_typed c value.Long found a p fit
passed_typed c type.Boolean found a p fit = taken_typed c value.Boolean found a p fit
passed_typed c type.Vector found a p fit = taken_typed c value.Vector found a p fit
passed_typed c type.Void Unknown a p fit = absurd p
passed_typed c type.Void found a p fit = absurd (cc)

-- a value of the type of a signature
pub as_signed : (c : Context) (t : SignatureType) (a : Expression) → type_of c a ≡ Some t → IsOfType c (wanted_by t) a
as_signed c type.Int a p = p
as_signed c type.Long a p = p
as_signed c type.Boolean a p = p
as_signed c type.Vector a p = p
as_signed c type.Void a p = p
