-- What is resolved of the parts of constant expressions.
use Rattle.std.proofs.Common.{◌≡◌, ℤ, Bool, true, false, Option, Some, None, Ok, Err, if◌then◌else◌, refl, sym, ap, ap₂, subst, ◌∙◌}
use Rattle.sdg_base.specs.declared.operator.BinOp.{BinOp}
use Rattle.sdg_base.specs.declared.operator.BinOp.TheVariants as bin
use Rattle.sdg_base.specs.declared.operator.UnOp.{UnOp}
use Rattle.sdg_base.specs.declared.val.Num.{Num}
use Rattle.sdg_base.specs.declared.val.Num.TheVariants as num
use Rattle.sdg_base.specs.declared.val.Val.{Val}
use Rattle.sdg_base.specs.declared.val.Val.TheVariants as val
use Rattle.sdg_base.specs.Operations.{operation, unary_operation, converted}
use Rattle.java_tree.specs.declared.types.ValueType.TheVariants.{Int, Long, Boolean, Vector}
use Rattle.java_tree.specs.declared.types.ExprType.{ExprType}
use Rattle.java_tree.specs.declared.types.ExprType.TheVariants.{Unknown, Void, Value, Collection, State}
use Rattle.java_types.specs.Fits.{promoted}
use Rattle.java_flow.specs.Constants.{beside, distance_of, promoted_operation, binary_constant, of_both}
use Rattle.java_flow.specs.Constants as flow
use Rattle.access_blocks.specs.declared.body.Expression.{Expression, roll-Expression}
use Rattle.access_blocks.specs.declared.body.Expression.TheVariants as x
use Rattle.access_blocks.specs.declared.body.Expression.TheOpen.{Expression-F}
use Rattle.access_blocks.specs.declared.body.Expression.TheOpen as e
use Rattle.access_blocks.specs.declared.body.Expression.TheFolds.{fold-roll-Expression, map-Expression}
use Rattle.access_blocks.specs.declared.resolved.Resolved.{Resolved}
use Rattle.access_blocks.specs.Resolving.{converted_to, taken}
use Rattle.access_blocks.specs.Resolving as resolving
use Rattle.body_code.specs.Completing.{Constant, HasNoValue, Is, answered, on_one, on_two, chosen, operated, constant_step, constant_of}
use Rattle.resolved_constants.specs.Constants.{type_of_value, constant_by, constant_from, IsOfFound}
use Rattle.resolved_constants.proofs.Promoted.{as_wanted, first_promoted, second_promoted, distance_is}
use Rattle.resolved_constants.proofs.Values.{Answer, is_lazy}

-- ---- each form

pub from_layer : (layer : Expression-F Expression) {a : Expression} → roll-Expression layer ≡ a → constant_of a ≡ constant_step (map-Expression Expression Constant constant_of layer)
from_layer layer rolled = ap constant_of (sym rolled) ∙ fold-roll-Expression Constant constant_step layer

pub int_is : (n : ℤ) → constant_of (x.Int n) ≡ Is (val.Int n)
int_is n = from_layer (e.Int n) (x.rolls-Int n)

pub long_is : (n : ℤ) → constant_of (x.Long n) ≡ Is (val.Long n)
long_is n = from_layer (e.Long n) (x.rolls-Long n)

pub bool_is : (b : Bool) → constant_of (x.Bool b) ≡ Is (val.Bool b)
bool_is b = from_layer (e.Bool b) (x.rolls-Bool b)

pub unary_is : (op : UnOp) (a : Expression) → constant_of (x.Unary op a) ≡ on_one (unary_operation op) (constant_of a)
unary_is op a = from_layer (e.Unary op a) (x.rolls-Unary op a)

pub binary_is : (op : BinOp) (a b : Expression) → constant_of (x.Binary op a b) ≡ operated op (constant_of a) (constant_of b)
binary_is op a b = from_layer (e.Binary op a b) (x.rolls-Binary op a b)

pub cast_is : (to : Num) (a : Expression) → constant_of (x.Cast to a) ≡ on_one (converted to) (constant_of a)
cast_is to a = from_layer (e.Cast to a) (x.rolls-Cast to a)

pub conditional_is : (test a b : Expression) → constant_of (x.Conditional test a b) ≡ chosen (constant_of test) (constant_of a) (constant_of b)
conditional_is test a b = from_layer (e.Conditional test a b) (x.rolls-Conditional test a b)

-- ---- conversions

abbrev pub all_wanted : ExprType → Option Val → Option Val
all_wanted wanted None = None
all_wanted wanted (Some v) = Some (as_wanted wanted v)

value_taken : (wanted : ExprType) (v : Val) (a : Expression) → constant_of a ≡ Is v → constant_of (converted_to wanted (type_of_value v) a) ≡ Is (as_wanted wanted v)
value_taken Unknown (val.Int n) a h = h
value_taken Unknown (val.Long n) a h = h
value_taken Unknown (val.Bool b) a h = h
value_taken Unknown (val.Vector ns) a h = h
value_taken Unknown val.Unit a h = h
value_taken Void (val.Int n) a h = h
value_taken Void (val.Long n) a h = h
value_taken Void (val.Bool b) a h = h
value_taken Void (val.Vector ns) a h = h
value_taken Void val.Unit a h = h
value_taken (Value Int) (val.Int n) a h = h
value_taken (Value Int) (val.Long n) a h = cast_is num.Int a ∙ ap (on_one (converted num.Int)) h
value_taken (Value Int) (val.Bool b) a h = h
value_taken (Value Int) (val.Vector ns) a h = h
value_taken (Value Int) val.Unit a h = h
value_taken (Value Long) (val.Int n) a h = cast_is num.Long a ∙ ap (on_one (converted num.Long)) h
value_taken (Value Long) (val.Long n) a h = h
value_taken (Value Long) (val.Bool b) a h = h
value_taken (Value Long) (val.Vector ns) a h = h
value_taken (Value Long) val.Unit a h = h
value_taken (Value Boolean) (val.Int n) a h = h
value_taken (Value Boolean) (val.Long n) a h = h
value_taken (Value Boolean) (val.Bool b) a h = h
value_taken (Value Boolean) (val.Vector ns) a h = h
value_taken (Value Boolean) val.Unit a h = h
value_taken (Value Vector) (val.Int n) a h = h
value_taken (Value Vector) (val.Long n) a h = h
value_taken (Value Vector) (val.Bool b) a h = h
value_taken (Value Vector) (val.Vector ns) a h = h
value_taken (Value Vector) val.Unit a h = h
value_taken (Collection t) (val.Int n) a h = h
value_taken (Collection t) (val.Long n) a h = h
value_taken (Collection t) (val.Bool b) a h = h
value_taken (Collection t) (val.Vector ns) a h = h
value_taken (Collection t) val.Unit a h = h
value_taken (State c) (val.Int n) a h = h
value_taken (State c) (val.Long n) a h = h
value_taken (State c) (val.Bool b) a h = h
value_taken (State c) (val.Vector ns) a h = h
value_taken (State c) val.Unit a h = h

-- what no conversion changes
pub unmoved_taken : (c : Constant) → ((to : Num) → on_one (converted to) c ≡ c) → (wanted found : ExprType) (a : Expression) → constant_of a ≡ c → constant_of (converted_to wanted found a) ≡ c
unmoved_taken c still Unknown found a h = h
unmoved_taken c still Void found a h = h
unmoved_taken c still (Value Int) Unknown a h = h
unmoved_taken c still (Value Int) Void a h = h
unmoved_taken c still (Value Int) (Value Int) a h = h
unmoved_taken c still (Value Int) (Value Long) a h = cast_is num.Int a ∙ (ap (on_one (converted num.Int)) h ∙ still num.Int)
unmoved_taken c still (Value Int) (Value Boolean) a h = h
unmoved_taken c still (Value Int) (Value Vector) a h = h
unmoved_taken c still (Value Int) (Collection t) a h = h
unmoved_taken c still (Value Int) (State class) a h = h
unmoved_taken c still (Value Long) Unknown a h = h
unmoved_taken c still (Value Long) Void a h = h
unmoved_taken c still (Value Long) (Value Int) a h = cast_is num.Long a ∙ (ap (on_one (converted num.Long)) h ∙ still num.Long)
unmoved_taken c still (Value Long) (Value Long) a h = h
unmoved_taken c still (Value Long) (Value Boolean) a h = h
unmoved_taken c still (Value Long) (Value Vector) a h = h
unmoved_taken c still (Value Long) (Collection t) a h = h
unmoved_taken c still (Value Long) (State class) a h = h
unmoved_taken c still (Value Boolean) found a h = h
unmoved_taken c still (Value Vector) found a h = h
unmoved_taken c still (Collection t) found a h = h
unmoved_taken c still (State class) found a h = h

pub constant_taken : (wanted found : ExprType) (k : Option Val) (a : Expression) → IsOfFound found k → constant_of a ≡ constant_by k → constant_of (converted_to wanted found a) ≡ constant_by (all_wanted wanted k)
constant_taken wanted found None a of h = unmoved_taken HasNoValue (λ to. refl) wanted found a h
constant_taken wanted found (Some v) a of h = subst (λ t. constant_of (converted_to wanted t a) ≡ Is (as_wanted wanted v)) (sym of) (value_taken wanted v a h)

-- ---- two operands

operated_strictly : (op : BinOp) → is_lazy op ≡ false → (a b : Constant) → operated op a b ≡ on_two op a b
operated_strictly bin.Mul h a b = refl
operated_strictly bin.Div h a b = refl
operated_strictly bin.Rem h a b = refl
operated_strictly bin.Add h a b = refl
operated_strictly bin.Sub h a b = refl
operated_strictly bin.Shl h a b = refl
operated_strictly bin.Shr h a b = refl
operated_strictly bin.UShr h a b = refl
operated_strictly bin.Lt h a b = refl
operated_strictly bin.Le h a b = refl
operated_strictly bin.Gt h a b = refl
operated_strictly bin.Ge h a b = refl
operated_strictly bin.Eq h a b = refl
operated_strictly bin.Ne h a b = refl
operated_strictly bin.And h a b = refl
operated_strictly bin.Xor h a b = refl
operated_strictly bin.Or h a b = refl
operated_strictly bin.AndAlso h a b = absurd (cc)
operated_strictly bin.OrElse h a b = absurd (cc)

pub flow_strictly : (op : BinOp) → is_lazy op ≡ false → (a b : flow.Constant) → binary_constant op a b ≡ of_both op a b
flow_strictly bin.Mul h a b = refl
flow_strictly bin.Div h a b = refl
flow_strictly bin.Rem h a b = refl
flow_strictly bin.Add h a b = refl
flow_strictly bin.Sub h a b = refl
flow_strictly bin.Shl h a b = refl
flow_strictly bin.Shr h a b = refl
flow_strictly bin.UShr h a b = refl
flow_strictly bin.Lt h a b = refl
flow_strictly bin.Le h a b = refl
flow_strictly bin.Gt h a b = refl
flow_strictly bin.Ge h a b = refl
flow_strictly bin.Eq h a b = refl
flow_strictly bin.Ne h a b = refl
flow_strictly bin.And h a b = refl
flow_strictly bin.Xor h a b = refl
flow_strictly bin.Or h a b = refl
flow_strictly bin.AndAlso h a b = absurd (cc)
flow_strictly bin.OrElse h a b = absurd (cc)

shift_same : (op : BinOp) → flow.is_shift op ≡ resolving.is_shift op
shift_same bin.Mul = refl
shift_same bin.Div = refl
shift_same bin.Rem = refl
shift_same bin.Add = refl
shift_same bin.Sub = refl
shift_same bin.Shl = refl
shift_same bin.Shr = refl
shift_same bin.UShr = refl
shift_same bin.Lt = refl
shift_same bin.Le = refl
shift_same bin.Gt = refl
shift_same bin.Ge = refl
shift_same bin.Eq = refl
shift_same bin.Ne = refl
shift_same bin.And = refl
shift_same bin.Xor = refl
shift_same bin.Or = refl
shift_same bin.AndAlso = refl
shift_same bin.OrElse = refl

answer_is : (o : Answer) → answered o ≡ constant_from (flow.answered o)
answer_is None = refl
answer_is (Some (Ok v)) = refl
answer_is (Some (Err x)) = refl

pub answered_value : (o : Answer) (v : Val) → flow.answered o ≡ Some (Some v) → o ≡ Some (Ok v)
answered_value None v h = absurd (cc)
answered_value (Some (Ok u)) v h = cc
answered_value (Some (Err x)) v h = absurd (cc)

-- what stands for the operands, by whether the operator shifts
abbrev first_by : Bool → ExprType → Option Val → Option Val
first_by true t a = a
first_by false t a = all_wanted t a

abbrev second_by : Bool → ExprType → Option Val → Option Val
second_by true t b = all_wanted (Value Int) b
second_by false t b = all_wanted t b

operands_are : (s : Bool) (op : BinOp) (a b : Resolved) (ka kb : Option Val) → IsOfFound a.found ka → IsOfFound b.found kb → constant_of a.expression ≡ constant_by ka → constant_of b.expression ≡ constant_by kb
    → constant_of (if s then x.Binary op a.expression (taken (Value Int) b) else x.Binary op (taken (resolving.promoted a.found b.found) a) (taken (resolving.promoted a.found b.found) b))
    ≡ operated op (constant_by (first_by s (resolving.promoted a.found b.found) ka)) (constant_by (second_by s (resolving.promoted a.found b.found) kb))
operands_are true op a b ka kb fa fb ha hb = binary_is op a.expression (taken (Value Int) b) ∙ ap₂ (λ l r. operated op l r) ha (constant_taken (Value Int) b.found kb b.expression fb hb)
operands_are false op a b ka kb fa fb ha hb =
    let t = resolving.promoted a.found b.found in
    binary_is op (taken t a) (taken t b) ∙ ap₂ (λ l r. operated op l r) (constant_taken t a.found ka a.expression fa ha) (constant_taken t b.found kb b.expression fb hb)

shifted_or_not : (s : Bool) (op : BinOp) (va vb : Val)
    → on_two op (constant_by (first_by s (promoted (type_of_value va) (type_of_value vb)) (Some va))) (constant_by (second_by s (promoted (type_of_value va) (type_of_value vb)) (Some vb)))
    ≡ answered (if s then operation op va (distance_of vb) else flow.of_one_type op (beside vb va) vb)
shifted_or_not true op va vb = ap (λ d. answered (operation op va d)) (distance_is vb)
shifted_or_not false op va vb = ap₂ (λ a b. answered (operation op a b)) (first_promoted va vb) (second_promoted va vb)

-- no value on one side
no_first : (s : Bool) (t : ExprType) (op : BinOp) (kb : Option Val) → on_two op (constant_by (first_by s t None)) (constant_by (second_by s t kb)) ≡ HasNoValue
no_first true t op None = refl
no_first true t op (Some v) = refl
no_first false t op None = refl
no_first false t op (Some v) = refl

no_second : (s : Bool) (t : ExprType) (op : BinOp) (va : Val) → on_two op (constant_by (first_by s t (Some va))) (constant_by (second_by s t None)) ≡ HasNoValue
no_second true t op va = refl
no_second false t op va = refl

both_given : (op : BinOp) (ta tb : ExprType) (ka kb : Option Val) → IsOfFound ta ka → IsOfFound tb kb
    → on_two op (constant_by (first_by (flow.is_shift op) (promoted ta tb) ka)) (constant_by (second_by (flow.is_shift op) (promoted ta tb) kb)) ≡ constant_from (of_both op (Some ka) (Some kb))
both_given op ta tb None kb fa fb = no_first (flow.is_shift op) (promoted ta tb) op kb
both_given op ta tb (Some va) None fa fb = no_second (flow.is_shift op) (promoted ta tb) op va
both_given op ta tb (Some va) (Some vb) fa fb =
    ap₂ (λ s t. on_two op (constant_by (first_by (flow.is_shift op) (promoted s t) (Some va))) (constant_by (second_by (flow.is_shift op) (promoted s t) (Some vb)))) fa fb
    ∙ (shifted_or_not (flow.is_shift op) op va vb ∙ answer_is (promoted_operation op va vb))

-- Operators that evaluate both operands give what the rules on flow say.
pub strict_constant : (op : BinOp) → is_lazy op ≡ false → (a b : Resolved) (ka kb : Option Val) → IsOfFound a.found ka → IsOfFound b.found kb → constant_of a.expression ≡ constant_by ka
    → constant_of b.expression ≡ constant_by kb → constant_of (resolving.operated op a b) ≡ constant_from (binary_constant op (Some ka) (Some kb))
strict_constant op strict a b ka kb fa fb ha hb =
    let t = promoted a.found b.found in
    let there = λ (s : Bool). operated op (constant_by (first_by s t ka)) (constant_by (second_by s t kb)) in
    operands_are (resolving.is_shift op) op a b ka kb fa fb ha hb
    ∙ (ap there (sym (shift_same op))
    ∙ (operated_strictly op strict (constant_by (first_by (flow.is_shift op) t ka)) (constant_by (second_by (flow.is_shift op) t kb))
    ∙ (both_given op a.found b.found ka kb fa fb ∙ ap constant_from (sym (flow_strictly op strict (Some ka) (Some kb))))))
