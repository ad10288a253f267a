-- What is resolved of one operand of a constant expression, where it has its value.
use Rattle.std.proofs.Common.{◌≡◌, Bool, true, false, Option, Some, None, if◌then◌else◌, refl, sym, ap, subst, ◌∙◌}
use Rattle.sdg_base.specs.declared.operator.UnOp.{UnOp}
use Rattle.sdg_base.specs.declared.operator.UnOp.TheVariants as un
use Rattle.sdg_base.specs.declared.val.Num.{Num}
use Rattle.sdg_base.specs.declared.val.Num.TheVariants as num
use Rattle.sdg_base.specs.declared.val.Val.{Val}
use Rattle.sdg_base.specs.declared.val.Val.TheVariants as val
use Rattle.sdg_base.specs.Operations.{unary_operation}
use Rattle.java_tree.specs.declared.types.ExprType.{ExprType}
use Rattle.java_types.specs.Fits.{is_long, may_be_number, takes, type_of_num}
use Rattle.java_flow.specs.Constants.{binary_constant, binary_is_long, unary_constant, cast_constant, conditional_constant, long_if, is_long_number, of_and, of_or, of_both, promoted_operation}
use Rattle.java_flow.specs.Constants as flow
use Rattle.access_blocks.specs.declared.body.Expression.{Expression}
use Rattle.access_blocks.specs.declared.body.Expression.TheVariants as x
use Rattle.access_blocks.specs.declared.resolved.Resolved.{Resolved}
use Rattle.access_blocks.specs.Resolving.{resolved, converted_to, taken}
use Rattle.access_blocks.specs.Resolving as resolving
use Rattle.body_code.specs.Completing as code
use Rattle.body_code.specs.Completing.{Constant, HasNoValue, Is, on_one, chosen, operated, constant_of}
use Rattle.resolved_constants.specs.Constants.{is_simple, constant_by, constant_from, IsOfFound, IsOwnNegative, HasConstant}
use Rattle.resolved_constants.proofs.Operands.{unary_is, all_wanted, constant_taken}

the_same : {A : Type 0} {x y : A} → Some x ≡ Some y → x ≡ y
the_same e = cc

pub cast_gives : (to : Num) (k c : Option Val) → cast_constant to (Some k) ≡ Some c → all_wanted (resolving.number_type to) k ≡ c
cast_gives to None None h = refl
cast_gives to None (Some v) h = absurd (cc)
cast_gives num.Int (Some (val.Int n)) c h = the_same h
cast_gives num.Int (Some (val.Long n)) c h = the_same h
cast_gives num.Int (Some (val.Bool b)) c h = absurd (cc)
cast_gives num.Int (Some (val.Vector ns)) c h = absurd (cc)
cast_gives num.Int (Some val.Unit) c h = absurd (cc)
cast_gives num.Long (Some (val.Int n)) c h = the_same h
cast_gives num.Long (Some (val.Long n)) c h = the_same h
cast_gives num.Long (Some (val.Bool b)) c h = absurd (cc)
cast_gives num.Long (Some (val.Vector ns)) c h = absurd (cc)
cast_gives num.Long (Some val.Unit) c h = absurd (cc)

pub cast_of : (to : Num) (k c : Option Val) → cast_constant to (Some k) ≡ Some c → IsOfFound (type_of_num to) c
cast_of to k None h = tt
cast_of to None (Some v) h = absurd (cc)
cast_of num.Int (Some (val.Int n)) (Some v) h = cc
cast_of num.Int (Some (val.Long n)) (Some v) h = cc
cast_of num.Int (Some (val.Bool b)) (Some v) h = absurd (cc)
cast_of num.Int (Some (val.Vector ns)) (Some v) h = absurd (cc)
cast_of num.Int (Some val.Unit) (Some v) h = absurd (cc)
cast_of num.Long (Some (val.Int n)) (Some v) h = cc
cast_of num.Long (Some (val.Long n)) (Some v) h = cc
cast_of num.Long (Some (val.Bool b)) (Some v) h = absurd (cc)
cast_of num.Long (Some (val.Vector ns)) (Some v) h = absurd (cc)
cast_of num.Long (Some val.Unit) (Some v) h = absurd (cc)

num_simple : (to : Num) → is_simple (type_of_num to) ≡ true
num_simple num.Int = refl
num_simple num.Long = refl

num_long : (to : Num) → is_long_number to ≡ is_long (type_of_num to)
num_long num.Int = refl
num_long num.Long = refl

pub cast_has : (to : Num) (fa : ExprType) (la : Bool) (ka k : Option Val) (a : Resolved) → a.found ≡ fa → HasConstant fa la ka a → cast_constant to (Some ka) ≡ Some k
    → HasConstant (type_of_num to) (is_long_number to) k (resolved (taken (resolving.number_type to) a) (type_of_num to))
cast_has to fa la ka k a is_a ha h = record {
  same = constant_taken (resolving.number_type to) a.found ka a.expression (subst (λ t. IsOfFound t ka) (sym is_a) ha.of_found) ha.same ∙ ap constant_by (cast_gives to ka k h);
  simple = num_simple to;
  long = num_long to;
  of_found = cast_of to ka k h;
  minimum = λ m. absurd (cc);
}

unary_given : (op : UnOp) (ka : Option Val) → on_one (unary_operation op) (constant_by ka) ≡ constant_from (unary_constant op (Some ka))
unary_given op None = refl
unary_given op (Some va) = by (unary_operation op va)
  where
    by : (o : Option Val) → code.given o ≡ constant_from (flow.given o)
    by None = refl
    by (Some v) = refl

unary_of : (op : UnOp) (fa : ExprType) (ka k : Option Val) → IsOfFound fa ka → unary_constant op (Some ka) ≡ Some k → IsOfFound fa k
unary_of op fa ka None of h = tt
unary_of op fa None (Some v) of h = absurd (cc)
unary_of un.Plus fa (Some (val.Int n)) (Some v) of h = cc
unary_of un.Plus fa (Some (val.Long n)) (Some v) of h = cc
unary_of un.Plus fa (Some (val.Bool b)) (Some v) of h = absurd (cc)
unary_of un.Plus fa (Some (val.Vector ns)) (Some v) of h = absurd (cc)
unary_of un.Plus fa (Some val.Unit) (Some v) of h = absurd (cc)
unary_of un.Minus fa (Some (val.Int n)) (Some v) of h = cc
unary_of un.Minus fa (Some (val.Long n)) (Some v) of h = cc
unary_of un.Minus fa (Some (val.Bool b)) (Some v) of h = absurd (cc)
unary_of un.Minus fa (Some (val.Vector ns)) (Some v) of h = absurd (cc)
unary_of un.Minus fa (Some val.Unit) (Some v) of h = absurd (cc)
unary_of un.Complement fa (Some (val.Int n)) (Some v) of h = cc
unary_of un.Complement fa (Some (val.Long n)) (Some v) of h = cc
unary_of un.Complement fa (Some (val.Bool b)) (Some v) of h = absurd (cc)
unary_of un.Complement fa (Some (val.Vector ns)) (Some v) of h = absurd (cc)
unary_of un.Complement fa (Some val.Unit) (Some v) of h = absurd (cc)
unary_of un.Not fa (Some (val.Int n)) (Some v) of h = absurd (cc)
unary_of un.Not fa (Some (val.Long n)) (Some v) of h = absurd (cc)
unary_of un.Not fa (Some (val.Bool b)) (Some v) of h = cc
unary_of un.Not fa (Some (val.Vector ns)) (Some v) of h = absurd (cc)
unary_of un.Not fa (Some val.Unit) (Some v) of h = absurd (cc)

-- a number is not changed
plus_same : (fa : ExprType) (ka : Option Val) → may_be_number fa ≡ true → IsOfFound fa ka → constant_by ka ≡ constant_from (unary_constant un.Plus (Some ka))
plus_same fa None number of = refl
plus_same fa (Some (val.Int n)) number of = refl
plus_same fa (Some (val.Long n)) number of = refl
plus_same fa (Some (val.Bool b)) number of = let h : true ≡ false = sym number ∙ ap may_be_number of in absurd (cc)
plus_same fa (Some (val.Vector ns)) number of = let h : true ≡ false = sym number ∙ ap may_be_number of in absurd (cc)
plus_same fa (Some val.Unit) number of = let h : true ≡ false = sym number ∙ ap may_be_number of in absurd (cc)

minus_same : (ka : Option Val) → IsOwnNegative ka → constant_by ka ≡ constant_from (unary_constant un.Minus (Some ka))
minus_same None own = refl
minus_same (Some v) own = ap (λ o. constant_from (flow.given o)) (sym own)

minus_by : (least : Bool) (ka : Option Val) (a : Expression) → (least ≡ true → IsOwnNegative ka) → constant_of a ≡ constant_by ka
    → constant_of (if least then a else x.Unary un.Minus a) ≡ constant_from (unary_constant un.Minus (Some ka))
minus_by true ka a own ha = ha ∙ minus_same ka (own refl)
minus_by false ka a own ha = unary_is un.Minus a ∙ (ap (on_one (unary_operation un.Minus)) ha ∙ unary_given un.Minus ka)

pub negated_same : (op : UnOp) (fa : ExprType) (la : Bool) (ka : Option Val) (a : Resolved) → takes op fa ≡ true → HasConstant fa la ka a
    → constant_of (resolving.negated op a) ≡ constant_from (unary_constant op (Some ka))
negated_same un.Plus fa la ka a fit ha = ha.same ∙ plus_same fa ka fit ha.of_found
negated_same un.Minus fa la ka a fit ha = minus_by a.is_minimum ka a.expression ha.minimum ha.same
negated_same un.Complement fa la ka a fit ha = unary_is un.Complement a.expression ∙ (ap (on_one (unary_operation un.Complement)) ha.same ∙ unary_given un.Complement ka)
negated_same un.Not fa la ka a fit ha = unary_is un.Not a.expression ∙ (ap (on_one (unary_operation un.Not)) ha.same ∙ unary_given un.Not ka)

pub unary_has : (op : UnOp) (fa : ExprType) (la : Bool) (ka k : Option Val) (a : Resolved) → takes op fa ≡ true → HasConstant fa la ka a → unary_constant op (Some ka) ≡ Some k
    → HasConstant fa la k (resolved (resolving.negated op a) fa)
unary_has op fa la ka k a fit ha h = record {
  same = negated_same op fa la ka a fit ha ∙ ap constant_from h;
  simple = ha.simple;
  long = ha.long;
  of_found = unary_of op fa ka k ha.of_found h;
  minimum = λ m. absurd (cc);
}
