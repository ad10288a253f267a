-- What is resolved of two operands of a constant expression, where they have their values.
use Rattle.std.proofs.Common.{◌≡◌, Bool, true, false, Option, Some, None, if◌then◌else◌, refl, sym, ap, ap₂, subst, ◌∙◌}
use Rattle.sdg_base.specs.declared.operator.BinOp.{BinOp}
use Rattle.sdg_base.specs.declared.operator.BinOp.TheVariants as bin
use Rattle.sdg_base.specs.declared.val.Val.{Val}
use Rattle.sdg_base.specs.declared.val.Val.TheVariants as val
use Rattle.java_tree.specs.declared.types.ValueType.TheVariants.{Int, Boolean}
use Rattle.java_tree.specs.declared.types.ExprType.{ExprType}
use Rattle.java_tree.specs.declared.types.ExprType.TheVariants.{Value}
use Rattle.java_types.specs.Fits.{sort_of, given_by}
use Rattle.java_flow.specs.Constants.{binary_constant, binary_is_long, of_and, of_or, of_both, promoted_operation}
use Rattle.access_blocks.specs.declared.body.Expression.TheVariants as x
use Rattle.access_blocks.specs.declared.resolved.Resolved.{Resolved}
use Rattle.access_blocks.specs.Resolving.{resolved, converted_to, taken}
use Rattle.access_blocks.specs.Resolving as resolving
use Rattle.body_code.specs.Completing.{Is, chosen, operated, constant_of}
use Rattle.resolved_constants.specs.Constants.{constant_by, constant_from, IsOfFound, HasConstant}
use Rattle.resolved_constants.proofs.Operands.{binary_is, flow_strictly, answered_value, strict_constant}
use Rattle.resolved_constants.proofs.Types.{AreTruths, long_by, simple_by}
use Rattle.resolved_constants.proofs.Values.{is_lazy, operation_type}

the_same : {A : Type 0} {x y : A} → Some x ≡ Some y → x ≡ y
the_same e = cc

-- ---- two operands

both_types : (op : BinOp) → is_lazy op ≡ false → (fa fb : ExprType) (ka kb k : Option Val) → IsOfFound fa ka → IsOfFound fb kb → of_both op (Some ka) (Some kb) ≡ Some k → IsOfFound (given_by (sort_of op) fa fb) k
both_types op strict fa fb ka kb None of_a of_b h = tt
both_types op strict fa fb None kb (Some v) of_a of_b h = absurd (cc)
both_types op strict fa fb (Some va) None (Some v) of_a of_b h = absurd (cc)
both_types op strict fa fb (Some va) (Some vb) (Some v) of_a of_b h =
    ap₂ (λ s t. given_by (sort_of op) s t) of_a of_b ∙ operation_type op strict va vb v (answered_value (promoted_operation op va vb) v h)

strict_same : (op : BinOp) → is_lazy op ≡ false → (fa fb : ExprType) (la lb : Bool) (ka kb : Option Val) (a b : Resolved) → a.found ≡ fa → b.found ≡ fb
    → HasConstant fa la ka a → HasConstant fb lb kb b → constant_of (resolving.operated op a b) ≡ constant_from (binary_constant op (Some ka) (Some kb))
strict_same op strict fa fb la lb ka kb a b is_a is_b ha hb =
    strict_constant op strict a b ka kb (subst (λ t. IsOfFound t ka) (sym is_a) ha.of_found) (subst (λ t. IsOfFound t kb) (sym is_b) hb.of_found) ha.same hb.same

-- one that evaluates both
strict_has : (op : BinOp) → is_lazy op ≡ false → (fa fb : ExprType) (la lb : Bool) (ka kb k : Option Val) (a b : Resolved) → a.found ≡ fa → b.found ≡ fb
    → HasConstant fa la ka a → HasConstant fb lb kb b → binary_constant op (Some ka) (Some kb) ≡ Some k
    → HasConstant (given_by (sort_of op) fa fb) (binary_is_long op la lb) k (resolved (resolving.operated op a b) (given_by (sort_of op) fa fb))
strict_has op strict fa fb la lb ka kb k a b is_a is_b ha hb h = record {
  same = strict_same op strict fa fb la lb ka kb a b is_a is_b ha hb ∙ ap constant_from h;
  simple = simple_by op fa fb ha.simple;
  long = ap₂ (λ s t. binary_is_long op s t) ha.long hb.long ∙ long_by op fa fb;
  of_found = both_types op strict fa fb ka kb k ha.of_found hb.of_found (sym (flow_strictly op strict (Some ka) (Some kb)) ∙ h);
  minimum = λ m. absurd (cc);
}

andalso_chosen : (ka kb : Option Val) → chosen (constant_by ka) (constant_by kb) (Is (val.Bool false)) ≡ constant_from (of_and (Some ka) (Some kb))
andalso_chosen None None = refl
andalso_chosen None (Some v) = refl
andalso_chosen (Some (val.Int n)) None = refl
andalso_chosen (Some (val.Int n)) (Some v) = refl
andalso_chosen (Some (val.Long n)) None = refl
andalso_chosen (Some (val.Long n)) (Some v) = refl
andalso_chosen (Some (val.Bool true)) None = refl
andalso_chosen (Some (val.Bool true)) (Some v) = refl
andalso_chosen (Some (val.Bool false)) None = refl
andalso_chosen (Some (val.Bool false)) (Some v) = refl
andalso_chosen (Some (val.Vector ns)) None = refl
andalso_chosen (Some (val.Vector ns)) (Some v) = refl
andalso_chosen (Some val.Unit) None = refl
andalso_chosen (Some val.Unit) (Some v) = refl

andalso_of : (ka kb k : Option Val) → IsOfFound (Value Boolean) kb → of_and (Some ka) (Some kb) ≡ Some k → IsOfFound (Value Boolean) k
andalso_of ka kb None of h = tt
andalso_of None kb (Some v) of h = absurd (cc)
andalso_of (Some (val.Int n)) kb (Some v) of h = absurd (cc)
andalso_of (Some (val.Long n)) kb (Some v) of h = absurd (cc)
andalso_of (Some (val.Vector ns)) kb (Some v) of h = absurd (cc)
andalso_of (Some val.Unit) kb (Some v) of h = absurd (cc)
andalso_of (Some (val.Bool true)) kb (Some v) of h = subst (IsOfFound (Value Boolean)) (the_same h) of
andalso_of (Some (val.Bool false)) kb (Some v) of h = cc

orelse_chosen : (ka kb : Option Val) → chosen (constant_by ka) (Is (val.Bool true)) (constant_by kb) ≡ constant_from (of_or (Some ka) (Some kb))
orelse_chosen None None = refl
orelse_chosen None (Some v) = refl
orelse_chosen (Some (val.Int n)) None = refl
orelse_chosen (Some (val.Int n)) (Some v) = refl
orelse_chosen (Some (val.Long n)) None = refl
orelse_chosen (Some (val.Long n)) (Some v) = refl
orelse_chosen (Some (val.Bool true)) None = refl
orelse_chosen (Some (val.Bool true)) (Some v) = refl
orelse_chosen (Some (val.Bool false)) None = refl
orelse_chosen (Some (val.Bool false)) (Some v) = refl
orelse_chosen (Some (val.Vector ns)) None = refl
orelse_chosen (Some (val.Vector ns)) (Some v) = refl
orelse_chosen (Some val.Unit) None = refl
orelse_chosen (Some val.Unit) (Some v) = refl

orelse_of : (ka kb k : Option Val) → IsOfFound (Value Boolean) kb → of_or (Some ka) (Some kb) ≡ Some k → IsOfFound (Value Boolean) k
orelse_of ka kb None of h = tt
orelse_of None kb (Some v) of h = absurd (cc)
orelse_of (Some (val.Int n)) kb (Some v) of h = absurd (cc)
orelse_of (Some (val.Long n)) kb (Some v) of h = absurd (cc)
orelse_of (Some (val.Vector ns)) kb (Some v) of h = absurd (cc)
orelse_of (Some val.Unit) kb (Some v) of h = absurd (cc)
orelse_of (Some (val.Bool true)) kb (Some v) of h = cc
orelse_of (Some (val.Bool false)) kb (Some v) of h = subst (IsOfFound (Value Boolean)) (the_same h) of

lazy_same : (op : BinOp) → resolving.is_shift op ≡ false → (a b : Resolved) → a.found ≡ Value Boolean → b.found ≡ Value Boolean
    → constant_of (resolving.operated op a b) ≡ operated op (constant_of a.expression) (constant_of b.expression)
lazy_same op no_shift a b is_a is_b =
    let t = resolving.promoted a.found b.found in
    ap (λ s. constant_of (if s then x.Binary op a.expression (taken (Value Int) b) else x.Binary op (taken t a) (taken t b))) no_shift
    ∙ (ap₂ (λ s t. constant_of (x.Binary op (converted_to (resolving.promoted s t) s a.expression) (converted_to (resolving.promoted s t) t b.expression))) is_a is_b ∙ binary_is op a.expression b.expression)

pub binary_same : (op : BinOp) (fa fb : ExprType) (la lb : Bool) (ka kb : Option Val) (a b : Resolved) → AreTruths op fa fb → a.found ≡ fa → b.found ≡ fb
    → HasConstant fa la ka a → HasConstant fb lb kb b → constant_of (resolving.operated op a b) ≡ constant_from (binary_constant op (Some ka) (Some kb))
binary_same bin.AndAlso fa fb la lb ka kb a b truths is_a is_b ha hb =
    lazy_same bin.AndAlso refl a b (is_a ∙ truths.0) (is_b ∙ truths.1) ∙ (ap₂ (λ s t. operated bin.AndAlso s t) ha.same hb.same ∙ andalso_chosen ka kb)
binary_same bin.OrElse fa fb la lb ka kb a b truths is_a is_b ha hb =
    lazy_same bin.OrElse refl a b (is_a ∙ truths.0) (is_b ∙ truths.1) ∙ (ap₂ (λ s t. operated bin.OrElse s t) ha.same hb.same ∙ orelse_chosen ka kb)
binary_same op fa fb la lb ka kb a b truths is_a is_b ha hb = strict_same op refl fa fb la lb ka kb a b is_a is_b ha hb

pub binary_has : (op : BinOp) (fa fb : ExprType) (la lb : Bool) (ka kb k : Option Val) (a b : Resolved) → AreTruths op fa fb → a.found ≡ fa → b.found ≡ fb
    → HasConstant fa la ka a → HasConstant fb lb kb b → binary_constant op (Some ka) (Some kb) ≡ Some k
    → HasConstant (given_by (sort_of op) fa fb) (binary_is_long op la lb) k (resolved (resolving.operated op a b) (given_by (sort_of op) fa fb))
binary_has bin.AndAlso fa fb la lb ka kb k a b truths is_a is_b ha hb h = record {
  same = binary_same bin.AndAlso fa fb la lb ka kb a b truths is_a is_b ha hb ∙ ap constant_from h;
  simple = refl;
  long = refl;
  of_found = andalso_of ka kb k (subst (λ t. IsOfFound t kb) truths.1 hb.of_found) h;
  minimum = λ m. absurd (cc);
}
binary_has bin.OrElse fa fb la lb ka kb k a b truths is_a is_b ha hb h = record {
  same = binary_same bin.OrElse fa fb la lb ka kb a b truths is_a is_b ha hb ∙ ap constant_from h;
  simple = refl;
  long = refl;
  of_found = orelse_of ka kb k (subst (λ t. IsOfFound t kb) truths.1 hb.of_found) h;
  minimum = λ m. absurd (cc);
}
binary_has op fa fb la lb ka kb k a b truths is_a is_b ha hb h = strict_has op refl fa fb la lb ka kb k a b is_a is_b ha hb h
