-- What is resolved of a conditional expression, a literal and a truth value, where its parts have their values.
use Rattle.std.proofs.Common.{◌≡◌, ℕ, Bool, true, false, ◌||◌, ◌&&◌, nat_eq, Option, Some, None, if◌then◌else◌, refl, sym, ap, ap₂, subst, ◌∙◌, arith}
use Rattle.std.specs.Int.{cast_signed, w64}
use Rattle.std.proofs.lemmas.Bool.Decides.{nat_tests}
use Rattle.sdg_base.specs.declared.operator.UnOp.TheVariants as un
use Rattle.sdg_base.specs.declared.val.Num.TheVariants as num
use Rattle.sdg_base.specs.declared.val.Val.{Val}
use Rattle.sdg_base.specs.declared.val.Val.TheVariants as val
use Rattle.sdg_base.specs.Arithmetic.{wrap}
use Rattle.sdg_base.specs.Operations.{unary_operation}
use Rattle.java_tree.specs.declared.types.ValueType.TheVariants.{Int, Long, Boolean}
use Rattle.java_tree.specs.declared.types.ExprType.{ExprType}
use Rattle.java_tree.specs.declared.types.ExprType.TheVariants.{Value}
use Rattle.java_types.specs.Fits.{is_long, promoted, literal}
use Rattle.java_flow.specs.Constants.{conditional_constant, long_if}
use Rattle.java_flow.specs.Constants as flow
use Rattle.access_blocks.specs.declared.body.Expression.TheVariants as x
use Rattle.access_blocks.specs.declared.resolved.Resolved.{Resolved}
use Rattle.access_blocks.specs.Resolving.{resolved, taken, is_minimum}
use Rattle.access_blocks.specs.Resolving as resolving
use Rattle.body_code.specs.Completing.{HasNoValue, Is, chosen, constant_of}
use Rattle.resolved_constants.specs.Constants.{type_of_value, constant_by, IsOfFound, IsOwnNegative, HasConstant}
use Rattle.resolved_constants.proofs.OneOperand.{cast_gives, cast_of}
use Rattle.resolved_constants.proofs.Operands.{int_is, long_is, bool_is, conditional_is, all_wanted, constant_taken}
use Rattle.resolved_constants.proofs.Promoted.{as_wanted}
use Rattle.resolved_constants.proofs.Types.{promoted_long, promoted_simple}

the_same : {A : Type 0} {x y : A} → Some x ≡ Some y → x ≡ y
the_same e = cc

-- ---- one of two

own_value : (v : Val) → as_wanted (type_of_value v) v ≡ v
own_value (val.Int n) = refl
own_value (val.Long n) = refl
own_value (val.Bool b) = refl
own_value (val.Vector ns) = refl
own_value val.Unit = refl

own_wanted : (t : ExprType) (k : Option Val) → IsOfFound t k → all_wanted t k ≡ k
own_wanted t None of = refl
own_wanted t (Some v) of = ap (λ s. Some (as_wanted s v)) of ∙ ap (λ u. Some u) (own_value v)

-- as a long where either is one, and else of the type of both
widened : (l : Bool) (fa fb f : ExprType) (k c : Option Val) → l ≡ (is_long fa || is_long fb) → (l ≡ false → fa ≡ f) → IsOfFound f k → long_if l (Some k) ≡ Some c → all_wanted (promoted fa fb) k ≡ c
widened true fa fb f k c l alike of h = ap (λ b. all_wanted (if b then Value Long else fa) k) (sym l) ∙ cast_gives num.Long k c h
widened false fa fb f k c l alike of h = ap (λ b. all_wanted (if b then Value Long else fa) k) (sym l) ∙ (ap (λ t. all_wanted t k) (alike refl) ∙ (own_wanted f k of ∙ the_same h))

widened_of : (l : Bool) (fa fb f : ExprType) (k c : Option Val) → l ≡ (is_long fa || is_long fb) → (l ≡ false → fa ≡ f) → IsOfFound f k → long_if l (Some k) ≡ Some c → IsOfFound (promoted fa fb) c
widened_of true fa fb f k c l alike of h = subst (λ b. IsOfFound (if b then Value Long else fa) c) l (cast_of num.Long k c h)
widened_of false fa fb f k c l alike of h = subst (λ b. IsOfFound (if b then Value Long else fa) c) l (subst (λ t. IsOfFound t c) (sym (alike refl)) (subst (IsOfFound f) (the_same h) of))

chosen_none : (a b : Option Val) → chosen HasNoValue (constant_by a) (constant_by b) ≡ HasNoValue
chosen_none None None = refl
chosen_none None (Some v) = refl
chosen_none (Some u) None = refl
chosen_none (Some u) (Some v) = refl

chosen_first : (a b : Option Val) → chosen (Is (val.Bool true)) (constant_by a) (constant_by b) ≡ constant_by a
chosen_first None None = refl
chosen_first None (Some v) = refl
chosen_first (Some u) None = refl
chosen_first (Some u) (Some v) = refl

chosen_second : (a b : Option Val) → chosen (Is (val.Bool false)) (constant_by a) (constant_by b) ≡ constant_by b
chosen_second None None = refl
chosen_second None (Some v) = refl
chosen_second (Some u) None = refl
chosen_second (Some u) (Some v) = refl

-- what is chosen, by the value of the test
by_test : (P : Option Val → Type 0) (l : Bool) (kt ka kb k : Option Val) → conditional_constant l (Some kt) (Some ka) (Some kb) ≡ Some k
    → (kt ≡ None → P None) → (kt ≡ Some (val.Bool true) → long_if l (Some ka) ≡ Some k → P k) → (kt ≡ Some (val.Bool false) → long_if l (Some kb) ≡ Some k → P k) → P k
by_test P l None ka kb k h none first second = subst P (the_same h) (none refl)
by_test P l (Some (val.Int n)) ka kb k h none first second = absurd (cc)
by_test P l (Some (val.Long n)) ka kb k h none first second = absurd (cc)
by_test P l (Some (val.Bool true)) ka kb k h none first second = first refl h
by_test P l (Some (val.Bool false)) ka kb k h none first second = second refl h
by_test P l (Some (val.Vector ns)) ka kb k h none first second = absurd (cc)
by_test P l (Some val.Unit) ka kb k h none first second = absurd (cc)

pub conditional_has : (ft fa fb : ExprType) (lt la lb : Bool) (kt ka kb k : Option Val) (t a b : Resolved) → a.found ≡ fa → b.found ≡ fb → (is_long fa ≡ false → is_long fb ≡ false → fa ≡ fb)
    → HasConstant ft lt kt t → HasConstant fa la ka a → HasConstant fb lb kb b → conditional_constant (la || lb) (Some kt) (Some ka) (Some kb) ≡ Some k
    → HasConstant (promoted fa fb) (la || lb) k (resolved (resolving.chosen_between (promoted fa fb) t a b) (promoted fa fb))
conditional_has ft fa fb lt la lb kt ka kb k t a b is_a is_b alike ht ha hb h =
    let whole = promoted fa fb in
    let l : (la || lb) ≡ (is_long fa || is_long fb) = ap₂ (λ s u. s || u) ha.long hb.long in
    let both : (la || lb) ≡ false → fa ≡ fb = λ none. let two = neither (is_long fa) (is_long fb) (sym l ∙ none) in alike two.0 two.1 in
    let parts = ap₂ (λ s u. chosen s u (constant_of (taken whole b))) ht.same (constant_taken whole a.found ka a.expression (subst (λ s. IsOfFound s ka) (sym is_a) ha.of_found) ha.same)
    ∙ ap (chosen (constant_by kt) (constant_by (all_wanted whole ka))) (constant_taken whole b.found kb b.expression (subst (λ s. IsOfFound s kb) (sym is_b) hb.of_found) hb.same) in
    record {
      same =
          conditional_is t.expression (taken whole a) (taken whole b)
          ∙ (parts
          ∙ by_test (λ c. chosen (constant_by kt) (constant_by (all_wanted whole ka)) (constant_by (all_wanted whole kb)) ≡ constant_by c) (la || lb) kt ka kb k h
          (λ is. ap (λ s. chosen (constant_by s) (constant_by (all_wanted whole ka)) (constant_by (all_wanted whole kb))) is ∙ chosen_none (all_wanted whole ka) (all_wanted whole kb))
          (λ is wide. ap (λ s. chosen (constant_by s) (constant_by (all_wanted whole ka)) (constant_by (all_wanted whole kb))) is
          ∙ (chosen_first (all_wanted whole ka) (all_wanted whole kb) ∙ ap constant_by (widened (la || lb) fa fb fa ka k l (λ none. refl) ha.of_found wide)))
          (λ is wide. ap (λ s. chosen (constant_by s) (constant_by (all_wanted whole ka)) (constant_by (all_wanted whole kb))) is
          ∙ (chosen_second (all_wanted whole ka) (all_wanted whole kb) ∙ ap constant_by (widened (la || lb) fa fb fb kb k l both hb.of_found wide))));
      simple = promoted_simple fa fb ha.simple;
      long = l ∙ promoted_long fa fb;
      of_found =
          by_test (IsOfFound whole) (la || lb) kt ka kb k h (λ is. tt) (λ is wide. widened_of (la || lb) fa fb fa ka k l (λ none. refl) ha.of_found wide)
          (λ is wide. widened_of (la || lb) fa fb fb kb k l both hb.of_found wide);
      minimum = λ m. absurd (cc);
    }
  where
    neither : (s u : Bool) → (s || u) ≡ false → (s ≡ false) × (u ≡ false)
    neither true u e = absurd (cc)
    neither false u e = (refl, e)

-- ---- literals

pub truth_has : (b : Bool) → HasConstant (Value Boolean) false (Some (val.Bool b)) (resolved (x.Bool b) (Value Boolean))
truth_has b = record { same = bool_is b; simple = refl; long = refl; of_found = refl; minimum = λ m. absurd (cc) }

least_long : unary_operation un.Minus (val.Long (cast_signed w64 0x8000000000000000)) ≡ Some (val.Long (cast_signed w64 0x8000000000000000))
unfolding wrap
least_long = refl

least_int : unary_operation un.Minus (val.Int (wrap num.Int (cast_signed w64 0x80000000))) ≡ Some (val.Int (wrap num.Int (cast_signed w64 0x80000000)))
unfolding wrap
least_int = refl

minimum_is : (decimal : Bool) (digits least : ℕ) → (decimal && nat_eq digits least) ≡ true → digits ≡ least
minimum_is false digits least h = absurd (cc)
minimum_is true digits least h = grind (arith, nat_tests)

pub number_has : (digits : ℕ) (decimal long : Bool) (k : Option Val) → flow.literal digits long ≡ Some k → HasConstant (literal long) long k (resolving.number digits decimal long (literal long))
number_has digits decimal true k h = record {
  same = long_is (cast_signed w64 digits) ∙ ap constant_by (the_same h);
  simple = refl;
  long = refl;
  of_found = subst (IsOfFound (Value Long)) (the_same h) refl;
  minimum = λ m.
      subst IsOwnNegative (the_same h)
      (subst (λ (d : ℕ). unary_operation un.Minus (val.Long (cast_signed w64 d)) ≡ Some (val.Long (cast_signed w64 d))) (sym (minimum_is decimal digits 0x8000000000000000 m)) least_long);
}
number_has digits decimal false k h = record {
  same = int_is (wrap num.Int (cast_signed w64 digits)) ∙ ap constant_by (the_same h);
  simple = refl;
  long = refl;
  of_found = subst (IsOfFound (Value Int)) (the_same h) refl;
  minimum = λ m.
      subst IsOwnNegative (the_same h)
      (subst (λ (d : ℕ). unary_operation un.Minus (val.Int (wrap num.Int (cast_signed w64 d))) ≡ Some (val.Int (wrap num.Int (cast_signed w64 d)))) (sym (minimum_is decimal digits 0x80000000 m)) least_int);
}
