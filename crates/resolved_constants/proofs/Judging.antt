-- Each form of expression is judged as the rules on flow judge it, where its parts are and no rule on types is broken.
use Rattle.std.proofs.Common.{◌≡◌, ℕ, Bool, true, false, not, ◌||◌, Option, Some, None, refl, sym, ap, ap₂, subst, ◌∙◌}
use Rattle.sdg_base.specs.declared.operator.BinOp.{BinOp}
use Rattle.sdg_base.specs.declared.operator.UnOp.{UnOp}
use Rattle.sdg_base.specs.declared.val.Num.{Num}
use Rattle.sdg_base.specs.declared.val.Val.{Val}
use Rattle.java_tree.specs.declared.tree.CallForm.TheOpen as e
use Rattle.java_tree.specs.declared.types.ValueType.TheVariants.{Boolean}
use Rattle.java_tree.specs.declared.types.ExprType.{ExprType}
use Rattle.java_tree.specs.declared.types.ExprType.TheVariants.{Value}
use Rattle.java_types.specs.declared.fits.Sort.TheVariants as sort
use Rattle.java_types.specs.Fits.{unless, with_part, may_be_number, may_be_boolean, sort_of, is_operand, misfits_behind, outcome, choice, takes, type_of_num, literal}
use Rattle.java_flow.specs.Constants as flow
use Rattle.java_flow.specs.Expressions.{Judged, expr_step}
use Rattle.access_blocks.specs.declared.body.Expression.TheVariants as x
use Rattle.access_blocks.specs.declared.resolved.Resolved.{Resolved}
use Rattle.access_blocks.specs.Resolving.{resolved, taken}
use Rattle.access_blocks.specs.Resolving as resolving
use Rattle.resolved_constants.specs.Constants.{HasConstant, HasNoConstant, Agrees, IsJudged}
use Rattle.resolved_constants.proofs.Forms.{binary_has}
use Rattle.resolved_constants.proofs.OneOperand.{unary_has, cast_has}
use Rattle.resolved_constants.proofs.Choices.{conditional_has, truth_has, number_has}
use Rattle.resolved_constants.proofs.Types.{simple_known, truths_are, alike, outcome_is, choice_is, unless_is, with_part_is}
use Rattle.resolved_constants.proofs.NoConstants.{binary_none, unary_none, cast_none, conditional_none, number_given}
use Rattle.resolved_constants.proofs.Given.{unary_given, cast_given, binary_given, conditional_given}

-- ---- what is constant

agrees_where : {found : ExprType} {long : Bool} {r : Resolved} (c : flow.Constant) → (c ≡ None → HasNoConstant r) → ((k : Option Val) → c ≡ Some k → HasConstant found long k r) → Agrees found long c r
agrees_where None lacks has = lacks refl
agrees_where (Some k) lacks has = has k refl

has_there : {found : ExprType} {long : Bool} {r : Resolved} (c : flow.Constant) (k : Option Val) → c ≡ Some k → Agrees found long c r → HasConstant found long k r
has_there {found = found} {long = long} {r = r} c k is agrees = subst (λ (c : flow.Constant). Agrees found long c r) is agrees

-- ---- two operands

binary_agrees : (op : BinOp) (fa fb : ExprType) (broken la lb : Bool) (ca cb : flow.Constant) (a b : Resolved) → broken ≡ false → not (is_operand (sort_of op) fa) ≡ false → misfits_behind (sort_of op) fa fb ≡ false
    → a.found ≡ fa → b.found ≡ fb → Agrees fa la ca a → Agrees fb lb cb b → (k : Option Val) → flow.binary_constant op ca cb ≡ Some k
    → HasConstant (outcome broken (sort_of op) fa fb) (flow.binary_is_long op la lb) k (resolved (resolving.operated op a b) (outcome broken (sort_of op) fa fb))
binary_agrees op fa fb broken la lb ca cb a b unbroken one two is_a is_b agrees_a agrees_b k h =
    let g = binary_given op ca cb k h in
    let ha = has_there {found = fa} {long = la} {r = a} ca g.0.0 g.0.1 agrees_a in
    let hb = has_there {found = fb} {long = lb} {r = b} cb g.1.0 g.1.1 agrees_b in
    let whole = outcome_is broken (sort_of op) fa fb unbroken (simple_known fa ha.simple) (simple_known fb hb.simple) in
    subst (λ (t : ExprType). HasConstant t (flow.binary_is_long op la lb) k (resolved (resolving.operated op a b) t)) (sym whole)
    (binary_has op fa fb la lb g.0.0 g.1.0 k a b (truths_are op fa fb ha.simple hb.simple one two) is_a is_b ha hb
    (sym (ap₂ (λ s t. flow.binary_constant op s t) g.0.1 g.1.1) ∙ h))

pub binary_judged : (op : BinOp) (fa fb : ExprType) (broken : Bool) (ja jb : Judged) (a b : Resolved) → broken ≡ false → not (is_operand (sort_of op) fa) ≡ false → misfits_behind (sort_of op) fa fb ≡ false
    → IsJudged fa ja a → IsJudged fb jb b
    → IsJudged (outcome broken (sort_of op) fa fb) (expr_step (e.Binary op ja jb)) (resolved (resolving.operated op a b) (outcome broken (sort_of op) fa fb))
binary_judged op fa fb broken ja jb a b unbroken one two is_a is_b = record {
  same = refl;
  agrees = agrees_where (flow.binary_constant op ja.constant jb.constant)
      (λ h. record { same = binary_none op fa fb ja.is_long jb.is_long ja.constant jb.constant a b one two is_a.same is_b.same is_a.agrees is_b.agrees h; minimum = refl })
      (binary_agrees op fa fb broken ja.is_long jb.is_long ja.constant jb.constant a b unbroken one two is_a.same is_b.same is_a.agrees is_b.agrees);
}

-- ---- one of two

conditional_agrees : (ft fa fb : ExprType) (broken lt la lb : Bool) (ct ca cb : flow.Constant) (t a b : Resolved) → broken ≡ false → misfits_behind sort.Equality fa fb ≡ false
    → a.found ≡ fa → b.found ≡ fb → Agrees ft lt ct t → Agrees fa la ca a → Agrees fb lb cb b → (k : Option Val) → flow.conditional_constant (la || lb) ct ca cb ≡ Some k
    → HasConstant (choice broken ft fa fb) (la || lb) k (resolved (resolving.chosen_between (choice broken ft fa fb) t a b) (choice broken ft fa fb))
conditional_agrees ft fa fb broken lt la lb ct ca cb t a b unbroken fit is_a is_b agrees_t agrees_a agrees_b k h =
    let g = conditional_given (la || lb) ct ca cb k h in
    let ht = has_there {found = ft} {long = lt} {r = t} ct g.0.0 g.0.1 agrees_t in
    let ha = has_there {found = fa} {long = la} {r = a} ca g.1.0 g.1.1 agrees_a in
    let hb = has_there {found = fb} {long = lb} {r = b} cb g.2.0 g.2.1 agrees_b in
    let whole = choice_is broken ft fa fb unbroken (simple_known ft ht.simple) (simple_known fa ha.simple) (simple_known fb hb.simple) in
    let tests = ap (λ s. flow.conditional_constant (la || lb) s ca cb) g.0.1 in
    let parts = ap₂ (λ s u. flow.conditional_constant (la || lb) (Some g.0.0) s u) g.1.1 g.2.1 in
    subst (λ (u : ExprType). HasConstant u (la || lb) k (resolved (resolving.chosen_between u t a b) u)) (sym whole)
    (conditional_has ft fa fb lt la lb g.0.0 g.1.0 g.2.0 k t a b is_a is_b (alike fa fb ha.simple hb.simple fit) ht ha hb (sym (tests ∙ parts) ∙ h))

pub conditional_judged : (ft fa fb : ExprType) (broken : Bool) (jt ja jb : Judged) (t a b : Resolved) → broken ≡ false → not (may_be_boolean ft) ≡ false → misfits_behind sort.Equality fa fb ≡ false
    → IsJudged ft jt t → IsJudged fa ja a → IsJudged fb jb b
    → IsJudged (choice broken ft fa fb) (expr_step (e.Conditional jt ja jb)) (resolved (resolving.chosen_between (choice broken ft fa fb) t a b) (choice broken ft fa fb))
conditional_judged ft fa fb broken jt ja jb t a b unbroken test fit is_t is_a is_b = record {
  same = refl;
  agrees = agrees_where (flow.conditional_constant (ja.is_long || jb.is_long) jt.constant ja.constant jb.constant)
      (λ h. record {
        same = conditional_none (choice broken ft fa fb) ft fa fb jt.is_long ja.is_long jb.is_long jt.constant ja.constant jb.constant t a b test fit is_t.agrees is_a.agrees is_b.agrees h;
        minimum = refl;
      })
      (conditional_agrees ft fa fb broken jt.is_long ja.is_long jb.is_long jt.constant ja.constant jb.constant t a b unbroken fit is_a.same is_b.same is_t.agrees is_a.agrees is_b.agrees);
}

-- ---- one operand

pub unary_judged : (op : UnOp) (fa : ExprType) (broken : Bool) (ja : Judged) (a : Resolved) → broken ≡ false → takes op fa ≡ true → IsJudged fa ja a
    → IsJudged (unless broken fa) (expr_step (e.Unary op ja)) (resolved (resolving.negated op a) (unless broken fa))
unary_judged op fa broken ja a unbroken fit is = record {
  same = refl;
  agrees = agrees_where (flow.unary_constant op ja.constant) (λ h. record { same = unary_none op fa ja.is_long ja.constant a fit is.agrees h; minimum = refl }) (λ k h.
      let g = unary_given op ja.constant k h in
      let ha = has_there {found = fa} {long = ja.is_long} {r = a} ja.constant g.0 g.1 is.agrees in
      subst (λ (t : ExprType). HasConstant t ja.is_long k (resolved (resolving.negated op a) t)) (sym (unless_is broken fa unbroken))
      (unary_has op fa ja.is_long g.0 k a fit ha (sym (ap (λ c. flow.unary_constant op c) g.1) ∙ h)));
}

pub cast_judged : (to : Num) (fa : ExprType) (broken : Bool) (ja : Judged) (a : Resolved) → broken ≡ false → may_be_number fa ≡ true → IsJudged fa ja a
    → IsJudged (with_part broken fa (type_of_num to)) (expr_step (e.Cast to ja)) (resolved (taken (resolving.number_type to) a) (with_part broken fa (type_of_num to)))
cast_judged to fa broken ja a unbroken number is = record {
  same = refl;
  agrees = agrees_where (flow.cast_constant to ja.constant) (λ h. record { same = cast_none to fa ja.is_long ja.constant a number is.agrees h; minimum = refl }) (λ k h.
      let g = cast_given to ja.constant k h in
      let ha = has_there {found = fa} {long = ja.is_long} {r = a} ja.constant g.0 g.1 is.agrees in
      subst (λ (t : ExprType). HasConstant t (flow.is_long_number to) k (resolved (taken (resolving.number_type to) a) t))
      (sym (with_part_is broken fa (type_of_num to) unbroken (simple_known fa ha.simple)))
      (cast_has to fa ja.is_long g.0 k a is.same ha (sym (ap (λ c. flow.cast_constant to c) g.1) ∙ h)));
}

paren_agrees : (found : ExprType) (long : Bool) (c : flow.Constant) (r : Resolved) → Agrees found long c r → Agrees found long c (resolved r.expression found)
paren_agrees found long None r lacks = record { same = lacks.same; minimum = refl }
paren_agrees found long (Some k) r has = record { same = has.same; simple = has.simple; long = has.long; of_found = has.of_found; minimum = λ m. absurd (cc) }

pub paren_judged : (found : ExprType) (j : Judged) (r : Resolved) → IsJudged found j r → IsJudged found (expr_step (e.Paren j)) (resolved r.expression found)
paren_judged found j r is = record { same = refl; agrees = paren_agrees found j.is_long j.constant r is.agrees }

-- ---- literals

pub number_judged : (digits : ℕ) (decimal long broken : Bool) → broken ≡ false
    → IsJudged (unless broken (literal long)) (expr_step (e.Number digits decimal long)) (resolving.number digits decimal long (unless broken (literal long)))
number_judged digits decimal long broken unbroken = record {
  same = refl;
  agrees = agrees_where (flow.literal digits long) (λ h. absurd (number_given digits long h)) (λ k h.
      subst (λ (t : ExprType). HasConstant t long k (resolving.number digits decimal long t)) (sym (unless_is broken (literal long) unbroken)) (number_has digits decimal long k h));
}

pub truth_judged : (b : Bool) → IsJudged (Value Boolean) (expr_step (e.Bool b)) (resolved (x.Bool b) (Value Boolean))
truth_judged b = record { same = refl; agrees = truth_has b }
