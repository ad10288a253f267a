-- A loop goes on by its resolved test exactly where the rules on flow judge the written one to be the constant `true`.
use Rattle.std.proofs.Common.{◌≡◌, Bool, Some, None, refl, ap, ◌∙◌}
use Rattle.sdg_base.specs.declared.val.Val.TheVariants as val
use Rattle.java_tree.specs.declared.types.ExprType.{ExprType}
use Rattle.java_types.specs.Expressions.{expr_walk}
use Rattle.java_flow.specs.Constants.{Constant, is_true}
use Rattle.java_flow.specs.Expressions.{Judged, judged}
use Rattle.access_blocks.specs.declared.resolved.Resolved.{Resolved}
use Rattle.body_code.specs.Completing.{goes_on, constant_of, is_constant_true}
use Rattle.resolved_constants.specs.Constants.{constant_from, Agrees, IsJudged}
use Rattle.resolved_constants.specs.Laws.{ConstantsAreKept, TestsAreKept}
use Rattle.resolved_constants.proofs.Kept.{fits_more}

-- What is resolved has the constant that was judged.
agrees_same : (found : ExprType) (long : Bool) (c : Constant) (r : Resolved) → Agrees found long c r → constant_of r.expression ≡ constant_from c
agrees_same found long None r lacks = lacks.same
agrees_same found long (Some k) r has = has.same

pub constant_same : (found : ExprType) (j : Judged) (r : Resolved) → IsJudged found j r → constant_of r.expression ≡ constant_from j.constant
constant_same found j r is = agrees_same found j.is_long j.constant r is.agrees

true_same : (c : Constant) → is_constant_true (constant_from c) ≡ is_true c
true_same None = refl
true_same (Some None) = refl
true_same (Some (Some (val.Int n))) = refl
true_same (Some (Some (val.Long n))) = refl
true_same (Some (Some (val.Bool b))) = refl
true_same (Some (Some (val.Vector ns))) = refl
true_same (Some (Some val.Unit)) = refl

pub goes_on_same : (found : ExprType) (j : Judged) (r : Resolved) → IsJudged found j r → goes_on (Some r.expression) ≡ is_true j.constant
goes_on_same found j r is = ap is_constant_true (constant_same found j r is) ∙ true_same j.constant

pub tests_kept : ConstantsAreKept → TestsAreKept
tests_kept kept p sound x negated w quiet =
    let found = (expr_walk p.env x negated w).found in
    fits_more p (λ names. IsJudged found (judged x)) (λ (r : Resolved). Unit {0}) (λ names r. goes_on (Some r.expression) ≡ is_true (judged x).constant)
    (λ names r is more. goes_on_same found (judged x) r is) (λ c. tt) (kept p sound x negated w quiet)
