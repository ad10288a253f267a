-- What is resolved of an expression in which the rules on types find nothing is judged as the rules on flow judge it.
use Rattle.std.specs.Prelude.{◌≡◌, Bool, [], Some}
use Rattle.java_tree.specs.declared.tree.Expr.{Expr}
use Rattle.java_types.specs.declared.walk.Walk.{Walk}
use Rattle.java_types.specs.Expressions.{expr_walk}
use Rattle.java_flow.specs.Constants.{is_true}
use Rattle.java_flow.specs.Expressions.{judged}
use Rattle.access_blocks.specs.Resolving.{expression_of}
use Rattle.body_code.specs.Completing.{goes_on}
use Rattle.typed_bodies.specs.Reading.{Place, IsSound, Follows}
use Rattle.resolved_constants.specs.Constants.{IsJudged}

abbrev pub ConstantsAreKept : Type 0
ConstantsAreKept =
    (p : Place) → IsSound p → (x : Expr) (negated : Bool) (w : Walk) → (expr_walk p.env x negated w).walk.findings ≡ []
    → Follows p w (expr_walk p.env x negated w).walk (expression_of p.scope x) (λ names. IsJudged (expr_walk p.env x negated w).found (judged x))

-- A loop goes on by its resolved test exactly where the rules on flow judge the written one to be the constant `true`.
abbrev pub TestsAreKept : Type 0
TestsAreKept =
    (p : Place) → IsSound p → (x : Expr) (negated : Bool) (w : Walk) → (expr_walk p.env x negated w).walk.findings ≡ []
    → Follows p w (expr_walk p.env x negated w).walk (expression_of p.scope x) (λ names r. goes_on (Some r.expression) ≡ is_true (judged x).constant)
