-- What a conditional needs.
use Rattle.std.proofs.Common.{◌≡◌, ◌++◌, sym, ap, ◌∙◌}
use Rattle.access_blocks.specs.declared.body.Expression.{Expression, fold-roll-Expression}
use Rattle.access_blocks.specs.declared.body.Expression.TheVariants as x
use Rattle.access_blocks.specs.declared.body.Expression.TheOpen as e
use Rattle.body_code.specs.Typing.{Needs, needs, needs_step}

pub needs_conditional : (test a b : Expression) → (needs (x.Conditional test a b)).variables ≡ (needs test).variables ++ ((needs a).variables ++ (needs b).variables)
needs_conditional test a b = ap (λ y. (needs y).variables) (sym (x.rolls-Conditional test a b)) ∙ ap (λ (n : Needs). n.variables) (fold-roll-Expression Needs needs_step (e.Conditional test a b))
