-- The values of expressions with operands, by what the interpreter makes of them.
use Rattle.std.proofs.Common.{◌≡◌, ℕ, ap, sym, ◌∙◌}
use Rattle.sdg_base.specs.declared.operator.BinOp.{BinOp}
use Rattle.sdg_base.specs.declared.operator.UnOp.{UnOp}
use Rattle.sdg_base.specs.declared.val.Num.{Num}
use Rattle.sdg_base.specs.declared.val.Val.{Val}
use Rattle.access_blocks.specs.declared.body.Expression.{Expression, fold-roll-Expression}
use Rattle.access_blocks.specs.declared.body.Expression.TheVariants as x
use Rattle.access_blocks.specs.declared.body.Expression.TheOpen.{Expression-F}
use Rattle.access_blocks.specs.declared.body.Expression.TheOpen as e
use Rattle.access_blocks.specs.Expressions.{Calls, Ended, Meaning, Seen, followed, value_of, expression_step}
use Rattle.body_run.specs.Applications.{applied, binary_value, conditional_value, gathered_element_value}
use Rattle.body_run.specs.declared.application.Application.{Application}
use Rattle.body_run.specs.declared.application.Application.TheVariants as by

-- the value of an expression with one operand
abbrev pub application_value : Calls → Application → Expression → Seen → ℕ → Ended Val
application_value calls f a seen turns = followed (value_of calls a seen turns) (λ v left. applied f v seen left)

pub unary_value : (calls : Calls) (op : UnOp) (a : Expression) (seen : Seen) (turns : ℕ) → value_of calls (x.Unary op a) seen turns ≡ application_value calls (by.Unary op) a seen turns
unary_value calls op a seen turns =
    ap (λ y. value_of calls y seen turns) (sym (x.rolls-Unary op a)) ∙ ap (λ (m : Meaning). m seen turns) (fold-roll-Expression Meaning (expression_step calls) (e.Unary op a))

pub cast_value : (calls : Calls) (to : Num) (a : Expression) (seen : Seen) (turns : ℕ) → value_of calls (x.Cast to a) seen turns ≡ application_value calls (by.Cast to) a seen turns
cast_value calls to a seen turns =
    ap (λ y. value_of calls y seen turns) (sym (x.rolls-Cast to a)) ∙ ap (λ (m : Meaning). m seen turns) (fold-roll-Expression Meaning (expression_step calls) (e.Cast to a))

pub new_vector_value : (calls : Calls) (a : Expression) (seen : Seen) (turns : ℕ) → value_of calls (x.NewVector a) seen turns ≡ application_value calls by.NewVector a seen turns
new_vector_value calls a seen turns =
    ap (λ y. value_of calls y seen turns) (sym (x.rolls-NewVector a)) ∙ ap (λ (m : Meaning). m seen turns) (fold-roll-Expression Meaning (expression_step calls) (e.NewVector a))

pub vector_element_value : (calls : Calls) (v : ℕ) (a : Expression) (seen : Seen) (turns : ℕ) → value_of calls (x.VectorElement v a) seen turns ≡ application_value calls (by.VectorElement v) a seen turns
vector_element_value calls v a seen turns =
    ap (λ y. value_of calls y seen turns) (sym (x.rolls-VectorElement v a)) ∙ ap (λ (m : Meaning). m seen turns) (fold-roll-Expression Meaning (expression_step calls) (e.VectorElement v a))

pub gathered_value : (calls : Calls) (a : Expression) (seen : Seen) (turns : ℕ) → value_of calls (x.Gathered a) seen turns ≡ application_value calls by.Gathered a seen turns
gathered_value calls a seen turns =
    ap (λ y. value_of calls y seen turns) (sym (x.rolls-Gathered a)) ∙ ap (λ (m : Meaning). m seen turns) (fold-roll-Expression Meaning (expression_step calls) (e.Gathered a))

pub gathered_size_value : (calls : Calls) (a : Expression) (seen : Seen) (turns : ℕ) → value_of calls (x.GatheredSize a) seen turns ≡ application_value calls by.GatheredSize a seen turns
gathered_size_value calls a seen turns =
    ap (λ y. value_of calls y seen turns) (sym (x.rolls-GatheredSize a)) ∙ ap (λ (m : Meaning). m seen turns) (fold-roll-Expression Meaning (expression_step calls) (e.GatheredSize a))

pub binary_is : (calls : Calls) (op : BinOp) (a b : Expression) (seen : Seen) (turns : ℕ) → value_of calls (x.Binary op a b) seen turns ≡ binary_value calls op a b seen turns
binary_is calls op a b seen turns =
    ap (λ y. value_of calls y seen turns) (sym (x.rolls-Binary op a b)) ∙ ap (λ (m : Meaning). m seen turns) (fold-roll-Expression Meaning (expression_step calls) (e.Binary op a b))

pub conditional_is : (calls : Calls) (test a b : Expression) (seen : Seen) (turns : ℕ) → value_of calls (x.Conditional test a b) seen turns ≡ conditional_value calls test a b seen turns
conditional_is calls test a b seen turns =
    ap (λ y. value_of calls y seen turns) (sym (x.rolls-Conditional test a b)) ∙ ap (λ (m : Meaning). m seen turns) (fold-roll-Expression Meaning (expression_step calls) (e.Conditional test a b))

pub gathered_element_is : (calls : Calls) (at index : Expression) (seen : Seen) (turns : ℕ) → value_of calls (x.GatheredElement at index) seen turns ≡ gathered_element_value calls at index seen turns
gathered_element_is calls at index seen turns =
    ap (λ y. value_of calls y seen turns) (sym (x.rolls-GatheredElement at index)) ∙ ap (λ (m : Meaning). m seen turns) (fold-roll-Expression Meaning (expression_step calls) (e.GatheredElement at index))
