use Rattle.std.proofs.Common.{◌≡◌, ◌+◌, ap, sym, ◌∙◌, ◌++◌, ◌∷◌, [], arith}
use Rattle.std.specs.List.{range_with_len}
use Rattle.task_cutter.proofs.Ranges.{range_more}
use Rattle.task_cutter.proofs.task.first_numbers.Goals as goal

pub loop-number-preserved : goal.loop-number-preserved
loop-number-preserved c =
    let number = c.loop-number.number in
    let same : 0 + number ≡ number = omega arith in
    c.in_ok-push.ensures.ok ∙ ap (λ xs. xs ++ number ∷ []) c.loop-number.invariant
    ∙ sym (range_more 0 number ∙ ap (λ x. range_with_len 0 number ++ x ∷ []) same)
