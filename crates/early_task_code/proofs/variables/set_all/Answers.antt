use Rattle.std.proofs.Common.{sym, ap, ◌∙◌, get_or, arith}
use Rattle.std.proofs.Math.ListN.{set}
use Rattle.sdg_base.specs.declared.val.Val.{Val}
use Rattle.early_task_code.specs.Machine.{set_all}
use Rattle.early_task_code.proofs.Vars.{set_all-next, set_all-past, set_all-skip}
use Rattle.early_task_code.proofs.variables.set_all.Goals as goal
use Rattle.early_task_code.proofs.variables.set_all.Goals.{then-variable-len+in_ok-copy_of, else-variable-len}

pub returns-then-at-values : goal.returns-then-at-values
returns-then-at-values c =
    sym (set_all-past c.args.numbers.now c.args.values.now c.loop-at.vars c.loop-at.at c.if-at-values.true) ∙ c.loop-at.invariant

pub loop-at-preserved : goal.loop-at-preserved
loop-at-preserved c =
    let whole = set_all c.args.numbers.now c.args.values.now c.args.vars.now in
    elim c.if-variable-len.branch [
      | then-variable-len+in_ok-copy_of w ↦
          set_all-next c.args.numbers.now c.args.values.now c.loop-at.vars c.if-variable-len.vars whole c.loop-at.at w.index-values-at.result c.loop-at-test.true c.if-at-values.false w.index-values-at.is
          (w.vars-is ∙ w.set.ensures ∙ ap (λ (x : Val). set c.loop-at.vars (get_or c.args.numbers.now c.loop-at.at 0) x) w.in_ok-copy_of.ensures)
          c.loop-at.invariant
      | else-variable-len w ↦
          set_all-skip c.args.numbers.now c.args.values.now c.loop-at.vars c.if-variable-len.vars whole c.loop-at.at c.loop-at-test.true c.if-at-values.false (omega arith) w.vars-is c.loop-at.invariant
    ]
