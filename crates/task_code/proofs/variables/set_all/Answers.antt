use Rattle.std.proofs.Common.{sym, ap, ◌∙◌, get_or}
use Rattle.std.proofs.Math.ListN.{set}
use Rattle.sdg_base.specs.declared.val.Val.{Val}
use Rattle.flat_code.specs.Items.{set_all}
use Rattle.task_code.proofs.Vars.{set_all-next, set_all-past}
use Rattle.task_code.proofs.variables.set_all.Goals as goal

pub returns-then-at-values : goal.returns-then-at-values
returns-then-at-values c =
    sym (set_all-past c.args.numbers.now c.args.values.now c.loop-at.variables.items c.loop-at.at c.if-at-values.true) ∙ c.loop-at.invariant

pub loop-at-preserved : goal.loop-at-preserved
loop-at-preserved c =
    set_all-next c.args.numbers.now c.args.values.now c.loop-at.variables.items _ (set_all c.args.numbers.now c.args.values.now c.args.variables.now.items) c.loop-at.at c.index-values-at.result
    c.loop-at-test.true c.if-at-values.false c.index-values-at.is
    (c.set_variable.ensures ∙ ap (λ (x : Val). set c.loop-at.variables.items (get_or c.args.numbers.now c.loop-at.at 0) x) c.in_ok-value.ensures)
    c.loop-at.invariant
