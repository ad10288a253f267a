use Rattle.std.proofs.lemmas.Result.{IfOk-weaker}
use Rattle.flat_code.specs.Items.{gathered_of, with_part}
use Rattle.task_code.specs.Gathering.{after}
use Rattle.task_code.proofs.Gathered.{last_gathered}
use Rattle.task_code.proofs.joins.gather.Goals as goal

pub returns : goal.returns
returns c =
    IfOk-weaker c.gather_one-2.result _ _
    (λ other one. last_gathered c.args.part.now c.args.others.now c.loop-at.at c.loop-at.values c.gather_one-2.new.values
    (after c.args.values.now (gathered_of (with_part c.args.part.now c.args.others.now))) other c.loop-at-test.false c.loop-at.invariant one)
    c.gather_one-2.ensures
