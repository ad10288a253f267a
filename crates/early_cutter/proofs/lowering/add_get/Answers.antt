use Rattle.early_cutter.proofs.CodeParts.{three_parts}
use Rattle.early_cutter.specs.Points.{point_at}
use Rattle.early_cutter.proofs.lowering.add_get.Goals as goal

pub returns-clause-code : goal.returns-clause-code
returns-clause-code c p at =
    three_parts c.args.code.now _ _ _ c.add_mark.new.code c.add_argument.new.code _
    (c.in_ok-add_mark.ensures.code p at)
    (c.in_ok-add_argument.ensures (point_at c.args.field.now c.args.key.now p) (c.in_ok-add_mark.ensures.point p at))
    (rw c.field_number.ensures at c.in_ok-push.ensures.ok)
