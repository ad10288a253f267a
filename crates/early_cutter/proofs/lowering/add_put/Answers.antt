use Rattle.early_cutter.proofs.CodeParts.{four_parts}
use Rattle.early_cutter.specs.Points.{point_at}
use Rattle.early_cutter.proofs.lowering.add_put.Goals as goal

pub returns-clause-code : goal.returns-clause-code
returns-clause-code c p at =
    let q = point_at c.args.field.now c.args.key.now p in
    let behind = c.in_ok-add_mark.ensures.point p at in
    four_parts c.args.code.now _ _ _ _ c.add_mark.new.code c.add_argument.new.code c.add_long.new.code _
    (c.in_ok-add_mark.ensures.code p at)
    (c.in_ok-add_argument.ensures q behind)
    (c.in_ok-add_long.ensures q.scope behind.scope)
    (rw c.field_number.ensures at c.in_ok-push.ensures.ok)
