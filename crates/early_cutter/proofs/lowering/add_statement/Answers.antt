use Rattle.early_cutter.proofs.CodeParts.{two_parts}
use Rattle.early_cutter.specs.Points.{point_at}
use Rattle.early_cutter.proofs.lowering.add_statement.Goals as goal

pub returns-in_ok-add_store-in-Get-clause-code : goal.returns-in_ok-add_store-in-Get-clause-code
returns-in_ok-add_store-in-Get-clause-code c p at =
    let q = point_at c.in-Get.field c.in-Get.key p in
    rw c.in-Get.is (
    two_parts c.args.code.now _ _ c.add_get.new.code _ (c.in_ok-add_get-in-Get.ensures.code p at)
    (c.in_ok-add_store-in-Get.ensures.code q (c.in_ok-add_get-in-Get.ensures.point p at))
    )

pub returns-in_ok-add_store-in-Get-clause-point : goal.returns-in_ok-add_store-in-Get-clause-point
returns-in_ok-add_store-in-Get-clause-point c p at =
    let q = point_at c.in-Get.field c.in-Get.key p in
    rw c.in-Get.is (c.in_ok-add_store-in-Get.ensures.point q (c.in_ok-add_get-in-Get.ensures.point p at))
