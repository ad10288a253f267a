use Rattle.std.proofs.Common.{◌≢◌, length, arith}
use Rattle.graph_file.proofs.Others.{access_else}
use Rattle.graph_file.proofs.instruction.access.Goals as goal

pub returns-in_default-clause-told : goal.returns-in_default-clause-told
returns-in_default-clause-told c =
    let other : length c.args.operands.now ≢ 2 = grind arith in
    rw c.here.ensures (access_else c.args.operands.now other)
