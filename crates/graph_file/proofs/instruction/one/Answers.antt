use Rattle.std.proofs.Common.{◌≢◌, length, arith}
use Rattle.graph_file.proofs.Others.{one_else}
use Rattle.graph_file.proofs.instruction.one.Goals as goal

pub returns-in_default-clause-told : goal.returns-in_default-clause-told
returns-in_default-clause-told g c =
    let other : length c.args.operands.now ≢ 1 = grind arith in
    rw c.here.ensures (one_else g.T.Form.form c.args.operands.now other)
