use Rattle.std.proofs.Common.{arith}
use Rattle.graph_file.proofs.Others.{none_else}
use Rattle.graph_file.proofs.instruction.none.Goals as goal

pub returns-in_default-clause-told : goal.returns-in_default-clause-told
returns-in_default-clause-told c = rw c.here.ensures (none_else c.args.instr c.args.operands.now (λ e. omega arith))
