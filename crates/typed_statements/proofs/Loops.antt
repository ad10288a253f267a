-- Loops go where their bodies go, and where the statements and tests in their headers do.
use Rattle.typed_statements.specs.Leaves.{LeavesGo, LoopsGo}
use Rattle.typed_statements.proofs.Whiles.{while_goes}
use Rattle.typed_statements.proofs.Fors.{for_goes}

pub loops_go : LeavesGo → LoopsGo
loops_go leaves = record { whiles = while_goes leaves; fors = for_goes leaves }
