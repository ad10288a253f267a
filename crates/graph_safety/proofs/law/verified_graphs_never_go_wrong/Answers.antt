use Rattle.graph_safety.proofs.Safety.{goes_right}
use Rattle.graph_safety.proofs.Small.{small_is_verified}
use Rattle.graph_safety.proofs.law.verified_graphs_never_go_wrong.Goals as goal

pub returns-clause-never_wrong : goal.returns-clause-never_wrong
returns-clause-never_wrong c = goes_right

pub returns-clause-there_are_some : goal.returns-clause-there_are_some
returns-clause-there_are_some c = small_is_verified
