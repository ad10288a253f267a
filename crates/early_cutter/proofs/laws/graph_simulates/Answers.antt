use Rattle.early_cutter.proofs.Simulates.{simulates}
use Rattle.early_cutter.proofs.laws.graph_simulates.Goals as goal

pub returns : goal.returns
returns c = simulates
