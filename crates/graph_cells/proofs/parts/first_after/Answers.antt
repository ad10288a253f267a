use Rattle.std.proofs.Common.{rules}
use Rattle.std.proofs.lemmas.Iterator.{YieldsList-from_slice}
use Rattle.std.proofs.lemmas.Iterator.Search.{position_from_yields_List}
use Rattle.graph_cells.specs.Gathered.{is_before}
use Rattle.graph_cells.proofs.parts.first_after.Goals as goal

pub returns : goal.returns
returns c = position_from_yields_List (is_before c.args.part.now) _ _ _ c.position.ensures.ran (YieldsList-from_slice c.args.others.now cc) (λ x b q k. search rules)
