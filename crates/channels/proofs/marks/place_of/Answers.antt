use Rattle.std.proofs.Common.{rules}
use Rattle.std.proofs.lemmas.Iterator.{YieldsList-from_slice}
use Rattle.std.proofs.lemmas.Iterator.Search.{position_from_yields_List}
use Rattle.channels.specs.Marks.{is_from}
use Rattle.channels.proofs.marks.place_of.Goals as goal

pub returns : goal.returns
returns c = position_from_yields_List (is_from c.args.from) _ _ _ c.position.ensures.ran (YieldsList-from_slice c.args.marks.now cc) (λ x b q k. search rules)
