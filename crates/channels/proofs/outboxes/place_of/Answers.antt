use Rattle.std.proofs.Common.{rules}
use Rattle.std.proofs.lemmas.Iterator.{YieldsList-from_slice}
use Rattle.std.proofs.lemmas.Iterator.Search.{position_from_yields_List}
use Rattle.channels.specs.Outboxes.{is_to}
use Rattle.channels.proofs.outboxes.place_of.Goals as goal

pub returns : goal.returns
returns c = position_from_yields_List (is_to c.args.to) _ _ _ c.position.ensures.ran (YieldsList-from_slice c.args.sendings.now cc) (λ x b q k. search rules)
