-- Items that end a call.
use Rattle.sdg_base.specs.declared.item.Item.{Item}
use Rattle.sdg_base.specs.declared.item.Item.TheVariants as item
use Rattle.cluster.specs.declared.past.Ended.{Ended}

abbrev pub IsEnd : Item → Type 0
IsEnd (item.Done call outcome) = Unit {0}
IsEnd x = ⊥

-- how a call ended, as the item that says so
abbrev pub done : Ended → Item
done ended = item.Done ended.call ended.outcome
