use Rattle.std.proofs.Common.{◌≡◌, map, drop}
use Rattle.java_flow.specs.Points.{seen}
use Rattle.java_flow.specs.Statements.{item_of, items_walk}
use Rattle.java_flow.proofs.walk.Walk.+statements.Given as goal

abbrev pub invariant-block-loop-item : goal.invariant-block-loop-item
invariant-block-loop-item l = record {
  walked : items_walk (map item_of (drop l.item-index l.items)) (seen l.self) ≡ items_walk (map item_of l.items) (seen l.initial.self);
  same : l.self.numbers.now ≡ l.initial.self.numbers.now;
}
