use Rattle.std.proofs.Common.{◌≡◌, map, drop}
use Rattle.std.specs.List.{flat_map}
use Rattle.java_flow.specs.Points.{seen}
use Rattle.java_flow.specs.Statements.{item_of, scope_end}
use Rattle.java_flow.proofs.walk.Walk.end_items.Given as goal

abbrev pub invariant-loop-item : goal.invariant-loop-item
invariant-loop-item l = record {
  walked : scope_end (flat_map (λ i. i.names) (map item_of (drop l.item-index l.items))) (seen l.self) ≡ scope_end (flat_map (λ i. i.names) (map item_of l.items)) (seen l.initial.self);
  same : l.self.numbers.now ≡ l.initial.self.numbers.now;
}
