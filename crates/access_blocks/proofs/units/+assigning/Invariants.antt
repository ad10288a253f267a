use Rattle.std.proofs.Common.{◌≡◌, drop, map}
use Rattle.std.specs.List.{list_any}
use Rattle.access_blocks.specs.Marks as spec
use Rattle.access_blocks.proofs.units.+assigning.Given as goal

abbrev pub invariant-any_assigns-loop-st : goal.invariant-any_assigns-loop-st
invariant-any_assigns-loop-st l =
    list_any (λ b. b) (map (spec.assigns l.variable) (drop l.st-index l.all)) ≡ list_any (λ b. b) (map (spec.assigns l.variable) l.all)
