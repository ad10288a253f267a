use Rattle.std.proofs.Common.{◌≡◌, drop, fold, map}
use Rattle.std.specs.List.{flat_map}
use Rattle.access_blocks.specs.Marks as spec
use Rattle.access_blocks.proofs.units.+reaching.Given as goal

abbrev pub invariant-all_reached-loop-st : goal.invariant-all_reached-loop-st
invariant-all_reached-loop-st l =
    fold spec.also l.known (flat_map (λ xs. xs) (map spec.sites_in (drop l.st-index l.all)))
    ≡ fold spec.also l.initial.known (flat_map (λ xs. xs) (map spec.sites_in l.all))
