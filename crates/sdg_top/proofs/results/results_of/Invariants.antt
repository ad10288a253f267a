use Rattle.std.proofs.Common.{◌≡◌, ◌++◌, map, drop}
use Rattle.sdg_top.proofs.results.results_of.Given as goal

-- the results so far and those to come are those of all
abbrev pub invariant-loop-commit : goal.invariant-loop-commit
invariant-loop-commit l = record {
  told : l.results.items ++ map (λ c. (c.shown.call, c.shown.outcome)) (drop l.commit-index l.commits) ≡ map (λ c. (c.shown.call, c.shown.outcome)) l.commits;
}
