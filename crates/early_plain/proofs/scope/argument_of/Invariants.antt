use Rattle.std.proofs.Common.{◌≡◌, drop}
use Rattle.std.specs.List.{zip}
use Rattle.early_source.specs.Variables.{named}
use Rattle.early_plain.proofs.scope.argument_of.Given as goal

-- the parameters so far have other names
abbrev pub invariant-loop-at : goal.invariant-loop-at
invariant-loop-at l = named l.name (zip (drop l.at l.parameters) (drop l.at l.arguments)) ≡ named l.name (zip l.parameters l.arguments)
