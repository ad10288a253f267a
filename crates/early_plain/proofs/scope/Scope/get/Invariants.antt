use Rattle.std.proofs.Common.{◌≡◌, drop}
use Rattle.std.specs.Option.{option_copied}
use Rattle.early_source.specs.Variables.{named}
use Rattle.early_plain.proofs.Lookups.{latest}
use Rattle.early_plain.proofs.scope.Scope.get.Given as goal

-- what was found so far, and then the locals that are left
abbrev pub invariant-loop-local : goal.invariant-loop-local
invariant-loop-local l = named l.name l.self ≡ latest l.name (option_copied l.found) (drop l.local-index l.local-items)
