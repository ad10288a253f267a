use Rattle.std.proofs.Common.{◌≡◌, ◌++◌, drop, map}
use Rattle.sdg_top.specs.Entrances.{value_type_of}
use Rattle.sdg_top.proofs.called.value_types.Given as goal

-- the types so far and those to come are those of all parameters
abbrev pub invariant-loop-param : goal.invariant-loop-param
invariant-loop-param l = l.types ++ map (λ p. value_type_of p.type_name) (drop l.param-index l.params) ≡ map (λ p. value_type_of p.type_name) l.params
