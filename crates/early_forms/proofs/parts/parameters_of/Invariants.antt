use Rattle.std.proofs.Common.{◌≡◌, map, take}
use Rattle.early_forms.specs.Trees.{long_parameter}
use Rattle.early_forms.proofs.parts.parameters_of.Given as goal

abbrev pub invariant-loop-parameter : goal.invariant-loop-parameter
invariant-loop-parameter l = take l.parameter-index l.parameters ≡ map long_parameter l.names
