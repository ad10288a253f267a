use Rattle.std.proofs.Common.{◌≡◌, ◌++◌, take}
use Rattle.early_forms.proofs.Distinct.{texts}
use Rattle.early_forms.proofs.names.add_names.Given as goal

abbrev pub invariant-loop-name : goal.invariant-loop-name
invariant-loop-name l = texts l.texts.items ≡ texts l.initial.texts.items ++ take l.name-index l.names
