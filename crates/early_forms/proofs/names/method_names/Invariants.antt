use Rattle.std.proofs.Common.{◌≡◌, map, take}
use Rattle.early_forms.proofs.names.method_names.Given as goal

abbrev pub invariant-loop-method : goal.invariant-loop-method
invariant-loop-method l = map (λ text. text.now) l.names.items ≡ map (λ m. m.name) (take l.method-index l.methods)
