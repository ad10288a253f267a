use Rattle.std.proofs.Common.{◌≡◌, ◌++◌, take}
use Rattle.early_forms.specs.Names.{locals}
use Rattle.early_forms.proofs.Distinct.{texts}
use Rattle.early_forms.proofs.names.add_locals.Given as goal

abbrev pub invariant-loop-statement : goal.invariant-loop-statement
invariant-loop-statement l = texts l.texts.items ≡ texts l.initial.texts.items ++ locals (take l.statement-index l.statements)
