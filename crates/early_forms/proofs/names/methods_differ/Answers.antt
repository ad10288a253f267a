use Rattle.std.proofs.Common.{ap, ◌∙◌}
use Rattle.early_forms.proofs.Distinct.{texts}
use Rattle.early_forms.proofs.names.methods_differ.Goals as goal

pub returns : goal.returns
returns c = rw (ap texts c.as_slice.ensures.value ∙ c.in_ok-names.ensures) at c.are_distinct.ensures
