use Rattle.early_forms.proofs.Injective.{improper}
use Rattle.early_forms.proofs.straight_form.Goals as goal

pub returns-else-branch-clause-refused : goal.returns-else-branch-clause-refused
returns-else-branch-clause-refused c =
    improper c.args.class.now c.in-Some.parts (rw c.in-Some.is at c.in_ok-parts.ensures) c.if-branch.false c.in_ok-is_proper.ensures
