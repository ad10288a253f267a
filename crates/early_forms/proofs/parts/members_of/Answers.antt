use Rattle.early_forms.proofs.Classes.{members_none}
use Rattle.early_forms.proofs.parts.members_of.Goals as goal

pub returns-in_default : goal.returns-in_default
returns-in_default c =
    members_none c.args.name.now c.args.members.now c.args.places.now _ c.in_ok-fields.ensures
    (let none = rw c.in_default.is at c.in_ok-methods.ensures in rw (c.split_at.ensures.back, c.len.ensures) at none)
