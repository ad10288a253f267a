use Rattle.std.proofs.Common.{rules, ◌≢◌}
use Rattle.early_forms.proofs.Layers.{of_another}
use Rattle.early_forms.proofs.bodies.access_of.Goals as goal

pub returns-else-eq : goal.returns-else-eq
returns-else-eq c =
    let other : c.in-Of.name ≢ c.args.method.now = search rules in
    of_another _ _ _ _ _ c.in-Of.is other

pub returns-in_default : goal.returns-in_default
returns-in_default c field arguments same = c.in_default.not-Of field c.args.method.now arguments same
