use Rattle.early_forms.proofs.NameSets.{push_holds}
use Rattle.early_forms.proofs.scope.declare.Goals as goal

pub returns : goal.returns
returns c names held =
    push_holds c.args.scope.now.keys c.insert.new.self.keys names c.args.name.now held
    (λ q. rw c.as_slice.ensures at (c.in_ok-insert.ensures.updates.0 (record { ref_ptr = c.args.name.ref_ptr; now = q })))
