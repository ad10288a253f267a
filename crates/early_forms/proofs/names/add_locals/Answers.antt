use Rattle.early_forms.proofs.Scopes.{locals_onto}
use Rattle.early_forms.proofs.names.add_locals.Goals as goal

pub loop-statement-preserved : goal.loop-statement-preserved
loop-statement-preserved c =
    locals_onto c.args.statements.now c.loop-statement.statement-index c.statement-item.result _ _ _
    c.loop-statement-test.true c.statement-item.is c.loop-statement.invariant c.in_ok-add_local.ensures
