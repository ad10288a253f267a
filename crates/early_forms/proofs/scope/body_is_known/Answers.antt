use Rattle.std.proofs.Common.{◌++◌, take}
use Rattle.early_forms.specs.Names.{locals}
use Rattle.early_forms.proofs.Scopes.{scope_more, rest_more}
use Rattle.early_forms.proofs.scope.body_is_known.Goals as goal

pub loop-statement-preserved : goal.loop-statement-preserved
loop-statement-preserved c =
    let method = c.args.method.now in
    let statements = c.as_slice-statements.result.now in
    let scope = method.parameters ++ locals (take c.loop-statement.statement-index statements) in
    let held = c.loop-statement.invariant.held in
    let more = scope_more statements c.loop-statement.statement-index c.statement-item.result method.parameters c.loop-statement-test.true c.statement-item.is in
    let known = (c.statement_is_known.ensures scope held).0 c.if-not-statement_is_known.false in
    let rest = rest_more c.args.fields.now scope statements method.ending c.loop-statement.statement-index c.statement-item.result _
    c.loop-statement-test.true c.statement-item.is known c.loop-statement.invariant.rest in
    record {
      held = rw more (c.in_ok-declare_local.ensures scope held);
      rest = rw more rest;
    }
