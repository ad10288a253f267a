use Rattle.std.proofs.Common.{ap, sym, ◌∙◌, take, length, length-append}
use Rattle.std.proofs.lemmas.List.{take_all}
use Rattle.early_forms.specs.Names.{locals}
use Rattle.early_cutter.specs.Lowering.{first_point, point_at_end}
use Rattle.early_cutter.proofs.CodeParts.{point_more, body_more, scope_length}
use Rattle.early_cutter.proofs.lowering.lowered.Goals as goal

pub loop-statement-preserved : goal.loop-statement-preserved
loop-statement-preserved c =
    let method = c.args.method.now in
    let first = first_point c.args.start method in
    let statements = c.as_slice-statements.result.now in
    let i = c.loop-statement.statement-index in
    let p = point_at_end first (take i statements) in
    let at = c.loop-statement.invariant.here in
    let more = point_more first statements i c.statement-item.result c.loop-statement-test.true c.statement-item.is in
    let code = body_more c.args.fields.now p statements method.ending i c.statement-item.result c.loop-statement.code c.add_statement.new.code _
    c.loop-statement-test.true c.statement-item.is (c.in_ok-add_statement.ensures.code p at) c.loop-statement.invariant.code in
    record { here = rw more (c.in_ok-add_statement.ensures.point p at); code = rw more code }

pub returns-clause-count : goal.returns-clause-count
returns-clause-count c =
    let method = c.args.method.now in
    let first = first_point c.args.start method in
    let statements = c.as_slice-statements.result.now in
    let whole = take_all c.loop-statement.statement-index statements c.loop-statement-test.false in
    c.in_ok-add_ending.ensures.count ∙ c.loop-statement.invariant.here.scope.as_many
    ∙ ap (λ ss. length (point_at_end first ss).scope) (whole ∙ c.as_slice-statements.ensures)
    ∙ scope_length first method.statements ∙ sym (length-append method.parameters (locals method.statements))
