use Rattle.std.specs.Str.Lines.{lines}
use Rattle.std.proofs.lemmas.Result.{err_from_is_err_and}
use Rattle.history_run.proofs.Reading.{memory, front_illegal}
use Rattle.history_run.proofs.text.answer.Goals as goal

-- the lines before the first one that breaks a rule have a history, so only memory is short
pub returns-in_err-before-in-Err-Bad : goal.returns-in_err-before-in-Err-Bad
returns-in_err-before-in-Err-Bad c =
    let p = err_from_is_err_and c.from_residual.result c.from_residual.ensures.1 in
    let before = rw c.in-Err-Bad.field-0-is at c.in-Err-Bad.ensures.before in
    rw (p.1, p.2) (memory c.args.program.now c.args.calls.now c.args.fields.now (lines c.args.bytes.now) c.in_err-before-in-Err-Bad.field-0.0
    (c.in_err-before-in-Err-Bad.ensures.only_history before.0 (rw c.lines_before.ensures.lines before.1)))

pub returns-in_err-stepped-in-Err-Bad : goal.returns-in_err-stepped-in-Err-Bad
returns-in_err-stepped-in-Err-Bad c =
    let p = err_from_is_err_and c.from_residual-in_err-stepped-in-Err-Bad.result c.from_residual-in_err-stepped-in-Err-Bad.ensures.1 in
    let first = rw (c.in-Err-Bad.field-0-is, c.len-count.ensures) at c.in-Err-Bad.ensures.bad in
    let before = rw (c.lines_before.ensures.lines, c.len-count.ensures) at c.in_ok-before-in-Err-Bad.ensures.found in
    rw (p.1, p.2) (front_illegal c.args.program.now c.args.calls.now c.args.fields.now (lines c.args.bytes.now) c.in_ok-before-in-Err-Bad.before c.in-Err-Bad.line c.in-Err-Bad.rule
    c.in_err-stepped-in-Err-Bad.field-0.0 first before c.in_err-stepped-in-Err-Bad.ensures.illegal)
