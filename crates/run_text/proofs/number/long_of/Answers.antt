use Rattle.std.proofs.Common.{sym, ◌∙◌}
use Rattle.run_text.proofs.Decimal.{no_number_form, no_number_text, parsed_or_none}
use Rattle.run_text.proofs.number.long_of.Goals as goal

pub returns-then-not-is_one_form : goal.returns-then-not-is_one_form
returns-then-not-is_one_form c = no_number_form c.args.bytes.now (sym c.is_one_form.ensures ∙ c.if-not-is_one_form.true)

pub returns-in-Ok : goal.returns-in-Ok
returns-in-Ok c =
    let read = rw c.in-Ok.ensures.cases.0 at c.parse.ensures.value.0 in
    rw c.ok.ensures.value (parsed_or_none c.args.bytes.now c.parse.result (sym c.is_one_form.ensures ∙ c.if-not-is_one_form.false) read)

pub returns-in-Err : goal.returns-in-Err
returns-in-Err c = no_number_text c.args.bytes.now c.in-Err.ensures.cases.0
