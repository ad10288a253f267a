use Rattle.std.proofs.Common.{rules}
use Rattle.run_text.specs.Lines.{IsWellSpelled, words}
use Rattle.run_text.specs.Schedules.{IsHeaderForm}
use Rattle.run_text.proofs.Steps.{refused_step, handed_on}
use Rattle.run_text.proofs.step.step_of.Goals as goal

pub returns-in_default-clause-bad : goal.returns-in_default-clause-bad
returns-in_default-clause-bad c =
    let spelled : IsWellSpelled c.args.line.now = search rules in
    let later : ¬ IsHeaderForm (words c.args.line.now) = search rules in
    refused_step c.args.fields.now c.args.calls c.args.room.now.widths c.args.line.now spelled later c.in_default.ensures

pub returns-clause-bad : goal.returns-clause-bad
returns-clause-bad c =
    let spelled : IsWellSpelled c.args.line.now = search rules in
    let later : ¬ IsHeaderForm (words c.args.line.now) = search rules in
    handed_on c.args.fields.now c.args.calls c.args.room.now.widths c.args.line.now c.in-Some.words c.step_from.result spelled later c.in-Some.ensures c.step_from.ensures.bad
