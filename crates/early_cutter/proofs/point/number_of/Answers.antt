use Rattle.std.proofs.Common.{sym, ◌∙◌}
use Rattle.early_cutter.proofs.Numbering.{number_found, number_missing}
use Rattle.early_cutter.proofs.point.number_of.Goals as goal

pub returns-in-Some : goal.returns-in-Some
returns-in-Some c names held =
    let found = rw c.as_slice.ensures at c.in-Some.ensures.value in
    sym (number_found names c.args.name.now c.in-Some.number.now (sym (held.each c.args.name.now) ∙ sym found))

pub returns-in-None : goal.returns-in-None
returns-in-None c names held =
    let found = rw c.as_slice.ensures at c.in-None.ensures.value in
    held.as_many ∙ sym (number_missing names c.args.name.now (sym (held.each c.args.name.now) ∙ sym found))
