use Rattle.run_text.proofs.Parts.{lines_more}
use Rattle.run_text.proofs.line.first_line.Goals as goal

pub returns-clause-lines : goal.returns-clause-lines
returns-clause-lines c =
    rw (c.cut.ensures.parts, c.in-Some.is, c.without_return.ensures) (lines_more c.cut.result.0.now c.in-Some.rest.now)
