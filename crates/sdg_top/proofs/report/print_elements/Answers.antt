use Rattle.std.proofs.Common.{arith}
use Rattle.std.proofs.lemmas.Grind.{common_steps}
use Rattle.sdg_top.proofs.Commas.{join_of_first_and_rest}
use Rattle.sdg_top.proofs.report.print_elements.Goals as goal

pub returns : goal.returns
returns c =
    let joined = join_of_first_and_rest c.args.elements.now c.in-Some.first.now c.in-Some.rest.now c.in-Some.ensures.cases.0 in
    grind (arith, common_steps)
