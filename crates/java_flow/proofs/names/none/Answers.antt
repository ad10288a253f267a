use Rattle.java_flow.proofs.Standing.{none}
use Rattle.java_flow.proofs.names.none.Goals as goal

pub returns : goal.returns
returns c = λ numbers. none numbers (record { numbered = c.new.result; others = c.new-2.result }) c.new.ensures.items c.new-2.ensures.items
