use Rattle.java_flow.proofs.Orders.{IsFirstOf}
use Rattle.java_flow.proofs.checking.least.Given as goal

abbrev pub invariant-loop-finding : goal.invariant-loop-finding
invariant-loop-finding l = IsFirstOf l.findings l.finding-index l.least
