use Rattle.std.proofs.Common.{rules, arith}
use Rattle.std.proofs.lemmas.Grind.{common_steps}
use Rattle.java_tree.specs.declared.tree.CallForm.TheViews.{the_lemmas}
use Rattle.java_flow.proofs.walk.Walk.+expressions.Goals as goal

pub call-args-requires-in-OfMember : goal.call-args-requires-in-OfMember
call-args-requires-in-OfMember t c = (first_of (omega arith, search (rules, the_lemmas), grind (arith, common_steps)), tt)
