use Rattle.run_text.proofs.Elements.{no_element}
use Rattle.run_text.proofs.value.elements_of.Goals as goal

pub returns-in_default : goal.returns-in_default
returns-in_default c = λ ns fit same.
    no_element c.loop-n.elements ns c.cut.result.0.now _ _ fit (rw c.cut.ensures.parts at c.loop-n.invariant.told) same c.in_default.ensures
