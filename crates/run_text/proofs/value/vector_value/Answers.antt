use Rattle.std.proofs.Common.{sym, ◌∙◌}
use Rattle.run_text.proofs.Elements.{vector_text, no_vector, not_empty}
use Rattle.run_text.proofs.value.vector_value.Goals as goal

pub returns-in-Some-2 : goal.returns-in-Some-2
returns-in-Some-2 c =
    let found = rw c.in-Some-2.is at c.in_ok-elements.ensures in
    (found.0, vector_text c.in-Some-2.elements c.in-Some.inner.now c.args.word.now found.1 c.in-Some.ensures)

pub returns-in-None : goal.returns-in-None
returns-in-None c =
    let none = rw c.in-None.is at c.in_ok-elements.ensures in
    no_vector c.in-Some.inner.now c.args.word.now (not_empty c.in-Some.inner.now (sym c.is_empty.ensures ∙ c.if-is_empty.false)) none c.in-Some.ensures
