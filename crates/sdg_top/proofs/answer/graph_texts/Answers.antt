use Rattle.sdg_top.specs.Commands.{Graph}
use Rattle.sdg_top.specs.Due.{DueForTexts, RefusesClass}
use Rattle.sdg_top.proofs.Replying.{class_refused}
use Rattle.sdg_top.proofs.answer.graph_texts.Goals as goal

pub returns-in-Takes-clause-due : goal.returns-in-Takes-clause-due
returns-in-Takes-clause-due c =
    let taken = rw c.in-Takes.is at c.in_ok-annotated.ensures.judges in
    c.answer_graph.ensures.due c.args.class_text.now taken.0 taken.1 taken.2

pub returns-in-Takes-clause-complete : goal.returns-in-Takes-clause-complete
returns-in-Takes-clause-complete c valid = c.answer_graph.ensures.done

pub returns-in-Refuses-clause-due : goal.returns-in-Refuses-clause-due
returns-in-Refuses-clause-due c =
    let judged = rw c.in-Refuses.is at c.in_ok-annotated.ensures.judges in
    class_refused (DueForTexts (Graph c.args.class_text.now)) c.refuse.result _ c.refuse.ensures.status c.refuse.ensures.text (RefusesClass _ _ c.in-Refuses.at judged)
