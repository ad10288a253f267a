use Rattle.std.proofs.Common.{ℕ, Option, Some, sym, ap, ◌∙◌}
use Rattle.std.proofs.lemmas.Result.{IfOk-weaker}
use Rattle.std.specs.List.{slice_get}
use Rattle.flat_code.specs.Items as items
use Rattle.task_code.specs.declared.sender.Visited.{Visited}
use Rattle.task_code.specs.Given.{sender_of, visited_of}
use Rattle.task_code.specs.Seen.{frame_of}
use Rattle.task_code.proofs.sender.Sender.stopped.Goals as goal

pub returns-in-None : goal.returns-in-None
returns-in-None c = λ state.
    ap (λ (v : Option Visited). items.stopped (sender_of c.args.self.now) (visited_of v) (frame_of c.args.frame.now) c.args.how state) c.in-None.is ∙ c.done.ensures state

pub returns-in-Some-join_number : goal.returns-in-Some-join_number
returns-in-Some-join_number c =
    let s = sender_of c.args.self.now in
    let f = frame_of c.args.frame.now in
    IfOk-weaker c.parted.result _ _
    (λ out gives state.
    ap (λ (v : Option Visited). items.stopped s (visited_of v) f c.args.how state) c.in-Some.is
    ∙ ap (λ (join : Option ℕ). items.part_for_join s (visited_of (Some c.in-Some.visited)) join f c.args.how state) (sym c.in-Some-join_number.ensures)
    ∙ ap (λ (v : Option Visited). items.parted s (visited_of v) c.in-Some-join_number.join (slice_get s.graph.tasks c.in-Some-join_number.join) f c.args.how state) (sym c.in-Some.is)
    ∙ gives state)
    c.parted.ensures
