-- What the program's senders and outputs stand for.
use Rattle.std.specs.Prelude.{◌≡◌, ℕ, List, [], Option, Some, None, IsSome}
use Rattle.sdg_base.specs.declared.item.Item.{Item}
use Rattle.sdg_base.specs.declared.item.Item.TheVariants as item
use Rattle.sdg_base.specs.declared.port.Port.{Port}
use Rattle.sdg_base.specs.declared.port.Port.TheVariants as port
use Rattle.sdg_base.specs.declared.val.Val.{Val}
use Rattle.state_classes.specs.States.{State}
use Rattle.flat_code.specs.declared.graph.GraphMethod.{GraphMethod}
use Rattle.flat_code.specs.declared.graph.Task.{Task}
use Rattle.flat_code.specs.Items as items
use Rattle.flat_code.specs.Machine as machine
use Rattle.task_code.specs.declared.engine.Engine.{Engine}
use Rattle.task_code.specs.declared.out.Out.{Out}
use Rattle.task_code.specs.declared.out.Out.TheVariants as out
use Rattle.task_code.specs.declared.sender.Sender.{Sender}
use Rattle.task_code.specs.declared.sender.Visited.{Visited}
use Rattle.task_code.specs.Seen.{setting_of}

abbrev pub output_of : Out → items.Output
output_of (out.Send to x) = items.Send to x
output_of (out.Broadcast f width x) = items.Broadcast f width x
output_of (out.Part x) = items.Part x
output_of (out.Result x) = items.Result x
output_of out.Wait = items.Wait

-- this was given, and this state left
abbrev pub gives : Out → State → items.Gives
gives o state = Some (record { output = output_of o; state = state })

abbrev pub visited_of : Option Visited → Option items.Visited
visited_of None = None
visited_of (Some v) = Some (record { width = v.width; instance = v.instance; task = v.task })

abbrev pub sender_of : Sender → items.Sender
sender_of s = record {
  graph = s.graph.now;
  widths = s.widths.now;
  pick = s.pick;
  call = s.call;
  visited = visited_of s.visited;
}

-- what is given whatever the state, where it is given at one
abbrev pub CanGive : (State → items.Gives) → Type 0
CanGive given = (state : State) × IsSome (given state)

abbrev pub Gives : (State → items.Gives) → Out → Type 0
Gives given o = (state : State) → given state ≡ gives o state

-- a task of a method, run from the values that its item carries
abbrev pub task_run : Engine → GraphMethod → Task → ℕ → List Val → State → Option machine.Ran
task_run e m t turns values state =
    machine.run (setting_of e) m.code (record { at = t.at; stack = []; variables = items.carried_variables m t values; turns = turns }) state

-- the visit that an item is, at an instance
abbrev pub visit_at : Port → Item → Option items.Visited
visit_at (port.Inst f n) (item.Visit call t width turns vs) = items.visit width n t
visit_at _ _ = None
