-- What machines and answers of the program stand for.
use Rattle.std.specs.Prelude.{◌≡◌, ℕ, Option, Some, None, Result, Ok, Err, IfOk, IsErr}
use Rattle.access_blocks.specs.Expressions.{Ended, Gives, Ends}
use Rattle.access_blocks.specs.Statements as definitions
use Rattle.body_run.specs.declared.completion.Completion.{Completion}
use Rattle.body_run.specs.declared.completion.Completion.TheVariants as completion
use Rattle.body_run.specs.declared.machine.Machine.{Machine}
use Rattle.body_run.specs.declared.stop.Stop.{Stop}
use Rattle.body_run.specs.declared.stop.Stop.TheVariants as stop

abbrev pub machine_of : Machine → definitions.Machine
machine_of m = record {
  variables = m.variables.items;
  key = m.key;
  gathered = m.gathered;
  turns = m.turns;
  fields = m.fields.items;
  instance = m.instance;
}

-- Nothing is given: so the call ends, or memory ran out.
abbrev pub Stops : {A : Type 0} → Stop → Ended A → Type 0
Stops stop.Memory e = Unit {0}
Stops (stop.Halt h) e = e ≡ Ends h

-- What a function returned, with the turns that are left, is what evaluating gives, unless memory ran out.
abbrev pub Evaluates : {X A : Type 0} → (X → A) → Result (X × ℕ) Stop → Ended A → Type 0
Evaluates view (Ok x) e = e ≡ Gives (view x.0) x.1
Evaluates view (Err s) e = Stops s e

abbrev pub completion_of : Completion → definitions.Completion
completion_of completion.Normal = definitions.Normal
completion_of completion.Breaks = definitions.Breaks
completion_of completion.Continues = definitions.Continues
completion_of (completion.Returns v) = definitions.Returns v
completion_of (completion.Halts h) = definitions.Halts h

-- Nothing is done any more: so the call ends, which leaves this machine, or memory ran out.
abbrev pub StopsAt : Stop → definitions.Machine → definitions.Completed → Type 0
StopsAt stop.Memory m e = Unit {0}
StopsAt (stop.Halt h) m e = e ≡ definitions.completed (definitions.Halts h) m

-- What a function returned, and the machine that it left, are how a statement completes, unless memory ran out.
abbrev pub Completes : Result Completion Stop → definitions.Machine → definitions.Completed → Type 0
Completes (Ok c) m e = e ≡ definitions.completed (completion_of c) m
Completes (Err s) m e = StopsAt s m e

-- What follows, follows in the machine that a function left; where the call ends or memory ran out, nothing does.
abbrev pub Passes : {X : Type 0} → Result X Stop → definitions.Machine → (definitions.Running → definitions.Completed) → Type 0
Passes (Ok x) m e = (f : definitions.Running) → e f ≡ f m
Passes (Err s) m e = (f : definitions.Running) → StopsAt s m (e f)

-- Either what follows a pass of a loop follows, or the loop has completed.
abbrev pub Goes : Result (Option Completion) Stop → definitions.Machine → (definitions.Running → definitions.Completed) → Type 0
Goes (Ok None) m e = (f : definitions.Running) → e f ≡ f m
Goes (Ok (Some c)) m e = (f : definitions.Running) → e f ≡ definitions.completed (completion_of c) m
Goes (Err s) m e = (f : definitions.Running) → StopsAt s m (e f)

-- how statements complete where a call that ends is one of the ways, unless memory ran out
abbrev pub Shows : {E : Type 0} → Result Completion Stop → Result Completion E → Type 0
Shows (Ok c) r = IfOk r (λ d. d ≡ c)
Shows (Err stop.Memory) r = IsErr r
Shows (Err (stop.Halt h)) r = IfOk r (λ d. d ≡ completion.Halts h)
