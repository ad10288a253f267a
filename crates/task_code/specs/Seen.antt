-- What the engine's frames, steps and ends stand for.
use Rattle.std.specs.Prelude.{◌≡◌, ℕ, suc, List, [], ◌∷◌, Option, Some, None, IsSome}
use Rattle.sdg_base.specs.declared.val.Val.TheVariants as val
use Rattle.sdg_base.specs.declared.val.Val.{Val}
use Rattle.state_classes.specs.States.{State}
use Rattle.flat_code.specs.declared.graph.GraphMethod.{GraphMethod}
use Rattle.flat_code.specs.declared.graph.Instr.{Instr}
use Rattle.flat_code.specs.Machine as machine
use Rattle.task_code.specs.declared.engine.Engine.{Engine}
use Rattle.task_code.specs.declared.frame.Frame.{Frame}
use Rattle.task_code.specs.declared.step.Ending.{Ending}
use Rattle.task_code.specs.declared.step.Ending.TheVariants as ending
use Rattle.task_code.specs.declared.step.Called.{Called}
use Rattle.task_code.specs.declared.step.Called.TheVariants as called
use Rattle.task_code.specs.declared.step.Move.{Move}
use Rattle.task_code.specs.declared.step.Move.TheVariants as move
use Rattle.task_code.specs.declared.step.Step.{Step}
use Rattle.task_code.specs.declared.step.Step.TheVariants as step

-- the calls that an engine makes are so deep at most
abbrev pub setting_of : Engine → machine.Setting
setting_of e = record {
  fields = e.graph.now.fields;
  methods = e.graph.now.methods;
  calls = machine.calls_within e.depth e.graph.now.fields e.graph.now.methods;
  field = e.field.now;
  key = e.key;
  gathered = e.gathered.now;
}

abbrev pub frame_of : Frame → machine.Frame
frame_of f = record { at = f.at; stack = f.stack; variables = f.variables.items; turns = f.turns }

-- the same at another instruction
abbrev pub frame_at : ℕ → Frame → machine.Frame
frame_at at f = record { at = at; stack = f.stack; variables = f.variables.items; turns = f.turns }

abbrev pub ending_of : Ending → machine.Ending
ending_of (ending.Returned v) = machine.Returned v
ending_of (ending.Stopped how) = machine.Stopped how
ending_of (ending.CutTo t) = machine.CutTo t
ending_of (ending.PartFor t v) = machine.PartFor t v

-- A cut alone looks at the stack that an end leaves.
abbrev pub seen_frame : machine.Ending → machine.Frame → machine.Frame
seen_frame (machine.CutTo t) f = record { at = 0; stack = f.stack; variables = f.variables; turns = f.turns }
seen_frame ending f = record { at = 0; stack = []; variables = f.variables; turns = f.turns }

abbrev pub seen_performed : machine.Performed → machine.Performed
seen_performed (machine.Ends ending f) = machine.Ends ending (seen_frame ending f)
seen_performed p = p

-- what an instruction does, as far as it is looked at
abbrev pub seen : Option machine.Performed → Option machine.Performed
seen None = None
seen (Some p) = Some (seen_performed p)

-- what a step leads to, from a frame at an instruction
abbrev pub leads : machine.Setting → ℕ → Step → Frame → Option machine.Performed
leads s at step.Next f = Some (machine.Goes (frame_at (suc at) f))
leads s at (step.Jump to) f = Some (machine.Goes (frame_at to f))
leads s at (step.Call m args) f = machine.after_call (s.calls m args.items [] f.turns) f.stack (frame_at at f)
leads s at (step.Merge m) f = machine.after_call (s.calls m (val.Unit ∷ []) s.gathered f.turns) f.stack (frame_at at f)
leads s at (step.Access m args) f = Some (machine.Accesses m args (frame_at (suc at) f))
leads s at (step.End e) f = Some (machine.Ends (ending_of e) (frame_at at f))

-- an instruction may run
abbrev pub Can : Engine → Instr → Frame → Type 0
Can e i f = IsSome (machine.perform_on (setting_of e) i f.stack (frame_of f))

-- an instruction leads from a frame to another one by a step
abbrev pub Does : Engine → Instr → Frame → Frame → Step → Type 0
Does e i old new to = seen (machine.perform_on (setting_of e) i old.stack (frame_of old)) ≡ seen (leads (setting_of e) old.at to new)

-- ---- calls and runs

abbrev pub called_of : Called → machine.Called
called_of (called.Gave v turns) = machine.Gave v turns
called_of (called.Failed how turns) = machine.Failed how turns

-- what an instruction did, once the methods that it calls have run: the frame stands at what comes next
abbrev pub moves : Move → Frame → Option machine.Performed
moves move.Go f = Some (machine.Goes (frame_of f))
moves (move.Access m args) f = Some (machine.Accesses m args (frame_of f))
moves (move.End e) f = Some (machine.Ends (ending_of e) (frame_of f))

-- an instruction moves from a frame to another one
abbrev pub Moves : Engine → Instr → Frame → Frame → Move → Type 0
Moves e i old new to = seen (machine.perform_on (setting_of e) i old.stack (frame_of old)) ≡ seen (moves to new)

-- how a run ended, as far as it is looked at
abbrev pub seen_ran : Option machine.Ran → Option machine.Ran
seen_ran None = None
seen_ran (Some r) = Some (record { ending = r.ending; frame = seen_frame r.ending r.frame; state = r.state })

-- a run ended so, and left this
abbrev pub ends_so : Ending → Frame → State → Option machine.Ran
ends_so e f state = Some (record { ending = ending_of e; frame = seen_frame (ending_of e) (frame_of f); state = state })

-- a run of code from a frame
abbrev pub running : Engine → List Instr → Frame → State → Option machine.Ran
running e code f state = machine.run (setting_of e) code (frame_of f) state

-- what a method gives
abbrev pub calling : Engine → ℕ → List Val → List Val → ℕ → Option machine.Called
calling e m args gathered turns = machine.calls_within e.depth e.graph.now.fields e.graph.now.methods m args gathered turns

-- the same of a method whose calls are an engine's
abbrev pub method_given : Engine → GraphMethod → List Val → ℕ → Option machine.Called
method_given e m args turns = machine.given_by (machine.run (setting_of e) m.code (machine.first_frame m args turns) machine.no_state)
