-- What frames, calls and what is held of them stand for.
use Rattle.std.specs.Prelude.{List, [], ◌∷◌, map, reverse, replicate, Option, Some, None}
use Rattle.access_blocks.specs.Source as source
use Rattle.body_run.specs.Seen.{machine_of}
use Rattle.source_run.specs.declared.call_state.CallState.{CallState}
use Rattle.source_run.specs.declared.call_state.CallState.TheVariants as call_state
use Rattle.source_run.specs.declared.call_state.Pause.{Pause}
use Rattle.source_run.specs.declared.call_state.Pause.TheVariants as pause
use Rattle.source_run.specs.declared.call_state.Standing.{Standing}
use Rattle.source_run.specs.declared.frames.Frame.{Frame}
use Rattle.source_run.specs.declared.frames.Frame.TheVariants as frame
use Rattle.source_run.specs.declared.frames.Frames.{Frames}
use Rattle.source_run.specs.declared.refusals.Refusal.{Refusal}
use Rattle.source_run.specs.declared.refusals.Refusal.TheVariants as refusal
use Rattle.source_run.specs.declared.started.Started.{Started}
use Rattle.source_run.specs.declared.started.Started.TheVariants as started

abbrev pub frame_of : Frame → source.Frame
frame_of (frame.Then statements) = source.Then statements.now
frame_of (frame.One statement) = source.Then (statement.now ∷ [])
frame_of (frame.Test loop) = source.Test loop.test.now loop.update.now loop.body.now
frame_of (frame.Again loop) = source.Again loop.test.now loop.update.now loop.body.now

-- the innermost is kept last
abbrev pub frames_of : Frames → List source.Frame
frames_of all = map frame_of (reverse all.frames.items)

abbrev pub standing_of : Standing → source.Standing
standing_of at = record { frames = frames_of at.frames; variables = at.variables.items; turns = at.turns }

abbrev pub state_of : CallState → source.CallState
state_of call_state.Fresh = source.Fresh
state_of (call_state.At field key block standing) = source.At field key block.now (standing_of standing)
state_of (call_state.Visiting field method args parts standing) = source.Visiting field method args parts.items (standing_of standing)
state_of (call_state.Ended outcome) = source.Ended outcome

-- where a call rests that stands so
abbrev pub paused : Pause → source.Standing → source.CallState
paused (pause.Block field key block) at = source.At field key block.now at
paused (pause.Gather field method args width) at = source.Visiting field method args (replicate width None) at
paused (pause.End outcome) at = source.Ended outcome

abbrev pub started_of : Started → source.Started
started_of (started.Goes frames m) = source.Goes (frames_of frames) (machine_of m)
started_of (started.Stays state fields) = source.Stays (state_of state) fields.items

abbrev pub reason_of : Refusal → source.Refusal
reason_of refusal.Unknown = source.Unknown
reason_of refusal.NoInstance = source.NoInstance
reason_of (refusal.NotNext call) = source.NotNext call

abbrev pub refusal_of : Option Refusal → Option source.Refusal
refusal_of None = None
refusal_of (Some reason) = Some (reason_of reason)
