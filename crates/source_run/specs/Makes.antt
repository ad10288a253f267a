-- What a move makes.
use Rattle.std.specs.Prelude.{◌≡◌, ℕ, zero, suc, List, Option, Some, None, Result, Ok, Err}
use Rattle.access_blocks.specs.declared.halt.Halt.TheVariants.{OutOfTurns}
use Rattle.access_blocks.specs.Expressions.{outcome_of}
use Rattle.access_blocks.specs.Statements.{Machine}
use Rattle.access_blocks.specs.Source.{Frame, Move, Moves, Rests, Ended, standing}
use Rattle.body_run.specs.declared.stop.Stop.{Stop}
use Rattle.body_run.specs.declared.stop.Stop.TheVariants as stop
use Rattle.source_run.specs.declared.call_state.Pause.{Pause}
use Rattle.source_run.specs.Seen.{paused}

-- The call has ended, which leaves the fields of this machine, or memory ran out.
abbrev pub StopsAt : Stop → Machine → Move → Type 0
StopsAt stop.Memory m e = Unit {0}
StopsAt (stop.Halt h) m e = e ≡ Rests (Ended (outcome_of h)) m.fields

-- What a function returned, and the frames and the machine that it left, are a move: the call goes on, or it rests.
abbrev pub Makes : Result (Option Pause) Stop → List Frame → Machine → Move → Type 0
Makes (Ok None) frames m e = e ≡ Moves frames m
Makes (Ok (Some pause)) frames m e = e ≡ Rests (paused pause (standing frames m m.turns)) m.fields
Makes (Err s) frames m e = StopsAt s m e

-- What is left of so many turns once one is spent; the call ends where none is left.
abbrev pub Spends : Result ℕ Stop → ℕ → Type 0
Spends (Ok left) turns = turns ≡ suc left
Spends (Err s) turns = (turns ≡ zero) × (s ≡ stop.Halt OutOfTurns)
