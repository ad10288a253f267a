-- From one rest to the next: move by move, until the source rests.
use Rattle.std.proofs.Common.{◌≤◌, ◌+◌, ◌*◌, subst, ℕ, true, List, []}
use Rattle.sdg_base.specs.declared.val.Val.{Val}
use Rattle.state_classes.specs.States.{State}
use Rattle.access_blocks.specs.Statements.{Field, Machine}
use Rattle.access_blocks.specs.Source.{Frame, CallState, Runs, Rest, Go}
use Rattle.body_code.specs.Checking.{Standing}
use Rattle.code_meaning.specs.Laid.{frame}
use Rattle.code_meaning.specs.Running.{Ground, IsGround, Agrees}
use Rattle.code_meaning.specs.Frames.{Level, AreLaid}
use Rattle.code_meaning.specs.Resting.{EndsIn, RestsAt}
use Rattle.code_meaning.specs.Stepping.{AreNamed, coded, RunsRestWhereTheSourceRests}
use Rattle.code_meaning.proofs.Moving.{GoesOn, MoveGives, rests_on}
use Rattle.code_meaning.proofs.Walking.{move_gives}

module _ {g : Ground} (ground : IsGround g) (whole : ℕ) (named : AreNamed g) where
  abbrev RunRests : ℕ → ℕ → List Val → State → Machine → CallState → List Field → Type 0
  RunRests left at variables state m call fields = RestsAt (coded g whole) g m.turns (EndsIn g.setting g.code (left + whole * m.turns) (frame at [] variables m.turns) state) call fields

  pub run_rests : (frames : List Frame) (level : Level) (at left : ℕ) (st : Standing) → AreLaid (coded g whole) frames level true at st left → left ≤ whole
      → (variables : List Val) (state : State) (m : Machine) → Agrees g st variables state m → (call : CallState) (fields : List Field) → Runs g.calls frames m call fields → RunRests left at variables state m call fields
  run_rests _ level at left st h room variables state _ agrees _ _ (Rest frames m call fields is) =
      subst (MoveGives g whole left (frame at [] variables m.turns) state) is (move_gives ground whole named frames level at left st h room variables state m agrees).gives
  run_rests _ level at left st h room variables state _ agrees _ _ (Go frames next m n call fields is more) =
      let r : GoesOn g whole left (frame at [] variables m.turns) state next n =
      subst (MoveGives g whole left (frame at [] variables m.turns) state) is (move_gives ground whole named frames level at left st h room variables state m agrees).gives in
      rests_on g whole r.reaches call fields (run_rests next r.level r.at r.later r.standing r.laid r.within r.variables r.next n r.agrees call fields more)

pub runs_rest_where_the_source_rests : RunsRestWhereTheSourceRests
runs_rest_where_the_source_rests g ground named whole left at room frames level st laid variables state m agrees call fields runs = run_rests ground whole named frames level at left st laid room variables state m agrees call fields runs
