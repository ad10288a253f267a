-- Runs from two frames that agree on what is live end alike.
use Rattle.std.proofs.Common.{◌≡◌, ◌≢◌, refl, sym, ap, subst, ◌∙◌, ℕ, zero, suc, List, [], Option, Some, None, slice_get, inl, inr, ◌⊎◌}
use Rattle.sdg_base.specs.declared.val.Outcome.{Outcome}
use Rattle.sdg_base.specs.declared.val.Outcome.TheVariants as outcome
use Rattle.sdg_base.specs.declared.val.Val.{Val}
use Rattle.state_classes.specs.States.{State, called}
use Rattle.flat_code.specs.declared.graph.Instr.{Instr}
use Rattle.flat_code.specs.declared.graph.Instr.TheVariants as instr
use Rattle.flat_code.specs.Machine as machine
use Rattle.flat_code.specs.Machine.{Setting, Frame, Ending, Returned, Stopped, CutTo, PartFor, Performed, Goes, Accesses, Ends, Ran, Running, perform, perform_on, after_access, pushed_result, run, run_within, most_steps}
use Rattle.flat_code.specs.Ways.{IsIn, IsFirst, next_of, writes, IsLive, IsRead, IsReadLater}
use Rattle.graph_safety.proofs.Lists.{none_some, is_some_or_not}
use Rattle.live_runs.specs.Alike.{Agree, AreAlike, AgreeBehind, EndedAlike, EndAlike, LiveVariablesAreEnough}
use Rattle.live_runs.proofs.Steps.{frame, BothAt, GoAlike, EndsBy, StopAlike, DoAlike}
use Rattle.live_runs.proofs.Instructions.{step}

module _ (code : List Instr) where
  -- ---- one step

  -- with what was agreed before, as what was agreed since is no less
  kept_since : (here there now then_there : List Val) (o p : Option Ran) → ((v : ℕ) → Agree here there v → Agree now then_there v) → EndAlike code now then_there o p → EndAlike code here there o p
  kept_since here there now then_there None None kept h = h
  kept_since here there now then_there None (Some s) kept h = h
  kept_since here there now then_there (Some r) None kept h = h
  kept_since here there now then_there (Some r) (Some s) kept h = record { ending = h.ending; state = h.state; frames = h.frames; behind = h.behind; kept = λ v e. h.kept v (kept v e) }

  -- the same result on both stacks
  with_result : (v : Val) (f g : Frame) → AreAlike code f g → AreAlike code (frame f.at (pushed_result v f.stack) f.variables f.turns) (frame g.at (pushed_result v g.stack) g.variables g.turns)
  with_result v f g alike = record { at = alike.at; stack = ap (pushed_result v) alike.stack; turns = alike.turns; as_many = alike.as_many; live = alike.live }

  -- an instruction of the code, on variables that agree on what is live there
  module _ (at : ℕ) (i : Instr) (is_code : slice_get code at ≡ Some i) (here there : List Val) (live : (v : ℕ) → IsLive code v at → Agree here there v) where
    next_live : (next v : ℕ) → IsIn next (next_of at i) → writes i ≢ Some v → IsLive code v next → IsLive code v at
    next_live next v is_next unwritten h = IsReadLater at next i is_code unwritten is_next h

    next_alike : (f g : Frame) → GoAlike i at here there f g → AreAlike code f g
    next_alike f g go = record { at = (go.both).at; stack = (go.both).stack; turns = (go.both).turns; as_many = (go.both).as_many; live = λ v h. by v h (is_some_or_not (writes i) v) }
      where
        by : (v : ℕ) → IsLive code v f.at → (writes i ≡ Some v) ⊎ (writes i ≢ Some v) → Agree f.variables g.variables v
        by v h (inl e) = go.written v e
        by v h (inr unwritten) = (go.both).kept v (live v (next_live f.at v go.next unwritten h))

    -- at an end, which stands where the instruction does
    behind_alike : (ending : Ending) (f g : Frame) → BothAt here there f g → f.at ≡ at → EndsBy i ending → AgreeBehind code ending f g
    behind_alike (Returned v) f g both stays by = tt
    behind_alike (Stopped how) f g both stays by = tt
    behind_alike (CutTo t) f g both stays by =
        let is_cut : slice_get code at ≡ Some (instr.Cut t) = is_code ∙ ap Some by in (
          subst (λ (k : ℕ). slice_get code k ≡ Some (instr.Cut t)) (sym stays) is_cut,
          λ v h. both.kept v (live v (IsReadLater at (suc at) (instr.Cut t) is_cut (none_some v) (IsFirst []) (subst (λ (k : ℕ). IsLive code v (suc k)) stays h))),
        )
    behind_alike (PartFor t x) f g both stays by =
        let is_part : slice_get code at ≡ Some (instr.Part t) = is_code ∙ ap Some by in (
          subst (λ (k : ℕ). slice_get code k ≡ Some (instr.Part t)) (sym stays) is_part,
          λ v h. both.kept v (live v (IsReadLater at (suc at) (instr.Part t) is_part (none_some v) (IsFirst []) (subst (λ (k : ℕ). IsLive code v (suc k)) stays h))),
        )

    ended_alike : (ending other : Ending) (f g : Frame) (state : State) → StopAlike i at here there ending other f g
        → EndedAlike code here there (record { ending = ending; frame = f; state = state }) (record { ending = other; frame = g; state = state })
    ended_alike ending other f g state stop = record {
      ending = stop.same;
      state = refl;
      frames = record {
        at = (stop.both).at;
        stack = (stop.both).stack;
        turns = (stop.both).turns;
        as_many = (stop.both).as_many;
        live = λ v h. (stop.both).kept v (live v (subst (λ (k : ℕ). IsLive code v k) stop.stays h));
      };
      behind = behind_alike ending f g stop.both stop.stays stop.by;
      kept = (stop.both).kept;
    }

    -- what goes on does so alike
    module _ (next : Running) (more : (f g : Frame) (state : State) → AreAlike code f g → EndAlike code f.variables g.variables (next f state) (next g state)) where
      accessed_alike : (f g : Frame) (r : Outcome × State) → GoAlike i at here there f g → EndAlike code here there (after_access next f r) (after_access next g r)
      accessed_alike f g (outcome.Value v, state) go =
          kept_since here there f.variables g.variables (after_access next f (outcome.Value v, state)) (after_access next g (outcome.Value v, state)) (go.both).kept
          (more (frame f.at (pushed_result v f.stack) f.variables f.turns) (frame g.at (pushed_result v g.stack) g.variables g.turns) state (with_result v f g (next_alike f g go)))
      accessed_alike f g (outcome.Throws e, state) go = record { ending = refl; state = refl; frames = next_alike f g go; behind = tt; kept = (go.both).kept }
      accessed_alike f g (outcome.Limit, state) go = record { ending = refl; state = refl; frames = next_alike f g go; behind = tt; kept = (go.both).kept }

      after_alike : (state : State) (p q : Option Performed) → DoAlike i at here there p q → EndAlike code here there (machine.after next state p) (machine.after next state q)
      after_alike state None None h = tt
      after_alike state (Some (Goes f)) (Some (Goes g)) h = kept_since here there f.variables g.variables (next f state) (next g state) (h.both).kept (more f g state (next_alike f g h))
      after_alike state (Some (Accesses m args f)) (Some (Accesses n others g)) h =
          subst (λ (r : Outcome × State). EndAlike code here there (after_access next f (called m args state)) (after_access next g r))
          (sym (ap (λ k. called k others state) h.0 ∙ ap (λ (vs : List Val). called m vs state) h.1))
          (accessed_alike f g (called m args state) h.2)
      after_alike state (Some (Ends ending f)) (Some (Ends other g)) h = ended_alike ending other f g state h
      after_alike state _ _ h = absurd h

module _ (s : Setting) (code : List Instr) where
  -- ---- runs by steps

  -- what stands at the two frames, which differ in their variables alone
  abbrev AtBoth : ℕ → Frame → List Val → State → Option Instr → Type 0
  AtBoth steps f there state o =
      EndAlike code f.variables there (machine.after (run_within steps s code) state (perform s o f)) (machine.after (run_within steps s code) state (perform s o (frame f.at f.stack there f.turns)))

  the_frame : (f g : Frame) → AreAlike code f g → g ≡ frame f.at f.stack g.variables f.turns
  the_frame f g alike =
      ap (λ (k : ℕ). frame k g.stack g.variables g.turns) alike.at
      ∙ ap (λ (vs : List Val). frame f.at vs g.variables g.turns) alike.stack
      ∙ ap (λ (k : ℕ). frame f.at f.stack g.variables k) alike.turns

  pub runs_alike : (steps : ℕ) (f g : Frame) (state : State) → AreAlike code f g → EndAlike code f.variables g.variables (run_within steps s code f state) (run_within steps s code g state)
  unfolding run_within
  runs_alike zero f g state alike = tt
  runs_alike (suc steps) f g state alike =
      subst (λ (h : Frame). EndAlike code f.variables g.variables (machine.after (run_within steps s code) state (perform s (slice_get code f.at) f)) (machine.after (run_within steps s code) state (perform s (slice_get code h.at) h)))
      (sym (the_frame f g alike)) (by (runs_alike steps) (slice_get code f.at) refl)
    where
      by : ((to other : Frame) (after : State) → AreAlike code to other → EndAlike code to.variables other.variables (run_within steps s code to after) (run_within steps s code other after))
          → (o : Option Instr) → slice_get code f.at ≡ o → AtBoth steps f g.variables state o
      by more None is = tt
      by more (Some i) is =
          after_alike code f.at i is f.variables g.variables alike.live (run_within steps s code) more state (perform_on s i f.stack f) (perform_on s i f.stack (frame f.at f.stack g.variables f.turns))
          (step s f.at f.variables g.variables alike.as_many f.turns i f.stack (λ v h. alike.live v (IsRead f.at i is h)))

pub live_variables_are_enough : LiveVariablesAreEnough
live_variables_are_enough s code f g state alike =
    subst (λ (k : ℕ). EndAlike code f.variables g.variables (run s code f state) (run_within (most_steps code k) s code g state)) (sym alike.turns)
    (runs_alike s code (most_steps code f.turns) f g state alike)
