-- A legal history in which calls don't interleave, call by call.
use Rattle.std.proofs.Common.{◌≡◌, ◌<◌, ℕ, zero, suc, ◌+◌, false, if◌then◌else◌, List, [], ◌∷◌, ◌++◌, map, Option, Some, None, slice_get, length, add-one, refl, sym, ◌∙◌, ap, subst, arith, inl, inr, ◌⊎◌}
use Rattle.std.specs.Prelude.{All, replicate}
use Rattle.std.specs.List.{AllByRecursion}
use Rattle.std.proofs.Math.Seq.{append_snoc}
use Rattle.std.proofs.lemmas.List.Elements.{All-head, All-tail}
use Rattle.std.proofs.lemmas.Option.{none-some, same_Some}
use Rattle.sdg_base.specs.declared.val.Val.{Val}
use Rattle.sdg_base.specs.declared.val.Val.TheVariants as val
use Rattle.sdg_base.specs.declared.val.Outcome.{Outcome}
use Rattle.sdg_base.specs.declared.call.Call.{Call}
use Rattle.sdg_base.specs.declared.call.Step.{Step}
use Rattle.sdg_base.specs.declared.call.Step.TheVariants.{Begin}
use Rattle.sdg_base.specs.Limits.{turns_at_start}
use Rattle.state_classes.specs.States.{empty_state}
use Rattle.access_blocks.specs.declared.body.Body.{Body}
use Rattle.access_blocks.specs.declared.body.Holder.{Holder}
use Rattle.access_blocks.specs.declared.body.Program.{Program}
use Rattle.access_blocks.specs.Statements.{Field, Whole, Instances}
use Rattle.access_blocks.specs.Calls.{machine_at_start, calls_of, outcome_by}
use Rattle.access_blocks.specs.Source.{Then, CallState, Fresh, At, Visiting, Ended, Standing, Source, Started, Goes, first_failure, joined, machine_of, begun, begun_in, field_at_start, Steps, Follows, Done, Next, outcome_in}
use Rattle.access_blocks.specs.Serial.{IsSerial}
use Rattle.plain_java.specs.Plain.{body_completed, plain_from}
use Rattle.plain_java.specs.SerialRuns.{HaveEnded, SerialIsPlain}
use Rattle.plain_java.proofs.CallTurns.{calls_of_fall}
use Rattle.plain_java.proofs.Keeping.{AllWhole, IsWhole, IsPlain}
use Rattle.plain_java.proofs.Frames.{Ending, ended_so, Rested}
use Rattle.plain_java.proofs.Moves.{runs_rest}
use Rattle.plain_java.proofs.Steps.{IsEnded, LedBy, come_to, steps_leave, steps_keep_end, resumed, Doing, Begins, GoesOn, doing}
use Rattle.plain_java.proofs.Seams.{slice_get-seam, got_at, set_at, length-push}

-- ---- where calls stand

-- These calls haven't begun.
abbrev fresh : List Call → List CallState
fresh calls = map (λ _. Fresh) calls

fresh-at : (calls : List Call) (j : ℕ) (state : CallState) → slice_get (fresh calls) j ≡ Some state → state ≡ Fresh
fresh-at [] j state is = absurd (none-some state is)
fresh-at (call ∷ calls) zero state is = sym (same_Some Fresh state is)
fresh-at (call ∷ calls) (suc j) state is = fresh-at calls j state is

-- and wait for their begin
fresh_waits : (state : CallState) (fields : List Field) (started : Started) → state ≡ Fresh → resumed state fields ≡ Some started → ⊥
fresh_waits state fields started is_fresh resumes = none-some started (sym (ap (λ (s : CallState). resumed s fields) is_fresh) ∙ resumes)

-- A call that goes on hasn't ended.
ended_stays : (state : CallState) (fields : List Field) (started : Started) → resumed state fields ≡ Some started → IsEnded state → ⊥
ended_stays (Ended o) fields started resumes ended = none-some started resumes
ended_stays _ fields started resumes ended = ended

-- A call among these has ended, or stands so far behind them.
abbrev Behind : List CallState → List CallState → ℕ → CallState → Type 0
Behind before behind n state = (j : ℕ) × (n ≡ length before + j) × (slice_get behind j ≡ Some state)

ended_or_behind : (before behind : List CallState) (n : ℕ) (state : CallState) → AllByRecursion IsEnded before → slice_get (before ++ behind) n ≡ Some state
    → IsEnded state ⊎ Behind before behind n state
ended_or_behind [] behind n state ended is = inr (n, omega arith, is)
ended_or_behind (x ∷ before) behind zero state ended is = inl (subst IsEnded (same_Some x state is) ended.0)
ended_or_behind (x ∷ before) behind (suc n) state ended is = behind_it (ended_or_behind before behind n state ended.1 is)
  where
    behind_it : IsEnded state ⊎ Behind before behind n state → IsEnded state ⊎ Behind (x ∷ before) behind (suc n) state
    behind_it (inl e) = inl e
    behind_it (inr r) = let e : n ≡ length before + r.0 = r.1 in inr (r.0, omega arith, r.2)

ended-push : (before : List CallState) (end : Outcome) → AllByRecursion IsEnded before → AllByRecursion IsEnded (before ++ Ended end ∷ [])
ended-push [] end ended = (tt, tt)
ended-push (x ∷ before) end ended = (ended.0, ended-push before end ended.1)

-- ---- what is known between two steps

-- The calls of these states have ended. The calls to do, which have these outcomes in the end, come behind them, and then those beyond.
pub record Front (calls beyond : List Call) (last : Source) (before : List CallState) (todo : List Call) (outcomes : List Outcome) : Type 0 where
  pub ended : AllByRecursion IsEnded before
  pub done : List Call
  pub are : calls ≡ done ++ (todo ++ beyond)
  pub as_many : length done ≡ length before
  pub gives : HaveEnded last (suc (length before)) todo outcomes

outcome_in-ended : (state : CallState) (end : Outcome) → outcome_in (Some state) ≡ Some end → IsEnded state
outcome_in-ended (Ended over) end is = tt
outcome_in-ended _ end is = absurd (none-some end is)

module _ (calls beyond : List Call) (last : Source) (before : List CallState) (call : Call) (todo : List Call) (end : Outcome) (outcomes : List Outcome) (front : Front calls beyond last before (call ∷ todo) (end ∷ outcomes)) where
  -- The first call to do has ended in the end.
  first_has_ended : (state : CallState) → slice_get last.calls (length before) ≡ Some state → IsEnded state
  first_has_ended state is = outcome_in-ended state end (sym (ap outcome_in is) ∙ front.gives.0)

  -- and so its outcome is this
  first_outcome : (over : Outcome) → slice_get last.calls (length before) ≡ Some (Ended over) → over ≡ end
  first_outcome over is = same_Some over end (sym (ap outcome_in is) ∙ front.gives.0)

  -- Once it has ended, the calls behind it are to do.
  front-push : (over : Outcome) → Front calls beyond last (before ++ Ended over ∷ []) todo outcomes
  front-push over =
      let count : length (before ++ Ended over ∷ []) ≡ suc (length before) = length-push before (Ended over) (length before) refl in
      record {
        ended = ended-push before over front.ended;
        done = front.done ++ call ∷ [];
        are = front.are ∙ sym (append_snoc front.done call (todo ++ beyond));
        as_many = length-push front.done call (length before) front.as_many ∙ sym count;
        gives = subst (λ (n : ℕ). HaveEnded last n todo outcomes) (add-one (suc (length before)) ∙ ap suc (sym count)) front.gives.1;
      }

-- the source with these fields, where calls to do haven't begun
abbrev between_calls : List Field → List CallState → List Call → Source
between_calls fields before todo = record { fields = fields; calls = before ++ fresh todo }

-- the source with these fields, where a call is under way
abbrev under_way : List Field → List CallState → CallState → List Call → Source
under_way fields before state todo = record { fields = fields; calls = before ++ state ∷ fresh todo }

-- ---- what a call gives

module _ (program : Program) where
  abbrev Gives : CallState → List Field → Ending → Type 0
  Gives = Rested (calls_of program.methods)

  plain_machine : (at : Standing) (key : Val) (fields : List Field) → AllWhole fields → IsPlain (machine_of at key [] fields 0)
  plain_machine at key fields whole = record { whole = whole; nothing_gathered = refl; no_instance = refl }

  -- A call that goes on gives what it would have given.
  goes_on_gives : (state : CallState) (fields : List Field) (r : Ending) (started : Started) (later : CallState) (new : List Field)
      → Gives state fields r → resumed state fields ≡ Some started → LedBy program started later new → Gives later new r
  goes_on_gives (At field (Some key) block at) fields r started later new g is by =
      let goes : Started = Goes (Then (block ∷ []) ∷ at.frames) (machine_of at key [] fields 0) in
      let same : started ≡ goes = sym (same_Some goes started is) in
      let run : LedBy program goes later new = subst (λ (s : Started). LedBy program s later new) same by in
      subst (Gives later new) g.gives
      (runs_rest (calls_of program.methods) (calls_of_fall program.methods) (Then (block ∷ []) ∷ at.frames) (machine_of at key [] fields 0) later new run (plain_machine at key fields g.whole))
  goes_on_gives (Visiting field method args parts at) fields r started later new g is by =
      let goes : Started = Goes at.frames (machine_of at val.Unit [] fields 0) in
      let same : started ≡ goes = sym (same_Some (joined (first_failure parts) parts at fields) started is) ∙ ap (λ (ps : List (Option Outcome)). joined (first_failure ps) ps at fields) g.gives.0 in
      let run : LedBy program goes later new = subst (λ (s : Started). LedBy program s later new) same by in
      subst (Gives later new) g.gives.1
      (runs_rest (calls_of program.methods) (calls_of_fall program.methods) at.frames (machine_of at val.Unit [] fields 0) later new run (plain_machine at val.Unit fields g.whole))
  goes_on_gives (At field None block at) fields r started later new g is by = absurd (none-some started is)
  goes_on_gives Fresh fields r started later new g is by = absurd (none-some started is)
  goes_on_gives (Ended o) fields r started later new g is by = absurd (none-some started is)

  -- A call that begins gives what plain Java gives.
  begins_gives : (now : Source) (args : List Val) (body : Body) (later : CallState) (new : List Field) → AllWhole now.fields → LedBy program (begun_in now args (Some body)) later new
      → Gives later new (ended_so (outcome_by (body_completed program (Some body) args now.fields).completion) (body_completed program (Some body) args now.fields).machine.fields)
  begins_gives now args body later new whole run =
      runs_rest (calls_of program.methods) (calls_of_fall program.methods) (Then body.statements ∷ []) (machine_at_start body args [] turns_at_start now.fields) later new run
      (record { whole = whole; nothing_gathered = refl; no_instance = refl })

-- ---- histories

serial_tail : (s : Step) (steps : List Step) → IsSerial (s ∷ steps) → IsSerial steps
serial_tail (Begin c) steps serial = serial.1
serial_tail _ steps serial = serial

follows_none : (program : Program) (calls : List Call) (now last : Source) → Follows program calls now [] last → now ≡ last
follows_none program calls now last (Done same) = refl

record First (program : Program) (calls : List Call) (now : Source) (s : Step) (steps : List Step) (last : Source) : Type 0 where
  pub between : Source
  pub does : Steps program calls now s between
  pub follow : Follows program calls between steps last

follows_first : (program : Program) (calls : List Call) (now last : Source) (s : Step) (steps : List Step) → Follows program calls now (s ∷ steps) last → First program calls now s steps last
follows_first program calls now last s steps (Next from between to step later does follow) = record { between = between; does = does; follow = follow }

-- What a legal and serial history gives from between two calls on.
abbrev FromCalls : Program → List Call → List Call → Source → List Step → Type 0
FromCalls program calls beyond last history = (before : List CallState) (todo : List Call) (outcomes : List Outcome) (fields : List Field)
    → Front calls beyond last before todo outcomes → AllWhole fields → IsSerial history
    → Follows program calls (between_calls fields before (todo ++ beyond)) history last
    → outcomes ≡ plain_from program todo fields

-- What it gives from within a call on.
abbrev FromState : Program → List Call → List Call → Source → List Step → Type 0
FromState program calls beyond last history = (before : List CallState) (state : CallState) (call : Call) (todo : List Call) (end : Outcome) (outcomes : List Outcome) (fields : List Field) (r : Ending)
    → Front calls beyond last before (call ∷ todo) (end ∷ outcomes) → Gives program state fields r → IsSerial history
    → Follows program calls (under_way fields before state (todo ++ beyond)) history last
    → (end ≡ r.outcome) × (outcomes ≡ plain_from program todo r.fields)

module _ (program : Program) (calls beyond : List Call) (last : Source) where
  -- ---- no step is left

  from_calls-none : FromCalls program calls beyond last []
  from_calls-none before [] [] fields front whole serial follows = refl
  from_calls-none before [] (end ∷ outcomes) fields front whole serial follows = absurd front.gives
  from_calls-none before (call ∷ todo) [] fields front whole serial follows = absurd front.gives
  from_calls-none before (call ∷ todo) (end ∷ outcomes) fields front whole serial follows =
      absurd (first_has_ended calls beyond last before call todo end outcomes front Fresh
      (ap (λ (now : Source). slice_get now.calls (length before)) (sym (follows_none program calls (between_calls fields before (call ∷ todo ++ beyond)) last follows)) ∙ slice_get-seam before Fresh (fresh (todo ++ beyond))))

  waits-none : (before : List CallState) (state : CallState) (call : Call) (todo : List Call) (end : Outcome) (outcomes : List Outcome) (fields : List Field)
      → Front calls beyond last before (call ∷ todo) (end ∷ outcomes) → Follows program calls (under_way fields before state (todo ++ beyond)) [] last → IsEnded state
  waits-none before state call todo end outcomes fields front follows =
      first_has_ended calls beyond last before call todo end outcomes front state
      (ap (λ (now : Source). slice_get now.calls (length before)) (sym (follows_none program calls (under_way fields before state (todo ++ beyond)) last follows)) ∙ slice_get-seam before state (fresh (todo ++ beyond)))

  -- ---- a step, and those that follow it

  -- A call that isn't the next can't begin: this one would never end.
  begins_too_early : (before : List CallState) (call : Call) (todo : List Call) (end : Outcome) (outcomes : List Outcome) (state : CallState) (behind : List CallState) (fields : List Field) (n : ℕ) (steps : List Step)
      → Front calls beyond last before (call ∷ todo) (end ∷ outcomes) → IsSerial (Begin (suc n) ∷ steps) → length before < n
      → Follows program calls (record { fields = fields; calls = before ++ state ∷ behind }) (Begin (suc n) ∷ steps) last
      → IsEnded state
  begins_too_early before call todo end outcomes state behind fields n steps front serial early follows =
      let now : Source = record { fields = fields; calls = before ++ state ∷ behind } in
      let stays = steps_leave program calls now (Begin (suc n) ∷ steps) last (suc n) (length before) follows (omega arith, serial.0) (omega arith) in
      first_has_ended calls beyond last before call todo end outcomes front state (stays ∙ slice_get-seam before state behind)

  module _ (steps : List Step) (from_calls : FromCalls program calls beyond last steps) (from_state : FromState program calls beyond last steps) where
    begun_so : (before : List CallState) (next : Call) (todo : List Call) (end : Outcome) (outcomes : List Outcome) (fields : List Field) (state : CallState) (new : List Field) (body : Option Body)
        → Front calls beyond last before (next ∷ todo) (end ∷ outcomes) → AllWhole fields → IsSerial steps → slice_get program.methods next.method ≡ body
        → LedBy program (begun_in (between_calls fields before (next ∷ todo ++ beyond)) next.args body) state new
        → Follows program calls (under_way new before state (todo ++ beyond)) steps last
        → (end ∷ outcomes) ≡ plain_from program (next ∷ todo) fields
    begun_so before next todo end outcomes fields state new None front whole serial is by follows =
        let P : CallState → List Field → Type 0 = λ s fs. Follows program calls (under_way fs before s (todo ++ beyond)) steps last in
        let again : P Fresh fields = subst (λ (s : CallState). P s fields) (sym by.0) (subst (P state) (sym by.1) follows) in
        from_calls before (next ∷ todo) (end ∷ outcomes) fields front whole serial again
    begun_so before next todo end outcomes fields state new (Some body) front whole serial is by follows =
        let c = body_completed program (Some body) next.args fields in
        let gives = begins_gives program (between_calls fields before (next ∷ todo ++ beyond)) next.args body state new whole by in
        let rest = from_state before state next todo end outcomes new (ended_so (outcome_by c.completion) c.machine.fields) front gives serial follows in
        let P : Option Body → Type 0 = λ b.
        (end ∷ outcomes) ≡ (outcome_by (body_completed program b next.args fields).completion ∷ plain_from program todo (body_completed program b next.args fields).machine.fields) in
        subst P (sym is) (λ i. rest.0 i ∷ rest.1 i)

    next_begins : (before : List CallState) (next : Call) (todo : List Call) (end : Outcome) (outcomes : List Outcome) (fields : List Field) (state : CallState) (new : List Field) (n : ℕ)
        → Front calls beyond last before (next ∷ todo) (end ∷ outcomes) → AllWhole fields → IsSerial steps → n ≡ length before
        → LedBy program (begun program (between_calls fields before (next ∷ todo ++ beyond)) (slice_get calls n)) state new
        → Follows program calls (come_to (between_calls fields before (next ∷ todo ++ beyond)) n state new) steps last
        → (end ∷ outcomes) ≡ plain_from program (next ∷ todo) fields
    next_begins before next todo end outcomes fields state new n front whole serial at by follows =
        let now : Source = between_calls fields before (next ∷ todo ++ beyond) in
        let here : slice_get calls n ≡ Some next = ap (λ xs. slice_get xs n) front.are ∙ got_at front.done next (todo ++ beyond) n (front.as_many ∙ sym at) in
        let led_by : LedBy program (begun program now (Some next)) state new = subst (λ (o : Option Call). LedBy program (begun program now o) state new) here by in
        let goes_on : Follows program calls (under_way new before state (todo ++ beyond)) steps last =
        subst (λ (states : List CallState). Follows program calls (record { fields = new; calls = states }) steps last) (set_at before Fresh (fresh (todo ++ beyond)) state n (sym at)) follows in
        begun_so before next todo end outcomes fields state new (slice_get program.methods next.method) front whole serial refl led_by goes_on

    -- where a call begins and all calls before have ended, it is the next
    begins_between : (before : List CallState) (todo : List Call) (outcomes : List Outcome) (fields : List Field) (state : CallState) (new : List Field) (n j : ℕ)
        → Front calls beyond last before todo outcomes → AllWhole fields → IsSerial (Begin (suc n) ∷ steps)
        → Follows program calls (between_calls fields before (todo ++ beyond)) (Begin (suc n) ∷ steps) last
        → LedBy program (begun program (between_calls fields before (todo ++ beyond)) (slice_get calls n)) state new
        → Follows program calls (come_to (between_calls fields before (todo ++ beyond)) n state new) steps last
        → n ≡ length before + j → outcomes ≡ plain_from program todo fields
    begins_between before [] [] fields state new n j front whole serial all by follows at = refl
    begins_between before [] (end ∷ outcomes) fields state new n j front whole serial all by follows at = absurd front.gives
    begins_between before (next ∷ todo) [] fields state new n j front whole serial all by follows at = absurd front.gives
    begins_between before (next ∷ todo) (end ∷ outcomes) fields state new n zero front whole serial all by follows at =
        next_begins before next todo end outcomes fields state new n front whole serial.1 (omega arith) by follows
    begins_between before (next ∷ todo) (end ∷ outcomes) fields state new n (suc j) front whole serial all by follows at =
        absurd (begins_too_early before next todo end outcomes Fresh (fresh (todo ++ beyond)) fields n steps front serial (omega arith) all)

    from_calls-step : (s : Step) (before : List CallState) (todo : List Call) (outcomes : List Outcome) (fields : List Field) (later : Source)
        → Front calls beyond last before todo outcomes → AllWhole fields → IsSerial (s ∷ steps)
        → Follows program calls (between_calls fields before (todo ++ beyond)) (s ∷ steps) last
        → Doing program calls (between_calls fields before (todo ++ beyond)) s later → Follows program calls later steps last
        → outcomes ≡ plain_from program todo fields
    from_calls-step s before todo outcomes fields later front whole serial all (Begins n state new is_fresh by) follows =
        place_of (ended_or_behind before (fresh (todo ++ beyond)) n Fresh front.ended is_fresh)
      where
        place_of : IsEnded Fresh ⊎ Behind before (fresh (todo ++ beyond)) n Fresh → outcomes ≡ plain_from program todo fields
        place_of (inl ended) = absurd ended
        place_of (inr r) = begins_between before todo outcomes fields state new n r.0 front whole serial all by follows r.1
    from_calls-step s before todo outcomes fields later front whole serial all (GoesOn n step old started state new is_old resumes by) follows =
        place_of (ended_or_behind before (fresh (todo ++ beyond)) n old front.ended is_old)
      where
        place_of : IsEnded old ⊎ Behind before (fresh (todo ++ beyond)) n old → outcomes ≡ plain_from program todo fields
        place_of (inl ended) = absurd (ended_stays old fields started resumes ended)
        place_of (inr r) = absurd (fresh_waits old fields started (fresh-at (todo ++ beyond) r.0 old r.2) resumes)

    -- where a call waits, it is the one that goes on
    continues_at : (before : List CallState) (here : CallState) (call : Call) (todo : List Call) (end : Outcome) (outcomes : List Outcome) (fields : List Field) (r : Ending) (old : CallState) (started : Started)
        (state : CallState) (new : List Field) (n j : ℕ) → Front calls beyond last before (call ∷ todo) (end ∷ outcomes) → Gives program here fields r → IsSerial steps
        → resumed old fields ≡ Some started → LedBy program started state new
        → Follows program calls (come_to (under_way fields before here (todo ++ beyond)) n state new) steps last
        → n ≡ length before + j → slice_get (here ∷ fresh (todo ++ beyond)) j ≡ Some old → (end ≡ r.outcome) × (outcomes ≡ plain_from program todo r.fields)
    continues_at before here call todo end outcomes fields r old started state new n zero front gives serial resumes by follows at is_old =
        let same : old ≡ here = sym (same_Some here old is_old) in
        let resumes_here : resumed here fields ≡ Some started = subst (λ (x : CallState). resumed x fields ≡ Some started) same resumes in
        let count : length before ≡ n = omega arith in
        let goes_on : Follows program calls (under_way new before state (todo ++ beyond)) steps last =
        subst (λ (states : List CallState). Follows program calls (record { fields = new; calls = states }) steps last) (set_at before here (fresh (todo ++ beyond)) state n count) follows in
        from_state before state call todo end outcomes new r front (goes_on_gives program here fields r started state new gives resumes_here by) serial goes_on
    continues_at before here call todo end outcomes fields r old started state new n (suc j) front gives serial resumes by follows at is_old =
        absurd (fresh_waits old fields started (fresh-at (todo ++ beyond) j old is_old) resumes)

    waits-step : (s : Step) (before : List CallState) (here : CallState) (call : Call) (todo : List Call) (end : Outcome) (outcomes : List Outcome) (fields : List Field) (r : Ending) (later : Source)
        → (here ≡ Fresh → ⊥) → (IsEnded here → ⊥) → Front calls beyond last before (call ∷ todo) (end ∷ outcomes) → Gives program here fields r → IsSerial (s ∷ steps)
        → Follows program calls (under_way fields before here (todo ++ beyond)) (s ∷ steps) last
        → Doing program calls (under_way fields before here (todo ++ beyond)) s later → Follows program calls later steps last
        → (end ≡ r.outcome) × (outcomes ≡ plain_from program todo r.fields)
    waits-step s before here call todo end outcomes fields r later begun_already open_still front gives serial all (Begins n state new is_fresh by) follows =
        absurd (place_of (ended_or_behind before (here ∷ fresh (todo ++ beyond)) n Fresh front.ended is_fresh))
      where
        behind_it : (j : ℕ) → n ≡ length before + j → slice_get (here ∷ fresh (todo ++ beyond)) j ≡ Some Fresh → ⊥
        behind_it zero at is_fresh_there = begun_already (same_Some here Fresh is_fresh_there)
        behind_it (suc j) at is_fresh_there = open_still (begins_too_early before call todo end outcomes here (fresh (todo ++ beyond)) fields n steps front serial (omega arith) all)

        place_of : IsEnded Fresh ⊎ Behind before (here ∷ fresh (todo ++ beyond)) n Fresh → ⊥
        place_of (inl ended) = ended
        place_of (inr q) = behind_it q.0 q.1 q.2
    waits-step s before here call todo end outcomes fields r later begun_already open_still front gives serial all (GoesOn n step old started state new is_old resumes by) follows =
        place_of (ended_or_behind before (here ∷ fresh (todo ++ beyond)) n old front.ended is_old)
      where
        place_of : IsEnded old ⊎ Behind before (here ∷ fresh (todo ++ beyond)) n old → (end ≡ r.outcome) × (outcomes ≡ plain_from program todo r.fields)
        place_of (inl ended) = absurd (ended_stays old fields started resumes ended)
        place_of (inr q) = continues_at before here call todo end outcomes fields r old started state new n q.0 front gives (serial_tail s steps serial) resumes by follows q.1 q.2

  -- ---- all steps

  -- A call that has ended has this outcome, and the calls to do come behind it.
  ended_state : (history : List Step) → FromCalls program calls beyond last history → (before : List CallState) (over : Outcome) (call : Call) (todo : List Call) (end : Outcome) (outcomes : List Outcome) (fields : List Field) (r : Ending)
      → Front calls beyond last before (call ∷ todo) (end ∷ outcomes) → Gives program (Ended over) fields r → IsSerial history
      → Follows program calls (under_way fields before (Ended over) (todo ++ beyond)) history last
      → (end ≡ r.outcome) × (outcomes ≡ plain_from program todo r.fields)
  ended_state history from_calls before over call todo end outcomes fields r front gives serial follows =
      let now = under_way fields before (Ended over) (todo ++ beyond) in
      let same : over ≡ end = first_outcome calls beyond last before call todo end outcomes front over (steps_keep_end program calls now history last (length before) over follows (slice_get-seam before (Ended over) (fresh (todo ++ beyond)))) in
      let goes_on : Follows program calls (between_calls fields (before ++ Ended over ∷ []) (todo ++ beyond)) history last =
      subst (λ (states : List CallState). Follows program calls (record { fields = fields; calls = states }) history last) (sym (append_snoc before (Ended over) (fresh (todo ++ beyond)))) follows in
      let rest : outcomes ≡ plain_from program todo fields = from_calls (before ++ Ended over ∷ []) todo outcomes fields (front-push calls beyond last before call todo end outcomes front over) gives.whole serial goes_on in
      (sym same ∙ ap (λ (x : Ending). x.outcome) gives.gives, rest ∙ ap (λ (x : Ending). plain_from program todo x.fields) gives.gives)

  from_state-none : FromState program calls beyond last []
  from_state-none before (Ended over) call todo end outcomes fields r front gives serial follows = ended_state [] from_calls-none before over call todo end outcomes fields r front gives serial follows
  from_state-none before Fresh call todo end outcomes fields r front gives serial follows = absurd gives.gives
  from_state-none before (At field key block at) call todo end outcomes fields r front gives serial follows =
      absurd (waits-none before (At field key block at) call todo end outcomes fields front follows)
  from_state-none before (Visiting field method args parts at) call todo end outcomes fields r front gives serial follows =
      absurd (waits-none before (Visiting field method args parts at) call todo end outcomes fields front follows)

  from_calls-first : (s : Step) (steps : List Step) → FromCalls program calls beyond last steps → FromState program calls beyond last steps → FromCalls program calls beyond last (s ∷ steps)
  from_calls-first s steps from_calls from_state before todo outcomes fields front whole serial follows =
      let first = follows_first program calls (between_calls fields before (todo ++ beyond)) last s steps follows in
      from_calls-step steps from_calls from_state s before todo outcomes fields first.between front whole serial follows
      (doing program calls (between_calls fields before (todo ++ beyond)) whole s first.between first.does) first.follow

  waits-first : (s : Step) (steps : List Step) → FromCalls program calls beyond last steps → FromState program calls beyond last steps
      → (before : List CallState) (here : CallState) (call : Call) (todo : List Call) (end : Outcome) (outcomes : List Outcome) (fields : List Field) (r : Ending)
      → (here ≡ Fresh → ⊥) → (IsEnded here → ⊥) → Front calls beyond last before (call ∷ todo) (end ∷ outcomes) → Gives program here fields r → IsSerial (s ∷ steps)
      → Follows program calls (under_way fields before here (todo ++ beyond)) (s ∷ steps) last → (end ≡ r.outcome) × (outcomes ≡ plain_from program todo r.fields)
  waits-first s steps from_calls from_state before here call todo end outcomes fields r begun_already open_still front gives serial follows =
      let first = follows_first program calls (under_way fields before here (todo ++ beyond)) last s steps follows in
      waits-step steps from_calls from_state s before here call todo end outcomes fields r first.between begun_already open_still front gives serial follows
      (doing program calls (under_way fields before here (todo ++ beyond)) gives.whole s first.between first.does) first.follow

  from_state-first : (s : Step) (steps : List Step) → FromCalls program calls beyond last steps → FromState program calls beyond last steps → FromState program calls beyond last (s ∷ steps)
  from_state-first s steps from_calls from_state before (Ended over) call todo end outcomes fields r front gives serial follows =
      ended_state (s ∷ steps) (from_calls-first s steps from_calls from_state) before over call todo end outcomes fields r front gives serial follows
  from_state-first s steps from_calls from_state before Fresh call todo end outcomes fields r front gives serial follows = absurd gives.gives
  from_state-first s steps from_calls from_state before (At field key block at) call todo end outcomes fields r front gives serial follows =
      waits-first s steps from_calls from_state before (At field key block at) call todo end outcomes fields r (λ e. cc) (λ ended. ended) front gives serial follows
  from_state-first s steps from_calls from_state before (Visiting field method args parts at) call todo end outcomes fields r front gives serial follows =
      waits-first s steps from_calls from_state before (Visiting field method args parts at) call todo end outcomes fields r (λ e. cc) (λ ended. ended) front gives serial follows

  from_both : (history : List Step) → FromCalls program calls beyond last history × FromState program calls beyond last history
  from_both [] = (from_calls-none, from_state-none)
  from_both (s ∷ steps) =
      let later = from_both steps in
      (from_calls-first s steps later.0 later.1, from_state-first s steps later.0 later.1)

-- ---- from the start on

whole_at_start : (width : ℕ) (h : Holder) → h.is_partial ≡ false → field_at_start width h ≡ Whole (empty_state h.class)
whole_at_start width h is = ap (λ b. if b then Instances (replicate width (empty_state h.class)) else Whole (empty_state h.class)) is

all_whole : (width : ℕ) (holders : List Holder) → All (λ h. h.is_partial ≡ false) holders → AllWhole (map (field_at_start width) holders)
all_whole width [] none_partial = tt
all_whole width (h ∷ holders) none_partial = (
  subst IsWhole (sym (whole_at_start width h (All-head (λ (x : Holder). x.is_partial ≡ false) h holders none_partial))) tt,
  all_whole width holders (All-tail (λ (x : Holder). x.is_partial ≡ false) h holders none_partial),
)

-- With no partial field it does not matter how many instances one would have.
same_at_start : (width : ℕ) (holders : List Holder) → All (λ h. h.is_partial ≡ false) holders → map (field_at_start width) holders ≡ map (field_at_start 0) holders
same_at_start width [] none_partial = refl
same_at_start width (h ∷ holders) none_partial =
    let is : h.is_partial ≡ false = All-head (λ (x : Holder). x.is_partial ≡ false) h holders none_partial in
    let first : field_at_start width h ≡ field_at_start 0 h = whole_at_start width h is ∙ sym (whole_at_start 0 h is) in
    let rest = same_at_start width holders (All-tail (λ (x : Holder). x.is_partial ≡ false) h holders none_partial) in
    λ i. first i ∷ rest i

pub serial_is_plain : SerialIsPlain
serial_is_plain program calls beyond width history end outcomes none_partial serial follows ended =
    let fields = map (field_at_start width) program.fields in
    let front : Front (calls ++ beyond) beyond end [] calls outcomes = record { ended = tt; done = []; are = refl; as_many = refl; gives = ended } in
    (from_both program (calls ++ beyond) beyond end history).0 [] calls outcomes fields front (all_whole width program.fields none_partial) serial follows
    ∙ ap (plain_from program calls) (same_at_start width program.fields none_partial)
