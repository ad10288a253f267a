-- A legal history in which calls don't interleave, call by call.
use Rattle.std.proofs.Common.{◌≡◌, ◌<◌, ℕ, zero, suc, ◌+◌, List, [], ◌∷◌, ◌++◌, map, Option, Some, None, slice_get, length, add-one, sym, ◌∙◌, ap, subst, refl, arith, inl, inr, ◌⊎◌}
use Rattle.std.specs.List.{AllByRecursion}
use Rattle.std.proofs.Math.Seq.{append_snoc}
use Rattle.std.proofs.lemmas.List.{append-nil}
use Rattle.std.proofs.lemmas.Option.{none-some, same_Some}
use Rattle.sdg_base.specs.Limits.{turns_at_start}
use Rattle.sdg_base.specs.declared.val.Val.{Val}
use Rattle.sdg_base.specs.declared.val.Outcome.{Outcome}
use Rattle.sdg_base.specs.declared.call.Call.{Call}
use Rattle.sdg_base.specs.declared.call.Step.{Step}
use Rattle.sdg_base.specs.declared.call.Step.TheVariants.{Begin}
use Rattle.java_tree.specs.declared.tree.Class.{Class}
use Rattle.java_tree.specs.declared.tree.Method.{Method}
use Rattle.java_tree.specs.declared.tree.BlockItem.{BlockItem}
use Rattle.early_source.specs.Variables.{Variables, Tables}
use Rattle.early_source.specs.Members.{fields, methods, empty_tables, variables_of}
use Rattle.early_source.specs.Blocks.{Place, AtMark, AtEnd, run_from, run_block}
use Rattle.early_source.specs.Source.{CallState, Fresh, At, Ended, Source, state_of, begun, steps_from, outcome, outcome_in, numbered, Explains}
use Rattle.early_plain.specs.Plain.{Runs, RunAll}
use Rattle.early_plain.specs.Serial.{FirstArePlain, SerialIsPlain}
use Rattle.early_source.specs.Serial.{IsSerial}
use Rattle.early_plain.proofs.JoinedBlocks.{Ends, IsOver, GoesOn, ends_from, completes}
use Rattle.early_plain.proofs.LegalSteps.{Steps, Begins, GoesOn as Continues, legal, block_of, come_to, steps_leave, IsEnded, goes_on-not_ended, steps_keep_end}
use Rattle.early_plain.proofs.Seams.{slice_get-seam, got_at, set_at, length-push}

-- ---- where calls stand

-- These calls haven't begun.
abbrev fresh : List Call → List CallState
fresh calls = map (λ _. Fresh) calls

fresh-at : (calls : List Call) (j : ℕ) (state : CallState) → slice_get (fresh calls) j ≡ Some state → state ≡ Fresh
fresh-at [] j state is = absurd (none-some state is)
fresh-at (call ∷ calls) zero state is = sym (same_Some Fresh state is)
fresh-at (call ∷ calls) (suc j) state is = fresh-at calls j state is

-- and wait for their begin
fresh-waits : (names : List (List ℕ)) (tables : Tables) (state : CallState) (r : Place × Tables) → state ≡ Fresh → block_of names tables state ≡ Some r → ⊥
fresh-waits names tables state r is_fresh runs = none-some r (sym (ap (block_of names tables) is_fresh) ∙ runs)

-- A call among these has ended, or stands so far behind them.
ended_or_behind : (before behind : List CallState) (n : ℕ) (state : CallState) → AllByRecursion IsEnded before → slice_get (before ++ behind) n ≡ Some state
    → IsEnded state ⊎ ((j : ℕ) × (n ≡ length before + j) × (slice_get behind j ≡ Some state))
ended_or_behind [] behind n state ended is = inr (n, omega arith, is)
ended_or_behind (x ∷ before) behind zero state ended is = inl (subst IsEnded (same_Some x state is) ended.0)
ended_or_behind (x ∷ before) behind (suc n) state ended is = further (ended_or_behind before behind n state ended.1 is)
  where
    further : IsEnded state ⊎ ((j : ℕ) × (n ≡ length before + j) × (slice_get behind j ≡ Some state)) → IsEnded state ⊎ ((j : ℕ) × (suc n ≡ suc (length before) + j) × (slice_get behind j ≡ Some state))
    further (inl e) = inl e
    further (inr r) = let e : n ≡ length before + r.0 = r.1 in inr (r.0, omega arith, r.2)

ended-push : (before : List CallState) (end : Outcome) → AllByRecursion IsEnded before → AllByRecursion IsEnded (before ++ Ended end ∷ [])
ended-push [] end ended = (tt, tt)
ended-push (x ∷ before) end ended = (ended.0, ended-push before end ended.1)

-- ---- what is known between two steps

-- The calls of these states have ended. The calls to do, which have these outcomes in the end, come behind them, and then those beyond.
pub record Front (calls beyond : List Call) (last : Source) (before : List CallState) (todo : List Call) (ends : List Outcome) : Type 0 where
  pub ended : AllByRecursion IsEnded before
  pub done : List Call
  pub are : calls ≡ done ++ (todo ++ beyond)
  pub as_many : length done ≡ length before
  pub each : length ends ≡ length todo
  pub gives : AllByRecursion (λ r. outcome last r.0 ≡ Some r.1) (numbered (suc (length before)) ends)

outcome_in-ended : (state : CallState) (end : Outcome) → outcome_in (Some state) ≡ Some end → IsEnded state
outcome_in-ended (Ended over) end is = tt
outcome_in-ended _ end is = absurd (none-some end is)

module _ (calls beyond : List Call) (last : Source) (before : List CallState) (call : Call) (todo : List Call) (end : Outcome) (ends : List Outcome) (front : Front calls beyond last before (call ∷ todo) (end ∷ ends)) where
  -- The first call to do has ended in the end.
  first_has_ended : (state : CallState) → slice_get last.calls (length before) ≡ Some state → IsEnded state
  first_has_ended state is = outcome_in-ended state end (sym (ap outcome_in is) ∙ front.gives.0)

  -- and so its outcome is this
  first_outcome : (over : Outcome) → slice_get last.calls (length before) ≡ Some (Ended over) → over ≡ end
  first_outcome over is = same_Some over end (sym (ap outcome_in is) ∙ front.gives.0)

  -- Once it has ended, the calls behind it are to do.
  front-push : (over : Outcome) → Front calls beyond last (before ++ Ended over ∷ []) todo ends
  front-push over =
      let count : length (before ++ Ended over ∷ []) ≡ suc (length before) = length-push before (Ended over) (length before) refl in
      let each : suc (length ends) ≡ suc (length todo) = front.each in
      record {
        ended = ended-push before over front.ended;
        done = front.done ++ call ∷ [];
        are = front.are ∙ sym (append_snoc front.done call (todo ++ beyond));
        as_many = length-push front.done call (length before) front.as_many ∙ sym count;
        each = omega arith;
        gives = subst (λ (n : ℕ). AllByRecursion (λ r. outcome last r.0 ≡ Some r.1) (numbered n ends)) (add-one (suc (length before)) ∙ ap suc (sym count)) front.gives.1;
      }

-- ---- what a history gives, from between two calls and from within one

-- the source with these tables, where calls to do haven't begun
abbrev between_calls : Tables → List CallState → List Call → Source
between_calls tables before todo = record { tables = tables; calls = before ++ fresh todo }

-- the source with these tables, where a call is under way
abbrev under_way : Tables → List CallState → CallState → List Call → Source
under_way tables before state todo = record { tables = tables; calls = before ++ state ∷ fresh todo }

-- The calls run one after the other.
abbrev AllRun : Class → List Call → Tables → List Outcome → Type 0
AllRun class todo old ends = (new : Tables) × RunAll class todo old ends new

-- The rest of a call from a place on, and then the calls to do.
abbrev Rest : Class → Place → List Call → Tables → Outcome → List Outcome → Type 0
Rest class place todo old end ends = (between : Tables) × Ends (fields class) place old end between × AllRun class todo between ends

-- What a legal and serial history gives from between two calls on.
abbrev FromCalls : Class → List Call → List Call → Source → List Step → Type 0
FromCalls class calls beyond last history = (before : List CallState) (todo : List Call) (ends : List Outcome) (old : Tables) → Front calls beyond last before todo ends → IsSerial history
    → steps_from class calls (Some (between_calls old before (todo ++ beyond))) history ≡ Some last → AllRun class todo old ends

-- What it gives from a mark of a call on.
abbrev FromMark : Class → List Call → List Call → Source → List Step → Type 0
FromMark class calls beyond last history = (before : List CallState) (call : Call) (todo : List Call) (rest : List BlockItem) (variables : Variables) (turns : ℕ) (key : Val) (end : Outcome) (ends : List Outcome) (old : Tables)
    → Front calls beyond last before (call ∷ todo) (end ∷ ends) → IsSerial history
    → steps_from class calls (Some (under_way old before (At rest variables turns key) (todo ++ beyond))) history ≡ Some last
    → Rest class (AtMark rest variables turns key) todo old end ends

-- What it gives from any place of a call on.
abbrev FromPlace : Class → List Call → List Call → Source → List Step → Type 0
FromPlace class calls beyond last history = (before : List CallState) (call : Call) (todo : List Call) (place : Place) (end : Outcome) (ends : List Outcome) (old : Tables)
    → Front calls beyond last before (call ∷ todo) (end ∷ ends) → IsSerial history
    → steps_from class calls (Some (under_way old before (state_of place) (todo ++ beyond))) history ≡ Some last
    → Rest class place todo old end ends

-- A call that begins here and ends so, with nothing between, runs as plain Java runs it.
runs_begun : (class : Class) (call : Call) (old : Tables) (place : Place) (tables : Tables) (end : Outcome) (between : Tables) (method : Option Method)
    → slice_get (methods class) call.method ≡ method → begun class method call.args old ≡ Some (place, tables) → Ends (fields class) place tables end between → Runs class call old end between
runs_begun class call old place tables end between None is_method runs ends = absurd (none-some (place, tables) runs)
runs_begun class call old place tables end between (Some m) is_method runs ends = record {
  method = m;
  is_method = is_method;
  completes =
      completes (fields class) m.body None (variables_of m call.args) turns_at_start old end between
      (ends_from (fields class) (run_from (fields class) m.body None (variables_of m call.args) turns_at_start old) place tables end between runs ends);
}

module _ (class : Class) (calls beyond : List Call) (last : Source) where
  -- ---- no step is left

  from_calls-none : FromCalls class calls beyond last []
  from_calls-none before [] [] old front serial is = (old, refl)
  from_calls-none before [] (end ∷ ends) old front serial is = let each : suc (length ends) ≡ 0 = front.each in absurd (omega arith)
  from_calls-none before (call ∷ todo) [] old front serial is = let each : 0 ≡ suc (length todo) = front.each in absurd (omega arith)
  from_calls-none before (call ∷ todo) (end ∷ ends) old front serial is =
      absurd (first_has_ended calls beyond last before call todo end ends front Fresh
      (ap (λ (now : Source). slice_get now.calls (length before)) (sym (same_Some (between_calls old before (call ∷ todo ++ beyond)) last is)) ∙ slice_get-seam before Fresh (fresh (todo ++ beyond))))

  from_mark-none : FromMark class calls beyond last []
  from_mark-none before call todo rest variables turns key end ends old front serial is =
      let state = At rest variables turns key in
      absurd (first_has_ended calls beyond last before call todo end ends front state
      (ap (λ (now : Source). slice_get now.calls (length before)) (sym (same_Some (under_way old before state (todo ++ beyond)) last is)) ∙ slice_get-seam before state (fresh (todo ++ beyond))))

  -- ---- a step, and those that follow it

  -- A call that isn't the next can't begin: this one would never end.
  begins_too_early : (before : List CallState) (call : Call) (todo : List Call) (end : Outcome) (ends : List Outcome) (state : CallState) (behind : List CallState) (tables : Tables) (n : ℕ) (steps : List Step)
      → Front calls beyond last before (call ∷ todo) (end ∷ ends) → IsSerial (Begin (suc n) ∷ steps) → length before < n
      → steps_from class calls (Some (record { tables = tables; calls = before ++ state ∷ behind })) (Begin (suc n) ∷ steps) ≡ Some last
      → IsEnded state
  begins_too_early before call todo end ends state behind tables n steps front serial early is =
      let now : Source = record { tables = tables; calls = before ++ state ∷ behind } in
      let stays = steps_leave class calls (Begin (suc n) ∷ steps) now last (suc n) (length before) is (omega arith, serial.0) (omega arith) in
      first_has_ended calls beyond last before call todo end ends front state (stays ∙ slice_get-seam before state behind)

  next_begins : (steps : List Step) → FromPlace class calls beyond last steps → (before : List CallState) (call next : Call) (todo : List Call) (end : Outcome) (ends : List Outcome) (old : Tables)
      (place : Place) (tables : Tables) (n : ℕ) → Front calls beyond last before (next ∷ todo) (end ∷ ends) → IsSerial steps → n ≡ length before
      → slice_get calls n ≡ Some call → begun class (slice_get (methods class) call.method) call.args old ≡ Some (place, tables)
      → steps_from class calls (Some (come_to (between_calls old before (next ∷ todo ++ beyond)) n place tables)) steps ≡ Some last
      → AllRun class (next ∷ todo) old (end ∷ ends)
  next_begins steps from_place before call next todo end ends old place tables n front serial at is_call runs is =
      let here : slice_get calls n ≡ Some next = ap (λ xs. slice_get xs n) front.are ∙ got_at front.done next (todo ++ beyond) n (front.as_many ∙ sym at) in
      let same : call ≡ next = same_Some call next (sym is_call ∙ here) in
      let next_runs : begun class (slice_get (methods class) next.method) next.args old ≡ Some (place, tables) =
      subst (λ (c : Call). begun class (slice_get (methods class) c.method) c.args old ≡ Some (place, tables)) same runs in
      let goes_on : steps_from class calls (Some (under_way tables before (state_of place) (todo ++ beyond))) steps ≡ Some last =
      subst (λ (states : List CallState). steps_from class calls (Some (record { tables = tables; calls = states })) steps ≡ Some last) (set_at before Fresh (fresh (todo ++ beyond)) (state_of place) n (sym at)) is in
      let rest = from_place before next todo place end ends tables front serial goes_on in
      (rest.2.0, (rest.0, runs_begun class next old place tables end rest.0 (slice_get (methods class) next.method) refl next_runs rest.1, rest.2.1))

  -- where a call begins and all calls before have ended, it is the next
  begins_between : (steps : List Step) → FromPlace class calls beyond last steps → (before : List CallState) (todo : List Call) (ends : List Outcome) (old : Tables)
      (call : Call) (place : Place) (tables : Tables) (n j : ℕ) → Front calls beyond last before todo ends → IsSerial (Begin (suc n) ∷ steps)
      → steps_from class calls (Some (between_calls old before (todo ++ beyond))) (Begin (suc n) ∷ steps) ≡ Some last → slice_get calls n ≡ Some call
      → begun class (slice_get (methods class) call.method) call.args old ≡ Some (place, tables)
      → steps_from class calls (Some (come_to (between_calls old before (todo ++ beyond)) n place tables)) steps ≡ Some last
      → n ≡ length before + j → slice_get (fresh (todo ++ beyond)) j ≡ Some Fresh → AllRun class todo old ends
  begins_between steps from_place before [] [] old call place tables n j front serial whole is_call runs is at is_fresh = (old, refl)
  begins_between steps from_place before [] (end ∷ ends) old call place tables n j front serial whole is_call runs is at is_fresh =
      let each : suc (length ends) ≡ 0 = front.each in absurd (omega arith)
  begins_between steps from_place before (next ∷ todo) [] old call place tables n j front serial whole is_call runs is at is_fresh =
      let each : 0 ≡ suc (length todo) = front.each in absurd (omega arith)
  begins_between steps from_place before (next ∷ todo) (end ∷ ends) old call place tables n zero front serial whole is_call runs is at is_fresh =
      next_begins steps from_place before call next todo end ends old place tables n front serial.1 (omega arith) is_call runs is
  begins_between steps from_place before (next ∷ todo) (end ∷ ends) old call place tables n (suc j) front serial whole is_call runs is at is_fresh =
      absurd (begins_too_early before next todo end ends Fresh (fresh (todo ++ beyond)) old n steps front serial (omega arith) whole)

  from_calls-step : (s : Step) (steps : List Step) → FromPlace class calls beyond last steps → (before : List CallState) (todo : List Call) (ends : List Outcome) (old : Tables) (later : Source)
      → Front calls beyond last before todo ends → IsSerial (s ∷ steps) → steps_from class calls (Some (between_calls old before (todo ++ beyond))) (s ∷ steps) ≡ Some last
      → Steps class calls (between_calls old before (todo ++ beyond)) s later → steps_from class calls (Some later) steps ≡ Some last → AllRun class todo old ends
  from_calls-step s steps from_place before todo ends old later front serial whole (Begins n call place tables is_fresh is_call runs) is =
      place_of (ended_or_behind before (fresh (todo ++ beyond)) n Fresh front.ended is_fresh)
    where
      place_of : IsEnded Fresh ⊎ ((j : ℕ) × (n ≡ length before + j) × (slice_get (fresh (todo ++ beyond)) j ≡ Some Fresh)) → AllRun class todo old ends
      place_of (inl ended) = absurd ended
      place_of (inr r) = begins_between steps from_place before todo ends old call place tables n r.0 front serial whole is_call runs is r.1 r.2
  from_calls-step s steps from_place before todo ends old later front serial whole (Continues n state place tables is_state runs) is =
      place_of (ended_or_behind before (fresh (todo ++ beyond)) n state front.ended is_state)
    where
      place_of : IsEnded state ⊎ ((j : ℕ) × (n ≡ length before + j) × (slice_get (fresh (todo ++ beyond)) j ≡ Some state)) → AllRun class todo old ends
      place_of (inl ended) = absurd (goes_on-not_ended (fields class) old state (place, tables) runs ended)
      place_of (inr r) = absurd (fresh-waits (fields class) old state (place, tables) (fresh-at (todo ++ beyond) r.0 state r.2) runs)

  -- where a call is at its mark, it is the one that goes on
  continues_at : (steps : List Step) → FromPlace class calls beyond last steps → (before : List CallState) (call : Call) (todo : List Call) (rest : List BlockItem) (variables : Variables) (turns : ℕ) (key : Val)
      (end : Outcome) (ends : List Outcome) (old : Tables) (state : CallState) (place : Place) (tables : Tables) (n j : ℕ) → Front calls beyond last before (call ∷ todo) (end ∷ ends) → IsSerial steps
      → block_of (fields class) old state ≡ Some (place, tables)
      → steps_from class calls (Some (come_to (under_way old before (At rest variables turns key) (todo ++ beyond)) n place tables)) steps ≡ Some last
      → n ≡ length before + j → slice_get (At rest variables turns key ∷ fresh (todo ++ beyond)) j ≡ Some state → Rest class (AtMark rest variables turns key) todo old end ends
  continues_at steps from_place before call todo rest variables turns key end ends old state place tables n zero front serial runs is at is_state =
      let here = At rest variables turns key in
      let same : state ≡ here = sym (same_Some here state is_state) in
      let block : run_block (fields class) rest variables turns key old ≡ Some (place, tables) = subst (λ (x : CallState). block_of (fields class) old x ≡ Some (place, tables)) same runs in
      let count : length before ≡ n = omega arith in
      let goes_on : steps_from class calls (Some (under_way tables before (state_of place) (todo ++ beyond))) steps ≡ Some last =
      subst (λ (states : List CallState). steps_from class calls (Some (record { tables = tables; calls = states })) steps ≡ Some last) (set_at before here (fresh (todo ++ beyond)) (state_of place) n count) is in
      let then = from_place before call todo place end ends tables front serial goes_on in
      (then.0, GoesOn rest variables turns key old place tables end then.0 block then.1, then.2)
  continues_at steps from_place before call todo rest variables turns key end ends old state place tables n (suc j) front serial runs is at is_state =
      absurd (fresh-waits (fields class) old state (place, tables) (fresh-at (todo ++ beyond) j state is_state) runs)

  from_mark-step : (s : Step) (steps : List Step) → FromPlace class calls beyond last steps → (before : List CallState) (call : Call) (todo : List Call) (rest : List BlockItem) (variables : Variables) (turns : ℕ) (key : Val)
      (end : Outcome) (ends : List Outcome) (old : Tables) (later : Source) → Front calls beyond last before (call ∷ todo) (end ∷ ends) → IsSerial (s ∷ steps)
      → steps_from class calls (Some (under_way old before (At rest variables turns key) (todo ++ beyond))) (s ∷ steps) ≡ Some last
      → Steps class calls (under_way old before (At rest variables turns key) (todo ++ beyond)) s later → steps_from class calls (Some later) steps ≡ Some last
      → Rest class (AtMark rest variables turns key) todo old end ends
  from_mark-step s steps from_place before call todo rest variables turns key end ends old later front serial whole (Begins n other place tables is_fresh is_call runs) is =
      absurd (place_of (ended_or_behind before (At rest variables turns key ∷ fresh (todo ++ beyond)) n Fresh front.ended is_fresh))
    where
      behind_it : (j : ℕ) → n ≡ length before + j → slice_get (At rest variables turns key ∷ fresh (todo ++ beyond)) j ≡ Some Fresh → ⊥
      behind_it zero at is_fresh_there = cc
      behind_it (suc j) at is_fresh_there = begins_too_early before call todo end ends (At rest variables turns key) (fresh (todo ++ beyond)) old n steps front serial (omega arith) whole

      place_of : IsEnded Fresh ⊎ ((j : ℕ) × (n ≡ length before + j) × (slice_get (At rest variables turns key ∷ fresh (todo ++ beyond)) j ≡ Some Fresh)) → ⊥
      place_of (inl ended) = ended
      place_of (inr r) = behind_it r.0 r.1 r.2
  from_mark-step s steps from_place before call todo rest variables turns key end ends old later front serial whole (Continues n state place tables is_state runs) is =
      place_of (ended_or_behind before (At rest variables turns key ∷ fresh (todo ++ beyond)) n state front.ended is_state)
    where
      place_of : IsEnded state ⊎ ((j : ℕ) × (n ≡ length before + j) × (slice_get (At rest variables turns key ∷ fresh (todo ++ beyond)) j ≡ Some state)) → Rest class (AtMark rest variables turns key) todo old end ends
      place_of (inl ended) = absurd (goes_on-not_ended (fields class) old state (place, tables) runs ended)
      place_of (inr r) = continues_at steps from_place before call todo rest variables turns key end ends old state place tables n r.0 front serial runs is r.1 r.2

  -- ---- all steps

  from_place-both : (history : List Step) → FromCalls class calls beyond last history → FromMark class calls beyond last history → FromPlace class calls beyond last history
  from_place-both history from_calls from_mark before call todo (AtMark rest variables turns key) end ends old front serial is =
      from_mark before call todo rest variables turns key end ends old front serial is
  from_place-both history from_calls from_mark before call todo (AtEnd over) end ends old front serial is =
      let now = under_way old before (Ended over) (todo ++ beyond) in
      let same : over ≡ end = first_outcome calls beyond last before call todo end ends front over (steps_keep_end class calls history now last (length before) over is (slice_get-seam before (Ended over) (fresh (todo ++ beyond)))) in
      let goes_on : steps_from class calls (Some (between_calls old (before ++ Ended over ∷ []) (todo ++ beyond))) history ≡ Some last =
      subst (λ (states : List CallState). steps_from class calls (Some (record { tables = old; calls = states })) history ≡ Some last) (sym (append_snoc before (Ended over) (fresh (todo ++ beyond)))) is in (
        old,
        subst (λ (e : Outcome). Ends (fields class) (AtEnd over) old e old) same (IsOver over old),
        from_calls (before ++ Ended over ∷ []) todo ends old (front-push calls beyond last before call todo end ends front over) serial goes_on,
      )

  from_both : (history : List Step) → FromCalls class calls beyond last history × FromMark class calls beyond last history
  from_both [] = (from_calls-none, from_mark-none)
  from_both (s ∷ steps) =
      let later = from_both steps in
      let from_place : FromPlace class calls beyond last steps = from_place-both steps later.0 later.1 in (
        (λ before todo ends old front serial is.
            let first = legal class calls (between_calls old before (todo ++ beyond)) s steps last is in
            from_calls-step s steps from_place before todo ends old first.later front serial is first.steps_to first.legal),
        (λ before call todo rest variables turns key end ends old front serial is.
            let first = legal class calls (under_way old before (At rest variables turns key) (todo ++ beyond)) s steps last is in
            from_mark-step s steps from_place before call todo rest variables turns key end ends old first.later front serial is first.steps_to first.legal),
      )

pub first_are_plain : FirstArePlain
first_are_plain class calls beyond history outcomes serial each explains =
    let last = explains.end in
    let front : Front (calls ++ beyond) beyond last [] calls outcomes = record { ended = tt; done = []; are = refl; as_many = refl; each = each; gives = explains.gives } in
    (from_both class (calls ++ beyond) beyond last history).0 [] calls outcomes (empty_tables class) front serial explains.legal

pub serial_is_plain : SerialIsPlain
serial_is_plain class calls history outcomes serial each explains =
    first_are_plain class calls [] history outcomes serial each (subst (λ (all : List Call). Explains class all history (numbered 1 outcomes)) (sym (append-nil calls)) explains)
