-- The events that take what a run took lead to its history and its results.
use Rattle.std.proofs.Common.{◌≡◌, ℕ, zero, suc, ◌+◌, ◌<◌, ◌≤◌, Bool, true, false, ◌==◌, List, [], ◌∷◌, ◌++◌, length, replicate, Option, Some, None, inl, inr, slice_get, if◌then◌else◌, refl, ap, sym, ◌∙◌, subst, arith, length-append}
use Rattle.std.specs.List.{AllByRecursion}
use Rattle.std.proofs.lemmas.Option.{same_Some}
use Rattle.std.proofs.lemmas.Bool.{eqb-true, false_from_ne_true}
use Rattle.std.proofs.lemmas.List.{append-nil, append_assoc}
use Rattle.sdg_base.specs.declared.val.Outcome.{Outcome}
use Rattle.sdg_base.specs.declared.call.Call.{Call}
use Rattle.sdg_base.specs.declared.port.Port.{Port}
use Rattle.sdg_base.specs.declared.port.Port.TheVariants as port
use Rattle.sdg_base.specs.declared.item.Item.{Item}
use Rattle.sdg_base.specs.Ports.{same_port}
use Rattle.java_tree.specs.declared.tree.Class.{Class}
use Rattle.early_source.specs.Members.{fields}
use Rattle.early_source.specs.Source.{CallState, Source, source, outcome}
use Rattle.placement.specs.declared.event.Event.{Event}
use Rattle.placement.specs.declared.event.Event.TheVariants as event
use Rattle.placement.specs.declared.event.Word.{Word}
use Rattle.placement.specs.declared.event.Word.TheVariants as word
use Rattle.early_task_code.specs.Progress.{Taken, Progress, progress_after}
use Rattle.cluster.specs.History.{Setup, Happening, Took, at_start, after_happening, cells_after, Follows, IsHistoryFrom, steps_of}
use Rattle.cluster.specs.World.{World, first_world, cell, last_step, next_item, entry, take_item, next_result, with_commit, commit_item, event_of, after_events, words_of, cells_of, Offer, offers, lowest, event_for, after_offer, drained_for, most_events, world_of, results_of}
use Rattle.agreement.specs.Simulation.{Simulation}
use Rattle.agreement.specs.Results.{Results, HasResult, RunAgrees, AreEnoughSteps}
use Rattle.agreement.specs.Again.{take_again, takes_of, RunsAgain}
use Rattle.agreement.proofs.Histories.{AllFit}
use Rattle.agreement.proofs.Membership.{Among}
use Rattle.agreement.proofs.Offers.{lowest_among, none_offered, item_offered, offered_is, commits_it, idle}
use Rattle.agreement.proofs.Standings.{after_all-push, Standing, commit_stands}
use Rattle.agreement.proofs.Completion.{potential, commit_falls, all_done, option_cases, Completed}
use Rattle.agreement.proofs.Outcomes.{AreForCells, events_reach, completed_agrees, first_reached, run_completes}

-- ---- the entries of a history are numbered

-- no growths, and this step number
abbrev pub IsNumbered : ℕ → Happening → Type 0
IsNumbered n (Took e) = (e.growths ≡ 0) × (e.step ≡ n)

-- step numbers from n on
abbrev pub AreNumbered : ℕ → List Happening → Type 0
AreNumbered n [] = Unit {0}
AreNumbered n (h ∷ hist) = IsNumbered n h × AreNumbered (n + 1) hist

numbered-push : (n : ℕ) (hist : List Happening) (e : Taken) → AreNumbered n hist → e.growths ≡ 0 → e.step ≡ n + length hist → AreNumbered n (hist ++ Took e ∷ [])
numbered-push n [] e all none at = ((none, plain e.step n at), tt)
  where
    plain : (m n : ℕ) → m ≡ n + 0 → m ≡ n
    plain m n e = omega arith
numbered-push n (h ∷ hist) e all none at = (all.0, numbered-push (n + 1) hist e all.1 none (over e.step n (length hist) at))
  where
    over : (m n k : ℕ) → m ≡ n + suc k → m ≡ n + 1 + k
    over m n k e = omega arith

-- a world whose entries are numbered, and whose next step number is the one after them
pub record InSteps (w : World) (most : ℕ) : Type 0 where
  pub numbered : AreNumbered 1 w.hist
  pub next_step : w.next_step ≡ 1 + length w.hist
  pub few : w.next_step ≤ most

steps_more : (w : World) (n m : ℕ) → n ≤ m → InSteps w n → InSteps w m
steps_more w n m l i = record { numbered = i.numbered; next_step = i.next_step; few = reach w.next_step n m i.few l }
  where
    reach : (a b c : ℕ) → a ≤ b → b ≤ c → a ≤ c
    reach a b c l m = omega arith

one_further : (n : ℕ) → n ≤ n + 1
one_further n = omega arith

take_in_steps : (s : Setup) (w : World) (n : ℕ) (to from : Port) (pick : ℕ) (x : Option Item) → InSteps w n → InSteps (take_item s w to from pick x).0 (n + 1)
take_in_steps s w n to from pick None i = steps_more w n (n + 1) (one_further n) i
take_in_steps s w n to from pick (Some x) i = record {
  numbered = numbered-push 1 w.hist (entry s w to from pick x) i.numbered refl i.next_step;
  next_step = counted w.next_step (length w.hist) _ i.next_step (length-append w.hist (Took (entry s w to from pick x) ∷ []));
  few = both w.next_step n i.few;
}
  where
    counted : (next k m : ℕ) → next ≡ 1 + k → m ≡ k + 1 → next + 1 ≡ 1 + m
    counted next k m e f = omega arith

    both : (a b : ℕ) → a ≤ b → a + 1 ≤ b + 1
    both a b l = omega arith

commit_in_steps : (w : World) (n : ℕ) (from : Port) (x : Option Item) → InSteps w n → InSteps (commit_item w from x).0 (n + 1)
commit_in_steps w n from None i = steps_more w n (n + 1) (one_further n) i
commit_in_steps w n from (Some x) i = record { numbered = i.numbered; next_step = i.next_step; few = more w.next_step n i.few }
  where
    more : (a b : ℕ) → a ≤ b → a ≤ b + 1
    more a b l = omega arith

held_in_steps : (w : World) (n : ℕ) (b : Bool) (other : World × Word) → InSteps w n → InSteps other.0 n → InSteps (if b then (w, word.Held) else other).0 n
held_in_steps w n true other i j = i
held_in_steps w n false other i j = j

event_in_steps : (s : Setup) (w : World) (n : ℕ) (e : Event) → InSteps w n → InSteps (event_of s w e).0 (n + 1)
event_in_steps s w n (event.Take to from pick) i =
    held_in_steps w (n + 1) (w.next_step == last_step) (take_item s w to from pick (next_item s w to from)) (steps_more w n (n + 1) (one_further n) i)
    (take_in_steps s w n to from pick (next_item s w to from) i)
event_in_steps s w n (event.Sink from) i = commit_in_steps w n from (next_result s w from) i

one_over : (n k : ℕ) → n + 1 + k ≤ n + suc k
one_over n k = omega arith

plus_none : (n : ℕ) → n ≤ n + 0
plus_none n = omega arith

pub events_in_steps : (s : Setup) (w : World) (n : ℕ) (events : List Event) → InSteps w n → InSteps (after_events s w events) (n + length events)
events_in_steps s w n [] i = steps_more w n (n + 0) (plus_none n) i
events_in_steps s w n (e ∷ events) i =
    steps_more _ (n + 1 + length events) (n + suc (length events)) (one_over n (length events)) (events_in_steps s (event_of s w e).0 (n + 1) events (event_in_steps s w n e i))

offer_in_steps : (s : Setup) (w : World) (n : ℕ) (o : Option Offer) → InSteps w n → InSteps (after_offer s w o) (n + 1)
offer_in_steps s w n None i = steps_more w n (n + 1) (one_further n) i
offer_in_steps s w n (Some o) i = event_in_steps s w n (event_for o) i

pub drained_in_steps : (s : Setup) (w : World) (n k : ℕ) → InSteps w n → InSteps (drained_for k s w) (n + k)
drained_in_steps s w n zero i = steps_more w n (n + 0) (plus_none n) i
drained_in_steps s w n (suc k) i =
    steps_more _ (n + 1 + k) (n + suc k) (one_over n k) (drained_in_steps s (after_offer s w (lowest (offers s w))) (n + 1) k (offer_in_steps s w n (lowest (offers s w)) i))

pub first_in_steps : InSteps first_world 1
first_in_steps = record { numbered = tt; next_step = refl; few = omega arith }

-- ---- an entry is taken again

-- a world in which nothing was committed
abbrev pub without_commits : List Happening → ℕ → World
without_commits hist n = record { hist = hist; commits = []; next_step = n }

-- an entry is what it says
entry_is : (e : Taken) (number growths step : ℕ) → e.number ≡ number → e.growths ≡ growths → e.step ≡ step
    → ◌≡◌ {A = Taken} (record { cell = e.cell; from = e.from; number = number; pick = e.pick; growths = growths; step = step; item = e.item }) e
entry_is e number growths step number_is growths_is step_is =
    ap (λ (n : ℕ). let t : Taken = record { cell = e.cell; from = e.from; number = n; pick = e.pick; growths = growths; step = step; item = e.item } in t) (sym number_is)
    ∙ ap (λ (g : ℕ). let t : Taken = record { cell = e.cell; from = e.from; number = e.number; pick = e.pick; growths = g; step = step; item = e.item } in t) (sym growths_is)
    ∙ ap (λ (n : ℕ). let t : Taken = record { cell = e.cell; from = e.from; number = e.number; pick = e.pick; growths = e.growths; step = n; item = e.item } in t) (sym step_is)

taken_again : (s : Setup) (hist : List Happening) (n : ℕ) (e : Taken) → Follows (λ p. cells_after s hist p) e → IsNumbered n (Took e) → (n == last_step) ≡ false
    → event_of s (without_commits hist n) (take_again (Took e)) ≡ (without_commits (hist ++ Took e ∷ []) (n + 1), word.Done)
taken_again s hist n e follows numbered going =
    let w = without_commits hist n in
    ap (λ (b : Bool). if b then (w, word.Held) else take_item s w e.cell e.from e.pick (next_item s w e.cell e.from)) going
    ∙ ap (take_item s w e.cell e.from e.pick) follows.given
    ∙ ap (λ (t : Taken). let r : World × Word = (without_commits (hist ++ Took t ∷ []) (n + 1), word.Done) in r)
    (entry_is e ((cell s w e.cell).took e.from + 1) 0 n follows.next numbered.0 numbered.1)

-- no number below the last step is the last step
pub goes_on : (n : ℕ) → n < last_step → (n == last_step) ≡ false
goes_on n l = false_from_ne_true (n == last_step) (λ e. above n (eqb-true n last_step e) l)
  where
    above : (n : ℕ) → n ≡ last_step → n < last_step → ⊥
    above n e l = omega arith

-- ---- a history is taken again

-- what follows from ports follows from the same ports
follows_same : (cells cells' : Port → Progress) (e : Taken) → ((p : Port) → cells p ≡ cells' p) → Follows cells e → Follows cells' e
follows_same cells cells' e same f = record {
  is_cell = f.is_cell;
  next = f.next ∙ ap (λ (q : Progress). q.took e.from + 1) (same e.cell);
  given =
      sym (ap (λ (q : Progress). slice_get (q.gave e.cell) ((cells e.cell).took e.from)) (same e.from)
      ∙ ap (λ (q : Progress). slice_get ((cells' e.from).gave e.cell) (q.took e.from)) (same e.cell))
      ∙ f.given;
}

without_same : (xs ys : List Happening) (n m : ℕ) → xs ≡ ys → n ≡ m → without_commits xs n ≡ without_commits ys m
without_same xs ys n m e f = ap (λ (hist : List Happening). without_commits hist n) e ∙ ap (without_commits ys) f

pub record TakenAgain (s : Setup) (hist rest : List Happening) (n : ℕ) : Type 0 where
  pub done : words_of s (without_commits hist n) (takes_of rest) ≡ replicate (length rest) word.Done
  pub leads_to : after_events s (without_commits hist n) (takes_of rest) ≡ without_commits (hist ++ rest) (n + length rest)

-- After a history, the rest of it is taken as it was.
all_taken_again : (s : Setup) (cells : Port → Progress) (hist rest : List Happening) (n : ℕ) → ((p : Port) → cells p ≡ cells_after s hist p)
    → IsHistoryFrom s cells rest → AreNumbered n rest → n + length rest ≤ last_step → TakenAgain s hist rest n
all_taken_again s cells hist [] n same is numbered l = record { done = refl; leads_to = without_same hist (hist ++ []) n (n + 0) (sym (append-nil hist)) (plain n) }
  where
    plain : (n : ℕ) → n ≡ n + 0
    plain n = omega arith
all_taken_again s cells hist (Took e ∷ rest) n same is numbered l =
    let this = taken_again s hist n e (follows_same cells (λ p. cells_after s hist p) e same is.0) numbered.0 (goes_on n (below n (length rest) l)) in
    let others = all_taken_again s (λ q. after_happening s (Took e) cells q) (hist ++ Took e ∷ []) rest (n + 1)
    (λ p.
    ap (λ (q : Progress). if same_port e.cell p then progress_after s.graph s.header.slots e q else q) (same p)
    ∙ sym (after_all-push s (at_start s.calls) hist (Took e) p))
    is.1 numbered.1 (within n (length rest) l) in
    record {
      done =
          ap (λ (r : World × Word). r.1 ∷ words_of s r.0 (takes_of rest)) this
          ∙ ap (λ (words : List Word). word.Done ∷ words) others.done;
      leads_to =
          ap (λ (r : World × Word). after_events s r.0 (takes_of rest)) this
          ∙ others.leads_to
          ∙ without_same ((hist ++ Took e ∷ []) ++ rest) (hist ++ Took e ∷ rest) (n + 1 + length rest) (n + suc (length rest)) (append_assoc hist (Took e ∷ []) rest) (over n (length rest));
    }
  where
    below : (n k : ℕ) → n + suc k ≤ last_step → n < last_step
    below n k l = omega arith

    within : (n k : ℕ) → n + suc k ≤ last_step → n + 1 + k ≤ last_step
    within n k l = omega arith

    over : (n k : ℕ) → n + 1 + k ≡ n + suc k
    over n k = omega arith

takes_for_cells : (s : Setup) (cells : Port → Progress) (hist : List Happening) → IsHistoryFrom s cells hist → AreForCells (takes_of hist)
takes_for_cells s cells [] is = tt
takes_for_cells s cells (Took e ∷ hist) is = (is.0.is_cell, takes_for_cells s (λ q. after_happening s (Took e) cells q) hist is.1)

-- ---- only commits are left

-- no cell is offered an item after this history
abbrev pub NothingToTake : Setup → List Happening → Type 0
NothingToTake s hist = (to from : Port) (x : Item) → Among to (cells_of s) → Among from (port.Caller ∷ cells_of s) → slice_get ((cells_after s hist from).gave to) ((cells_after s hist to).took from) ≡ Some x → ⊥

pub nothing_to_take : (s : Setup) (w : World) → lowest (offers s w) ≡ None → (w.next_step == last_step) ≡ false → NothingToTake s w.hist
nothing_to_take s w none going to from x m n e = none_offered (offers s w) _ none (item_offered s w to from x going m n e)

pub record CommitsAll (s : Setup) (class : Class) (Agrees : Port → Item → CallState → Type 0) (hist : List Happening) (w : World) : Type 0 where
  pub completed : Completed s class Agrees w
  pub stays : w.hist ≡ hist

-- Where cells have nothing to take, the run to completion commits what is left, and the history stays.
commits_complete : (s : Setup) (class : Class) (Agrees : Port → Item → CallState → Type 0) (n : ℕ) (w : World) → length s.graph.fields ≡ length (fields class)
    → (st : Standing s class Agrees w) → potential s class Agrees w st ≤ n → NothingToTake s w.hist → (w.next_step == last_step) ≡ false
    → CommitsAll s class Agrees w.hist (drained_for n s w)
commits_complete s class Agrees zero w as_many st l nothing going =
    elim (option_cases (lowest (offers s w))) [
      | inl none ↦ record { completed = record { standing = st; done = all_done s class Agrees w st as_many none going; nothing_left = none }; stays = refl }
      | inr found ↦
          let o = found.0 in
          elim (offered_is s w o (lowest_among (offers s w) o found.1)) [
            | inl r ↦ absurd (none_lower _ _ (commit_falls s class Agrees w st o.from r.x r.is) l)
            | inr r ↦ absurd (nothing o.to o.from r.x r.to_in r.from_in r.is)
          ]
    ]
  where
    none_lower : (a b : ℕ) → a < b → b ≤ zero → ⊥
    none_lower a b n l = omega arith
commits_complete s class Agrees (suc n) w as_many st l nothing going =
    elim (option_cases (lowest (offers s w))) [
      | inl none ↦
          let P : World → Type 0 = CommitsAll s class Agrees w.hist in
          subst P (sym (idle s w (suc n) none)) (record { completed = record { standing = st; done = all_done s class Agrees w st as_many none going; nothing_left = none }; stays = refl })
      | inr found ↦
          let o = found.0 in
          let P : World → Type 0 = λ v. CommitsAll s class Agrees w.hist (drained_for n s v) in
          let Q : Option Offer → Type 0 = λ q. P (after_offer s w q) in
          subst Q (sym found.1) (elim (offered_is s w o (lowest_among (offers s w) o found.1)) [
            | inl r ↦
                subst P (sym (commits_it s w o r))
                (commits_complete s class Agrees n (with_commit w o.from) as_many (commit_stands s class Agrees w st o.from r.x r.is)
                (lower _ _ n (commit_falls s class Agrees w st o.from r.x r.is) l) nothing going)
            | inr r ↦ absurd (nothing o.to o.from r.x r.to_in r.from_in r.is)
          ])
    ]
  where
    lower : (a b n : ℕ) → a < b → b ≤ suc n → a ≤ n
    lower a b n l m = omega arith

-- ---- the results

-- what holds of all results holds of one
holds_of_result : (P : ℕ × Outcome → Type 0) (results : Results) (c : ℕ) (how : Outcome) → AllByRecursion P results → HasResult c how results → P (c, how)
holds_of_result P [] c how all h = absurd h
holds_of_result P (r ∷ results) c how all (inl e) = subst P (sym e) all.0
holds_of_result P (r ∷ results) c how all (inr h) = holds_of_result P results c how all.1 h

-- Runs with one history have the same results.
same_results : (class : Class) (s : Setup) (w v : World) → RunAgrees class s w → RunAgrees class s v → v.hist ≡ w.hist
    → (c : ℕ) (how : Outcome) → HasResult c how (results_of s w) → HasResult c how (results_of s v)
same_results class s w v a b same c how h =
    let range = holds_of_result (λ r. (1 ≤ r.0) × (r.0 ≤ length s.calls)) (results_of s w) c how a.one_each.only h in
    let found = b.one_each.each c range.0 range.1 in
    let ends : b.explained.end ≡ a.explained.end =
    same_Some b.explained.end a.explained.end (sym b.explained.legal ∙ ap (λ (hist : List Happening). source class s.calls (steps_of hist)) same ∙ a.explained.legal) in
    let here : outcome a.explained.end c ≡ Some how = holds_of_result (λ r. outcome a.explained.end r.0 ≡ Some r.1) (results_of s w) c how a.explained.gives h in
    let there : outcome b.explained.end c ≡ Some found.0 = holds_of_result (λ r. outcome b.explained.end r.0 ≡ Some r.1) (results_of s v) c found.0 b.explained.gives found.1 in
    let hows : found.0 ≡ how = same_Some found.0 how (sym there ∙ ap (λ (end : Source). outcome end c) ends ∙ here) in
    let P : Outcome → Type 0 = λ o. HasResult c o (results_of s v) in
    subst P hows found.1

-- ---- whole runs

-- A run that went to completion is run again by what it took.
runs_again_from : (s : Setup) (class : Class) (Fits : Call → Type 0) (Agrees : Port → Item → CallState → Type 0) (w : World) (most : ℕ) → 1 ≤ s.header.slots → Simulation class s.graph s.header.slots Fits Agrees → AllFit Fits s.calls
    → Completed s class Agrees w → InSteps w most → most < last_step → RunsAgain s w
runs_again_from s class Fits Agrees w most some sim fit completed steps l =
    let events = takes_of w.hist in
    let t = all_taken_again s (at_start s.calls) [] w.hist 1 (λ p. refl) completed.standing.history steps.numbered (within w.next_step (length w.hist) most steps.next_step steps.few l) in
    let q = events_reach s class Fits Agrees first_world (most_events s) 1 events some sim fit (first_reached s class Fits Agrees sim fit)
    (takes_for_cells s (at_start s.calls) w.hist completed.standing.history) in
    let v = after_events s first_world events in
    let hist : v.hist ≡ w.hist = ap (λ (u : World). u.hist) t.leads_to in
    let next : v.next_step ≡ w.next_step = ap (λ (u : World). u.next_step) t.leads_to ∙ sym steps.next_step in
    let going : (w.next_step == last_step) ≡ false = goes_on w.next_step (reach w.next_step most steps.few l) in
    let c = commits_complete s class Agrees (most_events s) v sim.as_many q.standing q.left_over
    (subst (NothingToTake s) (sym hist) (nothing_to_take s w completed.nothing_left going))
    (ap (λ (n : ℕ). n == last_step) next ∙ going) in
    let a = completed_agrees s class Fits Agrees w sim completed in
    let b = completed_agrees s class Fits Agrees (world_of s events) sim c.completed in
    let stays : (world_of s events).hist ≡ w.hist = c.stays ∙ hist in
    record {
      done = t.done;
      history = hist;
      stays = stays;
      results = same_results class s w (world_of s events) a b stays;
      no_others = same_results class s (world_of s events) w b a (sym stays);
    }
  where
    within : (next k most : ℕ) → next ≡ 1 + k → next ≤ most → most < last_step → 1 + k ≤ last_step
    within next k most e l m = omega arith

    reach : (a b : ℕ) → a ≤ b → b < last_step → a < last_step
    reach a b l m = omega arith

pub runs_again : (s : Setup) (class : Class) (Fits : Call → Type 0) (Agrees : Port → Item → CallState → Type 0) (events : List Event) → 1 ≤ s.header.slots → Simulation class s.graph s.header.slots Fits Agrees → AllFit Fits s.calls
    → AreForCells events → AreEnoughSteps s events → RunsAgain s (world_of s events)
runs_again s class Fits Agrees events some sim fit h enough =
    runs_again_from s class Fits Agrees (world_of s events) (1 + length events + most_events s) some sim fit
    (run_completes s class Fits Agrees events some sim fit h enough)
    (drained_in_steps s (after_events s first_world events) (1 + length events) (most_events s) (events_in_steps s first_world 1 events first_in_steps))
    (plain (length events) (most_events s) enough)
  where
    plain : (k m : ℕ) → k + 1 + m < last_step → 1 + k + m < last_step
    plain k m l = omega arith
