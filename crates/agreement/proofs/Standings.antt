-- Worlds that events reach: the source that was stepped along, and what each event makes of it.
use Rattle.std.proofs.Common.{◌≡◌, ◌≢◌, ℕ, ◌+◌, ◌<◌, ◌≤◌, Bool, true, false, List, [], ◌∷◌, ◌++◌, length, Option, Some, inl, inr, if◌then◌else◌, refl, ap, sym, ◌∙◌, subst, arith}
use Rattle.std.proofs.lemmas.Option.{slice_get_within}
use Rattle.std.proofs.lemmas.List.{append-nil}
use Rattle.sdg_base.specs.declared.call.Call.{Call}
use Rattle.sdg_base.specs.declared.port.Port.{Port}
use Rattle.sdg_base.specs.declared.port.Port.TheVariants as port
use Rattle.sdg_base.specs.declared.item.Item.{Item}
use Rattle.sdg_base.specs.Ports.{same_port}
use Rattle.java_tree.specs.declared.tree.Class.{Class}
use Rattle.early_tables.specs.States.{State}
use Rattle.early_source.specs.Source.{CallState, Source, start, nth, steps_from}
use Rattle.early_task_code.specs.Progress.{Progress}
use Rattle.cluster.specs.History.{Setup, Happening, Took, IsCell, after_happening, after_all, at_start, Follows, HappensAfter, IsHistoryFrom, IsHistory, call_of, shown, steps_of}
use Rattle.cluster.specs.World.{World, first_world, cell, next_item, entry, with_entry, committed, next_result, with_commit}
use Rattle.agreement.specs.Simulation.{Simulation, left}
use Rattle.sdg_base.proofs.Ports.{same_port-refl}
use Rattle.agreement.proofs.Invariant.{Spot, Agreement}
use Rattle.agreement.proofs.Channels.{one, stepped, entry_steps, bool_cases, port_cases, gave_longer}
use Rattle.agreement.proofs.Moves.{Move, moved_place, new_spot, old_spot, now_after, move_agrees, nth_same, nth_other, not_moved, moved_here}
use Rattle.agreement.proofs.Histories.{AllFit, first_place, start_agrees, flight_of, entry_advances, steps_from-append, steps_of-append}

-- ---- a history with one happening more

pub after_all-push : (s : Setup) (cells : Port → Progress) (hist : List Happening) (h : Happening) (p : Port) → after_all s cells (hist ++ h ∷ []) p ≡ after_happening s h (λ q. after_all s cells hist q) p
after_all-push s cells [] h p = refl
after_all-push s cells (x ∷ hist) h p = after_all-push s (λ q. after_happening s x cells q) hist h p

history-push : (s : Setup) (cells : Port → Progress) (hist : List Happening) (h : Happening) → IsHistoryFrom s cells hist → HappensAfter (λ q. after_all s cells hist q) h → IsHistoryFrom s cells (hist ++ h ∷ [])
history-push s cells [] h is follows = (follows, tt)
history-push s cells (x ∷ hist) h is follows = (is.0, history-push s (λ q. after_happening s x cells q) hist h is.1 follows)

-- ---- commits

-- each commit is of the result after the last that was committed of its port
pub data AreCommits : List (Port × ℕ) → Type 0 where
  NoCommits : AreCommits []
  OneMore : (commits : List (Port × ℕ)) (p : Port) → AreCommits commits → AreCommits (commits ++ (p, committed p commits + 1) ∷ [])

committed-push : (p : Port) (commits : List (Port × ℕ)) (c : Port × ℕ) → committed p (commits ++ c ∷ []) ≡ (if same_port c.0 p then committed p commits + 1 else committed p commits)
committed-push p [] c = refl
committed-push p (x ∷ commits) c =
    ap (λ (n : ℕ). if same_port x.0 p then n + 1 else n) (committed-push p commits c) ∙ swap (same_port x.0 p) (same_port c.0 p) (committed p commits)
  where
    swap : (a b : Bool) (n : ℕ) → (if a then (if b then n + 1 else n) + 1 else (if b then n + 1 else n)) ≡ (if b then (if a then n + 1 else n) + 1 else (if a then n + 1 else n))
    swap true true n = refl
    swap true false n = refl
    swap false true n = refl
    swap false false n = refl

pub committed-same : (p : Port) (commits : List (Port × ℕ)) (k : ℕ) → committed p (commits ++ (p, k) ∷ []) ≡ committed p commits + 1
committed-same p commits k = committed-push p commits (p, k) ∙ ap (λ (b : Bool). if b then committed p commits + 1 else committed p commits) (same_port-refl p)

pub committed-other : (p q : Port) (commits : List (Port × ℕ)) (k : ℕ) → same_port q p ≡ false → committed p (commits ++ (q, k) ∷ []) ≡ committed p commits
committed-other p q commits k e = committed-push p commits (q, k) ∙ ap (λ (b : Bool). if b then committed p commits + 1 else committed p commits) e

pub committed-grows : (p q : Port) (commits : List (Port × ℕ)) (k : ℕ) → committed p commits ≤ committed p (commits ++ (q, k) ∷ [])
committed-grows p q commits k =
    elim (bool_cases (same_port q p)) [
      | inl e ↦ more (committed p commits) _ (committed-push p commits (q, k) ∙ ap (λ (b : Bool). if b then committed p commits + 1 else committed p commits) e)
      | inr e ↦ same (committed p commits) _ (committed-other p q commits k e)
    ]
  where
    more : (n m : ℕ) → m ≡ n + 1 → n ≤ m
    more n m e = omega arith

    same : (n m : ℕ) → m ≡ n → n ≤ m
    same n m e = omega arith

-- ---- worlds

pub none_at_all : (n : ℕ) → 0 ≤ n
none_at_all n = omega arith

pub record Standing (s : Setup) (class : Class) (Agrees : Port → Item → CallState → Type 0) (w : World) : Type 0 where
  pub history : IsHistory s w.hist
  pub now : Source
  pub place : ℕ → Spot
  pub legal : steps_from class s.calls (Some (start class s.calls)) (steps_of w.hist) ≡ Some now
  pub agreement : Agreement class s.calls s.header.slots Agrees (λ p. cell s w p) now place
  pub within : (p : Port) → committed p w.commits ≤ length ((cell s w p).gave port.Sink)
  pub made : AreCommits w.commits

unfoldable pub first_stands : (s : Setup) (class : Class) (Fits : Call → Type 0) (Agrees : Port → Item → CallState → Type 0) → Simulation class s.graph s.header.slots Fits Agrees → AllFit Fits s.calls
    → Standing s class Agrees first_world
first_stands s class Fits Agrees sim fit = record {
  history = tt;
  now = start class s.calls;
  place = first_place;
  legal = refl;
  agreement = start_agrees class s.calls s.graph s.header.slots Fits Agrees sim fit;
  within = λ p. none_at_all (length ((cell s first_world p).gave port.Sink));
  made = NoCommits;
}

pub first_now : (s : Setup) (class : Class) (Fits : Call → Type 0) (Agrees : Port → Item → CallState → Type 0) → (sim : Simulation class s.graph s.header.slots Fits Agrees) → (fit : AllFit Fits s.calls)
    → (first_stands s class Fits Agrees sim fit).now ≡ start class s.calls
unfolding first_stands
first_now s class Fits Agrees sim fit = refl

-- ---- a cell takes an item

-- what a take makes of the world, and of the source
pub record TakenOn (s : Setup) (class : Class) (Agrees : Port → Item → CallState → Type 0) (w : World) (st : Standing s class Agrees w) (to from : Port) (pick : ℕ) (x : Item) : Type 0 where
  pub standing : Standing s class Agrees (with_entry s w to from pick x)
  pub old : CallState
  pub was : nth st.now.calls (call_of x) ≡ Some old
  pub stood : st.place (call_of x) ≡ old_spot to from (λ p. cell s w p)
  pub new : CallState
  pub is : nth standing.now.calls (call_of x) ≡ Some new
  pub fewer : left new < left old
  pub receiver : Port
  pub stands : standing.place (call_of x) ≡ new_spot to receiver (λ p. cell s w p)
  pub other_states : (q : ℕ) → q ≢ call_of x → nth standing.now.calls q ≡ nth st.now.calls q
  pub other_places : (q : ℕ) → q ≢ call_of x → standing.place q ≡ st.place q

grown : (to from : Port) (cells cells' : Port → Progress) (receiver : Port) (out : Item) (state : State) (p : Port) (n : ℕ) → ((q : Port) → cells' q ≡ stepped to from (one receiver out state) cells q)
    → n ≤ length ((cells p).gave port.Sink) → n ≤ length ((cells' p).gave port.Sink)
grown to from cells cells' receiver out state p n steps l =
    let g = gave_longer to from (one receiver out state) cells p port.Sink in
    let P : Progress → Type 0 = λ q. n ≤ length (q.gave port.Sink) in
    subst P (sym (steps p)) (reach n (length ((cells p).gave port.Sink)) (length ((stepped to from (one receiver out state) cells p).gave port.Sink)) l g)
  where
    reach : (a b c : ℕ) → a ≤ b → b ≤ c → a ≤ c
    reach a b c l m = omega arith

pub take_stands : (s : Setup) (class : Class) (Fits : Call → Type 0) (Agrees : Port → Item → CallState → Type 0) (w : World)
    → 1 ≤ s.header.slots → Simulation class s.graph s.header.slots Fits Agrees → AllFit Fits s.calls
    → (st : Standing s class Agrees w) → (to from : Port) (pick : ℕ) (x : Item) → IsCell to → next_item s w to from ≡ Some x
    → TakenOn s class Agrees w st to from pick x
take_stands s class Fits Agrees w some sim fit st to from pick x is_cell given =
    let e = entry s w to from pick x in
    let cells : Port → Progress = λ p. cell s w p in
    let next = with_entry s w to from pick x in
    let cells' : Port → Progress = λ p. cell s next p in
    let follows : Follows cells e = record { is_cell = is_cell; next = refl; given = given } in
    let f = flight_of class s.calls s.header.slots Agrees cells st.now st.place e st.agreement follows in
    let v = entry_advances s class Fits Agrees cells st.now st.place e some sim fit st.agreement follows in
    let steps : (p : Port) → cells' p ≡ stepped to from (one v.to v.out v.state) cells p =
    λ p. after_all-push s (at_start s.calls) w.hist (Took e) p ∙ entry_steps s e (one v.to v.out v.state) cells v.runs_so p in
    let m : Move class s.calls s.header.slots Agrees cells cells' st.now st.place to from x = record {
      given = given;
      own_in = v.own_in;
      to = v.to;
      to_in = v.to_in;
      out = v.out;
      state = v.state;
      steps = steps;
      of_call = v.of_call;
      new = v.new;
      agrees = v.agrees;
      start = v.start;
      after = v.after;
      same_fields = v.same_fields;
      tables = v.tables cells' steps;
      front = v.front cells' steps;
    } in
    record {
      standing = record {
        history = history-push s (at_start s.calls) w.hist (Took e) st.history follows;
        now = now_after st.now (call_of x) v.new v.after;
        place = moved_place (call_of x) (new_spot to v.to cells) st.place;
        legal =
            ap (steps_from class s.calls (Some (start class s.calls))) (steps_of-append w.hist (Took e ∷ []))
            ∙ steps_from-append class s.calls (Some (start class s.calls)) (steps_of w.hist) (steps_of (Took e ∷ []))
            ∙ ap (λ (o : Option Source). steps_from class s.calls o (steps_of (Took e ∷ []))) st.legal
            ∙ ap (steps_from class s.calls (Some st.now)) (append-nil (shown (Took e)))
            ∙ v.legal;
        agreement = move_agrees class s.calls s.header.slots Agrees cells cells' st.now st.place to from x st.agreement m;
        within = λ p. grown to from cells cells' v.to v.out v.state p (committed p w.commits) steps (st.within p);
        made = st.made;
      };
      old = f.state;
      was = f.is_state;
      stood = f.placed;
      new = v.new;
      is = nth_same st.now.calls (call_of x) f.state v.new f.is_state;
      fewer = v.fewer;
      receiver = v.to;
      stands = moved_here (call_of x) (call_of x) (new_spot to v.to cells) st.place refl;
      other_states = λ q ne. nth_other st.now.calls (call_of x) q v.new ne;
      other_places = λ q ne. not_moved (call_of x) q (new_spot to v.to cells) st.place ne;
    }

-- ---- a result is committed

one_more_fits : (n m l : ℕ) → m ≡ n + 1 → n < l → m ≤ l
one_more_fits n m l e h = omega arith

as_before : (n m l : ℕ) → m ≡ n → n ≤ l → m ≤ l
as_before n m l e h = omega arith

-- as many results are committed as were given
pub commit_within : (s : Setup) (class : Class) (Agrees : Port → Item → CallState → Type 0) (w : World) → (st : Standing s class Agrees w) → (from : Port) (x : Item) → next_result s w from ≡ Some x
    → (p : Port) → committed p (with_commit w from).commits ≤ length ((cell s w p).gave port.Sink)
commit_within s class Agrees w st from x given p =
    elim (port_cases from p) [
      | inl same ↦
          let P : Port → Type 0 = λ q. committed q (w.commits ++ (from, committed from w.commits + 1) ∷ []) ≤ length ((cell s w q).gave port.Sink) in
          subst P same (one_more_fits (committed from w.commits) _ (length ((cell s w from).gave port.Sink)) (committed-same from w.commits (committed from w.commits + 1)) (slice_get_within ((cell s w from).gave port.Sink) (committed from w.commits) x given))
      | inr other ↦ as_before (committed p w.commits) _ (length ((cell s w p).gave port.Sink)) (committed-other p from w.commits (committed from w.commits + 1) other) (st.within p)
    ]

unfoldable pub commit_stands : (s : Setup) (class : Class) (Agrees : Port → Item → CallState → Type 0) (w : World) → (st : Standing s class Agrees w) → (from : Port) (x : Item) → next_result s w from ≡ Some x
    → Standing s class Agrees (with_commit w from)
commit_stands s class Agrees w st from x given = record {
  history = st.history;
  now = st.now;
  place = st.place;
  legal = st.legal;
  agreement = st.agreement;
  within = commit_within s class Agrees w st from x given;
  made = OneMore w.commits from st.made;
}
