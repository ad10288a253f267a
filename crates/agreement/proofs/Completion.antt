-- The run to completion leaves no call without its result.
use Rattle.std.proofs.Common.{◌≡◌, ℕ, zero, suc, ◌+◌, ◌<◌, ◌≤◌, Bool, true, false, ◌&&◌, ◌==◌, List, [], ◌∷◌, ◌++◌, length, Option, Some, None, ◌⊎◌, inl, inr, slice_get, if◌then◌else◌, refl, ap, sym, ◌∙◌, subst, arith}
use Rattle.std.specs.Prelude.{nat_lt, sum_by}
use Rattle.std.proofs.lemmas.Option.{slice_get_within}
use Rattle.std.proofs.lemmas.Bool.{eqb-true, lt-ltb, ltb-true, ltb-false, false_from_ne_true}
use Rattle.sdg_base.specs.declared.call.Call.{Call}
use Rattle.sdg_base.specs.declared.port.Port.{Port}
use Rattle.sdg_base.specs.declared.port.Port.TheVariants as port
use Rattle.sdg_base.specs.declared.item.Item.{Item}
use Rattle.sdg_base.specs.Ports.{same_port}
use Rattle.java_tree.specs.declared.tree.Class.{Class}
use Rattle.early_source.specs.Members.{fields}
use Rattle.early_source.specs.Source.{CallState, nth}
use Rattle.cluster.specs.History.{Setup, IsCell, call_of}
use Rattle.cluster.specs.World.{World, cell, last_step, with_entry, committed, next_result, with_commit, numbers_from, Offer, offers, lowest, pick_of, after_offer, drained_for}
use Rattle.agreement.specs.Simulation.{Simulation, left}
use Rattle.sdg_base.proofs.Ports.{same_port-true, same_port-refl}
use Rattle.agreement.proofs.Invariant.{Spot, IsIn, IsReceiver}
use Rattle.agreement.proofs.Channels.{bool_cases, port_cases}
use Rattle.agreement.proofs.Moves.{old_spot, number_cases}
use Rattle.agreement.proofs.Histories.{AllFit}
use Rattle.agreement.proofs.Membership.{Among, sum_less, zero_part, in_numbers, among_numbers}
use Rattle.agreement.proofs.Offers.{lowest_among, none_offered, in_cells, in_senders, result_offered, item_offered, offered_is, commits_it, takes_it, idle}
use Rattle.agreement.proofs.Standings.{Standing, TakenOn, take_stands, commit_stands, committed-same, committed-grows}

-- ---- how much is left of a run

-- whether what stands there is a result that was committed
abbrev pub is_done : List (Port × ℕ) → Spot → Bool
is_done commits spot = same_port spot.to port.Sink && nat_lt spot.index (committed spot.from commits)

abbrev pub left_of : Option CallState → ℕ
left_of None = 0
left_of (Some state) = left state

abbrev pub weight_at : ℕ → Bool → ℕ
weight_at n done = if done then n else n + 1

abbrev pub weight : List (Port × ℕ) → Option CallState → Spot → ℕ
weight commits state spot = weight_at (left_of state) (is_done commits spot)

-- the sum over the calls, by number from 1
abbrev pub call_numbers : Setup → List ℕ
call_numbers s = numbers_from 1 (length s.calls)

abbrev pub potential : (s : Setup) (class : Class) (Agrees : Port → Item → CallState → Type 0) (w : World) → Standing s class Agrees w → ℕ
potential s class Agrees w st = sum_by (λ c. weight w.commits (nth st.now.calls c) (st.place c)) (call_numbers s)

-- ---- calls and their numbers

pub nth_within : {A : Type 0} (xs : List A) (c : ℕ) (x : A) → nth xs c ≡ Some x → (1 ≤ c) × (c < 1 + length xs)
nth_within xs zero x e = absurd cc
nth_within xs (suc n) x e = let l = slice_get_within xs n x e in (omega arith, omega arith)

pub a_number : (s : Setup) (c : ℕ) (call : Call) → nth s.calls c ≡ Some call → Among c (call_numbers s)
a_number s c call e = let l = nth_within s.calls c call e in among_numbers 1 (length s.calls) c l.0 l.1

pub there : {A : Type 0} (xs : List A) (n : ℕ) → n < length xs → (x : A) × (slice_get xs n ≡ Some x)
there [] n l = absurd (omega arith)
there (x ∷ xs) zero l = (x, refl)
there (x ∷ xs) (suc n) l = there xs n (omega arith)

pub a_call : (s : Setup) (c : ℕ) → Among c (call_numbers s) → (call : Call) × (nth s.calls c ≡ Some call)
a_call s c m = let l = in_numbers 1 (length s.calls) c m in number_call s c l.0 l.1
  where
    number_call : (s : Setup) (c : ℕ) → 1 ≤ c → c < 1 + length s.calls → (call : Call) × (nth s.calls c ≡ Some call)
    number_call s zero l u = absurd (omega arith)
    number_call s (suc n) l u = there s.calls n (omega arith)

-- ---- what is done stays done

and_right : (a b : Bool) → (a && b) ≡ true → (a ≡ true) × (b ≡ true)
and_right true b e = (refl, e)
and_right false b e = absurd cc

both : (a b : Bool) → a ≡ true → b ≡ true → (a && b) ≡ true
both true true e f = refl
both true false e f = absurd cc
both false b e f = absurd cc

pub is_done_is : (commits : List (Port × ℕ)) (spot : Spot) → is_done commits spot ≡ true → (spot.to ≡ port.Sink) × (spot.index < committed spot.from commits)
is_done_is commits spot e =
    let p = and_right (same_port spot.to port.Sink) (nat_lt spot.index (committed spot.from commits)) e in
    (same_port-true spot.to port.Sink p.0, ltb-true spot.index (committed spot.from commits) p.1)

pub done_is : (commits : List (Port × ℕ)) (spot : Spot) → spot.to ≡ port.Sink → spot.index < committed spot.from commits → is_done commits spot ≡ true
done_is commits spot e l =
    both (same_port spot.to port.Sink) (nat_lt spot.index (committed spot.from commits))
    (let P : Port → Type 0 = λ p. same_port p port.Sink ≡ true in subst P (sym e) (same_port-refl port.Sink)) (lt-ltb spot.index (committed spot.from commits) l)

pub still_done : (commits : List (Port × ℕ)) (q : Port) (k : ℕ) (spot : Spot) → is_done commits spot ≡ true → is_done (commits ++ (q, k) ∷ []) spot ≡ true
still_done commits q k spot e =
    let p = is_done_is commits spot e in
    done_is (commits ++ (q, k) ∷ []) spot p.0 (further spot.index (committed spot.from commits) _ p.1 (committed-grows spot.from q commits k))
  where
    further : (a b c : ℕ) → a < b → b ≤ c → a < c
    further a b c l m = omega arith

-- ---- weights

weight_falls : (n : ℕ) (a b : Bool) → (a ≡ true → b ≡ true) → weight_at n b ≤ weight_at n a
weight_falls n true true h = omega arith
weight_falls n true false h = let e = h refl in absurd cc
weight_falls n false true h = omega arith
weight_falls n false false h = omega arith

weight_most : (n : ℕ) (b : Bool) → weight_at n b ≤ n + 1
weight_most n true = omega arith
weight_most n false = omega arith

pub weight_zero : (n : ℕ) (b : Bool) → weight_at n b ≡ 0 → b ≡ true
weight_zero n true e = refl
weight_zero n false e = absurd (omega arith)

same_at_most : (a b : ℕ) → a ≡ b → a ≤ b
same_at_most a b e = omega arith

-- a call that is not at the sink is not done
pub not_done : (commits : List (Port × ℕ)) (spot : Spot) → IsCell spot.to → is_done commits spot ≡ false
not_done commits spot h = false_from_ne_true (is_done commits spot) (λ e. not_sink spot.to h (is_done_is commits spot e).0)
  where
    not_sink : (p : Port) → IsCell p → p ≡ port.Sink → ⊥
    not_sink port.Caller h e = h
    not_sink port.Sink h e = h
    not_sink port.Front h e = absurd cc
    not_sink port.Join h e = absurd cc
    not_sink (port.Slot f n) h e = absurd cc
    not_sink (port.Inst f n) h e = absurd cc

-- ---- each event takes something from what is left

pub number_of : (s : Setup) (states : List CallState) (c : ℕ) (state : CallState) → length states ≡ length s.calls → nth states c ≡ Some state → Among c (call_numbers s)
number_of s states c state e is = let l = nth_within states c state is in among_numbers 1 (length s.calls) c l.0 (bound c (length states) (length s.calls) l.1 e)
  where
    bound : (c n m : ℕ) → c < 1 + n → n ≡ m → c < 1 + m
    bound c n m l e = omega arith

pub take_falls : (s : Setup) (class : Class) (Agrees : Port → Item → CallState → Type 0) (w : World) (st : Standing s class Agrees w) (to from : Port) (pick : ℕ) (x : Item) → IsCell to
    → (t : TakenOn s class Agrees w st to from pick x)
    → potential s class Agrees (with_entry s w to from pick x) t.standing < potential s class Agrees w st
take_falls s class Agrees w st to from pick x is_cell t =
    let c = call_of x in
    let f : ℕ → ℕ = λ q. weight w.commits (nth t.standing.now.calls q) (t.standing.place q) in
    let g : ℕ → ℕ = λ q. weight w.commits (nth st.now.calls q) (st.place q) in
    let less : f c < g c =
    falls (f c) (g c) (left t.new) (left t.old)
    (let P : Option CallState → Type 0 = λ o. weight w.commits o (t.standing.place c) ≤ left t.new + 1 in subst P (sym t.is) (weight_most (left t.new) (is_done w.commits (t.standing.place c))))
    (ap (λ (o : Option CallState). weight w.commits o (st.place c)) t.was
    ∙ ap (λ (spot : Spot). weight_at (left t.old) (is_done w.commits spot)) t.stood
    ∙ ap (weight_at (left t.old)) (not_done w.commits (old_spot to from (λ p. cell s w p)) is_cell))
    t.fewer in
    sum_less f g (call_numbers s) c
    (λ q m. elim (number_cases q c) [
      | inl same ↦ let P : ℕ → Type 0 = λ n. f n ≤ g n in subst P (sym same) (at_most (f c) (g c) less)
      | inr ne ↦ same_at_most (f q) (g q) (ap (λ (o : Option CallState). weight w.commits o (t.standing.place q)) (t.other_states q ne) ∙ ap (weight w.commits (nth st.now.calls q)) (t.other_places q ne))
    ])
    (number_of s st.now.calls c t.old st.agreement.as_many t.was) less
  where
    falls : (a b n m : ℕ) → a ≤ n + 1 → b ≡ m + 1 → n < m → a < b
    falls a b n m l e h = omega arith

    at_most : (a b : ℕ) → a < b → a ≤ b
    at_most a b l = omega arith

-- the result that is committed next, in flight
pub record NextResult (s : Setup) (class : Class) (Agrees : Port → Item → CallState → Type 0) (w : World) (st : Standing s class Agrees w) (from : Port) (x : Item) : Type 0 where
  pub placed : st.place (call_of x) ≡ record { from = from; to = port.Sink; index = committed from w.commits }
  pub state : CallState
  pub is_state : nth st.now.calls (call_of x) ≡ Some state
  pub agrees : Agrees port.Sink x state

pub next_in_flight : (s : Setup) (class : Class) (Agrees : Port → Item → CallState → Type 0) (w : World) (st : Standing s class Agrees w) (from : Port) (x : Item) → next_result s w from ≡ Some x
    → NextResult s class Agrees w st from x
next_in_flight s class Agrees w st from x e =
    let f = st.agreement.flight (record { from = from; to = port.Sink; index = committed from w.commits }) x (none_taken _ (committed from w.commits) (st.agreement.sink from)) e in
    record { placed = f.placed; state = f.state; is_state = f.is_state; agrees = f.agrees }
  where
    none_taken : (n m : ℕ) → n ≡ 0 → n ≤ m
    none_taken n m e = omega arith

pub commit_falls : (s : Setup) (class : Class) (Agrees : Port → Item → CallState → Type 0) (w : World) (st : Standing s class Agrees w) (from : Port) (x : Item) → (is : next_result s w from ≡ Some x)
    → potential s class Agrees (with_commit w from) (commit_stands s class Agrees w st from x is) < potential s class Agrees w st
unfolding commit_stands
commit_falls s class Agrees w st from x is =
    let r = next_in_flight s class Agrees w st from x is in
    let c = call_of x in
    let after = w.commits ++ (from, committed from w.commits + 1) ∷ [] in
    let spot : Spot = record { from = from; to = port.Sink; index = committed from w.commits } in
    let f : ℕ → ℕ = λ q. weight after (nth st.now.calls q) (st.place q) in
    let g : ℕ → ℕ = λ q. weight w.commits (nth st.now.calls q) (st.place q) in
    let now_done : is_done after (st.place c) ≡ true = ap (is_done after) r.placed ∙ done_is after spot refl (one_more (committed from w.commits) _ (committed-same from w.commits (committed from w.commits + 1))) in
    let not_yet : is_done w.commits (st.place c) ≡ false = ap (is_done w.commits) r.placed ∙ false_from_ne_true (is_done w.commits spot) (λ e. itself (committed from w.commits) (is_done_is w.commits spot e).1) in
    let less : f c < g c =
    falls (f c) (g c) (left_of (nth st.now.calls c)) (ap (weight_at (left_of (nth st.now.calls c))) now_done) (ap (weight_at (left_of (nth st.now.calls c))) not_yet) in
    sum_less f g (call_numbers s) c
    (λ q m. weight_falls (left_of (nth st.now.calls q)) (is_done w.commits (st.place q)) (is_done after (st.place q)) (still_done w.commits from (committed from w.commits + 1) (st.place q)))
    (number_of s st.now.calls c r.state st.agreement.as_many r.is_state) less
  where
    one_more : (n m : ℕ) → m ≡ n + 1 → n < m
    one_more n m e = omega arith

    itself : (n : ℕ) → n < n → ⊥
    itself n l = omega arith

    falls : (a b n : ℕ) → a ≡ n → b ≡ n + 1 → a < b
    falls a b n e h = omega arith

-- ---- while a call is not done, something is offered

pub all_done : (s : Setup) (class : Class) (Agrees : Port → Item → CallState → Type 0) (w : World) (st : Standing s class Agrees w) → length s.graph.fields ≡ length (fields class)
    → lowest (offers s w) ≡ None → (w.next_step == last_step) ≡ false
    → (c : ℕ) (call : Call) → nth s.calls c ≡ Some call → is_done w.commits (st.place c) ≡ true
all_done s class Agrees w st as_many none going c call is =
    let p = st.agreement.present c call is in
    let spot = st.place c in
    elim (port_cases port.Sink spot.to) [
      | inl same ↦ elim (bool_cases (nat_lt spot.index (committed spot.from w.commits))) [
        | inl l ↦ done_is w.commits spot (sym same) (ltb-true spot.index (committed spot.from w.commits) l)
        | inr l ↦
            let have : slice_get ((cell s w spot.from).gave port.Sink) spot.index ≡ Some p.it = ap (λ (q : Port). slice_get ((cell s w spot.from).gave q) spot.index) same ∙ p.is_item in
            let n = there ((cell s w spot.from).gave port.Sink) (committed spot.from w.commits) (earlier (committed spot.from w.commits) spot.index _ (ltb-false spot.index (committed spot.from w.commits) l) (slice_get_within _ spot.index p.it have)) in
            absurd (none_offered (offers s w) _ none (result_offered s w spot.from n.0 (in_cells s class spot.from as_many (to_sink class s.header.slots spot.from spot.to same p.receiver)) n.1))
      ]
      | inr other ↦
          let n = there ((cell s w spot.from).gave spot.to) ((cell s w spot.to).took spot.from) (earlier ((cell s w spot.to).took spot.from) spot.index _ p.ahead (slice_get_within _ spot.index p.it p.is_item)) in
          absurd (none_offered (offers s w) _ none (item_offered s w spot.to spot.from n.0 going (in_cells s class spot.to as_many (to_cell class s.header.slots spot.from spot.to other p.receiver)) (in_senders s class spot.from as_many p.sender) n.1))
    ]
  where
    earlier : (a b c : ℕ) → a ≤ b → b < c → a < c
    earlier a b c l m = omega arith

    to_sink : (class : Class) (slots : ℕ) (from to : Port) → port.Sink ≡ to → IsReceiver class slots from to → IsIn class slots from
    to_sink class slots from to e h = let P : Port → Type 0 = λ p. IsReceiver class slots from p in subst P (sym e) h

    to_cell : (class : Class) (slots : ℕ) (from to : Port) → same_port port.Sink to ≡ false → IsReceiver class slots from to → IsIn class slots to
    to_cell class slots from port.Caller e h = h
    to_cell class slots from port.Sink e h = let yes = same_port-refl port.Sink in absurd cc
    to_cell class slots from port.Front e h = h
    to_cell class slots from port.Join e h = h
    to_cell class slots from (port.Slot f n) e h = h
    to_cell class slots from (port.Inst f n) e h = h

-- ---- the run to completion

pub record Completed (s : Setup) (class : Class) (Agrees : Port → Item → CallState → Type 0) (w : World) : Type 0 where
  pub standing : Standing s class Agrees w
  pub done : (c : ℕ) (call : Call) → nth s.calls c ≡ Some call → is_done w.commits (standing.place c) ≡ true
  pub nothing_left : lowest (offers s w) ≡ None

pub still_going : (next n : ℕ) → next + suc n < last_step → (next == last_step) ≡ false
still_going next n l = false_from_ne_true (next == last_step) (λ e. above next n (eqb-true next last_step e) l)
  where
    above : (next n : ℕ) → next ≡ last_step → next + suc n < last_step → ⊥
    above next n e l = omega arith

pub option_cases : (o : Option Offer) → (o ≡ None) ⊎ ((x : Offer) × (o ≡ Some x))
option_cases None = inl refl
option_cases (Some x) = inr (x, refl)

pub drain_completes : (s : Setup) (class : Class) (Fits : Call → Type 0) (Agrees : Port → Item → CallState → Type 0) (n : ℕ) (w : World)
    → 1 ≤ s.header.slots → Simulation class s.graph s.header.slots Fits Agrees → AllFit Fits s.calls
    → (st : Standing s class Agrees w) → potential s class Agrees w st ≤ n → w.next_step + n < last_step
    → Completed s class Agrees (drained_for n s w)
drain_completes s class Fits Agrees zero w some sim fit st l below =
    elim (option_cases (lowest (offers s w))) [
      | inl none ↦ record {
        standing = st;
        done = λ c call is. weight_zero (left_of (nth st.now.calls c)) (is_done w.commits (st.place c))
            (zero_part (λ q. weight w.commits (nth st.now.calls q) (st.place q)) (call_numbers s) c l (a_number s c call is));
        nothing_left = none;
      }
      | inr found ↦
          let o = found.0 in
          elim (offered_is s w o (lowest_among (offers s w) o found.1)) [
            | inl r ↦ absurd (none_lower _ _ (commit_falls s class Agrees w st o.from r.x r.is) l)
            | inr r ↦
                let t = take_stands s class Fits Agrees w some sim fit st o.to o.from (pick_of o.call) r.x r.is_cell r.is in
                absurd (none_lower _ _ (take_falls s class Agrees w st o.to o.from (pick_of o.call) r.x r.is_cell t) l)
          ]
    ]
  where
    none_lower : (a b : ℕ) → a < b → b ≤ zero → ⊥
    none_lower a b n l = omega arith
drain_completes s class Fits Agrees (suc n) w some sim fit st l below =
    elim (option_cases (lowest (offers s w))) [
      | inl none ↦
          let P : World → Type 0 = Completed s class Agrees in
          subst P (sym (idle s w (suc n) none)) (record { standing = st; done = all_done s class Agrees w st sim.as_many none (still_going w.next_step n below); nothing_left = none })
      | inr found ↦
          let o = found.0 in
          let P : World → Type 0 = λ v. Completed s class Agrees (drained_for n s v) in
          let Q : Option Offer → Type 0 = λ q. P (after_offer s w q) in
          subst Q (sym found.1) (elim (offered_is s w o (lowest_among (offers s w) o found.1)) [
            | inl r ↦
                subst P (sym (commits_it s w o r))
                (drain_completes s class Fits Agrees n (with_commit w o.from) some sim fit (commit_stands s class Agrees w st o.from r.x r.is)
                (lower _ _ n (commit_falls s class Agrees w st o.from r.x r.is) l) (still_below w.next_step n below))
            | inr r ↦
                let t = take_stands s class Fits Agrees w some sim fit st o.to o.from (pick_of o.call) r.x r.is_cell r.is in
                subst P (sym (takes_it s w o r))
                (drain_completes s class Fits Agrees n (with_entry s w o.to o.from (pick_of o.call) r.x) some sim fit t.standing
                (lower _ _ n (take_falls s class Agrees w st o.to o.from (pick_of o.call) r.x r.is_cell t) l) (next_below w.next_step n below))
          ])
    ]
  where
    lower : (a b n : ℕ) → a < b → b ≤ suc n → a ≤ n
    lower a b n l m = omega arith

    still_below : (next n : ℕ) → next + suc n < last_step → next + n < last_step
    still_below next n l = omega arith

    next_below : (next n : ℕ) → next + suc n < last_step → next + 1 + n < last_step
    next_below next n l = omega arith
