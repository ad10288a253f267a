-- The results of a run are the outcomes of the source, and each call has one.
use Rattle.std.proofs.Common.{◌≡◌, ◌≢◌, ℕ, zero, suc, ◌+◌, ◌*◌, ◌-◌, ◌<◌, ◌≤◌, Bool, true, false, ◌==◌, List, [], ◌∷◌, ◌++◌, map, length, Option, Some, None, ◌⊎◌, inl, inr, slice_get, if◌then◌else◌, refl, ap, sym, ◌∙◌, subst, arith}
use Rattle.std.specs.List.{AllByRecursion, filter_map, cons_option}
use Rattle.std.proofs.lemmas.Option.{same_Some}
use Rattle.sdg_base.specs.declared.val.Outcome.{Outcome}
use Rattle.sdg_base.specs.declared.call.Call.{Call}
use Rattle.sdg_base.specs.declared.port.Port.{Port}
use Rattle.sdg_base.specs.declared.port.Port.TheVariants as port
use Rattle.sdg_base.specs.declared.item.Item.{Item}
use Rattle.sdg_base.specs.declared.item.Item.TheVariants as item
use Rattle.java_tree.specs.declared.tree.Class.{Class}
use Rattle.early_source.specs.Source.{CallState, Fresh, At, Ended, Source, start, nth, outcome, outcome_in, Explains}
use Rattle.placement.specs.declared.event.Event.{Event}
use Rattle.placement.specs.declared.event.Event.TheVariants as event
use Rattle.placement.specs.declared.event.Word.{Word}
use Rattle.placement.specs.declared.event.Word.TheVariants as word
use Rattle.cluster.specs.History.{Setup, IsCell, call_of, steps_of}
use Rattle.cluster.specs.World.{World, first_world, cell, last_step, next_item, take_item, committed, next_result, commit_item, event_of, after_events, numbers_from, most_events, world_of, result_in, result_of, results_of}
use Rattle.agreement.specs.Simulation.{Simulation, Fitting}
use Rattle.agreement.specs.Results.{HasResult, AreOnce, RunAgrees, IsForCell, AreEnoughSteps}
use Rattle.agreement.proofs.Invariant.{Spot}
use Rattle.agreement.proofs.Channels.{port_cases}
use Rattle.agreement.proofs.Histories.{AllFit}
use Rattle.agreement.proofs.Membership.{Among, among_left, among_right, among_either, among_filter, sum_bound, in_numbers}
use Rattle.agreement.proofs.Standings.{AreCommits, NoCommits, OneMore, Standing, first_stands, first_now, take_stands, commit_stands, committed-same, committed-other, committed-grows}
use Rattle.agreement.proofs.Completion.{is_done, is_done_is, left_of, weight, weight_at, call_numbers, potential, number_of, there, take_falls, commit_falls, Completed, drain_completes}

-- ---- lists of commits

-- every commit is of a result that is counted
pub commit_counts : (commits : List (Port × ℕ)) → AreCommits commits → (c : Port × ℕ) → Among c commits → (1 ≤ c.1) × (c.1 ≤ committed c.0 commits)
commit_counts _ NoCommits c m = absurd m
commit_counts _ (OneMore commits p made) c m =
    elim (among_either c commits ((p, committed p commits + 1) ∷ []) m) [
      | inl before ↦
          let h = commit_counts commits made c before in
          (h.0, reach c.1 (committed c.0 commits) _ h.1 (committed-grows c.0 p commits (committed p commits + 1)))
      | inr at ↦ last_counts c p commits at
    ]
  where
    reach : (a b c : ℕ) → a ≤ b → b ≤ c → a ≤ c
    reach a b c l m = omega arith

    last_counts : (c : Port × ℕ) (p : Port) (commits : List (Port × ℕ)) → Among c ((p, committed p commits + 1) ∷ []) → (1 ≤ c.1) × (c.1 ≤ committed c.0 (commits ++ (p, committed p commits + 1) ∷ []))
    last_counts c p commits (inl e) =
        let P : Port × ℕ → Type 0 = λ d. (1 ≤ d.1) × (d.1 ≤ committed d.0 (commits ++ (p, committed p commits + 1) ∷ [])) in
        subst P (sym e) (positive (committed p commits), at_most _ _ (committed-same p commits (committed p commits + 1)))
      where
        positive : (n : ℕ) → 1 ≤ n + 1
        positive n = omega arith

        at_most : (a b : ℕ) → a ≡ b → b ≤ a
        at_most a b e = omega arith
    last_counts c p commits (inr h) = absurd h

-- what is counted is there
pub commit_there : (commits : List (Port × ℕ)) → AreCommits commits → (p : Port) (k : ℕ) → k < committed p commits → Among (p, k + 1) commits
commit_there _ NoCommits p k l = absurd (omega arith)
commit_there _ (OneMore commits q made) p k l =
    elim (port_cases q p) [
      | inl same ↦ elim (below_or_at k (committed p commits) (less k _ (committed p commits + 1) l (same_count p q commits same))) [
        | inl below ↦ among_left (p, k + 1) commits _ (commit_there commits made p k below)
        | inr at ↦ among_right (p, k + 1) commits _ (inl (pair_is p q k commits same at))
      ]
      | inr other ↦ among_left (p, k + 1) commits _ (commit_there commits made p k (less k _ (committed p commits) l (committed-other p q commits (committed q commits + 1) other)))
    ]
  where
    less : (k a b : ℕ) → k < a → a ≡ b → k < b
    less k a b l e = omega arith

    below_or_at : (k n : ℕ) → k < n + 1 → (k < n) ⊎ (k ≡ n)
    below_or_at zero zero l = inr refl
    below_or_at zero (suc n) l = inl (omega arith)
    below_or_at (suc k) zero l = absurd (omega arith)
    below_or_at (suc k) (suc n) l = elim (below_or_at k n (omega arith)) [ inl b ↦ inl (omega arith) | inr e ↦ inr (ap suc e) ]

    same_count : (p q : Port) (commits : List (Port × ℕ)) → q ≡ p → committed p (commits ++ (q, committed q commits + 1) ∷ []) ≡ committed p commits + 1
    same_count p q commits e = ap (λ (r : Port). committed p (commits ++ (r, committed r commits + 1) ∷ [])) e ∙ committed-same p commits (committed p commits + 1)

    pair_is : (p q : Port) (k : ℕ) (commits : List (Port × ℕ)) → q ≡ p → k ≡ committed p commits → ◌≡◌ {A = Port × ℕ} (p, k + 1) (q, committed q commits + 1)
    pair_is p q k commits e f = ap (λ (n : ℕ). let c : Port × ℕ = (p, n + 1) in c) f ∙ ap (λ (r : Port). let c : Port × ℕ = (r, committed r commits + 1) in c) (sym e)

-- no commit stands twice
abbrev pub AreDistinct : List (Port × ℕ) → Type 0
AreDistinct [] = Unit {0}
AreDistinct (c ∷ cs) = (Among c cs → ⊥) × AreDistinct cs

distinct-push : (cs : List (Port × ℕ)) (d : Port × ℕ) → AreDistinct cs → (Among d cs → ⊥) → AreDistinct (cs ++ d ∷ [])
distinct-push [] d h new = (λ m. m, tt)
distinct-push (c ∷ cs) d h new =
    (λ m. elim (among_either c cs (d ∷ []) m) [ inl before ↦ h.0 before | inr at ↦ new (inl (sym (only c d at))) ], distinct-push cs d h.1 (λ m. new (inr m)))
  where
    only : (c d : Port × ℕ) → Among c (d ∷ []) → c ≡ d
    only c d (inl e) = e
    only c d (inr h) = absurd h

commits_distinct : (commits : List (Port × ℕ)) → AreCommits commits → AreDistinct commits
commits_distinct _ NoCommits = tt
commits_distinct _ (OneMore commits p made) =
    distinct-push commits (p, committed p commits + 1) (commits_distinct commits made) (λ m. above (committed p commits) (commit_counts commits made (p, committed p commits + 1) m).1)
  where
    above : (n : ℕ) → n + 1 ≤ n → ⊥
    above n l = omega arith

-- ---- results

-- what is known of a commit
pub record ResultKnown (s : Setup) (class : Class) (Agrees : Port → Item → CallState → Type 0) (w : World) (st : Standing s class Agrees w) (c : Port × ℕ) : Type 0 where
  pub call : ℕ
  pub how : Outcome
  pub is : result_of s w c ≡ Some (call, how)
  pub ended : outcome st.now call ≡ Some how
  pub placed : st.place call ≡ record { from = c.0; to = port.Sink; index = c.1 - 1 }
  pub number : Among call (call_numbers s)

ended_so : (class : Class) (slots : ℕ) (x : Item) (state : CallState) → Fitting class slots port.Sink x state → (how : Outcome) × (result_in (Some x) ≡ Some (call_of x, how)) × (outcome_in (Some state) ≡ Some how)
ended_so class slots (item.Done n how) (Ended how') h = (how, refl, ap (λ z. Some z) (sym h))
ended_so class slots (item.Done n how) Fresh h = absurd h
ended_so class slots (item.Done n how) (At rest variables turns key) h = absurd h
ended_so class slots (item.Start n m args) state h = absurd h
ended_so class slots (item.Work n t key turns vars) state h = absurd h
ended_so class slots (item.Visit n t width turns vars) state h = absurd h
ended_so class slots (item.Part n t width number turns vars value) state h = absurd h

pub result_known : (s : Setup) (class : Class) (Fits : Call → Type 0) (Agrees : Port → Item → CallState → Type 0) (w : World) → Simulation class s.graph s.header.slots Fits Agrees
    → (st : Standing s class Agrees w) → (c : Port × ℕ) → Among c w.commits → ResultKnown s class Agrees w st c
result_known s class Fits Agrees w sim st c m =
    let k = commit_counts w.commits st.made c m in
    let gave = (cell s w c.0).gave port.Sink in
    let x = there gave (c.1 - 1) (within c.1 (committed c.0 w.commits) (length gave) k.0 k.1 (st.within c.0)) in
    let spot : Spot = record { from = c.0; to = port.Sink; index = c.1 - 1 } in
    let f = st.agreement.flight spot x.0 (none_taken _ (c.1 - 1) (st.agreement.sink c.0)) x.1 in
    let e = ended_so class s.header.slots x.0 f.state (sim.fitting port.Sink x.0 f.state f.agrees) in
    record {
      call = call_of x.0;
      how = e.0;
      is = ap result_in x.1 ∙ e.1;
      ended = ap outcome_in f.is_state ∙ e.2;
      placed = f.placed;
      number = number_of s st.now.calls (call_of x.0) f.state st.agreement.as_many f.is_state;
    }
  where
    within : (k n l : ℕ) → 1 ≤ k → k ≤ n → n ≤ l → k - 1 < l
    within k n l a b c = omega arith

    none_taken : (n m : ℕ) → n ≡ 0 → n ≤ m
    none_taken n m e = omega arith

all_filter : {A B : Type 0} (P : B → Type 0) (f : A → Option B) (xs : List A) → ((x : A) → Among x xs → (b : B) → f x ≡ Some b → P b) → AllByRecursion P (filter_map f xs)
all_filter P f [] h = tt
all_filter P f (x ∷ xs) h = all_found P (f x) (filter_map f xs) (h x (inl refl)) (all_filter P f xs (λ y m. h y (inr m)))
  where
    all_found : {B : Type 0} (P : B → Type 0) (o : Option B) (rest : List B) → ((b : B) → o ≡ Some b → P b) → AllByRecursion P rest → AllByRecursion P (cons_option o rest)
    all_found P None rest h all = all
    all_found P (Some b) rest h all = (h b refl, all)

-- the results of distinct commits are of distinct calls
once_filter : (f : Port × ℕ → Option (ℕ × Outcome)) (cs : List (Port × ℕ)) → AreDistinct cs
    → ((c d : Port × ℕ) → Among c cs → Among d cs → (r q : ℕ × Outcome) → f c ≡ Some r → f d ≡ Some q → q.0 ≡ r.0 → c ≡ d)
    → AreOnce (filter_map f cs)
once_filter f [] h same = tt
once_filter f (c ∷ cs) h same =
    once_found (f c) (filter_map f cs)
    (λ r e. all_filter (λ q. q.0 ≢ r.0) f cs (λ d m q g is. h.0 (let P : Port × ℕ → Type 0 = λ z. Among z cs in subst P (sym (same c d (inl refl) (inr m) r q e g is)) m)))
    (once_filter f cs h.1 (λ d e m n. same d e (inr m) (inr n)))
  where
    once_found : (o : Option (ℕ × Outcome)) (rest : List (ℕ × Outcome)) → ((r : ℕ × Outcome) → o ≡ Some r → AllByRecursion (λ q. q.0 ≢ r.0) rest) → AreOnce rest → AreOnce (cons_option o rest)
    once_found None rest h once = once
    once_found (Some r) rest h once = (h r refl, once)

has_result : (c : ℕ) (how : Outcome) (results : List (ℕ × Outcome)) → Among (c, how) results → HasResult c how results
has_result c how [] m = m
has_result c how (r ∷ results) (inl e) = inl e
has_result c how (r ∷ results) (inr m) = inr (has_result c how results m)

call_in_range : (s : Setup) (c : ℕ) → Among c (call_numbers s) → (1 ≤ c) × (c ≤ length s.calls)
call_in_range s c m = let l = in_numbers 1 (length s.calls) c m in (l.0, at_most c (length s.calls) l.1)
  where
    at_most : (c n : ℕ) → c < 1 + n → c ≤ n
    at_most c n l = omega arith

same_result : (a : Option (ℕ × Outcome)) (r q : ℕ × Outcome) → a ≡ Some q → a ≡ Some r → r ≡ q
same_result a r q e f = same_Some r q (sym f ∙ e)

-- two commits of one call are one commit
one_commit : (s : Setup) (class : Class) (Agrees : Port → Item → CallState → Type 0) (w : World) (st : Standing s class Agrees w) (c d : Port × ℕ) (r q : ℕ × Outcome)
    → ResultKnown s class Agrees w st c → ResultKnown s class Agrees w st d → (1 ≤ c.1) → (1 ≤ d.1)
    → result_of s w c ≡ Some r → result_of s w d ≡ Some q → q.0 ≡ r.0 → c ≡ d
one_commit s class Agrees w st c d r q known known' l m e f same =
    let r_is : r ≡ (known.call, known.how) = same_result (result_of s w c) r (known.call, known.how) known.is e in
    let q_is : q ≡ (known'.call, known'.how) = same_result (result_of s w d) q (known'.call, known'.how) known'.is f in
    let calls : known'.call ≡ known.call = sym (ap (λ (z : ℕ × Outcome). z.0) q_is) ∙ same ∙ ap (λ (z : ℕ × Outcome). z.0) r_is in
    let spots : ◌≡◌ {A = Spot} (record { from = c.0; to = port.Sink; index = c.1 - 1 }) (record { from = d.0; to = port.Sink; index = d.1 - 1 }) =
    sym known.placed ∙ ap st.place (sym calls) ∙ known'.placed in
    pairs c d (ap (λ (z : Spot). z.from) spots) (numbers c.1 d.1 l m (ap (λ (z : Spot). z.index) spots))
  where
    numbers : (a b : ℕ) → 1 ≤ a → 1 ≤ b → a - 1 ≡ b - 1 → a ≡ b
    numbers a b l m e = omega arith

    pairs : (c d : Port × ℕ) → c.0 ≡ d.0 → c.1 ≡ d.1 → c ≡ d
    pairs c d e f = ap (λ (p : Port). let z : Port × ℕ = (p, c.1) in z) e ∙ ap (λ (n : ℕ). let z : Port × ℕ = (d.0, n) in z) f

-- The results of a world are outcomes of the source, and no call has two.
pub results_explained : (s : Setup) (class : Class) (Fits : Call → Type 0) (Agrees : Port → Item → CallState → Type 0) (w : World) → Simulation class s.graph s.header.slots Fits Agrees → (st : Standing s class Agrees w)
    → Explains class s.calls (steps_of w.hist) (results_of s w)
results_explained s class Fits Agrees w sim st = record {
  end = st.now;
  legal = st.legal;
  gives = all_filter (λ r. outcome st.now r.0 ≡ Some r.1) (result_of s w) w.commits (λ c m r e.
      (let k = result_known s class Fits Agrees w sim st c m in
      let P : ℕ × Outcome → Type 0 = λ z. outcome st.now z.0 ≡ Some z.1 in
      subst P (sym (same_result (result_of s w c) r (k.call, k.how) k.is e)) k.ended));
}

pub results_once : (s : Setup) (class : Class) (Fits : Call → Type 0) (Agrees : Port → Item → CallState → Type 0) (w : World) → Simulation class s.graph s.header.slots Fits Agrees → (st : Standing s class Agrees w)
    → AreOnce (results_of s w)
results_once s class Fits Agrees w sim st =
    once_filter (result_of s w) w.commits (commits_distinct w.commits st.made) (λ c d m n r q e f same.
    one_commit s class Agrees w st c d r q (result_known s class Fits Agrees w sim st c m) (result_known s class Fits Agrees w sim st d n)
    (commit_counts w.commits st.made c m).0 (commit_counts w.commits st.made d n).0 e f same)

-- the call of a result
is_call : (x : Item) (call : ℕ) (how : Outcome) → result_in (Some x) ≡ Some (call, how) → call ≡ call_of x
is_call (item.Done n h) call how e = ap (λ (z : ℕ × Outcome). z.0) (sym (same_Some (n, h) (call, how) e))
is_call (item.Start n m args) call how e = absurd cc
is_call (item.Work n t key turns vars) call how e = absurd cc
is_call (item.Visit n t width turns vars) call how e = absurd cc
is_call (item.Part n t width number turns vars value) call how e = absurd cc

-- A call that is done has its result.
done_result : (s : Setup) (class : Class) (Fits : Call → Type 0) (Agrees : Port → Item → CallState → Type 0) (w : World) → Simulation class s.graph s.header.slots Fits Agrees → (st : Standing s class Agrees w)
    → (c : ℕ) (call : Call) → nth s.calls c ≡ Some call → is_done w.commits (st.place c) ≡ true → (how : Outcome) × HasResult c how (results_of s w)
done_result s class Fits Agrees w sim st c call is done =
    let p = st.agreement.present c call is in
    let spot = st.place c in
    let d = is_done_is w.commits spot done in
    let commit : Port × ℕ = (spot.from, spot.index + 1) in
    let m = commit_there w.commits st.made spot.from spot.index d.1 in
    let k = result_known s class Fits Agrees w sim st commit m in
    let found : result_of s w commit ≡ result_in (Some p.it) =
    ap (λ (n : ℕ). result_in (slice_get ((cell s w spot.from).gave port.Sink) n)) (back spot.index)
    ∙ ap (λ (q : Port). result_in (slice_get ((cell s w spot.from).gave q) spot.index)) (sym d.0)
    ∙ ap result_in p.is_item in
    let same : k.call ≡ c = is_call p.it k.call k.how (sym found ∙ k.is) ∙ p.of_call in
    let r_is : ◌≡◌ {A = Option (ℕ × Outcome)} (result_of s w commit) (Some (c, k.how)) = k.is ∙ ap (λ (n : ℕ). let z : Option (ℕ × Outcome) = Some (n, k.how) in z) same in
    (k.how, has_result c k.how (results_of s w) (among_filter (result_of s w) commit (c, k.how) w.commits m r_is))
  where
    back : (n : ℕ) → n + 1 - 1 ≡ n
    back n = omega arith

pub completed_agrees : (s : Setup) (class : Class) (Fits : Call → Type 0) (Agrees : Port → Item → CallState → Type 0) (w : World) → Simulation class s.graph s.header.slots Fits Agrees → Completed s class Agrees w → RunAgrees class s w
completed_agrees s class Fits Agrees w sim done =
    let st = done.standing in
    record {
      explained = results_explained s class Fits Agrees w sim st;
      one_each = record {
        each = λ c l u. (
            let call = call_at s c l u in
            done_result s class Fits Agrees w sim st c call.0 call.1 (done.done c call.0 call.1));
        once = results_once s class Fits Agrees w sim st;
        only = all_filter (λ r. (1 ≤ r.0) × (r.0 ≤ length s.calls)) (result_of s w) w.commits (λ c m r e.
            (let k = result_known s class Fits Agrees w sim st c m in
            let P : ℕ × Outcome → Type 0 = λ z. (1 ≤ z.0) × (z.0 ≤ length s.calls) in
            subst P (sym (same_result (result_of s w c) r (k.call, k.how) k.is e)) (call_in_range s k.call k.number)));
      };
      nothing_left = done.nothing_left;
    }
  where
    call_at : (s : Setup) (c : ℕ) → 1 ≤ c → c ≤ length s.calls → (call : Call) × (nth s.calls c ≡ Some call)
    call_at s zero l u = absurd (omega arith)
    call_at s (suc n) l u = there s.calls n (omega arith)

-- ---- the events of a schedule

-- a world that events reached, with what is left, and the numbers of its steps
pub record Reached (s : Setup) (class : Class) (Agrees : Port → Item → CallState → Type 0) (w : World) (most steps : ℕ) : Type 0 where
  pub standing : Standing s class Agrees w
  pub left_over : potential s class Agrees w standing ≤ most
  pub few_steps : w.next_step ≤ steps

abbrev pub AreForCells : List Event → Type 0
AreForCells = AllByRecursion IsForCell

take_reaches : (s : Setup) (class : Class) (Fits : Call → Type 0) (Agrees : Port → Item → CallState → Type 0) (w : World) (most steps : ℕ) → 1 ≤ s.header.slots → Simulation class s.graph s.header.slots Fits Agrees → AllFit Fits s.calls
    → Reached s class Agrees w most steps → (to from : Port) (pick : ℕ) → IsCell to → (x : Option Item) → next_item s w to from ≡ x
    → Reached s class Agrees (take_item s w to from pick x).0 most (steps + 1)
take_reaches s class Fits Agrees w most steps some sim fit r to from pick is_cell None e = record { standing = r.standing; left_over = r.left_over; few_steps = more w.next_step steps r.few_steps }
  where
    more : (n m : ℕ) → n ≤ m → n ≤ m + 1
    more n m l = omega arith
take_reaches s class Fits Agrees w most steps some sim fit r to from pick is_cell (Some x) e =
    let t = take_stands s class Fits Agrees w some sim fit r.standing to from pick x is_cell e in
    record {
      standing = t.standing;
      left_over = lower _ _ most (take_falls s class Agrees w r.standing to from pick x is_cell t) r.left_over;
      few_steps = both w.next_step steps r.few_steps;
    }
  where
    lower : (a b n : ℕ) → a < b → b ≤ n → a ≤ n
    lower a b n l m = omega arith

    both : (n m : ℕ) → n ≤ m → n + 1 ≤ m + 1
    both n m l = omega arith

commit_reaches : (s : Setup) (class : Class) (Fits : Call → Type 0) (Agrees : Port → Item → CallState → Type 0) (w : World) (most steps : ℕ)
    → Reached s class Agrees w most steps → (from : Port) → (x : Option Item) → next_result s w from ≡ x
    → Reached s class Agrees (commit_item w from x).0 most (steps + 1)
commit_reaches s class Fits Agrees w most steps r from None e = record { standing = r.standing; left_over = r.left_over; few_steps = more w.next_step steps r.few_steps }
  where
    more : (n m : ℕ) → n ≤ m → n ≤ m + 1
    more n m l = omega arith
commit_reaches s class Fits Agrees w most steps r from (Some x) e = record {
  standing = commit_stands s class Agrees w r.standing from x e;
  left_over = lower _ _ most (commit_falls s class Agrees w r.standing from x e) r.left_over;
  few_steps = more w.next_step steps r.few_steps;
}
  where
    lower : (a b n : ℕ) → a < b → b ≤ n → a ≤ n
    lower a b n l m = omega arith

    more : (n m : ℕ) → n ≤ m → n ≤ m + 1
    more n m l = omega arith

held_reaches : (s : Setup) (class : Class) (Agrees : Port → Item → CallState → Type 0) (w : World) (most steps : ℕ) (b : Bool) (other : World × Word)
    → Reached s class Agrees w most (steps + 1) → Reached s class Agrees other.0 most (steps + 1) → Reached s class Agrees (if b then (w, word.Held) else other).0 most (steps + 1)
held_reaches s class Agrees w most steps true other r q = r
held_reaches s class Agrees w most steps false other r q = q

event_reaches : (s : Setup) (class : Class) (Fits : Call → Type 0) (Agrees : Port → Item → CallState → Type 0) (w : World) (most steps : ℕ) → 1 ≤ s.header.slots → Simulation class s.graph s.header.slots Fits Agrees → AllFit Fits s.calls
    → Reached s class Agrees w most steps → (e : Event) → IsForCell e → Reached s class Agrees (event_of s w e).0 most (steps + 1)
event_reaches s class Fits Agrees w most steps some sim fit r (event.Take to from pick) h =
    held_reaches s class Agrees w most steps (w.next_step == last_step) (take_item s w to from pick (next_item s w to from))
    (record { standing = r.standing; left_over = r.left_over; few_steps = more w.next_step steps r.few_steps })
    (take_reaches s class Fits Agrees w most steps some sim fit r to from pick h (next_item s w to from) refl)
  where
    more : (n m : ℕ) → n ≤ m → n ≤ m + 1
    more n m l = omega arith
event_reaches s class Fits Agrees w most steps some sim fit r (event.Sink from) h = commit_reaches s class Fits Agrees w most steps r from (next_result s w from) refl

pub events_reach : (s : Setup) (class : Class) (Fits : Call → Type 0) (Agrees : Port → Item → CallState → Type 0) (w : World) (most steps : ℕ) (events : List Event) → 1 ≤ s.header.slots → Simulation class s.graph s.header.slots Fits Agrees → AllFit Fits s.calls
    → Reached s class Agrees w most steps → AreForCells events → Reached s class Agrees (after_events s w events) most (steps + length events)
events_reach s class Fits Agrees w most steps [] some sim fit r h = record { standing = r.standing; left_over = r.left_over; few_steps = same w.next_step steps r.few_steps }
  where
    same : (n m : ℕ) → n ≤ m → n ≤ m + 0
    same n m l = omega arith
events_reach s class Fits Agrees w most steps (e ∷ events) some sim fit r h =
    let q = events_reach s class Fits Agrees (event_of s w e).0 most (steps + 1) events some sim fit (event_reaches s class Fits Agrees w most steps some sim fit r e h.0) h.1 in
    record { standing = q.standing; left_over = q.left_over; few_steps = moved_over _ steps (length events) q.few_steps }
  where
    moved_over : (n m k : ℕ) → n ≤ m + 1 + k → n ≤ m + suc k
    moved_over n m k l = omega arith

length-numbers : (n count : ℕ) → length (numbers_from n count) ≡ count
length-numbers n zero = refl
length-numbers n (suc count) = ap suc (length-numbers (n + 1) count)

pub first_potential : (s : Setup) (class : Class) (Agrees : Port → Item → CallState → Type 0) (st : Standing s class Agrees first_world) → st.now ≡ start class s.calls
    → potential s class Agrees first_world st ≤ most_events s
first_potential s class Agrees st is =
    product _ (length (call_numbers s)) (length s.calls) 100002 (length-numbers 1 (length s.calls))
    (sum_bound (λ c. weight [] (nth st.now.calls c) (st.place c)) 100002 (call_numbers s) (λ c m.
    (let P : Source → Type 0 = λ now. weight [] (nth now.calls c) (st.place c) ≤ 100002 in
    subst P (sym is) (fresh_weight (nth (start class s.calls).calls c) (is_done [] (st.place c)) (fresh_or_none s.calls c)))))
  where
    product : (a n m k : ℕ) → n ≡ m → a ≤ n * k → a ≤ m * k
    product a n m k e l = let P : ℕ → Type 0 = λ z. a ≤ z * k in subst P e l

    fresh_or_none : (calls : List Call) (c : ℕ) → (nth (map (λ _. Fresh) calls) c ≡ Some Fresh) ⊎ (nth (map (λ _. Fresh) calls) c ≡ None)
    fresh_or_none calls zero = inr refl
    fresh_or_none [] (suc n) = inr refl
    fresh_or_none (x ∷ calls) (suc zero) = inl refl
    fresh_or_none (x ∷ calls) (suc (suc n)) = fresh_or_none calls (suc n)

    fresh_weight : (o : Option CallState) (b : Bool) → (o ≡ Some Fresh) ⊎ (o ≡ None) → weight_at (left_of o) b ≤ 100002
    fresh_weight o b (inl e) = let P : Option CallState → Type 0 = λ z. weight_at (left_of z) b ≤ 100002 in subst P (sym e) (either b)
      where
        either : (b : Bool) → weight_at 100001 b ≤ 100002
        either true = omega arith
        either false = omega arith
    fresh_weight o b (inr e) = let P : Option CallState → Type 0 = λ z. weight_at (left_of z) b ≤ 100002 in subst P (sym e) (either b)
      where
        either : (b : Bool) → weight_at 0 b ≤ 100002
        either true = omega arith
        either false = omega arith

-- ---- whole runs

-- the first world, with all that is left of a run
pub first_reached : (s : Setup) (class : Class) (Fits : Call → Type 0) (Agrees : Port → Item → CallState → Type 0) → Simulation class s.graph s.header.slots Fits Agrees → AllFit Fits s.calls
    → Reached s class Agrees first_world (most_events s) 1
first_reached s class Fits Agrees sim fit =
    let st = first_stands s class Fits Agrees sim fit in
    record { standing = st; left_over = first_potential s class Agrees st (first_now s class Fits Agrees sim fit); few_steps = itself 1 }
  where
    itself : (n : ℕ) → n ≤ n
    itself n = omega arith

-- Every run goes to completion.
pub run_completes : (s : Setup) (class : Class) (Fits : Call → Type 0) (Agrees : Port → Item → CallState → Type 0) (events : List Event) → 1 ≤ s.header.slots → Simulation class s.graph s.header.slots Fits Agrees → AllFit Fits s.calls
    → AreForCells events → AreEnoughSteps s events → Completed s class Agrees (world_of s events)
run_completes s class Fits Agrees events some sim fit h steps =
    let q = events_reach s class Fits Agrees first_world (most_events s) 1 events some sim fit (first_reached s class Fits Agrees sim fit) h in
    drain_completes s class Fits Agrees (most_events s) (after_events s first_world events) some sim fit q.standing q.left_over (enough (after_events s first_world events).next_step (length events) (most_events s) q.few_steps steps)
  where
    enough : (n k m : ℕ) → n ≤ 1 + k → k + 1 + m < last_step → n + m < last_step
    enough n k m l h = omega arith

pub runs_agree : (s : Setup) (class : Class) (Fits : Call → Type 0) (Agrees : Port → Item → CallState → Type 0) (events : List Event) → 1 ≤ s.header.slots → Simulation class s.graph s.header.slots Fits Agrees → AllFit Fits s.calls
    → AreForCells events → AreEnoughSteps s events → RunAgrees class s (world_of s events)
runs_agree s class Fits Agrees events some sim fit h steps = completed_agrees s class Fits Agrees (world_of s events) sim (run_completes s class Fits Agrees events some sim fit h steps)
