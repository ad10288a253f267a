-- Without a schedule calls run one after the other: the run to completion finishes a call before it begins the next.
use Rattle.std.proofs.Common.{◌≡◌, ◌≢◌, ℕ, zero, suc, ◌+◌, ◌-◌, ◌<◌, ◌≤◌, Bool, true, false, ◌==◌, List, [], ◌∷◌, ◌++◌, map, length, Option, Some, ◌⊎◌, inl, inr, slice_get, if◌then◌else◌, refl, ap, sym, ◌∙◌, subst, arith, length-append}
use Rattle.std.specs.Prelude.{nat_lt}
use Rattle.std.specs.List.{AllByRecursion, filter_map, cons_option}
use Rattle.std.proofs.lemmas.Option.{slice_get_within, same_Some}
use Rattle.std.proofs.lemmas.Bool.{ltb-true, ltb-false, false_from_ne_true}
use Rattle.std.proofs.lemmas.List.{append-nil}
use Rattle.sdg_base.specs.declared.val.Outcome.{Outcome}
use Rattle.sdg_base.specs.declared.call.Call.{Call}
use Rattle.sdg_base.specs.declared.call.Step.{Step}
use Rattle.sdg_base.specs.declared.call.Step.TheVariants as step
use Rattle.sdg_base.specs.declared.port.Port.{Port}
use Rattle.sdg_base.specs.declared.port.Port.TheVariants as port
use Rattle.sdg_base.specs.declared.item.Item.{Item}
use Rattle.sdg_base.specs.Ports.{same_port}
use Rattle.java_tree.specs.declared.tree.Class.{Class}
use Rattle.early_source.specs.Members.{fields}
use Rattle.early_source.specs.Serial.{IsNotEarlier, IsSerial}
use Rattle.early_source.specs.Source.{CallState, nth}
use Rattle.early_task_code.specs.Progress.{Progress}
use Rattle.cluster.specs.History.{Setup, Took, IsCell, given_at_start, call_of, shown_entry, shown, steps_of}
use Rattle.cluster.specs.World.{World, first_world, cell, last_step, next_item, entry, with_entry, committed, next_result, with_commit, numbers_from, Offer, offers, lower, lowest_from, lowest, pick_of, after_offer, drained_for, world_of, most_events, result_of, results_of}
use Rattle.agreement.specs.Simulation.{Simulation}
use Rattle.agreement.specs.Results.{AreEnoughSteps}
use Rattle.sdg_base.proofs.Ports.{same_port-refl}
use Rattle.agreement.proofs.Invariant.{Spot, item_at, IsIn, IsReceiver, Present}
use Rattle.agreement.proofs.Channels.{port_cases}
use Rattle.agreement.proofs.Moves.{new_spot}
use Rattle.agreement.proofs.Histories.{AllFit, first_place, steps_of-append, starts_are}
use Rattle.agreement.proofs.Membership.{Among, in_numbers, zero_part}
use Rattle.agreement.proofs.Offers.{lowest_among, in_cells, in_senders, result_offered, item_offered, offered_is, commits_it, takes_it, idle}
use Rattle.agreement.proofs.Standings.{Standing, TakenOn, first_stands, first_now, committed-same, take_stands, commit_stands}
use Rattle.agreement.proofs.Completion.{is_done, is_done_is, done_is, left_of, weight, weight_zero, a_number, not_done, still_done, still_going, option_cases, call_numbers, potential, take_falls, commit_falls, next_in_flight, all_done, a_call, number_of, there}
use Rattle.agreement.proofs.Outcomes.{ResultKnown, result_known, first_potential}

-- ---- the lowest offer is the least

lower_least : (best o : Offer) → (r : Offer) × (lower (Some best) o ≡ Some r) × (r.call ≤ best.call) × (r.call ≤ o.call)
lower_least best o = at_test (nat_lt o.call best.call) refl
  where
    at_test : (b : Bool) → nat_lt o.call best.call ≡ b → (r : Offer) × (lower (Some best) o ≡ Some r) × (r.call ≤ best.call) × (r.call ≤ o.call)
    at_test true e = let l = ltb-true o.call best.call e in (o, ap (λ (b : Bool). if b then Some o else Some best) e, omega arith, omega arith)
    at_test false e = let l = ltb-false o.call best.call e in (best, ap (λ (b : Bool). if b then Some o else Some best) e, omega arith, omega arith)

found_least : (best : Offer) (os : List Offer) → (r : Offer) × (lowest_from (Some best) os ≡ Some r) × (r.call ≤ best.call) × ((o : Offer) → Among o os → r.call ≤ o.call)
found_least best [] = (best, refl, omega arith, λ o m. absurd m)
found_least best (x ∷ os) =
    let l = lower_least best x in
    let r = found_least l.0 os in (
      r.0,
      ap (λ (b : Option Offer). lowest_from b os) l.1 ∙ r.1,
      reach r.0.call l.0.call best.call r.2 l.2,
      λ o m. elim m [
        | inl e ↦ let P : Offer → Type 0 = λ z. r.0.call ≤ z.call in subst P (sym e) (reach r.0.call l.0.call x.call r.2 l.3)
        | inr n ↦ r.3 o n
      ],
    )
  where
    reach : (a b c : ℕ) → a ≤ b → b ≤ c → a ≤ c
    reach a b c l m = omega arith

pub lowest_least : (os : List Offer) (r o : Offer) → lowest os ≡ Some r → Among o os → r.call ≤ o.call
lowest_least [] r o e m = absurd m
lowest_least (x ∷ os) r o e m =
    let f = found_least x os in
    let same : f.0 ≡ r = same_Some f.0 r (sym f.1 ∙ e) in
    let P : Offer → Type 0 = λ z. z.call ≤ o.call in
    subst P same (elim m [ inl is ↦ (let Q : Offer → Type 0 = λ z. f.0.call ≤ z.call in subst Q (sym is) f.2) | inr n ↦ f.3 o n ])

-- ---- steps up to a call

abbrev pub IsUpTo : ℕ → Step → Type 0
IsUpTo c (step.Begin d) = d ≤ c
IsUpTo c (step.Block d instance) = d ≤ c
IsUpTo c (step.Visit d instance) = d ≤ c
IsUpTo c (step.Join d) = d ≤ c
IsUpTo c (step.Grow field) = ⊥

abbrev pub AreUpTo : ℕ → List Step → Type 0
AreUpTo c = AllByRecursion (IsUpTo c)

up_to_more : (c d : ℕ) (x : Step) → c ≤ d → IsUpTo c x → IsUpTo d x
up_to_more c d (step.Begin e) l h = omega arith
up_to_more c d (step.Block e instance) l h = omega arith
up_to_more c d (step.Visit e instance) l h = omega arith
up_to_more c d (step.Join e) l h = omega arith
up_to_more c d (step.Grow field) l h = absurd h

all_up_to : (c d : ℕ) (xs : List Step) → c ≤ d → AreUpTo c xs → AreUpTo d xs
all_up_to c d [] l h = tt
all_up_to c d (x ∷ xs) l h = (up_to_more c d x l h.0, all_up_to c d xs l h.1)

all_append : {A : Type 0} (P : A → Type 0) (xs ys : List A) → AllByRecursion P xs → AllByRecursion P ys → AllByRecursion P (xs ++ ys)
all_append P [] ys h g = g
all_append P (x ∷ xs) ys h g = (h.0, all_append P xs ys h.1 g)

-- a step of call c
abbrev pub IsOf : ℕ → Step → Type 0
IsOf c (step.Begin d) = d ≡ c
IsOf c (step.Block d instance) = d ≡ c
IsOf c (step.Visit d instance) = d ≡ c
IsOf c (step.Join d) = d ≡ c
IsOf c (step.Grow field) = ⊥

of_up_to : (c : ℕ) (x : Step) → IsOf c x → IsUpTo c x
of_up_to c (step.Begin d) e = omega arith
of_up_to c (step.Block d instance) e = omega arith
of_up_to c (step.Visit d instance) e = omega arith
of_up_to c (step.Join d) e = omega arith
of_up_to c (step.Grow field) e = absurd e

all_of_up_to : (c : ℕ) (xs : List Step) → AllByRecursion (IsOf c) xs → AreUpTo c xs
all_of_up_to c [] h = tt
all_of_up_to c (x ∷ xs) h = (of_up_to c x h.0, all_of_up_to c xs h.1)

not_earlier : (c d : ℕ) (x : Step) → d ≤ c → IsOf c x → IsNotEarlier d x
not_earlier c d (step.Begin e) l h = omega arith
not_earlier c d (step.Block e instance) l h = omega arith
not_earlier c d (step.Visit e instance) l h = omega arith
not_earlier c d (step.Join e) l h = omega arith
not_earlier c d (step.Grow field) l h = absurd h

all_not_earlier : (c d : ℕ) (xs : List Step) → d ≤ c → AllByRecursion (IsOf c) xs → AllByRecursion (IsNotEarlier d) xs
all_not_earlier c d [] l h = tt
all_not_earlier c d (x ∷ xs) l h = (not_earlier c d x l h.0, all_not_earlier c d xs l h.1)

-- steps of one call are serial by themselves
serial_of : (c : ℕ) (xs : List Step) → AllByRecursion (IsOf c) xs → IsSerial xs
serial_of c [] h = tt
serial_of c (step.Begin d ∷ xs) h = (all_not_earlier c d xs (same_at_most d c h.0) h.1, serial_of c xs h.1)
  where
    same_at_most : (a b : ℕ) → a ≡ b → a ≤ b
    same_at_most a b e = omega arith
serial_of c (step.Block d instance ∷ xs) h = serial_of c xs h.1
serial_of c (step.Visit d instance ∷ xs) h = serial_of c xs h.1
serial_of c (step.Join d ∷ xs) h = serial_of c xs h.1
serial_of c (step.Grow field ∷ xs) h = absurd h.0

serial-append : (c : ℕ) (xs ys : List Step) → IsSerial xs → AreUpTo c xs → AllByRecursion (IsOf c) ys → IsSerial (xs ++ ys)
serial-append c [] ys serial up h = serial_of c ys h
serial-append c (step.Begin d ∷ xs) ys serial up h = (all_append (IsNotEarlier d) xs ys serial.0 (all_not_earlier c d ys up.0 h), serial-append c xs ys serial.1 up.1 h)
serial-append c (step.Block d instance ∷ xs) ys serial up h = serial-append c xs ys serial up.1 h
serial-append c (step.Visit d instance ∷ xs) ys serial up h = serial-append c xs ys serial up.1 h
serial-append c (step.Join d ∷ xs) ys serial up h = serial-append c xs ys serial up.1 h
serial-append c (step.Grow field ∷ xs) ys serial up h = absurd up.0

shown_of : (p : Port) (c : ℕ) → AllByRecursion (IsOf c) (shown_entry p c)
shown_of port.Caller c = tt
shown_of port.Sink c = tt
shown_of port.Front c = (refl, tt)
shown_of port.Join c = tt
shown_of (port.Slot f at) c = (refl, tt)
shown_of (port.Inst f n) c = tt

-- ---- where the run to completion stands

-- the n-th commit and those after it are of call n and the calls after it
abbrev pub ArePlaced : (ℕ → Spot) → ℕ → List (Port × ℕ) → Type 0
ArePlaced place n [] = Unit {0}
ArePlaced place n (c ∷ commits) = (place n ≡ record { from = c.0; to = port.Sink; index = c.1 - 1 }) × ArePlaced place (n + 1) commits

placed-push : (place : ℕ → Spot) (n m : ℕ) (commits : List (Port × ℕ)) (c : Port × ℕ) → ArePlaced place n commits → n + length commits ≡ m → place m ≡ record { from = c.0; to = port.Sink; index = c.1 - 1 }
    → ArePlaced place n (commits ++ c ∷ [])
placed-push place n m [] c h e is = (ap place (plain n m e) ∙ is, tt)
  where
    plain : (n m : ℕ) → n + 0 ≡ m → n ≡ m
    plain n m e = omega arith
placed-push place n m (x ∷ commits) c h e is = (h.0, placed-push place (n + 1) m commits c h.1 (over n (length commits) m e) is)
  where
    over : (n k m : ℕ) → n + suc k ≡ m → n + 1 + k ≡ m
    over n k m e = omega arith

placed_elsewhere : (place place' : ℕ → Spot) (n m : ℕ) (commits : List (Port × ℕ)) → ((q : ℕ) → q ≢ m → place' q ≡ place q) → n + length commits ≤ m → ArePlaced place n commits → ArePlaced place' n commits
placed_elsewhere place place' n m [] same l h = tt
placed_elsewhere place place' n m (x ∷ commits) same l h =
    (same n (apart n (length commits) m l) ∙ h.0, placed_elsewhere place place' (n + 1) m commits same (over n (length commits) m l) h.1)
  where
    apart : (n k m : ℕ) → n + suc k ≤ m → n ≡ m → ⊥
    apart n k m l e = absurd (omega arith)

    over : (n k m : ℕ) → n + suc k ≤ m → n + 1 + k ≤ m
    over n k m l = omega arith

-- The calls before call c are done, call c is not, and those after it stand where they began.
pub record SerialAt (s : Setup) (class : Class) (Agrees : Port → Item → CallState → Type 0) (w : World) (st : Standing s class Agrees w) (c : ℕ) : Type 0 where
  pub some : 1 ≤ c
  pub most : c ≤ length s.calls + 1
  pub done : (q : ℕ) → 1 ≤ q → q < c → is_done w.commits (st.place q) ≡ true
  pub going : c ≤ length s.calls → is_done w.commits (st.place c) ≡ false
  pub fresh : (q : ℕ) → c < q → q ≤ length s.calls → st.place q ≡ first_place q
  pub up_to : AreUpTo c (steps_of w.hist)
  pub serial : IsSerial (steps_of w.hist)
  pub placed : ArePlaced st.place 1 w.commits
  pub count : 1 + length w.commits ≡ c

-- ---- who is offered

three_ways : (a b : ℕ) → (a < b) ⊎ ((a ≡ b) ⊎ (b < a))
three_ways zero zero = inr (inl refl)
three_ways zero (suc b) = inl (omega arith)
three_ways (suc a) zero = inr (inr (omega arith))
three_ways (suc a) (suc b) = elim (three_ways a b) [ inl l ↦ inl (omega arith) | inr h ↦ elim h [ inl e ↦ inr (inl (ap suc e)) | inr l ↦ inr (inr (omega arith)) ] ]

-- what is in flight is of a call that is not before call c
ahead_not_before : (s : Setup) (class : Class) (Agrees : Port → Item → CallState → Type 0) (w : World) (st : Standing s class Agrees w) (c : ℕ) → SerialAt s class Agrees w st c
    → (spot : Spot) (x : Item) → st.place (call_of x) ≡ spot → Among (call_of x) (call_numbers s) → is_done w.commits spot ≡ false → c ≤ call_of x
ahead_not_before s class Agrees w st c at spot x placed number not =
    elim (three_ways (call_of x) c) [
      | inl before ↦ absurd (clash _ (ap (is_done w.commits) placed) (at.done (call_of x) (in_numbers 1 (length s.calls) (call_of x) number).0 before) not)
      | inr other ↦ elim other [ inl same ↦ same_at_least (call_of x) c same | inr after ↦ later (call_of x) c after ]
    ]
  where
    clash : (b : Bool) → is_done w.commits (st.place (call_of x)) ≡ b → is_done w.commits (st.place (call_of x)) ≡ true → b ≡ false → ⊥
    clash b e f g = let h : true ≡ false = sym f ∙ e ∙ g in absurd cc

    same_at_least : (a c : ℕ) → a ≡ c → c ≤ a
    same_at_least a c e = omega arith

    later : (a c : ℕ) → c < a → c ≤ a
    later a c l = omega arith

not_done_at : (commits : List (Port × ℕ)) (from : Port) → is_done commits (record { from = from; to = port.Sink; index = committed from commits }) ≡ false
not_done_at commits from = false_from_ne_true (is_done commits spot) (λ e. itself (committed from commits) (is_done_is commits spot e).1)
  where
    spot : Spot
    spot = record { from = from; to = port.Sink; index = committed from commits }

    itself : (n : ℕ) → n < n → ⊥
    itself n l = omega arith

-- the call of an offered item, where it stands, and that it is not before call c
pub record OfferKnown (s : Setup) (class : Class) (Agrees : Port → Item → CallState → Type 0) (w : World) (st : Standing s class Agrees w) (spot : Spot) (x : Item) : Type 0 where
  pub placed : st.place (call_of x) ≡ spot
  pub number : Among (call_of x) (call_numbers s)
  pub not : is_done w.commits spot ≡ false

result_offer_known : (s : Setup) (class : Class) (Agrees : Port → Item → CallState → Type 0) (w : World) (st : Standing s class Agrees w) (from : Port) (x : Item) → next_result s w from ≡ Some x
    → OfferKnown s class Agrees w st (record { from = from; to = port.Sink; index = committed from w.commits }) x
result_offer_known s class Agrees w st from x is =
    let r = next_in_flight s class Agrees w st from x is in
    record { placed = r.placed; number = number_of s st.now.calls (call_of x) r.state st.agreement.as_many r.is_state; not = not_done_at w.commits from }

item_offer_known : (s : Setup) (class : Class) (Agrees : Port → Item → CallState → Type 0) (w : World) (st : Standing s class Agrees w) (to from : Port) (x : Item) → IsCell to → next_item s w to from ≡ Some x
    → OfferKnown s class Agrees w st (record { from = from; to = to; index = (cell s w to).took from }) x
item_offer_known s class Agrees w st to from x is_cell is =
    let spot : Spot = record { from = from; to = to; index = (cell s w to).took from } in
    let f = st.agreement.flight spot x (itself ((cell s w to).took from)) is in
    record { placed = f.placed; number = number_of s st.now.calls (call_of x) f.state st.agreement.as_many f.is_state; not = not_done w.commits spot is_cell }
  where
    itself : (n : ℕ) → n ≤ n
    itself n = omega arith

-- ---- call c is offered

-- item n from the caller is the start of call n
caller_numbers : (s : Setup) (class : Class) (Agrees : Port → Item → CallState → Type 0) (w : World) (st : Standing s class Agrees w) (spot : Spot) (x : Item)
    → port.Caller ≡ spot.from → port.Front ≡ spot.to → item_at (λ q. cell s w q) spot ≡ Some x → call_of x ≡ 1 + spot.index
caller_numbers s class Agrees w st spot x from_caller to_front is =
    let at_caller : slice_get ((cell s w port.Caller).gave port.Front) spot.index ≡ Some x =
    ap (λ (p : Port). slice_get ((cell s w p).gave port.Front) spot.index) from_caller
    ∙ ap (λ (p : Port). slice_get ((cell s w spot.from).gave p) spot.index) to_front ∙ is in
    let given : slice_get (given_at_start s.calls port.Caller port.Front) spot.index ≡ Some x =
    ap (λ (f : Port → List Item). slice_get (f port.Front) spot.index) (sym st.agreement.caller) ∙ at_caller in
    let r = starts_are s.calls 1 spot.index x given in
    ap call_of r.2

-- what stands before call c in its channel would be of another call
first_of_channel : (s : Setup) (class : Class) (Agrees : Port → Item → CallState → Type 0) (w : World) (st : Standing s class Agrees w) (c : ℕ) → SerialAt s class Agrees w st c
    → (spot : Spot) (x : Item) → OfferKnown s class Agrees w st spot x → spot.from ≡ (st.place c).from → spot.to ≡ (st.place c).to → spot.index < (st.place c).index
    → (p : Present class s.header.slots (λ q. cell s w q) (st.place c) c) → item_at (λ q. cell s w q) spot ≡ Some x → ⊥
first_of_channel s class Agrees w st c at spot x known from_is to_is less p is =
    elim (three_ways (call_of x) c) [
      | inl before ↦ not_before (call_of x) c before (ahead_not_before s class Agrees w st c at spot x known.placed known.number known.not)
      | inr other ↦ elim other [
        | inl same ↦ earlier spot.index (st.place c).index less (ap (λ (z : Spot). z.index) (sym known.placed ∙ ap st.place same))
        | inr after ↦
            let r = in_numbers 1 (length s.calls) (call_of x) known.number in
            let e : first_place (call_of x) ≡ spot = sym (at.fresh (call_of x) after (at_most (call_of x) (length s.calls) r.1)) ∙ known.placed in
            let from_caller : port.Caller ≡ (st.place c).from = ap (λ (z : Spot). z.from) e ∙ from_is in
            let to_front : port.Front ≡ (st.place c).to = ap (λ (z : Spot). z.to) e ∙ to_is in
            let mine = caller_numbers s class Agrees w st (st.place c) p.it from_caller to_front p.is_item in
            let other_is = caller_numbers s class Agrees w st spot x (ap (λ (z : Spot). z.from) e) (ap (λ (z : Spot). z.to) e) is in
            wrong spot.index (st.place c).index (call_of x) c less after other_is (sym p.of_call ∙ mine)
      ]
    ]
  where
    not_before : (a c : ℕ) → a < c → c ≤ a → ⊥
    not_before a c l m = omega arith

    earlier : (a b : ℕ) → a < b → a ≡ b → ⊥
    earlier a b l e = omega arith

    at_most : (a n : ℕ) → a < 1 + n → a ≤ n
    at_most a n l = omega arith

    wrong : (i j a c : ℕ) → i < j → c < a → a ≡ 1 + i → c ≡ 1 + j → ⊥
    wrong i j a c l m e f = omega arith

done_spot : (commits : List (Port × ℕ)) (spot : Spot) → spot.to ≡ port.Sink → spot.index < committed spot.from commits → is_done commits spot ≡ true
done_spot = done_is

-- a call of each number
number_call : (s : Setup) (c : ℕ) → 1 ≤ c → c ≤ length s.calls → (call : Call) × (nth s.calls c ≡ Some call)
number_call s zero l u = absurd (omega arith)
number_call s (suc n) l u = there s.calls n (omega arith)

-- Call c is offered.
call_offered : (s : Setup) (class : Class) (Agrees : Port → Item → CallState → Type 0) (w : World) (st : Standing s class Agrees w) (c : ℕ) (call : Call) → length s.graph.fields ≡ length (fields class)
    → SerialAt s class Agrees w st c → c ≤ length s.calls → nth s.calls c ≡ Some call → (w.next_step == last_step) ≡ false
    → (o : Offer) × Among o (offers s w) × (o.call ≡ c)
call_offered s class Agrees w st c call as_many at most is_call running =
    let p = st.agreement.present c call is_call in
    let spot = st.place c in
    let cells : Port → Progress = λ q. cell s w q in
    elim (port_cases port.Sink spot.to) [
      | inl same ↦
          let have : slice_get ((cells spot.from).gave port.Sink) spot.index ≡ Some p.it = ap (λ (q : Port). slice_get ((cells spot.from).gave q) spot.index) same ∙ p.is_item in
          let sender = in_cells s class spot.from as_many (to_sink class s.header.slots spot.from spot.to same p.receiver) in
          elim (three_ways (committed spot.from w.commits) spot.index) [
            | inl less ↦
                let x = there ((cells spot.from).gave port.Sink) (committed spot.from w.commits) (before (committed spot.from w.commits) spot.index _ less (slice_get_within _ spot.index p.it have)) in
                absurd (first_of_channel s class Agrees w st c at (record { from = spot.from; to = port.Sink; index = committed spot.from w.commits }) x.0 (result_offer_known s class Agrees w st spot.from x.0 x.1) refl same less p x.1)
            | inr other ↦ elim other [
              | inl e ↦ (_, result_offered s w spot.from p.it sender (ap (slice_get ((cells spot.from).gave port.Sink)) e ∙ have), p.of_call)
              | inr more ↦ absurd (clash (is_done w.commits spot) (done_spot w.commits spot (sym same) more) (at.going most))
            ]
          ]
      | inr other ↦
          let to_in = to_cell class s.header.slots spot.from spot.to other p.receiver in
          let is_cell = in_is_cell class s.header.slots spot.to to_in in
          elim (three_ways ((cells spot.to).took spot.from) spot.index) [
            | inl less ↦
                let x = there ((cells spot.from).gave spot.to) ((cells spot.to).took spot.from) (before ((cells spot.to).took spot.from) spot.index _ less (slice_get_within _ spot.index p.it p.is_item)) in
                absurd (first_of_channel s class Agrees w st c at (record { from = spot.from; to = spot.to; index = (cells spot.to).took spot.from }) x.0 (item_offer_known s class Agrees w st spot.to spot.from x.0 is_cell x.1) refl refl less p x.1)
            | inr rest ↦ elim rest [
              | inl e ↦ (_, item_offered s w spot.to spot.from p.it running (in_cells s class spot.to as_many to_in) (in_senders s class spot.from as_many p.sender) (ap (slice_get ((cells spot.from).gave spot.to)) e ∙ p.is_item), p.of_call)
              | inr more ↦ absurd (taken_already ((cells spot.to).took spot.from) spot.index p.ahead more)
            ]
          ]
    ]
  where
    before : (a b c : ℕ) → a < b → b < c → a < c
    before a b c l m = omega arith

    taken_already : (a b : ℕ) → a ≤ b → b < a → ⊥
    taken_already a b l m = omega arith

    clash : (b : Bool) → b ≡ true → b ≡ false → ⊥
    clash b e f = let h : true ≡ false = sym e ∙ f in absurd cc

    to_sink : (class : Class) (slots : ℕ) (from to : Port) → port.Sink ≡ to → IsReceiver class slots from to → IsIn class slots from
    to_sink class slots from to e h = let P : Port → Type 0 = λ p. IsReceiver class slots from p in subst P (sym e) h

    to_cell : (class : Class) (slots : ℕ) (from to : Port) → same_port port.Sink to ≡ false → IsReceiver class slots from to → IsIn class slots to
    to_cell class slots from port.Caller e h = h
    to_cell class slots from port.Sink e h = let yes = same_port-refl port.Sink in absurd cc
    to_cell class slots from port.Front e h = h
    to_cell class slots from port.Join e h = h
    to_cell class slots from (port.Slot f n) e h = h
    to_cell class slots from (port.Inst f n) e h = h

    in_is_cell : (class : Class) (slots : ℕ) (p : Port) → IsIn class slots p → IsCell p
    in_is_cell class slots port.Caller h = h
    in_is_cell class slots port.Sink h = h
    in_is_cell class slots port.Front h = tt
    in_is_cell class slots port.Join h = tt
    in_is_cell class slots (port.Slot f n) h = tt
    in_is_cell class slots (port.Inst f n) h = tt

-- ---- one event of the run to completion

front_not_done : (commits : List (Port × ℕ)) (c : ℕ) → is_done commits (first_place c) ≡ false
front_not_done commits c = not_done commits (first_place c) tt

serial_commit : (s : Setup) (class : Class) (Agrees : Port → Item → CallState → Type 0) (w : World) (st : Standing s class Agrees w) (c : ℕ) (from : Port) (x : Item) → (is : next_result s w from ≡ Some x)
    → SerialAt s class Agrees w st c → c ≤ length s.calls → call_of x ≡ c
    → SerialAt s class Agrees (with_commit w from) (commit_stands s class Agrees w st from x is) (c + 1)
unfolding commit_stands
serial_commit s class Agrees w st c from x is at most is_c =
    let known = result_offer_known s class Agrees w st from x is in
    let placed : st.place c ≡ record { from = from; to = port.Sink; index = committed from w.commits } = ap st.place (sym is_c) ∙ known.placed in
    record {
      some = one_more c;
      most = also c (length s.calls) most;
      done = λ q l m. elim (below_or_at q c m) [
        | inl below ↦ still_done w.commits from (committed from w.commits + 1) (st.place q) (at.done q l below)
        | inr same ↦ ap (λ (n : ℕ). is_done (w.commits ++ (from, committed from w.commits + 1) ∷ []) (st.place n)) same
            ∙ ap (is_done (w.commits ++ (from, committed from w.commits + 1) ∷ [])) placed
            ∙ done_spot (w.commits ++ (from, committed from w.commits + 1) ∷ []) (record { from = from; to = port.Sink; index = committed from w.commits }) refl (counted (committed from w.commits) _ (committed-same from w.commits (committed from w.commits + 1)))
      ];
      going = λ l. ap (is_done (w.commits ++ (from, committed from w.commits + 1) ∷ [])) (at.fresh (c + 1) (next c) l) ∙ front_not_done (w.commits ++ (from, committed from w.commits + 1) ∷ []) (c + 1);
      fresh = λ q l u. at.fresh q (after c q l) u;
      up_to = all_up_to c (c + 1) (steps_of w.hist) (at_most c) at.up_to;
      serial = at.serial;
      placed = placed-push st.place 1 c w.commits (from, committed from w.commits + 1) at.placed at.count (placed ∙ ap (λ (n : ℕ). let z : Spot = record { from = from; to = port.Sink; index = n } in z) (back (committed from w.commits)));
      count = counts (length w.commits) _ c (length-append w.commits ((from, committed from w.commits + 1) ∷ [])) at.count;
    }
  where
    one_more : (c : ℕ) → 1 ≤ c + 1
    one_more c = omega arith

    also : (c n : ℕ) → c ≤ n → c + 1 ≤ n + 1
    also c n l = omega arith

    below_or_at : (q c : ℕ) → q < c + 1 → (q < c) ⊎ (q ≡ c)
    below_or_at zero zero l = inr refl
    below_or_at zero (suc c) l = inl (omega arith)
    below_or_at (suc q) zero l = absurd (omega arith)
    below_or_at (suc q) (suc c) l = elim (below_or_at q c (omega arith)) [ inl b ↦ inl (omega arith) | inr e ↦ inr (ap suc e) ]

    counted : (n m : ℕ) → m ≡ n + 1 → n < m
    counted n m e = omega arith

    next : (c : ℕ) → c < c + 1
    next c = omega arith

    after : (c q : ℕ) → c + 1 < q → c < q
    after c q l = omega arith

    at_most : (c : ℕ) → c ≤ c + 1
    at_most c = omega arith

    back : (n : ℕ) → n ≡ n + 1 - 1
    back n = omega arith

    counts : (n m c : ℕ) → m ≡ n + 1 → 1 + n ≡ c → 1 + m ≡ c + 1
    counts n m c e f = omega arith

-- a place at the end of a channel holds nothing that was committed
new_not_done : (s : Setup) (class : Class) (Agrees : Port → Item → CallState → Type 0) (w : World) (st : Standing s class Agrees w) (to receiver : Port) → is_done w.commits (new_spot to receiver (λ p. cell s w p)) ≡ false
new_not_done s class Agrees w st to receiver =
    false_from_ne_true (is_done w.commits (new_spot to receiver (λ p. cell s w p))) (λ e.
    (let d = is_done_is w.commits (new_spot to receiver (λ p. cell s w p)) e in
    beyond (length ((cell s w to).gave receiver)) (committed to w.commits) d.1
    (let P : Port → Type 0 = λ p. committed to w.commits ≤ length ((cell s w to).gave p) in subst P (sym d.0) (st.within to))))
  where
    beyond : (a b : ℕ) → a < b → b ≤ a → ⊥
    beyond a b l m = omega arith

serial_take : (s : Setup) (class : Class) (Agrees : Port → Item → CallState → Type 0) (w : World) (st : Standing s class Agrees w) (c : ℕ) (to from : Port) (pick : ℕ) (x : Item)
    → (t : TakenOn s class Agrees w st to from pick x)
    → SerialAt s class Agrees w st c → call_of x ≡ c
    → SerialAt s class Agrees (with_entry s w to from pick x) t.standing c
serial_take s class Agrees w st c to from pick x t at is_c =
    let e = entry s w to from pick x in
    let steps : steps_of (w.hist ++ Took e ∷ []) ≡ steps_of w.hist ++ shown (Took e) = steps_of-append w.hist (Took e ∷ []) ∙ ap (λ (xs : List Step). steps_of w.hist ++ xs) (append-nil (shown (Took e))) in
    let mine : AllByRecursion (IsOf c) (shown (Took e)) = let P : ℕ → Type 0 = λ n. AllByRecursion (IsOf n) (shown (Took e)) in subst P is_c (shown_of to (call_of x)) in
    let elsewhere : (q : ℕ) → q ≢ c → t.standing.place q ≡ st.place q = λ q ne. t.other_places q (λ e. ne (e ∙ is_c)) in
    record {
      some = at.some;
      most = at.most;
      done = λ q l m. ap (is_done w.commits) (elsewhere q (less q c m)) ∙ at.done q l m;
      going = λ l. ap (λ (n : ℕ). is_done w.commits (t.standing.place n)) (sym is_c) ∙ ap (is_done w.commits) t.stands ∙ new_not_done s class Agrees w st to t.receiver;
      fresh = λ q l u. elsewhere q (more q c l) ∙ at.fresh q l u;
      up_to = (let P : List Step → Type 0 = AreUpTo c in subst P (sym steps) (all_append (IsUpTo c) (steps_of w.hist) (shown (Took e)) at.up_to (all_of_up_to c (shown (Took e)) mine)));
      serial = (let P : List Step → Type 0 = IsSerial in subst P (sym steps) (serial-append c (steps_of w.hist) (shown (Took e)) at.serial at.up_to mine));
      placed = placed_elsewhere st.place t.standing.place 1 c w.commits elsewhere (same_at_most (1 + length w.commits) c at.count) at.placed;
      count = at.count;
    }
  where
    less : (q c : ℕ) → q < c → q ≡ c → ⊥
    less q c l e = absurd (omega arith)

    more : (q c : ℕ) → c < q → q ≡ c → ⊥
    more q c l e = absurd (omega arith)

    same_at_most : (a b : ℕ) → a ≡ b → a ≤ b
    same_at_most a b e = omega arith

-- ---- the whole of it

pub record SerialEnd (s : Setup) (class : Class) (Agrees : Port → Item → CallState → Type 0) (w : World) : Type 0 where
  pub standing : Standing s class Agrees w
  pub at : SerialAt s class Agrees w standing (length s.calls + 1)

-- where nothing is left, every call is done
nothing_left : (s : Setup) (class : Class) (Agrees : Port → Item → CallState → Type 0) (w : World) (st : Standing s class Agrees w) → potential s class Agrees w st ≤ 0
    → (c : ℕ) (call : Call) → nth s.calls c ≡ Some call → is_done w.commits (st.place c) ≡ true
nothing_left s class Agrees w st l c call is =
    weight_zero (left_of (nth st.now.calls c)) (is_done w.commits (st.place c))
    (zero_part (λ q. weight w.commits (nth st.now.calls q) (st.place q)) (call_numbers s) c l (a_number s c call is))

-- two calls at one place are one call
same_place : (s : Setup) (class : Class) (Agrees : Port → Item → CallState → Type 0) (w : World) (st : Standing s class Agrees w) (c d : ℕ) (call call' : Call) → nth s.calls c ≡ Some call → nth s.calls d ≡ Some call'
    → st.place c ≡ st.place d → c ≡ d
same_place s class Agrees w st c d call call' is is' e =
    let p = st.agreement.present c call is in
    let q = st.agreement.present d call' is' in
    let one : p.it ≡ q.it = same_Some p.it q.it (sym p.is_item ∙ ap (item_at (λ z. cell s w z)) e ∙ q.is_item) in
    sym p.of_call ∙ ap call_of one ∙ q.of_call

first_serial : (s : Setup) (class : Class) (Fits : Call → Type 0) (Agrees : Port → Item → CallState → Type 0) → (sim : Simulation class s.graph s.header.slots Fits Agrees) → (fit : AllFit Fits s.calls)
    → SerialAt s class Agrees first_world (first_stands s class Fits Agrees sim fit) 1
unfolding first_stands
first_serial s class Fits Agrees sim fit = record {
  some = omega arith;
  most = most (length s.calls);
  done = λ q l m. absurd (none q l m);
  going = λ l. front_not_done [] 1;
  fresh = λ q l u. refl;
  up_to = tt;
  serial = tt;
  placed = tt;
  count = refl;
}
  where
    most : (n : ℕ) → 1 ≤ n + 1
    most n = omega arith

    none : (q : ℕ) → 1 ≤ q → q < 1 → ⊥
    none q l m = omega arith

-- where every call is done, none is left
ended_at : (s : Setup) (class : Class) (Agrees : Port → Item → CallState → Type 0) (w : World) (st : Standing s class Agrees w) (c : ℕ) → SerialAt s class Agrees w st c
    → ((q : ℕ) (call : Call) → nth s.calls q ≡ Some call → is_done w.commits (st.place q) ≡ true) → c ≡ length s.calls + 1
ended_at s class Agrees w st c at done =
    elim (at_end c (length s.calls) at.most) [
      | inl e ↦ e
      | inr l ↦
          let call = number_call s c at.some l in
          absurd (clash (is_done w.commits (st.place c)) (done c call.0 call.1) (at.going l))
    ]
  where
    at_end : (c n : ℕ) → c ≤ n + 1 → (c ≡ n + 1) ⊎ (c ≤ n)
    at_end zero n l = inr (omega arith)
    at_end (suc c) zero l = inl (omega arith)
    at_end (suc c) (suc n) l = elim (at_end c n (omega arith)) [ inl e ↦ inl (omega arith) | inr m ↦ inr (omega arith) ]

    clash : (b : Bool) → b ≡ true → b ≡ false → ⊥
    clash b e f = let h : true ≡ false = sym e ∙ f in absurd cc

end_of : (s : Setup) (class : Class) (Agrees : Port → Item → CallState → Type 0) (w : World) (st : Standing s class Agrees w) (c : ℕ) → SerialAt s class Agrees w st c
    → ((q : ℕ) (call : Call) → nth s.calls q ≡ Some call → is_done w.commits (st.place q) ≡ true) → SerialEnd s class Agrees w
end_of s class Agrees w st c at done =
    record { standing = st; at = (let P : ℕ → Type 0 = SerialAt s class Agrees w st in subst P (ended_at s class Agrees w st c at done) at) }

-- the offer that is taken is of call c
taken_is : (s : Setup) (class : Class) (Fits : Call → Type 0) (Agrees : Port → Item → CallState → Type 0) (w : World) (st : Standing s class Agrees w) (c : ℕ) → Simulation class s.graph s.header.slots Fits Agrees
    → SerialAt s class Agrees w st c → (w.next_step == last_step) ≡ false → (o : Offer) → lowest (offers s w) ≡ Some o → c ≤ o.call → o.call ≤ length s.calls → (o.call ≡ c) × (c ≤ length s.calls)
taken_is s class Fits Agrees w st c sim at running o found l u =
    let most : c ≤ length s.calls = reach c o.call (length s.calls) l u in
    let call = number_call s c at.some most in
    let mine = call_offered s class Agrees w st c call.0 sim.as_many at most call.1 running in
    let m : o.call ≤ c = let P : ℕ → Type 0 = λ n. o.call ≤ n in subst P mine.2 (lowest_least (offers s w) o mine.0 found mine.1) in
    (antisymmetric o.call c m l, most)
  where
    reach : (a b c : ℕ) → a ≤ b → b ≤ c → a ≤ c
    reach a b c l m = omega arith

    antisymmetric : (a b : ℕ) → a ≤ b → b ≤ a → a ≡ b
    antisymmetric a b l m = omega arith

in_range : (s : Setup) (c : ℕ) → Among c (call_numbers s) → c ≤ length s.calls
in_range s c m = at_most c (length s.calls) (in_numbers 1 (length s.calls) c m).1
  where
    at_most : (c n : ℕ) → c < 1 + n → c ≤ n
    at_most c n l = omega arith

pub drain_serial : (s : Setup) (class : Class) (Fits : Call → Type 0) (Agrees : Port → Item → CallState → Type 0) (n : ℕ) (w : World) (c : ℕ)
    → 1 ≤ s.header.slots → Simulation class s.graph s.header.slots Fits Agrees → AllFit Fits s.calls
    → (st : Standing s class Agrees w) → SerialAt s class Agrees w st c → potential s class Agrees w st ≤ n → w.next_step + n < last_step
    → SerialEnd s class Agrees (drained_for n s w)
drain_serial s class Fits Agrees zero w c some sim fit st at l below =
    end_of s class Agrees w st c at (nothing_left s class Agrees w st l)
drain_serial s class Fits Agrees (suc n) w c some sim fit st at l below =
    let running = still_going w.next_step n below in
    elim (option_cases (lowest (offers s w))) [
      | inl none ↦
          let P : World → Type 0 = SerialEnd s class Agrees in
          subst P (sym (idle s w (suc n) none)) (end_of s class Agrees w st c at (all_done s class Agrees w st sim.as_many none running))
      | inr found ↦
          let o = found.0 in
          let P : World → Type 0 = λ v. SerialEnd s class Agrees (drained_for n s v) in
          let Q : Option Offer → Type 0 = λ q. P (after_offer s w q) in
          subst Q (sym found.1) (elim (offered_is s w o (lowest_among (offers s w) o found.1)) [
            | inl r ↦
                let known = result_offer_known s class Agrees w st o.from r.x r.is in
                let is_c = taken_is s class Fits Agrees w st c sim at running o found.1 (at_least c o.call (call_of r.x) r.of_call (ahead_not_before s class Agrees w st c at _ r.x known.placed known.number known.not)) (at_most_by (call_of r.x) o.call (length s.calls) r.of_call (in_range s (call_of r.x) known.number)) in
                subst P (sym (commits_it s w o r))
                (drain_serial s class Fits Agrees n (with_commit w o.from) (c + 1) some sim fit (commit_stands s class Agrees w st o.from r.x r.is)
                (serial_commit s class Agrees w st c o.from r.x r.is at is_c.1 (sym r.of_call ∙ is_c.0))
                (lower _ _ n (commit_falls s class Agrees w st o.from r.x r.is) l) (still_below w.next_step n below))
            | inr r ↦
                let known = item_offer_known s class Agrees w st o.to o.from r.x r.is_cell r.is in
                let is_c = taken_is s class Fits Agrees w st c sim at running o found.1 (at_least c o.call (call_of r.x) r.of_call (ahead_not_before s class Agrees w st c at _ r.x known.placed known.number known.not)) (at_most_by (call_of r.x) o.call (length s.calls) r.of_call (in_range s (call_of r.x) known.number)) in
                let t = take_stands s class Fits Agrees w some sim fit st o.to o.from (pick_of o.call) r.x r.is_cell r.is in
                subst P (sym (takes_it s w o r))
                (drain_serial s class Fits Agrees n (with_entry s w o.to o.from (pick_of o.call) r.x) c some sim fit t.standing
                (serial_take s class Agrees w st c o.to o.from (pick_of o.call) r.x t at (sym r.of_call ∙ is_c.0))
                (lower _ _ n (take_falls s class Agrees w st o.to o.from (pick_of o.call) r.x r.is_cell t) l) (next_below w.next_step n below))
          ])
    ]
  where
    lower : (a b n : ℕ) → a < b → b ≤ suc n → a ≤ n
    lower a b n l m = omega arith

    still_below : (next n : ℕ) → next + suc n < last_step → next + n < last_step
    still_below next n l = omega arith

    next_below : (next n : ℕ) → next + suc n < last_step → next + 1 + n < last_step
    next_below next n l = omega arith

    at_least : (c o x : ℕ) → o ≡ x → c ≤ x → c ≤ o
    at_least c o x e l = omega arith

    at_most_by : (x o n : ℕ) → o ≡ x → x ≤ n → o ≤ n
    at_most_by x o n e l = omega arith

-- ---- results in the order of the calls

in_order : (s : Setup) (class : Class) (Agrees : Port → Item → CallState → Type 0) (w : World) (st : Standing s class Agrees w) (n : ℕ) (commits : List (Port × ℕ))
    → ((c : Port × ℕ) → Among c commits → ResultKnown s class Agrees w st c) → ArePlaced st.place n commits → 1 ≤ n → n + length commits ≤ length s.calls + 1
    → map (λ r. r.0) (filter_map (result_of s w) commits) ≡ numbers_from n (length commits)
in_order s class Agrees w st n [] known placed some most = refl
in_order s class Agrees w st n (c ∷ commits) known placed some most =
    let k = known c (inl refl) in
    let mine = number_call s n some (first_within n (length commits) (length s.calls) most) in
    let other = a_call s k.call k.number in
    let same : k.call ≡ n = same_place s class Agrees w st k.call n other.0 mine.0 other.1 mine.1 (k.placed ∙ sym placed.0) in
    ap (λ (o : Option (ℕ × Outcome)). map (λ r. r.0) (cons_option o (filter_map (result_of s w) commits))) k.is
    ∙ ap (λ (m : ℕ). m ∷ map (λ r. r.0) (filter_map (result_of s w) commits)) same
    ∙ ap (λ (ns : List ℕ). n ∷ ns) (in_order s class Agrees w st (n + 1) commits (λ d m. known d (inr m)) placed.1 (later n some) (over n (length commits) (length s.calls) most))
  where
    first_within : (n k m : ℕ) → n + suc k ≤ m + 1 → n ≤ m
    first_within n k m l = omega arith

    later : (n : ℕ) → 1 ≤ n → 1 ≤ n + 1
    later n l = omega arith

    over : (n k m : ℕ) → n + suc k ≤ m + 1 → n + 1 + k ≤ m + 1
    over n k m l = omega arith

-- What runs without a schedule give: a serial history, and the results in the order of the calls.
pub record IsPlainRun (s : Setup) (w : World) : Type 0 where
  pub serial : IsSerial (steps_of w.hist)
  pub order : map (λ r. r.0) (results_of s w) ≡ numbers_from 1 (length s.calls)

pub serial_runs : (s : Setup) (class : Class) (Fits : Call → Type 0) (Agrees : Port → Item → CallState → Type 0) → 1 ≤ s.header.slots → Simulation class s.graph s.header.slots Fits Agrees → AllFit Fits s.calls
    → AreEnoughSteps s [] → IsPlainRun s (world_of s [])
serial_runs s class Fits Agrees some sim fit steps =
    let st = first_stands s class Fits Agrees sim fit in
    let e = drain_serial s class Fits Agrees (most_events s) first_world 1 some sim fit st (first_serial s class Fits Agrees sim fit) (first_potential s class Agrees st (first_now s class Fits Agrees sim fit)) (enough (most_events s) steps) in
    let w = world_of s [] in
    record {
      serial = e.at.serial;
      order =
          in_order s class Agrees w e.standing 1 w.commits (λ c m. result_known s class Fits Agrees w sim e.standing c m) e.at.placed (itself 1) (counted _ (length s.calls) e.at.count)
          ∙ ap (numbers_from 1) (count_is _ (length s.calls) e.at.count);
    }
  where
    itself : (n : ℕ) → n ≤ n
    itself n = omega arith

    enough : (m : ℕ) → 0 + 1 + m < last_step → 1 + m < last_step
    enough m l = omega arith

    counted : (a n : ℕ) → 1 + a ≡ n + 1 → 1 + a ≤ n + 1
    counted a n e = omega arith

    count_is : (a n : ℕ) → 1 + a ≡ n + 1 → a ≡ n
    count_is a n e = omega arith
