-- A call moves on as a whole: it begins, runs a block, or joins. What the cell gave is all that there is of it.
use Rattle.std.proofs.Common.{◌≡◌, ◌≢◌, ℕ, zero, suc, ◌<◌, ◌≤◌, ◌==◌, ◌&&◌, nat_lt, Bool, true, false, List, [], ◌∷◌, length, replicate, Option, Some, None, inl, slice_get, if◌then◌else◌, refl, ap, sym, ◌∙◌, subst, arith}
use Rattle.std.proofs.lemmas.Bool.{eqb-true, eq-eqb, and_parts, false_from_ne_true}
use Rattle.std.proofs.lemmas.Bool.Decides.{nat_tests}
use Rattle.sdg_base.specs.declared.val.Outcome.{Outcome}
use Rattle.sdg_base.specs.declared.port.Port.{Port}
use Rattle.sdg_base.specs.declared.port.Port.TheVariants as port
use Rattle.sdg_base.specs.declared.item.Item.{Item}
use Rattle.sdg_base.specs.declared.item.Item.TheVariants as item
use Rattle.sdg_base.specs.Ports.{same_port}
use Rattle.sdg_base.proofs.Ports.{same_port-true, same_port-refl}
use Rattle.tagged_agreement.specs.Machine.{Out, Send, Broadcast, ToJoin, Result, Wait, Ignore, one_to, each_to, given_to, Ran, call_of, part_of, Progress}
use Rattle.tagged_agreement.specs.History.{Setup, IsCell}
use Rattle.tagged_agreement.specs.Source.{Site, Keyed, Local, Global, Next, AtMark, AtEnd, CallState, At, Visiting, Ended, Program, Source, nth, at_mark, state_of, with_call}
use Rattle.tagged_agreement.specs.Simulation.{Piece, OfKey, OfInstance, port_of, IsOn, Reading, IsWork, IsVisit, GoesTo, Answers}
use Rattle.tagged_agreement.proofs.Lists.{nth_same, nth_other, with_as_many}
use Rattle.tagged_agreement.proofs.Channels.{Place, InChannel, Parked, receiver, Stands, new_place, Stayed, IsNew, given_stands}
use Rattle.tagged_agreement.proofs.Invariant.{IsSender, IsReceiver, IsInChannel, HasPart, Fits, Agreement}
use Rattle.tagged_agreement.proofs.Changes.{AreStepped, from_stepped, Came, change_agrees}

-- ---- where what is given stands

-- the port to which a part of the call goes
abbrev pub target : Out → Option ℕ → Port
target (Send to x) part = to
target (Broadcast field width x) (Some number) = port.Inst field number
target (Broadcast field width x) None = port.Join
target (ToJoin x) part = port.Join
target (Result x) part = port.Sink
target Wait part = port.Join
target Ignore part = port.Join

-- nothing is given, and nothing of a call goes on
abbrev pub IsIdle : Out → Type 0
IsIdle Wait = Unit {0}
IsIdle Ignore = Unit {0}
IsIdle out = ⊥

-- the parts of one call stand where they were given, and each other where it stood
abbrev pub all_moved : {State : Type 0} → Port → Out → (Port → Progress State) → ℕ → (ℕ → Option ℕ → Place) → ℕ → Option ℕ → Place
all_moved own out cells c place q part = if q == c then new_place own (target out part) cells else place q part

moved_here : {State : Type 0} (own : Port) (out : Out) (cells : Port → Progress State) (c : ℕ) (place : ℕ → Option ℕ → Place) (part : Option ℕ) → all_moved own out cells c place c part ≡ new_place own (target out part) cells
moved_here own out cells c place part = ap (λ (b : Bool). if b then new_place own (target out part) cells else place c part) (eq-eqb c c refl)

not_moved : {State : Type 0} (own : Port) (out : Out) (cells : Port → Progress State) (c : ℕ) (place : ℕ → Option ℕ → Place) (q : ℕ) (part : Option ℕ) → q ≢ c → all_moved own out cells c place q part ≡ place q part
not_moved own out cells c place q part ne = ap (λ (b : Bool). if b then new_place own (target out part) cells else place q part) (false_from_ne_true (q == c) (λ e. ne (eqb-true q c e)))

-- ---- what is given, by its form

pub one_given : (q : Port) (z : Item) (to : Port) (y : Item) → one_to q z to ≡ y ∷ [] → (q ≡ to) × (z ≡ y)
one_given q z to y e = go (same_port q to) refl e
  where
    go : (b : Bool) → same_port q to ≡ b → (if b then z ∷ [] else []) ≡ y ∷ [] → (q ≡ to) × (z ≡ y)
    go true is e = (same_port-true q to is, cc)
    go false is e = absurd cc

pub one_gives : (q : Port) (z : Item) → one_to q z q ≡ z ∷ []
one_gives q z = ap (λ (b : Bool). if b then z ∷ [] else []) (same_port-refl q)

below_of : (n w : ℕ) → nat_lt n w ≡ true → n < w
below_of n w e = grind (arith, nat_tests)

pub is_below : (n w : ℕ) → n < w → nat_lt n w ≡ true
is_below n w l = grind (arith, nat_tests)

each_given : (field width : ℕ) (z : Item) (to : Port) (y : Item) → each_to field width z to ≡ y ∷ [] → (number : ℕ) × (to ≡ port.Inst field number) × (number < width) × (z ≡ y)
each_given field width z (port.Inst own number) y e = go (field == own && nat_lt number width) refl e
  where
    go : (b : Bool) → (field == own && nat_lt number width) ≡ b → (if b then z ∷ [] else []) ≡ y ∷ [] → (n : ℕ) × (port.Inst own number ≡ port.Inst field n) × (n < width) × (z ≡ y)
    go true is e =
        let both = and_parts (field == own) (nat_lt number width) is in
        (number, ap (λ (f : ℕ). port.Inst f number) (sym (eqb-true field own both.0)), below_of number width both.1, cc)
    go false is e = absurd cc
each_given field width z port.Caller y e = absurd cc
each_given field width z port.Sink y e = absurd cc
each_given field width z port.Front y e = absurd cc
each_given field width z port.Join y e = absurd cc
each_given field width z (port.Slot f a) y e = absurd cc

each_gives : (field width : ℕ) (z : Item) (number : ℕ) → number < width → each_to field width z (port.Inst field number) ≡ z ∷ []
each_gives field width z number l = ap (λ (b : Bool). if b then z ∷ [] else []) (both field number width l)
  where
    both : (field number width : ℕ) → number < width → (field == field && nat_lt number width) ≡ true
    both field number width l = ap (λ (b : Bool). b && nat_lt number width) (eq-eqb field field refl) ∙ ap (λ (b : Bool). true && b) (is_below number width l)

unmade_yet : (n width : ℕ) → n < width → slice_get (replicate {A = Option Outcome} width None) n ≡ Some None
unmade_yet n zero l = absurd (omega arith)
unmade_yet zero (suc width) l = refl
unmade_yet (suc n) (suc width) l = unmade_yet n width (less n width l)
  where
    less : (n m : ℕ) → suc n < suc m → n < m
    less n m l = omega arith

as_many : (width : ℕ) → length (replicate {A = Option Outcome} width None) ≡ width
as_many zero = refl
as_many (suc width) = ap suc (as_many width)

-- ---- items by what they are for

pub work_is : (c : ℕ) (to : Port) (x : Item) → IsWork c x → (call_of x ≡ c) × (part_of to x ≡ None)
work_is c to (item.Work call t key turns vars) h = (h, refl)
work_is c to (item.Start call m args) h = absurd h
work_is c to (item.Visit call t w turns vars) h = absurd h
work_is c to (item.Part call t w n turns vars value) h = absurd h
work_is c to (item.Done call o) h = absurd h

pub visit_is : (c width field number : ℕ) (x : Item) → IsVisit c width x → (call_of x ≡ c) × (part_of (port.Inst field number) x ≡ Some number)
visit_is c width field number (item.Visit call t w turns vars) h = (h.0, refl)
visit_is c width field number (item.Work call t key turns vars) h = absurd h
visit_is c width field number (item.Start call m args) h = absurd h
visit_is c width field number (item.Part call t w n turns vars value) h = absurd h
visit_is c width field number (item.Done call o) h = absurd h

on_is : (site : Site) (piece : Piece) (at : Site) → at ≡ site → IsOn site piece → IsOn at piece
on_is site piece at e h = let P : Site → Type 0 = λ q. IsOn q piece in subst P (sym e) h

-- ---- a call that moves on

module _ {State Waiting Fields Contents : Type 0} (s : Setup State) (p : Program Waiting Fields) (r : Reading State Fields Contents) (Agrees : Item → Waiting → Type 0) where
  -- each item that is given is where its part goes, and agrees with the call
  pub record Given (widths : ℕ → ℕ) (c : ℕ) (out : Out) (state : CallState Waiting) (to : Port) (y : Item) : Type 0 where
    pub goes : target out (part_of to y) ≡ to
    pub of_call : call_of y ≡ c
    pub is_receiver : IsReceiver widths to
    pub fits : Fits s p r Agrees to y c state

  given_at_site : (widths : ℕ → ℕ) (c : ℕ) (out : Out) (w : Waiting) (site : Site) → p.site w ≡ site → GoesTo s Agrees c widths out w site
      → (to : Port) (y : Item) → given_to out to ≡ y ∷ [] → Given widths c out (at_mark widths w site) to y
  given_at_site widths c out w (Keyed field key) is_site h to y e =
      let f : one_to (port.Slot field (s.slot_of key)) h.item to ≡ y ∷ [] = ap (λ (o : Out). given_to o to) (sym h.gives) ∙ e in
      let both = one_given (port.Slot field (s.slot_of key)) h.item to y f in
      let P : Out → Port → Item → Type 0 = λ o q z. Given widths c o (At w) q z in
      let is = work_is c (port.Slot field (s.slot_of key)) h.item h.work in
      let here : P (Send (port.Slot field (s.slot_of key)) h.item) (port.Slot field (s.slot_of key)) h.item = record {
        goes = refl;
        of_call = is.0;
        is_receiver = tt;
        fits = record { piece = OfKey field key; on = on_is (Keyed field key) (OfKey field key) (p.site w) is_site (refl, refl); at = refl; work = h.work; agrees = h.agrees };
      } in
      subst (λ (o : Out). P o to y) (sym h.gives)
      (subst (λ (q : Port). P (Send (port.Slot field (s.slot_of key)) h.item) q y) both.0
      (subst (λ (z : Item). P (Send (port.Slot field (s.slot_of key)) h.item) (port.Slot field (s.slot_of key)) z) both.1 here))
  given_at_site widths c out w (Local field) is_site h to y e =
      let one = port.Inst field h.number in
      let f : one_to one h.sends.item to ≡ y ∷ [] = ap (λ (o : Out). given_to o to) (sym h.sends.gives) ∙ e in
      let both = one_given one h.sends.item to y f in
      let P : Out → Port → Item → Type 0 = λ o q z. Given widths c o (At w) q z in
      let is = work_is c one h.sends.item h.sends.work in
      let here : P (Send one h.sends.item) one h.sends.item = record {
        goes = refl;
        of_call = is.0;
        is_receiver = h.below;
        fits = record { piece = OfInstance field h.number; on = on_is (Local field) (OfInstance field h.number) (p.site w) is_site refl; at = refl; work = h.sends.work; agrees = h.sends.agrees };
      } in
      subst (λ (o : Out). P o to y) (sym h.sends.gives)
      (subst (λ (q : Port). P (Send one h.sends.item) q y) both.0
      (subst (λ (z : Item). P (Send one h.sends.item) one z) both.1 here))
  given_at_site widths c out w (Global field) is_site h to y e =
      let f : each_to field (widths field) h.item to ≡ y ∷ [] = ap (λ (o : Out). given_to o to) (sym h.gives) ∙ e in
      let each = each_given field (widths field) h.item to y f in
      let visited : List (Option Outcome) = replicate (widths field) None in
      let P : Out → Port → Item → Type 0 = λ o q z. Given widths c o (Visiting w visited) q z in
      let is = visit_is c (widths field) field each.0 h.item h.visit in
      let out_is = Broadcast field (widths field) h.item in
      let one = port.Inst field each.0 in
      let here : P out_is one h.item = record {
        goes = ap (target out_is) is.1;
        of_call = is.0;
        is_receiver = each.2;
        fits = inl (record {
          field = field;
          number = each.0;
          site = is_site;
          at = refl;
          unmade = unmade_yet each.0 (widths field) each.2;
          visit = (let Q : ℕ → Type 0 = λ n. IsVisit c n h.item in subst Q (sym (as_many (widths field))) h.visit);
          agrees = h.agrees;
        });
      } in
      subst (λ (o : Out). P o to y) (sym h.gives)
      (subst (λ (q : Port). P out_is q y) (sym each.1)
      (subst (λ (z : Item). P out_is one z) each.3 here))

  pub given_fits : (widths : ℕ → ℕ) (c : ℕ) (out : Out) (next : Next Waiting) → Answers s p Agrees c widths out next
      → (to : Port) (y : Item) → given_to out to ≡ y ∷ [] → Given widths c out (state_of p widths next) to y
  given_fits widths c out (AtMark w) h to y e = given_at_site widths c out w (p.site w) refl h to y e
  given_fits widths c out (AtEnd outcome) h to y e =
      let x = item.Done c outcome in
      let f : one_to port.Sink x to ≡ y ∷ [] = ap (λ (o : Out). given_to o to) (sym h) ∙ e in
      let both = one_given port.Sink x to y f in
      let P : Out → Port → Item → Type 0 = λ o q z. Given widths c o (Ended outcome) q z in
      let here : P (Result x) port.Sink x = record { goes = refl; of_call = refl; is_receiver = tt; fits = (refl, refl) } in
      subst (λ (o : Out). P o to y) (sym h)
      (subst (λ (q : Port). P (Result x) q y) both.0
      (subst (λ (z : Item). P (Result x) port.Sink z) both.1 here))

  -- each part that the call has is given
  pub record Gives (c : ℕ) (out : Out) (part : Option ℕ) : Type 0 where
    pub it : Item
    pub gives : given_to out (target out part) ≡ it ∷ []
    pub of_call : call_of it ≡ c
    pub of_part : part_of (target out part) it ≡ part

  gives_at_site : (widths : ℕ → ℕ) (c : ℕ) (out : Out) (w : Waiting) (site : Site) → GoesTo s Agrees c widths out w site → (part : Option ℕ) → HasPart (at_mark widths w site) part → Gives c out part
  gives_at_site widths c out w (Keyed field key) h part has =
      let one = port.Slot field (s.slot_of key) in
      let is = work_is c one h.item h.work in
      subst (λ (o : Out). Gives c o part) (sym h.gives) (record { it = h.item; gives = one_gives one h.item; of_call = is.0; of_part = is.1 ∙ sym has })
  gives_at_site widths c out w (Local field) h part has =
      let one = port.Inst field h.number in
      let is = work_is c one h.sends.item h.sends.work in
      subst (λ (o : Out). Gives c o part) (sym h.sends.gives) (record { it = h.sends.item; gives = one_gives one h.sends.item; of_call = is.0; of_part = is.1 ∙ sym has })
  gives_at_site widths c out w (Global field) h part has =
      let below : has.0 < widths field = let P : ℕ → Type 0 = λ n. has.0 < n in subst P (as_many (widths field)) has.2 in
      let is = visit_is c (widths field) field has.0 h.item h.visit in
      subst (λ (o : Out). Gives c o part) (sym h.gives)
      (subst (λ (q : Option ℕ). Gives c (Broadcast field (widths field) h.item) q) (sym has.1)
      (record { it = h.item; gives = each_gives field (widths field) h.item has.0 below; of_call = is.0; of_part = is.1 }))

  gives_parts : (widths : ℕ → ℕ) (c : ℕ) (out : Out) (next : Next Waiting) → Answers s p Agrees c widths out next → (part : Option ℕ) → HasPart (state_of p widths next) part → Gives c out part
  gives_parts widths c out (AtMark w) h part has = gives_at_site widths c out w (p.site w) h part has
  gives_parts widths c out (AtEnd outcome) h part has =
      subst (λ (o : Out). Gives c o part) (sym h) (record { it = item.Done c outcome; gives = one_gives port.Sink (item.Done c outcome); of_call = refl; of_part = sym has })

  -- a broadcast is to one instance at least
  waits_for_one : (widths : ℕ → ℕ) → ((field : ℕ) → 1 ≤ widths field) → (next : Next Waiting) (w : Waiting) (visited : List (Option Outcome)) → state_of p widths next ≡ Visiting w visited → 0 < length visited
  waits_for_one widths some (AtEnd outcome) w visited e = absurd cc
  waits_for_one widths some (AtMark v) w visited e = go (p.site v) e
    where
      go : (site : Site) → at_mark widths v site ≡ Visiting w visited → 0 < length visited
      go (Keyed field key) e = absurd cc
      go (Local field) e = absurd cc
      go (Global field) e =
          let same : replicate {A = Option Outcome} (widths field) None ≡ visited = cc in
          let l = some field in
          let m = as_many (widths field) in
          let P : List (Option Outcome) → Type 0 = λ v. 0 < length v in
          subst P same (omega arith)

  pub cell_sends : (widths : ℕ → ℕ) (own : Port) → IsCell widths own → IsSender widths own
  cell_sends widths port.Caller h = tt
  cell_sends widths port.Sink h = h
  cell_sends widths port.Front h = h
  cell_sends widths port.Join h = h
  cell_sends widths (port.Slot f a) h = h
  cell_sends widths (port.Inst f n) h = h

  -- what is known where a call moves on to a next state
  pub record Move (cells cells' : Port → Progress State) (widths : ℕ → ℕ) (src : Source Waiting Fields) (own from : Port) (x : Item) (next : Next Waiting) (fields : Fields) : Type 0 where
    pub given : slice_get ((cells from).gave own) ((cells own).took from) ≡ Some x
    pub is_cell : IsCell widths own
    pub ran : Ran State
    pub steps : AreStepped own from x ran cells cells'
    pub values : (piece : Piece) → r.held (cells' (port_of s piece)).state piece ≡ r.value fields piece
    pub as_wide : p.width fields ≡ widths
    pub kind : r.is_kind own ran.state ≡ true
    pub whole : r.is_whole fields ≡ true
    pub old : CallState Waiting
    pub was : nth src.calls (call_of x) ≡ Some old
    pub answers : Answers s p Agrees (call_of x) widths ran.out next
    pub gone : (at : Place) (y : Item) → Stayed own from x ran.out cells at y → call_of y ≡ call_of x → ⊥

  -- a call that moves on is neither kept waiting nor left
  pub not_idle : (widths : ℕ → ℕ) (c : ℕ) (out : Out) (next : Next Waiting) → Answers s p Agrees c widths out next → IsIdle out → ⊥
  not_idle widths c out (AtEnd outcome) h idle = subst IsIdle h idle
  not_idle widths c out (AtMark w) h idle = go (p.site w) h
    where
      go : (site : Site) → GoesTo s Agrees c widths out w site → ⊥
      go (Keyed field key) h = subst IsIdle h.gives idle
      go (Local field) h = subst IsIdle h.sends.gives idle
      go (Global field) h = subst IsIdle h.gives idle

  pub move_agrees : (cells cells' : Port → Progress State) (widths : ℕ → ℕ) (src : Source Waiting Fields) (place : ℕ → Option ℕ → Place) (own from : Port) (x : Item) (next : Next Waiting) (fields : Fields)
      → Agreement s p r Agrees cells widths src place → (m : Move cells cells' widths src own from x next fields)
      → Agreement s p r Agrees cells' widths (with_call src (call_of x) (state_of p widths next) fields) (all_moved own m.ran.out cells (call_of x) place)
  move_agrees cells cells' widths src place own from x next fields a m =
      let c = call_of x in
      let out = m.ran.out in
      let place' = all_moved own out cells c place in
      change_agrees s p r Agrees cells cells' widths src (with_call src c (state_of p widths next) fields) place place' own from x a (record {
        given = m.given;
        is_cell = m.is_cell;
        ran = m.ran;
        steps = m.steps;
        values = m.values;
        as_wide = m.as_wide;
        kind = m.kind;
        whole = m.whole;
        state = state_of p widths next;
        is_state = nth_same src.calls c m.old (state_of p widths next) m.was;
        other_states = λ q ne. nth_other src.calls c q (state_of p widths next) ne;
        as_many = with_as_many src.calls c (state_of p widths next);
        other_places = λ q part ne. not_moved own out cells c place q part ne;
        stayed = λ at y st same. absurd (m.gone at y st same);
        came = λ at y new. came_here cells widths place own out c x m.is_cell next m.answers at y new;
        present = λ part has.
            let g = gives_parts widths c out next m.answers part has in
            let stands = given_stands own from x m.ran cells (target out part) g.it a.bounded m.given g.gives in
            let here = from_stepped own from x m.ran cells cells' m.steps (new_place own (target out part) cells) g.it stands in
            let P : Place → Type 0 = λ q. Stands cells' q g.it × (part_of (receiver q) g.it ≡ part) in
            let moved : P (place' c part) = subst P (sym (moved_here own out cells c place part)) (here, g.of_part) in
            record { it = g.it; stands = moved.0; of_call = g.of_call; of_part = moved.1 };
        awaits = λ w visited e. record {
          number = 0;
          below = waits_for_one widths a.some next w visited e;
          ahead = (let P : Place → Type 0 = λ q. IsInChannel q in subst P (sym (moved_here own out cells c place (Some 0))) tt);
        };
      })
    where
      came_here : (cells : Port → Progress State) (widths : ℕ → ℕ) (place : ℕ → Option ℕ → Place) (own : Port) (out : Out) (c : ℕ) (x : Item) → IsCell widths own → (next : Next Waiting) → Answers s p Agrees c widths out next
          → (at : Place) (y : Item) → IsNew own x out cells at y → Came s p r Agrees widths (all_moved own out cells c place) c (state_of p widths next) at y
      came_here cells widths place own out c x is_cell next answers (InChannel sender to index) y new =
          let g = given_fits widths c out next answers to y new.1 in
          let is : InChannel sender to index ≡ new_place own to cells = ap (λ (q : Port). InChannel q to index) new.0 ∙ ap (InChannel own to) new.2 in
          record {
            of_call = g.of_call;
            tagged = tt;
            is_open = ((let P : Port → Type 0 = λ q. IsSender widths q in subst P (sym new.0) (cell_sends widths own is_cell)), g.is_receiver);
            placed = moved_here own out cells c place (part_of to y) ∙ ap (λ (q : Port). new_place own q cells) g.goes ∙ sym is;
            fits = g.fits;
          }
      came_here cells widths place own out c x is_cell next answers (Parked q number) y new = absurd (not_idle widths c out next answers (subst IsIdle (sym new.1) tt))
