-- Along a history the source is stepped by what is shown, and agrees with the cells.
use Rattle.std.proofs.Common.{◌≡◌, ℕ, zero, suc, ◌+◌, ◌<◌, ◌≤◌, ◌==◌, ◌&&◌, nat_lt, Bool, true, false, List, [], ◌∷◌, ◌++◌, map, length, Option, Some, None, slice_get, if◌then◌else◌, refl, ap, sym, ◌∙◌, subst, arith, ◌*◌}
use Rattle.sdg_base.specs.declared.val.Outcome.{Outcome}
use Rattle.sdg_base.specs.declared.call.Call.{Call}
use Rattle.sdg_base.specs.declared.call.Step.{Step}
use Rattle.sdg_base.specs.declared.call.Step.TheVariants as step
use Rattle.sdg_base.specs.declared.port.Port.{Port}
use Rattle.sdg_base.specs.declared.port.Port.TheVariants as port
use Rattle.sdg_base.specs.declared.item.Item.{Item}
use Rattle.sdg_base.specs.declared.item.Item.TheVariants as item
use Rattle.tagged_agreement.specs.Machine.{Taken, parts_for, ran_at}
use Rattle.tagged_agreement.specs.History.{Setup, Happening, Took, Grew, Now, starts_from, given_at_start, port_at_start, at_start, wider, after, after_all, IsCell, Follows, most_wide, HappensAfter, IsHistoryFrom, IsHistory, shown, steps_from, now_of}
use Rattle.tagged_agreement.specs.Source.{CallState, Fresh, Visiting, Program, Source, start, nth, step_from, steps_after}
use Rattle.tagged_agreement.specs.Simulation.{Reading, Simulates}
use Rattle.tagged_agreement.proofs.Channels.{Place, InChannel, Parked, Stands, entry_steps}
use Rattle.tagged_agreement.proofs.Invariant.{IsSender, IsReceiver, IsOpen, HasPart, Present, Awaits, InPlace, Agreement}
use Rattle.tagged_agreement.proofs.Moves.{is_below}
use Rattle.std.proofs.lemmas.Bool.{eqb-true}
use Rattle.tagged_agreement.specs.Laws.{Falls, entries_in}
use Rattle.tagged_agreement.proofs.Weights.{weight_in, total}
use Rattle.tagged_agreement.proofs.Advances.{remaining, Advanced, advance}

-- ---- lists of steps

pub steps_after-append : {Waiting Fields : Type 0} (p : Program Waiting Fields) (calls : List Call) (o : Option (Source Waiting Fields)) (xs ys : List Step) → steps_after p calls o (xs ++ ys) ≡ steps_after p calls (steps_after p calls o xs) ys
steps_after-append p calls o [] ys = refl
steps_after-append p calls o (x ∷ xs) ys = steps_after-append p calls (step_from p calls o x) xs ys

-- ---- widths that grow

grows_by : (b : Bool) (n : ℕ) → n ≤ (if b then n + 1 else n)
grows_by true n = omega arith
grows_by false n = omega arith

not_narrower : (field : ℕ) (widths : ℕ → ℕ) (f : ℕ) → widths f ≤ wider field widths f
not_narrower field widths f = grows_by (f == field) (widths f)

still_cell : (field : ℕ) (widths : ℕ → ℕ) (q : Port) → IsCell widths q → IsCell (wider field widths) q
still_cell field widths port.Caller h = h
still_cell field widths port.Sink h = h
still_cell field widths port.Front h = h
still_cell field widths port.Join h = h
still_cell field widths (port.Slot f a) h = h
still_cell field widths (port.Inst f n) h = let l = not_narrower field widths f in below n (widths f) (wider field widths f) h l
  where
    below : (n a b : ℕ) → n < a → a ≤ b → n < b
    below n a b l m = omega arith

still_sender : (field : ℕ) (widths : ℕ → ℕ) (q : Port) → IsSender widths q → IsSender (wider field widths) q
still_sender field widths port.Caller h = h
still_sender field widths port.Sink h = h
still_sender field widths port.Front h = h
still_sender field widths port.Join h = h
still_sender field widths (port.Slot f a) h = h
still_sender field widths (port.Inst f n) h = still_cell field widths (port.Inst f n) h

still_receiver : (field : ℕ) (widths : ℕ → ℕ) (q : Port) → IsReceiver widths q → IsReceiver (wider field widths) q
still_receiver field widths port.Caller h = h
still_receiver field widths port.Sink h = h
still_receiver field widths port.Front h = h
still_receiver field widths port.Join h = h
still_receiver field widths (port.Slot f a) h = h
still_receiver field widths (port.Inst f n) h = still_cell field widths (port.Inst f n) h

still_open : (field : ℕ) (widths : ℕ → ℕ) (at : Place) → IsOpen widths at → IsOpen (wider field widths) at
still_open field widths (InChannel from to index) h = (still_sender field widths from h.0, still_receiver field widths to h.1)
still_open field widths (Parked c number) h = tt

-- no field grows beyond its most
wide_after : {State : Type 0} (s : Setup State) (now : Now State) (h : Happening) → HappensAfter s now h → ((field : ℕ) → now.widths field ≤ most_wide) → (field : ℕ) → (after s h now).widths field ≤ most_wide
wide_after s now (Took e) follows wide field = wide field
wide_after s now (Grew number grown at) g wide field = go (field == grown) refl
  where
    go : (b : Bool) → (field == grown) ≡ b → (if b then now.widths field + 1 else now.widths field) ≤ most_wide
    go true e =
        let same = eqb-true field grown e in
        let room : now.widths field < most_wide = subst (λ (f : ℕ). now.widths f < most_wide) (sym same) g.room in
        omega arith
    go false e = wide field

-- ---- the start

abbrev before : ℕ → ℕ
before zero = zero
before (suc n) = n

-- each call stands in the channel from the caller
abbrev pub first_place : ℕ → Option ℕ → Place
first_place c part = InChannel port.Caller port.Front (before c)

plus_zero : (n : ℕ) → n ≡ n + 0
plus_zero n = omega arith

over : (n i : ℕ) → n + 1 + i ≡ n + suc i
over n i = omega arith

one_more : (i : ℕ) → 1 + i ≡ suc i
one_more i = omega arith

none_below : (n : ℕ) → 0 ≤ n
none_below n = omega arith

starts_at : (calls : List Call) (n i : ℕ) (call : Call) → slice_get calls i ≡ Some call → slice_get (starts_from n calls) i ≡ Some (item.Start (n + i) call.method call.args)
starts_at [] n i call e = absurd cc
starts_at (x ∷ calls) n zero call e =
    let same : x ≡ call = cc in
    ap (λ (c : Call). Some (item.Start n c.method c.args)) same ∙ ap (λ (m : ℕ). Some (item.Start m call.method call.args)) (plus_zero n)
starts_at (x ∷ calls) n (suc i) call e = starts_at calls (n + 1) i call e ∙ ap (λ (m : ℕ). Some (item.Start m call.method call.args)) (over n i)

found : (n : ℕ) (call : Call) (x : Item) → ◌≡◌ {A = Option Item} (Some (item.Start n call.method call.args)) (Some x) → x ≡ item.Start (n + 0) call.method call.args
found n call x e = let same : x ≡ item.Start n call.method call.args = cc in same ∙ ap (λ (m : ℕ). item.Start m call.method call.args) (plus_zero n)

starts_are : (calls : List Call) (n i : ℕ) (x : Item) → slice_get (starts_from n calls) i ≡ Some x → (call : Call) × (slice_get calls i ≡ Some call) × (x ≡ item.Start (n + i) call.method call.args)
starts_are [] n i x e = absurd cc
starts_are (call ∷ calls) n zero x e = (call, refl, found n call x e)
starts_are (call ∷ calls) n (suc i) x e =
    let r = starts_are calls (n + 1) i x e in
    (r.0, r.1, r.2 ∙ ap (λ (m : ℕ). item.Start m r.0.method r.0.args) (over n i))

fresh_at : {Waiting : Type 0} (calls : List Call) (i : ℕ) (call : Call) → slice_get calls i ≡ Some call → slice_get (map {B = CallState Waiting} (λ _. Fresh) calls) i ≡ Some Fresh
fresh_at [] i call e = absurd cc
fresh_at (x ∷ calls) zero call e = refl
fresh_at (x ∷ calls) (suc i) call e = fresh_at calls i call e

all_fresh : {Waiting : Type 0} (calls : List Call) (i : ℕ) (state : CallState Waiting) → slice_get (map {B = CallState Waiting} (λ _. Fresh) calls) i ≡ Some state → (state ≡ Fresh) × ((call : Call) × (slice_get calls i ≡ Some call))
all_fresh [] i state e = absurd cc
all_fresh (x ∷ calls) zero state e = (cc, (x, refl))
all_fresh (x ∷ calls) (suc i) state e = all_fresh calls i state e

length-map_of : {A B : Type 0} (f : A → B) (xs : List A) → length (map f xs) ≡ length xs
length-map_of f [] = refl
length-map_of f (x ∷ xs) = ap suc (length-map_of f xs)

at_most_each : (f : ℕ → ℕ) (k n : ℕ) → ((c : ℕ) → f c ≤ k) → total f n ≤ n * k
at_most_each f k zero each = omega arith
at_most_each f k (suc n) each = let h = at_most_each f k n each in let g = each (suc n) in more (f (suc n)) (total f n) n k g h
  where
    more : (a b n k : ℕ) → a ≤ k → b ≤ n * k → a + b ≤ suc n * k
    more a b n k g h = omega arith

module _ {State Waiting Fields Contents : Type 0} (s : Setup State) (p : Program Waiting Fields) (r : Reading State Fields Contents) (Agrees : Item → Waiting → Type 0) where
  items_at_start : (from to : Port) (i : ℕ) (x : Item) → slice_get (given_at_start s.calls from to) i ≡ Some x
      → InPlace s p r Agrees (λ _. s.width) (start p s.calls) first_place (InChannel from to i) x
  items_at_start port.Caller port.Front i x e =
      let found = starts_are s.calls 1 i x e in
      let call = found.0 in
      let is : x ≡ item.Start (suc i) call.method call.args = found.2 ∙ ap (λ (m : ℕ). item.Start m call.method call.args) (one_more i) in
      let P : Item → Type 0 = λ y. InPlace s p r Agrees (λ _. s.width) (start p s.calls) first_place (InChannel port.Caller port.Front i) y in
      subst P (sym is) (record {
        placed = refl;
        tagged = tt;
        is_open = (tt, tt);
        state = Fresh;
        is_state = fresh_at s.calls i call found.1;
        fits = (refl, (call, found.1, refl));
      })
  items_at_start port.Caller port.Caller i x e = absurd cc
  items_at_start port.Caller port.Sink i x e = absurd cc
  items_at_start port.Caller port.Join i x e = absurd cc
  items_at_start port.Caller (port.Slot f a) i x e = absurd cc
  items_at_start port.Caller (port.Inst f n) i x e = absurd cc
  items_at_start port.Sink to i x e = absurd cc
  items_at_start port.Front to i x e = absurd cc
  items_at_start port.Join to i x e = absurd cc
  items_at_start (port.Slot f a) to i x e = absurd cc
  items_at_start (port.Inst f n) to i x e = absurd cc

  in_place_at_start : (at : Place) (x : Item) → Stands (λ q. port_at_start s q) at x → InPlace s p r Agrees (λ _. s.width) (start p s.calls) first_place at x
  in_place_at_start (InChannel from to i) x h = items_at_start from to i x h.1
  in_place_at_start (Parked c number) x h = absurd cc

  present_at_start : (c : ℕ) (state : CallState Waiting) (part : Option ℕ) → nth (start p s.calls).calls c ≡ Some state → HasPart state part → Present (λ q. port_at_start s q) first_place c part
  present_at_start zero state part e has = absurd cc
  present_at_start (suc i) state part e has =
      let f = all_fresh s.calls i state e in
      let none : part ≡ None = let P : CallState Waiting → Type 0 = λ st. HasPart st part in subst P f.0 has in
      record {
        it = item.Start (1 + i) f.1.0.method f.1.0.args;
        stands = (none_below i, starts_at s.calls 1 i f.1.0 f.1.1);
        of_call = one_more i;
        of_part = sym none;
      }

  no_visits_at_start : (c : ℕ) (w : Waiting) (visited : List (Option Outcome)) → nth (start p s.calls).calls c ≡ Some (Visiting w visited) → Awaits first_place c visited
  no_visits_at_start zero w visited e = absurd cc
  no_visits_at_start (suc i) w visited e = absurd (let f = (all_fresh s.calls i (Visiting w visited) e).0 in cc)

  same_widths : (f g : ℕ → ℕ) → ((n : ℕ) → f n ≡ g n) → f ≡ g
  same_widths f g e = λ i n. e n i

  pub start_agrees : Simulates s p r Agrees → Agreement s p r Agrees (at_start s).cells (at_start s).widths (start p s.calls) first_place
  start_agrees sim = record {
    values = sim.starts;
    as_wide = same_widths (p.width p.first) (λ _. s.width) sim.as_wide;
    some = λ field. sim.some_instance;
    kinds = sim.first_kinds;
    whole = sim.first_whole;
    sink = λ from. refl;
    bounded = λ from to. none_below (length (given_at_start s.calls from to));
    as_many = length-map_of (λ _. Fresh) s.calls;
    items = in_place_at_start;
    present = present_at_start;
    awaits = no_visits_at_start;
  }

  -- ---- one happening

  took_advances : (now : Now State) (src : Source Waiting Fields) (place : ℕ → Option ℕ → Place) (e : Taken) → Simulates s p r Agrees → Agreement s p r Agrees now.cells now.widths src place → Follows now e
      → Advanced s p r Agrees now.cells (after s (Took e) now).cells now.widths now.widths src (shown s now (Took e)) 1
  took_advances now src place e sim a follows =
      advance s p r Agrees now.cells (after s (Took e) now).cells now.widths src place e.cell e.from e.item sim a (record {
        given = follows.given;
        is_cell = follows.is_cell;
        ran = ran_at s.machine e (now.cells e.cell);
        steps = entry_steps s.machine e now.cells;
        pick = e.pick;
        runs_so = ap (s.machine.runs e.cell e.item (parts_for e.item (now.cells e.cell).gathered) (now.cells e.cell).state e.pick) follows.widths;
      })

  growth_agrees : (now : Now State) (src : Source Waiting Fields) (place : ℕ → Option ℕ → Place) (field : ℕ) → Simulates s p r Agrees → Agreement s p r Agrees now.cells now.widths src place
      → Agreement s p r Agrees now.cells (λ f. wider field now.widths f) (record { fields = p.grown field src.fields; calls = src.calls }) place
  growth_agrees now src place field sim a = record {
    values = λ piece. a.values piece ∙ sym (sim.grows field src.fields piece a.whole);
    as_wide =
        same_widths (p.width (p.grown field src.fields)) (wider field (p.width src.fields)) (λ f. sim.widens field src.fields f a.whole)
        ∙ ap (λ (u : ℕ → ℕ). let v : ℕ → ℕ = λ f. wider field u f in v) a.as_wide;
    some = λ f. reach (now.widths f) (wider field now.widths f) (a.some f) (not_narrower field now.widths f);
    kinds = a.kinds;
    whole = sim.whole_still field src.fields a.whole;
    sink = a.sink;
    bounded = a.bounded;
    as_many = a.as_many;
    items = λ at x h.
        let it = a.items at x h in
        record { placed = it.placed; tagged = it.tagged; is_open = still_open field now.widths at it.is_open; state = it.state; is_state = it.is_state; fits = it.fits };
    present = a.present;
    awaits = a.awaits;
  }
    where
      reach : (n m : ℕ) → 1 ≤ n → n ≤ m → 1 ≤ m
      reach n m l k = omega arith

  growth_legal : (now : Now State) (src : Source Waiting Fields) (field : ℕ) → Simulates s p r Agrees → p.width src.fields ≡ now.widths → s.is_partial field ≡ true → now.widths field < most_wide
      → steps_after p s.calls (Some src) (step.Grow field ∷ []) ≡ Some (record { fields = p.grown field src.fields; calls = src.calls })
  growth_legal now src field sim as_wide is_partial room =
      ap (λ (b : Bool). if b then Some (record { fields = p.grown field src.fields; calls = src.calls }) else None) both
    where
      both : (p.is_partial field && nat_lt (p.width src.fields field) most_wide) ≡ true
      both =
          ap (λ (b : Bool). b && nat_lt (p.width src.fields field) most_wide) (sim.same_partial field ∙ is_partial)
          ∙ ap (λ (u : ℕ → ℕ). true && nat_lt (u field) most_wide) as_wide
          ∙ ap (λ (b : Bool). true && b) (is_below (now.widths field) most_wide room)

  pub happening_advances : (now : Now State) (src : Source Waiting Fields) (place : ℕ → Option ℕ → Place) (h : Happening) → Simulates s p r Agrees → Agreement s p r Agrees now.cells now.widths src place → HappensAfter s now h
      → Advanced s p r Agrees now.cells (after s h now).cells now.widths (after s h now).widths src (shown s now h) (entries_in (h ∷ []))
  happening_advances now src place (Took e) sim a follows = took_advances now src place e sim a follows
  happening_advances now src place (Grew number field at) sim a g = record {
    next = record { fields = p.grown field src.fields; calls = src.calls };
    place = place;
    agreement = growth_agrees now src place field sim a;
    legal = growth_legal now src field sim a.as_wide g.is_partial g.room;
    less = λ left most falls wide. no_more (remaining s p r Agrees left most now.cells src);
  }
    where
      no_more : (n : ℕ) → n + 0 ≤ n
      no_more n = omega arith

  -- ---- a whole history

  pub record Agreed (now : Now State) (src : Source Waiting Fields) (hist : List Happening) : Type 0 where
    pub next : Source Waiting Fields
    pub place : ℕ → Option ℕ → Place
    pub agreement : Agreement s p r Agrees (after_all s hist now).cells (after_all s hist now).widths next place
    pub legal : steps_after p s.calls (Some src) (steps_from s now hist) ≡ Some next
    pub less : (left : Waiting → ℕ) (most : ℕ) → Falls p left most → ((field : ℕ) → now.widths field ≤ most_wide)
        → remaining s p r Agrees left most (after_all s hist now).cells next + entries_in hist ≤ remaining s p r Agrees left most now.cells src

  pub history_agrees : (now : Now State) (src : Source Waiting Fields) (place : ℕ → Option ℕ → Place) (hist : List Happening) → Simulates s p r Agrees → Agreement s p r Agrees now.cells now.widths src place → IsHistoryFrom s now hist
      → Agreed now src hist
  history_agrees now src place [] sim a h = record {
    next = src;
    place = place;
    agreement = a;
    legal = refl;
    less = λ left most falls wide. no_more (remaining s p r Agrees left most now.cells src);
  }
    where
      no_more : (n : ℕ) → n + 0 ≤ n
      no_more n = omega arith
  history_agrees now src place (first ∷ hist) sim a h =
      let v = happening_advances now src place first sim a h.0 in
      let rest = history_agrees (after s first now) v.next v.place hist sim v.agreement h.1 in
      record {
        next = rest.next;
        place = rest.place;
        agreement = rest.agreement;
        legal =
            steps_after-append p s.calls (Some src) (shown s now first) (steps_from s (after s first now) hist)
            ∙ ap (λ (o : Option (Source Waiting Fields)). steps_after p s.calls o (steps_from s (after s first now) hist)) v.legal
            ∙ rest.legal;
        less = λ left most falls wide.
            both (remaining s p r Agrees left most (after_all s hist (after s first now)).cells rest.next) (remaining s p r Agrees left most (after s first now).cells v.next) (remaining s p r Agrees left most now.cells src)
            (entries_in (first ∷ hist)) (entries_in hist) (entries_in (first ∷ [])) (one_more first hist)
            (rest.less left most falls (wide_after s now first h.0 wide)) (v.less left most falls wide);
      }
    where
      both : (a b c n m k : ℕ) → n ≡ m + k → a + m ≤ b → b + k ≤ c → a + n ≤ c
      both a b c n m k e l h = omega arith

      one_more : (first : Happening) (hist : List Happening) → entries_in (first ∷ hist) ≡ entries_in hist + entries_in (first ∷ [])
      one_more (Took e) hist = refl
      one_more (Grew number field at) hist = plus_zero (entries_in hist)

  -- Every history is legal for the source, which agrees with the cells at its end.
  pub histories_agree : (hist : List Happening) → Simulates s p r Agrees → IsHistory s hist → Agreed (at_start s) (start p s.calls) hist
  histories_agree hist sim h = history_agrees (at_start s) (start p s.calls) first_place hist sim (start_agrees sim) h

  -- ---- how long a history can be

  first_weight : (left : Waiting → ℕ) (most c : ℕ) → weight_in left most (((at_start s).cells port.Join).gathered c) (nth (start p s.calls).calls c) ≤ 1 + 2 * most_wide * most
  first_weight left most c = go c (nth (start p s.calls).calls c) refl
    where
      itself : (n : ℕ) → n ≤ n
      itself n = omega arith

      go : (c : ℕ) (o : Option (CallState Waiting)) → nth (start p s.calls).calls c ≡ o → weight_in left most (((at_start s).cells port.Join).gathered c) o ≤ 1 + 2 * most_wide * most
      go c None e = omega arith
      go zero (Some state) e = absurd cc
      go (suc i) (Some state) e =
          let fresh = (all_fresh s.calls i state e).0 in
          subst (λ (q : CallState Waiting). weight_in left most (((at_start s).cells port.Join).gathered (suc i)) (Some q) ≤ 1 + 2 * most_wide * most) (sym fresh) (itself (1 + 2 * most_wide * most))

  pub histories_are_short : (left : Waiting → ℕ) (most : ℕ) (hist : List Happening) → Simulates s p r Agrees → Falls p left most → s.width ≤ most_wide → IsHistory s hist → entries_in hist ≤ length s.calls * (1 + 2 * most_wide * most)
  histories_are_short left most hist sim falls wide h =
      let g = histories_agree hist sim h in
      let less = g.less left most falls (λ field. wide) in
      let first = at_most_each (λ c. weight_in left most (((at_start s).cells port.Join).gathered c) (nth (start p s.calls).calls c)) (1 + 2 * most_wide * most) (length s.calls) (first_weight left most) in
      reach (remaining s p r Agrees left most (now_of s hist).cells g.next) (entries_in hist) (remaining s p r Agrees left most (at_start s).cells (start p s.calls)) (length s.calls * (1 + 2 * most_wide * most)) less first
    where
      reach : (a n b c : ℕ) → a + n ≤ b → b ≤ c → n ≤ c
      reach a n b c l m = omega arith
