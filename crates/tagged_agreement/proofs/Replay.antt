-- Cells that are behind their entries, and what the earliest of these finds.
use Rattle.std.proofs.Common.{◌≡◌, ℕ, zero, suc, ◌+◌, ◌≤◌, Bool, true, false, List, [], ◌∷◌, ◌++◌, length, take, Some, slice_get, if◌then◌else◌, refl, ap, sym, ◌∙◌, arith, subst}
use Rattle.std.proofs.lemmas.List.{append-nil}
use Rattle.sdg_base.specs.declared.port.Port.{Port}
use Rattle.sdg_base.specs.declared.item.Item.{Item}
use Rattle.sdg_base.specs.Ports.{same_port}
use Rattle.tagged_agreement.specs.Machine.{given_to, Machine, Taken, Progress, ran_at, progress_after, cell_after}
use Rattle.tagged_agreement.specs.History.{Setup, Happening, Took, Grew, Now, port_at_start, at_start, after, after_all, now_of, HappensAfter, Follows, IsHistoryFrom, entries_of}
use Rattle.tagged_agreement.specs.Laws.{held_at, ItemsAreTaken, ReplayFindsItems}
use Rattle.tagged_agreement.proofs.Lists.{still_there}
use Rattle.tagged_agreement.proofs.Channels.{AreBounded, entry_steps, stepped, bounded_still}
use Rattle.tagged_agreement.proofs.Folds.{fold_of}

-- ---- lists

append_of : {A : Type 0} (xs ys zs : List A) → (xs ++ ys) ++ zs ≡ xs ++ (ys ++ zs)
append_of [] ys zs = refl
append_of (x ∷ xs) ys zs = ap (λ rest. x ∷ rest) (append_of xs ys zs)

-- as many as there are first, and some of what is behind them
take_more : {A : Type 0} (xs ys : List A) (n : ℕ) → length xs ≤ n → (zs : List A) × (take n (xs ++ ys) ≡ xs ++ zs)
take_more [] ys n l = (take n ys, refl)
take_more (x ∷ xs) ys zero l = absurd (omega arith)
take_more (x ∷ xs) ys (suc n) l = let rest = take_more xs ys n (less (length xs) n l) in (rest.0, ap (λ zs. x ∷ zs) rest.1)
  where
    less : (k n : ℕ) → suc k ≤ suc n → k ≤ n
    less k n l = omega arith

take_first : {A : Type 0} (xs ys : List A) → take (length xs) (xs ++ ys) ≡ xs
take_first [] ys = none ys
  where
    none : {A : Type 0} (ys : List A) → take 0 ys ≡ []
    none [] = refl
    none (y ∷ ys) = refl
take_first (x ∷ xs) ys = ap (λ zs. x ∷ zs) (take_first xs ys)

-- ---- entries

entry_first : (b : Bool) (e : Taken) (xs ys : List Taken) → (if b then e ∷ (xs ++ ys) else (xs ++ ys)) ≡ (if b then e ∷ xs else xs) ++ ys
entry_first true e xs ys = refl
entry_first false e xs ys = refl

entries_of-append : (p : Port) (xs ys : List Happening) → entries_of p (xs ++ ys) ≡ entries_of p xs ++ entries_of p ys
entries_of-append p [] ys = refl
entries_of-append p (Took e ∷ xs) ys = ap (λ (es : List Taken). if same_port e.cell p then e ∷ es else es) (entries_of-append p xs ys) ∙ entry_first (same_port e.cell p) e (entries_of p xs) (entries_of p ys)
entries_of-append p (Grew number field at ∷ xs) ys = entries_of-append p xs ys

cell_after-append : {State : Type 0} (m : Machine State) (xs ys : List Taken) (now : Progress State) → cell_after m (xs ++ ys) now ≡ cell_after m ys (cell_after m xs now)
cell_after-append m [] ys now = refl
cell_after-append m (e ∷ xs) ys now = cell_after-append m xs ys (progress_after m e now)

-- what a cell gave it gave for ever
gives_more : {State : Type 0} (m : Machine State) (entries : List Taken) (now : Progress State) (to : Port) → (rest : List Item) × ((cell_after m entries now).gave to ≡ now.gave to ++ rest)
gives_more m [] now to = ([], sym (append-nil (now.gave to)))
gives_more m (e ∷ entries) now to =
    let later = gives_more m entries (progress_after m e now) to in
    let given = given_to (ran_at m e now).out to in
    (given ++ later.0, later.1 ∙ append_of (now.gave to) given later.0)

follows_there : {State : Type 0} (s : Setup State) (now : Now State) (early late : List Happening) (h : Happening) → IsHistoryFrom s now (early ++ h ∷ late) → HappensAfter s (after_all s early now) h
follows_there s now [] late h is = is.0
follows_there s now (first ∷ early) late h is = follows_there s (after s first now) early late h is.1

-- ---- the earliest entry

-- a cell that is as far as the happenings before
as_before : {State : Type 0} (s : Setup State) (early late : List Happening) (position : Port → ℕ) (p : Port) → position p ≡ length (entries_of p early) → held_at s (early ++ late) position p ≡ (now_of s early).cells p
as_before s early late position p is =
    ap (λ (n : ℕ). cell_after s.machine (take n (entries_of p (early ++ late))) (port_at_start s p)) is
    ∙ ap (λ (es : List Taken). cell_after s.machine (take (length (entries_of p early)) es) (port_at_start s p)) (entries_of-append p early late)
    ∙ ap (λ (es : List Taken). cell_after s.machine es (port_at_start s p)) (take_first (entries_of p early) (entries_of p late))
    ∙ sym (fold_of s early (at_start s) p)

-- a cell that is as far at least has given what it gave then
gave_before : {State : Type 0} (s : Setup State) (early late : List Happening) (position : Port → ℕ) (p to : Port) (i : ℕ) (x : Item) → length (entries_of p early) ≤ position p
    → slice_get (((now_of s early).cells p).gave to) i ≡ Some x → slice_get ((held_at s (early ++ late) position p).gave to) i ≡ Some x
gave_before s early late position p to i x far e =
    let taken = take_more (entries_of p early) (entries_of p late) (position p) far in
    let earlier = cell_after s.machine (entries_of p early) (port_at_start s p) in
    let held_is : held_at s (early ++ late) position p ≡ cell_after s.machine taken.0 earlier =
    ap (λ (es : List Taken). cell_after s.machine (take (position p) es) (port_at_start s p)) (entries_of-append p early late)
    ∙ ap (λ (es : List Taken). cell_after s.machine es (port_at_start s p)) taken.1
    ∙ cell_after-append s.machine (entries_of p early) taken.0 (port_at_start s p) in
    let more = gives_more s.machine taken.0 earlier to in
    let there : slice_get (earlier.gave to) i ≡ Some x = ap (λ (q : Progress _). slice_get (q.gave to) i) (sym (fold_of s early (at_start s) p)) ∙ e in
    ap (λ (q : Progress _). slice_get (q.gave to) i) held_is
    ∙ ap (λ (xs : List Item). slice_get xs i) more.1
    ∙ still_there (earlier.gave to) more.0 i x there

pub replay_finds_items : (State : Type 0) → ReplayFindsItems State
replay_finds_items State s early late e position h far here =
    let follows : Follows (now_of s early) e = follows_there s (at_start s) early late (Took e) h in
    let own = as_before s early (Took e ∷ late) position e.cell here in
    let took : (held_at s (early ++ Took e ∷ late) position e.cell).took e.from ≡ ((now_of s early).cells e.cell).took e.from = ap (λ (q : Progress State). q.took e.from) own in (
      follows.next ∙ ap (λ (n : ℕ). n + 1) (sym took),
      ap (slice_get ((held_at s (early ++ Took e ∷ late) position e.from).gave e.cell)) took
          ∙ gave_before s early (Took e ∷ late) position e.from e.cell (((now_of s early).cells e.cell).took e.from) e.item (far e.from) follows.given,
    )

-- ---- what can be taken

stays_given : {State : Type 0} (s : Setup State) (hist late : List Happening) (from to : Port) (index : ℕ) (x : Item) → slice_get (((now_of s hist).cells from).gave to) index ≡ Some x
    → slice_get (((now_of s (hist ++ late)).cells from).gave to) index ≡ Some x
stays_given s hist late from to index x e =
    let own = entries_of from hist in
    let before = cell_after s.machine own (port_at_start s from) in
    let now_is : (now_of s (hist ++ late)).cells from ≡ cell_after s.machine (entries_of from late) before =
    fold_of s (hist ++ late) (at_start s) from
    ∙ ap (λ (es : List Taken). cell_after s.machine es (port_at_start s from)) (entries_of-append from hist late)
    ∙ cell_after-append s.machine own (entries_of from late) (port_at_start s from) in
    let more = gives_more s.machine (entries_of from late) before to in
    ap (λ (q : Progress _). slice_get (q.gave to) index) now_is
    ∙ ap (λ (xs : List Item). slice_get xs index) more.1
    ∙ still_there (before.gave to) more.0 index x (ap (λ (q : Progress _). slice_get (q.gave to) index) (sym (fold_of s hist (at_start s) from)) ∙ e)

-- ---- what was taken was given

bounded_after : {State : Type 0} (s : Setup State) (now : Now State) (h : Happening) → AreBounded now.cells → HappensAfter s now h → AreBounded (after s h now).cells
bounded_after s now (Took e) bounded follows from to =
    let steps = entry_steps s.machine e now.cells in
    let ran = ran_at s.machine e (now.cells e.cell) in
    let after_entry = (after s (Took e) now).cells in
    let P : Progress _ → Type 0 = λ q. q.took from ≤ length ((after_entry from).gave to) in
    let Q : Progress _ → Type 0 = λ q. (stepped e.cell e.from e.item ran now.cells to).took from ≤ length (q.gave to) in
    subst P (sym (steps to)) (subst Q (sym (steps from)) (bounded_still e.cell e.from e.item ran now.cells follows.given bounded from to))
bounded_after s now (Grew number field at) bounded grown from to = bounded from to

bounded_along : {State : Type 0} (s : Setup State) (now : Now State) (hist : List Happening) → AreBounded now.cells → IsHistoryFrom s now hist → AreBounded (after_all s hist now).cells
bounded_along s now [] bounded h from to = bounded from to
bounded_along s now (first ∷ hist) bounded h from to = bounded_along s (after s first now) hist (bounded_after s now first bounded h.0) h.1 from to

at_first : {State : Type 0} (s : Setup State) → AreBounded (at_start s).cells
at_first s from to = none (length (((at_start s).cells from).gave to))
  where
    none : (n : ℕ) → 0 ≤ n
    none n = omega arith

pub items_are_taken : (State : Type 0) → ItemsAreTaken State
items_are_taken State = record {
  takes = λ now cell from pick at x is_cell given. record { is_cell = is_cell; next = refl; given = given; growths = refl; widths = refl };
  stays = stays_given;
  bounded = λ s hist h from to. bounded_along s (at_start s) hist (at_first s) h from to;
}
