-- Entries that become known late, and logs that hold numbers alone.
use Rattle.std.proofs.Common.{◌≡◌, ◌≢◌, ℕ, ◌+◌, Bool, List, [], ◌∷◌, ◌++◌, map, length, Option, Some, ◌⊎◌, inl, inr, slice_get, if◌then◌else◌, refl, ap, sym, ◌∙◌, subst}
use Rattle.std.specs.List.{AllByRecursion}
use Rattle.std.proofs.lemmas.Option.{same_Some}
use Rattle.sdg_base.specs.declared.port.Port.{Port}
use Rattle.sdg_base.specs.declared.item.Item.{Item}
use Rattle.sdg_base.proofs.Ports.{same_port-other}
use Rattle.tagged_agreement.specs.Machine.{given_to, Taken, Progress, progress_after, ran_at}
use Rattle.tagged_agreement.specs.History.{Setup, Happening, Took, Grew, Now, at_start, cell_takes, wider, after, after_all, now_of, IsCell, Follows, Grows, HappensAfter, IsHistoryFrom, IsHistory}
use Rattle.tagged_agreement.specs.Laws.{IsElsewhere, LateEntriesFollow, note, NotesDetermine}
use Rattle.tagged_agreement.proofs.Lists.{still_there}
use Rattle.tagged_agreement.proofs.Channels.{port_cases, entry_steps, stepped, stepped_own}

-- ---- one cell is ahead

-- one cell has given more, and all else is the same
record IsAhead {State : Type 0} (own : Port) (now ahead : Now State) : Type 0 where
  others : (q : Port) → own ≢ q → ahead.cells q ≡ now.cells q
  more : (to : Port) → (rest : List Item) × ((ahead.cells own).gave to ≡ (now.cells own).gave to ++ rest)
  widths : ahead.widths ≡ now.widths
  growths : ahead.growths ≡ now.growths

cell_apart : {State : Type 0} (s : Setup State) (e : Taken) (now : Progress State) (q : Port) → e.cell ≢ q → cell_takes s.machine e q now ≡ now
cell_apart s e now q ne = ap (λ (b : Bool). if b then progress_after s.machine e now else now) (same_port-other e.cell q ne)

still_given : {State : Type 0} (own : Port) (now ahead : Now State) → IsAhead own now ahead → (from to : Port) (i : ℕ) (x : Item) → slice_get ((now.cells from).gave to) i ≡ Some x → slice_get ((ahead.cells from).gave to) i ≡ Some x
still_given own now ahead a from to i x e =
    elim (port_cases own from) [
      | inl same ↦
          let P : Port → Type 0 = λ q. slice_get ((now.cells q).gave to) i ≡ Some x → slice_get ((ahead.cells q).gave to) i ≡ Some x in
          let here : P own = λ h. ap (λ (xs : List Item). slice_get xs i) (a.more to).1 ∙ still_there ((now.cells own).gave to) (a.more to).0 i x h in
          subst P same here e
      | inr other ↦ ap (λ (q : Progress _). slice_get (q.gave to) i) (a.others from (λ same. Rattle.tagged_agreement.proofs.Channels.differ own from other same)) ∙ e
    ]

-- what another cell did follows all the same
follows_still : {State : Type 0} (s : Setup State) (own : Port) (now ahead : Now State) (h : Happening) → IsAhead own now ahead → IsElsewhere own h → HappensAfter s now h → HappensAfter s ahead h
follows_still s own now ahead (Took e) a ne f =
    let same = a.others e.cell (λ is. ne (sym is)) in
    record {
      is_cell = subst (λ (u : ℕ → ℕ). IsCell u e.cell) (sym a.widths) f.is_cell;
      next = f.next ∙ ap (λ (q : Progress _). q.took e.from + 1) (sym same);
      given = ap (λ (q : Progress _). slice_get ((ahead.cells e.from).gave e.cell) (q.took e.from)) same ∙ still_given own now ahead a e.from e.cell ((now.cells e.cell).took e.from) e.item f.given;
      growths = f.growths ∙ sym a.growths;
      widths = f.widths ∙ sym a.widths;
    }
follows_still s own now ahead (Grew number field at) a ne g = record {
  next = g.next ∙ ap (λ (n : ℕ). n + 1) (sym a.growths);
  is_partial = g.is_partial;
  room = subst (λ (u : ℕ → ℕ). Rattle.std.proofs.Common.◌<◌ (u field) Rattle.tagged_agreement.specs.History.most_wide) (sym a.widths) g.room;
}

ahead_still : {State : Type 0} (s : Setup State) (own : Port) (now ahead : Now State) (h : Happening) → IsAhead own now ahead → IsElsewhere own h → IsAhead own (after s h now) (after s h ahead)
ahead_still s own now ahead (Took e) a ne = record {
  others = λ q other. ap (cell_takes s.machine e q) (a.others q other);
  more = λ to.
      let m = a.more to in (
        m.0,
        ap (λ (q : Progress _). q.gave to) (cell_apart s e (ahead.cells own) own ne)
            ∙ m.1
            ∙ ap (λ (q : Progress _). q.gave to ++ m.0) (sym (cell_apart s e (now.cells own) own ne)),
      );
  widths = a.widths;
  growths = a.growths;
}
ahead_still s own now ahead (Grew number field at) a ne = record {
  others = a.others;
  more = a.more;
  widths = ap (λ (u : ℕ → ℕ). let v : ℕ → ℕ = λ f. wider field u f in v) a.widths;
  growths = ap (λ (n : ℕ). n + 1) a.growths;
}

follow_still : {State : Type 0} (s : Setup State) (own : Port) (now ahead : Now State) (late : List Happening) → IsAhead own now ahead → AllByRecursion (IsElsewhere own) late → IsHistoryFrom s now late → IsHistoryFrom s ahead late
follow_still s own now ahead [] a all h = tt
follow_still s own now ahead (first ∷ late) a all h =
    (follows_still s own now ahead first a all.0 h.0, follow_still s own (after s first now) (after s first ahead) late (ahead_still s own now ahead first a all.0) all.1 h.1)

entry_is_ahead : {State : Type 0} (s : Setup State) (now : Now State) (e : Taken) → IsAhead e.cell now (after s (Took e) now)
entry_is_ahead s now e = record {
  others = λ q ne. cell_apart s e (now.cells q) q ne;
  more = λ to. (
    given_to (ran_at s.machine e (now.cells e.cell)).out to,
    ap (λ (q : Progress _). q.gave to)
        (entry_steps s.machine e now.cells e.cell ∙ stepped_own e.cell e.from e.item (ran_at s.machine e (now.cells e.cell)) now.cells e.cell refl),
  );
  widths = refl;
  growths = refl;
}

late_from : {State : Type 0} (s : Setup State) (now : Now State) (early late : List Happening) (e : Taken) → IsHistoryFrom s now (early ++ late) → Follows (after_all s early now) e → AllByRecursion (IsElsewhere e.cell) late
    → IsHistoryFrom s now (early ++ Took e ∷ late)
late_from s now [] late e h f all = (f, follow_still s e.cell now (after s (Took e) now) late (entry_is_ahead s now e) all h)
late_from s now (first ∷ early) late e h f all = (h.0, late_from s (after s first now) early late e h.1 f all)

pub late_entries_follow : (State : Type 0) → LateEntriesFollow State
late_entries_follow State s early late e h f all = late_from s (at_start s) early late e h f all

-- ---- numbers

-- two entries that follow, with the same notes, are one
same_entry : {State : Type 0} (now : Now State) (e f : Taken) → Follows now e → Follows now f → e.cell ≡ f.cell → e.from ≡ f.from → e.pick ≡ f.pick → e.step ≡ f.step → e ≡ f
same_entry now e f h k cell from pick at =
    let took : (now.cells e.cell).took e.from ≡ (now.cells f.cell).took f.from = ap (λ (q : Port). (now.cells q).took e.from) cell ∙ ap (now.cells f.cell).took from in
    let number : e.number ≡ f.number = h.next ∙ ap (λ (n : ℕ). n + 1) took ∙ sym k.next in
    let given : slice_get ((now.cells f.from).gave f.cell) ((now.cells f.cell).took f.from) ≡ Some e.item =
    ap (slice_get ((now.cells f.from).gave f.cell)) (sym took)
    ∙ ap (λ (q : Port). slice_get ((now.cells q).gave f.cell) ((now.cells e.cell).took e.from)) (sym from)
    ∙ ap (λ (q : Port). slice_get ((now.cells e.from).gave q) ((now.cells e.cell).took e.from)) (sym cell)
    ∙ h.given in
    let item : e.item ≡ f.item = same_Some e.item f.item (sym given ∙ k.given) in
    let growths : e.growths ≡ f.growths = h.growths ∙ sym k.growths in
    let widths : e.widths ≡ f.widths = h.widths ∙ sym k.widths in
    λ i. record { cell = cell i; from = from i; number = number i; pick = pick i; growths = growths i; step = at i; widths = widths i; item = item i }

same_happening : {State : Type 0} (s : Setup State) (now : Now State) (h k : Happening) → HappensAfter s now h → HappensAfter s now k → note h ≡ note k → h ≡ k
same_happening s now (Took e) (Took f) h k e_is =
    let cell : e.cell ≡ f.cell = cc in
    let from : e.from ≡ f.from = cc in
    let pick : e.pick ≡ f.pick = cc in
    let at : e.step ≡ f.step = cc in
    ap Took (same_entry now e f h k cell from pick at)
same_happening s now (Grew n f a) (Grew m g b) h k e_is =
    let number : n ≡ m = cc in
    let field : f ≡ g = cc in
    let at : a ≡ b = cc in
    λ i. Grew (number i) (field i) (at i)
same_happening s now (Took e) (Grew m g b) h k e_is = absurd cc
same_happening s now (Grew n f a) (Took e) h k e_is = absurd cc

same_from : {State : Type 0} (s : Setup State) (now : Now State) (hist other : List Happening) → IsHistoryFrom s now hist → IsHistoryFrom s now other → map note hist ≡ map note other → hist ≡ other
same_from s now [] [] h k e = refl
same_from s now [] (x ∷ other) h k e = absurd cc
same_from s now (x ∷ hist) [] h k e = absurd cc
same_from s now (x ∷ hist) (y ∷ other) h k e =
    let first : note x ≡ note y = cc in
    let rest : map note hist ≡ map note other = cc in
    let same = same_happening s now x y h.0 k.0 first in
    let later : IsHistoryFrom s (after s x now) other = subst (λ (z : Happening). IsHistoryFrom s (after s z now) other) (sym same) k.1 in
    ap (λ (z : Happening). z ∷ hist) same ∙ ap (λ (zs : List Happening). y ∷ zs) (same_from s (after s x now) hist other h.1 later rest)

pub notes_determine : (State : Type 0) → NotesDetermine State
notes_determine State s hist other h k e = same_from s (at_start s) hist other h k e
