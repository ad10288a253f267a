-- What a cell shows before its first item, after it took one, and where it keeps fewer.
use Rattle.std.proofs.Common.{◌≡◌, ℕ, ◌+◌, ◌-◌, Bool, cond, List, [], ◌++◌, drop, Option, Some, None, refl, sym, ap, subst, ◌∙◌, inl, inr}
use Rattle.std.specs.Prelude.{IsTrue, IsSome, slice_get}
use Rattle.std.proofs.lemmas.Bool.{cases_Bool, eq-eqb, ne_eqb}
use Rattle.sdg_base.specs.declared.port.Port.{Port}
use Rattle.sdg_base.specs.declared.port.Port.TheVariants as port
use Rattle.sdg_base.specs.declared.item.Item.{Item}
use Rattle.sdg_base.specs.declared.store.ClassName.{ClassName}
use Rattle.sdg_base.specs.declared.store.ClassName.TheVariants as class_name
use Rattle.sdg_base.specs.Ports.{same_port}
use Rattle.sdg_base.proofs.Ports.{same_port-true, same_port-false}
use Rattle.state_classes.specs.States.{State, class_of, empty_state}
use Rattle.channels.specs.declared.mark.Mark.{Mark}
use Rattle.channels.specs.declared.sending.Sending.{Sending}
use Rattle.channels.specs.Marks.{mark_of}
use Rattle.channels.specs.Outboxes.{outbox_of, SameButAt}
use Rattle.channels.specs.Sent.{trimmed}
use Rattle.flat_code.specs.declared.graph.Graph.{Graph}
use Rattle.flat_code.specs.declared.graph.GraphField.{GraphField}
use Rattle.flat_code.specs.Fits.{fits}
use Rattle.tagged_agreement.specs.Machine.{Out, Ran, Machine, Taken, Progress, given_to, parts_for, progress_with, progress_after, first_progress, ran_at}
use Rattle.graph_cells.specs.declared.cell.Cell.{Cell}
use Rattle.graph_cells.specs.Held.{held, first_held, empty_of, IsObjectOf, IsHeldAt}
use Rattle.graph_cells.specs.Gathered.{Waiting, parts_of, others_of, found_by, parts_after, IsGathered}
use Rattle.graph_cells.specs.Processing.{processed, widths_for, cells_of, delivered, ran_so}
use Rattle.graph_cells.specs.Sending.{IsSent}
use Rattle.graph_cells.specs.Shows.{Shows, Took, IsRaised, IsEntry}
use Rattle.graph_cells.specs.Sound.{HasFieldOf}
use Rattle.graph_cells.proofs.Buffers.{Holds, Holds-gains, holds_after_trim}
use Rattle.graph_cells.proofs.Calls.{none_waiting}
use Rattle.graph_cells.proofs.Gathering.{HasPlace, place_after, listed_after, kept_after}
use Rattle.graph_cells.proofs.Listed.{listed_none}
use Rattle.graph_cells.proofs.Processed.{part_fits, found_is}

-- ---- at the start

pub shows_first : (graph : Graph) (slots : ℕ) (at : Port) (cell : Cell) → held cell.state ≡ first_held graph at → cell.gather ≡ [] → cell.marks ≡ [] → cell.outboxes ≡ [] → cell.position ≡ 0 → Shows cell (first_progress (cells_of graph slots) at)
shows_first graph slots at cell state gather marks outboxes position = record {
  state = state;
  took = λ from. ap (λ (ms : List Mark). mark_of ms from) marks;
  sent = λ to. ap (λ (ss : List Sending). (outbox_of ss to).last) outboxes;
  kept = λ to. subst (λ (ss : List Sending). (outbox_of ss to).kept ≡ drop (trimmed (outbox_of ss to)) []) (sym outboxes) refl;
  gathered = λ call. ap (λ (w : Waiting). parts_of w call) gather ∙ none_waiting call ∙ sym (listed_none (λ _. None) 0 64 (λ i. refl));
  waiting = λ call instance part e. cc;
  position = position;
}

empty_class : (class : ClassName) → class_of (empty_state class) ≡ class
empty_class class_name.Table = refl
empty_class class_name.Matrix = refl
empty_class class_name.Counter = refl

empty_object : (o : Option GraphField) → IsSome o → IsObjectOf o (empty_of o)
empty_object None is = cc
empty_object (Some field) is = empty_class field.class

pub first_right : (graph : Graph) (at : Port) → HasFieldOf graph at → IsHeldAt graph at (first_held graph at)
first_right graph (port.Slot f n) is = empty_object (slice_get graph.fields f) is
first_right graph (port.Inst f n) is = empty_object (slice_get graph.fields f) is
first_right graph port.Caller is = refl
first_right graph port.Sink is = refl
first_right graph port.Front is = refl
first_right graph port.Join is = refl

-- ---- an item

pub took_so : (from : Port) (x : Item) (ran : Ran (Option State)) (out : Out) (old new : Cell) → ran ≡ ran_so out (held new.state) → IsSent out old.outboxes new.outboxes → IsGathered x out old.gather new.gather → IsRaised from old.marks new.marks → new.position ≡ old.position + 1
    → Took from x ran old new
took_so from x ran out old new e sends gathers marks position =
    subst (λ (r : Ran (Option State)). Took from x r old new) (sym e) (record { state = refl; sends = sends; gathers = gathers; marks = marks; position = position })

took_at : (from : Port) (old new : List Mark) → IsRaised from old new → (took : Port → ℕ) → ((q : Port) → mark_of old q ≡ took q) → (q : Port) → mark_of new q ≡ cond (same_port q from) (took q + 1) (took q)
took_at from old new raised took before q =
    elim (cases_Bool (same_port q from)) [
      | inl e ↦
          subst (λ (p : Port). mark_of new p ≡ mark_of old p + 1) (sym (same_port-true q from e)) raised.here
          ∙ ap (λ (n : ℕ). n + 1) (before q)
          ∙ ap (λ (b : Bool). cond b (took q + 1) (took q)) (sym e)
      | inr e ↦
          raised.others q (same_port-false q from e) ∙ before q ∙ ap (λ (b : Bool). cond b (took q + 1) (took q)) (sym e)
    ]

shows_with : (from : Port) (x : Item) (ran : Ran (Option State)) (old new : Cell) (now : Progress (Option State)) → Took from x ran old new → HasPlace x ran.out now.gathered → Shows old now → Shows new (progress_with from x ran now)
shows_with from x ran old new now took place shows =
    let holds : (q : Port) → Holds (outbox_of new.outboxes q) (now.gave q ++ given_to ran.out q) =
    λ q. Holds-gains (given_to ran.out q) (outbox_of old.outboxes q) (outbox_of new.outboxes q) (now.gave q) (took.sends q) (record { sent = shows.sent q; kept = shows.kept q }) in
    record {
      state = took.state;
      took = took_at from old.marks new.marks took.marks now.took shows.took;
      sent = λ q. (holds q).sent;
      kept = λ q. (holds q).kept;
      gathered = λ c. took.gathers c ∙ ap (λ (ps : List Item). parts_after x ran.out c ps) (shows.gathered c) ∙ sym (listed_after x ran.out now.gathered c place shows.waiting);
      waiting = kept_after x ran.out now.gathered place shows.waiting;
      position = took.position ∙ ap (λ (n : ℕ). n + 1) shows.position;
    }

-- the entry's item gives the same at the machine's cell
ran_same : (graph : Graph) (slots : ℕ) (own from : Port) (x : Item) (pick : ℕ) (widths : List ℕ) (old : Cell) (now : Progress (Option State)) (e : Taken)
    → IsTrue (fits graph widths own x) → IsEntry graph slots own from x pick widths e → Shows old now
    → processed graph own x (found_by x old.gather) (held old.state) pick widths ≡ ran_at (cells_of graph slots) e now
ran_same graph slots own from x pick widths old now e fits entry shows =
    ap (λ (others : List Item). processed graph own x others (held old.state) pick widths) (found_is graph x old.gather now.gathered (part_fits graph widths own x fits) shows.gathered)
    ∙ ap (λ (state : Option State). processed graph own x (others_of x (parts_for x now.gathered)) state pick widths) shows.state
    ∙ ap (λ (n : ℕ). processed graph own x (others_of x (parts_for x now.gathered)) now.state n widths) (sym entry.pick)
    ∙ ap (λ (ws : List ℕ). processed graph own x (others_of x (parts_for x now.gathered)) now.state e.pick ws) (sym entry.widths)
    ∙ ap (λ (y : Item). processed graph own y (others_of y (parts_for y now.gathered)) now.state e.pick (widths_for graph slots e.widths)) (sym entry.item)
    ∙ ap (λ (q : Port). processed graph q e.item (others_of e.item (parts_for e.item now.gathered)) now.state e.pick (widths_for graph slots e.widths)) (sym entry.cell)

pub shows_after : (graph : Graph) (slots : ℕ) (own from : Port) (x : Item) (pick : ℕ) (widths : List ℕ) (old new : Cell) (now : Progress (Option State)) (e : Taken)
    → IsTrue (fits graph widths own x) → Took from x (processed graph own x (found_by x old.gather) (held old.state) pick widths) old new → IsEntry graph slots own from x pick widths e → Shows old now
    → Shows new (progress_after (cells_of graph slots) e now)
shows_after graph slots own from x pick widths old new now e fits took entry shows =
    subst (λ (q : Port). Shows new (progress_with q e.item (ran_at (cells_of graph slots) e now) now)) (sym entry.from)
    (subst (λ (y : Item). Shows new (progress_with from y (ran_at (cells_of graph slots) e now) now)) (sym entry.item)
    (subst (λ (r : Ran (Option State)). Shows new (progress_with from x r now)) (ran_same graph slots own from x pick widths old now e fits entry shows)
    (shows_with from x (processed graph own x (found_by x old.gather) (held old.state) pick widths) old new now took
    (place_after graph own x old.gather (held old.state) pick widths now.gathered (part_fits graph widths own x fits) shows.gathered shows.waiting) shows)))

-- ---- a delivery

pub delivered-next : (m : Machine (Option State)) (e : Taken) (now : Progress (Option State)) (new : Cell) → e.number ≡ now.took e.from + 1 → Shows new (progress_after m e now) → Shows new (delivered m e now)
delivered-next m e now new is shows =
    subst (λ (b : Bool). Shows new (cond b (progress_after m e now) now)) (sym (eq-eqb e.number (now.took e.from + 1) is)) shows

pub delivered-not : (m : Machine (Option State)) (e : Taken) (now : Progress (Option State)) (new : Cell) → (e.number ≡ now.took e.from + 1 → ⊥) → Shows new now → Shows new (delivered m e now)
delivered-not m e now new is shows =
    subst (λ (b : Bool). Shows new (cond b (progress_after m e now) now)) (sym (ne_eqb e.number (now.took e.from + 1) is)) shows

-- ---- fewer kept

pub shows_trimmed : (old new : Cell) (to : Port) (upto : ℕ) → held new.state ≡ held old.state → new.gather ≡ old.gather → new.marks ≡ old.marks → new.position ≡ old.position
    → (outbox_of new.outboxes to).last ≡ (outbox_of old.outboxes to).last → (outbox_of new.outboxes to).kept ≡ drop (upto - trimmed (outbox_of old.outboxes to)) (outbox_of old.outboxes to).kept
    → SameButAt to old.outboxes new.outboxes → (now : Progress (Option State)) → Shows old now → Shows new now
shows_trimmed old new to upto state gather marks position last kept others now shows =
    let holds : (q : Port) → Holds (outbox_of new.outboxes q) (now.gave q) =
    λ q. holds_after_trim old.outboxes new.outboxes to upto last kept others q (now.gave q) (record { sent = shows.sent q; kept = shows.kept q }) in
    record {
      state = state ∙ shows.state;
      took = λ q. ap (λ (ms : List Mark). mark_of ms q) marks ∙ shows.took q;
      sent = λ q. (holds q).sent;
      kept = λ q. (holds q).kept;
      gathered = λ call. ap (λ (w : Waiting). parts_of w call) gather ∙ shows.gathered call;
      waiting = shows.waiting;
      position = position ∙ shows.position;
    }
