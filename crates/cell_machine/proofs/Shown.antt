-- What a cell shows after it sent an item, took one, or keeps fewer.
use Rattle.std.proofs.Common.{◌≡◌, ◌≢◌, ℕ, ◌+◌, ◌-◌, Bool, true, false, cond, min, List, [], ◌∷◌, ◌++◌, length, drop, Some, refl, sym, ap, subst, ◌∙◌, arith, inl, inr}
use Rattle.std.proofs.lemmas.Bool.{cases_Bool}
use Rattle.std.proofs.lemmas.List.{append-nil, length-drop, length_push, drop_min, drop-drop, drop-append-le}
use Rattle.sdg_base.specs.declared.port.Port.{Port}
use Rattle.sdg_base.specs.declared.item.Item.{Item}
use Rattle.sdg_base.specs.Ports.{same_port}
use Rattle.sdg_base.proofs.Ports.{same_port-true, same_port-false}
use Rattle.channels.specs.declared.outbox.Outbox.{Outbox}
use Rattle.channels.specs.declared.sending.Sending.{Sending}
use Rattle.channels.specs.declared.mark.Mark.{Mark}
use Rattle.channels.specs.Sent.{trimmed, OutboxUnchanged}
use Rattle.channels.specs.Outboxes.{outbox_of, SameButAt}
use Rattle.channels.specs.Marks.{mark_of}
use Rattle.early_tables.specs.States.{State}
use Rattle.early_task_code.specs.declared.graph.Graph.{Graph}
use Rattle.early_task_code.specs.Machine.{Runs, runs}
use Rattle.early_task_code.specs.Progress.{Taken, Progress, progress_with, progress_after, ran_or_nothing, outputs_to}
use Rattle.cell_machine.specs.declared.cell.Cell.{Cell}
use Rattle.cell_machine.specs.Held.{state_held}
use Rattle.cell_machine.specs.Shows.{Shows}

-- ---- send buffers

-- a buffer that gained an item
pub record Sent (x : Item) (old new : Outbox) : Type 0 where
  pub last : new.last ≡ old.last + 1
  pub kept : new.kept ≡ old.kept ++ x ∷ []

-- what is kept is a tail, however it was cut
pub tail : (n : ℕ) (gave kept : List Item) → kept ≡ drop n gave → kept ≡ drop (length gave - length kept) gave
tail n gave kept e =
    let left : length kept ≡ length gave - n = ap length e ∙ length-drop n gave in
    let from : min n (length gave) ≡ length gave - length kept = omega arith in
    e ∙ sym (drop_min n gave) ∙ ap (λ k. drop k gave) from

-- a buffer shows what was given to its port
pub record Holds (box : Outbox) (gave : List Item) : Type 0 where
  pub sent : box.last ≡ length gave
  pub kept : box.kept ≡ drop (trimmed box) gave

pub Holds-tail : (box : Outbox) (gave : List Item) (n : ℕ) → box.last ≡ length gave → box.kept ≡ drop n gave → Holds box gave
Holds-tail box gave n sent kept = record {
  sent = sent;
  kept = tail n gave box.kept kept ∙ ap (λ (k : ℕ). drop (k - length box.kept) gave) (sym sent);
}

pub Holds-same : (old new : Outbox) (gave : List Item) → OutboxUnchanged old new → Holds old gave → Holds new gave
Holds-same old new gave same holds = Holds-tail new gave (trimmed old) (same.last ∙ holds.sent) (same.kept ∙ holds.kept)

pub Holds-sent : (old new : Outbox) (x : Item) (gave : List Item) → Sent x old new → Holds old gave → Holds new (gave ++ x ∷ [])
Holds-sent old new x gave sent holds =
    let last = sent.last in
    let before = holds.sent in
    let more = length_push gave x in
    Holds-tail new (gave ++ x ∷ []) (trimmed old) (omega arith)
    (sent.kept ∙ ap (λ (items : List Item). items ++ x ∷ []) holds.kept ∙ sym (drop-append-le (trimmed old) gave (x ∷ []) (omega arith)))

pub Holds-trimmed : (old new : Outbox) (upto : ℕ) (gave : List Item) → new.last ≡ old.last → new.kept ≡ drop (upto - trimmed old) old.kept → Holds old gave → Holds new gave
Holds-trimmed old new upto gave last kept holds =
    Holds-tail new gave (trimmed old + (upto - trimmed old)) (last ∙ holds.sent)
    (kept ∙ ap (λ (items : List Item). drop (upto - trimmed old) items) holds.kept ∙ drop-drop (upto - trimmed old) (trimmed old) gave)

pub trimmed-sent : (old new : Outbox) (x : Item) → Sent x old new → trimmed new ≡ trimmed old
trimmed-sent old new x sent =
    let last = sent.last in
    let more : length new.kept ≡ length old.kept + 1 = ap length sent.kept ∙ length_push old.kept x in
    omega arith

pub trimmed-same : (old new : Outbox) → OutboxUnchanged old new → trimmed new ≡ trimmed old
trimmed-same old new same =
    let last = same.last in
    let kept : length new.kept ≡ length old.kept = ap length same.kept in
    omega arith

-- ---- by port

-- one port was sent an item, and each other nothing
pub record SentTo (to : Port) (x : Item) (old new : List Sending) : Type 0 where
  pub here : Sent x (outbox_of old to) (outbox_of new to)
  pub others : SameButAt to old new

pub trimmed_at : (to : Port) (x : Item) (old new : List Sending) → SentTo to x old new → (q : Port) → trimmed (outbox_of new q) ≡ trimmed (outbox_of old q)
trimmed_at to x old new sent q =
    elim (cases_Bool (same_port to q)) [
      | inl e ↦
          subst (λ (p : Port). trimmed (outbox_of new p) ≡ trimmed (outbox_of old p)) (same_port-true to q e) (trimmed-sent (outbox_of old to) (outbox_of new to) x sent.here)
      | inr e ↦
          trimmed-same (outbox_of old q) (outbox_of new q) (sent.others q (λ same. same_port-false to q e (sym same)))
    ]

outputs_here : (to q : Port) (x : Item) (gave : List Item) (b : Bool) → same_port to q ≡ b → outputs_to q ((to, x) ∷ []) ≡ cond b (x ∷ []) []
outputs_here to q x gave b e = ap (λ (t : Bool). cond t (x ∷ []) []) e

pub holds_at : (to : Port) (x : Item) (old new : List Sending) → SentTo to x old new → (q : Port) (gave : List Item) → Holds (outbox_of old q) gave → Holds (outbox_of new q) (gave ++ outputs_to q ((to, x) ∷ []))
holds_at to x old new sent q gave holds =
    elim (cases_Bool (same_port to q)) [
      | inl e ↦
          let there : Sent x (outbox_of old q) (outbox_of new q) = subst (λ (p : Port). Sent x (outbox_of old p) (outbox_of new p)) (same_port-true to q e) sent.here in
          subst (λ (more : List Item). Holds (outbox_of new q) (gave ++ more)) (sym (outputs_here to q x gave true e)) (Holds-sent (outbox_of old q) (outbox_of new q) x gave there holds)
      | inr e ↦
          let stays = Holds-same (outbox_of old q) (outbox_of new q) gave (sent.others q (λ same. same_port-false to q e (sym same))) holds in
          subst (λ (more : List Item). Holds (outbox_of new q) (gave ++ more)) (sym (outputs_here to q x gave false e)) (subst (λ (items : List Item). Holds (outbox_of new q) items) (sym (append-nil gave)) stays)
    ]

-- one port's mark rose by one, and each other stayed
pub record Raised (from : Port) (old new : List Mark) : Type 0 where
  pub here : mark_of new from ≡ mark_of old from + 1
  pub others : (other : Port) → other ≢ from → mark_of new other ≡ mark_of old other

took_at : (from : Port) (old new : List Mark) → Raised from old new → (took : Port → ℕ) → ((q : Port) → mark_of old q ≡ took q) → (q : Port) → mark_of new q ≡ cond (same_port q from) (took q + 1) (took q)
took_at from old new raised took before q =
    elim (cases_Bool (same_port q from)) [
      | inl e ↦
          subst (λ (p : Port). mark_of new p ≡ mark_of old p + 1) (sym (same_port-true q from e)) raised.here
          ∙ ap (λ (n : ℕ). n + 1) (before q)
          ∙ ap (λ (b : Bool). cond b (took q + 1) (took q)) (sym e)
      | inr e ↦
          raised.others q (same_port-false q from e) ∙ before q ∙ ap (λ (b : Bool). cond b (took q + 1) (took q)) (sym e)
    ]

-- ---- cells

-- what one item made of a cell
pub record Took (graph : Graph) (slots : ℕ) (port from to : Port) (x sent : Item) (old new : Cell) : Type 0 where
  pub ran : runs graph slots port x (state_held old.state) ≡ Some (record { outputs = (to, sent) ∷ []; state = state_held new.state })
  pub sends : SentTo to sent old.outboxes new.outboxes
  pub marks : Raised from old.marks new.marks
  pub position : new.position ≡ old.position + 1

shows_with : (graph : Graph) (slots : ℕ) (port from to : Port) (x sent : Item) (old new : Cell) → Took graph slots port from to x sent old new → (p : Progress) → Shows old p → Shows new (progress_with from (record { outputs = (to, sent) ∷ []; state = state_held new.state }) p)
shows_with graph slots port from to x sent old new took p shows =
    let holds : (q : Port) → Holds (outbox_of new.outboxes q) (p.gave q ++ outputs_to q ((to, sent) ∷ [])) = λ q. holds_at to sent old.outboxes new.outboxes took.sends q (p.gave q) (record { sent = shows.sent q; kept = shows.kept q }) in
    record {
      state = refl;
      took = took_at from old.marks new.marks took.marks p.took shows.took;
      sent = λ q. (holds q).sent;
      kept = λ q. (holds q).kept;
      position = took.position ∙ ap (λ (n : ℕ). n + 1) shows.position;
    }

pub shows_after : (graph : Graph) (slots : ℕ) (port from to : Port) (x sent : Item) (old new : Cell) → Took graph slots port from to x sent old new → (p : Progress) (e : Taken) → e.from ≡ from → e.cell ≡ port → e.item ≡ x → Shows old p → Shows new (progress_after graph slots e p)
shows_after graph slots port from to x sent old new took p e from_is port_is item_is shows =
    let ran : runs graph slots e.cell e.item p.state ≡ Some (record { outputs = (to, sent) ∷ []; state = state_held new.state }) =
    ap (λ (q : Port). runs graph slots q e.item p.state) port_is
    ∙ ap (λ (y : Item). runs graph slots port y p.state) item_is
    ∙ ap (λ (s : State). runs graph slots port x s) (sym shows.state)
    ∙ took.ran in
    subst (λ (r : Runs). Shows new (progress_with e.from (ran_or_nothing p.state r) p)) (sym ran)
    (subst (λ (q : Port). Shows new (progress_with q (record { outputs = (to, sent) ∷ []; state = state_held new.state }) p)) (sym from_is)
    (shows_with graph slots port from to x sent old new took p shows))

pub shows_trimmed : (old new : Cell) (to : Port) (upto : ℕ) → state_held new.state ≡ state_held old.state → new.marks ≡ old.marks → new.position ≡ old.position
    → (outbox_of new.outboxes to).last ≡ (outbox_of old.outboxes to).last → (outbox_of new.outboxes to).kept ≡ drop (upto - trimmed (outbox_of old.outboxes to)) (outbox_of old.outboxes to).kept
    → SameButAt to old.outboxes new.outboxes → (p : Progress) → Shows old p → Shows new p
shows_trimmed old new to upto state marks position last kept others p shows =
    let was : (q : Port) → Holds (outbox_of old.outboxes q) (p.gave q) = λ q. record { sent = shows.sent q; kept = shows.kept q } in
    let here : Holds (outbox_of new.outboxes to) (p.gave to) = Holds-trimmed (outbox_of old.outboxes to) (outbox_of new.outboxes to) upto (p.gave to) last kept (was to) in
    let holds : (q : Port) → Holds (outbox_of new.outboxes q) (p.gave q) = λ q.
    elim (cases_Bool (same_port to q)) [
      | inl e ↦ subst (λ (r : Port). Holds (outbox_of new.outboxes r) (p.gave r)) (same_port-true to q e) here
      | inr e ↦ Holds-same (outbox_of old.outboxes q) (outbox_of new.outboxes q) (p.gave q) (others q (λ same. same_port-false to q e (sym same))) (was q)
    ] in
    record {
      state = state ∙ shows.state;
      took = λ q. ap (λ (ms : List Mark). mark_of ms q) marks ∙ shows.took q;
      sent = λ q. (holds q).sent;
      kept = λ q. (holds q).kept;
      position = position ∙ shows.position;
    }
