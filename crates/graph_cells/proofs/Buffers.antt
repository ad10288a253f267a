-- Send buffers that gain what is given to their ports, or keep fewer.
use Rattle.std.proofs.Common.{◌≡◌, ℕ, ◌+◌, ◌-◌, ◌<◌, Bool, true, false, cond, ◌&&◌, ◌==◌, min, List, [], ◌∷◌, ◌++◌, length, drop, refl, sym, ap, subst, ◌∙◌, arith, inl, inr}
use Rattle.std.specs.Prelude.{nat_lt}
use Rattle.std.proofs.lemmas.Bool.{cases_Bool, cases_order}
use Rattle.std.proofs.lemmas.Bool.Decides.{nat_tests}
use Rattle.std.proofs.lemmas.List.{append-nil, append_assoc, length-drop, length-append, drop_min, drop-drop, drop-append-le}
use Rattle.sdg_base.specs.declared.port.Port.{Port}
use Rattle.sdg_base.specs.declared.port.Port.TheVariants as port
use Rattle.sdg_base.specs.declared.item.Item.{Item}
use Rattle.sdg_base.specs.Ports.{same_port}
use Rattle.sdg_base.proofs.Ports.{same_port-true, same_port-false}
use Rattle.channels.specs.declared.outbox.Outbox.{Outbox}
use Rattle.channels.specs.declared.sending.Sending.{Sending}
use Rattle.channels.specs.Sent.{trimmed, OutboxUnchanged}
use Rattle.channels.specs.Outboxes.{outbox_of, SameButAt}
use Rattle.tagged_agreement.specs.Machine.{one_to, each_to}
use Rattle.graph_cells.specs.Sending.{Gains, AreSent}

-- ---- one buffer

pub gains_nothing : (old new : Outbox) → OutboxUnchanged old new → Gains [] old new
gains_nothing old new same = record {
  last = let last = same.last in omega arith;
  kept = same.kept ∙ sym (append-nil old.kept);
}

pub gains_both : (first more : List Item) (old between new : Outbox) → Gains first old between → Gains more between new → Gains (first ++ more) old new
gains_both first more old between new g h = record {
  last = let a = g.last in let b = h.last in let c = length-append first more in omega arith;
  kept = h.kept ∙ ap (λ (items : List Item). items ++ more) g.kept ∙ append_assoc old.kept first more;
}

pub trimmed-gains : (given : List Item) (old new : Outbox) → Gains given old new → trimmed new ≡ trimmed old
trimmed-gains given old new g =
    let last = g.last in
    let more : length new.kept ≡ length old.kept + length given = ap length g.kept ∙ length-append old.kept given in
    omega arith

-- ---- what a buffer holds of all that was given

-- what is kept is a tail, however it was cut
tail : (n : ℕ) (gave kept : List Item) → kept ≡ drop n gave → kept ≡ drop (length gave - length kept) gave
tail n gave kept e =
    let left : length kept ≡ length gave - n = ap length e ∙ length-drop n gave in
    let from : min n (length gave) ≡ length gave - length kept = omega arith in
    e ∙ sym (drop_min n gave) ∙ ap (λ k. drop k gave) from

pub record Holds (box : Outbox) (gave : List Item) : Type 0 where
  pub sent : box.last ≡ length gave
  pub kept : box.kept ≡ drop (trimmed box) gave

Holds-tail : (box : Outbox) (gave : List Item) (n : ℕ) → box.last ≡ length gave → box.kept ≡ drop n gave → Holds box gave
Holds-tail box gave n sent kept = record {
  sent = sent;
  kept = tail n gave box.kept kept ∙ ap (λ (k : ℕ). drop (k - length box.kept) gave) (sym sent);
}

pub Holds-gains : (given : List Item) (old new : Outbox) (gave : List Item) → Gains given old new → Holds old gave → Holds new (gave ++ given)
Holds-gains given old new gave g holds =
    let last = g.last in
    let before = holds.sent in
    let more = length-append gave given in
    Holds-tail new (gave ++ given) (trimmed old) (omega arith)
    (g.kept ∙ ap (λ (items : List Item). items ++ given) holds.kept ∙ sym (drop-append-le (trimmed old) gave given (omega arith)))

Holds-same : (old new : Outbox) (gave : List Item) → OutboxUnchanged old new → Holds old gave → Holds new gave
Holds-same old new gave same holds = Holds-tail new gave (trimmed old) (same.last ∙ holds.sent) (same.kept ∙ holds.kept)

Holds-trimmed : (old new : Outbox) (upto : ℕ) (gave : List Item) → new.last ≡ old.last → new.kept ≡ drop (upto - trimmed old) old.kept → Holds old gave → Holds new gave
Holds-trimmed old new upto gave last kept holds =
    Holds-tail new gave (trimmed old + (upto - trimmed old)) (last ∙ holds.sent)
    (kept ∙ ap (λ (items : List Item). drop (upto - trimmed old) items) holds.kept ∙ drop-drop (upto - trimmed old) (trimmed old) gave)

-- every buffer where one was trimmed
pub holds_after_trim : (old new : List Sending) (to : Port) (upto : ℕ) → (outbox_of new to).last ≡ (outbox_of old to).last → (outbox_of new to).kept ≡ drop (upto - trimmed (outbox_of old to)) (outbox_of old to).kept → SameButAt to old new
    → (q : Port) (gave : List Item) → Holds (outbox_of old q) gave → Holds (outbox_of new q) gave
holds_after_trim old new to upto last kept others q gave holds =
    elim (cases_Bool (same_port to q)) [
      | inl e ↦
          let there : Holds (outbox_of old to) gave = subst (λ (p : Port). Holds (outbox_of old p) gave) (sym (same_port-true to q e)) holds in
          subst (λ (p : Port). Holds (outbox_of new p) gave) (same_port-true to q e) (Holds-trimmed (outbox_of old to) (outbox_of new to) upto gave last kept there)
      | inr e ↦ Holds-same (outbox_of old q) (outbox_of new q) gave (others q (λ same. same_port-false to q e (sym same))) holds
    ]

-- ---- all buffers

pub nothing_sent : (sendings : List Sending) → AreSent (λ _. []) sendings sendings
nothing_sent sendings q = gains_nothing (outbox_of sendings q) (outbox_of sendings q) (record { last = refl; kept = refl })

given_by : (to q : Port) (x : Item) (b : Bool) → same_port to q ≡ b → one_to to x q ≡ cond b (x ∷ []) []
given_by to q x b e = ap (λ (t : Bool). cond t (x ∷ []) []) e

pub one_sent : (to : Port) (x : Item) (old new : List Sending) → (outbox_of new to).last ≡ (outbox_of old to).last + 1 → (outbox_of new to).kept ≡ (outbox_of old to).kept ++ x ∷ [] → SameButAt to old new → AreSent (one_to to x) old new
one_sent to x old new last kept others q =
    elim (cases_Bool (same_port to q)) [
      | inl e ↦
          let there : Gains (x ∷ []) (outbox_of old q) (outbox_of new q) = subst (λ (p : Port). Gains (x ∷ []) (outbox_of old p) (outbox_of new p)) (same_port-true to q e) (record { last = last; kept = kept }) in
          subst (λ (items : List Item). Gains items (outbox_of old q) (outbox_of new q)) (sym (given_by to q x true e)) there
      | inr e ↦
          subst (λ (items : List Item). Gains items (outbox_of old q) (outbox_of new q)) (sym (given_by to q x false e))
          (gains_nothing (outbox_of old q) (outbox_of new q) (others q (λ same. same_port-false to q e (sym same))))
    ]

-- ---- one instance after the other

not_below : (b : Bool) (n : ℕ) (x : Item) → cond (b && nat_lt n n) (x ∷ []) [] ≡ []
not_below true n x = grind (arith, nat_tests)
not_below false n x = refl

pub room_at : (field number limit : ℕ) (x : Item) (old new : List Sending) → AreSent (each_to field number x) old new → (outbox_of old (port.Inst field number)).last < limit → (outbox_of new (port.Inst field number)).last < limit
room_at field number limit x old new sent room =
    let last = (sent (port.Inst field number)).last in
    let none : length (each_to field number x (port.Inst field number)) ≡ 0 = ap length (not_below (field == field) number x) in
    omega arith

below_more : (n m : ℕ) (x : Item) → cond (nat_lt m (n + 1)) (x ∷ []) [] ≡ cond (nat_lt m n) (x ∷ []) [] ++ cond (n == m) (x ∷ []) []
below_more n m x =
    elim (cases_order m n) [
      | inl same ↦ three (nat_lt m (n + 1)) (nat_lt m n) (n == m) true false true (grind (arith, nat_tests)) (grind (arith, nat_tests)) (grind (arith, nat_tests)) refl
      | inr (inl less) ↦ three (nat_lt m (n + 1)) (nat_lt m n) (n == m) true true false (grind (arith, nat_tests)) (grind (arith, nat_tests)) (grind (arith, nat_tests)) refl
      | inr (inr more) ↦ three (nat_lt m (n + 1)) (nat_lt m n) (n == m) false false false (grind (arith, nat_tests)) (grind (arith, nat_tests)) (grind (arith, nat_tests)) refl
    ]
  where
    three : (a b c a' b' c' : Bool) → a ≡ a' → b ≡ b' → c ≡ c' → cond a' (x ∷ []) [] ≡ cond b' (x ∷ []) [] ++ cond c' (x ∷ []) [] → cond a (x ∷ []) [] ≡ cond b (x ∷ []) [] ++ cond c (x ∷ []) []
    three a b c a' b' c' ea eb ec h = cc

each_more : (b : Bool) (n m : ℕ) (x : Item) → cond (b && nat_lt m (n + 1)) (x ∷ []) [] ≡ cond (b && nat_lt m n) (x ∷ []) [] ++ cond (b && n == m) (x ∷ []) []
each_more true n m x = below_more n m x
each_more false n m x = refl

each_then_one : (field number : ℕ) (x : Item) (q : Port) → each_to field (number + 1) x q ≡ each_to field number x q ++ one_to (port.Inst field number) x q
unfolding same_port
each_then_one field number x (port.Inst own n) = each_more (field == own) number n x
each_then_one field number x port.Caller = refl
each_then_one field number x port.Sink = refl
each_then_one field number x port.Front = refl
each_then_one field number x port.Join = refl
each_then_one field number x (port.Slot f s) = refl

pub sent_to_each : (field number : ℕ) (x : Item) (old between new : List Sending) → AreSent (each_to field number x) old between → AreSent (one_to (port.Inst field number) x) between new → AreSent (each_to field (number + 1) x) old new
sent_to_each field number x old between new before one q =
    subst (λ (items : List Item). Gains items (outbox_of old q) (outbox_of new q)) (sym (each_then_one field number x q))
    (gains_both (each_to field number x q) (one_to (port.Inst field number) x q) (outbox_of old q) (outbox_of between q) (outbox_of new q) (before q) (one q))

none_below : (b : Bool) (n : ℕ) (x : Item) → cond (b && nat_lt n 0) (x ∷ []) [] ≡ []
none_below true n x = grind (arith, nat_tests)
none_below false n x = refl

each_of_none : (field : ℕ) (x : Item) (q : Port) → each_to field 0 x q ≡ []
each_of_none field x (port.Inst own n) = none_below (field == own) n x
each_of_none field x port.Caller = refl
each_of_none field x port.Sink = refl
each_of_none field x port.Front = refl
each_of_none field x port.Join = refl
each_of_none field x (port.Slot f s) = refl

pub sent_to_none : (field : ℕ) (x : Item) (sendings : List Sending) → AreSent (each_to field 0 x) sendings sendings
sent_to_none field x sendings q = subst (λ (items : List Item). Gains items (outbox_of sendings q) (outbox_of sendings q)) (sym (each_of_none field x q)) (nothing_sent sendings q)
