-- The send buffer for a port where one is written or joined at the end.
use Rattle.std.proofs.Common.{◌≡◌, ℕ, List, [], ◌∷◌, ◌++◌, get_or, Option, Some, None, refl, sym, ap, ◌∙◌, Bool, true, false, cond, ◌-◌, drop, subst, arith, Result, Ok, Err}
use Rattle.std.specs.Prelude.{OnErr}
use Rattle.std.proofs.lemmas.List.{drop_all}
use Rattle.std.proofs.Math.ListN.{set}
use Rattle.std.specs.List.{position}
use Rattle.std.specs.Option.{option_map_or}
use Rattle.sdg_base.specs.declared.port.Port.{Port}
use Rattle.channels.specs.declared.outbox.Outbox.{Outbox}
use Rattle.channels.specs.declared.sending.Sending.{Sending}
use Rattle.channels.specs.Sent.{OutboxUnchanged, item_of, trimmed}
use Rattle.channels.specs.Outboxes.{is_to, no_outbox, outbox_of, SameButAt}
use Rattle.channels.proofs.ByPort.{found, missing, port_there, find-written, find-written_other, find-pushed, find-pushed_other}

abbrev outbox_in : Option Sending → Outbox
outbox_in o = option_map_or (λ s. s.outbox) o no_outbox

pub same_outbox : (old new : Outbox) → new ≡ old → OutboxUnchanged old new
same_outbox old new e = record { last = ap (λ (o : Outbox). o.last) e; kept = ap (λ (o : Outbox). o.kept) e }

pub outbox_of-at : (sendings : List Sending) (to : Port) (i : ℕ) (d : Sending) → position (is_to to) sendings ≡ Some i → outbox_of sendings to ≡ (get_or sendings i d).outbox
outbox_of-at sendings to i d e = ap outbox_in (found (is_to to) sendings i d e)

pub outbox_of-read : (sendings : List Sending) (to : Port) (i : ℕ) (s : Sending) → position (is_to to) sendings ≡ Some i → s ≡ get_or sendings i s → s.outbox ≡ outbox_of sendings to
outbox_of-read sendings to i s e read = ap (λ (s : Sending). s.outbox) read ∙ sym (outbox_of-at sendings to i s e)

pub to-read : (sendings : List Sending) (to : Port) (i : ℕ) (s : Sending) → position (is_to to) sendings ≡ Some i → s ≡ get_or sendings i s → s.to ≡ to
to-read sendings to i s e read = ap (λ (s : Sending). s.to) read ∙ port_there (λ (s : Sending). s.to) sendings to i s e

pub outbox_of-none : (sendings : List Sending) (to : Port) → position (is_to to) sendings ≡ None → outbox_of sendings to ≡ no_outbox
outbox_of-none sendings to e = ap outbox_in (missing (is_to to) sendings e)

pub outbox_of-set : (sendings : List Sending) (to : Port) (i : ℕ) (s : Sending) → position (is_to to) sendings ≡ Some i → s.to ≡ to → outbox_of (set sendings i s) to ≡ s.outbox
outbox_of-set sendings to i s e same = ap outbox_in (find-written (λ (s : Sending). s.to) sendings to i s e same)

pub others-set : (sendings : List Sending) (to : Port) (i : ℕ) (s : Sending) → position (is_to to) sendings ≡ Some i → s.to ≡ to → SameButAt to sendings (set sendings i s)
others-set sendings to i s e same other differs =
    same_outbox _ _ (ap outbox_in (find-written_other (λ (s : Sending). s.to) sendings to other i s e same differs))

pub outbox_of-push : (sendings : List Sending) (to : Port) (box : Outbox) → position (is_to to) sendings ≡ None → outbox_of (sendings ++ record { to = to; outbox = box } ∷ []) to ≡ box
outbox_of-push sendings to box e = ap outbox_in (find-pushed (λ (s : Sending). s.to) sendings to (record { to = to; outbox = box }) e refl)

pub others-push : (sendings : List Sending) (to : Port) (box : Outbox) → SameButAt to sendings (sendings ++ record { to = to; outbox = box } ∷ [])
others-push sendings to box other differs =
    same_outbox _ _ (ap outbox_in (find-pushed_other (λ (s : Sending). s.to) sendings to other (record { to = to; outbox = box }) refl differs))

either_none : {A : Type 0} (b : Bool) (o : Option A) → o ≡ None → cond b o None ≡ None
either_none true o e = e
either_none false o e = refl

-- nothing is kept where nothing was sent
pub item_of-none : (sendings : List Sending) (to : Port) (seq : ℕ) → position (is_to to) sendings ≡ None → item_of (outbox_of sendings to) seq ≡ None
item_of-none sendings to seq e = ap (λ (o : Outbox). item_of o seq) (outbox_of-none sendings to e) ∙ either_none _ _ refl

pub trim-none : (sendings : List Sending) (to : Port) (upto : ℕ) → position (is_to to) sendings ≡ None → (outbox_of sendings to).kept ≡ drop (upto - trimmed (outbox_of sendings to)) (outbox_of sendings to).kept
trim-none sendings to upto e =
    subst (λ (o : Outbox). o.kept ≡ drop (upto - trimmed o) o.kept) (sym (outbox_of-none sendings to e)) (sym (drop_all (upto - 0) [] (omega arith)))

pub record Replaces (to : Port) (old new : List Sending) (before after : Outbox) : Type 0 where
  pub before_is : outbox_of old to ≡ before
  pub after_is : outbox_of new to ≡ after
  pub others : SameButAt to old new

pub replaces-set : (value items : List Sending) (to : Port) (i : ℕ) (s : Sending) (box : Outbox) → items ≡ value → position (is_to to) value ≡ Some i → s ≡ get_or items i s → Replaces to value (set items i (record { to = s.to; outbox = box })) s.outbox box
replaces-set value items to i s box same e read =
    let P : List Sending → Type 0 = λ xs. s ≡ get_or xs i s → Replaces to value (set xs i (record { to = s.to; outbox = box })) s.outbox box in
    subst P (sym same) (λ here. record {
      before_is = sym (outbox_of-read value to i s e here);
      after_is = outbox_of-set value to i (record { to = s.to; outbox = box }) e (to-read value to i s e here);
      others = others-set value to i (record { to = s.to; outbox = box }) e (to-read value to i s e here);
    }) read

pub replaces-push : (value : List Sending) (to : Port) (box : Outbox) → position (is_to to) value ≡ None → Replaces to value (value ++ record { to = to; outbox = box } ∷ []) no_outbox box
replaces-push value to box e = record {
  before_is = outbox_of-none value to e;
  after_is = outbox_of-push value to box e;
  others = others-push value to box;
}

pub replaces_at : (value new : List Sending) (to : Port) (box : Outbox) → new ≡ value ++ record { to = to; outbox = box } ∷ [] → Replaces to value (value ++ record { to = to; outbox = box } ∷ []) no_outbox box → Replaces to value new no_outbox box
replaces_at value new to box e sends = let P : List Sending → Type 0 = λ xs. Replaces to value xs no_outbox box in subst P (sym e) sends

pub on_err : {A E : Type 0} (r : Result A E) {P : Type 0} → P → OnErr r P
on_err (Ok x) p = tt
on_err (Err e) p = p
