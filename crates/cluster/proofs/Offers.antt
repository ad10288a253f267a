-- The lowest of what is offered, found one after the other.
use Rattle.std.proofs.Common.{◌≡◌, ℕ, zero, suc, ◌+◌, Bool, true, false, if◌then◌else◌, ◌==◌, List, [], ◌∷◌, ◌++◌, drop, Option, Some, None, slice_get, nat_lt, refl, ap, subst, arith}
use Rattle.std.specs.List.{AllByRecursion, filter_map, flat_map, cons_option}
use Rattle.sdg_base.specs.declared.port.Port.{Port}
use Rattle.sdg_base.specs.declared.port.Port.TheVariants as port
use Rattle.sdg_base.specs.declared.item.Item.{Item}
use Rattle.cluster.specs.History.{Setup, call_of}
use Rattle.cluster.specs.World.{World, Offer, offer, lower, lowest_from, lowest, offers, cell_offer, sink_offer, cells_of, event_for, next_item, next_result, last_step}
use Rattle.cluster.specs.Standing.{IsCellOf, IsSenderOf, NamesPorts}
use Rattle.cluster.proofs.Lists.{all_append, all_of}
use Rattle.cluster.proofs.Places.{placed}
use Rattle.cluster.specs.Offering.{lower_of}

pub lowest_from-append : (best : Option Offer) (xs ys : List Offer) → lowest_from best (xs ++ ys) ≡ lowest_from (lowest_from best xs) ys
lowest_from-append best [] ys = refl
lowest_from-append best (o ∷ xs) ys = lowest_from-append (lower best o) xs ys

-- one that is offered, or none
pub lowest_from-cons_option : (best next : Option Offer) (os : List Offer) → lowest_from best (cons_option next os) ≡ lowest_from (lower_of best next) os
lowest_from-cons_option best None os = refl
lowest_from-cons_option best (Some o) os = refl

some_same : {A : Type 0} (x y : A) → Some x ≡ Some y → x ≡ y
some_same x y e = cc

-- what stands at an index, and what is behind it
pub drop_at : {A : Type 0} (xs : List A) (i : ℕ) (x : A) → slice_get xs i ≡ Some x → drop i xs ≡ x ∷ drop (i + 1) xs
drop_at [] i x e = absurd cc
drop_at (y ∷ xs) zero x e = ap (λ z. z ∷ xs) (some_same y x e)
drop_at (y ∷ xs) (suc i) x e = let same : suc i + 1 ≡ suc (i + 1) = omega arith in rw same (drop_at xs i x e)

-- ---- where the lowest comes from

lower_by : (P : Offer → Type 0) (t : Bool) (o best : Offer) → P o → P best → (b : Offer) → (if t then Some o else Some best) ≡ Some b → P b
lower_by P true o best p q b e = subst P (some_same o b e) p
lower_by P false o best p q b e = subst P (some_same best b e) q

abbrev Has : (Offer → Type 0) → Option Offer → Type 0
Has P best = (b : Offer) → best ≡ Some b → P b

lower_has : (P : Offer → Type 0) (best : Option Offer) (o : Offer) → Has P best → P o → Has P (lower best o)
lower_has P None o h p = λ b e. subst P (some_same o b e) p
lower_has P (Some best) o h p = λ b e. lower_by P (nat_lt o.call best.call) o best p (h best refl) b e

lowest_has : (P : Offer → Type 0) (best : Option Offer) (os : List Offer) → Has P best → AllByRecursion P os → Has P (lowest_from best os)
lowest_has P best [] h all = h
lowest_has P best (o ∷ os) h all = lowest_has P (lower best o) os (lower_has P best o h all.0) all.1

all_filter_map : {A B : Type 0} (f : A → Option B) (P : A → Type 0) (Q : B → Type 0) → ((x : A) → P x → (y : B) → f x ≡ Some y → Q y) → (xs : List A) → AllByRecursion P xs → AllByRecursion Q (filter_map f xs)
all_filter_map f P Q h [] all = tt
all_filter_map f P Q h (x ∷ xs) all = all_cons Q (f x) (filter_map f xs) (h x all.0) (all_filter_map f P Q h xs all.1)
  where
    all_cons : {B : Type 0} (Q : B → Type 0) (o : Option B) (ys : List B) → ((y : B) → o ≡ Some y → Q y) → AllByRecursion Q ys → AllByRecursion Q (cons_option o ys)
    all_cons Q None ys h all = all
    all_cons Q (Some y) ys h all = (h y refl, all)

all_flat_map : {A B : Type 0} (f : A → List B) (P : A → Type 0) (Q : B → Type 0) → ((x : A) → P x → AllByRecursion Q (f x)) → (xs : List A) → AllByRecursion P xs → AllByRecursion Q (flat_map f xs)
all_flat_map f P Q h [] all = tt
all_flat_map f P Q h (x ∷ xs) all = all_append Q (f x) (flat_map f xs) (h x all.0) (all_flat_map f P Q h xs all.1)

all_by_place : {A : Type 0} (P : A → Type 0) (xs : List A) → ((i : ℕ) (x : A) → slice_get xs i ≡ Some x → P x) → AllByRecursion P xs
all_by_place P [] h = tt
all_by_place {A} P (x ∷ xs) h = (h 0 x refl, all_by_place P xs (λ (i : ℕ) (y : A) (e : slice_get xs i ≡ Some y). h (suc i) y e))

-- the event of an offer of a cell, or of the sink
takes : (s : Setup) (call : ℕ) (to from : Port) → IsCellOf s.graph s.header to → IsSenderOf s.graph s.header from
    → NamesPorts s.graph s.header (event_for (record { call = call; to = to; from = from }))
takes s call port.Caller from is sends = absurd is
takes s call port.Sink from is sends = absurd is
takes s call port.Front from is sends = (is, sends)
takes s call port.Join from is sends = (is, sends)
takes s call (port.Slot field at) from is sends = (is, sends)
takes s call (port.Inst field number) from is sends = absurd is

sender : (s : Setup) (p : Port) → IsCellOf s.graph s.header p → IsSenderOf s.graph s.header p
sender s port.Caller is = absurd is
sender s port.Sink is = absurd is
sender s port.Front is = tt
sender s port.Join is = tt
sender s (port.Slot field at) is = is
sender s (port.Inst field number) is = absurd is

abbrev IsNamed : Setup → Offer → Type 0
IsNamed s o = NamesPorts s.graph s.header (event_for o)

offered_of : (s : Setup) (to from : Port) (x : Option Item) (o : Offer) → ((call : ℕ) → IsNamed s (record { call = call; to = to; from = from })) → offer to from x ≡ Some o → IsNamed s o
offered_of s to from None o named e = absurd cc
offered_of s to from (Some x) o named e = subst (λ (o : Offer). IsNamed s o) (some_same (record { call = call_of x; to = to; from = from }) o e) (named (call_of x))

cell_offered : (s : Setup) (w : World) (to from : Port) (t : Bool) (o : Offer) → IsCellOf s.graph s.header to → IsSenderOf s.graph s.header from
    → (if t then None else offer to from (next_item s w to from)) ≡ Some o → IsNamed s o
cell_offered s w to from true o is sends e = absurd cc
cell_offered s w to from false o is sends e = offered_of s to from (next_item s w to from) o (λ (call : ℕ). takes s call to from is sends) e

-- The lowest offer names ports of the setup.
pub lowest_named : (s : Setup) (w : World) (o : Offer) → lowest (offers s w) ≡ Some o → NamesPorts s.graph s.header (event_for o)
lowest_named s w o e =
    let C : Port → Type 0 = λ p. IsCellOf s.graph s.header p in
    let cells : AllByRecursion C (cells_of s) = all_by_place C (cells_of s) (λ (i : ℕ) (p : Port) (e : slice_get (cells_of s) i ≡ Some p). (placed s i p e).1) in
    let senders : AllByRecursion (λ p. IsSenderOf s.graph s.header p) (port.Caller ∷ cells_of s) = (tt, all_of C (λ p. IsSenderOf s.graph s.header p) (cells_of s) (sender s) cells) in
    lowest_has (λ (o : Offer). IsNamed s o) None (offers s w) (λ (b : Offer) (n : None ≡ Some b). absurd cc)
    (all_append (λ (o : Offer). IsNamed s o) (filter_map (sink_offer s w) (cells_of s)) _
    (all_filter_map (sink_offer s w) C (λ (o : Offer). IsNamed s o) (λ (from : Port) (is : C from) (o : Offer) (e : sink_offer s w from ≡ Some o). offered_of s port.Sink from (next_result s w from) o (λ (call : ℕ). is) e) (cells_of s) cells)
    (all_flat_map (λ to. filter_map (cell_offer s w to) (port.Caller ∷ cells_of s)) C (λ (o : Offer). IsNamed s o)
    (λ (to : Port) (is : C to). all_filter_map (cell_offer s w to) (λ p. IsSenderOf s.graph s.header p) (λ (o : Offer). IsNamed s o)
    (λ (from : Port) (sends : IsSenderOf s.graph s.header from) (o : Offer) (e : cell_offer s w to from ≡ Some o). cell_offered s w to from (w.next_step == last_step) o is sends e)
    (port.Caller ∷ cells_of s) senders)
    (cells_of s) cells))
    o e
