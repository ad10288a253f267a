-- The cells in port order, each at its place.
use Rattle.std.proofs.Common.{◌≡◌, ℕ, zero, suc, ◌+◌, ◌*◌, ◌<◌, ◌⊎◌, inl, inr, List, [], ◌∷◌, ◌++◌, length, map, Some, slice_get, refl, ap, ◌∙◌, sym, subst, arith}
use Rattle.std.proofs.lemmas.List.{length-map}
use Rattle.std.specs.List.{flat_map}
use Rattle.sdg_base.specs.declared.port.Port.{Port}
use Rattle.sdg_base.specs.declared.port.Port.TheVariants as port
use Rattle.cluster.specs.History.{Setup, IsCell}
use Rattle.cluster.specs.World.{cells_of, numbers_from}
use Rattle.cluster.specs.Beginning.{row}
use Rattle.cluster.specs.Standing.{IsCellOf, place_of}
use Rattle.cluster.proofs.Along.{IsOwn}

-- in the first part of a list, or in the second
get_append : {A : Type 0} (xs ys : List A) (i : ℕ) (x : A) → slice_get (xs ++ ys) i ≡ Some x
    → (slice_get xs i ≡ Some x) ⊎ ((j : ℕ) × (i ≡ length xs + j) × (slice_get ys j ≡ Some x))
get_append [] ys i x e = inr (i, omega arith, e)
get_append (y ∷ xs) ys zero x e = inl e
get_append (y ∷ xs) ys (suc i) x e = elim (get_append xs ys i x e) [ inl first ↦ inl first | inr later ↦ inr (later.0, (let same : i ≡ length xs + later.0 = later.1 in omega arith), later.2) ]

get_first : {A : Type 0} (xs ys : List A) (i : ℕ) (x : A) → slice_get xs i ≡ Some x → slice_get (xs ++ ys) i ≡ Some x
get_first [] ys i x e = absurd cc
get_first (y ∷ xs) ys zero x e = e
get_first (y ∷ xs) ys (suc i) x e = get_first xs ys i x e

get_later : {A : Type 0} (xs ys : List A) (n j : ℕ) → length xs ≡ n → slice_get (xs ++ ys) (n + j) ≡ slice_get ys j
get_later [] ys zero j e = ap (slice_get ys) (omega arith)
get_later [] ys (suc n) j e = absurd (omega arith)
get_later (x ∷ xs) ys zero j e = absurd (omega arith)
get_later {A} (x ∷ xs) ys (suc n) j e =
    let P : ℕ → Type 0 = λ k. slice_get (x ∷ (xs ++ ys)) k ≡ slice_get ys j in
    let next : suc (n + j) ≡ suc n + j = omega arith in
    subst P next (get_later xs ys n j (omega arith))

length-numbers_from : (n count : ℕ) → length (numbers_from n count) ≡ count
length-numbers_from n zero = refl
length-numbers_from n (suc count) = ap suc (length-numbers_from (n + 1) count)

abbrev rows : ℕ → ℕ → ℕ → List Port
rows slots first count = flat_map (row slots) (numbers_from first count)

length-row : (slots field : ℕ) → length (row slots field) ≡ slots
length-row slots field = length-map (numbers_from 0 slots) (λ at. port.Slot field at) ∙ length-numbers_from 0 slots

-- ---- what stands at an index

in_row : (field from count i : ℕ) (p : Port) → slice_get (map (λ at. port.Slot field at) (numbers_from from count)) i ≡ Some p → (p ≡ port.Slot field (from + i)) × (i < count)
in_row field from zero i p e = absurd cc
in_row field from (suc count) zero p e = (cc (ap (port.Slot field) (let same : from + 0 ≡ from = omega arith in same)), omega arith)
in_row field from (suc count) (suc i) p e =
    let rest = in_row field (from + 1) count i p e in
    let same : from + 1 + i ≡ from + suc i = omega arith in
    let below : i < count = rest.1 in
    (rest.0 ∙ ap (port.Slot field) same, omega arith)

-- a slot of one of the fields from a first on, by its place among their slots
pub record InRows (slots first count i : ℕ) (p : Port) : Type 0 where
  pub field : ℕ
  pub at : ℕ
  pub is : p ≡ port.Slot field at
  pub field_below : field < first + count
  pub at_below : at < slots
  pub place : i + first * slots ≡ field * slots + at

in_rows : (slots first count i : ℕ) (p : Port) → slice_get (rows slots first count) i ≡ Some p → InRows slots first count i p
in_rows slots first zero i p e = absurd cc
in_rows slots first (suc count) i p e = elim (get_append (row slots first) (rows slots (first + 1) count) i p e) [
  | inl here ↦
      let it = in_row first 0 slots i p here in
      let same : 0 + i ≡ i = omega arith in
      let below : i < slots = it.1 in
      record { field = first; at = i; is = it.0 ∙ ap (port.Slot first) same; field_below = omega arith; at_below = below; place = omega arith }
  | inr later ↦
      let it = in_rows slots (first + 1) count later.0 p later.2 in
      let long : length (row slots first) ≡ slots = length-row slots first in
      let split : i ≡ length (row slots first) + later.0 = later.1 in
      let i_is : i ≡ slots + later.0 = omega (arith, long, split) in
      let place : later.0 + (first + 1) * slots ≡ it.field * slots + it.at = it.place in
      let below : it.field < first + 1 + count = it.field_below in
      record { field = it.field; at = it.at; is = it.is; field_below = omega arith; at_below = it.at_below; place = omega arith }
]

-- A cell stands at its place, and is a cell of the setup.
pub placed : (s : Setup) (i : ℕ) (p : Port) → slice_get (cells_of s) i ≡ Some p → (place_of s.header.slots p ≡ i) × IsCellOf s.graph s.header p
placed s zero p e =
    let P : Port → Type 0 = λ q. (place_of s.header.slots q ≡ 0) × IsCellOf s.graph s.header q in
    let same : port.Front ≡ p = cc in
    subst P same (refl, tt)
placed s (suc zero) p e =
    let P : Port → Type 0 = λ q. (place_of s.header.slots q ≡ 1) × IsCellOf s.graph s.header q in
    let same : port.Join ≡ p = cc in
    subst P same (refl, tt)
placed s (suc (suc i)) p e =
    let it = in_rows s.header.slots 0 (length s.graph.fields) i p e in
    let P : Port → Type 0 = λ q. (place_of s.header.slots q ≡ suc (suc i)) × IsCellOf s.graph s.header q in
    let place : i + 0 * s.header.slots ≡ it.field * s.header.slots + it.at = it.place in
    let below : it.field < 0 + length s.graph.fields = it.field_below in
    let this : 2 + it.field * s.header.slots + it.at ≡ suc (suc i) = omega arith in
    subst P (sym it.is) (this, ((omega arith), it.at_below))

-- ---- the place of a cell

at_row : (field from count i : ℕ) → i < count → slice_get (map (λ at. port.Slot field at) (numbers_from from count)) i ≡ Some (port.Slot field (from + i))
at_row field from zero i below = absurd (omega arith)
at_row field from (suc count) zero below = let same : from ≡ from + 0 = omega arith in ap (λ n. Some (port.Slot field n)) same
at_row field from (suc count) (suc i) below =
    let same : from + 1 + i ≡ from + suc i = omega arith in
    at_row field (from + 1) count i (omega arith) ∙ ap (λ n. Some (port.Slot field n)) same

at_rows : (slots first count k at : ℕ) → k < count → at < slots → slice_get (rows slots first count) (k * slots + at) ≡ Some (port.Slot (first + k) at)
at_rows slots first zero k at below small = absurd (omega arith)
at_rows slots first (suc count) zero at below small =
    let P : ℕ → ℕ → ℕ → Type 0 = λ i f a. slice_get (rows slots first (suc count)) i ≡ Some (port.Slot f a) in
    let i_is : at ≡ zero * slots + at = omega arith in
    let f_is : first ≡ first + zero = omega arith in
    let a_is : 0 + at ≡ at = omega arith in
    let this = get_first (row slots first) (rows slots (first + 1) count) at (port.Slot first (0 + at)) (at_row first 0 slots at small) in
    subst (λ (i : ℕ). P i (first + zero) at) i_is (subst (λ (f : ℕ). P at f at) f_is (subst (λ (a : ℕ). P at first a) a_is this))
at_rows slots first (suc count) (suc k) at below small =
    let i_is : suc k * slots + at ≡ slots + (k * slots + at) = omega arith in
    let f_is : first + 1 + k ≡ first + suc k = omega arith in
    ap (slice_get (rows slots first (suc count))) i_is
    ∙ get_later (row slots first) (rows slots (first + 1) count) slots (k * slots + at) (length-row slots first)
    ∙ at_rows slots (first + 1) count k at (omega arith) small
    ∙ ap (λ f. Some (port.Slot f at)) f_is

pub at_place : (s : Setup) (p : Port) → IsCellOf s.graph s.header p → slice_get (cells_of s) (place_of s.header.slots p) ≡ Some p
at_place s port.Caller is = absurd is
at_place s port.Sink is = absurd is
at_place s port.Front is = refl
at_place s port.Join is = refl
at_place s (port.Slot field at) is =
    let i_is : 2 + field * s.header.slots + at ≡ suc (suc (field * s.header.slots + at)) = omega arith in
    let f_is : 0 + field ≡ field = omega arith in
    ap (slice_get (cells_of s)) i_is ∙ at_rows s.header.slots 0 (length s.graph.fields) field at is.0 is.1 ∙ ap (λ f. Some (port.Slot f at)) f_is
at_place s (port.Inst field number) is = absurd is

pub own_cell : (s : Setup) (p : Port) → IsCellOf s.graph s.header p → IsOwn p
own_cell s port.Caller is = absurd is
own_cell s port.Sink is = absurd is
own_cell s port.Front is = tt
own_cell s port.Join is = tt
own_cell s (port.Slot field at) is = tt
own_cell s (port.Inst field number) is = absurd is

pub any_cell : (p : Port) → IsOwn p → IsCell p
any_cell port.Caller is = absurd is
any_cell port.Sink is = absurd is
any_cell port.Front is = tt
any_cell port.Join is = tt
any_cell (port.Slot field at) is = tt
any_cell (port.Inst field number) is = absurd is
