-- How ports are written.
use Rattle.std.proofs.Common.{◌≡◌, ◌≢◌, All, ℕ, zero, suc, ◌<◌, ◌≤◌, List, [], ◌∷◌, ◌++◌, length, take, get_or, Option, Some, None, unwrap_or, pos, refl, sym, ap, ◌∙◌, subst, arith, inl, inr, MatchOption}
use Rattle.std.specs.Prelude.{slice_get, codes, IsSomeAnd}
use Rattle.std.specs.List.{AllByRecursion}
use Rattle.std.specs.Fmt.{decimal}
use Rattle.std.proofs.lemmas.Bool.{cases_lt}
use Rattle.std.proofs.lemmas.Fmt.{decimal_injective}
use Rattle.std.proofs.lemmas.List.{length-take-le}
use Rattle.std.proofs.lemmas.List.Elements.{recursion_from_All}
use Rattle.std.proofs.lemmas.Option.{slice_get-get_or}
use Rattle.sdg_base.specs.declared.port.Port.{Port}
use Rattle.sdg_base.specs.declared.port.Port.TheVariants as port
use Rattle.run_text.specs.Index.{IsFirstField}
use Rattle.placement.specs.Ports.{IsCellAmong, IsSenderAmong}
use Rattle.run_text.specs.Schedules.{Words, HasFirstField, port_text, IsNoCell, IsNoSender}
use Rattle.run_text.specs.ScheduleReading.{IsCellText, IsSenderText}
use Rattle.run_text.proofs.Decimal.{lacks, long_of_byte}
use Rattle.run_text.proofs.Rules.{slice_get-take}

-- ---- The last slash of a text is in one place.

abbrev pub NoSlash : List ℕ → Type 0
NoSlash bs = AllByRecursion (λ b. b ≢ 47) bs

no_seam : (n d e : List ℕ) → NoSlash d → d ≡ n ++ 47 ∷ e → ⊥
no_seam [] [] e h s = cc
no_seam [] (b ∷ d) e h s = let x : b ≡ 47 = cc in h.0 x
no_seam (x ∷ n) [] e h s = cc
no_seam (x ∷ n) (b ∷ d) e h s = let t : d ≡ n ++ 47 ∷ e = cc in no_seam n d e h.1 t

last_cut : (m n d e : List ℕ) → NoSlash d → NoSlash e → m ++ 47 ∷ d ≡ n ++ 47 ∷ e → (m ≡ n) × (d ≡ e)
last_cut [] [] d e f g s = let t : d ≡ e = cc in (refl, t)
last_cut [] (x ∷ n) d e f g s = let t : d ≡ n ++ 47 ∷ e = cc in absurd (no_seam n d e f t)
last_cut (x ∷ m) [] d e f g s = let t : e ≡ m ++ 47 ∷ d = cc in absurd (no_seam m e d g t)
last_cut (x ∷ m) (y ∷ n) d e f g s =
    let one : x ≡ y = cc in
    let t : m ++ 47 ∷ d ≡ n ++ 47 ∷ e = cc in
    let later = last_cut m n d e f g t in
    let both : x ∷ m ≡ y ∷ n = cc in
    (both, later.1)

number_no_slash : (n : ℕ) → n < 256 → NoSlash (decimal n)
number_no_slash n lt = recursion_from_All (λ b. b ≢ 47) (decimal n) (lacks 47 (λ e. absurd (omega arith)) (λ r. absurd (omega (arith, r.0))) (pos n) (long_of_byte n lt))

in_no_slash : NoSlash (codes "in")
in_no_slash = ((λ e. omega arith), ((λ e. omega arith), tt))

join_no_slash : NoSlash (codes "join")
join_no_slash = ((λ e. omega arith), ((λ e. omega arith), ((λ e. omega arith), ((λ e. omega arith), tt))))

caller_no_slash : NoSlash (codes "caller")
caller_no_slash = ((λ e. omega arith), ((λ e. omega arith), ((λ e. omega arith), ((λ e. omega arith), ((λ e. omega arith), ((λ e. omega arith), tt))))))

-- ---- The names of fields

abbrev pub name_at : Words → ℕ → List ℕ
name_at fields f = unwrap_or (slice_get fields f) []

name_is : (fields : Words) (f : ℕ) → f < length fields → name_at fields f ≡ get_or fields f []
name_is fields f lt = ap (λ (o : Option (List ℕ)). unwrap_or o []) (slice_get-get_or fields f [] lt)

name_in_front : (fields : Words) (f g : ℕ) → f < g → g < length fields → get_or (take g fields) f [] ≡ name_at fields f
name_in_front fields f g lt le =
    let inside : f < length (take g fields) = omega (arith, length-take-le g fields (omega arith)) in
    sym (name_is (take g fields) f inside) ∙ ap (λ (o : Option (List ℕ)). unwrap_or o []) (slice_get-take g fields f lt)

no_earlier : (fields : Words) (f g : ℕ) → g < length fields → All (λ other. other ≢ name_at fields g) (take g fields) → name_at fields f ≡ name_at fields g → g ≤ f
no_earlier fields f g inside first same =
    elim (cases_lt f g) [
      | inl lt ↦ absurd (first f [] (omega (arith, length-take-le g fields (omega arith))) (name_in_front fields f g lt inside ∙ same))
      | inr le ↦ le
    ]

one_field : (fields : Words) (f g : ℕ) → f < length fields → g < length fields → All (λ other. other ≢ name_at fields f) (take f fields) → All (λ other. other ≢ name_at fields g) (take g fields) → name_at fields f ≡ name_at fields g → f ≡ g
one_field fields f g p q first second same =
    omega (arith, no_earlier fields f g q second same, no_earlier fields g f p first (sym same))

first_within : (fields : Words) (name : List ℕ) (f : ℕ) → IsSomeAnd (slice_get fields f) (λ d. d ≡ name) → (f < length fields) × (name_at fields f ≡ name)
first_within [] name f h = absurd h
first_within (d ∷ fields) name zero h = (omega arith, h)
first_within (d ∷ fields) name (suc f) h = let p = first_within fields name f h in (omega (arith, p.0), p.1)

-- ---- The slot that a word with a slash writes

record SlotOf (fields : Words) (slots : ℕ) (name number : List ℕ) (p : Port) : Type 0 where
  field : ℕ
  slot : ℕ
  is : p ≡ port.Slot field slot
  field_in : field < length fields
  slot_in : slot < slots
  name_is : name_at fields field ≡ name
  number_is : decimal slot ≡ number

slot_from : (fields : Words) (slots : ℕ) (word name number : List ℕ) (p : Port) → slots ≤ 255 → word ≢ codes "in" → word ≢ codes "join" → (name ++ 47 ∷ number ≡ word) × All (λ b. b ≢ 47) number → IsCellAmong (length fields) slots p → port_text fields p ≡ word → SlotOf fields slots name number p
slot_from fields slots word name number port.Caller few a b parts cell text = absurd cell
slot_from fields slots word name number port.Sink few a b parts cell text = absurd cell
slot_from fields slots word name number port.Front few a b parts cell text = absurd (a (sym text))
slot_from fields slots word name number port.Join few a b parts cell text = absurd (b (sym text))
slot_from fields slots word name number (port.Inst f n) few a b parts cell text = absurd cell
slot_from fields slots word name number (port.Slot f s) few a b parts cell text =
    let both = last_cut (name_at fields f) name (decimal s) number (number_no_slash s (omega (arith, cell.1))) (recursion_from_All (λ b. b ≢ 47) number parts.1) (text ∙ sym parts.0) in
    record { field = f; slot = s; is = refl; field_in = cell.0; slot_in = cell.1; name_is = both.0; number_is = both.1 }

pub no_slash_no_cell : (fields : Words) (slots : ℕ) (word : List ℕ) → word ≢ codes "in" → word ≢ codes "join" → All (λ b. b ≢ 47) word → IsNoCell fields slots word
no_slash_no_cell fields slots word a b none port.Caller cell text = absurd cell
no_slash_no_cell fields slots word a b none port.Sink cell text = absurd cell
no_slash_no_cell fields slots word a b none port.Front cell text = absurd (a (sym text))
no_slash_no_cell fields slots word a b none port.Join cell text = absurd (b (sym text))
no_slash_no_cell fields slots word a b none (port.Inst f n) cell text = absurd cell
no_slash_no_cell fields slots word a b none (port.Slot f s) cell text =
    no_seam (name_at fields f) word (decimal s) (recursion_from_All (λ b. b ≢ 47) word none) (sym text)

pub no_field_no_cell : (fields : Words) (slots : ℕ) (word name number : List ℕ) → slots ≤ 255 → word ≢ codes "in" → word ≢ codes "join" → (name ++ 47 ∷ number ≡ word) × All (λ b. b ≢ 47) number → All (λ field. field ≢ name) fields → IsNoCell fields slots word
no_field_no_cell fields slots word name number few a b parts none p cell text =
    let s = slot_from fields slots word name number p few a b parts cell text in
    none s.field [] s.field_in (sym (name_is fields s.field s.field_in) ∙ s.name_is)

pub no_number_no_cell : (fields : Words) (slots : ℕ) (word name number : List ℕ) → slots ≤ 255 → word ≢ codes "in" → word ≢ codes "join" → (name ++ 47 ∷ number ≡ word) × All (λ b. b ≢ 47) number → ((n : ℕ) → n < slots → decimal n ≢ number) → IsNoCell fields slots word
no_number_no_cell fields slots word name number few a b parts none p cell text =
    let s = slot_from fields slots word name number p few a b parts cell text in
    none s.slot s.slot_in s.number_is

-- no slot below is written as one that isn't
pub none_below : (slots slot n : ℕ) (number : List ℕ) → slots ≤ 255 → slot ≤ 255 → slots ≤ slot → decimal slot ≡ number → n < slots → decimal n ≢ number
none_below slots slot n number few small le text lt e =
    let same : n ≡ slot = decimal_injective n slot (omega arith) (omega arith) (e ∙ sym text) in omega arith

pub slot_text : (fields : Words) (slots field slot : ℕ) (word name number : List ℕ) → (name ++ 47 ∷ number ≡ word) × All (λ b. b ≢ 47) number → IsFirstField fields name (Some field) → decimal slot ≡ number → slot < slots → IsCellText fields slots word (port.Slot field slot)
slot_text fields slots field slot word name number parts first text lt =
    let at = first_within fields name field first.0 in
    record {
      cell = (at.0, lt);
      first = subst (λ (n : List ℕ). All (λ other. other ≢ n) (take field fields)) (sym at.1) first.1;
      text = ap (λ (n : List ℕ). n ++ 47 ∷ decimal slot) at.1 ∙ ap (λ (d : List ℕ). name ++ 47 ∷ d) text ∙ parts.0;
    }

-- ---- Senders

no_sender : (fields : Words) (slots : ℕ) (word : List ℕ) → word ≢ codes "caller" → IsNoCell fields slots word → IsNoSender fields slots word
no_sender fields slots word a none port.Caller sender text = absurd (a (sym text))
no_sender fields slots word a none port.Sink sender text = absurd sender
no_sender fields slots word a none port.Front sender text = none port.Front sender text
no_sender fields slots word a none port.Join sender text = none port.Join sender text
no_sender fields slots word a none (port.Inst f n) sender text = absurd sender
no_sender fields slots word a none (port.Slot f s) sender text = none (port.Slot f s) sender text

pub sender_from_cell : (fields slots : ℕ) (p : Port) → IsCellAmong fields slots p → IsSenderAmong fields slots p
sender_from_cell fields slots port.Caller cell = absurd cell
sender_from_cell fields slots port.Sink cell = absurd cell
sender_from_cell fields slots port.Front cell = cell
sender_from_cell fields slots port.Join cell = cell
sender_from_cell fields slots (port.Inst f n) cell = absurd cell
sender_from_cell fields slots (port.Slot f s) cell = cell

pub sender_text : (fields : Words) (slots : ℕ) (word : List ℕ) (found : Option Port) → word ≢ codes "caller" → MatchOption found (IsNoCell fields slots word) (IsCellText fields slots word) → MatchOption found (IsNoSender fields slots word) (IsSenderText fields slots word)
sender_text fields slots word None a none = no_sender fields slots word a none
sender_text fields slots word (Some p) a c = record { sender = sender_from_cell (length fields) slots p c.cell; first = c.first; text = c.text }

-- ---- A word is that of one port.

one_slot : (fields : Words) (slots f s g t : ℕ) → slots ≤ 255 → IsCellAmong (length fields) slots (port.Slot f s) → IsCellAmong (length fields) slots (port.Slot g t) → HasFirstField fields (port.Slot f s) → HasFirstField fields (port.Slot g t) → port_text fields (port.Slot f s) ≡ port_text fields (port.Slot g t) → port.Slot f s ≡ port.Slot g t
one_slot fields slots f s g t few p q first second same =
    let both = last_cut (name_at fields f) (name_at fields g) (decimal s) (decimal t) (number_no_slash s (omega (arith, p.1))) (number_no_slash t (omega (arith, q.1))) same in
    let fields_same : f ≡ g = one_field fields f g p.0 q.0 first second both.0 in
    let slots_same : s ≡ t = decimal_injective s t (omega (arith, p.1)) (omega (arith, q.1)) both.1 in
    ap (λ (n : ℕ). port.Slot n s) fields_same ∙ ap (λ (n : ℕ). port.Slot g n) slots_same

pub one_sender : (fields : Words) (slots : ℕ) (p q : Port) → slots ≤ 255 → IsSenderAmong (length fields) slots p → IsSenderAmong (length fields) slots q → HasFirstField fields p → HasFirstField fields q → port_text fields p ≡ port_text fields q → p ≡ q
one_sender fields slots port.Sink q few a b f g same = absurd a
one_sender fields slots (port.Inst x y) q few a b f g same = absurd a
one_sender fields slots port.Caller port.Sink few a b f g same = absurd b
one_sender fields slots port.Front port.Sink few a b f g same = absurd b
one_sender fields slots port.Join port.Sink few a b f g same = absurd b
one_sender fields slots (port.Slot x y) port.Sink few a b f g same = absurd b
one_sender fields slots port.Caller (port.Inst v w) few a b f g same = absurd b
one_sender fields slots port.Front (port.Inst v w) few a b f g same = absurd b
one_sender fields slots port.Join (port.Inst v w) few a b f g same = absurd b
one_sender fields slots (port.Slot x y) (port.Inst v w) few a b f g same = absurd b
one_sender fields slots port.Caller port.Caller few a b f g same = refl
one_sender fields slots port.Front port.Front few a b f g same = refl
one_sender fields slots port.Join port.Join few a b f g same = refl
one_sender fields slots port.Caller port.Front few a b f g same = cc
one_sender fields slots port.Caller port.Join few a b f g same = cc
one_sender fields slots port.Front port.Caller few a b f g same = cc
one_sender fields slots port.Front port.Join few a b f g same = cc
one_sender fields slots port.Join port.Caller few a b f g same = cc
one_sender fields slots port.Join port.Front few a b f g same = cc
one_sender fields slots port.Caller (port.Slot v w) few a b f g same = absurd (no_seam (name_at fields v) (codes "caller") (decimal w) caller_no_slash same)
one_sender fields slots port.Front (port.Slot v w) few a b f g same = absurd (no_seam (name_at fields v) (codes "in") (decimal w) in_no_slash same)
one_sender fields slots port.Join (port.Slot v w) few a b f g same = absurd (no_seam (name_at fields v) (codes "join") (decimal w) join_no_slash same)
one_sender fields slots (port.Slot x y) port.Caller few a b f g same = absurd (no_seam (name_at fields x) (codes "caller") (decimal y) caller_no_slash (sym same))
one_sender fields slots (port.Slot x y) port.Front few a b f g same = absurd (no_seam (name_at fields x) (codes "in") (decimal y) in_no_slash (sym same))
one_sender fields slots (port.Slot x y) port.Join few a b f g same = absurd (no_seam (name_at fields x) (codes "join") (decimal y) join_no_slash (sym same))
one_sender fields slots (port.Slot x y) (port.Slot v w) few a b f g same = one_slot fields slots x y v w few a b f g same

pub one_cell : (fields : Words) (slots : ℕ) (p q : Port) → slots ≤ 255 → IsCellAmong (length fields) slots p → IsCellAmong (length fields) slots q → HasFirstField fields p → HasFirstField fields q → port_text fields p ≡ port_text fields q → p ≡ q
one_cell fields slots p q few a b f g same =
    one_sender fields slots p q few (sender_from_cell (length fields) slots p a) (sender_from_cell (length fields) slots q b) f g same
