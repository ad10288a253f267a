-- How much is left of a history: what each call can still have of entries.
use Rattle.std.proofs.Common.{◌≡◌, ◌≢◌, ℕ, zero, suc, ◌+◌, ◌*◌, ◌<◌, ◌≤◌, ◌==◌, ◌&&◌, Bool, true, false, List, [], ◌∷◌, replicate, Option, Some, None, inl, inr, slice_get, slice_set, if◌then◌else◌, refl, ap, sym, ◌∙◌, subst, arith}
use Rattle.std.proofs.lemmas.Bool.{eqb-true, eq-eqb, false_from_ne_true}
use Rattle.sdg_base.specs.declared.val.Outcome.{Outcome}
use Rattle.sdg_base.specs.declared.item.Item.{Item}
use Rattle.sdg_base.specs.declared.item.Item.TheVariants as item
use Rattle.sdg_base.specs.declared.port.Port.TheVariants as port
use Rattle.tagged_agreement.specs.Machine.{Out, Send, Broadcast, ToJoin, Result, Wait, Ignore, call_of, part_of, Parts, gathered_after}
use Rattle.tagged_agreement.specs.History.{most_wide}
use Rattle.tagged_agreement.specs.Source.{Site, Keyed, Local, Global, Next, AtMark, AtEnd, CallState, Fresh, At, Visiting, Ended, Program, at_mark, state_of}
use Rattle.tagged_agreement.specs.Laws.{Falls}
use Rattle.tagged_agreement.proofs.Lists.{number_cases}

-- ---- the instances of a call that visits

-- a visit and a part that are to come, or a part, or nothing
abbrev pub in_part : Option Outcome → Option Item → ℕ
in_part None gathered = 2
in_part (Some o) None = 1
in_part (Some o) (Some y) = 0

abbrev pub in_parts : Parts → ℕ → List (Option Outcome) → ℕ
in_parts parts k [] = 0
in_parts parts k (o ∷ visited) = in_part o (parts k) + in_parts parts (suc k) visited

all_unmade : (parts : Parts) (k width : ℕ) → in_parts parts k (replicate width None) ≡ 2 * width
all_unmade parts k zero = refl
all_unmade parts k (suc width) = let h = all_unmade parts (suc k) width in grow (in_parts parts (suc k) (replicate width None)) width h
  where
    grow : (n width : ℕ) → n ≡ 2 * width → 2 + n ≡ 2 * suc width
    grow n width h = omega arith

-- parts that are the same from a number on
same_parts : (parts others : Parts) (k : ℕ) (visited : List (Option Outcome)) → ((i : ℕ) → k ≤ i → others i ≡ parts i) → in_parts others k visited ≡ in_parts parts k visited
same_parts parts others k [] same = refl
same_parts parts others k (o ∷ visited) same =
    ap (λ (y : Option Item). in_part o y + in_parts others (suc k) visited) (same k (itself k))
    ∙ ap (λ (n : ℕ). in_part o (parts k) + n) (same_parts parts others (suc k) visited (λ i l. same i (less k i l)))
  where
    itself : (n : ℕ) → n ≤ n
    itself n = omega arith

    less : (k i : ℕ) → suc k ≤ i → k ≤ i
    less k i l = omega arith

plus_zero : (k : ℕ) → k + 0 ≡ k
plus_zero k = omega arith

over : (k n : ℕ) → k + suc n ≡ suc k + n
over k n = omega arith

-- an instance is visited
part_made : (parts : Parts) (k n : ℕ) (visited : List (Option Outcome)) (o : Outcome) → slice_get visited n ≡ Some None → parts (k + n) ≡ None → in_parts parts k (slice_set visited n (Some o)) + 1 ≡ in_parts parts k visited
part_made parts k n [] o e none = absurd cc
part_made parts k zero (q ∷ visited) o e none =
    let unmade : q ≡ None = cc in
    let here : parts k ≡ None = ap parts (sym (plus_zero k)) ∙ none in
    ap (λ (y : Option Item). in_part (Some o) y + in_parts parts (suc k) visited + 1) here
    ∙ one_less (in_parts parts (suc k) visited)
    ∙ ap (λ (z : Option Outcome). in_part z (parts k) + in_parts parts (suc k) visited) (sym unmade)
  where
    one_less : (n : ℕ) → 1 + n + 1 ≡ 2 + n
    one_less n = omega arith
part_made parts k (suc n) (q ∷ visited) o e none =
    add (in_part q (parts k)) (in_parts parts (suc k) (slice_set visited n (Some o))) (in_parts parts (suc k) visited) (part_made parts (suc k) n visited o e (ap parts (sym (over k n)) ∙ none))
  where
    add : (a b c : ℕ) → b + 1 ≡ c → a + b + 1 ≡ a + c
    add a b c h = omega arith

-- a part waits
part_parked : (parts others : Parts) (k n : ℕ) (visited : List (Option Outcome)) (o : Outcome) (y : Item) → slice_get visited n ≡ Some (Some o) → parts (k + n) ≡ None → others (k + n) ≡ Some y → ((i : ℕ) → i ≢ k + n → others i ≡ parts i)
    → in_parts others k visited + 1 ≡ in_parts parts k visited
part_parked parts others k n [] o y e none some same = absurd cc
part_parked parts others k zero (q ∷ visited) o y e none some same =
    let made : q ≡ Some o = cc in
    let was : parts k ≡ None = ap parts (sym (plus_zero k)) ∙ none in
    let is : others k ≡ Some y = ap others (sym (plus_zero k)) ∙ some in
    let rest = same_parts parts others (suc k) visited (λ i l. same i (above k i l)) in
    ap (λ (z : Option Outcome). in_part z (others k) + in_parts others (suc k) visited + 1) made
    ∙ ap (λ (z : Option Item). in_part (Some o) z + in_parts others (suc k) visited + 1) is
    ∙ ap (λ (m : ℕ). 0 + m + 1) rest
    ∙ one_less (in_parts parts (suc k) visited)
    ∙ ap (λ (z : Option Item). in_part (Some o) z + in_parts parts (suc k) visited) (sym was)
    ∙ ap (λ (z : Option Outcome). in_part z (parts k) + in_parts parts (suc k) visited) (sym made)
  where
    above : (k i : ℕ) → suc k ≤ i → i ≢ k + 0
    above k i l e = absurd (omega arith)

    one_less : (n : ℕ) → 0 + n + 1 ≡ 1 + n
    one_less n = omega arith
part_parked parts others k (suc n) (q ∷ visited) o y e none some same =
    ap (λ (z : Option Item). in_part q z + in_parts others (suc k) visited + 1) (same k (before k n))
    ∙ add (in_part q (parts k)) (in_parts others (suc k) visited) (in_parts parts (suc k) visited)
    (part_parked parts others (suc k) n visited o y e (ap parts (sym (over k n)) ∙ none) (ap others (sym (over k n)) ∙ some) (λ i ne. same i (λ h. ne (h ∙ over k n))))
  where
    before : (k n : ℕ) → k ≢ k + suc n
    before k n e = absurd (omega arith)

    add : (a b c : ℕ) → b + 1 ≡ c → a + b + 1 ≡ a + c
    add a b c h = omega arith

-- the last part is one at least
some_part : (parts : Parts) (k n : ℕ) (visited : List (Option Outcome)) (o : Outcome) → slice_get visited n ≡ Some (Some o) → parts (k + n) ≡ None → 1 ≤ in_parts parts k visited
some_part parts k n [] o e none = absurd cc
some_part parts k zero (q ∷ visited) o e none =
    let made : q ≡ Some o = cc in
    let was : parts k ≡ None = ap parts (sym (plus_zero k)) ∙ none in
    subst (λ (m : ℕ). 1 ≤ m + in_parts parts (suc k) visited) (sym (ap (λ (z : Option Outcome). in_part z (parts k)) made ∙ ap (in_part (Some o)) was)) (more (in_parts parts (suc k) visited))
  where
    more : (n : ℕ) → 1 ≤ 1 + n
    more n = omega arith
some_part parts k (suc n) (q ∷ visited) o e none = add (in_part q (parts k)) (in_parts parts (suc k) visited) (some_part parts (suc k) n visited o e (ap parts (sym (over k n)) ∙ none))
  where
    add : (a b : ℕ) → 1 ≤ b → 1 ≤ a + b
    add a b h = omega arith

-- ---- calls

-- more than the entries that a call in this state can still have
abbrev pub weight : {Waiting : Type 0} → (Waiting → ℕ) → ℕ → Parts → CallState Waiting → ℕ
weight left most parts Fresh = 1 + 2 * most_wide * most
weight left most parts (At w) = 2 * most_wide * left w + 1
weight left most parts (Visiting w visited) = 2 * most_wide * left w + in_parts parts 0 visited
weight left most parts (Ended outcome) = 0

abbrev pub weight_in : {Waiting : Type 0} → (Waiting → ℕ) → ℕ → Parts → Option (CallState Waiting) → ℕ
weight_in left most parts None = 0
weight_in left most parts (Some state) = weight left most parts state

-- of calls 1 to n
abbrev pub total : (ℕ → ℕ) → ℕ → ℕ
total f zero = 0
total f (suc n) = f (suc n) + total f n

same_total : (f g : ℕ → ℕ) (n : ℕ) → ((c : ℕ) → c ≤ n → f c ≡ g c) → total f n ≡ total g n
same_total f g zero same = refl
same_total f g (suc n) same =
    let first = same (suc n) (itself n) in
    let rest = same_total f g n (λ c l. same c (less c n l)) in
    ap (λ (a : ℕ). a + total f n) first ∙ ap (λ (a : ℕ). g (suc n) + a) rest
  where
    itself : (n : ℕ) → suc n ≤ suc n
    itself n = omega arith

    less : (c n : ℕ) → c ≤ n → c ≤ suc n
    less c n l = omega arith

-- where one falls and the others stay, the total falls
pub total_falls : (f g : ℕ → ℕ) (c n : ℕ) → 1 ≤ c → c ≤ n → f c < g c → ((q : ℕ) → q ≢ c → f q ≡ g q) → total f n < total g n
total_falls f g c zero low high falls same = absurd (omega arith)
total_falls f g c (suc n) low high falls same =
    elim (number_cases (suc n) c) [
      | inl is ↦
          let here : f (suc n) < g (suc n) = subst (λ (k : ℕ). f k < g k) (sym is) falls in
          let rest = same_total f g n (λ q l. same q (λ e. above q n l (e ∙ sym is))) in
          add_here (f (suc n)) (g (suc n)) (total f n) (total g n) here rest
      | inr ne ↦
          let here = same (suc n) ne in
          add_rest (f (suc n)) (g (suc n)) (total f n) (total g n) here (total_falls f g c n low (less c n high ne) falls same)
    ]
  where
    above : (q n : ℕ) → q ≤ n → q ≡ suc n → ⊥
    above q n l e = absurd (omega arith)

    less : (c n : ℕ) → c ≤ suc n → suc n ≢ c → c ≤ n
    less c n l ne = omega arith

    add_here : (a b x y : ℕ) → a < b → x ≡ y → a + x < b + y
    add_here a b x y l e = omega arith

    add_rest : (a b x y : ℕ) → a ≡ b → x < y → a + x < b + y
    add_rest a b x y e l = omega arith

-- ---- one step

times : (a b : ℕ) → a < b → 2 * most_wide * a + 2 * most_wide ≤ 2 * most_wide * b
times a b l = omega arith

module _ {Waiting Fields : Type 0} (p : Program Waiting Fields) (left : Waiting → ℕ) (most : ℕ) where
  -- a call that comes to a mark has at most so much before it
  mark_weight : (widths : ℕ → ℕ) (parts : Parts) (w : Waiting) (site : Site) (n : ℕ) → ((field : ℕ) → widths field ≤ most_wide) → left w < n → weight left most parts (at_mark widths w site) ≤ 2 * most_wide * n
  mark_weight widths parts w (Keyed field key) n wide l = let t = times (left w) n l in omega arith
  mark_weight widths parts w (Local field) n wide l = let t = times (left w) n l in omega arith
  mark_weight widths parts w (Global field) n wide l =
      let t = times (left w) n l in
      let e = all_unmade parts 0 (widths field) in
      let h = wide field in
      sums (2 * most_wide * left w) (in_parts parts 0 (replicate (widths field) None)) (widths field) (2 * most_wide * n) e h t
    where
      sums : (a b width c : ℕ) → b ≡ 2 * width → width ≤ most_wide → a + 2 * most_wide ≤ c → a + b ≤ c
      sums a b width c e h t = omega arith

  next_weight : (widths : ℕ → ℕ) (parts : Parts) (next : Next Waiting) (n : ℕ) → ((field : ℕ) → widths field ≤ most_wide) → ((w : Waiting) → next ≡ AtMark w → left w < n) → weight left most parts (state_of p widths next) ≤ 2 * most_wide * n
  next_weight widths parts (AtMark w) n wide less = mark_weight widths parts w (p.site w) n wide (less w refl)
  next_weight widths parts (AtEnd outcome) n wide less = omega arith

  pub begin_falls : Falls p left most → (widths : ℕ → ℕ) (parts others : Parts) (call : _) → ((field : ℕ) → widths field ≤ most_wide) → weight left most others (state_of p widths (p.begun call)) < weight left most parts Fresh
  begin_falls falls widths parts others call wide =
      let h = next_weight widths others (p.begun call) most wide (λ w e. falls.begun call w e) in
      one_more (weight left most others (state_of p widths (p.begun call))) (2 * most_wide * most) h
    where
      one_more : (a b : ℕ) → a ≤ b → a < 1 + b
      one_more a b l = omega arith

  pub block_falls : Falls p left most → (widths : ℕ → ℕ) (parts others : Parts) (w : Waiting) (instance : Option ℕ) (fields : Fields) → ((field : ℕ) → widths field ≤ most_wide)
      → weight left most others (state_of p widths (p.block w instance fields).0) < weight left most parts (At w)
  block_falls falls widths parts others w instance fields wide =
      let next = (p.block w instance fields).0 in
      let h = next_weight widths others next (left w) wide (λ v e. falls.block w instance fields v e) in
      one_more (weight left most others (state_of p widths next)) (2 * most_wide * left w) h
    where
      one_more : (a b : ℕ) → a ≤ b → a < b + 1
      one_more a b l = omega arith

  pub join_falls : Falls p left most → (widths : ℕ → ℕ) (parts others : Parts) (w : Waiting) (visited : List (Option Outcome)) (outcomes : List Outcome) (n : ℕ) (o : Outcome) → ((field : ℕ) → widths field ≤ most_wide)
      → slice_get visited n ≡ Some (Some o) → parts n ≡ None
      → weight left most others (state_of p widths (p.joined w outcomes)) < weight left most parts (Visiting w visited)
  join_falls falls widths parts others w visited outcomes n o wide made none =
      let next = p.joined w outcomes in
      let h = next_weight widths others next (left w) wide (λ v e. falls.joined w outcomes v e) in
      let some = some_part parts 0 n visited o made (ap parts (from_zero n) ∙ none) in
      one_more (weight left most others (state_of p widths next)) (2 * most_wide * left w) (in_parts parts 0 visited) h some
    where
      from_zero : (n : ℕ) → 0 + n ≡ n
      from_zero n = omega arith

      one_more : (a b c : ℕ) → a ≤ b → 1 ≤ c → a < b + c
      one_more a b c l m = omega arith

pub visit_falls : {Waiting : Type 0} (left : Waiting → ℕ) (most : ℕ) (parts : Parts) (w : Waiting) (visited : List (Option Outcome)) (n : ℕ) (o : Outcome) → slice_get visited n ≡ Some None → parts n ≡ None
    → weight left most parts (Visiting w (slice_set visited n (Some o))) < weight left most parts (Visiting w visited)
visit_falls left most parts w visited n o unmade none =
    one_less (2 * most_wide * left w) (in_parts parts 0 (slice_set visited n (Some o))) (in_parts parts 0 visited) (part_made parts 0 n visited o unmade (ap parts (from_zero n) ∙ none))
  where
    from_zero : (n : ℕ) → 0 + n ≡ n
    from_zero n = omega arith

    one_less : (a b c : ℕ) → b + 1 ≡ c → a + b < a + c
    one_less a b c e = omega arith

pub wait_falls : {Waiting : Type 0} (left : Waiting → ℕ) (most : ℕ) (parts others : Parts) (w : Waiting) (visited : List (Option Outcome)) (n : ℕ) (o : Outcome) (y : Item) → slice_get visited n ≡ Some (Some o) → parts n ≡ None → others n ≡ Some y → ((i : ℕ) → i ≢ n → others i ≡ parts i)
    → weight left most others (Visiting w visited) < weight left most parts (Visiting w visited)
wait_falls left most parts others w visited n o y made none some same =
    one_less (2 * most_wide * left w) (in_parts others 0 visited) (in_parts parts 0 visited)
    (part_parked parts others 0 n visited o y made (ap parts (from_zero n) ∙ none) (ap others (from_zero n) ∙ some) (λ i ne. same i (λ e. ne (e ∙ sym (from_zero n)))))
  where
    from_zero : (n : ℕ) → 0 + n ≡ n
    from_zero n = omega arith

    one_less : (a b c : ℕ) → b + 1 ≡ c → a + b < a + c
    one_less a b c e = omega arith

-- ---- what is gathered of other calls

pub gathered_apart : (x : Item) (out : Out) (gathered : ℕ → Parts) (c number : ℕ) → c ≢ call_of x → gathered_after x out gathered c number ≡ gathered c number
gathered_apart (item.Part call t width instance turns vars value) Wait gathered c number ne =
    ap (λ (b : Bool). if b && number == instance then Some (item.Part call t width instance turns vars value) else gathered c number) (false_from_ne_true (c == call) (λ e. ne (eqb-true c call e)))
gathered_apart (item.Part call t width instance turns vars value) (Send to z) gathered c number ne = ap (λ (b : Bool). if b then None else gathered c number) (false_from_ne_true (c == call) (λ e. ne (eqb-true c call e)))
gathered_apart (item.Part call t width instance turns vars value) (Broadcast f w z) gathered c number ne = ap (λ (b : Bool). if b then None else gathered c number) (false_from_ne_true (c == call) (λ e. ne (eqb-true c call e)))
gathered_apart (item.Part call t width instance turns vars value) (ToJoin z) gathered c number ne = ap (λ (b : Bool). if b then None else gathered c number) (false_from_ne_true (c == call) (λ e. ne (eqb-true c call e)))
gathered_apart (item.Part call t width instance turns vars value) (Result z) gathered c number ne = ap (λ (b : Bool). if b then None else gathered c number) (false_from_ne_true (c == call) (λ e. ne (eqb-true c call e)))
gathered_apart (item.Part call t width instance turns vars value) Ignore gathered c number ne = refl
gathered_apart (item.Start call m args) out gathered c number ne = refl
gathered_apart (item.Work call t key turns vars) out gathered c number ne = refl
gathered_apart (item.Visit call t w turns vars) out gathered c number ne = refl
gathered_apart (item.Done call o) out gathered c number ne = refl

-- another part of a call stays where one waits
pub gathered_beside : (x : Item) (gathered : ℕ → Parts) (number k : ℕ) → part_of port.Join x ≡ Some number → k ≢ number → gathered_after x Wait gathered (call_of x) k ≡ gathered (call_of x) k
gathered_beside (item.Part call t width instance turns vars value) gathered number k is ne =
    let same : instance ≡ number = cc in
    ap (λ (b : Bool). if b then Some (item.Part call t width instance turns vars value) else gathered call k)
    (neither (λ e. ne (eqb-true k instance e ∙ same)))
  where
    neither : ((k == instance) ≡ true → ⊥) → (call == call && k == instance) ≡ false
    neither other = ap (λ (b : Bool). b && k == instance) (eq-eqb call call refl) ∙ ap (λ (b : Bool). true && b) (false_from_ne_true (k == instance) other)
gathered_beside (item.Start call m args) gathered number k is ne = refl
gathered_beside (item.Work call t key turns vars) gathered number k is ne = refl
gathered_beside (item.Visit call t w turns vars) gathered number k is ne = refl
gathered_beside (item.Done call o) gathered number k is ne = refl
