-- Labels of code that is put together.
use Rattle.std.proofs.Common.{◌≡◌, refl, sym, ap, subst, ◌∙◌, ℕ, suc, ◌+◌, ◌<◌, ◌≤◌, arith, false, List, [], ◌∷◌, ◌++◌, length, length-append, Some, None, ◌⊎◌, inl, inr}
use Rattle.std.proofs.lemmas.Bool.{false≢true}
use Rattle.sdg_base.specs.declared.value_type.ValueType.TheVariants as type
use Rattle.flat_code.specs.declared.graph.Instr.{Instr}
use Rattle.flat_code.specs.declared.graph.Instr.TheVariants as instr
use Rattle.flat_code.specs.Ways.{IsIn, IsFirst, IsLater, next_of, next_in_task, reads, writes}
use Rattle.flat_code.specs.Verified.{Stack, is_of_entry, is_of_merge, IsJumpTo}
use Rattle.body_code.specs.Checking.{Standing}
use Rattle.verified_code.proofs.Labels.{Behind, Anything, Turning, Label, label, Setting, Knows, MayRead, Stays, stays_on, Eases, eases_on, same_eases, Own, Takes, Suits, OfKind, Right, Good, Agrees, good_both, agrees_left, agrees_right, Begins, begins_with, joined, Made}

-- ---- ways on

abbrev pub Among : ℕ → List ℕ → Type 0
Among x [] = ⊥
Among x (y ∷ ys) = (x ≡ y) ⊎ Among x ys

pub among : (x : ℕ) (ys : List ℕ) → IsIn x ys → Among x ys
among x ys (IsFirst xs) = inl refl
among x ys (IsLater y xs h) = inr (among x xs h)

pub in_none : (x : ℕ) → IsIn x [] → ⊥
in_none x h = among x [] h

pub only_one : (x y : ℕ) → IsIn x (y ∷ []) → x ≡ y
only_one x y h = elim (among x (y ∷ []) h) [ inl e ↦ e | inr k ↦ absurd k ]

pub one_or_other : (x y z : ℕ) → IsIn x (y ∷ z ∷ []) → (x ≡ y) ⊎ (x ≡ z)
one_or_other x y z h = elim (among x (y ∷ z ∷ []) h) [ inl e ↦ inl e | inr (inl e) ↦ inr e | inr (inr k) ↦ absurd k ]

pub next_is : (at : ℕ) (i : Instr) (next : ℕ) → IsIn next (next_in_task at i) → IsIn next (next_of at i)
next_is at (instr.Cut t) next h = absurd (in_none next h)
next_is at (instr.Part t) next h = absurd (in_none next h)
next_is at _ next h = h

jump_is_next : (at : ℕ) (i : Instr) (next : ℕ) → IsJumpTo next i → IsIn next (next_of at i)
jump_is_next at (instr.Jump to) next j = subst (λ (n : ℕ). IsIn next (n ∷ [])) (sym j) (IsFirst [])
jump_is_next at (instr.IfFalse to) next j = IsLater (suc at) (to ∷ []) (subst (λ (n : ℕ). IsIn next (n ∷ [])) (sym j) (IsFirst []))
jump_is_next at _ next j = absurd j

-- ---- one instruction

-- what is said of a place behind an instruction, by what holds before it
pub record Follows (s : Setting) (at : ℕ) (i : Instr) (l e : Label) : Type 0 where
  pub falls : e.rank < l.rank
  pub knows : (v : ℕ) → Knows e.standing v → Knows l.standing v ⊎ (writes i ≡ Some v)
  pub may_read : (v : ℕ) → IsIn v (reads i) → MayRead s l.standing v
  pub stays : (next : ℕ) → IsIn next (next_in_task at i) → Stays l e
  pub takes : Takes s i l.stack e.stack
  pub kind : OfKind s i

pub right_by : (s : Setting) (lab : ℕ → Label) (at : ℕ) (i : Instr) (l e : Label) → lab at ≡ l → Follows s at i l e → ((next : ℕ) → IsIn next (next_of at i) → Eases e (lab next))
    → Own s lab at i → (lab (suc at)).behind ≡ Anything → Right s lab at i
right_by s lab at i l e is f goes own behind =
    let back : l ≡ lab at = sym is in
    record {
      after = e.stack;
      takes = subst (λ (x : Label). Takes s i x.stack e.stack) back f.takes;
      stacks = λ next h. (goes next h).stack;
      ranks = λ next h no_turn. (let below : (lab next).rank ≤ e.rank = (goes next h).rank in let less : e.rank < l.rank = f.falls in
          subst (λ (x : Label). (lab next).rank < x.rank) back (omega (arith, below, less)));
      knows = λ next h v known. subst (λ (x : Label). Knows x.standing v ⊎ (writes i ≡ Some v)) back (f.knows v ((goes next h).known v known));
      may_read = λ v h. subst (λ (x : Label). MayRead s x.standing v) back (f.may_read v h);
      jumps = λ next j. (goes next (jump_is_next at i next j)).behind;
      stays = λ next h. subst (λ (x : Label). Stays x (lab next)) back (stays_on (f.stays next h) (goes next (next_is at i next h)).stays);
      own = own;
      suits = subst (λ (b : Behind). Suits i b) (sym behind) tt;
      kind = f.kind;
    }

-- an instruction that goes on to the next one alone
pub one : (s : Setting) (Out : (ℕ → Label) → Type 0) (at : ℕ) (i : Instr) (st : Standing) (stack : Stack) (e : Label) → next_of at i ≡ suc at ∷ [] → Follows s at i (label st stack (suc e.rank)) e
    → ((lab : ℕ → Label) → lab at ≡ label st stack (suc e.rank) → Own s lab at i) → Made s Out at (i ∷ []) st stack e
one s Out at i st stack e straight f own = record {
  rank = suc e.rank;
  above = omega arith;
  labels = label st stack (suc e.rank) ∷ [];
  long = refl;
  begins = same_eases st stack (suc e.rank) (suc e.rank) (omega arith);
  good = λ lab end end_is agrees eases out.
      (let here : end ≡ suc at = omega (arith, end_is) in
      let behind : Eases e (lab (suc at)) = subst (λ (n : ℕ). Eases e (lab n)) here eases in (
        right_by s lab at i (label st stack (suc e.rank)) e agrees.0 f
            (λ next h. subst (λ (n : ℕ). Eases e (lab n)) (sym (only_one next (suc at) (subst (λ (ns : List ℕ). IsIn next ns) straight h))) behind)
            (own lab agrees.0) behind.behind,
        tt,
      ));
}

-- an instruction behind which nothing goes on
pub last : (s : Setting) (Out : (ℕ → Label) → Type 0) (at : ℕ) (i : Instr) (st : Standing) (stack after : Stack) (e : Label) → next_of at i ≡ [] → Takes s i stack after → ((v : ℕ) → IsIn v (reads i) → MayRead s st v) → OfKind s i
    → ((lab : ℕ → Label) → lab at ≡ label st stack (suc e.rank) → Own s lab at i) → Made s Out at (i ∷ []) st stack e
last s Out at i st stack after e ends takes may_read kind own = record {
  rank = suc e.rank;
  above = omega arith;
  labels = label st stack (suc e.rank) ∷ [];
  long = refl;
  begins = same_eases st stack (suc e.rank) (suc e.rank) (omega arith);
  good = λ lab end end_is agrees eases out.
      (let here : end ≡ suc at = omega (arith, end_is) in
      let behind : Eases e (lab (suc at)) = subst (λ (n : ℕ). Eases e (lab n)) here eases in (
        right_by s lab at i (label st stack (suc e.rank)) (label st after e.rank) agrees.0
            (record { falls = omega arith; knows = λ v h. inl h; may_read = may_read; stays = λ next h. record { field = inr refl; gathered = inr refl; visit = refl }; takes = takes; kind = kind })
            (λ next h. absurd (in_none next (subst (λ (ns : List ℕ). IsIn next ns) ends h)))
            (own lab agrees.0) behind.behind,
        tt,
      ));
}

-- ---- several

pub none : (s : Setting) (Out : (ℕ → Label) → Type 0) (at : ℕ) (st : Standing) (stack : Stack) (r : ℕ) → Made s Out at [] st stack (label st stack r)
none s Out at st stack r = record {
  rank = r;
  above = omega arith;
  labels = [];
  long = refl;
  begins = same_eases st stack r r (omega arith);
  good = λ lab end end_is agrees eases out. tt;
}

weaker : (ls : List Label) (first after other : Label) → Begins ls first after → Eases after other → Begins ls first other
weaker [] first after other h k = eases_on h k
weaker (l ∷ ls) first after other h k = h

pub eased : (s : Setting) (Out : (ℕ → Label) → Type 0) (at : ℕ) (code : List Instr) (st : Standing) (stack : Stack) (e other : Label) → Made s Out at code st stack e → Eases e other → Made s Out at code st stack other
eased s Out at code st stack e other a k =
    let below : other.rank ≤ e.rank = k.rank in
    let above : e.rank ≤ a.rank = a.above in
    record {
      rank = a.rank;
      above = omega (arith, below, above);
      labels = a.labels;
      long = a.long;
      begins = weaker a.labels (label st stack a.rank) e other a.begins k;
      good = λ lab end end_is agrees eases out. a.good lab end end_is agrees (eases_on k eases) out;
    }

pub within : (s : Setting) (Out Other : (ℕ → Label) → Type 0) (at : ℕ) (code : List Instr) (st : Standing) (stack : Stack) (e : Label) → ((lab : ℕ → Label) → Other lab → Out lab) → Made s Out at code st stack e → Made s Other at code st stack e
within s Out Other at code st stack e from a = record {
  rank = a.rank;
  above = a.above;
  labels = a.labels;
  long = a.long;
  begins = a.begins;
  good = λ lab end end_is agrees eases out. a.good lab end end_is agrees eases (from lab out);
}

pub both : (s : Setting) (Out : (ℕ → Label) → Type 0) (at k : ℕ) (xs ys : List Instr) (st between : Standing) (stack middle : Stack) (e : Label) → k ≡ at + length xs
    → (b : Made s Out k ys between middle e) → Made s Out at xs st stack (label between middle b.rank) → Made s Out at (xs ++ ys) st stack e
both s Out at k xs ys st between stack middle e place b a =
    let many = length-append xs ys in
    let many_labels = length-append a.labels b.labels in
    let long_a = a.long in
    let long_b = b.long in
    let above_a : b.rank ≤ a.rank = a.above in
    let above_b = b.above in
    record {
      rank = a.rank;
      above = omega (arith, above_a, above_b);
      labels = a.labels ++ b.labels;
      long = omega (arith, many, many_labels, long_a, long_b);
      begins = joined a.labels b.labels (label st stack a.rank) (label between middle b.rank) e a.begins b.begins;
      good = λ lab end end_is agrees eases out.
          (let end_of : end ≡ k + length ys = omega (arith, end_is, place, many) in
          let end_of_labels : end ≡ k + length b.labels = omega (arith, end_of, long_b) in
          let place_of_labels : k ≡ at + length a.labels = omega (arith, place, long_a) in
          let right = agrees_right lab at k a.labels b.labels place_of_labels agrees in
          let enters = begins_with lab k end b.labels between middle b.rank e b.begins end_of_labels right eases in
          good_both s lab at k xs ys place (a.good lab k place (agrees_left lab at a.labels b.labels agrees) enters out) (b.good lab end end_of right eases out));
    }

-- ---- one of two

plain_kind : (s : Setting) (i : Instr) → is_of_entry i ≡ false → is_of_merge i ≡ false → OfKind s i
plain_kind s i e m = record { entry = λ h. absurd (false≢true (sym e ∙ h)); merge = λ h. absurd (false≢true (sym m ∙ h)) }

pub plain : (s : Setting) (i : Instr) → is_of_entry i ≡ false → is_of_merge i ≡ false → OfKind s i
plain = plain_kind

pub jump : (s : Setting) (lab : ℕ → Label) (at to : ℕ) (st : Standing) (stack : Stack) (rank : ℕ) → lab at ≡ label st stack (suc rank) → Eases (label st stack rank) (lab to) → (lab (suc at)).behind ≡ Anything
    → Right s lab at (instr.Jump to)
jump s lab at to st stack rank is goes behind =
    right_by s lab at (instr.Jump to) (label st stack (suc rank)) (label st stack rank) is
    (record { falls = omega arith; knows = λ v h. inl h; may_read = λ v h. absurd (in_none v h); stays = λ next h. record { field = inr refl; gathered = inr refl; visit = refl }; takes = refl; kind = plain_kind s (instr.Jump to) refl refl })
    (λ next h. subst (λ (n : ℕ). Eases (label st stack rank) (lab n)) (sym (only_one next to h)) goes)
    (ap (λ (l : Label). l.visit) is) behind

pub test : (s : Setting) (lab : ℕ → Label) (at to : ℕ) (st : Standing) (stack : Stack) (rank : ℕ) → lab at ≡ label st (type.Boolean ∷ stack) (suc rank) → Eases (label st stack rank) (lab (suc at)) → Eases (label st stack rank) (lab to)
    → Right s lab at (instr.IfFalse to)
test s lab at to st stack rank is on goes =
    right_by s lab at (instr.IfFalse to) (label st (type.Boolean ∷ stack) (suc rank)) (label st stack rank) is
    (record { falls = omega arith; knows = λ v h. inl h; may_read = λ v h. absurd (in_none v h); stays = λ next h. record { field = inr refl; gathered = inr refl; visit = refl }; takes = refl; kind = plain_kind s (instr.IfFalse to) refl refl })
    (λ next h. elim (one_or_other next (suc at) to h) [
      | inl e ↦ subst (λ (n : ℕ). Eases (label st stack rank) (lab n)) (sym e) on
      | inr e ↦ subst (λ (n : ℕ). Eases (label st stack rank) (lab n)) (sym e) goes
    ])
    (ap (λ (l : Label). l.visit) is) on.behind

pub if_else : (s : Setting) (Out : (ℕ → Label) → Type 0) (at k other end : ℕ) (xs ys : List Instr) (st after : Standing) (stack left : Stack) (r : ℕ) → k ≡ suc at → other ≡ suc (k + length xs) → end ≡ other + length ys
    → Made s Out k xs st stack (label after left (suc r)) → Made s Out other ys st stack (label after left r)
    → Made s Out at (instr.IfFalse other ∷ (xs ++ (instr.Jump end ∷ ys))) st (type.Boolean ∷ stack) (label after left r)
if_else s Out at k other end xs ys st after stack left r k_is other_is end_of a b =
    let top = label st (type.Boolean ∷ stack) (suc (a.rank + b.rank)) in
    let jumping = label after left (suc r) in
    let many = length-append xs (instr.Jump end ∷ ys) in
    let many_labels = length-append a.labels (jumping ∷ b.labels) in
    let long_a = a.long in
    let long_b = b.long in
    let above_b = b.above in
    record {
      rank = suc (a.rank + b.rank);
      above = omega (arith, above_b);
      labels = top ∷ (a.labels ++ (jumping ∷ b.labels));
      long = omega (arith, many, many_labels, long_a, long_b);
      begins = same_eases st (type.Boolean ∷ stack) (suc (a.rank + b.rank)) (suc (a.rank + b.rank)) (omega arith);
      good = λ lab last last_is agrees eases out.
          (let from : ℕ = k + length xs in
          let rest : Agrees lab k (a.labels ++ (jumping ∷ b.labels)) = subst (λ (n : ℕ). Agrees lab n (a.labels ++ (jumping ∷ b.labels))) (sym k_is) agrees.1 in
          let behind : Agrees lab from (jumping ∷ b.labels) = agrees_right lab k from a.labels (jumping ∷ b.labels) (omega (arith, long_a)) rest in
          let last_of : last ≡ other + length ys = omega (arith, last_is, many, k_is, other_is) in
          let same : end ≡ last = omega (arith, last_of, end_of) in
          let second : Agrees lab other b.labels = subst (λ (n : ℕ). Agrees lab n b.labels) (sym other_is) behind.1 in
          let enters_b = begins_with lab other last b.labels st stack b.rank (label after left r) b.begins (omega (arith, last_of, long_b)) second eases in
          let at_jump : Eases jumping (lab from) = subst (λ (x : Label). Eases jumping x) (sym behind.0) (same_eases after left (suc r) (suc r) (omega arith)) in
          let enters_a = begins_with lab k from a.labels st stack a.rank jumping a.begins (omega (arith, long_a)) (agrees_left lab k a.labels (jumping ∷ b.labels) rest) at_jump in
          let on : Eases (label st stack (a.rank + b.rank)) (lab (suc at)) = subst (λ (n : ℕ). Eases (label st stack (a.rank + b.rank)) (lab n)) k_is (eases_on (same_eases st stack a.rank (a.rank + b.rank) (omega arith)) enters_a) in
          let over : Eases (label st stack (a.rank + b.rank)) (lab other) = eases_on (same_eases st stack b.rank (a.rank + b.rank) (omega arith)) enters_b in
          let goes : Eases (label after left r) (lab end) = subst (λ (n : ℕ). Eases (label after left r) (lab n)) (sym same) eases in
          let code_a : Good s lab k xs = a.good lab from refl (agrees_left lab k a.labels (jumping ∷ b.labels) rest) at_jump out in
          let code_b : Good s lab other ys = b.good lab last last_of second eases out in
          let code_jump : Right s lab from (instr.Jump end) = jump s lab from end after left r behind.0 goes (subst (λ (n : ℕ). (lab n).behind ≡ Anything) other_is enters_b.behind) in
          let code_rest : Good s lab k (xs ++ (instr.Jump end ∷ ys)) = good_both s lab k from xs (instr.Jump end ∷ ys) refl code_a (code_jump, subst (λ (n : ℕ). Good s lab n ys) other_is code_b) in
          (test s lab at other st stack (a.rank + b.rank) agrees.0 on over, subst (λ (n : ℕ). Good s lab n (xs ++ (instr.Jump end ∷ ys))) k_is code_rest));
    }

-- ---- behind a turn

abbrev pub turning : Standing → Stack → ℕ → Label
turning st stack rank = record { stack = stack; standing = st; visit = None; behind = Turning; rank = rank }

-- a turn and an instruction that goes on to the next one alone
pub turned : (s : Setting) (Out : (ℕ → Label) → Type 0) (at : ℕ) (i : Instr) (st : Standing) (stack : Stack) (e : Label) → next_of (suc at) i ≡ suc (suc at) ∷ [] → Follows s (suc at) i (turning st stack (suc e.rank)) e
    → ((lab : ℕ → Label) → lab (suc at) ≡ turning st stack (suc e.rank) → Eases e (lab (suc (suc at))) → Own s lab (suc at) i) → Made s Out at (instr.Turn ∷ i ∷ []) st stack e
turned s Out at i st stack e straight f own =
    let first = label st stack (suc e.rank) in
    let second = turning st stack (suc e.rank) in
    record {
      rank = suc e.rank;
      above = omega arith;
      labels = first ∷ second ∷ [];
      long = refl;
      begins = same_eases st stack (suc e.rank) (suc e.rank) (omega arith);
      good = λ lab end end_is agrees eases out.
          (let here : end ≡ suc (suc at) = omega (arith, end_is) in
          let behind : Eases e (lab (suc (suc at))) = subst (λ (n : ℕ). Eases e (lab n)) here eases in
          let to : (next : ℕ) → IsIn next (suc at ∷ []) → second ≡ lab next = (λ next h. sym (subst (λ (n : ℕ). lab n ≡ second) (sym (only_one next (suc at) h)) agrees.1.0)) in
          let from : first ≡ lab at = sym agrees.0 in
          let turn : Right s lab at instr.Turn = record {
            after = stack;
            takes = subst (λ (x : Label). Takes s instr.Turn x.stack stack) from refl;
            stacks = λ next h. subst (λ (x : Label). x.stack ≡ stack) (to next h) refl;
            ranks = λ next h no_turn. absurd (no_turn refl);
            knows = λ next h v known. inl (subst (λ (x : Label). Knows x.standing v) from (subst (λ (x : Label). Knows x.standing v) (sym (to next h)) known));
            may_read = λ v h. absurd (in_none v h);
            jumps = λ next j. absurd j;
            stays = λ next h. subst (λ (x : Label). Stays x (lab next)) from (subst (λ (x : Label). Stays first x) (to next h) (record { field = inr refl; gathered = inr refl; visit = refl }));
            own = ap (λ (l : Label). l.visit) agrees.0;
            suits = subst (λ (x : Label). Suits instr.Turn x.behind) (sym agrees.1.0) refl;
            kind = plain_kind s instr.Turn refl refl;
          } in (
            turn,
            (
              right_by s lab (suc at) i second e agrees.1.0 f
                  (λ next h. subst (λ (n : ℕ). Eases e (lab n)) (sym (only_one next (suc (suc at)) (subst (λ (ns : List ℕ). IsIn next ns) straight h))) behind)
                  (own lab agrees.1.0 behind) behind.behind,
              tt,
            ),
          ));
    }
