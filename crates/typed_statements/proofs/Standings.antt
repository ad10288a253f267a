-- What is typed from point to point, one part after another, in braces, and where points are alike.
use Rattle.std.proofs.Common.{◌≡◌, ℕ, ◌<◌, ◌≤◌, true, List, [], ◌∷◌, ◌++◌, length, Option, Some, sym, ap, subst, ◌∙◌, arith}
use Rattle.std.proofs.lemmas.List.{length-append}
use Rattle.java_types.specs.declared.statements.Around.{Around as TypesAround}
use Rattle.annotations.specs.declared.walk.Awaited.{Awaited}
use Rattle.body_code.specs.Checking.{Standing, Around, Checking, next}
use Rattle.body_code.specs.Early.{Assigned, is_in}
use Rattle.typed_bodies.specs.Reading.{Place}
use Rattle.typed_statements.specs.Points.{Setting, Point, place_at, Knows, Waits}
use Rattle.typed_statements.specs.Checks.{Leads, Ready, Checked, AssignBelow, Checks}
use Rattle.typed_statements.specs.Goes.{Grows}
use Rattle.typed_statements.proofs.Early.{seen_after, early_first, early_second, seen_below}
use Rattle.typed_statements.proofs.Going.{alike_place}
use Rattle.typed_statements.proofs.InTurn.{Same, Stable}

pub longer : {A : Type 0} {xs ys : List A} → Grows xs ys → length xs ≤ length ys
longer {xs = xs} {ys = ys} g = subst (λ zs. length xs ≤ length zs) (sym g.is) (more xs g.more)
  where
    more : {A : Type 0} (xs ys : List A) → length xs ≤ length (xs ++ ys)
    more xs ys = simp length-append (grind (arith))

pub at_most : (n m l : ℕ) → n ≤ m → m ≤ l → n ≤ l
at_most n m l a b = grind (arith)

pub less_than : (n m l : ℕ) → n < m → m ≤ l → n < l
less_than n m l a b = grind (arith)

pub all_below : (m l : ℕ) → m ≤ l → (xs : List Assigned) → AssignBelow m xs → AssignBelow l xs
all_below m l le [] h = tt
all_below m l le (x ∷ xs) h = (less_than x.variable m l h.0 le, all_below m l le xs h.1)

pub below_both : (m : ℕ) (xs ys : List Assigned) → AssignBelow m xs → AssignBelow m ys → AssignBelow m (xs ++ ys)
below_both m [] ys h k = k
below_both m (x ∷ xs) ys h k = (h.0, below_both m xs ys h.1 k)

-- ---- points that are alike

module _ (k : Setting) (a : TypesAround) where
  ready_same : {at mid : Point} {st : Standing} {exits : Around} {seen : List ℕ} {xs : List Assigned} → Same k at mid → Ready k a at st exits seen xs → Ready k a mid st exits seen xs
  ready_same {at = at} {mid = mid} {st = st} {seen = seen} s r = record {
    knows = subst (λ (p : Place). Knows p st) (sym (alike_place s.alike)) r.knows;
    waits = subst (λ (o : Option Awaited). Waits (place_at k mid) o st) (sym s.awaited) (subst (λ (p : Place). Waits p at.marks.awaited st) (sym (alike_place s.alike)) r.waits);
    leads = r.leads;
    are_seen = λ v e. subst (λ n. v < n) (sym (ap length s.alike.variables)) (r.are_seen v e);
    early = r.early;
  }

  checked_same : {mid to : Point} {st : Standing} {o : Option Standing} → Same k mid to → Checked k mid st o → Checked k to st o
  checked_same {mid = mid} {to = to} s c = record {
    after = c.after;
    is = c.is;
    keeps = c.keeps;
    knows = subst (λ (p : Place). Knows p c.after) (sym (alike_place s.alike)) c.knows;
    waits = subst (λ (o : Option Awaited). Waits (place_at k to) o c.after) (sym s.awaited) (subst (λ (p : Place). Waits p mid.marks.awaited c.after) (sym (alike_place s.alike)) c.waits);
  }

  pub checks_stable : {A : Type 0} (check : A → Checking) (assigns : A → List Assigned) → Stable k (λ at to (x : A). Checks k a at to (check x) (assigns x))
  checks_stable check assigns = record {
    from = λ at mid to x s c. record {
      longer = subst (λ n. n ≤ length to.cursor.variables) (ap length s.alike.variables) c.longer;
      below = c.below;
      checked = λ st exits seen r. c.checked st exits seen (ready_same s r);
    };
    to = λ at mid to x s c. record {
      longer = subst (λ n. length at.cursor.variables ≤ n) (sym (ap length s.alike.variables)) c.longer;
      below = subst (λ n. AssignBelow n (assigns x)) (sym (ap length s.alike.variables)) c.below;
      checked = λ st exits seen r. checked_same s (c.checked st exits seen r);
    };
  }

  -- ---- one after the other

  leads_on : {exits : Around} {st after : Standing} → ((v : ℕ) → is_in v st.known ≡ true → is_in v after.known ≡ true) → Leads exits st → Leads exits after
  leads_on keeps l = record { need = l.need; is = l.is; no_field = l.no_field; no_gathered = l.no_gathered; known = λ v e. keeps v (l.known v e) }

  next_is : {o : Option Standing} (f : Standing → Option Standing) {after : Standing} → o ≡ Some after → next f o ≡ f after
  next_is f e = ap (next f) e

  pub checks_both : {at mid to : Point} (first second : Checking) (xs ys : List Assigned) → Checks k a at mid first xs → Checks k a mid to second ys
      → Checks k a at to (λ exits st. next (second exits) (first exits st)) (xs ++ ys)
  checks_both {at = at} {mid = mid} {to = to} first second xs ys c d = record {
    longer = at_most _ _ _ c.longer d.longer;
    below = below_both (length to.cursor.variables) xs ys (all_below _ _ d.longer xs c.below) d.below;
    checked = λ st exits seen r.
        let p = c.checked st exits seen (record { knows = r.knows; waits = r.waits; leads = r.leads; are_seen = r.are_seen; early = λ v e. r.early v (early_first seen xs ys v e) }) in
        let q = d.checked p.after exits (seen_after seen xs) (record {
          knows = p.knows;
          waits = p.waits;
          leads = λ e. leads_on p.keeps (r.leads e);
          are_seen = seen_below (length mid.cursor.variables) seen xs (λ v e. less_than v _ _ (r.are_seen v e) c.longer) c.below;
          early = λ v e. p.keeps v (r.early v (early_second seen xs ys v e));
        }) in
        record { after = q.after; is = next_is (second exits) p.is ∙ q.is; keeps = λ v e. q.keeps v (p.keeps v e); knows = q.knows; waits = q.waits };
  }
