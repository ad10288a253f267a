-- A declaration is typed: one that gives its variable a value, also where that reads the variable itself, and one of a `@Partial` local
-- that gathers for the statement behind it.
use Rattle.std.proofs.Common.{◌≡◌, ℕ, ◌<◌, ◌≤◌, Bool, true, false, ◌||◌, nat_eq, if◌then◌else◌, List, [], ◌∷◌, length, Some, None, refl, sym, ap, subst, ◌∙◌, ◌⊎◌, inl, inr, arith}
use Rattle.std.proofs.lemmas.Bool.Decides.{nat_tests}
use Rattle.sdg_base.specs.declared.value_type.ValueType.{ValueType as SignatureType}
use Rattle.java_tree.specs.declared.types.ValueType.{ValueType}
use Rattle.java_tree.specs.declared.types.ExprType.TheVariants.{Value}
use Rattle.java_tree.specs.declared.types.Declaration.TheVariants as declaration
use Rattle.java_types.specs.declared.statements.Around.{Around}
use Rattle.java_types.specs.declared.walk.Variable.{Variable}
use Rattle.annotations.specs.declared.walk.Awaited.{Awaited}
use Rattle.access_blocks.specs.declared.body.Statement.{Statement}
use Rattle.access_blocks.specs.Resolving.{wanted_by}
use Rattle.body_code.specs.Checking.{Standing, Around as Exits, with_known, outside, gathering}
use Rattle.body_code.specs.Early.{Assigned, assigned_in, early_after, is_in}
use Rattle.marked_bodies.specs.Unmarked.{unmarked}
use Rattle.marked_bodies.proofs.Facts.{or_second}
use Rattle.typed_bodies.specs.Reading.{Place, known_as}
use Rattle.typed_bodies.specs.Needing.{InScope}
use Rattle.typed_bodies.specs.Targets.{KnowsRead}
use Rattle.typed_statements.specs.Points.{Setting, Point, place_at, Knows, IsGathered, IsAwaited, Waits}
use Rattle.typed_statements.specs.Checks.{AssignBelow, Ready, Typed}
use Rattle.typed_statements.proofs.Going.{grown_to, Alike, alike_place}
use Rattle.typed_statements.proofs.Jumping.{none_waits}
use Rattle.typed_statements.proofs.NewPlace.{Entered}
use Rattle.typed_statements.proofs.Standings.{longer}

nat_same : (n : ℕ) → nat_eq n n ≡ true
nat_same n = grind (arith, nat_tests)

or_first : (b c : Bool) → b ≡ true → (b || c) ≡ true
or_first true c e = refl
or_first false c e = absurd (cc)

never_less : (n : ℕ) → n < n → ⊥
never_less n less = grind (arith)

pub less_still : (n m l : ℕ) → n < m → m < l → n < l
less_still n m l a b = grind (arith)

same_local : (i j : ℕ) → declaration.Local i ≡ declaration.Local j → i ≡ j
same_local i j e = cc

-- a variable that its own value reads before it is assigned is read early
early_own : (n : ℕ) (seen reads : List ℕ) → (is_in n seen ≡ true → n < n) → is_in n reads ≡ true → is_in n (early_after seen (record { variable = n; reads = reads } ∷ [])) ≡ true
early_own n seen reads unseen read = by (is_in n seen) unseen
  where
    by : (b : Bool) → (b ≡ true → n < n) → is_in n (if b then [] else (if is_in n reads then n ∷ [] else [])) ≡ true
    by true h = absurd (never_less n (h refl))
    by false h = ap (λ (b : Bool). is_in n (if b then n ∷ [] else [])) read ∙ or_first (nat_eq n n) false (nat_same n)

module _ (k : Setting) (at mid : Point) (is_partial : Bool) (t : ValueType) (e : Entered k at mid is_partial t) where
  abbrev number : ℕ
  number = length at.cursor.variables

  -- What waits is no local that is declared since.
  waits_there : (st : Standing) → Waits (place_at k at) at.marks.awaited st → Waits (place_at k mid) mid.marks.awaited st
  waits_there st h local token is =
      let w = h local token (sym e.awaited ∙ is) in
      record { within = less_still local _ _ w.within e.one_local; gathered = λ name v known d. by v w name (e.names name v known) d }
    where
      by : (v : Variable) → IsAwaited (place_at k at) local st → (name : List ℕ) → (known_as (place_at k at) name ≡ Some v) ⊎ ((v.declaration ≡ declaration.Local (length at.cursor.locals)) × (v.found ≡ Value t))
          → v.declaration ≡ declaration.Local local → IsGathered v st
      by v w name (inl known) d = w.gathered name v known d
      by v w name (inr new) d = absurd (never_less local (subst (λ i. local < i) (sym (same_local local (length at.cursor.locals) (sym d ∙ new.0))) w.within))

  -- What is known before is known there, but for the variable itself: where its own value reads it, it is read early.
  reads_there : (st : Standing) (reads : List ℕ) → Knows (place_at k at) st → (is_partial ≡ false → is_in number reads ≡ true → is_in number st.known ≡ true) → KnowsRead (place_at k mid) st reads
  reads_there st reads knows own v read scope s typed = by (e.scope v scope)
    where
      by : InScope (place_at k at) v ⊎ ((is_partial ≡ false) × (v ≡ number)) → is_in v st.known ≡ true
      by (inl before) = knows v s before typed
      by (inr new) = subst (λ i. is_in i st.known ≡ true) (sym new.1) (own new.0 (subst (λ i. is_in i reads ≡ true) new.1 read))

  knows_behind : (st after : Standing) → ((v : ℕ) → is_in v st.known ≡ true → is_in v after.known ≡ true) → (is_partial ≡ false → is_in number after.known ≡ true) → Knows (place_at k at) st → Knows (place_at k mid) after
  knows_behind st after keeps own knows v s scope typed = by (e.scope v scope)
    where
      by : InScope (place_at k at) v ⊎ ((is_partial ≡ false) × (v ≡ number)) → is_in v after.known ≡ true
      by (inl before) = keeps v (knows v s before typed)
      by (inr new) = subst (λ i. is_in i after.known ≡ true) (sym new.1) (own new.0)

  module _ (a : Around) (to : Point) (alike : Alike k mid to) (s : Statement) where
    knows_to : (after : Standing) → Knows (place_at k mid) after → Knows (place_at k to) after
    knows_to after h = subst (λ (p : Place). Knows p after) (sym (alike_place alike)) h

    as_long : number ≤ length to.cursor.variables
    as_long = longer (grown_to e.variables alike.variables)

    -- ---- a variable gets a value

    pub record Initialises : Type 0 where
      pub reads : List ℕ
      pub assigns : assigned_in s ≡ record { variable = number; reads = reads } ∷ []
      pub runs : (exits : Exits) (st : Standing) → KnowsRead (place_at k mid) st reads → Waits (place_at k mid) mid.marks.awaited st → unmarked k.around s exits st ≡ Some (with_known number (outside st))

    own_early : (i : Initialises) (st : Standing) (exits : Exits) (seen : List ℕ) → Ready k a at st exits seen (assigned_in s) → is_in number i.reads ≡ true → is_in number st.known ≡ true
    own_early i st exits seen r read =
        r.early number (subst (λ (xs : List Assigned). is_in number (early_after seen xs) ≡ true) (sym i.assigns) (early_own number seen i.reads (r.are_seen number) read))

    pub initialised_typed : is_partial ≡ false → to.marks.awaited ≡ None → Initialises → Typed k a at to s
    initialised_typed plain none i = record {
      longer = as_long;
      below = subst (AssignBelow (length to.cursor.variables)) (sym i.assigns) (subst (λ (n : ℕ). number < n) (sym (ap length alike.variables)) (e.one_more plain), tt);
      checked = λ st exits seen r.
          let after = with_known number (outside st) in
          record {
            after = after;
            is = i.runs exits st (reads_there st i.reads r.knows (λ p read. own_early i st exits seen r read)) (waits_there st r.waits);
            keeps = λ v known. or_second (nat_eq v number) (is_in v st.known) known;
            knows = knows_to after (knows_behind st after (λ v known. or_second (nat_eq v number) (is_in v st.known) known) (λ p. or_first (nat_eq number number) (is_in number st.known) (nat_same number)) r.knows);
            waits = none_waits k to after none;
          };
    }

    -- ---- a `@Partial` local waits for what is gathered

    pub record Gathers : Type 0 where
      pub reads : List ℕ
      pub brings : SignatureType
      pub of_type : Value t ≡ wanted_by brings
      pub assigns : assigned_in s ≡ []
      pub runs : (exits : Exits) (st : Standing) → KnowsRead (place_at k mid) st reads → Waits (place_at k mid) mid.marks.awaited st → unmarked k.around s exits st ≡ Some (gathering brings st)

    abbrev waiting : ℕ → ℕ → Awaited
    waiting i n = record { local = i; token = n }

    same_waiting : (i j n m : ℕ) → Some (waiting i n) ≡ Some (waiting j m) → j ≡ i
    same_waiting i j n m is = ap (λ (z : Awaited). z.local) (sym (same_awaited (waiting i n) (waiting j m) is))
      where
        same_awaited : (x y : Awaited) → Some x ≡ Some y → x ≡ y
        same_awaited x y is = cc

    waits_new : (token : ℕ) → to.marks.awaited ≡ Some (record { local = length at.cursor.locals; token = token }) → (g : Gathers) (st : Standing) → Waits (place_at k to) to.marks.awaited (gathering g.brings st)
    waits_new token there g st local other is =
        let own : local ≡ length at.cursor.locals = same_waiting (length at.cursor.locals) local token other (sym there ∙ is) in
        record {
          within = subst (λ (i : ℕ). i < length to.cursor.locals) (sym own) (subst (λ (ls : List ℕ). length at.cursor.locals < length ls) (sym alike.locals) e.one_local);
          gathered = λ name v known d.
              by own v name d (e.names name v (subst (λ (p : Place). known_as p name ≡ Some v) (alike_place alike) known));
        }
      where
        by : local ≡ length at.cursor.locals → (v : Variable) (name : List ℕ) → v.declaration ≡ declaration.Local local
            → (known_as (place_at k at) name ≡ Some v) ⊎ ((v.declaration ≡ declaration.Local (length at.cursor.locals)) × (v.found ≡ Value t)) → IsGathered v (gathering g.brings st)
        by own v name d (inl before) = absurd (never_less local (subst (λ i. local < i) (sym own) (e.begins.agree.in_range name v local before d)))
        by own v name d (inr new) = record { type = g.brings; gathered = refl; found = new.1 ∙ g.of_type }

    partial_is : {P : Type 0} → is_partial ≡ true → is_partial ≡ false → P
    partial_is p q = absurd (cc)

    pub gathered_typed : is_partial ≡ true → (token : ℕ) → to.marks.awaited ≡ Some (record { local = length at.cursor.locals; token = token }) → Gathers → Typed k a at to s
    gathered_typed partial token there g = record {
      longer = as_long;
      below = subst (AssignBelow (length to.cursor.variables)) (sym g.assigns) tt;
      checked = λ st exits seen r.
          let after = gathering g.brings st in
          record {
            after = after;
            is = g.runs exits st (reads_there st g.reads r.knows (λ p. partial_is partial p)) (waits_there st r.waits);
            keeps = λ v known. known;
            knows = knows_to after (knows_behind st after (λ v known. known) (λ p. partial_is partial p) r.knows);
            waits = waits_new token there g st;
          };
    }
