-- What is typed outside of blocks, with its marks where steps come to, has no access before its next mark.
use Rattle.std.proofs.Common.{◌≡◌, ℕ, Bool, true, false, ◌&&◌, ◌||◌, List, [], ◌∷◌, map, Option, Some, None, inl, inr, ◌⊎◌, refl, sym, ap, subst, ◌∙◌}
use Rattle.std.proofs.lemmas.Bool.{false≢true}
use Rattle.sdg_base.specs.declared.value_type.ValueType.{ValueType}
use Rattle.sdg_base.specs.declared.value_type.ValueType.TheVariants.{Boolean}
use Rattle.sdg_base.specs.Signatures.{Signature}
use Rattle.access_blocks.specs.declared.body.Access.{Access}
use Rattle.access_blocks.specs.declared.body.Expression.{Expression}
use Rattle.access_blocks.specs.declared.body.Gather.{Gather}
use Rattle.access_blocks.specs.declared.body.Statement.{Statement, roll-Statement}
use Rattle.access_blocks.specs.declared.body.Statement.TheOpen.{Statement-F}
use Rattle.access_blocks.specs.declared.body.Statement.TheOpen as s
use Rattle.access_blocks.specs.declared.body.Statement.TheFolds.{fold-roll-Statement, ind-Statement, map-Statement}
use Rattle.body_code.specs.Checking.{Surroundings, Standing, Around, Checking, if_so, outside, next, otherwise, common, same_number, met, compound, opened, branching, is_condition, ends_as, after_compound, passing, looping, jumping, returning, assigned, access, is_access, gather, takes, targeted, signature_of, checked_step, checked, checked_list}
use Rattle.marked_bodies.proofs.Facts.{none_some, some_is, both_true, and_true, or_first, or_second, if_so_is, if_then}
use Rattle.code_meaning.specs.Running.{all_plain}
use Rattle.code_meaning.specs.Placed.{Placing, placing_step, placing_of, plain_in, placed_in, opened_in as may_open, are_placed}
use Rattle.quiet_runs.specs.Quiet.{Quieted, quieting, quieted, bare_in, quiet_in, opened_in, marks_in, are_quiet, are_bare}

-- ---- where simple statements end

if_so_stays : (b : Bool) (st after : Standing) → if_so b st ≡ Some after → after.field ≡ st.field
if_so_stays b st after e = sym (ap (λ (x : Standing). x.field) (if_so_is b st after e).1)

assigned_stays : (around : Surroundings) (v : ℕ) (o : Option ValueType) (met : Bool) (st after : Standing) → assigned around v o met st ≡ Some after → after.field ≡ st.field
assigned_stays around v None met st after e = absurd (none_some after e)
assigned_stays around v (Some t) false st after e = absurd (none_some after e)
assigned_stays around v (Some t) true st after e = if_so_stays _ _ after e

no_access : (around : Surroundings) (a : Access) (o : Option Signature) (st after : Standing) → st.field ≡ None → access around a o st ≡ Some after → ⊥
no_access around a None st after none e = none_some after e
no_access around a (Some sig) st after none e =
    let is = (if_then (is_access around a sig st) (targeted around a.target sig.result st) after e).0 in
    false≢true (sym (ap (λ (o : Option ℕ). same_number o (Some a.field)) none) ∙ (both_true (same_number st.field (Some a.field)) _ is).0)

gathered_outside : (around : Surroundings) (g : Gather) (o : Option Signature) (st after : Standing) → gather around g o st ≡ Some after → after.field ≡ None
gathered_outside around g None st after e = absurd (none_some after e)
gathered_outside around g (Some sig) st after e = if_so_stays _ _ after e

jumping_stays : (exits : Around) (st after : Standing) → jumping exits st ≡ Some after → after.field ≡ st.field
jumping_stays None st after e = absurd (none_some after e)
jumping_stays (Some need) st after e = if_so_stays _ st after e

returning_stays : (around : Surroundings) (x : Option Expression) (st after : Standing) → returning around x st ≡ Some after → after.field ≡ st.field
returning_stays around None st after e = if_so_stays _ st after e
returning_stays around (Some x) st after e = if_so_stays _ st after e

-- ---- where parts end

pub record Ended (o : Option Standing) : Type 0 where
  pub end : Standing
  pub is : o ≡ Some end

ended_by : (f : Option Standing → Option Standing) → f None ≡ None → (o : Option Standing) (after : Standing) → f o ≡ Some after → Ended o
ended_by f none None after e = absurd (none_some after (sym none ∙ e))
ended_by f none (Some end) after e = record { end = end; is = refl }

common_none : (b : Bool) (a : Option ℕ) → a ≡ None → common b a ≡ None
common_none true a e = e
common_none false a e = refl

-- both branches end, and so does what is behind them
pub record Both (st after : Standing) (first second : Option Standing) : Type 0 where
  pub one : Ended first
  pub other : Ended second
  pub field : (one.end).field ≡ None → after.field ≡ None

both_ended : (st after : Standing) (first second : Option Standing) → met st first second ≡ Some after → Both st after first second
both_ended st after None second e = absurd (none_some after e)
both_ended st after (Some a) None e = absurd (none_some after e)
both_ended st after (Some a) (Some b) e = record {
  one = record { end = a; is = refl };
  other = record { end = b; is = refl };
  field = λ none. ap (λ (x : Standing). x.field) (sym (some_is _ after e)) ∙ common_none (same_number a.field b.field) a.field none;
}

either_way : (m r : Bool) {A : Type 0} → (m ≡ true) ⊎ A → (A → r ≡ true) → (m || r) ≡ true
either_way m r (inl marks) f = or_first m r marks
either_way m r (inr a) f = or_second m r (f a)

by_marks : {a b : Bool} {A : Type 0} → a ≡ b → (b ≡ true) ⊎ A → (a ≡ true) ⊎ A
by_marks same (inl is) = inl (same ∙ is)
by_marks same (inr a) = inr a

module _ (around : Surroundings) where
  -- ---- what is said of a statement

  record Says (x : Statement) : Type 0 where
    pub plain : (exits : Around) (st after : Standing) → st.field ≡ None → checked around x exits st ≡ Some after → (placing_of x).plain ≡ true → ((quieted x).bare ≡ true) × (after.field ≡ None)
    pub placed : (exits : Around) (st after : Standing) → st.field ≡ None → checked around x exits st ≡ Some after → (placing_of x).placed ≡ true
        → ((quieted x).quiet ≡ true) × (((quieted x).marks ≡ true) ⊎ (after.field ≡ None))
    pub may_open : (exits : Around) (st after : Standing) → st.field ≡ None → checked around x exits st ≡ Some after → (placing_of x).opened ≡ true → (quieted x).opened ≡ true

  abbrev Part : Type 0
  Part = (x : Statement) × Says x

  abbrev bare : Statement-F Part → Statement-F Statement
  bare = map-Statement Part Statement (λ p. p.0)

  abbrev bares : List Part → List Statement
  bares ps = map (λ (p : Part). p.0) ps

  abbrev walks : Statement-F Statement → Statement-F Checking
  walks = map-Statement Statement Checking (checked around)

  abbrev placings : Statement-F Statement → Statement-F Placing
  placings = map-Statement Statement Placing placing_of

  abbrev quiets : Statement-F Statement → Statement-F Quieted
  quiets = map-Statement Statement Quieted quieted

  abbrev all : List Part → Checking
  all ps = checked_list around (bares ps)

  abbrev plains : List Part → Bool
  plains ps = all_plain (map (λ (a : Placing). a.plain) (map placing_of (bares ps)))

  -- ---- lists

  record InTurn (p : Part) (ps : List Part) (exits : Around) (st after : Standing) : Type 0 where
    mid : Standing
    first : checked around p.0 exits st ≡ Some mid
    rest : all ps exits mid ≡ Some after

  in_turn : (p : Part) (ps : List Part) (exits : Around) (st after : Standing) → all (p ∷ ps) exits st ≡ Some after → InTurn p ps exits st after
  in_turn p ps exits st after = by (checked around p.0 exits st) refl
    where
      by : (o : Option Standing) → checked around p.0 exits st ≡ o → next (all ps exits) o ≡ Some after → InTurn p ps exits st after
      by None at e = absurd (none_some after e)
      by (Some mid) at e = record { mid = mid; first = at; rest = e }

  list_plain : (ps : List Part) (exits : Around) (st after : Standing) → st.field ≡ None → all ps exits st ≡ Some after → plains ps ≡ true → (are_bare (bares ps) ≡ true) × (after.field ≡ None)
  list_plain [] exits st after none e h = (refl, sym (ap (λ (x : Standing). x.field) (some_is st after e)) ∙ none)
  list_plain (p ∷ ps) exits st after none e h =
      let t = in_turn p ps exits st after e in
      let k = both_true (placing_of p.0).plain (plains ps) h in
      let one = p.1.plain exits st t.mid none t.first k.0 in
      let rest = list_plain ps exits t.mid after one.1 t.rest k.1 in
      (and_true (quieted p.0).bare (are_bare (bares ps)) one.0 rest.0, rest.1)

  list_placed : (ps : List Part) (exits : Around) (st after : Standing) → st.field ≡ None → all ps exits st ≡ Some after → are_placed (bares ps) ≡ true → are_quiet (bares ps) ≡ true
  list_placed [] exits st after none e h = refl
  list_placed (p ∷ ps) exits st after none e h =
      let t = in_turn p ps exits st after e in
      let k = both_true (placing_of p.0).placed (are_placed (bares ps)) h in
      let one = p.1.placed exits st t.mid none t.first k.0 in
      and_true (quieted p.0).quiet ((quieted p.0).marks || are_quiet (bares ps)) one.0
      (either_way (quieted p.0).marks (are_quiet (bares ps)) one.1 (λ here. list_placed ps exits t.mid after here t.rest k.1))

  -- ---- layers

  branch_parts : (test : Expression) (first : Part) (second : Option Checking) (exits : Around) (st after : Standing) → branching around test (checked around first.0) second exits st ≡ Some after
      → Both st after (checked around first.0 exits st) (otherwise second exits st)
  branch_parts test first second exits st after e =
      both_ended st after (checked around first.0 exits st) (otherwise second exits st)
      (if_then (takes around st test Boolean) (met st (checked around first.0 exits st) (otherwise second exits st)) after e).1

  record Loop (start update : List Part) (body : Part) (st after : Standing) : Type 0 where
    mid : Standing
    begins : all start None st ≡ Some mid
    passes : Ended (checked around body.0 (Some mid) mid)
    updates : Ended (all update None mid)
    field : after.field ≡ mid.field

  ended_as : (need : Standing) (o : Option Standing) → ends_as need o ≡ true → Ended o
  ended_as need None e = absurd (false≢true e)
  ended_as need (Some end) e = record { end = end; is = refl }

  loop_parts : (start update : List Part) (test : Option Expression) (body : Part) (exits : Around) (st after : Standing)
      → looping around (map (checked around) (bares start)) test (map (checked around) (bares update)) (checked around body.0) exits st ≡ Some after → Loop start update body st after
  loop_parts start update test body exits st after = by (all start None st) refl
    where
      by : (o : Option Standing) → all start None st ≡ o → next (passing around st test (map (checked around) (bares update)) (checked around body.0)) o ≡ Some after → Loop start update body st after
      by None at e = absurd (none_some after e)
      by (Some mid) at e =
          let passed = ends_as mid (checked around body.0 (Some mid) mid) in
          let updated = ends_as mid (all update None mid) in
          let so = if_so_is (is_condition around mid test && (passed && updated)) (after_compound st mid) after e in
          let k = both_true passed updated (both_true (is_condition around mid test) (passed && updated) so.0).1 in
          record {
            mid = mid;
            begins = at;
            passes = ended_as mid (checked around body.0 (Some mid) mid) k.0;
            updates = ended_as mid (all update None mid) k.1;
            field = sym (ap (λ (x : Standing). x.field) so.1);
          }

  opened_end : (o : Option Standing) (st after : Standing) → opened st o ≡ Some after → Ended o × (after.field ≡ None)
  opened_end None st after e = absurd (none_some after e)
  opened_end (Some end) st after e = (record { end = end; is = refl }, sym (ap (λ (x : Standing). x.field) (some_is (outside st) after e)))

  record Compound (o : Option Standing) (after : Standing) : Type 0 where
    end : Standing
    is : o ≡ Some end
    field : after.field ≡ end.field

  compound_end : (o : Option Standing) (st after : Standing) → compound st o ≡ Some after → Compound o after
  compound_end None st after e = absurd (none_some after e)
  compound_end (Some end) st after e = record { end = end; is = refl; field = sym (ap (λ (x : Standing). x.field) (some_is (after_compound st end) after e)) }

  abbrev Plain : Statement-F Part → Type 0
  Plain y = (exits : Around) (st after : Standing) → st.field ≡ None → checked_step around (walks (bare y)) exits st ≡ Some after → plain_in (placings (bare y)) ≡ true
      → (bare_in (quiets (bare y)) ≡ true) × (after.field ≡ None)

  layer_plain : (y : Statement-F Part) → Plain y
  layer_plain (s.Assign v x) exits st after none e h = (refl, assigned_stays around v _ _ st after e ∙ none)
  layer_plain (s.SetElement v at x) exits st after none e h = (refl, if_so_stays _ st after e ∙ none)
  layer_plain (s.Evaluate x) exits st after none e h = (refl, if_so_stays _ st after e ∙ none)
  layer_plain (s.Access a) exits st after none e h = absurd (no_access around a (signature_of around a.field a.method) st after none e)
  layer_plain (s.Gather g) exits st after none e h = absurd (false≢true h)
  layer_plain (s.Marked mark body) exits st after none e h = absurd (false≢true h)
  layer_plain (s.Opened body) exits st after none e h =
      let o = opened_end (checked around body.0 exits (outside st)) st after e in ((body.1.plain exits (outside st) (o.0).end refl (o.0).is h).0, o.1)
  layer_plain (s.Block items) exits st after none e h =
      let c = compound_end (all items exits st) st after e in
      let q = list_plain items exits st c.end none c.is h in (q.0, c.field ∙ q.1)
  layer_plain (s.If test first None) exits st after none e h =
      let b = branch_parts test first None exits st after e in
      let k = both_true (placing_of first.0).plain true h in
      let q = first.1.plain exits st (b.one).end none (b.one).is k.0 in (and_true (quieted first.0).bare true q.0 refl, b.field q.1)
  layer_plain (s.If test first (Some second)) exits st after none e h =
      let b = branch_parts test first (Some (checked around second.0)) exits st after e in
      let k = both_true (placing_of first.0).plain (placing_of second.0).plain h in
      let q = first.1.plain exits st (b.one).end none (b.one).is k.0 in
      let r = second.1.plain exits st (b.other).end none (b.other).is k.1 in (and_true (quieted first.0).bare (quieted second.0).bare q.0 r.0, b.field q.1)
  layer_plain (s.Loop start test update body) exits st after none e h =
      let l = loop_parts start update test body exits st after e in
      let k = both_true (plains start) ((placing_of body.0).plain && plains update) h in
      let j = both_true (placing_of body.0).plain (plains update) k.1 in
      let q = list_plain start None st l.mid none l.begins k.0 in
      let u = list_plain update None l.mid (l.updates).end q.1 (l.updates).is j.1 in
      let b = body.1.plain (Some l.mid) l.mid (l.passes).end q.1 (l.passes).is j.0 in
      (and_true (are_bare (bares start)) (are_bare (bares update) && (quieted body.0).bare) q.0 (and_true (are_bare (bares update)) (quieted body.0).bare u.0 b.0), l.field ∙ q.1)
  layer_plain s.Break exits st after none e h = (refl, jumping_stays exits st after e ∙ none)
  layer_plain s.Continue exits st after none e h = (refl, jumping_stays exits st after e ∙ none)
  layer_plain (s.Return x) exits st after none e h = (refl, returning_stays around x st after e ∙ none)

  abbrev MayStand : Statement-F Part → Type 0
  MayStand y = (exits : Around) (st after : Standing) → st.field ≡ None → checked_step around (walks (bare y)) exits st ≡ Some after → placed_in (placings (bare y)) ≡ true
      → (quiet_in (quiets (bare y)) ≡ true) × ((marks_in (quiets (bare y)) ≡ true) ⊎ (after.field ≡ None))

  layer_placed : (y : Statement-F Part) → MayStand y
  layer_placed (s.Gather g) exits st after none e h = (refl, inr (gathered_outside around g (signature_of around g.field g.method) st after e))
  layer_placed (s.Marked mark body) exits st after none e h = (refl, inl refl)
  layer_placed (s.Opened body) exits st after none e h =
      let o = opened_end (checked around body.0 exits (outside st)) st after e in (body.1.may_open exits (outside st) (o.0).end refl (o.0).is h, inr o.1)
  layer_placed (s.Assign v x) exits st after none e h = let q = layer_plain (s.Assign v x) exits st after none e h in (q.0, inr q.1)
  layer_placed (s.SetElement v at x) exits st after none e h = let q = layer_plain (s.SetElement v at x) exits st after none e h in (q.0, inr q.1)
  layer_placed (s.Evaluate x) exits st after none e h = let q = layer_plain (s.Evaluate x) exits st after none e h in (q.0, inr q.1)
  layer_placed (s.Access a) exits st after none e h = let q = layer_plain (s.Access a) exits st after none e h in (q.0, inr q.1)
  layer_placed (s.Block items) exits st after none e h = let q = layer_plain (s.Block items) exits st after none e h in (q.0, inr q.1)
  layer_placed (s.If test first second) exits st after none e h = let q = layer_plain (s.If test first second) exits st after none e h in (q.0, inr q.1)
  layer_placed (s.Loop start test update body) exits st after none e h = let q = layer_plain (s.Loop start test update body) exits st after none e h in (q.0, inr q.1)
  layer_placed s.Break exits st after none e h = let q = layer_plain s.Break exits st after none e h in (q.0, inr q.1)
  layer_placed s.Continue exits st after none e h = let q = layer_plain s.Continue exits st after none e h in (q.0, inr q.1)
  layer_placed (s.Return x) exits st after none e h = let q = layer_plain (s.Return x) exits st after none e h in (q.0, inr q.1)

  abbrev MayOpen : Statement-F Part → Type 0
  MayOpen y = (exits : Around) (st after : Standing) → st.field ≡ None → checked_step around (walks (bare y)) exits st ≡ Some after → may_open (placings (bare y)) ≡ true
      → opened_in (quiets (bare y)) ≡ true

  layer_opened : (y : Statement-F Part) → MayOpen y
  layer_opened (s.Block items) exits st after none e h = let c = compound_end (all items exits st) st after e in list_placed items exits st c.end none c.is h
  layer_opened (s.If test first None) exits st after none e h =
      let b = branch_parts test first None exits st after e in
      let k = both_true (placing_of first.0).placed true h in
      and_true (quieted first.0).quiet true (first.1.placed exits st (b.one).end none (b.one).is k.0).0 refl
  layer_opened (s.If test first (Some second)) exits st after none e h =
      let b = branch_parts test first (Some (checked around second.0)) exits st after e in
      let k = both_true (placing_of first.0).placed (placing_of second.0).placed h in
      and_true (quieted first.0).quiet (quieted second.0).quiet (first.1.placed exits st (b.one).end none (b.one).is k.0).0 (second.1.placed exits st (b.other).end none (b.other).is k.1).0
  layer_opened (s.Loop start test update body) exits st after none e h =
      let l = loop_parts start update test body exits st after e in
      let k = both_true (plains start) ((placing_of body.0).placed && plains update) h in
      let j = both_true (placing_of body.0).placed (plains update) k.1 in
      let q = list_plain start None st l.mid none l.begins k.0 in
      let u = list_plain update None l.mid (l.updates).end q.1 (l.updates).is j.1 in
      let b = body.1.placed (Some l.mid) l.mid (l.passes).end q.1 (l.passes).is j.0 in
      and_true (are_bare (bares start)) (are_bare (bares update) && (quieted body.0).quiet) q.0 (and_true (are_bare (bares update)) (quieted body.0).quiet u.0 b.0)
  layer_opened (s.Gather g) exits st after none e h = absurd (false≢true h)
  layer_opened (s.Marked mark body) exits st after none e h = absurd (false≢true h)
  layer_opened (s.Opened body) exits st after none e h = (layer_plain (s.Opened body) exits st after none e h).0
  layer_opened (s.Assign v x) exits st after none e h = refl
  layer_opened (s.SetElement v at x) exits st after none e h = refl
  layer_opened (s.Evaluate x) exits st after none e h = refl
  layer_opened (s.Access a) exits st after none e h = (layer_plain (s.Access a) exits st after none e h).0
  layer_opened s.Break exits st after none e h = refl
  layer_opened s.Continue exits st after none e h = refl
  layer_opened (s.Return x) exits st after none e h = refl

  -- ---- all statements

  made : (x : Statement-F Statement) (y : Statement-F Part) → bare y ≡ x → Says (roll-Statement x)
  made x y is =
      let walk : checked around (roll-Statement x) ≡ checked_step around (walks x) = fold-roll-Statement Checking (checked_step around) x in
      let place : placing_of (roll-Statement x) ≡ placing_step (placings x) = fold-roll-Statement Placing placing_step x in
      let quiet : quieted (roll-Statement x) ≡ quieting (quiets x) = fold-roll-Statement Quieted quieting x in
      let step : (exits : Around) (st after : Standing) → checked around (roll-Statement x) exits st ≡ Some after → checked_step around (walks (bare y)) exits st ≡ Some after =
      λ exits st after e. ap (λ (z : Statement-F Statement). checked_step around (walks z) exits st) is ∙ (sym (ap (λ (c : Checking). c exits st) walk) ∙ e) in
      let places : placing_step (placings (bare y)) ≡ placing_of (roll-Statement x) = ap (λ (z : Statement-F Statement). placing_step (placings z)) is ∙ sym place in
      let quieteds : quieted (roll-Statement x) ≡ quieting (quiets (bare y)) = quiet ∙ sym (ap (λ (z : Statement-F Statement). quieting (quiets z)) is) in
      record {
        plain = λ exits st after none e h.
            let q = layer_plain y exits st after none (step exits st after e) (ap (λ (a : Placing). a.plain) places ∙ h) in (ap (λ (a : Quieted). a.bare) quieteds ∙ q.0, q.1);
        placed = λ exits st after none e h.
            let q = layer_placed y exits st after none (step exits st after e) (ap (λ (a : Placing). a.placed) places ∙ h) in
            (ap (λ (a : Quieted). a.quiet) quieteds ∙ q.0, by_marks (ap (λ (a : Quieted). a.marks) quieteds) q.1);
        may_open = λ exits st after none e h.
            ap (λ (a : Quieted). a.opened) quieteds ∙ layer_opened y exits st after none (step exits st after e) (ap (λ (a : Placing). a.opened) places ∙ h);
      }

  says : (x : Statement) → Says x
  says = ind-Statement Says made

  with_says : List Statement → List Part
  with_says xs = map (λ (x : Statement). (x, says x)) xs

  bares_of : (xs : List Statement) → bares (with_says xs) ≡ xs
  unfolding with_says
  bares_of [] = refl
  bares_of (x ∷ xs) = ap (λ ys. x ∷ ys) (bares_of xs)

  pub typed_quiet : (xs : List Statement) (exits : Around) (st after : Standing) → st.field ≡ None → checked_list around xs exits st ≡ Some after → are_placed xs ≡ true → are_quiet xs ≡ true
  typed_quiet xs exits st after none =
      subst (λ (ys : List Statement). checked_list around ys exits st ≡ Some after → are_placed ys ≡ true → are_quiet ys ≡ true) (bares_of xs) (list_placed (with_says xs) exits st after none)
