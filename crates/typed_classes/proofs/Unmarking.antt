-- What is typed before marks stand in it, with no access in the header of a loop, is such that its marks stand where steps come to.
use Rattle.std.proofs.Common.{◌≡◌, refl, sym, ap, subst, ◌∙◌, Bool, true, false, not, ◌&&◌, ◌||◌, List, [], ◌∷◌, map, Option, Some, None}
use Rattle.std.proofs.lemmas.Bool.{false≢true}
use Rattle.sdg_base.specs.declared.value_type.ValueType.TheVariants.{Boolean}
use Rattle.access_blocks.specs.declared.body.Expression.{Expression}
use Rattle.access_blocks.specs.declared.body.Statement.{Statement, roll-Statement}
use Rattle.access_blocks.specs.declared.body.Statement.TheOpen.{Statement-F}
use Rattle.access_blocks.specs.declared.body.Statement.TheOpen as s
use Rattle.access_blocks.specs.declared.body.Statement.TheFolds.{fold-roll-Statement, ind-Statement, map-Statement}
use Rattle.body_code.specs.Checking.{Surroundings, Standing, Around, Checking, next, in_order, otherwise, is_condition, ends_as, after_compound, passing, looping, outside, takes}
use Rattle.marked_bodies.specs.Unmarked.{unmarked_step, unmarked, unmarked_list, unmarked_branching, behind, behind_both, Headed, headed_step, headed_in, one_by_one, AreUnmarkedTyped}
use Rattle.marked_bodies.proofs.Facts.{none_some, both_true, and_true, either_false, not_false, if_so_is, if_then}
use Rattle.code_meaning.specs.Running.{all_plain}
use Rattle.code_meaning.specs.Placed.{Placing, placing_step, placing_of, plain_in, unmarked_in, are_unmarked}

-- A walk that goes through from some standing on.
record Through (check : Checking) : Type 0 where
  pub exits : Around
  pub before : Standing
  pub after : Standing
  pub is : check exits before ≡ Some after

split : (c : Checking) (cs : List Checking) → Through (in_order (c ∷ cs)) → Through c × Through (in_order cs)
split c cs t = by (c t.exits t.before) refl t.is
  where
    by : (o : Option Standing) → c t.exits t.before ≡ o → next (in_order cs t.exits) o ≡ Some t.after → Through c × Through (in_order cs)
    by None at e = absurd (none_some t.after e)
    by (Some mid) at e = (record { exits = t.exits; before = t.before; after = mid; is = at }, record { exits = t.exits; before = mid; after = t.after; is = e })

-- what is behind a compound statement comes of what went through
of_behind : (check : Checking) (exits : Around) (before st after : Standing) → behind before (check exits st) ≡ Some after → Through check
of_behind check exits before st after = by (check exits st) refl
  where
    by : (o : Option Standing) → check exits st ≡ o → behind before o ≡ Some after → Through check
    by None at e = absurd (none_some after e)
    by (Some end) at e = record { exits = exits; before = st; after = end; is = at }

of_both : (first second : Checking) (exits : Around) (before after : Standing) → behind_both before (first exits before) (second exits before) ≡ Some after → Through first × Through second
of_both first second exits before after = by (first exits before) (second exits before) refl refl
  where
    by : (o p : Option Standing) → first exits before ≡ o → second exits before ≡ p → behind_both before o p ≡ Some after → Through first × Through second
    by None p at to e = absurd (none_some after e)
    by (Some a) None at to e = absurd (none_some after e)
    by (Some a) (Some b) at to e = (record { exits = exits; before = before; after = a; is = at }, record { exits = exits; before = before; after = b; is = to })

of_ends : (check : Checking) (exits : Around) (need st : Standing) → ends_as need (check exits st) ≡ true → Through check
of_ends check exits need st = by (check exits st) refl
  where
    by : (o : Option Standing) → check exits st ≡ o → ends_as need o ≡ true → Through check
    by None at e = absurd (false≢true e)
    by (Some end) at e = record { exits = exits; before = st; after = end; is = at }

module _ (around : Surroundings) where
  -- ---- what is said of a statement

  record Said (x : Statement) : Type 0 where
    pub stays_unmarked : Through (unmarked around x) → (headed_in x).is_right ≡ true → (placing_of x).unmarked ≡ true
    pub stays_plain : Through (unmarked around x) → (headed_in x).accesses ≡ false → (placing_of x).plain ≡ true

  abbrev Part : Type 0
  Part = (x : Statement) × Said x

  abbrev bare : Statement-F Part → Statement-F Statement
  bare = map-Statement Part Statement (λ p. p.0)

  abbrev bares : List Part → List Statement
  bares ps = map (λ (p : Part). p.0) ps

  abbrev walks : Statement-F Statement → Statement-F Checking
  walks = map-Statement Statement Checking (unmarked around)

  abbrev headeds : Statement-F Statement → Statement-F Headed
  headeds = map-Statement Statement Headed headed_in

  abbrev placings : Statement-F Statement → Statement-F Placing
  placings = map-Statement Statement Placing placing_of

  list_unmarked : (ps : List Part) → Through (unmarked_list around (bares ps)) → (one_by_one (map headed_in (bares ps))).is_right ≡ true → are_unmarked (bares ps) ≡ true
  list_unmarked [] t e = refl
  list_unmarked (p ∷ ps) t e =
      let both = split (unmarked around p.0) (map (unmarked around) (bares ps)) t in
      let right = both_true (headed_in p.0).is_right (one_by_one (map headed_in (bares ps))).is_right e in
      and_true (placing_of p.0).unmarked (are_unmarked (bares ps)) (p.1.stays_unmarked both.0 right.0) (list_unmarked ps both.1 right.1)

  abbrev plains : List Part → Bool
  plains ps = all_plain (map (λ (a : Placing). a.plain) (map placing_of (bares ps)))

  list_plain : (ps : List Part) → Through (unmarked_list around (bares ps)) → (one_by_one (map headed_in (bares ps))).accesses ≡ false
      → all_plain (map (λ (a : Placing). a.plain) (map placing_of (bares ps))) ≡ true
  list_plain [] t e = refl
  list_plain (p ∷ ps) t e =
      let both = split (unmarked around p.0) (map (unmarked around) (bares ps)) t in
      let none = either_false (headed_in p.0).accesses (one_by_one (map headed_in (bares ps))).accesses e in
      and_true (placing_of p.0).plain (all_plain (map (λ (a : Placing). a.plain) (map placing_of (bares ps)))) (p.1.stays_plain both.0 none.0) (list_plain ps both.1 none.1)

  -- ---- the layers

  loop_parts : (start : List Checking) (test : Option Expression) (update : List Checking) (body : Checking) (exits : Around) (before st after : Standing)
      → behind before (looping around start test update body exits st) ≡ Some after → Through (in_order start) × (Through body × Through (in_order update))
  loop_parts start test update body exits before st after = by (in_order start None st) refl
    where
      inner : (mid : Standing) (o : Option Standing) → passing around st test update body mid ≡ o → behind before o ≡ Some after → Through body × Through (in_order update)
      inner mid None at e = absurd (none_some after e)
      inner mid (Some end) at e =
          let ended = ends_as mid (body (Some mid) mid) in
          let updated = ends_as mid (in_order update None mid) in
          let so = if_so_is (is_condition around mid test && (ended && updated)) (after_compound st mid) end at in
          let both = both_true ended updated (both_true (is_condition around mid test) (ended && updated) so.0).1 in
          (of_ends body (Some mid) mid mid both.0, of_ends (in_order update) None mid mid both.1)

      by : (o : Option Standing) → in_order start None st ≡ o → behind before (next (passing around st test update body) o) ≡ Some after
          → Through (in_order start) × (Through body × Through (in_order update))
      by None at e = absurd (none_some after e)
      by (Some mid) at e = (record { exits = None; before = st; after = mid; is = at }, inner mid (passing around st test update body mid) refl e)

  branch_parts : (test : Expression) (first : Checking) (second : Option Checking) (exits : Around) (st after : Standing)
      → unmarked_branching around test first second exits st ≡ Some after → Through first × Through (otherwise second)
  branch_parts test first second exits st after e =
      of_both first (otherwise second) exits st after (if_then (takes around st test Boolean) (behind_both st (first exits st) (otherwise second exits st)) after e).1

  layer_unmarked : (y : Statement-F Part) → Through (unmarked_step around (walks (bare y))) → (headed_step (headeds (bare y))).is_right ≡ true → unmarked_in (placings (bare y)) ≡ true
  layer_unmarked (s.Marked mark body) t e = absurd (none_some t.after t.is)
  layer_unmarked (s.Opened body) t e = absurd (none_some t.after t.is)
  layer_unmarked (s.Block items) t e = list_unmarked items (of_behind (unmarked_list around (bares items)) t.exits t.before (outside t.before) t.after t.is) e
  layer_unmarked (s.If test first None) t e =
      let parts = branch_parts test (unmarked around first.0) None t.exits (outside t.before) t.after t.is in
      and_true (placing_of first.0).unmarked true (first.1.stays_unmarked parts.0 e) refl
  layer_unmarked (s.If test first (Some second)) t e =
      let parts = branch_parts test (unmarked around first.0) (Some (unmarked around second.0)) t.exits (outside t.before) t.after t.is in
      let right = both_true (headed_in first.0).is_right (headed_in second.0).is_right e in
      and_true (placing_of first.0).unmarked (placing_of second.0).unmarked (first.1.stays_unmarked parts.0 right.0) (second.1.stays_unmarked parts.1 right.1)
  layer_unmarked (s.Loop start test update body) t e =
      let parts = loop_parts (map (unmarked around) (bares start)) test (map (unmarked around) (bares update)) (unmarked around body.0) t.exits t.before (outside t.before) t.after t.is in
      let begins = one_by_one (map headed_in (bares start)) in
      let updates = one_by_one (map headed_in (bares update)) in
      let right = both_true (not (begins.accesses || updates.accesses)) (headed_in body.0).is_right e in
      let none = either_false begins.accesses updates.accesses (not_false (begins.accesses || updates.accesses) right.0) in
      and_true (plains start) (plains update && (placing_of body.0).unmarked) (list_plain start parts.0 none.0)
      (and_true (plains update) (placing_of body.0).unmarked (list_plain update parts.1.1 none.1) (body.1.stays_unmarked parts.1.0 right.1))
  layer_unmarked (s.Assign v x) t e = refl
  layer_unmarked (s.SetElement v at x) t e = refl
  layer_unmarked (s.Evaluate x) t e = refl
  layer_unmarked (s.Access a) t e = refl
  layer_unmarked (s.Gather g) t e = refl
  layer_unmarked s.Break t e = refl
  layer_unmarked s.Continue t e = refl
  layer_unmarked (s.Return x) t e = refl

  layer_plain : (y : Statement-F Part) → Through (unmarked_step around (walks (bare y))) → (headed_step (headeds (bare y))).accesses ≡ false → plain_in (placings (bare y)) ≡ true
  layer_plain (s.Gather g) t e = absurd (false≢true (sym e))
  layer_plain (s.Marked mark body) t e = absurd (none_some t.after t.is)
  layer_plain (s.Opened body) t e = absurd (none_some t.after t.is)
  layer_plain (s.Block items) t e = list_plain items (of_behind (unmarked_list around (bares items)) t.exits t.before (outside t.before) t.after t.is) e
  layer_plain (s.If test first None) t e =
      let parts = branch_parts test (unmarked around first.0) None t.exits (outside t.before) t.after t.is in
      and_true (placing_of first.0).plain true (first.1.stays_plain parts.0 e) refl
  layer_plain (s.If test first (Some second)) t e =
      let parts = branch_parts test (unmarked around first.0) (Some (unmarked around second.0)) t.exits (outside t.before) t.after t.is in
      let none = either_false (headed_in first.0).accesses (headed_in second.0).accesses e in
      and_true (placing_of first.0).plain (placing_of second.0).plain (first.1.stays_plain parts.0 none.0) (second.1.stays_plain parts.1 none.1)
  layer_plain (s.Loop start test update body) t e =
      let parts = loop_parts (map (unmarked around) (bares start)) test (map (unmarked around) (bares update)) (unmarked around body.0) t.exits t.before (outside t.before) t.after t.is in
      let begins = one_by_one (map headed_in (bares start)) in
      let updates = one_by_one (map headed_in (bares update)) in
      let none = either_false (begins.accesses || updates.accesses) (headed_in body.0).accesses e in
      let neither = either_false begins.accesses updates.accesses none.0 in
      and_true (plains start) ((placing_of body.0).plain && plains update) (list_plain start parts.0 neither.0)
      (and_true (placing_of body.0).plain (plains update) (body.1.stays_plain parts.1.0 none.1) (list_plain update parts.1.1 neither.1))
  layer_plain (s.Assign v x) t e = refl
  layer_plain (s.SetElement v at x) t e = refl
  layer_plain (s.Evaluate x) t e = refl
  layer_plain (s.Access a) t e = refl
  layer_plain s.Break t e = refl
  layer_plain s.Continue t e = refl
  layer_plain (s.Return x) t e = refl

  -- ---- all statements

  walk_of : (x : Statement-F Statement) → Through (unmarked around (roll-Statement x)) → Through (unmarked_step around (walks x))
  walk_of x = subst Through (fold-roll-Statement Checking (unmarked_step around) x)

  unmarked_made : (x : Statement-F Statement) (y : Statement-F Part) → bare y ≡ x → Through (unmarked_step around (walks x)) → (headed_step (headeds x)).is_right ≡ true → unmarked_in (placings x) ≡ true
  unmarked_made x y is =
      subst (λ (z : Statement-F Statement). Through (unmarked_step around (walks z)) → (headed_step (headeds z)).is_right ≡ true → unmarked_in (placings z) ≡ true) is (layer_unmarked y)

  plain_made : (x : Statement-F Statement) (y : Statement-F Part) → bare y ≡ x → Through (unmarked_step around (walks x)) → (headed_step (headeds x)).accesses ≡ false → plain_in (placings x) ≡ true
  plain_made x y is =
      subst (λ (z : Statement-F Statement). Through (unmarked_step around (walks z)) → (headed_step (headeds z)).accesses ≡ false → plain_in (placings z) ≡ true) is (layer_plain y)

  made : (x : Statement-F Statement) (y : Statement-F Part) → bare y ≡ x → Said (roll-Statement x)
  made x y is =
      let head : headed_in (roll-Statement x) ≡ headed_step (headeds x) = fold-roll-Statement Headed headed_step x in
      let place : placing_of (roll-Statement x) ≡ placing_step (placings x) = fold-roll-Statement Placing placing_step x in
      record {
        stays_unmarked = λ t e. ap (λ (a : Placing). a.unmarked) place ∙ unmarked_made x y is (walk_of x t) (sym (ap (λ (h : Headed). h.is_right) head) ∙ e);
        stays_plain = λ t e. ap (λ (a : Placing). a.plain) place ∙ plain_made x y is (walk_of x t) (sym (ap (λ (h : Headed). h.accesses) head) ∙ e);
      }

  said : (x : Statement) → Said x
  said = ind-Statement Said made

  with_said : List Statement → List Part
  with_said xs = map (λ (x : Statement). (x, said x)) xs

  bares_of : (xs : List Statement) → bares (with_said xs) ≡ xs
  unfolding with_said
  bares_of [] = refl
  bares_of (x ∷ xs) = ap (λ ys. x ∷ ys) (bares_of xs)

  unmarked_so : (xs : List Statement) → Through (unmarked_list around xs) → (one_by_one (map headed_in xs)).is_right ≡ true → are_unmarked xs ≡ true
  unmarked_so xs =
      subst (λ (ys : List Statement). Through (unmarked_list around ys) → (one_by_one (map headed_in ys)).is_right ≡ true → are_unmarked ys ≡ true) (bares_of xs) (list_unmarked (with_said xs))

-- The statements of a body that is typed before its marks: nothing is marked, and no instance is visited in the header of a loop.
pub typed_unmarked : (around : Surroundings) (xs : List Statement) (st : Standing) → AreUnmarkedTyped around xs st → are_unmarked xs ≡ true
typed_unmarked around xs st t = unmarked_so around xs (record { exits = None; before = st; after = t.after; is = t.walked }) t.headers
