-- Each block begins with an access to a part of its field.
use Rattle.std.proofs.Common.{◌≡◌, refl, sym, ap, subst, ◌∙◌, ℕ, true, ◌&&◌, List, [], ◌∷◌, map, Some, None}
use Rattle.access_blocks.specs.declared.body.Access.{Access}
use Rattle.access_blocks.specs.declared.body.Choice.{Choice}
use Rattle.access_blocks.specs.declared.body.Choice.TheVariants as choice
use Rattle.access_blocks.specs.declared.body.Statement.{Statement, roll-Statement, out-Statement}
use Rattle.access_blocks.specs.declared.body.Statement.TheOpen.{Statement-F}
use Rattle.access_blocks.specs.declared.body.Statement.TheOpen as s
use Rattle.access_blocks.specs.declared.body.Statement.TheFolds.{fold-roll-Statement, ind-Statement, map-Statement}
use Rattle.access_blocks.specs.declared.place.Site.{Site}
use Rattle.access_blocks.specs.Marks.{site_of, sites_in, carrying_access, carrying_in, marked, with_marks}
use Rattle.body_code.specs.Checking.{Surroundings, Checking, outside, looping, ToPart, Accessing, accessing, accessing_step, accessing_in, first_of, is_to_part, one_after, one_by_one}
use Rattle.marked_bodies.specs.Unmarked.{unmarked, unmarked_list, unmarked_step}
use Rattle.marked_bodies.proofs.Facts.{not_empty, none_some, both_true, and_true}
use Rattle.marked_bodies.proofs.Typed.{IsGood, AreGood, IsSo, list_good, behind_is, branches_good, looped}
use Rattle.marked_bodies.proofs.Standings.{nat_same}
use Rattle.marked_bodies.proofs.Keeping.{Each, Keeps, list_kept}
use Rattle.marked_bodies.proofs.Units.{IsUnit, Simple, Several, unit_is, marked_fold, access_fold, simple_fold}
use Rattle.marked_bodies.proofs.UnitSites.{several_are, simple_sites, unit_sites}
use Rattle.marked_bodies.proofs.FirstAccess.{FirstIs, Nowhere, Somewhere, statement_begins}

-- ---- without marks each access is right

module _ (around : Surroundings) where
  abbrev IsFree : Statement → Type 0
  IsFree x = IsGood around x → (accessing_in x).is_right ≡ true

  abbrev Part : Type 0
  Part = (x : Statement) × IsFree x

  abbrev bare : Statement-F Part → Statement-F Statement
  bare = map-Statement Part Statement (λ p. p.0)

  abbrev bares : List Part → List Statement
  bares ps = map (λ (p : Part). p.0) ps

  parts_free : (ps : List Part) → AreGood around (bares ps) → (one_by_one (map accessing_in (bares ps))).is_right ≡ true
  parts_free [] good = refl
  parts_free (p ∷ ps) good = and_true (accessing_in p.0).is_right (one_by_one (map accessing_in (bares ps))).is_right (p.1 good.0) (parts_free ps good.1)

  abbrev checks : Statement-F Statement → Statement-F Checking
  checks = map-Statement Statement Checking (unmarked around)

  abbrev all_accessing : Statement-F Statement → Statement-F Accessing
  all_accessing = map-Statement Statement Accessing accessing_in

  abbrev IsFreeLayer : Statement-F Statement → Type 0
  IsFreeLayer y = IsSo (unmarked_step around (checks y)) → (accessing_step (all_accessing y)).is_right ≡ true

  layer : (y : Statement-F Part) → IsFreeLayer (bare y)
  layer (s.Marked mark body) good = absurd (none_some good.2 good.3)
  layer (s.Opened body) good = absurd (none_some good.2 good.3)
  layer (s.Block items) good =
      let xs = bares items in
      let h = behind_is good.1 (unmarked_list around xs good.0 (outside good.1)) good.2 good.3 in
      parts_free items (list_good around xs good.0 (outside good.1) h.0 h.1)
  layer (s.If test first None) good =
      let h = branches_good around test (unmarked around first.0) None good.0 (outside good.1) good.2 good.3 in
      first.1 (good.0, outside good.1, h.1, h.3)
  layer (s.If test first (Some second)) good =
      let h = branches_good around test (unmarked around first.0) (Some (unmarked around second.0)) good.0 (outside good.1) good.2 good.3 in
      and_true (accessing_in first.0).is_right (accessing_in second.0).is_right (first.1 (good.0, outside good.1, h.1, h.3)) (second.1 (good.0, outside good.1, h.2, h.4))
  layer (s.Loop start test update body) good =
      let ss = bares start in
      let us = bares update in
      let h = behind_is good.1 (looping around (map (unmarked around) ss) test (map (unmarked around) us) (unmarked around body.0) good.0 (outside good.1)) good.2 good.3 in
      let l = looped around (map (unmarked around) ss) test (map (unmarked around) us) (unmarked around body.0) good.0 (outside good.1) h.0 h.1 in
      let a = (one_by_one (map accessing_in ss)).is_right in
      let b = (accessing_in body.0).is_right in
      let c = (one_by_one (map accessing_in us)).is_right in
      and_true a (b && c) (parts_free start (list_good around ss None (outside good.1) l.need l.started))
      (and_true b c (body.1 (Some l.need, l.need, l.passed.body_end, l.passed.body_is)) (parts_free update (list_good around us None l.need l.passed.update_end l.passed.update_is)))
  layer (s.Access a) good = refl
  layer (s.Gather g) good = refl
  layer (s.Assign v a) good = refl
  layer (s.SetElement v at a) good = refl
  layer (s.Evaluate a) good = refl
  layer s.Break good = refl
  layer s.Continue good = refl
  layer (s.Return a) good = refl

  made : (x : Statement-F Statement) (y : Statement-F Part) → bare y ≡ x → IsFree (roll-Statement x)
  made x y is good =
      let all : IsFreeLayer x = subst IsFreeLayer is (layer y) in
      ap (λ (a : Accessing). a.is_right) (fold-roll-Statement Accessing accessing_step x) ∙ all (subst IsSo (fold-roll-Statement Checking (unmarked_step around) x) good)

  statement_free : (x : Statement) → IsFree x
  statement_free = ind-Statement IsFree made

  list_free : (xs : List Statement) → AreGood around xs → (one_by_one (map accessing_in xs)).is_right ≡ true
  list_free [] good = refl
  list_free (x ∷ xs) good = and_true (accessing_in x).is_right (one_by_one (map accessing_in xs)).is_right (statement_free x good.0) (list_free xs good.1)

-- ---- marks stand before accesses to their field

-- the same access comes first, and what was right is right
abbrev pub Stays : Accessing → Accessing → Type 0
Stays a b = (a.first ≡ b.first) × (b.is_right ≡ true → a.is_right ≡ true)

stays_same : (a : Accessing) → Stays a a
stays_same a = (refl, λ is. is)

stays_both : (a b c d : Accessing) → Stays a b → Stays c d → Stays (one_after a c) (one_after b d)
stays_both a b c d h k =
    (ap (λ o. first_of o c.first) h.0 ∙ ap (first_of b.first) k.0, λ is. let r = both_true b.is_right d.is_right is in and_true a.is_right c.is_right (h.1 r.0) (k.1 r.1))

stays_all : (ones bs : List Accessing) → Each Stays ones bs → Stays (one_by_one ones) (one_by_one bs)
stays_all [] [] h = stays_same (accessing None true)
stays_all (a ∷ ones) (b ∷ bs) h = stays_both a b (one_by_one ones) (one_by_one bs) h.0 (stays_all ones bs h.1)
stays_all [] (b ∷ bs) h = absurd h
stays_all (a ∷ ones) [] h = absurd h

carried_field : (a : Access) (how : Choice) → (carrying_access a how).field ≡ a.field
carried_field a (choice.Literal n) = refl
carried_field a (choice.Variable v) = refl
carried_field a choice.Compound = refl
carried_field a choice.Instance = refl

carried_accessing : (x : Statement) (site : Site) → IsUnit x site → accessing_in (carrying_in x (out-Statement x)) ≡ accessing_in x
carried_accessing x site (Simple a is at e) =
    ap accessing_in e ∙ access_fold Accessing accessing_step (carrying_access a a.choice) ∙ ap (λ (n : ℕ). accessing (Some (ToPart n)) true) (carried_field a a.choice)
    ∙ sym (simple_fold Accessing accessing_step x a is)
carried_accessing x site (Several one e) = ap accessing_in e

unit_has_sites : (x : Statement) (site : Site) → IsUnit x site → sites_in x ≡ [] → ⊥
unit_has_sites x site (Simple a is at e) none = not_empty (site_of a) [] (sym (simple_sites x a is) ∙ none)
unit_has_sites x site (Several one e) none = (several_are x site one).some none

unit_begins : (x : Statement) (site : Site) → IsUnit x site → (accessing_in x).first ≡ Some (ToPart site.field)
unit_begins x site unit = by (statement_begins site.field x (unit_sites x site unit))
  where
    by : FirstIs site.field (sites_in x) (accessing_in x).first → (accessing_in x).first ≡ Some (ToPart site.field)
    by (Nowhere none e) = absurd (unit_has_sites x site unit none)
    by (Somewhere e) = e

unit_stays : (x : Statement) (site : Site) → IsUnit x site → Stays (accessing_in (marked site x)) (accessing_in x)
unit_stays x site unit =
    let inner = accessing_in x in
    let outer : accessing_in (marked site x) ≡ accessing inner.first (inner.is_right && is_to_part site.field inner.first) =
    marked_fold Accessing accessing_step site x ∙ ap (λ (b : Accessing). accessing b.first (b.is_right && is_to_part site.field b.first)) (carried_accessing x site unit) in
    let to_part : is_to_part site.field inner.first ≡ true = ap (is_to_part site.field) (unit_begins x site unit) ∙ nat_same site.field in
    subst (λ (a : Accessing). Stays a inner) (sym outer) (refl, λ is. and_true inner.is_right (is_to_part site.field inner.first) is to_part)

blocks_keep : (around : Surroundings) → Keeps around Accessing accessing_step Stays
blocks_keep around = record {
  same = stays_same;
  unit = λ site x good is. unit_stays x site (unit_is x site is);
  opened = λ a b h. h;
  block = stays_all;
  if_alone = λ test a b h. h;
  if_both = λ test a b c d h g. stays_both a b c d h g;
  loop = λ start test update a b h.
      stays_both (one_by_one start) (one_by_one start) (one_after a (one_by_one update)) (one_after b (one_by_one update)) (stays_same (one_by_one start))
      (stays_both a b (one_by_one update) (one_by_one update) h (stays_same (one_by_one update)));
}

pub blocks_are_right : (around : Surroundings) (xs : List Statement) → AreGood around xs → (one_by_one (map accessing_in (with_marks xs))).is_right ≡ true
blocks_are_right around xs good =
    (stays_all (map accessing_in (with_marks xs)) (map accessing_in xs) (list_kept around Accessing accessing_step Stays (blocks_keep around) None xs good)).1 (list_free around xs good)
