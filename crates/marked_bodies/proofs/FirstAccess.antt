-- The first access in the code of a statement whose accesses are all to parts of one field is to a part of that field.
use Rattle.std.proofs.Common.{◌≡◌, refl, sym, ap, subst, ◌∙◌, ℕ, true, List, [], ◌∷◌, ◌++◌, map, Option, Some, None}
use Rattle.std.specs.Prelude.{nat_eq}
use Rattle.std.proofs.lemmas.Bool.{false≢true}
use Rattle.access_blocks.specs.declared.body.Statement.{Statement, roll-Statement}
use Rattle.access_blocks.specs.declared.body.Statement.TheOpen.{Statement-F}
use Rattle.access_blocks.specs.declared.body.Statement.TheOpen as s
use Rattle.access_blocks.specs.declared.body.Statement.TheFolds.{fold-roll-Statement, ind-Statement, map-Statement}
use Rattle.access_blocks.specs.declared.place.Site.{Site}
use Rattle.access_blocks.specs.Marks.{sites_step, sites_in}
use Rattle.body_code.specs.Checking.{Reach, ToPart, Accessing, accessing_step, accessing_in, first_of, one_by_one}
use Rattle.marked_bodies.proofs.Facts.{not_empty, both_true, nat_is, all_both}
use Rattle.marked_bodies.proofs.Headers.{sites_of}
use Rattle.marked_bodies.proofs.Whole.{is_to, are_to}

pub data FirstIs (field : ℕ) (sites : List Site) (first : Option Reach) : Type 0 where
  Nowhere : sites ≡ [] → first ≡ None → FirstIs field sites first
  Somewhere : first ≡ Some (ToPart field) → FirstIs field sites first

first_before : (field : ℕ) (xs ys : List Site) (a b : Option Reach) → FirstIs field xs a → FirstIs field ys b → FirstIs field (xs ++ ys) (first_of a b)
first_before field xs ys a b (Somewhere e) second = Somewhere (ap (λ o. first_of o b) e)
first_before field xs ys a b (Nowhere none e) second =
    subst (λ (o : Option Reach). FirstIs field (xs ++ ys) (first_of o b)) (sym e) (subst (λ (zs : List Site). FirstIs field (zs ++ ys) b) (sym none) second)

no_both : (xs ys : List Site) → xs ++ ys ≡ [] → ys ++ xs ≡ []
no_both [] [] e = refl
no_both [] (y ∷ ys) e = absurd (not_empty y ys e)
no_both (x ∷ xs) ys e = absurd (not_empty x (xs ++ ys) e)

-- the order of the sites is another one than that of the code
turned : (field : ℕ) (xs ys : List Site) (first : Option Reach) → FirstIs field (xs ++ ys) first → FirstIs field (ys ++ xs) first
turned field xs ys first (Nowhere none e) = Nowhere (no_both xs ys none) e
turned field xs ys first (Somewhere e) = Somewhere e

module _ (field : ℕ) where
  abbrev Begins : Statement → Type 0
  Begins x = are_to (Some field) (sites_in x) ≡ true → FirstIs field (sites_in x) (accessing_in x).first

  abbrev Part : Type 0
  Part = (x : Statement) × Begins x

  abbrev bare : Statement-F Part → Statement-F Statement
  bare = map-Statement Part Statement (λ p. p.0)

  abbrev bares : List Part → List Statement
  bares ps = map (λ (p : Part). p.0) ps

  abbrev first_in : List Statement → Option Reach
  first_in xs = (one_by_one (map accessing_in xs)).first

  parts_begin : (ps : List Part) → are_to (Some field) (sites_of (bares ps)) ≡ true → FirstIs field (sites_of (bares ps)) (first_in (bares ps))
  parts_begin [] to = Nowhere refl refl
  parts_begin (p ∷ ps) to =
      let t = all_both (is_to (Some field)) (sites_in p.0) (sites_of (bares ps)) to in
      first_before field (sites_in p.0) (sites_of (bares ps)) (accessing_in p.0).first (first_in (bares ps)) (p.1 t.0) (parts_begin ps t.1)

  abbrev all_sites : Statement-F Statement → Statement-F (List Site)
  all_sites = map-Statement Statement (List Site) sites_in

  abbrev all_accessing : Statement-F Statement → Statement-F Accessing
  all_accessing = map-Statement Statement Accessing accessing_in

  abbrev BeginsBy : Statement-F Statement → Type 0
  BeginsBy y = are_to (Some field) (sites_step (all_sites y)) ≡ true → FirstIs field (sites_step (all_sites y)) (accessing_step (all_accessing y)).first

  none_first : (o : Option Reach) → first_of o None ≡ o
  none_first None = refl
  none_first (Some a) = refl

  layer : (y : Statement-F Part) → BeginsBy (bare y)
  layer (s.Access a) to = Somewhere (ap (λ (n : ℕ). Some (ToPart n)) (sym (nat_is field a.field (both_true (nat_eq field a.field) true to).0)))
  layer (s.Gather g) to = absurd (false≢true to)
  layer (s.Marked mark body) to = body.1 to
  layer (s.Opened body) to = body.1 to
  layer (s.Block items) to = parts_begin items to
  layer (s.If test first None) to =
      let t = all_both (is_to (Some field)) (sites_in first.0) [] to in
      subst (λ (o : Option Reach). FirstIs field (sites_in first.0 ++ []) o) (none_first (accessing_in first.0).first)
      (first_before field (sites_in first.0) [] (accessing_in first.0).first None (first.1 t.0) (Nowhere refl refl))
  layer (s.If test first (Some second)) to =
      let t = all_both (is_to (Some field)) (sites_in first.0) (sites_in second.0) to in
      first_before field (sites_in first.0) (sites_in second.0) (accessing_in first.0).first (accessing_in second.0).first (first.1 t.0) (second.1 t.1)
  layer (s.Loop start test update body) to =
      let ss = bares start in
      let us = bares update in
      let bs = sites_in body.0 in
      let t = all_both (is_to (Some field)) (sites_of ss) (sites_of us ++ bs) to in
      let u = all_both (is_to (Some field)) (sites_of us) bs t.1 in
      let rest = first_of (accessing_in body.0).first (first_in us) in
      first_before field (sites_of ss) (sites_of us ++ bs) (first_in ss) rest (parts_begin start t.0)
      (turned field bs (sites_of us) rest (first_before field bs (sites_of us) (accessing_in body.0).first (first_in us) (body.1 u.1) (parts_begin update u.0)))
  layer (s.Assign v a) to = Nowhere refl refl
  layer (s.SetElement v at a) to = Nowhere refl refl
  layer (s.Evaluate a) to = Nowhere refl refl
  layer s.Break to = Nowhere refl refl
  layer s.Continue to = Nowhere refl refl
  layer (s.Return a) to = Nowhere refl refl

  made : (x : Statement-F Statement) (y : Statement-F Part) → bare y ≡ x → Begins (roll-Statement x)
  made x y is to =
      let all : BeginsBy x = subst BeginsBy is (layer y) in
      let sites = fold-roll-Statement (List Site) sites_step x in
      subst (λ (a : Accessing). FirstIs field (sites_in (roll-Statement x)) a.first) (sym (fold-roll-Statement Accessing accessing_step x))
      (subst (λ (ss : List Site). FirstIs field ss (accessing_step (all_accessing x)).first) (sym sites) (all (ap (are_to (Some field)) (sym sites) ∙ to)))

  pub statement_begins : (x : Statement) → Begins x
  statement_begins = ind-Statement Begins made
