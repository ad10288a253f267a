-- What is kept by each unit is kept by a list with its marks.
use Rattle.std.proofs.Common.{◌≡◌, sym, ap, subst, ◌∙◌, Bool, true, false, cond, List, [], ◌∷◌, map, Option, Some, None}
use Rattle.access_blocks.specs.declared.body.Expression.{Expression}
use Rattle.access_blocks.specs.declared.body.Statement.{Statement, roll-Statement}
use Rattle.access_blocks.specs.declared.body.Statement.TheOpen.{Statement-F}
use Rattle.access_blocks.specs.declared.body.Statement.TheOpen as s
use Rattle.access_blocks.specs.declared.body.Statement.TheVariants as statement
use Rattle.access_blocks.specs.declared.body.Statement.TheFolds.{fold-Statement, fold-roll-Statement, ind-Statement, map-Statement}
use Rattle.access_blocks.specs.declared.place.Placed.{Placed}
use Rattle.access_blocks.specs.declared.place.Site.{Site}
use Rattle.access_blocks.specs.Marks.{Marking, marking_step, marking_of, opened_step, unit_of, placed, list_placed, branch, whole_list, is_current, marked}
use Rattle.access_blocks.proofs.Markings.{wholes_are}
use Rattle.body_code.specs.Checking.{Surroundings, Checking, outside, looping}
use Rattle.marked_bodies.specs.Unmarked.{unmarked, unmarked_list, unmarked_step}
use Rattle.marked_bodies.proofs.Facts.{none_some}
use Rattle.marked_bodies.proofs.Placing.{placed_is, branch_is}
use Rattle.marked_bodies.proofs.Typed.{IsSo, IsGood, AreGood, list_good, behind_is, branches_good, looped}

-- the equation of a fold at a variant
pub folded : (A : Type 0) (step : Statement-F A → A) (x : Statement-F Statement) (whole : Statement) → roll-Statement x ≡ whole → fold-Statement A step whole ≡ step (map-Statement Statement A (fold-Statement A step) x)
folded A step x whole is = ap (fold-Statement A step) (sym is) ∙ fold-roll-Statement A step x

abbrev pub Each : {A : Type 0} → (A → A → Type 0) → List A → List A → Type 0
Each R [] [] = Unit {0}
Each R (a ∷ ones) (b ∷ bs) = R a b × Each R ones bs
Each R _ _ = ⊥

-- a relation of what a fold gives with marks to what it gives without, which units keep
pub record Keeps (around : Surroundings) (A : Type 0) (step : Statement-F A → A) (R : A → A → Type 0) : Type 0 where
  pub same : (a : A) → R a a
  pub unit : (site : Site) (x : Statement) → IsGood around x → unit_of x ≡ Some site → R (fold-Statement A step (marked site x)) (fold-Statement A step x)
  pub opened : (a b : A) → R a b → R (step (s.Opened a)) b
  pub block : (ones bs : List A) → Each R ones bs → R (step (s.Block ones)) (step (s.Block bs))
  pub if_alone : (test : Expression) (a b : A) → R a b → R (step (s.If test a None)) (step (s.If test b None))
  pub if_both : (test : Expression) (a b c d : A) → R a b → R c d → R (step (s.If test a (Some c))) (step (s.If test b (Some d)))
  pub loop : (start : List A) (test : Option Expression) (update : List A) (a b : A) → R a b → R (step (s.Loop start test update a)) (step (s.Loop start test update b))

module _ (around : Surroundings) (A : Type 0) (step : Statement-F A → A) (R : A → A → Type 0) (k : Keeps around A step R) where
  abbrev f : Statement → A
  f = fold-Statement A step

  abbrev IsKept : Statement → Type 0
  IsKept x = IsGood around x → R (f (marking_of x).opened) (f x)

  placed_kept : (current : Option Site) (x : Statement) → IsKept x → IsGood around x → R (f (placed current (marking_of x)).statement) (f x)
  placed_kept current x kept good =
      placed_is current x (λ (p : Placed). R (f p.statement) (f x)) (λ site is. by (is_current current site) site (k.unit site x good is)) (λ none has. kept good) (λ none has. k.same (f x))
    where
      by : (b : Bool) (site : Site) → R (f (marked site x)) (f x) → R (f (cond b x (marked site x))) (f x)
      by true site h = k.same (f x)
      by false site h = h

  branch_kept : (x : Statement) → IsKept x → IsGood around x → R (f (branch (marking_of x))) (f x)
  branch_kept x kept good = branch_is x (λ (z : Statement). R (f z) (f x)) (λ items is has. kept good) (λ none. k.same (f x)) (placed_kept None x kept good)

  abbrev Part : Type 0
  Part = (x : Statement) × IsKept x

  abbrev bare : Statement-F Part → Statement-F Statement
  bare = map-Statement Part Statement (λ p. p.0)

  abbrev bares : List Part → List Statement
  bares ps = map (λ (p : Part). p.0) ps

  parts_kept : (current : Option Site) (ps : List Part) → AreGood around (bares ps) → Each R (map f (list_placed current (map marking_of (bares ps)))) (map f (bares ps))
  parts_kept current [] good = tt
  parts_kept current (p ∷ ps) good = (placed_kept current p.0 p.1 good.0, parts_kept (placed current (marking_of p.0)).site ps good.1)

  opened_kept : (x : Statement-F Statement) (z : Statement) (b : A) → roll-Statement x ≡ z → R (step (map-Statement Statement A f x)) b → R (f (statement.Opened z)) b
  opened_kept x z b is h =
      let outer : f (statement.Opened z) ≡ step (s.Opened (f z)) = folded A step (s.Opened z) (statement.Opened z) (statement.rolls-Opened z) in
      let inner : f z ≡ step (map-Statement Statement A f x) = folded A step x z is in
      subst (λ (a : A). R a b) (sym outer) (k.opened (f z) b (subst (λ (a : A). R a b) (sym inner) h))

  alone : (x : Statement-F Statement) → R (f (roll-Statement x)) (step (map-Statement Statement A f x))
  alone x = subst (λ (a : A). R a (step (map-Statement Statement A f x))) (sym (fold-roll-Statement A step x)) (k.same (step (map-Statement Statement A f x)))

  abbrev checks : Statement-F Statement → Statement-F Checking
  checks = map-Statement Statement Checking (unmarked around)

  abbrev markings : Statement-F Statement → Statement-F Marking
  markings = map-Statement Statement Marking marking_of

  abbrev results : Statement-F Statement → Statement-F A
  results = map-Statement Statement A f

  layer : (y : Statement-F Part) → IsSo (unmarked_step around (checks (bare y))) → R (f (opened_step (markings (bare y)))) (step (results (bare y)))
  layer (s.Assign v x) good = alone (s.Assign v x)
  layer (s.SetElement v at x) good = alone (s.SetElement v at x)
  layer (s.Evaluate x) good = alone (s.Evaluate x)
  layer (s.Access a) good = alone (s.Access a)
  layer (s.Gather g) good = alone (s.Gather g)
  layer (s.Marked mark body) good = absurd (none_some good.2 good.3)
  layer (s.Opened body) good = absurd (none_some good.2 good.3)
  layer (s.Block items) good =
      let xs = bares items in
      let placed_items = list_placed None (map marking_of xs) in
      let h = behind_is good.1 (unmarked_list around xs good.0 (outside good.1)) good.2 good.3 in
      opened_kept (s.Block placed_items) (statement.Block placed_items) (step (s.Block (map f xs))) (statement.rolls-Block placed_items)
      (k.block (map f placed_items) (map f xs) (parts_kept None items (list_good around xs good.0 (outside good.1) h.0 h.1)))
  layer (s.If test first None) good =
      let one = branch (marking_of first.0) in
      let h = branches_good around test (unmarked around first.0) None good.0 (outside good.1) good.2 good.3 in
      opened_kept (s.If test one None) (statement.If test one None) (step (s.If test (f first.0) None)) (statement.rolls-If test one None)
      (k.if_alone test (f one) (f first.0) (branch_kept first.0 first.1 (good.0, outside good.1, h.1, h.3)))
  layer (s.If test first (Some second)) good =
      let one = branch (marking_of first.0) in
      let two = branch (marking_of second.0) in
      let h = branches_good around test (unmarked around first.0) (Some (unmarked around second.0)) good.0 (outside good.1) good.2 good.3 in
      opened_kept (s.If test one (Some two)) (statement.If test one (Some two)) (step (s.If test (f first.0) (Some (f second.0)))) (statement.rolls-If test one (Some two))
      (k.if_both test (f one) (f first.0) (f two) (f second.0) (branch_kept first.0 first.1 (good.0, outside good.1, h.1, h.3)) (branch_kept second.0 second.1 (good.0, outside good.1, h.2, h.4)))
  layer (s.Loop start test update body) good =
      let ss = bares start in
      let us = bares update in
      let one = branch (marking_of body.0) in
      let h = behind_is good.1 (looping around (map (unmarked around) ss) test (map (unmarked around) us) (unmarked around body.0) good.0 (outside good.1)) good.2 good.3 in
      let l = looped around (map (unmarked around) ss) test (map (unmarked around) us) (unmarked around body.0) good.0 (outside good.1) h.0 h.1 in
      let loop : List Statement → List Statement → Statement = λ xs zs. statement.Opened (statement.Loop xs test zs one) in
      let whole : R (f (loop ss us)) (step (s.Loop (map f ss) test (map f us) (f body.0))) =
      opened_kept (s.Loop ss test us one) (statement.Loop ss test us one) (step (s.Loop (map f ss) test (map f us) (f body.0))) (statement.rolls-Loop ss test us one)
      (k.loop (map f ss) test (map f us) (f one) (f body.0) (branch_kept body.0 body.1 (Some l.need, l.need, l.passed.body_end, l.passed.body_is))) in
      subst (λ (xs : List Statement). R (f (loop xs (whole_list (map marking_of us)))) (step (s.Loop (map f ss) test (map f us) (f body.0)))) (sym (wholes_are ss))
      (subst (λ (zs : List Statement). R (f (loop ss zs)) (step (s.Loop (map f ss) test (map f us) (f body.0)))) (sym (wholes_are us)) whole)
  layer s.Break good = alone s.Break
  layer s.Continue good = alone s.Continue
  layer (s.Return x) good = alone (s.Return x)

  made : (x : Statement-F Statement) (y : Statement-F Part) → bare y ≡ x → IsKept (roll-Statement x)
  made x y is good =
      let P : Statement-F Statement → Type 0 = λ z. IsSo (unmarked_step around (checks z)) → R (f (opened_step (markings z))) (step (results z)) in
      let all : P x = subst P is (layer y) in
      let mark = ap (λ (m : Marking). m.opened) (fold-roll-Statement Marking marking_step x) in
      let here = fold-roll-Statement A step x in
      let good_layer : IsSo (unmarked_step around (checks x)) = subst IsSo (fold-roll-Statement Checking (unmarked_step around) x) good in
      subst (λ (z : Statement). R (f z) (f (roll-Statement x))) (sym mark) (subst (λ (a : A). R (f (opened_step (markings x))) a) (sym here) (all good_layer))

  statement_kept : (x : Statement) → IsKept x
  statement_kept = ind-Statement IsKept made

  pub list_kept : (current : Option Site) (xs : List Statement) → AreGood around xs → Each R (map f (list_placed current (map marking_of xs))) (map f xs)
  list_kept current [] good = tt
  list_kept current (x ∷ xs) good = (placed_kept current x (statement_kept x) good.0, list_kept (placed current (marking_of x)).site xs good.1)
