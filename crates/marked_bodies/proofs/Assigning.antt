-- A statement assigns a variable where one of the assignments in it is to that one.
use Rattle.std.proofs.Common.{◌≡◌, refl, sym, ap, subst, ◌∙◌, ℕ, Bool, false, ◌||◌, List, [], ◌∷◌, ◌++◌, map, Some, None}
use Rattle.std.specs.Prelude.{nat_eq}
use Rattle.std.specs.List.{list_any}
use Rattle.access_blocks.specs.declared.body.Statement.{Statement, roll-Statement}
use Rattle.access_blocks.specs.declared.body.Statement.TheOpen.{Statement-F}
use Rattle.access_blocks.specs.declared.body.Statement.TheOpen as s
use Rattle.access_blocks.specs.declared.body.Statement.TheFolds.{fold-roll-Statement, ind-Statement, map-Statement}
use Rattle.access_blocks.specs.declared.body.Target.{Target}
use Rattle.access_blocks.specs.declared.body.Target.TheVariants as target
use Rattle.access_blocks.specs.Marks.{is_target, assigns_step, assigns}
use Rattle.body_code.specs.Early.{Assigned, to_target, with_reads, key_reads, all_of, assigned_step, assigned_in}
use Rattle.marked_bodies.proofs.Facts.{any_of_both, or_none}

abbrev pub any_is : ℕ → List Assigned → Bool
any_is v xs = list_any (λ (a : Assigned). nat_eq a.variable v) xs

either_any : (v : ℕ) (a b : Bool) (xs ys : List Assigned) → a ≡ any_is v xs → b ≡ any_is v ys → (a || b) ≡ any_is v (xs ++ ys)
either_any v a b xs ys e f = ap (λ z. z || b) e ∙ ap (λ z. any_is v xs || z) f ∙ sym (any_of_both (λ (a : Assigned). nat_eq a.variable v) xs ys)

reads_no_matter : (v : ℕ) (more : List ℕ) (xs : List Assigned) → any_is v xs ≡ any_is v (map (with_reads more) xs)
reads_no_matter v more [] = refl
reads_no_matter v more (x ∷ xs) = ap (λ b. nat_eq x.variable v || b) (reads_no_matter v more xs)

target_any : (v : ℕ) (to : Target) (reads : List ℕ) → is_target v to ≡ any_is v (to_target to reads)
target_any v target.Dropped reads = refl
target_any v (target.Variable w) reads = or_none (nat_eq w v)
target_any v target.Returned reads = refl

module _ (v : ℕ) where
  abbrev Says : Statement → Type 0
  Says x = assigns v x ≡ any_is v (assigned_in x)

  abbrev Part : Type 0
  Part = (x : Statement) × Says x

  abbrev bare : Statement-F Part → Statement-F Statement
  bare = map-Statement Part Statement (λ p. p.0)

  abbrev bares : List Part → List Statement
  bares ps = map (λ (p : Part). p.0) ps

  parts_say : (ps : List Part) → list_any (λ b. b) (map (assigns v) (bares ps)) ≡ any_is v (all_of (map assigned_in (bares ps)))
  parts_say [] = refl
  parts_say (p ∷ ps) = either_any v (assigns v p.0) (list_any (λ b. b) (map (assigns v) (bares ps))) (assigned_in p.0) (all_of (map assigned_in (bares ps))) p.1 (parts_say ps)

  abbrev assigning : Statement-F Statement → Statement-F Bool
  assigning = map-Statement Statement Bool (assigns v)

  abbrev all_assigned : Statement-F Statement → Statement-F (List Assigned)
  all_assigned = map-Statement Statement (List Assigned) assigned_in

  layer : (y : Statement-F Part) → assigns_step v (assigning (bare y)) ≡ any_is v (assigned_step (all_assigned (bare y)))
  layer (s.Assign w a) = or_none (nat_eq w v)
  layer (s.SetElement w at a) = refl
  layer (s.Evaluate a) = refl
  layer (s.Access a) = target_any v a.target _
  layer (s.Gather g) = refl
  layer (s.Marked mark body) = body.1 ∙ reads_no_matter v (key_reads mark.key) (assigned_in body.0)
  layer (s.Opened body) = body.1
  layer (s.Block items) = parts_say items
  layer (s.If test first None) = either_any v (assigns v first.0) false (assigned_in first.0) [] first.1 refl
  layer (s.If test first (Some second)) = either_any v (assigns v first.0) (assigns v second.0) (assigned_in first.0) (assigned_in second.0) first.1 second.1
  layer (s.Loop start test update body) =
      let as_list : List Statement → List Assigned = λ xs. all_of (map assigned_in xs) in
      let any : List Statement → Bool = λ xs. list_any (λ b. b) (map (assigns v) xs) in
      let ss = bares start in
      let us = bares update in
      either_any v (any ss) (any us || assigns v body.0) (as_list ss) (as_list us ++ assigned_in body.0) (parts_say start)
      (either_any v (any us) (assigns v body.0) (as_list us) (assigned_in body.0) (parts_say update) body.1)
  layer s.Break = refl
  layer s.Continue = refl
  layer (s.Return a) = refl

  made : (x : Statement-F Statement) (y : Statement-F Part) → bare y ≡ x → Says (roll-Statement x)
  made x y is =
      let P : Statement-F Statement → Type 0 = λ z. assigns_step v (assigning z) ≡ any_is v (assigned_step (all_assigned z)) in
      let all : P x = subst P is (layer y) in
      fold-roll-Statement Bool (assigns_step v) x ∙ all ∙ ap (any_is v) (sym (fold-roll-Statement (List Assigned) assigned_step x))

  pub assigns_any : (x : Statement) → Says x
  assigns_any = ind-Statement Says made
