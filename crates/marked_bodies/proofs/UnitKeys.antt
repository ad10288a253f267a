-- The key of accesses that are all to one part fits before a statement that does not assign its variable.
use Rattle.std.proofs.Common.{◌≡◌, refl, sym, subst, ◌∙◌, ℕ, Bool, true, false, ◌||◌, List, [], ◌∷◌, ◌++◌, map, Option, Some, None}
use Rattle.std.specs.Prelude.{nat_eq}
use Rattle.std.specs.List.{list_all, list_any, flat_map}
use Rattle.access_blocks.specs.declared.body.Choice.TheVariants as choice
use Rattle.access_blocks.specs.declared.body.Expression.{Expression}
use Rattle.access_blocks.specs.declared.body.Statement.{Statement, roll-Statement}
use Rattle.access_blocks.specs.declared.body.Statement.TheOpen.{Statement-F}
use Rattle.access_blocks.specs.declared.body.Statement.TheOpen as s
use Rattle.access_blocks.specs.declared.body.Statement.TheFolds.{fold-roll-Statement, ind-Statement, map-Statement}
use Rattle.access_blocks.specs.declared.place.Site.{Site}
use Rattle.access_blocks.specs.Marks.{site_of, sites_step, sites_in, same_part, same_site, assigns_step, assigns, first_of, first_in, key_step, key_of}
use Rattle.body_code.specs.Early.{is_in}
use Rattle.body_code.specs.Checking.{Surroundings, Standing, Around, Checking, outside, looping, signature_of}
use Rattle.marked_bodies.specs.Unmarked.{unmarked_step, unmarked, unmarked_list}
use Rattle.marked_bodies.proofs.Facts.{none_some, some_is, both_true, either_false, next_is, all_both}
use Rattle.marked_bodies.proofs.Typed.{behind_is, branches_good, looped}
use Rattle.marked_bodies.proofs.Standings.{unmarked_access_is, ends_in, not_anew}
use Rattle.marked_bodies.proofs.Within.{is_right}
use Rattle.marked_bodies.proofs.Keys.{KeyFits, NoAccess, Kept, fits_before, one_after}
use Rattle.marked_bodies.proofs.Headers.{sites_of}
use Rattle.marked_bodies.proofs.Choices.{same_field, none_differs, access_fits}

-- the variable that chooses a part is not assigned
abbrev pub LeavesKey : Site → (ℕ → Bool) → Type 0
LeavesKey part assigned = (v : ℕ) → part.choice ≡ Some (choice.Variable v) → assigned v ≡ false

first_leaves : (part : Site) (a b : ℕ → Bool) → LeavesKey part (λ v. a v || b v) → LeavesKey part a
first_leaves part a b h v is = (either_false (a v) (b v) (h v is)).0

second_leaves : (part : Site) (a b : ℕ → Bool) → LeavesKey part (λ v. a v || b v) → LeavesKey part b
second_leaves part a b h v is = (either_false (a v) (b v) (h v is)).1

module _ (around : Surroundings) where
  abbrev pub HasKey : Checking → List Site → (ℕ → Bool) → Option Expression → Type 0
  HasKey check sites assigned key = (part : Site) (exits : Around) (st end : Standing) → list_all (same_site part) sites ≡ true → LeavesKey part assigned → check exits st ≡ Some end → KeyFits around st.known part sites key

  abbrev Keyed : Statement → Type 0
  Keyed x = HasKey (unmarked around x) (sites_in x) (λ v. assigns v x) (key_of x)

  abbrev Part : Type 0
  Part = (x : Statement) × Keyed x

  abbrev bare : Statement-F Part → Statement-F Statement
  bare = map-Statement Part Statement (λ p. p.0)

  abbrev bares : List Part → List Statement
  bares ps = map (λ (p : Part). p.0) ps

  abbrev any_assigns : List Statement → ℕ → Bool
  any_assigns xs v = list_any (λ b. b) (map (assigns v) xs)

  kept_behind : (part : Site) (x : Statement) (exits : Around) (st end : Standing) → LeavesKey part (λ v. assigns v x) → unmarked around x exits st ≡ Some end → Kept part st.known end.known
  kept_behind part x exits st end leaves is v chosen known = not_anew x st end (ends_in around x exits st end is) v (leaves v chosen) known

  kept_through : (part : Site) (xs : List Statement) (exits : Around) (st end : Standing) → LeavesKey part (any_assigns xs) → unmarked_list around xs exits st ≡ Some end → Kept part st.known end.known
  kept_through part [] exits st end leaves is v chosen known = subst (λ (z : Standing). is_in v z.known ≡ true) (sym (some_is st end is)) known
  kept_through part (x ∷ xs) exits st end leaves is v chosen known =
      let k = next_is (unmarked_list around xs exits) (unmarked around x exits st) end is in
      let one = first_leaves part (λ v. assigns v x) (any_assigns xs) leaves in
      let more = second_leaves part (λ v. assigns v x) (any_assigns xs) leaves in
      kept_behind part x exits st k.0 one k.1 v chosen (kept_through part xs exits k.0 end more k.2 v chosen known)

  parts_keyed : (ps : List Part) → HasKey (unmarked_list around (bares ps)) (sites_of (bares ps)) (any_assigns (bares ps)) (first_in (map key_of (bares ps)))
  parts_keyed [] part exits st end all leaves is = NoAccess refl refl
  parts_keyed (p ∷ ps) part exits st end all leaves is =
      let xs = bares ps in
      let k = next_is (unmarked_list around xs exits) (unmarked around p.0 exits st) end is in
      let t = all_both (same_site part) (sites_in p.0) (sites_of xs) all in
      let one = first_leaves part (λ v. assigns v p.0) (any_assigns xs) leaves in
      let more = second_leaves part (λ v. assigns v p.0) (any_assigns xs) leaves in
      let rest = parts_keyed ps part exits k.0 end t.1 more k.2 in
      one_after around st.known part (sites_in p.0) (sites_of xs) (key_of p.0) (first_in (map key_of xs)) (p.1 part exits st k.0 t.0 one k.1)
      (fits_before around st.known k.0.known part (sites_of xs) (first_in (map key_of xs)) (kept_behind part p.0 exits st k.0 one k.1) rest)

  abbrev checks : Statement-F Statement → Statement-F Checking
  checks = map-Statement Statement Checking (unmarked around)

  abbrev all_sites : Statement-F Statement → Statement-F (List Site)
  all_sites = map-Statement Statement (List Site) sites_in

  abbrev all_keys : Statement-F Statement → Statement-F (Option Expression)
  all_keys = map-Statement Statement (Option Expression) key_of

  abbrev assigning : Statement-F Statement → ℕ → Bool
  assigning y v = assigns_step v (map-Statement Statement Bool (assigns v) y)

  layer : (y : Statement-F Part) → HasKey (unmarked_step around (checks (bare y))) (sites_step (all_sites (bare y))) (assigning (bare y)) (key_step (all_keys (bare y)))
  layer (s.Access a) part exits st end all leaves is =
      let k = unmarked_access_is around a (signature_of around a.field a.method) (outside st) end is in
      let r = is_right around a k.0 (outside st) k.2 in
      let same = (both_true (same_site part (site_of a)) true all).0 in
      access_fits around a k.0 a.choice part (site_of a ∷ []) (outside st) r.entry r.place r.arguments (same_field part (site_of a) same) (both_true (nat_eq part.field a.field) (same_part part.choice (Some a.choice)) same).1
  layer (s.Gather g) part exits st end all leaves is =
      let site : Site = record { field = g.field; choice = None } in
      absurd (none_differs part.choice (both_true (nat_eq part.field g.field) (same_part part.choice None) (both_true (same_site part site) true all).0).1)
  layer (s.Marked mark body) part exits st end all leaves is = absurd (none_some end is)
  layer (s.Opened body) part exits st end all leaves is = absurd (none_some end is)
  layer (s.Block items) part exits st end all leaves is =
      let k = behind_is st (unmarked_list around (bares items) exits (outside st)) end is in
      parts_keyed items part exits (outside st) k.0 all leaves k.1
  layer (s.If test first None) part exits st end all leaves is =
      let k = branches_good around test (unmarked around first.0) None exits (outside st) end is in
      let t = all_both (same_site part) (sites_in first.0) [] all in
      one_after around st.known part (sites_in first.0) [] (key_of first.0) None (first.1 part exits (outside st) k.1 t.0 (first_leaves part (λ v. assigns v first.0) (λ v. false) leaves) k.3) (NoAccess refl refl)
  layer (s.If test first (Some second)) part exits st end all leaves is =
      let k = branches_good around test (unmarked around first.0) (Some (unmarked around second.0)) exits (outside st) end is in
      let t = all_both (same_site part) (sites_in first.0) (sites_in second.0) all in
      one_after around st.known part (sites_in first.0) (sites_in second.0) (key_of first.0) (key_of second.0)
      (first.1 part exits (outside st) k.1 t.0 (first_leaves part (λ v. assigns v first.0) (λ v. assigns v second.0) leaves) k.3)
      (second.1 part exits (outside st) k.2 t.1 (second_leaves part (λ v. assigns v first.0) (λ v. assigns v second.0) leaves) k.4)
  layer (s.Loop start test update body) part exits st end all leaves is =
      let ss = bares start in
      let us = bares update in
      let k = behind_is st (looping around (map (unmarked around) ss) test (map (unmarked around) us) (unmarked around body.0) exits (outside st)) end is in
      let l = looped around (map (unmarked around) ss) test (map (unmarked around) us) (unmarked around body.0) exits (outside st) k.0 k.1 in
      let t = all_both (same_site part) (sites_of ss) (sites_of us ++ sites_in body.0) all in
      let u = all_both (same_site part) (sites_of us) (sites_in body.0) t.1 in
      let in_start = first_leaves part (any_assigns ss) (λ v. any_assigns us v || assigns v body.0) leaves in
      let others = second_leaves part (any_assigns ss) (λ v. any_assigns us v || assigns v body.0) leaves in
      let in_update = first_leaves part (any_assigns us) (λ v. assigns v body.0) others in
      let in_body = second_leaves part (any_assigns us) (λ v. assigns v body.0) others in
      let a = parts_keyed start part None (outside st) l.need t.0 in_start l.started in
      let b = body.1 part (Some l.need) l.need l.passed.body_end u.1 in_body l.passed.body_is in
      let c = parts_keyed update part None l.need l.passed.update_end u.0 in_update l.passed.update_is in
      let key = first_of (first_in (map key_of us)) (key_of body.0) in
      one_after around st.known part (sites_of ss) (sites_of us ++ sites_in body.0) (first_in (map key_of ss)) key a
      (fits_before around st.known l.need.known part (sites_of us ++ sites_in body.0) key (kept_through part ss None (outside st) l.need in_start l.started)
      (one_after around l.need.known part (sites_of us) (sites_in body.0) (first_in (map key_of us)) (key_of body.0) c b))
  layer (s.Assign v a) part exits st end all leaves is = NoAccess refl refl
  layer (s.SetElement v at a) part exits st end all leaves is = NoAccess refl refl
  layer (s.Evaluate a) part exits st end all leaves is = NoAccess refl refl
  layer s.Break part exits st end all leaves is = NoAccess refl refl
  layer s.Continue part exits st end all leaves is = NoAccess refl refl
  layer (s.Return a) part exits st end all leaves is = NoAccess refl refl

  made : (x : Statement-F Statement) (y : Statement-F Part) → bare y ≡ x → Keyed (roll-Statement x)
  made x y is =
      let P : Statement-F Statement → Type 0 = λ z. HasKey (unmarked_step around (checks z)) (sites_step (all_sites z)) (assigning z) (key_step (all_keys z)) in
      let all : P x = subst P is (layer y) in
      let a = fold-roll-Statement Checking (unmarked_step around) x in
      let b = fold-roll-Statement (List Site) sites_step x in
      let c = fold-roll-Statement (Option Expression) key_step x in
      λ part exits st end to leaves e.
      subst (λ (k : Option Expression). KeyFits around st.known part (sites_in (roll-Statement x)) k) (sym c)
      (subst (λ (ss : List Site). KeyFits around st.known part ss (key_step (all_keys x))) (sym b)
      (all part exits st end (subst (λ (ss : List Site). list_all (same_site part) ss ≡ true) b to)
      (λ v chosen. sym (fold-roll-Statement Bool (assigns_step v) x) ∙ leaves v chosen)
      (subst (λ (f : Checking). f exits st ≡ Some end) a e)))

  pub statement_keyed : (x : Statement) → Keyed x
  statement_keyed = ind-Statement Keyed made
