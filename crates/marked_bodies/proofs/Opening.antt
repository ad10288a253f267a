-- A typed list of statements is typed with its marks.
use Rattle.std.proofs.Common.{◌≡◌, refl, sym, ap, subst, ◌∙◌, Bool, true, false, not, ◌&&◌, ◌||◌, List, [], ◌∷◌, map, Option, Some, None, slice_get, inl, ℕ}
use Rattle.std.proofs.lemmas.Bool.{false≢true}
use Rattle.sdg_base.specs.declared.value_type.ValueType.{ValueType}
use Rattle.sdg_base.specs.declared.value_type.ValueType.TheVariants as type
use Rattle.sdg_base.specs.Signatures.{Signature}
use Rattle.access_blocks.specs.declared.body.Expression.{Expression}
use Rattle.access_blocks.specs.declared.body.Gather.{Gather}
use Rattle.access_blocks.specs.declared.body.Statement.{Statement, roll-Statement, out-Statement, out-roll-Statement}
use Rattle.access_blocks.specs.declared.body.Statement.TheOpen.{Statement-F}
use Rattle.access_blocks.specs.declared.body.Statement.TheOpen as s
use Rattle.access_blocks.specs.declared.body.Statement.TheVariants as statement
use Rattle.access_blocks.specs.declared.body.Statement.TheFolds.{fold-roll-Statement, ind-Statement, map-Statement}
use Rattle.access_blocks.specs.declared.place.Placed.{Placed}
use Rattle.access_blocks.specs.declared.place.Site.{Site}
use Rattle.access_blocks.specs.Marks.{Marking, marking_step, marking_of, opened_step, placed, list_placed, branch, whole_list, with_marks}
use Rattle.access_blocks.proofs.Markings.{wholes_are}
use Rattle.body_code.specs.Checking.{Surroundings, Standing, Around, Checking, outside, covers, ends_as, is_condition, takes, otherwise, after_compound, compound, meet, met, branching, passing, looping, gather, signature_of, takes_all, in_order, checked, checked_list, checked_step, is_entry, is_partial, gathering}
use Rattle.body_code.specs.Checking as checking
use Rattle.marked_bodies.specs.Unmarked.{Headed, headed_step, headed_in, one_by_one, unmarked, unmarked_list, unmarked_step}
use Rattle.marked_bodies.proofs.Facts.{not_false, both_true, and_true, so, where_true}
use Rattle.marked_bodies.proofs.Typed.{behind_is, branches_good, looped, Looped}
use Rattle.marked_bodies.proofs.Standings.{gather_is}
use Rattle.marked_bodies.proofs.Within.{within, GatheredAs, takes_all_within, condition_within}
use Rattle.marked_bodies.proofs.Exits.{ExitsAs, covers_known, covers_there}
use Rattle.marked_bodies.proofs.Whole.{are_to, ends_there, list_fits}
use Rattle.marked_bodies.proofs.Keeping.{folded}
use Rattle.marked_bodies.proofs.Placing.{placed_is, branch_is}
use Rattle.marked_bodies.proofs.Headers.{none_in, sites_of}
use Rattle.marked_bodies.proofs.Following.{Leads, Follows, none_follow, more_follow, wherever, unit_follows, without_follows, leads_out, is_open, opens}

neither : (a b : Bool) → not (a || b) ≡ true → (a ≡ false) × (b ≡ false)
neither true b is = absurd (false≢true is)
neither false b is = (refl, not_false b is)

-- what is opened leads where it leads without marks
abbrev pub OpensTo : Checking → Checking → Type 0
OpensTo bare check = (field : Option ℕ) (gathered : Option ValueType) (exits need : Around) (st end : Standing) → ExitsAs None None exits need → st.field ≡ None → GatheredAs st gathered → bare exits st ≡ Some end
    → check need (within field gathered st) ≡ Some end

module _ (around : Surroundings) where
  abbrev Opens : Statement → Type 0
  Opens x = is_open (out-Statement x) ≡ true → (headed_in x).is_right ≡ true → OpensTo (unmarked around x) (checked around (marking_of x).opened)

  -- ---- lists and branches of statements whose opening is known

  placed_follows : (current : Option Site) (x : Statement) → Opens x → (headed_in x).is_right ≡ true → Follows current (placed current (marking_of x)).site (unmarked around x) (checked around (placed current (marking_of x)).statement)
  placed_follows current x opening right field gathered exits need st end stands as_exits out as_gathered is =
      placed_is current x (λ (p : Placed). Leads p.site (checked around p.statement need (within field gathered st)) end)
      (λ site unit. unit_follows around current x site unit field gathered exits need st end stands as_exits out as_gathered is)
      (λ none has. leads_out around x exits st end (checked around (marking_of x).opened need (within field gathered st)) is
      (opening (opens around x exits st end none has is) right field gathered exits need st end as_exits out as_gathered is))
      (λ none has. without_follows around current x has field gathered exits need st end stands as_exits out as_gathered is)

  branch_follows : (x : Statement) → Opens x → (headed_in x).is_right ≡ true → Follows None None (unmarked around x) (checked around (branch (marking_of x)))
  branch_follows x opening right field gathered exits need st end stands as_exits out as_gathered is =
      branch_is x (λ (z : Statement). Leads None (checked around z need (within field gathered st)) end)
      (λ items same has. leads_out around x exits st end (checked around (marking_of x).opened need (within field gathered st)) is
      (opening (ap is_open same) right field gathered exits need st end as_exits out as_gathered is))
      (λ has. without_follows around None x has field gathered exits need st end stands as_exits out as_gathered is)
      (wherever (placed None (marking_of x)).site (checked around (placed None (marking_of x)).statement need (within field gathered st)) end
      (placed_follows None x opening right field gathered exits need st end stands as_exits out as_gathered is))

  abbrev Part : Type 0
  Part = (x : Statement) × Opens x

  abbrev bare : Statement-F Part → Statement-F Statement
  bare = map-Statement Part Statement (λ p. p.0)

  abbrev bares : List Part → List Statement
  bares ps = map (λ (p : Part). p.0) ps

  parts_follow : (current : Option Site) (ps : List Part) → (one_by_one (map headed_in (bares ps))).is_right ≡ true → Follows current None (unmarked_list around (bares ps)) (checked_list around (list_placed current (map marking_of (bares ps))))
  parts_follow current [] right = none_follow current
  parts_follow current (p ∷ ps) right =
      let p1 = placed current (marking_of p.0) in
      let r = both_true (headed_in p.0).is_right (one_by_one (map headed_in (bares ps))).is_right right in
      more_follow current p1.site (unmarked around p.0) (checked around p1.statement) (map (unmarked around) (bares ps)) (map (checked around) (list_placed p1.site (map marking_of (bares ps))))
      (placed_follows current p.0 p.1 r.0) (parts_follow p1.site ps r.1)

  -- ---- what is opened

  -- an opened statement leads out of blocks
  out_of : (z : Statement) (field : Option ℕ) (gathered : Option ValueType) (need : Around) (st end a : Standing) → checked around z need (outside st) ≡ Some a → outside st ≡ end → checked around (statement.Opened z) need (within field gathered st) ≡ Some end
  out_of z field gathered need st end a is same =
      let there = within field gathered st in
      ap (λ (c : Checking). c need there) (folded Checking (checked_step around) (s.Opened z) (statement.Opened z) (statement.rolls-Opened z))
      ∙ ap (checking.opened there) is ∙ ap (λ (e : Standing). Some e) same

  block_checked : (zs : List Statement) (need : Around) (st a : Standing) → checked_list around zs need st ≡ Some a → checked around (statement.Block zs) need st ≡ Some (after_compound st a)
  block_checked zs need st a is =
      ap (λ (c : Checking). c need st) (folded Checking (checked_step around) (s.Block zs) (statement.Block zs) (statement.rolls-Block zs)) ∙ ap (compound st) is

  branches_checked : (test : Expression) (first : Checking) (second : Option Checking) (need : Around) (st a b : Standing) → takes around st test type.Boolean ≡ true → first need st ≡ Some a → otherwise second need st ≡ Some b
      → branching around test first second need st ≡ Some (meet st a b)
  branches_checked test first second need st a b holds is also =
      where_true (takes around st test type.Boolean) (met st (first need st) (otherwise second need st)) None holds
      ∙ ap (λ (o : Option Standing). met st o (otherwise second need st)) is ∙ ap (λ (o : Option Standing). met st (Some a) o) also

  ends_back : (end need : Standing) (o : Option Standing) → Leads None o end → covers end need ≡ true → ends_as (outside need) o ≡ true
  ends_back end need o l covering =
      ap (ends_as (outside need)) l.checked
      ∙ covers_there l.field l.gathered end need (outside need) (covers_known end need covering) (record { known = refl; at_field = inl refl; at_gathered = inl refl })

  loop_checked : (ss us : List Statement) (test : Option Expression) (body : Statement) (check : Checking) (exits need : Around) (st : Standing) → sites_of ss ≡ [] → sites_of us ≡ [] → Follows None None (unmarked around body) check
      → (l : Looped around (map (unmarked around) ss) test (map (unmarked around) us) (unmarked around body) (outside st))
      → looping around (map (checked around) ss) test (map (checked around) us) check need (outside st) ≡ Some (after_compound (outside st) (outside l.need))
  loop_checked ss us test body check exits need st no_start no_update follows l =
      let p = l.passed in
      let mid = outside l.need in
      let a = list_fits around ss None None None None (outside st) l.need (ap (are_to None) no_start) tt refl (inl refl) l.started in
      let b = follows None None (Some l.need) (Some mid) l.need p.body_end tt (record { known = refl; at_field = inl refl; at_gathered = inl refl }) a.outside a.as_gathered p.body_is in
      let c = list_fits around us None None None None l.need p.update_end (ap (are_to None) no_update) tt a.outside a.as_gathered p.update_is in
      let cb = check (Some mid) mid in
      let cu = checked_list around us None mid in
      let right : (is_condition around mid test && (ends_as mid cb && ends_as mid cu)) ≡ true =
      and_true (is_condition around mid test) (ends_as mid cb && ends_as mid cu) (condition_within around None None l.need a.outside a.as_gathered test p.condition)
      (and_true (ends_as mid cb) (ends_as mid cu) (ends_back p.body_end l.need cb b p.body_covers) (ends_there None None p.update_end l.need cu c.checked p.update_covers)) in
      ap (checking.next (passing around (outside st) test (map (checked around) us) check)) a.checked
      ∙ so (is_condition around mid test && (ends_as mid cb && ends_as mid cu)) (after_compound (outside st) mid) right

  gathered_checked : (g : Gather) (o : Option Signature) (sig : Signature) (field : Option ℕ) (gathered : Option ValueType) (st end : Standing) → st.field ≡ None → GatheredAs st gathered → o ≡ Some sig
      → (is_entry around.kind && (is_partial (slice_get around.fields g.field) && takes_all around st g.args sig.arguments)) ≡ true → gathering sig.result st ≡ end → gather around g o (within field gathered st) ≡ Some end
  gathered_checked g o sig field gathered st end out as_gathered known right e =
      let there = within field gathered st in
      let a = is_entry around.kind in
      let b = is_partial (slice_get around.fields g.field) in
      let c = takes_all around st g.args sig.arguments in
      let d = takes_all around there g.args sig.arguments in
      let k = both_true a (b && c) right in
      let l = both_true b c k.1 in
      let holds : (a && (b && d)) ≡ true = and_true a (b && d) k.0 (and_true b d l.0 (takes_all_within around field gathered st out as_gathered g.args sig.arguments l.1)) in
      ap (λ (p : Option Signature). gather around g p there) known ∙ so (a && (b && d)) (gathering sig.result there) holds ∙ ap (λ (z : Standing). Some z) e

  abbrev checks : Statement-F Statement → Statement-F Checking
  checks = map-Statement Statement Checking (unmarked around)

  abbrev markings : Statement-F Statement → Statement-F Marking
  markings = map-Statement Statement Marking marking_of

  abbrev headeds : Statement-F Statement → Statement-F Headed
  headeds = map-Statement Statement Headed headed_in

  layer : (y : Statement-F Part) → is_open (bare y) ≡ true → (headed_step (headeds (bare y))).is_right ≡ true → OpensTo (unmarked_step around (checks (bare y))) (checked around (opened_step (markings (bare y))))
  layer (s.Gather g) open_here right field gathered exits need st end as_exits out as_gathered is =
      let o = signature_of around g.field g.method in
      let k = gather_is around g o st end is in
      let there = within field gathered st in
      ap (λ (c : Checking). c need there) (fold-roll-Statement Checking (checked_step around) (s.Gather g))
      ∙ gathered_checked g o k.0 field gathered st end out as_gathered k.1 k.2 k.3
  layer (s.Block items) open_here right field gathered exits need st end as_exits out as_gathered is =
      let xs = bares items in
      let k = behind_is st (unmarked_list around xs exits (outside st)) end is in
      let zs = list_placed None (map marking_of xs) in
      let l = parts_follow None items right None None exits need (outside st) k.0 tt as_exits refl (inl refl) k.1 in
      let there = within l.field l.gathered k.0 in
      out_of (statement.Block zs) field gathered need st end (after_compound (outside st) there) (block_checked zs need (outside st) there l.checked) k.2
  layer (s.If test first None) open_here right field gathered exits need st end as_exits out as_gathered is =
      let k = branches_good around test (unmarked around first.0) None exits (outside st) end is in
      let one = branch (marking_of first.0) in
      let a = branch_follows first.0 first.1 right None None exits need (outside st) k.1 tt as_exits refl (inl refl) k.3 in
      let there = within a.field a.gathered k.1 in
      let z = statement.If test one None in
      out_of z field gathered need st end (meet (outside st) there (outside st))
      (ap (λ (c : Checking). c need (outside st)) (folded Checking (checked_step around) (s.If test one None) z (statement.rolls-If test one None))
      ∙ branches_checked test (checked around one) None need (outside st) there (outside st) k.0 a.checked refl) k.5
  layer (s.If test first (Some second)) open_here right field gathered exits need st end as_exits out as_gathered is =
      let k = branches_good around test (unmarked around first.0) (Some (unmarked around second.0)) exits (outside st) end is in
      let r = both_true (headed_in first.0).is_right (headed_in second.0).is_right right in
      let one = branch (marking_of first.0) in
      let two = branch (marking_of second.0) in
      let a = branch_follows first.0 first.1 r.0 None None exits need (outside st) k.1 tt as_exits refl (inl refl) k.3 in
      let b = branch_follows second.0 second.1 r.1 None None exits need (outside st) k.2 tt as_exits refl (inl refl) k.4 in
      let there = within a.field a.gathered k.1 in
      let other = within b.field b.gathered k.2 in
      let z = statement.If test one (Some two) in
      out_of z field gathered need st end (meet (outside st) there other)
      (ap (λ (c : Checking). c need (outside st)) (folded Checking (checked_step around) (s.If test one (Some two)) z (statement.rolls-If test one (Some two)))
      ∙ branches_checked test (checked around one) (Some (checked around two)) need (outside st) there other k.0 a.checked b.checked) k.5
  layer (s.Loop start test update body) open_here right field gathered exits need st end as_exits out as_gathered is =
      let ss = bares start in
      let us = bares update in
      let k = behind_is st (looping around (map (unmarked around) ss) test (map (unmarked around) us) (unmarked around body.0) exits (outside st)) end is in
      let l = looped around (map (unmarked around) ss) test (map (unmarked around) us) (unmarked around body.0) exits (outside st) k.0 k.1 in
      let start_has = (one_by_one (map headed_in ss)).accesses in
      let update_has = (one_by_one (map headed_in us)).accesses in
      let r = both_true (not (start_has || update_has)) (headed_in body.0).is_right right in
      let n = neither start_has update_has r.0 in
      let one = branch (marking_of body.0) in
      let whole : checked around (statement.Opened (statement.Loop ss test us one)) need (within field gathered st) ≡ Some end =
      out_of (statement.Loop ss test us one) field gathered need st end (after_compound (outside st) (outside l.need))
      (ap (λ (c : Checking). c need (outside st)) (folded Checking (checked_step around) (s.Loop ss test us one) (statement.Loop ss test us one) (statement.rolls-Loop ss test us one))
      ∙ loop_checked ss us test body.0 (checked around one) exits need st (none_in ss n.0) (none_in us n.1) (branch_follows body.0 body.1 r.1) l) k.2 in
      subst (λ (xs : List Statement). checked around (statement.Opened (statement.Loop xs test (whole_list (map marking_of us)) one)) need (within field gathered st) ≡ Some end) (sym (wholes_are ss))
      (subst (λ (zs : List Statement). checked around (statement.Opened (statement.Loop ss test zs one)) need (within field gathered st) ≡ Some end) (sym (wholes_are us)) whole)
  layer (s.Access a) open_here right field gathered exits need st end as_exits out as_gathered is = absurd (false≢true open_here)
  layer (s.Marked mark body) open_here right field gathered exits need st end as_exits out as_gathered is = absurd (false≢true open_here)
  layer (s.Opened body) open_here right field gathered exits need st end as_exits out as_gathered is = absurd (false≢true open_here)
  layer (s.Assign v a) open_here right field gathered exits need st end as_exits out as_gathered is = absurd (false≢true open_here)
  layer (s.SetElement v at a) open_here right field gathered exits need st end as_exits out as_gathered is = absurd (false≢true open_here)
  layer (s.Evaluate a) open_here right field gathered exits need st end as_exits out as_gathered is = absurd (false≢true open_here)
  layer s.Break open_here right field gathered exits need st end as_exits out as_gathered is = absurd (false≢true open_here)
  layer s.Continue open_here right field gathered exits need st end as_exits out as_gathered is = absurd (false≢true open_here)
  layer (s.Return a) open_here right field gathered exits need st end as_exits out as_gathered is = absurd (false≢true open_here)

  made : (x : Statement-F Statement) (y : Statement-F Part) → bare y ≡ x → Opens (roll-Statement x)
  made x y is open_here right =
      let P : Statement-F Statement → Type 0 = λ z. is_open z ≡ true → (headed_step (headeds z)).is_right ≡ true → OpensTo (unmarked_step around (checks z)) (checked around (opened_step (markings z))) in
      let all : P x = subst P is (layer y) in
      let mark = ap (λ (m : Marking). m.opened) (fold-roll-Statement Marking marking_step x) in
      let bare_check = fold-roll-Statement Checking (unmarked_step around) x in
      subst (λ (z : Statement). OpensTo (unmarked around (roll-Statement x)) (checked around z)) (sym mark)
      (subst (λ (f : Checking). OpensTo f (checked around (opened_step (markings x)))) (sym bare_check)
      (all (ap is_open (sym (out-roll-Statement x)) ∙ open_here) (ap (λ (h : Headed). h.is_right) (sym (fold-roll-Statement Headed headed_step x)) ∙ right)))

  statement_opens : (x : Statement) → Opens x
  statement_opens = ind-Statement Opens made

  list_follows : (current : Option Site) (xs : List Statement) → (one_by_one (map headed_in xs)).is_right ≡ true → Follows current None (unmarked_list around xs) (checked_list around (list_placed current (map marking_of xs)))
  list_follows current [] right = none_follow current
  list_follows current (x ∷ xs) right =
      let p = placed current (marking_of x) in
      let r = both_true (headed_in x).is_right (one_by_one (map headed_in xs)).is_right right in
      more_follow current p.site (unmarked around x) (checked around p.statement) (map (unmarked around) xs) (map (checked around) (list_placed p.site (map marking_of xs)))
      (placed_follows current x (statement_opens x) r.0) (list_follows p.site xs r.1)

  -- a list that begins in no block
  pub typed_with_marks : (xs : List Statement) (st end : Standing) → st.field ≡ None → st.gathered ≡ None → (one_by_one (map headed_in xs)).is_right ≡ true → unmarked_list around xs None st ≡ Some end
      → (after : Standing) × (checked_list around (with_marks xs) None st ≡ Some after)
  typed_with_marks xs st end out none right is =
      let l = list_follows None xs right st.field st.gathered None None st end tt tt out (inl none) is in
      (within l.field l.gathered end, l.checked)
