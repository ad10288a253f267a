-- A statement whose accesses are all to the field of a block is typed in the block.
use Rattle.std.proofs.Common.{◌≡◌, refl, sym, ap, subst, ◌∙◌, ℕ, Bool, true, false, ◌&&◌, List, [], ◌∷◌, ◌++◌, map, Option, Some, None, inl, inr}
use Rattle.std.specs.List.{list_all, flat_map}
use Rattle.std.proofs.lemmas.Bool.{false≢true}
use Rattle.sdg_base.specs.declared.value_type.ValueType.{ValueType}
use Rattle.sdg_base.specs.declared.value_type.ValueType.TheVariants as type
use Rattle.access_blocks.specs.declared.body.Access.{Access}
use Rattle.access_blocks.specs.declared.body.Choice.{Choice}
use Rattle.access_blocks.specs.declared.body.Statement.{Statement, roll-Statement}
use Rattle.access_blocks.specs.declared.body.Statement.TheOpen.{Statement-F}
use Rattle.access_blocks.specs.declared.body.Statement.TheOpen as s
use Rattle.access_blocks.specs.declared.body.Statement.TheFolds.{fold-roll-Statement, ind-Statement, map-Statement}
use Rattle.access_blocks.specs.declared.place.Site.{Site}
use Rattle.access_blocks.specs.Marks.{sites_step, sites_in}
use Rattle.body_code.specs.Typing.{needs, type_of}
use Rattle.body_code.specs.Checking.{Surroundings, Standing, Around, Checking, outside, same_number, same_value, covers, common, met, branching, takes, is_condition, ends_as, after_compound, compound, passing, looping, jumping, assigned, set_element, evaluated, returning, signature_of, are_met, next, in_order, checked_step, checked, checked_list}
use Rattle.marked_bodies.specs.Unmarked.{unmarked_step, unmarked, unmarked_list}
use Rattle.marked_bodies.proofs.Facts.{none_some, some_is, both_true, and_true, so, where_true, next_is, all_both}
use Rattle.marked_bodies.proofs.Typed.{outside_is, behind_is, branches_good, looped}
use Rattle.marked_bodies.proofs.Standings.{unmarked_access_is, jumping_is, Leaves, Nowhere, ToVariable, ToResult}
use Rattle.marked_bodies.proofs.Within.{within, GatheredAs, assigned_within, set_within, evaluated_within, returning_within, takes_within, condition_within, takes_all_within, is_right, access_in_block}
use Rattle.marked_bodies.proofs.Headers.{sites_of}
use Rattle.marked_bodies.proofs.Exits.{same_number_same, same_value_same, common_true, covers_known, ExitsAs, covers_there, jumping_within}

-- ---- the sites of a block

abbrev pub has_part : Option Choice → Bool
has_part None = false
has_part (Some how) = true

abbrev pub is_to : Option ℕ → Site → Bool
is_to field site = has_part site.choice && same_number field (Some site.field)

-- all accesses are to a part of this field
abbrev pub are_to : Option ℕ → List Site → Bool
are_to field sites = list_all (is_to field) sites

-- ---- statements

pub record IsWithin (field : Option ℕ) (gathered : Option ValueType) (with_block : Option Standing) (end : Standing) : Type 0 where
  pub checked : with_block ≡ Some (within field gathered end)
  pub outside : end.field ≡ None
  pub as_gathered : GatheredAs end gathered

abbrev pub FitsIn : Checking → Checking → List Site → Type 0
FitsIn bare check sites = (field : Option ℕ) (gathered : Option ValueType) (exits need : Around) (st end : Standing) → are_to field sites ≡ true → ExitsAs field gathered exits need → st.field ≡ None → GatheredAs st gathered
    → bare exits st ≡ Some end → IsWithin field gathered (check need (within field gathered st)) end

same_behind : (field : Option ℕ) (gathered : Option ValueType) (st end : Standing) (o : Option Standing) → o ≡ Some (within field gathered st) → outside st ≡ end → IsWithin field gathered o end
same_behind field gathered st end o is e = record {
  checked = is ∙ ap (λ (z : Standing). Some (within field gathered z)) e;
  outside = ap (λ (z : Standing). z.field) (sym e);
  as_gathered = inl (ap (λ (z : Standing). z.gathered) (sym e));
}

-- where a simple statement leads outside of blocks
led : (field : Option ℕ) (gathered : Option ValueType) (a end : Standing) (o : Option Standing) → o ≡ Some (within field gathered a) → outside a ≡ end → IsWithin field gathered o end
led field gathered a end o is e = same_behind field gathered a end o is e

next_there : (f : Standing → Option Standing) (o : Option Standing) (a : Standing) → o ≡ Some a → next f o ≡ f a
next_there f o a is = ap (next f) is

compound_there : (before a : Standing) (o : Option Standing) → o ≡ Some a → compound before o ≡ Some (after_compound before a)
compound_there before a o is = ap (compound before) is

met_there : (field : Option ℕ) (gathered : Option ValueType) (st a b : Standing) (o p : Option Standing) → o ≡ Some (within field gathered a) → p ≡ Some (within field gathered b) → met (within field gathered st) o p ≡ Some (within field gathered st)
met_there field gathered st a b o p is also =
    ap (λ z. met (within field gathered st) z p) is ∙ ap (λ z. met (within field gathered st) (Some (within field gathered a)) z) also
    ∙ ap (λ f. Some (record { known = st.known; field = f; gathered = common (same_value gathered gathered) gathered })) (common_true (same_number field field) field (same_number_same field))
    ∙ ap (λ g. Some (record { known = st.known; field = field; gathered = g })) (common_true (same_value gathered gathered) gathered (same_value_same gathered))

pub ends_there : (field : Option ℕ) (gathered : Option ValueType) (end need : Standing) (o : Option Standing) → o ≡ Some (within field gathered end) → covers end need ≡ true → ends_as (within field gathered need) o ≡ true
ends_there field gathered end need o is covering =
    ap (ends_as (within field gathered need)) is
    ∙ covers_there field gathered end need (within field gathered need) (covers_known end need covering) (record { known = refl; at_field = inr refl; at_gathered = inr refl })

-- a jump stays where it is
led_as : (field : Option ℕ) (gathered : Option ValueType) (st end : Standing) (o : Option Standing) → o ≡ Some (within field gathered end) → outside st ≡ end → IsWithin field gathered o end
led_as field gathered st end o is e = record { checked = is; outside = ap (λ (z : Standing). z.field) (sym e); as_gathered = inl (ap (λ (z : Standing). z.gathered) (sym e)) }

-- an access leads outside of blocks, with nothing gathered
pub access_led : (around : Surroundings) (a : Access) (t : ValueType) (st end : Standing) → Leaves around a.target t (outside st) end → (end.field ≡ None) × (end.gathered ≡ None)
access_led around a t st end (Nowhere to e) = (ap (λ (z : Standing). z.field) (sym e), ap (λ (z : Standing). z.gathered) (sym e))
access_led around a t st end (ToVariable v to typed e) = (ap (λ (z : Standing). z.field) (sym e), ap (λ (z : Standing). z.gathered) (sym e))
access_led around a t st end (ToResult to typed e) = (ap (λ (z : Standing). z.field) (sym e), ap (λ (z : Standing). z.gathered) (sym e))

none_fit : FitsIn (in_order []) (in_order []) []
none_fit field gathered exits need st end to as_exits out as_gathered is =
    let e = some_is st end is in
    record { checked = ap (λ (z : Standing). Some (within field gathered z)) e; outside = ap (λ (z : Standing). z.field) (sym e) ∙ out; as_gathered = subst (λ (z : Standing). GatheredAs z gathered) e as_gathered }

-- one statement more before others
more_fit : (bare check : Checking) (sites : List Site) (bares checks : List Checking) (others : List Site) → FitsIn bare check sites → FitsIn (in_order bares) (in_order checks) others
    → FitsIn (in_order (bare ∷ bares)) (in_order (check ∷ checks)) (sites ++ others)
more_fit bare check sites bares checks others one more field gathered exits need st end to as_exits out as_gathered is =
    let k = next_is (in_order bares exits) (bare exits st) end is in
    let t = all_both (is_to field) sites others to in
    let here = one field gathered exits need st k.0 t.0 as_exits out as_gathered k.1 in
    let rest = more field gathered exits need k.0 end t.1 as_exits here.outside here.as_gathered k.2 in
    record {
      checked = next_there (in_order checks need) (check need (within field gathered st)) (within field gathered k.0) here.checked ∙ rest.checked;
      outside = rest.outside;
      as_gathered = rest.as_gathered;
    }

module _ (around : Surroundings) where
  abbrev Fits : Statement → Type 0
  Fits x = FitsIn (unmarked around x) (checked around x) (sites_in x)

  abbrev Part : Type 0
  Part = (x : Statement) × Fits x

  abbrev bare : Statement-F Part → Statement-F Statement
  bare = map-Statement Part Statement (λ p. p.0)

  abbrev bares : List Part → List Statement
  bares ps = map (λ (p : Part). p.0) ps

  parts_fit : (ps : List Part) → FitsIn (unmarked_list around (bares ps)) (checked_list around (bares ps)) (sites_of (bares ps))
  parts_fit [] = none_fit
  parts_fit (p ∷ ps) = more_fit (unmarked around p.0) (checked around p.0) (sites_in p.0) (map (unmarked around) (bares ps)) (map (checked around) (bares ps)) (sites_of (bares ps)) p.1 (parts_fit ps)

  abbrev checks : Statement-F Statement → Statement-F Checking
  checks = map-Statement Statement Checking (unmarked around)

  abbrev checks_there : Statement-F Statement → Statement-F Checking
  checks_there = map-Statement Statement Checking (checked around)

  abbrev all_sites : Statement-F Statement → Statement-F (List Site)
  all_sites = map-Statement Statement (List Site) sites_in

  layer : (y : Statement-F Part) → FitsIn (unmarked_step around (checks (bare y))) (checked_step around (checks_there (bare y))) (sites_step (all_sites (bare y)))
  layer (s.Assign v a) field gathered exits need st end to as_exits out as_gathered is =
      let k = outside_is (assigned around v (type_of around.context a) (are_met around st (needs a)) st) end is in
      led field gathered k.0 end (assigned around v (type_of around.context a) (are_met around (within field gathered st) (needs a)) (within field gathered st))
      (assigned_within around field gathered st out as_gathered v (type_of around.context a) (needs a) k.0 k.1) k.2
  layer (s.SetElement v at a) field gathered exits need st end to as_exits out as_gathered is =
      let k = outside_is (set_element around v at a st) end is in
      led field gathered k.0 end (set_element around v at a (within field gathered st)) (set_within around field gathered st out as_gathered v at a k.0 k.1) k.2
  layer (s.Evaluate a) field gathered exits need st end to as_exits out as_gathered is =
      let k = outside_is (evaluated around a st) end is in
      led field gathered k.0 end (evaluated around a (within field gathered st)) (evaluated_within around field gathered st out as_gathered a k.0 k.1) k.2
  layer (s.Access a) field gathered exits need st end to as_exits out as_gathered is =
      let o = signature_of around a.field a.method in
      let k = unmarked_access_is around a o (outside st) end is in
      let r = is_right around a k.0 (outside st) k.2 in
      let t = both_true (same_number field (Some a.field)) true to in
      let outer = access_led around a k.0.result st end k.3 in
      record {
        checked = access_in_block around a a.args o k.0 field gathered (outside st) end k.1 t.0 r.keyed (takes_all_within around field gathered (outside st) refl (inl refl) a.args k.0.arguments r.arguments) k.3;
        outside = outer.0;
        as_gathered = inl outer.1;
      }
  layer (s.Gather g) field gathered exits need st end to as_exits out as_gathered is = absurd (false≢true to)
  layer (s.Marked mark body) field gathered exits need st end to as_exits out as_gathered is = absurd (none_some end is)
  layer (s.Opened body) field gathered exits need st end to as_exits out as_gathered is = absurd (none_some end is)
  layer (s.Block items) field gathered exits need st end to as_exits out as_gathered is =
      let xs = bares items in
      let k = behind_is st (unmarked_list around xs exits (outside st)) end is in
      let h = parts_fit items field gathered exits need (outside st) k.0 to as_exits refl (inl refl) k.1 in
      let there = within field gathered st in
      same_behind field gathered st end (compound there (checked_list around xs need there)) (compound_there there (within field gathered k.0) (checked_list around xs need there) h.checked) k.2
  layer (s.If test first None) field gathered exits need st end to as_exits out as_gathered is =
      let k = branches_good around test (unmarked around first.0) None exits (outside st) end is in
      let t = all_both (is_to field) (sites_in first.0) [] to in
      let one = first.1 field gathered exits need (outside st) k.1 t.0 as_exits refl (inl refl) k.3 in
      let there = within field gathered st in
      let holds = takes_within around field gathered (outside st) refl (inl refl) test type.Boolean k.0 in
      same_behind field gathered st end (branching around test (checked around first.0) None need there)
      (where_true (takes around there test type.Boolean) (met there (checked around first.0 need there) (Some there)) None holds
      ∙ met_there field gathered st k.1 st (checked around first.0 need there) (Some there) one.checked refl) k.5
  layer (s.If test first (Some second)) field gathered exits need st end to as_exits out as_gathered is =
      let k = branches_good around test (unmarked around first.0) (Some (unmarked around second.0)) exits (outside st) end is in
      let t = all_both (is_to field) (sites_in first.0) (sites_in second.0) to in
      let one = first.1 field gathered exits need (outside st) k.1 t.0 as_exits refl (inl refl) k.3 in
      let two = second.1 field gathered exits need (outside st) k.2 t.1 as_exits refl (inl refl) k.4 in
      let there = within field gathered st in
      let holds = takes_within around field gathered (outside st) refl (inl refl) test type.Boolean k.0 in
      same_behind field gathered st end (branching around test (checked around first.0) (Some (checked around second.0)) need there)
      (where_true (takes around there test type.Boolean) (met there (checked around first.0 need there) (checked around second.0 need there)) None holds
      ∙ met_there field gathered st k.1 k.2 (checked around first.0 need there) (checked around second.0 need there) one.checked two.checked) k.5
  layer (s.Loop start test update body) field gathered exits need st end to as_exits out as_gathered is =
      let ss = bares start in
      let us = bares update in
      let there = within field gathered st in
      let k = behind_is st (looping around (map (unmarked around) ss) test (map (unmarked around) us) (unmarked around body.0) exits (outside st)) end is in
      let l = looped around (map (unmarked around) ss) test (map (unmarked around) us) (unmarked around body.0) exits (outside st) k.0 k.1 in
      let t = all_both (is_to field) (sites_of ss) (sites_of us ++ sites_in body.0) to in
      let u = all_both (is_to field) (sites_of us) (sites_in body.0) t.1 in
      let a = parts_fit start field gathered None None (outside st) l.need t.0 tt refl (inl refl) l.started in
      let p = l.passed in
      let mid = within field gathered l.need in
      let b = body.1 field gathered (Some l.need) (Some mid) l.need p.body_end u.1 (record { known = refl; at_field = inr refl; at_gathered = inr refl }) a.outside a.as_gathered p.body_is in
      let c = parts_fit update field gathered None None l.need p.update_end u.0 tt a.outside a.as_gathered p.update_is in
      let cb = checked around body.0 (Some mid) mid in
      let cu = checked_list around us None mid in
      let right : (is_condition around mid test && (ends_as mid cb && ends_as mid cu)) ≡ true =
      and_true (is_condition around mid test) (ends_as mid cb && ends_as mid cu) (condition_within around field gathered l.need a.outside a.as_gathered test p.condition)
      (and_true (ends_as mid cb) (ends_as mid cu) (ends_there field gathered p.body_end l.need cb b.checked p.body_covers) (ends_there field gathered p.update_end l.need cu c.checked p.update_covers)) in
      same_behind field gathered st end (looping around (map (checked around) ss) test (map (checked around) us) (checked around body.0) need there)
      (next_there (passing around there test (map (checked around) us) (checked around body.0)) (checked_list around ss None there) mid a.checked
      ∙ so (is_condition around mid test && (ends_as mid cb && ends_as mid cu)) (after_compound there mid) right) k.2
  layer s.Break field gathered exits need st end to as_exits out as_gathered is =
      let k = jumping_is exits (outside st) end is in
      led_as field gathered st end (jumping need (within field gathered st)) (jumping_within field gathered exits need st end as_exits is) k.3
  layer s.Continue field gathered exits need st end to as_exits out as_gathered is =
      let k = jumping_is exits (outside st) end is in
      led_as field gathered st end (jumping need (within field gathered st)) (jumping_within field gathered exits need st end as_exits is) k.3
  layer (s.Return a) field gathered exits need st end to as_exits out as_gathered is =
      let k = outside_is (returning around a st) end is in
      led field gathered k.0 end (returning around a (within field gathered st)) (returning_within around field gathered st out as_gathered a k.0 k.1) k.2

  made : (x : Statement-F Statement) (y : Statement-F Part) → bare y ≡ x → Fits (roll-Statement x)
  made x y is =
      let P : Statement-F Statement → Type 0 = λ z. FitsIn (unmarked_step around (checks z)) (checked_step around (checks_there z)) (sites_step (all_sites z)) in
      let all : P x = subst P is (layer y) in
      let a = fold-roll-Statement Checking (unmarked_step around) x in
      let b = fold-roll-Statement Checking (checked_step around) x in
      let c = fold-roll-Statement (List Site) sites_step x in
      subst (λ (f : Checking). FitsIn f (checked around (roll-Statement x)) (sites_in (roll-Statement x))) (sym a)
      (subst (λ (f : Checking). FitsIn (unmarked_step around (checks x)) f (sites_in (roll-Statement x))) (sym b)
      (subst (λ (ss : List Site). FitsIn (unmarked_step around (checks x)) (checked_step around (checks_there x)) ss) (sym c) all))

  pub statement_fits : (x : Statement) → Fits x
  statement_fits = ind-Statement Fits made

  pub list_fits : (xs : List Statement) → FitsIn (unmarked_list around xs) (checked_list around xs) (sites_of xs)
  list_fits [] = none_fit
  list_fits (x ∷ xs) = more_fit (unmarked around x) (checked around x) (sites_in x) (map (unmarked around) xs) (map (checked around) xs) (sites_of xs) (statement_fits x) (list_fits xs)
