-- A typed unit is typed with its mark, in the block that the mark begins.
use Rattle.std.proofs.Common.{◌≡◌, refl, sym, ap, subst, ◌∙◌, ℕ, true, ◌&&◌, List, [], map, Option, Some, None, slice_get, inl}
use Rattle.std.proofs.lemmas.Bool.{false≢true}
use Rattle.sdg_base.specs.declared.value_type.ValueType.{ValueType}
use Rattle.sdg_base.specs.Signatures.{Signature}
use Rattle.access_blocks.specs.declared.body.Access.{Access}
use Rattle.access_blocks.specs.declared.body.Choice.{Choice}
use Rattle.access_blocks.specs.declared.body.Choice.TheVariants as choice
use Rattle.access_blocks.specs.declared.body.Expression.{Expression}
use Rattle.access_blocks.specs.declared.body.Statement.{Statement, out-Statement}
use Rattle.access_blocks.specs.declared.body.Statement.TheOpen.{Statement-F}
use Rattle.access_blocks.specs.declared.body.Statement.TheOpen as s
use Rattle.access_blocks.specs.declared.body.Statement.TheVariants as statement
use Rattle.access_blocks.specs.declared.body.Statement.TheFolds.{fold_out-Statement, map-Statement}
use Rattle.access_blocks.specs.declared.place.Site.{Site}
use Rattle.access_blocks.specs.Marks.{site_of, sites_step, sites_in, unit_of, key_step, key_of, carrying_access, carrying_in, marked}
use Rattle.body_code.specs.Checking.{Surroundings, Standing, Around, Checking, outside, in_block, is_entry, is_key_of, signature_of, takes_all, in_order, looping, checked, checked_step}
use Rattle.marked_bodies.specs.Unmarked.{behind, has_place, unmarked, unmarked_step}
use Rattle.marked_bodies.proofs.Facts.{none_some, and_true, where_true}
use Rattle.marked_bodies.proofs.Standings.{nat_same, unmarked_access_is, Leaves, unmarked_out}
use Rattle.marked_bodies.proofs.Within.{within, takes_all_within, is_right, IsRight, access_in_block}
use Rattle.marked_bodies.proofs.Exits.{ExitsAs}
use Rattle.marked_bodies.proofs.Whole.{IsWithin, are_to, access_led, statement_fits}
use Rattle.marked_bodies.proofs.Units.{IsUnit, Simple, Several, unit_is, marked_fold, access_fold, simple_fold}
use Rattle.marked_bodies.proofs.UnitSites.{AreOne, several_are, unit_sites}
use Rattle.marked_bodies.proofs.UnitKeys.{statement_keyed}
use Rattle.marked_bodies.proofs.Choices.{keyed_by}
use Rattle.marked_bodies.proofs.Keying.{part_key, access_key, carried_takes}

module _ (around : Surroundings) where
  -- ---- a compound statement is typed as it is where nothing was gathered

  behind_outside : (st : Standing) (o : Option Standing) → behind st o ≡ behind (outside st) o
  behind_outside st None = refl
  behind_outside st (Some end) = refl

  abbrev checks : Statement-F Statement → Statement-F Checking
  checks = map-Statement Statement Checking (unmarked around)

  abbrev all_sites : Statement-F Statement → Statement-F (List Site)
  all_sites = map-Statement Statement (List Site) sites_in

  layer_outside : (y : Statement-F Statement) (field : Option ℕ) (exits : Around) (st end : Standing) → (sites_step (all_sites y) ≡ [] → ⊥) → are_to field (sites_step (all_sites y)) ≡ true
      → unmarked_step around (checks y) exits st ≡ Some end → unmarked_step around (checks y) exits (outside st) ≡ Some end
  layer_outside (s.Access a) field exits st end some to is = is
  layer_outside (s.Gather g) field exits st end some to is = absurd (false≢true to)
  layer_outside (s.Marked mark body) field exits st end some to is = absurd (none_some end is)
  layer_outside (s.Opened body) field exits st end some to is = absurd (none_some end is)
  layer_outside (s.Block items) field exits st end some to is = sym (behind_outside st (in_order (map (unmarked around) items) exits (outside st))) ∙ is
  layer_outside (s.If test first None) field exits st end some to is = is
  layer_outside (s.If test first (Some second)) field exits st end some to is = is
  layer_outside (s.Loop start test update body) field exits st end some to is =
      sym (behind_outside st (looping around (map (unmarked around) start) test (map (unmarked around) update) (unmarked around body) exits (outside st))) ∙ is
  layer_outside (s.Assign v a) field exits st end some to is = absurd (some refl)
  layer_outside (s.SetElement v at a) field exits st end some to is = absurd (some refl)
  layer_outside (s.Evaluate a) field exits st end some to is = absurd (some refl)
  layer_outside s.Break field exits st end some to is = absurd (some refl)
  layer_outside s.Continue field exits st end some to is = absurd (some refl)
  layer_outside (s.Return a) field exits st end some to is = absurd (some refl)

  typed_outside : (x : Statement) (field : Option ℕ) (exits : Around) (st end : Standing) → (sites_in x ≡ [] → ⊥) → are_to field (sites_in x) ≡ true → unmarked around x exits st ≡ Some end → unmarked around x exits (outside st) ≡ Some end
  typed_outside x field exits st end some to is =
      let y = out-Statement x in
      let sites : sites_in x ≡ sites_step (all_sites y) = fold_out-Statement (List Site) sites_step x in
      let same : unmarked around x ≡ unmarked_step around (checks y) = fold_out-Statement Checking (unmarked_step around) x in
      subst (λ (c : Checking). c exits (outside st) ≡ Some end) (sym same)
      (layer_outside y field exits st end (λ none. some (sites ∙ none)) (ap (are_to field) (sym sites) ∙ to) (subst (λ (c : Checking). c exits st ≡ Some end) same is))

  -- ---- a mark

  begins : (site : Site) (x : Statement) (exits : Around) (st : Standing) → (is_entry around.kind && is_key_of around st (slice_get around.fields site.field) (key_of x)) ≡ true
      → checked around (marked site x) exits st ≡ checked around (carrying_in x (out-Statement x)) exits (in_block site.field st)
  begins site x exits st key =
      ap (λ (c : Checking). c exits st) (marked_fold Checking (checked_step around) site x)
      ∙ where_true (is_entry around.kind && is_key_of around st (slice_get around.fields site.field) (key_of x)) (checked around (carrying_in x (out-Statement x)) exits (in_block site.field st)) None key

  -- ---- a simple access

  carried_right : (a : Access) (sig : Signature) (how : Choice) (st : Standing) → has_place around a sig how ≡ true → takes_all around (outside st) a.args sig.arguments ≡ true
      → takes_all around (in_block a.field st) (carrying_access a how).args sig.arguments ≡ true
  carried_right a sig (choice.Literal n) st place arguments = takes_all_within around (Some a.field) None (outside st) refl (inl refl) a.args sig.arguments arguments
  carried_right a sig (choice.Variable v) st place arguments = takes_all_within around (Some a.field) None (outside st) refl (inl refl) a.args sig.arguments arguments
  carried_right a sig choice.Instance st place arguments = takes_all_within around (Some a.field) None (outside st) refl (inl refl) a.args sig.arguments arguments
  carried_right a sig choice.Compound st place arguments =
      let k = keyed_by around a sig choice.Compound (outside st) place arguments in
      carried_takes around (in_block a.field st) a.args k.key sig.arguments k.first k.long k.partitioned (takes_all_within around (Some a.field) None (outside st) refl (inl refl) a.args sig.arguments arguments)

  carrying_is : (a : Access) (how : Choice) → carrying_access a how ≡ record a { args = (carrying_access a how).args }
  carrying_is a (choice.Literal n) = refl
  carrying_is a (choice.Variable v) = refl
  carrying_is a choice.Instance = refl
  carrying_is a choice.Compound = refl

  carried_checked : (a : Access) (sig : Signature) (st end : Standing) (exits : Around) → signature_of around a.field a.method ≡ Some sig → IsRight around a sig (outside st) → Leaves around a.target sig.result (outside st) end
      → checked around (statement.Access (carrying_access a a.choice)) exits (in_block a.field st) ≡ Some (within (Some a.field) None end)
  carried_checked a sig st end exits known right leaves =
      let b = carrying_access a a.choice in
      let there = in_block a.field st in
      ap (λ (c : Access). checked around (statement.Access c) exits there) (carrying_is a a.choice)
      ∙ ap (λ (c : Checking). c exits there) (access_fold Checking (checked_step around) (record a { args = b.args }))
      ∙ access_in_block around a b.args (signature_of around a.field a.method) sig (Some a.field) None (outside st) end known (nat_same a.field) right.keyed (carried_right a sig a.choice st right.place right.arguments) leaves

  simple_marked : (x : Statement) (a : Access) (field : Option ℕ) (gathered : Option ValueType) (exits need : Around) (st end : Standing) → out-Statement x ≡ s.Access a
      → carrying_in x (out-Statement x) ≡ statement.Access (carrying_access a a.choice) → unmarked around x exits st ≡ Some end
      → IsWithin (Some a.field) None (checked around (marked (site_of a) x) need (within field gathered st)) end
  simple_marked x a field gathered exits need st end is same e =
      let k = unmarked_access_is around a (signature_of around a.field a.method) (outside st) end (unmarked_out around x (s.Access a) exits st end is e) in
      let r = is_right around a k.0 (outside st) k.2 in
      let there = within field gathered st in
      let key : is_key_of around there (slice_get around.fields a.field) (key_of x) ≡ true =
      ap (is_key_of around there (slice_get around.fields a.field)) (simple_fold (Option Expression) key_step x a is) ∙ access_key around a k.0 a.choice field gathered st r.place r.arguments in
      let led = access_led around a k.0.result st end k.3 in
      record {
        checked =
            begins (site_of a) x need there (and_true (is_entry around.kind) (is_key_of around there (slice_get around.fields a.field) (key_of x)) r.entry key)
            ∙ ap (λ (z : Statement). checked around z need (in_block a.field st)) same
            ∙ carried_checked a k.0 st end need k.1 r k.3;
        outside = led.0;
        as_gathered = inl led.1;
      }

  -- ---- several accesses to one part

  several_marked : (x : Statement) (site : Site) (field : Option ℕ) (gathered : Option ValueType) (exits need : Around) (st end : Standing) → AreOne x site → carrying_in x (out-Statement x) ≡ x
      → are_to (Some site.field) (sites_in x) ≡ true → ExitsAs (Some site.field) None exits need → unmarked around x exits st ≡ Some end
      → IsWithin (Some site.field) None (checked around (marked site x) need (within field gathered st)) end
  several_marked x site field gathered exits need st end one same to as_exits is =
      let there = within field gathered st in
      let key = part_key around site (sites_in x) (key_of x) there (statement_keyed around x site exits st end one.all one.leaves is) one.some in
      let h = statement_fits around x (Some site.field) None exits need (outside st) end to as_exits refl (inl refl) (typed_outside x (Some site.field) exits st end one.some to is) in
      record {
        checked = begins site x need there key ∙ ap (λ (z : Statement). checked around z need (in_block site.field st)) same ∙ h.checked;
        outside = h.outside;
        as_gathered = h.as_gathered;
      }

  -- a unit with its mark
  pub unit_marked : (x : Statement) (site : Site) (field : Option ℕ) (gathered : Option ValueType) (exits need : Around) (st end : Standing) → unit_of x ≡ Some site
      → ExitsAs (Some site.field) None exits need → unmarked around x exits st ≡ Some end → IsWithin (Some site.field) None (checked around (marked site x) need (within field gathered st)) end
  unit_marked x site field gathered exits need st end unit as_exits is = by (unit_is x site unit)
    where
      by : IsUnit x site → IsWithin (Some site.field) None (checked around (marked site x) need (within field gathered st)) end
      by (Simple a here at same) =
          subst (λ (z : Site). IsWithin (Some z.field) None (checked around (marked z x) need (within field gathered st)) end) (sym at) (simple_marked x a field gathered exits need st end here same is)
      by (Several one same) = several_marked x site field gathered exits need st end (several_are x site one) same (unit_sites x site (Several one same)) as_exits is
