-- Where a typed statement leads that stands among marks.
use Rattle.std.proofs.Common.{◌≡◌, refl, sym, ap, subst, ◌∙◌, ℕ, Bool, true, false, cond, List, [], ◌∷◌, Option, Some, None, inl, inr, ◌⊎◌}
use Rattle.std.proofs.lemmas.Bool.{false≢true}
use Rattle.sdg_base.specs.declared.value_type.ValueType.{ValueType}
use Rattle.access_blocks.specs.declared.body.Statement.{Statement, out-Statement}
use Rattle.access_blocks.specs.declared.body.Statement.TheOpen.{Statement-F}
use Rattle.access_blocks.specs.declared.body.Statement.TheOpen as s
use Rattle.access_blocks.specs.declared.body.Statement.TheFolds.{fold_out-Statement, map-Statement}
use Rattle.access_blocks.specs.declared.place.Site.{Site}
use Rattle.access_blocks.specs.Marks.{sites_step, sites_in, unit_in, unit_of, has_access, changes_key, kept, is_current, marked, unit_placed}
use Rattle.body_code.specs.Checking.{Surroundings, Standing, Around, Checking, next, in_order, checked}
use Rattle.marked_bodies.specs.Unmarked.{unmarked, unmarked_step}
use Rattle.marked_bodies.proofs.Facts.{none_some, some_is, next_is}
use Rattle.marked_bodies.proofs.Standings.{unmarked_out, ends_in, ends_outside}
use Rattle.marked_bodies.proofs.Within.{within, GatheredAs}
use Rattle.marked_bodies.proofs.Exits.{ExitsAs}
use Rattle.marked_bodies.proofs.Whole.{IsWithin, are_to, statement_fits}
use Rattle.marked_bodies.proofs.Choices.{same_field}
use Rattle.marked_bodies.proofs.Headers.{any_site, no_sites}
use Rattle.marked_bodies.proofs.Units.{unit_is}
use Rattle.marked_bodies.proofs.UnitSites.{unit_sites}
use Rattle.marked_bodies.proofs.UnitMarks.{unit_marked}

-- the block is on the field of the current site, where there is one
abbrev pub Stands : Option Site → Option ℕ → Type 0
Stands None field = Unit {0}
Stands (Some site) field = field ≡ Some site.field

pub record Leads (site : Option Site) (o : Option Standing) (end : Standing) : Type 0 where
  pub field : Option ℕ
  pub gathered : Option ValueType
  pub checked : o ≡ Some (within field gathered end)
  pub stands : Stands site field
  pub outside : end.field ≡ None
  pub as_gathered : GatheredAs end gathered

-- with one current site before and another one behind
abbrev pub Follows : Option Site → Option Site → Checking → Checking → Type 0
Follows before after bare check = (field : Option ℕ) (gathered : Option ValueType) (exits need : Around) (st end : Standing) → Stands before field → ExitsAs None None exits need → st.field ≡ None → GatheredAs st gathered
    → bare exits st ≡ Some end → Leads after (check need (within field gathered st)) end

pub none_follow : (before : Option Site) → Follows before None (in_order []) (in_order [])
none_follow before field gathered exits need st end stands as_exits out as_gathered is =
    let e = some_is st end is in
    record {
      field = field;
      gathered = gathered;
      checked = ap (λ (z : Standing). Some (within field gathered z)) e;
      stands = tt;
      outside = ap (λ (z : Standing). z.field) (sym e) ∙ out;
      as_gathered = subst (λ (z : Standing). GatheredAs z gathered) e as_gathered;
    }

pub more_follow : (before mid : Option Site) (bare check : Checking) (bares checks : List Checking) → Follows before mid bare check → Follows mid None (in_order bares) (in_order checks)
    → Follows before None (in_order (bare ∷ bares)) (in_order (check ∷ checks))
more_follow before mid bare check bares checks one more field gathered exits need st end stands as_exits out as_gathered is =
    let k = next_is (in_order bares exits) (bare exits st) end is in
    let here = one field gathered exits need st k.0 stands as_exits out as_gathered k.1 in
    let rest = more here.field here.gathered exits need k.0 end here.stands as_exits here.outside here.as_gathered k.2 in
    record {
      field = rest.field;
      gathered = rest.gathered;
      checked = ap (next (in_order checks need)) here.checked ∙ rest.checked;
      stands = tt;
      outside = rest.outside;
      as_gathered = rest.as_gathered;
    }

pub wherever : (site : Option Site) (o : Option Standing) (end : Standing) → Leads site o end → Leads None o end
wherever site o end l = record { field = l.field; gathered = l.gathered; checked = l.checked; stands = tt; outside = l.outside; as_gathered = l.as_gathered }

-- a jump out of what stands in no block is one out of any block
pub exits_anywhere : (field : Option ℕ) (gathered : Option ValueType) (exits need : Around) → ExitsAs None None exits need → ExitsAs field gathered exits need
exits_anywhere field gathered None None as_exits = tt
exits_anywhere field gathered (Some bare) (Some need) as_exits = record { known = as_exits.known; at_field = none as_exits.at_field; at_gathered = none as_exits.at_gathered }
  where
    none : {A : Type 0} {x y : Option A} → (x ≡ None) ⊎ (x ≡ None) → (x ≡ None) ⊎ (x ≡ y)
    none (inl e) = inl e
    none (inr e) = inl e
exits_anywhere field gathered None (Some need) as_exits = absurd as_exits
exits_anywhere field gathered (Some bare) None as_exits = absurd as_exits

kept_stands : (x : Statement) (current : Option Site) (field : Option ℕ) → Stands current field → Stands (kept x current) field
kept_stands x None field stands = tt
kept_stands x (Some site) field stands = by (changes_key site.choice x)
  where
    by : (b : Bool) → Stands (cond b None (Some site)) field
    by true = tt
    by false = stands

leads_on : (x : Statement) (current : Option Site) (field : Option ℕ) (gathered : Option ValueType) (o : Option Standing) (end : Standing) → Stands current field → IsWithin field gathered o end → Leads (kept x current) o end
leads_on x current field gathered o end stands h =
    record { field = field; gathered = gathered; checked = h.checked; stands = kept_stands x current field stands; outside = h.outside; as_gathered = h.as_gathered }

current_field : (current : Option Site) (site : Site) (field : Option ℕ) → is_current current site ≡ true → Stands current field → field ≡ Some site.field
current_field None site field is stands = absurd (false≢true is)
current_field (Some a) site field is stands = stands ∙ ap (λ (n : ℕ). Some n) (same_field a site is)

module _ (around : Surroundings) where
  -- a unit, with a mark or in the current block
  pub unit_follows : (current : Option Site) (x : Statement) (site : Site) → unit_of x ≡ Some site → Follows current (unit_placed current site x).site (unmarked around x) (checked around (unit_placed current site x).statement)
  unit_follows current x site unit field gathered exits need st end stands as_exits out as_gathered is = by (is_current current site) refl
    where
      here : field ≡ Some site.field → Leads (kept x (Some site)) (checked around x need (within field gathered st)) end
      here at =
          leads_on x (Some site) field gathered (checked around x need (within field gathered st)) end at
          (statement_fits around x field gathered exits need st end (ap (λ (o : Option ℕ). are_to o (sites_in x)) at ∙ unit_sites x site (unit_is x site unit)) (exits_anywhere field gathered exits need as_exits) out as_gathered is)

      begun : Leads (kept x (Some site)) (checked around (marked site x) need (within field gathered st)) end
      begun =
          leads_on x (Some site) (Some site.field) None (checked around (marked site x) need (within field gathered st)) end refl
          (unit_marked around x site field gathered exits need st end unit (exits_anywhere (Some site.field) None exits need as_exits) is)

      by : (b : Bool) → is_current current site ≡ b → Leads (kept x (Some site)) (checked around (cond b x (marked site x)) need (within field gathered st)) end
      by true same = here (current_field current site field same stands)
      by false other = begun

  -- a statement without accesses
  pub without_follows : (current : Option Site) (x : Statement) → has_access x ≡ false → Follows current (kept x current) (unmarked around x) (checked around x)
  without_follows current x none field gathered exits need st end stands as_exits out as_gathered is =
      leads_on x current field gathered (checked around x need (within field gathered st)) end stands
      (statement_fits around x field gathered exits need st end (ap (are_to field) (no_sites (sites_in x) none)) (exits_anywhere field gathered exits need as_exits) out as_gathered is)

  -- where a statement leads that is opened
  pub leads_out : (x : Statement) (exits : Around) (st end : Standing) (o : Option Standing) → unmarked around x exits st ≡ Some end → o ≡ Some end → Leads None o end
  leads_out x exits st end o is e =
      record { field = end.field; gathered = end.gathered; checked = e; stands = tt; outside = ends_outside x st end (ends_in around x exits st end is); as_gathered = inr refl }

-- ---- which statements are opened

abbrev pub is_open : {A : Type 0} → Statement-F A → Bool
is_open (s.Gather g) = true
is_open (s.Block items) = true
is_open (s.If test first second) = true
is_open (s.Loop start test update body) = true
is_open _ = false

module _ (around : Surroundings) where
  abbrev checks : Statement-F Statement → Statement-F Checking
  checks = map-Statement Statement Checking (unmarked around)

  abbrev all_sites : Statement-F Statement → Statement-F (List Site)
  all_sites = map-Statement Statement (List Site) sites_in

  layer_open : (x : Statement) (y : Statement-F Statement) (exits : Around) (st end : Standing) → unit_in x y ≡ None → any_site (sites_step (all_sites y)) ≡ true → unmarked_step around (checks y) exits st ≡ Some end → is_open y ≡ true
  layer_open x (s.Access a) exits st end unit has is = absurd (none_some _ (sym unit))
  layer_open x (s.Gather g) exits st end unit has is = refl
  layer_open x (s.Marked mark body) exits st end unit has is = absurd (none_some end is)
  layer_open x (s.Opened body) exits st end unit has is = absurd (none_some end is)
  layer_open x (s.Block items) exits st end unit has is = refl
  layer_open x (s.If test first second) exits st end unit has is = refl
  layer_open x (s.Loop start test update body) exits st end unit has is = refl
  layer_open x (s.Assign v a) exits st end unit has is = absurd (false≢true has)
  layer_open x (s.SetElement v at a) exits st end unit has is = absurd (false≢true has)
  layer_open x (s.Evaluate a) exits st end unit has is = absurd (false≢true has)
  layer_open x s.Break exits st end unit has is = absurd (false≢true has)
  layer_open x s.Continue exits st end unit has is = absurd (false≢true has)
  layer_open x (s.Return a) exits st end unit has is = absurd (false≢true has)

  pub opens : (x : Statement) (exits : Around) (st end : Standing) → unit_of x ≡ None → has_access x ≡ true → unmarked around x exits st ≡ Some end → is_open (out-Statement x) ≡ true
  opens x exits st end unit has is =
      let y = out-Statement x in
      layer_open x y exits st end unit (ap any_site (sym (fold_out-Statement (List Site) sites_step x)) ∙ has) (unmarked_out around x y exits st end refl is)
