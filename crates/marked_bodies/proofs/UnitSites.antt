-- The accesses of a unit are to its part, whose key it does not assign.
use Rattle.std.proofs.Common.{◌≡◌, refl, sym, ap, subst, ◌∙◌, Bool, true, false, not, List, [], ◌∷◌, Option, Some, None}
use Rattle.std.specs.Prelude.{nat_eq}
use Rattle.std.specs.List.{list_all}
use Rattle.std.proofs.lemmas.Bool.{false≢true}
use Rattle.access_blocks.specs.declared.body.Access.{Access}
use Rattle.access_blocks.specs.declared.body.Choice.{Choice}
use Rattle.access_blocks.specs.declared.body.Statement.{Statement, out-Statement}
use Rattle.access_blocks.specs.declared.body.Statement.TheOpen as s
use Rattle.access_blocks.specs.declared.place.Site.{Site}
use Rattle.access_blocks.specs.Marks.{site_of, site_if, one_of, is_one, changes_key, assigns, sites_step, sites_in, same_part, same_site}
use Rattle.marked_bodies.proofs.Facts.{not_false, not_empty, none_some, some_is, both_true, and_true, all_so}
use Rattle.marked_bodies.proofs.Standings.{nat_same}
use Rattle.marked_bodies.proofs.Units.{IsUnit, Simple, Several, simple_fold}
use Rattle.marked_bodies.proofs.Whole.{has_part, is_to, are_to}
use Rattle.marked_bodies.proofs.UnitKeys.{LeavesKey}

-- what one part says of several accesses
pub record AreOne (x : Statement) (site : Site) : Type 0 where
  pub some : sites_in x ≡ [] → ⊥
  pub all : list_all (same_site site) (sites_in x) ≡ true
  pub leaves : LeavesKey site (λ v. assigns v x)

site_if_is : (b : Bool) (a c : Site) → site_if b a ≡ Some c → (b ≡ true) × (a ≡ c)
site_if_is true a c is = (refl, some_is a c is)
site_if_is false a c is = absurd (none_some c is)

unchanged : (x : Statement) (site : Site) → changes_key site.choice x ≡ false → LeavesKey site (λ v. assigns v x)
unchanged x site is v chosen = ap (λ (o : Option Choice). changes_key o x) (sym chosen) ∙ is

one_is : (x : Statement) (site : Site) (sites : List Site) → sites_in x ≡ sites → one_of x sites ≡ Some site → AreOne x site
one_is x site [] same is = absurd (none_some site is)
one_is x site (first ∷ others) same is =
    let k = site_if_is (is_one x first (first ∷ others)) first site is in
    let l = both_true (list_all (same_site first) (first ∷ others)) (not (changes_key first.choice x)) k.0 in
    let whole : list_all (same_site first) (sites_in x) ≡ true = ap (list_all (same_site first)) same ∙ l.0 in
    let stays : LeavesKey first (λ v. assigns v x) = unchanged x first (not_false (changes_key first.choice x) l.1) in
    record {
      some = λ none. not_empty first others (sym same ∙ none);
      all = subst (λ (z : Site). list_all (same_site z) (sites_in x) ≡ true) k.1 whole;
      leaves = subst (λ (z : Site). LeavesKey z (λ v. assigns v x)) k.1 stays;
    }

pub several_are : (x : Statement) (site : Site) → one_of x (sites_in x) ≡ Some site → AreOne x site
several_are x site is = one_is x site (sites_in x) refl is

chosen_part : (o p : Option Choice) → same_part o p ≡ true → has_part p ≡ true
chosen_part None p is = absurd (false≢true is)
chosen_part (Some how) None is = absurd (false≢true is)
chosen_part (Some how) (Some other) is = refl

pub same_to : (a b : Site) → same_site a b ≡ true → is_to (Some a.field) b ≡ true
same_to a b is =
    let k = both_true (nat_eq a.field b.field) (same_part a.choice b.choice) is in
    and_true (has_part b.choice) (nat_eq a.field b.field) (chosen_part a.choice b.choice k.1) k.0

pub simple_sites : (x : Statement) (a : Access) → out-Statement x ≡ s.Access a → sites_in x ≡ site_of a ∷ []
simple_sites x a is = simple_fold (List Site) sites_step x a is

pub unit_sites : (x : Statement) (site : Site) → IsUnit x site → are_to (Some site.field) (sites_in x) ≡ true
unit_sites x site (Simple a is at e) =
    ap (are_to (Some site.field)) (simple_sites x a is)
    ∙ and_true (nat_eq site.field a.field) true (subst (λ (z : Site). nat_eq z.field a.field ≡ true) (sym at) (nat_same a.field)) refl
unit_sites x site (Several one e) = all_so (same_site site) (is_to (Some site.field)) (same_to site) (sites_in x) (several_are x site one).all
