-- A unit with its mark.
use Rattle.std.proofs.Common.{◌≡◌, refl, sym, ap, ◌∙◌, Some}
use Rattle.access_blocks.specs.declared.body.Access.{Access}
use Rattle.access_blocks.specs.declared.body.Mark.{Mark}
use Rattle.access_blocks.specs.declared.body.Statement.{Statement, out-Statement}
use Rattle.access_blocks.specs.declared.body.Statement.TheOpen.{Statement-F}
use Rattle.access_blocks.specs.declared.body.Statement.TheOpen as s
use Rattle.access_blocks.specs.declared.body.Statement.TheVariants as statement
use Rattle.access_blocks.specs.declared.body.Statement.TheFolds.{fold-Statement, fold_out-Statement, map-Statement}
use Rattle.access_blocks.specs.declared.place.Site.{Site}
use Rattle.access_blocks.specs.Marks.{site_of, unit_in, unit_of, one_of, sites_in, key_of, carrying_access, carrying_in, marked}
use Rattle.marked_bodies.proofs.Facts.{none_some, some_is}
use Rattle.marked_bodies.proofs.Keeping.{folded}

abbrev pub mark_of : Site → Statement → Mark
mark_of site x = record { field = site.field; key = key_of x }

-- what a unit is: an access, or a statement whose accesses are all to one part
pub data IsUnit (x : Statement) (site : Site) : Type 0 where
  Simple : (a : Access) → out-Statement x ≡ s.Access a → site ≡ site_of a → carrying_in x (out-Statement x) ≡ statement.Access (carrying_access a a.choice) → IsUnit x site
  Several : one_of x (sites_in x) ≡ Some site → carrying_in x (out-Statement x) ≡ x → IsUnit x site

unit_cases : (x : Statement) (site : Site) (y : Statement-F Statement) → out-Statement x ≡ y → unit_in x y ≡ Some site → IsUnit x site
unit_cases x site (s.Access a) is e = Simple a is (sym (some_is (site_of a) site e)) (ap (carrying_in x) is)
unit_cases x site (s.Gather g) is e = absurd (none_some site e)
unit_cases x site (s.Assign v a) is e = Several e (ap (carrying_in x) is)
unit_cases x site (s.SetElement v at a) is e = Several e (ap (carrying_in x) is)
unit_cases x site (s.Evaluate a) is e = Several e (ap (carrying_in x) is)
unit_cases x site (s.Marked mark body) is e = Several e (ap (carrying_in x) is)
unit_cases x site (s.Opened body) is e = Several e (ap (carrying_in x) is)
unit_cases x site (s.Block items) is e = Several e (ap (carrying_in x) is)
unit_cases x site (s.If test first second) is e = Several e (ap (carrying_in x) is)
unit_cases x site (s.Loop start test update body) is e = Several e (ap (carrying_in x) is)
unit_cases x site s.Break is e = Several e (ap (carrying_in x) is)
unit_cases x site s.Continue is e = Several e (ap (carrying_in x) is)
unit_cases x site (s.Return a) is e = Several e (ap (carrying_in x) is)

pub unit_is : (x : Statement) (site : Site) → unit_of x ≡ Some site → IsUnit x site
unit_is x site e = unit_cases x site (out-Statement x) refl e

-- what a fold gives of a unit with its mark
pub marked_fold : (A : Type 0) (step : Statement-F A → A) (site : Site) (x : Statement) → fold-Statement A step (marked site x) ≡ step (s.Marked (mark_of site x) (fold-Statement A step (carrying_in x (out-Statement x))))
marked_fold A step site x =
    folded A step (s.Marked (mark_of site x) (carrying_in x (out-Statement x))) (marked site x) (statement.rolls-Marked (mark_of site x) (carrying_in x (out-Statement x)))

-- what a fold gives of an access
pub access_fold : (A : Type 0) (step : Statement-F A → A) (a : Access) → fold-Statement A step (statement.Access a) ≡ step (s.Access a)
access_fold A step a = folded A step (s.Access a) (statement.Access a) (statement.rolls-Access a)

pub simple_fold : (A : Type 0) (step : Statement-F A → A) (x : Statement) (a : Access) → out-Statement x ≡ s.Access a → fold-Statement A step x ≡ step (s.Access a)
simple_fold A step x a is = fold_out-Statement A step x ∙ ap (λ (y : Statement-F Statement). step (map-Statement Statement A (fold-Statement A step) y)) is
