-- Whether a body completes is as it was.
use Rattle.std.proofs.Common.{◌≡◌, refl, sym, ap, ◌∙◌, false, not, List, [], ◌∷◌, map, Some, None}
use Rattle.access_blocks.specs.declared.body.Access.{Access}
use Rattle.access_blocks.specs.declared.body.Choice.{Choice}
use Rattle.access_blocks.specs.declared.body.Choice.TheVariants as choice
use Rattle.access_blocks.specs.declared.body.Statement.{Statement, out-Statement}
use Rattle.access_blocks.specs.declared.body.Statement.TheOpen as s
use Rattle.access_blocks.specs.declared.place.Site.{Site}
use Rattle.access_blocks.specs.Marks.{with_marks, carrying_access, carrying_in}
use Rattle.body_code.specs.Completing.{Leaving, leaving, completing, breaking, of_second, is_returned, leaving_step, leaving_of, body_completes}
use Rattle.body_code.specs.Checking.{Surroundings}
use Rattle.marked_bodies.proofs.Typed.{AreGood}
use Rattle.marked_bodies.proofs.Keeping.{Each, Keeps, list_kept}
use Rattle.marked_bodies.proofs.Units.{IsUnit, Simple, Several, unit_is, marked_fold, access_fold, simple_fold}

pub carried_target : (a : Access) (how : Choice) → (carrying_access a how).target ≡ a.target
carried_target a (choice.Literal n) = refl
carried_target a (choice.Variable v) = refl
carried_target a choice.Compound = refl
carried_target a choice.Instance = refl

carried_leaves : (x : Statement) (site : Site) → IsUnit x site → leaving_of (carrying_in x (out-Statement x)) ≡ leaving_of x
carried_leaves x site (Simple a is at e) =
    ap leaving_of e ∙ access_fold Leaving leaving_step (carrying_access a a.choice) ∙ ap (λ t. leaving (not (is_returned t)) false) (carried_target a a.choice) ∙ sym (simple_fold Leaving leaving_step x a is)
carried_leaves x site (Several one e) = ap leaving_of e

abbrev Same : Leaving → Leaving → Type 0
Same a b = a ≡ b

each_same : (ones bs : List Leaving) → Each Same ones bs → ones ≡ bs
each_same [] [] h = refl
each_same (a ∷ ones) (b ∷ bs) h = let e = h.0 in let k = each_same ones bs h.1 in cc
each_same [] (b ∷ bs) h = absurd h
each_same (a ∷ ones) [] h = absurd h

leaving_keeps : (around : Surroundings) → Keeps around Leaving leaving_step Same
leaving_keeps around = record {
  same = λ a. refl;
  unit = λ site x good is. marked_fold Leaving leaving_step site x ∙ carried_leaves x site (unit_is x site is);
  opened = λ a b h. h;
  block = λ ones bs h. ap (λ (ls : List Leaving). leaving (completing ls) (breaking ls)) (each_same ones bs h);
  if_alone = λ test a b h. ap (λ (l : Leaving). of_second l None) h;
  if_both = λ test a b c d h g. ap (λ (l : Leaving). of_second l (Some c)) h ∙ ap (λ (l : Leaving). of_second b (Some l)) g;
  loop = λ start test update a b h. ap (λ (l : Leaving). leaving_step (s.Loop start test update l)) h;
}

pub completes_as : (around : Surroundings) (xs : List Statement) → AreGood around xs → body_completes (with_marks xs) ≡ body_completes xs
completes_as around xs good =
    ap completing (each_same (map leaving_of (with_marks xs)) (map leaving_of xs) (list_kept around Leaving leaving_step Same (leaving_keeps around) None xs good))
