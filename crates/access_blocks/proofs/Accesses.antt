-- Accesses as they come: whether they are all to one part.
use Rattle.std.proofs.Common.{◌≡◌, Bool, true, false, not, ◌&&◌, List, [], ◌∷◌, fold, refl, ap, sym, ◌∙◌}
use Rattle.std.specs.List.{list_any, list_all}
use Rattle.access_blocks.specs.declared.body.Statement.{Statement}
use Rattle.access_blocks.specs.declared.place.Reached.TheVariants.{Nothing, One, Several}
use Rattle.access_blocks.specs.declared.place.Site.{Site}
use Rattle.access_blocks.specs.Marks.{same_site, one_or_several, also, is_any, changes_key, site_if, one_of, part_of}

pub several_stay : (xs : List Site) → fold also Several xs ≡ Several
several_stay [] = refl
several_stay (x ∷ xs) = several_stay xs

behind : (b : Bool) (a : Site) (xs : List Site) → fold also (One a) xs ≡ one_or_several (list_all (same_site a) xs) a
    → fold also (one_or_several b a) xs ≡ one_or_several (b && list_all (same_site a) xs) a
behind true a xs h = h
behind false a xs h = several_stay xs

one_stays : (a : Site) (xs : List Site) → fold also (One a) xs ≡ one_or_several (list_all (same_site a) xs) a
one_stays a [] = refl
one_stays a (x ∷ xs) = behind (same_site a x) a xs (one_stays a xs)

from_first : (x : Site) (xs : List Site) → fold also Nothing (x ∷ xs) ≡ one_or_several (list_all (same_site x) (x ∷ xs)) x
from_first x xs = behind (same_site x x) x xs (one_stays x xs)

one_part : (st : Statement) (b : Bool) (x : Site) → site_if (b && not (changes_key x.choice st)) x ≡ part_of st (one_or_several b x)
one_part st true x = refl
one_part st false x = refl

pub one_of_is : (st : Statement) (xs : List Site) → one_of st xs ≡ part_of st (fold also Nothing xs)
one_of_is st [] = refl
one_of_is st (x ∷ xs) = one_part st (list_all (same_site x) (x ∷ xs)) x ∙ ap (part_of st) (sym (from_first x xs))

some_is : (b : Bool) (x : Site) → true ≡ is_any (one_or_several b x)
some_is true x = refl
some_is false x = refl

pub any_is : (xs : List Site) → list_any (λ site. true) xs ≡ is_any (fold also Nothing xs)
any_is [] = refl
any_is (x ∷ xs) = some_is (list_all (same_site x) (x ∷ xs)) x ∙ ap is_any (sym (from_first x xs))
