-- No access stands in the header of a loop whose header has none.
use Rattle.std.proofs.Common.{◌≡◌, refl, sym, ap, subst, ◌∙◌, Bool, true, false, ◌||◌, List, [], ◌∷◌, ◌++◌, map, Some, None}
use Rattle.std.specs.List.{list_any, flat_map}
use Rattle.std.proofs.lemmas.Bool.{false≢true}
use Rattle.access_blocks.specs.declared.body.Statement.{Statement, roll-Statement}
use Rattle.access_blocks.specs.declared.body.Statement.TheOpen.{Statement-F}
use Rattle.access_blocks.specs.declared.body.Statement.TheOpen as s
use Rattle.access_blocks.specs.declared.body.Statement.TheFolds.{fold-roll-Statement, ind-Statement, map-Statement}
use Rattle.access_blocks.specs.declared.place.Site.{Site}
use Rattle.access_blocks.specs.Marks.{sites_step, sites_in}
use Rattle.marked_bodies.specs.Unmarked.{Headed, headed_step, headed_in, one_by_one}
use Rattle.marked_bodies.proofs.Facts.{any_of_both, or_none}

abbrev pub any_site : List Site → Bool
any_site sites = list_any (λ site. true) sites

pub no_sites : (sites : List Site) → any_site sites ≡ false → sites ≡ []
no_sites [] is = refl
no_sites (a ∷ sites) is = absurd (false≢true (sym is))

abbrev pub sites_of : List Statement → List Site
sites_of xs = flat_map (λ ys. ys) (map sites_in xs)

either_as : (a b c d : Bool) → a ≡ b → c ≡ d → (a || c) ≡ (b || d)
either_as a b c d e f = cc

-- what is said of accesses is what sites say
either_any : (a b : Bool) (xs ys : List Site) → a ≡ any_site xs → b ≡ any_site ys → (a || b) ≡ any_site (xs ++ ys)
either_any a b xs ys e f = either_as a (any_site xs) b (any_site ys) e f ∙ sym (any_of_both (λ site. true) xs ys)

abbrev Says : Statement → Type 0
Says x = (headed_in x).accesses ≡ any_site (sites_in x)

abbrev Part : Type 0
Part = (x : Statement) × Says x

abbrev bare : Statement-F Part → Statement-F Statement
bare = map-Statement Part Statement (λ p. p.0)

abbrev bares : List Part → List Statement
bares ps = map (λ (p : Part). p.0) ps

parts_say : (ps : List Part) → (one_by_one (map headed_in (bares ps))).accesses ≡ any_site (sites_of (bares ps))
parts_say [] = refl
parts_say (p ∷ ps) = either_any (headed_in p.0).accesses (one_by_one (map headed_in (bares ps))).accesses (sites_in p.0) (sites_of (bares ps)) p.1 (parts_say ps)

abbrev headeds : Statement-F Statement → Statement-F Headed
headeds = map-Statement Statement Headed headed_in

abbrev all_sites : Statement-F Statement → Statement-F (List Site)
all_sites = map-Statement Statement (List Site) sites_in

or_again : (a b c : Bool) → ((a || b) || c) ≡ (a || (b || c))
or_again true b c = refl
or_again false b c = refl

layer : (y : Statement-F Part) → (headed_step (headeds (bare y))).accesses ≡ any_site (sites_step (all_sites (bare y)))
layer (s.Access a) = refl
layer (s.Gather g) = refl
layer (s.Marked mark body) = body.1
layer (s.Opened body) = body.1
layer (s.Block items) = parts_say items
layer (s.If test first None) = or_none (headed_in first.0).accesses ∙ either_any (headed_in first.0).accesses false (sites_in first.0) [] first.1 refl
layer (s.If test first (Some second)) = either_any (headed_in first.0).accesses (headed_in second.0).accesses (sites_in first.0) (sites_in second.0) first.1 second.1
layer (s.Loop start test update body) =
    let ss = bares start in
    let us = bares update in
    let a = (one_by_one (map headed_in ss)).accesses in
    let b = (one_by_one (map headed_in us)).accesses in
    let c = (headed_in body.0).accesses in
    or_again a b c
    ∙ either_any a (b || c) (sites_of ss) (sites_of us ++ sites_in body.0) (parts_say start) (either_any b c (sites_of us) (sites_in body.0) (parts_say update) body.1)
layer (s.Assign v a) = refl
layer (s.SetElement v at a) = refl
layer (s.Evaluate a) = refl
layer s.Break = refl
layer s.Continue = refl
layer (s.Return a) = refl

made : (x : Statement-F Statement) (y : Statement-F Part) → bare y ≡ x → Says (roll-Statement x)
made x y is =
    let P : Statement-F Statement → Type 0 = λ z. (headed_step (headeds z)).accesses ≡ any_site (sites_step (all_sites z)) in
    let all : P x = subst P is (layer y) in
    ap (λ (h : Headed). h.accesses) (fold-roll-Statement Headed headed_step x) ∙ all ∙ ap any_site (sym (fold-roll-Statement (List Site) sites_step x))

pub statement_says : (x : Statement) → Says x
statement_says = ind-Statement Says made

list_says : (xs : List Statement) → (one_by_one (map headed_in xs)).accesses ≡ any_site (sites_of xs)
list_says [] = refl
list_says (x ∷ xs) = either_any (headed_in x).accesses (one_by_one (map headed_in xs)).accesses (sites_in x) (sites_of xs) (statement_says x) (list_says xs)

-- the statements of a header without accesses have no sites
pub none_in : (xs : List Statement) → (one_by_one (map headed_in xs)).accesses ≡ false → sites_of xs ≡ []
none_in xs is = no_sites (sites_of xs) (sym (list_says xs) ∙ is)
