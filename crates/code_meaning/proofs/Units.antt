-- A statement of which each access is to one part has nothing in it that is a step of its own.
use mathlib.Core.Path.{transport}
use Rattle.std.proofs.Common.{◌≡◌, refl, sym, ap, subst, ◌∙◌, Bool, true, List, [], ◌∷◌, ◌++◌, map, Some, None, is_some}
use Rattle.std.specs.List.{list_all, flat_map}
use Rattle.std.proofs.lemmas.Bool.{false≢true}
use Rattle.access_blocks.specs.declared.body.Statement.{Statement, roll-Statement}
use Rattle.access_blocks.specs.declared.body.Statement.TheOpen.{Statement-F}
use Rattle.access_blocks.specs.declared.body.Statement.TheOpen as s
use Rattle.access_blocks.specs.declared.body.Statement.TheFolds.{fold-roll-Statement, ind-Statement, map-Statement}
use Rattle.access_blocks.specs.declared.place.Site.{Site}
use Rattle.access_blocks.specs.Marks.{sites_step, sites_in}
use Rattle.code_meaning.specs.Running.{all_plain, plain_step, is_plain}
use Rattle.code_meaning.specs.Placed.{Placing, all_unmarked, placing_step, placing_of}
use Rattle.code_meaning.proofs.Lists.{both_true, and_true}
use Rattle.code_meaning.proofs.Placing.{lists_plain}

-- an access to one part has a choice
abbrev pub is_of_part : Site → Bool
is_of_part site = is_some site.choice

abbrev pub AreOfParts : List Site → Type 0
AreOfParts sites = list_all is_of_part sites ≡ true

pub both_parts : (xs ys : List Site) → AreOfParts (xs ++ ys) → AreOfParts xs × AreOfParts ys
both_parts [] ys is = (refl, is)
both_parts (x ∷ xs) ys is =
    let k = both_true (is_of_part x) (list_all is_of_part (xs ++ ys)) is in
    let l = both_parts xs ys k.1 in
    (and_true (is_of_part x) (list_all is_of_part xs) k.0 l.0, l.1)

abbrev IsWhole : Bool → List Site → Bool → Type 0
IsWhole unmarked sites plain = unmarked ≡ true → AreOfParts sites → plain ≡ true

abbrev Part : Type 0
Part = (x : Statement) × IsWhole (placing_of x).unmarked (sites_in x) (is_plain x)

abbrev bare : Statement-F Part → Statement-F Statement
bare = map-Statement Part Statement (λ x. x.0)

abbrev placings : Statement-F Statement → Statement-F Placing
placings = map-Statement Statement Placing placing_of

abbrev plains : Statement-F Statement → Statement-F Bool
plains = map-Statement Statement Bool is_plain

abbrev sites : Statement-F Statement → Statement-F (List Site)
sites = map-Statement Statement (List Site) sites_in

abbrev firsts : List Part → List Statement
firsts = map (λ (x : Part). x.0)

list_whole : (xs : List Part) → all_unmarked (map placing_of (firsts xs)) ≡ true → AreOfParts (flat_map (λ ys. ys) (map sites_in (firsts xs))) → all_plain (map is_plain (firsts xs)) ≡ true
list_whole [] is parts = refl
list_whole (x ∷ xs) is parts =
    let k = both_true (placing_of x.0).unmarked (all_unmarked (map placing_of (firsts xs))) is in
    let p = both_parts (sites_in x.0) (flat_map (λ ys. ys) (map sites_in (firsts xs))) parts in
    and_true (is_plain x.0) (all_plain (map is_plain (firsts xs))) (x.1 k.0 p.0) (list_whole xs k.1 p.1)

listed_plain : (xs : List Statement) → all_plain (map (λ (a : Placing). a.plain) (map placing_of xs)) ≡ true → all_plain (map is_plain xs) ≡ true
listed_plain xs is = sym (ap all_plain (lists_plain xs)) ∙ is

layer_whole : (y : Statement-F Part) → IsWhole (placing_step (placings (bare y))).unmarked (sites_step (sites (bare y))) (plain_step (plains (bare y)))
layer_whole (s.Marked mark body) is parts = absurd (false≢true is)
layer_whole (s.Opened body) is parts = absurd (false≢true is)
layer_whole (s.Gather g) is parts = absurd (false≢true parts)
layer_whole (s.Block items) is parts = list_whole items is parts
layer_whole (s.If test first None) is parts =
    and_true (is_plain first.0) true (first.1 (both_true (placing_of first.0).unmarked true is).0 (both_parts (sites_in first.0) [] parts).0) refl
layer_whole (s.If test first (Some second)) is parts =
    let k = both_true (placing_of first.0).unmarked (placing_of second.0).unmarked is in
    let p = both_parts (sites_in first.0) (sites_in second.0) parts in
    and_true (is_plain first.0) (is_plain second.0) (first.1 k.0 p.0) (second.1 k.1 p.1)
layer_whole (s.Loop start test update body) is parts =
    let k = both_true _ _ is in
    let l = both_true _ (placing_of body.0).unmarked k.1 in
    let p = both_parts (flat_map (λ ys. ys) (map sites_in (firsts start))) _ parts in
    let q = both_parts (flat_map (λ ys. ys) (map sites_in (firsts update))) (sites_in body.0) p.1 in
    and_true (all_plain (map is_plain (firsts start))) _ (listed_plain (firsts start) k.0) (and_true (is_plain body.0) (all_plain (map is_plain (firsts update))) (body.1 l.1 q.1) (listed_plain (firsts update) l.0))
layer_whole _ is parts = refl

made_whole : (x : Statement-F Statement) (y : Statement-F Part) → bare y ≡ x → IsWhole (placing_of (roll-Statement x)).unmarked (sites_in (roll-Statement x)) (is_plain (roll-Statement x))
made_whole x y is =
    let a = fold-roll-Statement Placing placing_step x in
    let s = fold-roll-Statement (List Site) sites_step x in
    let b = fold-roll-Statement Bool plain_step x in
    let whole : IsWhole (placing_of (roll-Statement x)).unmarked (sites_in (roll-Statement x)) (is_plain (roll-Statement x)) ≡ IsWhole (placing_step (placings x)).unmarked (sites_step (sites x)) (plain_step (plains x)) =
    λ i. IsWhole (a i).unmarked (s i) (b i) in
    transport (sym whole) (subst (λ z. IsWhole (placing_step (placings z)).unmarked (sites_step (sites z)) (plain_step (plains z))) is (layer_whole y))

pub whole_of_parts : (x : Statement) → IsWhole (placing_of x).unmarked (sites_in x) (is_plain x)
whole_of_parts = ind-Statement (λ x. IsWhole (placing_of x).unmarked (sites_in x) (is_plain x)) made_whole
