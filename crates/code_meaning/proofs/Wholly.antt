-- A statement in which nothing is a step of its own may stand anywhere.
use mathlib.Core.Path.{transport}
use Rattle.std.proofs.Common.{◌≡◌, refl, sym, ap, subst, ◌∙◌, Bool, true, ◌&&◌, List, [], ◌∷◌, map, Some, None}
use Rattle.std.proofs.lemmas.Bool.{false≢true}
use Rattle.access_blocks.specs.declared.body.Statement.{Statement, roll-Statement}
use Rattle.access_blocks.specs.declared.body.Statement.TheOpen.{Statement-F}
use Rattle.access_blocks.specs.declared.body.Statement.TheOpen as s
use Rattle.access_blocks.specs.declared.body.Statement.TheFolds.{fold-roll-Statement, ind-Statement, map-Statement}
use Rattle.code_meaning.specs.Running.{all_plain, plain_step, is_plain}
use Rattle.code_meaning.specs.Placed.{Placing, all_placed, placing_step, placing_of}
use Rattle.code_meaning.proofs.Lists.{both_true, and_true}
use Rattle.code_meaning.proofs.Placing.{plain_same, lists_plain}

abbrev MayStand : Bool → Placing → Type 0
MayStand plain a = plain ≡ true → (a.opened ≡ true) × (a.placed ≡ true)

abbrev Part : Type 0
Part = (x : Statement) × MayStand (is_plain x) (placing_of x)

abbrev bare : Statement-F Part → Statement-F Statement
bare = map-Statement Part Statement (λ x. x.0)

abbrev placings : Statement-F Statement → Statement-F Placing
placings = map-Statement Statement Placing placing_of

abbrev plains : Statement-F Statement → Statement-F Bool
plains = map-Statement Statement Bool is_plain

abbrev firsts : List Part → List Statement
firsts = map (λ (x : Part). x.0)

list_placed : (xs : List Part) → all_plain (map is_plain (firsts xs)) ≡ true → all_placed (map placing_of (firsts xs)) ≡ true
list_placed [] is = refl
list_placed (x ∷ xs) is =
    let k = both_true (is_plain x.0) (all_plain (map is_plain (firsts xs))) is in
    and_true (placing_of x.0).placed (all_placed (map placing_of (firsts xs))) (x.1 k.0).1 (list_placed xs k.1)

plain_list : (xs : List Statement) → all_plain (map is_plain xs) ≡ true → all_plain (map (λ (a : Placing). a.plain) (map placing_of xs)) ≡ true
plain_list xs is = ap all_plain (lists_plain xs) ∙ is

plain_one : (x : Statement) → is_plain x ≡ true → (placing_of x).plain ≡ true
plain_one x is = plain_same x ∙ is

layer_stands : (y : Statement-F Part) → MayStand (plain_step (plains (bare y))) (placing_step (placings (bare y)))
layer_stands (s.Marked mark body) plain = absurd (false≢true plain)
layer_stands (s.Gather g) plain = absurd (false≢true plain)
layer_stands (s.Opened body) plain = (plain_one body.0 plain, (body.1 plain).0)
layer_stands (s.Block items) plain = (list_placed items plain, plain_list (firsts items) plain)
layer_stands (s.If test first None) plain =
    let k = both_true (is_plain first.0) true plain in
    (and_true (placing_of first.0).placed true (first.1 k.0).1 refl, and_true (placing_of first.0).plain true (plain_one first.0 k.0) refl)
layer_stands (s.If test first (Some second)) plain =
    let k = both_true (is_plain first.0) (is_plain second.0) plain in
    (and_true (placing_of first.0).placed (placing_of second.0).placed (first.1 k.0).1 (second.1 k.1).1, and_true (placing_of first.0).plain (placing_of second.0).plain (plain_one first.0 k.0) (plain_one second.0 k.1))
layer_stands (s.Loop start test update body) plain =
    let k = both_true (all_plain (map is_plain (firsts start))) (is_plain body.0 && all_plain (map is_plain (firsts update))) plain in
    let l = both_true (is_plain body.0) (all_plain (map is_plain (firsts update))) k.1 in
    let a = plain_list (firsts start) k.0 in
    let u = plain_list (firsts update) l.1 in (
      and_true _ _ a (and_true (placing_of body.0).placed _ (body.1 l.0).1 u),
      and_true _ _ a (and_true (placing_of body.0).plain _ (plain_one body.0 l.0) u),
    )
layer_stands _ plain = (refl, refl)

made_stands : (x : Statement-F Statement) (y : Statement-F Part) → bare y ≡ x → MayStand (is_plain (roll-Statement x)) (placing_of (roll-Statement x))
made_stands x y is =
    let b = fold-roll-Statement Bool plain_step x in
    let a = fold-roll-Statement Placing placing_step x in
    let whole : MayStand (is_plain (roll-Statement x)) (placing_of (roll-Statement x)) ≡ MayStand (plain_step (plains x)) (placing_step (placings x)) = λ i. MayStand (b i) (a i) in
    transport (sym whole) (subst (λ z. MayStand (plain_step (plains z)) (placing_step (placings z))) is (layer_stands y))

pub plain_stands : (x : Statement) → MayStand (is_plain x) (placing_of x)
plain_stands = ind-Statement (λ x. MayStand (is_plain x) (placing_of x)) made_stands
