-- A statement that is run whole is one in which no block begins.
use Rattle.std.proofs.Common.{◌≡◌, refl, sym, ap, subst, ◌∙◌, Bool, List, [], ◌∷◌, map, Some, None}
use Rattle.access_blocks.specs.declared.body.Statement.{Statement, roll-Statement}
use Rattle.access_blocks.specs.declared.body.Statement.TheOpen.{Statement-F}
use Rattle.access_blocks.specs.declared.body.Statement.TheOpen as s
use Rattle.access_blocks.specs.declared.body.Statement.TheFolds.{fold-roll-Statement, ind-Statement, map-Statement}
use Rattle.code_meaning.specs.Running.{plain_step, is_plain}
use Rattle.code_meaning.specs.Placed.{Placing, placing_step, placing_of}

abbrev Part : Type 0
Part = (x : Statement) × ((placing_of x).plain ≡ is_plain x)

abbrev bare : Statement-F Part → Statement-F Statement
bare = map-Statement Part Statement (λ x. x.0)

abbrev placings : Statement-F Statement → Statement-F Placing
placings = map-Statement Statement Placing placing_of

abbrev plains_in : Statement-F Placing → Statement-F Bool
plains_in = map-Statement Placing Bool (λ a. a.plain)

abbrev plains : Statement-F Statement → Statement-F Bool
plains = map-Statement Statement Bool is_plain

list_same : (xs : List Part) → map (λ (a : Placing). a.plain) (map placing_of (map (λ (x : Part). x.0) xs)) ≡ map is_plain (map (λ (x : Part). x.0) xs)
list_same [] = refl
list_same (x ∷ xs) = λ i. x.1 i ∷ list_same xs i

layer_same : (y : Statement-F Part) → plains_in (placings (bare y)) ≡ plains (bare y)
layer_same (s.Marked mark body) = λ i. s.Marked mark (body.1 i)
layer_same (s.Opened body) = λ i. s.Opened (body.1 i)
layer_same (s.Block items) = λ i. s.Block (list_same items i)
layer_same (s.If test first None) = λ i. s.If test (first.1 i) None
layer_same (s.If test first (Some second)) = λ i. s.If test (first.1 i) (Some (second.1 i))
layer_same (s.Loop start test update body) = λ i. s.Loop (list_same start i) test (list_same update i) (body.1 i)
layer_same (s.Assign v x) = refl
layer_same (s.SetElement v at x) = refl
layer_same (s.Evaluate x) = refl
layer_same (s.Access a) = refl
layer_same (s.Gather g) = refl
layer_same s.Break = refl
layer_same s.Continue = refl
layer_same (s.Return x) = refl

made_same : (x : Statement-F Statement) (y : Statement-F Part) → bare y ≡ x → (placing_of (roll-Statement x)).plain ≡ is_plain (roll-Statement x)
made_same x y is =
    let P : Statement-F Statement → Type 0 = λ z. plain_step (plains_in (placings z)) ≡ plain_step (plains z) in
    ap (λ (a : Placing). a.plain) (fold-roll-Statement Placing placing_step x) ∙ subst P is (ap plain_step (layer_same y)) ∙ sym (fold-roll-Statement Bool plain_step x)

pub plain_same : (x : Statement) → (placing_of x).plain ≡ is_plain x
plain_same = ind-Statement (λ x. (placing_of x).plain ≡ is_plain x) made_same

pub lists_plain : (xs : List Statement) → map (λ (a : Placing). a.plain) (map placing_of xs) ≡ map is_plain xs
lists_plain [] = refl
lists_plain (x ∷ xs) = λ i. plain_same x i ∷ lists_plain xs i
