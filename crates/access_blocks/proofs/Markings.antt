-- A statement stands beside itself in its marking.
use Rattle.std.proofs.Common.{◌≡◌, List, [], ◌∷◌, map, Option, None, Some, refl, ap, subst, sym, ◌∙◌}
use Rattle.access_blocks.specs.declared.body.Expression.{Expression}
use Rattle.access_blocks.specs.declared.body.Mark.{Mark}
use Rattle.access_blocks.specs.declared.body.Statement.{Statement, roll-Statement}
use Rattle.access_blocks.specs.declared.body.Statement.TheOpen.{Statement-F}
use Rattle.access_blocks.specs.declared.body.Statement.TheOpen as s
use Rattle.access_blocks.specs.declared.body.Statement.TheVariants as statement
use Rattle.access_blocks.specs.declared.body.Statement.TheFolds.{fold-roll-Statement, ind-Statement, map-Statement}
use Rattle.access_blocks.specs.Marks.{Marking, marking_step, marking_of, whole_list, branch}

abbrev IsWhole : Statement → Type 0
IsWhole st = (marking_of st).whole ≡ st

abbrev Part : Type 0
Part = (st : Statement) × IsWhole st

abbrev bare : Statement-F Part → Statement-F Statement
bare = map-Statement Part Statement (λ p. p.0)

abbrev markings : Statement-F Statement → Statement-F Marking
markings = map-Statement Statement Marking marking_of

abbrev whole_layer : Statement-F Marking → Statement-F Statement
whole_layer = map-Statement Marking Statement (λ m. m.whole)

list_is : (items : List Part) → map (λ (m : Marking). m.whole) (map marking_of (map (λ (p : Part). p.0) items)) ≡ map (λ (p : Part). p.0) items
list_is [] = refl
list_is (p ∷ items) = ap (λ st. st ∷ map (λ (m : Marking). m.whole) (map marking_of (map (λ (p : Part). p.0) items))) p.1 ∙ ap (λ (rest : List Statement). p.0 ∷ rest) (list_is items)

layer_is : (y : Statement-F Part) → whole_layer (markings (bare y)) ≡ bare y
layer_is (s.Assign v a) = refl
layer_is (s.SetElement v at a) = refl
layer_is (s.Evaluate a) = refl
layer_is (s.Access a) = refl
layer_is (s.Gather g) = refl
layer_is (s.Marked mark body) = ap (λ (b : Statement). s.Marked mark b) body.1
layer_is (s.Opened body) = ap (λ (b : Statement). s.Opened b) body.1
layer_is (s.Block items) = ap (λ (all : List Statement). s.Block all) (list_is items)
layer_is (s.If test first None) = ap (λ (b : Statement). s.If test b None) first.1
layer_is (s.If test first (Some second)) =
    ap (λ (b : Statement). s.If test b (Some (marking_of second.0).whole)) first.1 ∙ ap (λ (b : Statement). s.If test first.0 (Some b)) second.1
layer_is (s.Loop start test update body) =
    let all : List Part → List Statement = λ items. map (λ (m : Marking). m.whole) (map marking_of (map (λ (p : Part). p.0) items)) in
    let bares : List Part → List Statement = λ items. map (λ (p : Part). p.0) items in
    ap (λ (xs : List Statement). s.Loop xs test (all update) (marking_of body.0).whole) (list_is start)
    ∙ ap (λ (xs : List Statement). s.Loop (bares start) test xs (marking_of body.0).whole) (list_is update)
    ∙ ap (λ (b : Statement). s.Loop (bares start) test (bares update) b) body.1
layer_is s.Break = refl
layer_is s.Continue = refl
layer_is (s.Return a) = refl

made : (x : Statement-F Statement) (y : Statement-F Part) → bare y ≡ x → IsWhole (roll-Statement x)
made x y is =
    let P : Statement-F Statement → Type 0 = λ x. whole_layer (markings x) ≡ x in
    let same : whole_layer (markings x) ≡ x = subst P is (layer_is y) in
    ap (λ (m : Marking). m.whole) (fold-roll-Statement Marking marking_step x) ∙ ap roll-Statement same

pub whole_is : (st : Statement) → (marking_of st).whole ≡ st
whole_is = ind-Statement IsWhole made

pub wholes_are : (xs : List Statement) → map (λ (m : Marking). m.whole) (map marking_of xs) ≡ xs
wholes_are [] = refl
wholes_are (st ∷ xs) = ap (λ (x : Statement). x ∷ map (λ (m : Marking). m.whole) (map marking_of xs)) (whole_is st) ∙ ap (λ (rest : List Statement). st ∷ rest) (wholes_are xs)

-- What stands before and behind the body of a loop has no marks within.
pub opened_loop : (start : List Statement) (test : Option Expression) (update : List Statement) (body : Statement)
    → (marking_of (statement.Loop start test update body)).opened ≡ statement.Opened (statement.Loop start test update (branch (marking_of body)))
opened_loop start test update body =
    ap (λ (st : Statement). (marking_of st).opened) (sym (statement.rolls-Loop start test update body))
    ∙ ap (λ (m : Marking). m.opened) (fold-roll-Statement Marking marking_step (s.Loop start test update body))
    ∙ ap (λ (xs : List Statement). statement.Opened (statement.Loop xs test (whole_list (map marking_of update)) (branch (marking_of body)))) (wholes_are start)
    ∙ ap (λ (xs : List Statement). statement.Opened (statement.Loop start test xs (branch (marking_of body)))) (wholes_are update)

pub opened_marked : (mark : Mark) (body : Statement) → (marking_of (statement.Marked mark body)).opened ≡ statement.Marked mark body
opened_marked mark body =
    ap (λ (st : Statement). (marking_of st).opened) (sym (statement.rolls-Marked mark body))
    ∙ ap (λ (m : Marking). m.opened) (fold-roll-Statement Marking marking_step (s.Marked mark body))
    ∙ ap (λ (b : Statement). roll-Statement (s.Marked mark b)) (whole_is body)
    ∙ statement.rolls-Marked mark body

pub opened_opened : (body : Statement) → (marking_of (statement.Opened body)).opened ≡ statement.Opened body
opened_opened body =
    ap (λ (st : Statement). (marking_of st).opened) (sym (statement.rolls-Opened body))
    ∙ ap (λ (m : Marking). m.opened) (fold-roll-Statement Marking marking_step (s.Opened body))
    ∙ ap (λ (b : Statement). roll-Statement (s.Opened b)) (whole_is body)
    ∙ statement.rolls-Opened body
