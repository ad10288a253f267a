-- Of a body in which nothing is marked yet, the one with its marks is placed.
use mathlib.Core.Path.{transport}
use Rattle.std.proofs.Common.{◌≡◌, refl, sym, ap, subst, ◌∙◌, Bool, true, List, [], ◌∷◌, map, Option, Some, None}
use Rattle.std.proofs.lemmas.Bool.{false≢true}
use Rattle.access_blocks.specs.declared.body.Statement.{Statement, roll-Statement}
use Rattle.access_blocks.specs.declared.body.Statement.TheVariants as statement
use Rattle.access_blocks.specs.declared.body.Statement.TheOpen.{Statement-F}
use Rattle.access_blocks.specs.declared.body.Statement.TheOpen as s
use Rattle.access_blocks.specs.declared.body.Statement.TheFolds.{fold-roll-Statement, ind-Statement, map-Statement}
use Rattle.access_blocks.specs.declared.place.Site.{Site}
use Rattle.access_blocks.specs.Marks.{Marking, placed, list_placed, branch, wholes, whole_list, opened_step, marking_step, marking_of}
use Rattle.code_meaning.specs.Running.{all_plain}
use Rattle.code_meaning.specs.Placed.{Placing, all_placed, all_unmarked, placing_step, placing_of, MarkedArePlaced}
use Rattle.code_meaning.proofs.Lists.{both_true, and_true}
use Rattle.code_meaning.proofs.Marked.{IsPlaced, MayBePlaced, is_placed, branch_placed, rolled, rolled_opened, variant_block, variant_if, variant_loop}

abbrev markings : Statement-F Statement → Statement-F Marking
markings = map-Statement Statement Marking marking_of

abbrev placings : Statement-F Statement → Statement-F Placing
placings = map-Statement Statement Placing placing_of

-- ---- what is whole stays

abbrev Whole : Type 0
Whole = (x : Statement) × ((marking_of x).whole ≡ x)

abbrev bare : Statement-F Whole → Statement-F Statement
bare = map-Statement Whole Statement (λ x. x.0)

abbrev whole_layer : Statement-F Statement → Statement-F Statement
whole_layer y = map-Statement Marking Statement (λ m. m.whole) (markings y)

list_whole : (xs : List Whole) → map (λ (m : Marking). m.whole) (map marking_of (map (λ (x : Whole). x.0) xs)) ≡ map (λ (x : Whole). x.0) xs
list_whole [] = refl
list_whole (x ∷ xs) = λ i. x.1 i ∷ list_whole xs i

layer_whole : (y : Statement-F Whole) → whole_layer (bare y) ≡ bare y
layer_whole (s.Marked mark body) = λ i. s.Marked mark (body.1 i)
layer_whole (s.Opened body) = λ i. s.Opened (body.1 i)
layer_whole (s.Block items) = λ i. s.Block (list_whole items i)
layer_whole (s.If test first None) = λ i. s.If test (first.1 i) None
layer_whole (s.If test first (Some second)) = λ i. s.If test (first.1 i) (Some (second.1 i))
layer_whole (s.Loop start test update body) = λ i. s.Loop (list_whole start i) test (list_whole update i) (body.1 i)
layer_whole (s.Assign v x) = refl
layer_whole (s.SetElement v at x) = refl
layer_whole (s.Evaluate x) = refl
layer_whole (s.Access a) = refl
layer_whole (s.Gather g) = refl
layer_whole s.Break = refl
layer_whole s.Continue = refl
layer_whole (s.Return x) = refl

made_whole : (x : Statement-F Statement) (y : Statement-F Whole) → bare y ≡ x → (marking_of (roll-Statement x)).whole ≡ roll-Statement x
made_whole x y is = ap (λ (m : Marking). m.whole) (fold-roll-Statement Marking marking_step x) ∙ ap roll-Statement (subst (λ z. whole_layer z ≡ z) is (layer_whole y))

pub whole_same : (x : Statement) → (marking_of x).whole ≡ x
whole_same = ind-Statement (λ x. (marking_of x).whole ≡ x) made_whole

lists_whole : (xs : List Statement) → whole_list (map marking_of xs) ≡ xs
lists_whole [] = refl
lists_whole (x ∷ xs) = λ i. whole_same x i ∷ lists_whole xs i

-- ---- what is opened

abbrev IsOpened : Bool → Statement → Type 0
IsOpened unmarked x = unmarked ≡ true → IsPlaced x

abbrev Part : Type 0
Part = (x : Statement) × IsOpened (placing_of x).unmarked (marking_of x).opened

abbrev under : Statement-F Part → Statement-F Statement
under = map-Statement Part Statement (λ x. x.0)

abbrev firsts : List Part → List Statement
firsts = map (λ (x : Part). x.0)

may_be : (x : Part) → (placing_of x.0).unmarked ≡ true → MayBePlaced (marking_of x.0)
may_be x free = record { free = ap (λ (a : Statement). (placing_of a).unmarked) (whole_same x.0) ∙ free; opened = x.1 free }

list_stands : (xs : List Part) → all_unmarked (map placing_of (firsts xs)) ≡ true → (current : Option Site) → all_placed (map placing_of (list_placed current (map marking_of (firsts xs)))) ≡ true
list_stands [] free current = refl
list_stands (x ∷ xs) free current =
    let k = both_true (placing_of x.0).unmarked (all_unmarked (map placing_of (firsts xs))) free in
    let p = placed current (marking_of x.0) in
    and_true (placing_of p.statement).placed (all_placed (map placing_of (list_placed p.site (map marking_of (firsts xs))))) (is_placed (marking_of x.0) (may_be x k.0) current) (list_stands xs k.1 p.site)

plain_list : (xs : List Statement) → all_plain (map (λ (a : Placing). a.plain) (map placing_of xs)) ≡ true → all_plain (map (λ (a : Placing). a.plain) (map placing_of (whole_list (map marking_of xs)))) ≡ true
plain_list xs is = ap (λ ys. all_plain (map (λ (a : Placing). a.plain) (map placing_of ys))) (lists_whole xs) ∙ is

-- a layer that is not opened
stays : (y : Statement-F Statement) → (placing_step (placings (whole_layer y))).placed ≡ true → IsPlaced (wholes (markings y))
stays y is = rolled (whole_layer y) is

opens : (x y : Statement) → x ≡ y → IsPlaced (statement.Opened x) → IsPlaced (statement.Opened y)
opens x y is h = subst (λ z. IsPlaced (statement.Opened z)) is h

layer_opened : (y : Statement-F Part) → IsOpened (placing_step (placings (under y))).unmarked (opened_step (markings (under y)))
layer_opened (s.Marked mark body) free = absurd (false≢true free)
layer_opened (s.Opened body) free = absurd (false≢true free)
layer_opened (s.Block items) free =
    let all = list_placed None (map marking_of (firsts items)) in
    opens (roll-Statement (s.Block all)) (statement.Block all) (variant_block all) (rolled_opened (s.Block all) (list_stands items free None))
layer_opened (s.If test first None) free =
    let b = branch (marking_of first.0) in
    let k = both_true (placing_of first.0).unmarked true free in
    opens (roll-Statement (s.If test b None)) (statement.If test b None) (variant_if test b None) (rolled_opened (s.If test b None) (and_true (placing_of b).placed true (branch_placed (marking_of first.0) (may_be first k.0)) refl))
layer_opened (s.If test first (Some second)) free =
    let a = branch (marking_of first.0) in
    let b = branch (marking_of second.0) in
    let k = both_true (placing_of first.0).unmarked (placing_of second.0).unmarked free in
    opens (roll-Statement (s.If test a (Some b))) (statement.If test a (Some b)) (variant_if test a (Some b))
    (rolled_opened (s.If test a (Some b)) (and_true (placing_of a).placed (placing_of b).placed (branch_placed (marking_of first.0) (may_be first k.0)) (branch_placed (marking_of second.0) (may_be second k.1))))
layer_opened (s.Loop start test update body) free =
    let a = whole_list (map marking_of (firsts start)) in
    let u = whole_list (map marking_of (firsts update)) in
    let b = branch (marking_of body.0) in
    let k = both_true (all_plain (map (λ (a : Placing). a.plain) (map placing_of (firsts start)))) _ free in
    let l = both_true (all_plain (map (λ (a : Placing). a.plain) (map placing_of (firsts update)))) (placing_of body.0).unmarked k.1 in
    opens (roll-Statement (s.Loop a test u b)) (statement.Loop a test u b) (variant_loop a test u b)
    (rolled_opened (s.Loop a test u b) (and_true _ _ (plain_list (firsts start) k.0) (and_true (placing_of b).placed _ (branch_placed (marking_of body.0) (may_be body l.1)) (plain_list (firsts update) l.0))))
layer_opened (s.Assign v x) free = stays (s.Assign v x) refl
layer_opened (s.SetElement v at x) free = stays (s.SetElement v at x) refl
layer_opened (s.Evaluate x) free = stays (s.Evaluate x) refl
layer_opened (s.Access a) free = stays (s.Access a) refl
layer_opened (s.Gather g) free = stays (s.Gather g) refl
layer_opened s.Break free = stays s.Break refl
layer_opened s.Continue free = stays s.Continue refl
layer_opened (s.Return x) free = stays (s.Return x) refl

made_opened : (x : Statement-F Statement) (y : Statement-F Part) → under y ≡ x → IsOpened (placing_of (roll-Statement x)).unmarked (marking_of (roll-Statement x)).opened
made_opened x y is =
    let a = fold-roll-Statement Placing placing_step x in
    let m = fold-roll-Statement Marking marking_step x in
    let whole : IsOpened (placing_of (roll-Statement x)).unmarked (marking_of (roll-Statement x)).opened ≡ IsOpened (placing_step (placings x)).unmarked (opened_step (markings x)) = λ i. IsOpened (a i).unmarked (m i).opened in
    transport (sym whole) (subst (λ z. IsOpened (placing_step (placings z)).unmarked (opened_step (markings z))) is (layer_opened y))

statement_opened : (x : Statement) → IsOpened (placing_of x).unmarked (marking_of x).opened
statement_opened = ind-Statement (λ x. IsOpened (placing_of x).unmarked (marking_of x).opened) made_opened

-- ---- a body

body_stands : (xs : List Statement) → all_unmarked (map placing_of xs) ≡ true → (current : Option Site) → all_placed (map placing_of (list_placed current (map marking_of xs))) ≡ true
body_stands [] free current = refl
body_stands (x ∷ xs) free current =
    let k = both_true (placing_of x).unmarked (all_unmarked (map placing_of xs)) free in
    let p = placed current (marking_of x) in
    let may : MayBePlaced (marking_of x) = may_be (x, statement_opened x) k.0 in
    and_true (placing_of p.statement).placed (all_placed (map placing_of (list_placed p.site (map marking_of xs)))) (is_placed (marking_of x) may current) (body_stands xs k.1 p.site)

pub marked_are_placed : MarkedArePlaced
marked_are_placed body free = body_stands body free None
