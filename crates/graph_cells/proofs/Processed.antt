-- Parts that fit, what a part finds waiting, and what an item gives beside it.
use Rattle.std.proofs.Common.{◌≡◌, ℕ, zero, suc, ◌<◌, ◌≤◌, Bool, true, false, cond, ◌&&◌, ◌==◌, not, max, List, [], ◌∷◌, Option, Some, refl, sym, ap, subst, ◌∙◌, arith}
use Rattle.std.specs.Prelude.{nat_lt, IsTrue, slice_get}
use Rattle.std.specs.List.{list_all}
use Rattle.std.proofs.lemmas.Bool.{and_parts, false≢true, eqb-true, eqb-false, ltb-true, ltb-false, not-true}
use Rattle.sdg_base.specs.declared.port.Port.{Port}
use Rattle.sdg_base.specs.declared.port.Port.TheVariants as port
use Rattle.sdg_base.specs.declared.item.Item.{Item}
use Rattle.sdg_base.specs.declared.item.Item.TheVariants as item
use Rattle.sdg_base.specs.declared.val.Outcome.{Outcome}
use Rattle.sdg_base.specs.declared.val.Val.{Val}
use Rattle.state_classes.specs.States.{State}
use Rattle.flat_code.specs.declared.graph.Graph.{Graph}
use Rattle.flat_code.specs.Fits.{fits, is_instance}
use Rattle.flat_code.specs.Items as items
use Rattle.flat_code.specs.Items.{instance_of}
use Rattle.graph_safety.specs.Safe.{AreOfOneJoin, ArePartsBeside}
use Rattle.tagged_agreement.specs.Machine.{Ignore, Parts, parts_for}
use Rattle.tagged_agreement.specs.History.{most_wide}
use Rattle.graph_cells.specs.Held.{standing}
use Rattle.graph_cells.specs.Gathered.{Waiting, parts_of, listed, listed_from, others_of, found_by, is_beside, all_beside}
use Rattle.graph_cells.specs.Processing.{processed, ran_from, ran_so}
use Rattle.graph_cells.specs.Sound.{IsJoinable, AllJoinable}

-- ---- fitting

-- an item that fits, where it is a part
abbrev pub PartFits : Graph → Item → Type 0
PartFits graph (item.Part call t width instance turns vs how) = IsJoinable graph (item.Part call t width instance turns vs how) × (instance < width) × (width ≤ most_wide)
PartFits graph _ = Unit {0}

instance_fits : (a b c : Bool) (width instance : ℕ) → b ≡ is_instance width instance → (a && b && c) ≡ true → (instance < width) × (width ≤ most_wide)
instance_fits a b c width instance is e =
    let first = and_parts (a && b) c e in
    let second = and_parts a b first.0 in
    let both = and_parts (nat_lt instance width) (not (nat_lt 64 width)) (sym is ∙ second.1) in
    (ltb-true instance width both.0, ltb-false 64 width (not-true (nat_lt 64 width) both.1))

pub part_fits : (graph : Graph) (widths : List ℕ) (at : Port) (x : Item) → IsTrue (fits graph widths at x) → PartFits graph x
unfolding fits
part_fits graph widths at (item.Start call m args) e = tt
part_fits graph widths at (item.Work call t key turns vs) e = tt
part_fits graph widths at (item.Visit call t width turns vs) e = tt
part_fits graph widths at (item.Done call how) e = tt
part_fits graph widths port.Join (item.Part call t width instance turns vs how) e =
    let both = instance_fits _ (is_instance width instance) _ width instance refl e in
    (e, both.0, both.1)
part_fits graph widths port.Caller (item.Part call t width instance turns vs how) e = absurd (false≢true e)
part_fits graph widths port.Sink (item.Part call t width instance turns vs how) e = absurd (false≢true e)
part_fits graph widths port.Front (item.Part call t width instance turns vs how) e = absurd (false≢true e)
part_fits graph widths (port.Slot f n) (item.Part call t width instance turns vs how) e = absurd (false≢true e)
part_fits graph widths (port.Inst f n) (item.Part call t width instance turns vs how) e = absurd (false≢true e)

-- how wide the fields are is nothing to the join
pub any_widths : (graph : Graph) (v w : List ℕ) (x : Item) → IsTrue (fits graph v port.Join x) → IsTrue (fits graph w port.Join x)
unfolding fits
any_widths graph v w (item.Part call t width instance turns vs how) e = e
any_widths graph v w (item.Start call m args) e = absurd (false≢true e)
any_widths graph v w (item.Work call t key turns vs) e = absurd (false≢true e)
any_widths graph v w (item.Visit call t width turns vs) e = absurd (false≢true e)
any_widths graph v w (item.Done call how) e = absurd (false≢true e)

-- ---- finding

pub found_is : (graph : Graph) (x : Item) (waiting : Waiting) (gathered : ℕ → Parts) → PartFits graph x → ((call : ℕ) → parts_of waiting call ≡ listed (gathered call)) → found_by x waiting ≡ others_of x (parts_for x gathered)
found_is graph (item.Part call t width instance turns vs how) waiting gathered fits same =
    let narrow = fits.2 in
    let reach : most_wide ≡ max most_wide width = omega arith in
    same call ∙ ap (λ (n : ℕ). listed_from (gathered call) 0 n) reach
found_is graph (item.Start call m args) waiting gathered fits same = refl
found_is graph (item.Work call t key turns vs) waiting gathered fits same = refl
found_is graph (item.Visit call t width turns vs) waiting gathered fits same = refl
found_is graph (item.Done call how) waiting gathered fits same = refl

-- ---- belonging together

each_of_all : {A : Type 0} (test : A → Bool) (xs : List A) (n : ℕ) (x : A) → list_all test xs ≡ true → slice_get xs n ≡ Some x → test x ≡ true
each_of_all test [] n x all e = cc
each_of_all test (y ∷ ys) zero x all e = let same : y ≡ x = cc in subst (λ z. test z ≡ true) same (and_parts (test y) (list_all test ys) all).0
each_of_all test (y ∷ ys) (suc n) x all e = each_of_all test ys n x (and_parts (test y) (list_all test ys) all).1 e

four : (a b c d : Bool) → (a && b && c && d) ≡ true → (a ≡ true) × (b ≡ true) × (c ≡ true) × (d ≡ true)
four a b c d e =
    let first = and_parts (a && b && c) d e in
    let second = and_parts (a && b) c first.0 in
    let third = and_parts a b second.0 in
    (third.0, third.1, second.1, first.1)

pub of_one_join : (x other : Item) → is_beside x other ≡ true → AreOfOneJoin x other
of_one_join (item.Part call t width instance turns vs how) (item.Part c u w i left ws h) e =
    let all = four (c == call) (u == t) (w == width) (not (i == instance)) e in
    (eqb-true c call all.0, eqb-true u t all.1, eqb-true w width all.2, eqb-false i instance (not-true (i == instance) all.3))
of_one_join (item.Part call t width instance turns vs how) (item.Start c m args) e = absurd (false≢true e)
of_one_join (item.Part call t width instance turns vs how) (item.Work c u key left ws) e = absurd (false≢true e)
of_one_join (item.Part call t width instance turns vs how) (item.Visit c u w left ws) e = absurd (false≢true e)
of_one_join (item.Part call t width instance turns vs how) (item.Done c h) e = absurd (false≢true e)
of_one_join (item.Start call m args) other e = absurd (false≢true e)
of_one_join (item.Work call t key turns vs) other e = absurd (false≢true e)
of_one_join (item.Visit call t width turns vs) other e = absurd (false≢true e)
of_one_join (item.Done call how) other e = absurd (false≢true e)

-- a part of the same instance does not belong beside a part
pub other_instance : (call t width instance turns : ℕ) (vs : List Val) (how : Outcome) (other : Item) → is_beside (item.Part call t width instance turns vs how) other ≡ true → instance_of other ≡ instance → ⊥
other_instance call t width instance turns vs how (item.Part c u w i left ws h) e same = (of_one_join (item.Part call t width instance turns vs how) (item.Part c u w i left ws h) e).3 same
other_instance call t width instance turns vs how (item.Start c m args) e same = false≢true e
other_instance call t width instance turns vs how (item.Work c u key left ws) e same = false≢true e
other_instance call t width instance turns vs how (item.Visit c u w left ws) e same = false≢true e
other_instance call t width instance turns vs how (item.Done c h) e same = false≢true e

pub parts_beside : (graph : Graph) (widths : List ℕ) (x : Item) (waiting : Waiting) → all_beside x (found_by x waiting) ≡ true → AllJoinable graph waiting → ArePartsBeside graph widths x (found_by x waiting)
parts_beside graph widths (item.Part call t width instance turns vs how) waiting all joinable =
    λ n other e. (
      any_widths graph [] widths other (joinable call n other e),
      of_one_join (item.Part call t width instance turns vs how) other (each_of_all (is_beside (item.Part call t width instance turns vs how)) (parts_of waiting call) n other all e),
    )
parts_beside graph widths (item.Start call m args) waiting all joinable = refl
parts_beside graph widths (item.Work call t key turns vs) waiting all joinable = refl
parts_beside graph widths (item.Visit call t width turns vs) waiting all joinable = refl
parts_beside graph widths (item.Done call how) waiting all joinable = refl

-- ---- giving

pub processed-beside : (graph : Graph) (at : Port) (x : Item) (others : List Item) (state : Option State) (pick : ℕ) (widths : List ℕ) → all_beside x others ≡ true
    → processed graph at x others state pick widths ≡ ran_from state (items.runs graph at x others (standing state) pick widths)
unfolding processed
processed-beside graph at x others state pick widths e =
    ap (λ (b : Bool). cond b (ran_from state (items.runs graph at x others (standing state) pick widths)) (ran_so Ignore state)) e

pub processed-not : (graph : Graph) (at : Port) (x : Item) (others : List Item) (state : Option State) (pick : ℕ) (widths : List ℕ) → all_beside x others ≡ false
    → processed graph at x others state pick widths ≡ ran_so Ignore state
unfolding processed
processed-not graph at x others state pick widths e =
    ap (λ (b : Bool). cond b (ran_from state (items.runs graph at x others (standing state) pick widths)) (ran_so Ignore state)) e
