-- The last part is gathered behind all others.
use Rattle.std.proofs.Common.{◌≡◌, ℕ, suc, ◌<◌, ◌≤◌, Bool, true, false, List, [], ◌∷◌, length, drop, Option, Some, None, refl, sym, ap, ◌∙◌, arith}
use Rattle.std.specs.Prelude.{nat_lt, if◌then◌else◌}
use Rattle.std.specs.List.{slice_get}
use Rattle.std.proofs.lemmas.Bool.Decides.{nat_tests}
use Rattle.std.proofs.lemmas.List.{append-nil, drop_all}
use Rattle.sdg_base.specs.declared.item.Item.{Item}
use Rattle.sdg_base.specs.declared.val.Outcome.{Outcome}
use Rattle.sdg_base.specs.declared.val.Val.{Val}
use Rattle.sdg_base.specs.declared.item.Item.TheVariants as item
use Rattle.state_classes.specs.States.{State}
use Rattle.flat_code.specs.declared.graph.Graph.{Graph}
use Rattle.flat_code.specs.Items.{Sender, Gathered, AllValues, FirstOther, Wait, done, gathered_of, instance_of, joined, joined_from, joined_with, run_from, with_part}
use Rattle.task_code.specs.Begun.{begun_join, begun_join_from}
use Rattle.task_code.specs.Gathering.{after, gathered_by, with_others}

nothing_more : (o : Option Outcome) (values : List Val) → with_others o values (AllValues []) ≡ gathered_by o values
nothing_more None values = ap AllValues (append-nil values)
nothing_more (Some how) values = refl

pub last_gathered : (p : Item) (others : List Item) (at : ℕ) (before new : List Val) (whole : Gathered) (o : Option Outcome) → length others ≤ at → after before (gathered_of (with_part p (drop at others))) ≡ whole → ((parts : List Item) → after before (gathered_of (p ∷ parts)) ≡ with_others o new (gathered_of parts)) → whole ≡ gathered_by o new
last_gathered p others at before new whole o past so_far one =
    sym so_far
    ∙ ap (λ (rest : List Item). after before (gathered_of (with_part p rest))) (drop_all at others past)
    ∙ one []
    ∙ nothing_more o new

-- ---- joins

gathered_here : (g : Gathered) → after [] g ≡ g
gathered_here (AllValues vs) = refl
gathered_here (FirstOther how) = refl

from_first : (s : Sender) (p q : Item) (parts : List Item) (state : State) → q ≡ p → joined_from s (q ∷ parts) state ≡ joined_from s (p ∷ parts) state
from_first s p q parts state same = ap (λ (x : Item). joined_from s (x ∷ parts) state) same

joined_first : (s : Sender) (parts : List Item) (call t width instance turns : ℕ) (vs : List Val) (how : Outcome) (state : State) → slice_get parts 0 ≡ Some (item.Part call t width instance turns vs how) → joined_from s parts state ≡ joined_with s t turns vs (gathered_of parts) state
joined_first s [] call t width instance turns vs how state first = cc
joined_first s (p ∷ parts) call t width instance turns vs how state first =
    let same : p ≡ item.Part call t width instance turns vs how = cc in
    from_first s (item.Part call t width instance turns vs how) p parts state same
    ∙ ap (λ (x : Item). joined_with s t turns vs (gathered_of (x ∷ parts)) state) (sym same)

-- a join of parts of which one brought no value
pub joined_other : (s : Sender) (parts : List Item) (call t width instance turns : ℕ) (vs values : List Val) (how other : Outcome) (o : Option Outcome) (state : State) → slice_get parts 0 ≡ Some (item.Part call t width instance turns vs how) → after [] (gathered_of parts) ≡ gathered_by o values → o ≡ Some other → joined_from s parts state ≡ done s other state
joined_other s parts call t width instance turns vs values how other o state first gathered is =
    joined_first s parts call t width instance turns vs how state first
    ∙ ap (λ (g : Gathered). joined_with s t turns vs g state) (sym (gathered_here (gathered_of parts)) ∙ gathered ∙ ap (λ (x : Option Outcome). gathered_by x values) is)

-- a join of parts that all brought values
pub joined_values : (s : Sender) (parts : List Item) (call t width instance turns : ℕ) (vs values : List Val) (how : Outcome) (o : Option Outcome) (state : State) → slice_get parts 0 ≡ Some (item.Part call t width instance turns vs how) → after [] (gathered_of parts) ≡ gathered_by o values → o ≡ None → joined_from s parts state ≡ run_from s (slice_get s.graph.tasks t) None values turns vs state
joined_values s parts call t width instance turns vs values how o state first gathered is =
    joined_first s parts call t width instance turns vs how state first
    ∙ ap (λ (g : Gathered). joined_with s t turns vs g state) (sym (gathered_here (gathered_of parts)) ∙ gathered ∙ ap (λ (x : Option Outcome). gathered_by x values) is)

-- ---- waiting

below : (m n : ℕ) → m < n → nat_lt m n ≡ true
below m n h = grind (arith, nat_tests)

above : (m n : ℕ) → n ≤ m → nat_lt m n ≡ false
above m n h = grind (arith, nat_tests)

one_longer : (b : Bool) (p q : Item) (qs parts : List Item) → length parts ≡ suc (length qs) → length (if b then p ∷ q ∷ qs else q ∷ parts) ≡ suc (suc (length qs))
one_longer true p q qs parts more = refl
one_longer false p q qs parts more = ap suc more

pub with_part-length : (p : Item) (others : List Item) → length (with_part p others) ≡ suc (length others)
with_part-length p [] = refl
with_part-length p (other ∷ others) = one_longer (nat_lt (instance_of p) (instance_of other)) p other others (with_part p others) (with_part-length p others)

pub waits : (s : Sender) (width : ℕ) (p : Item) (others : List Item) (state : State) → suc (length others) < width → joined s width (with_part p others) state ≡ Some (record { output = Wait; state = state })
waits s width p others state few =
    ap (λ (b : Bool). if b then Some (record { output = Wait; state = state }) else joined_from s (with_part p others) state)
    (below (length (with_part p others)) width (omega (arith, with_part-length p others)))

pub starts : (s : Sender) (width : ℕ) (p : Item) (others : List Item) (state : State) → width ≤ suc (length others) → joined s width (with_part p others) state ≡ joined_from s (with_part p others) state
starts s width p others state all =
    ap (λ (b : Bool). if b then Some (record { output = Wait; state = state }) else joined_from s (with_part p others) state)
    (above (length (with_part p others)) width (omega (arith, with_part-length p others)))

-- What the join runs is then what all parts run.
pub runs_joined : (graph : Graph) (width : ℕ) (p : Item) (others : List Item) → width ≤ suc (length others) → begun_join graph width (with_part p others) ≡ begun_join_from graph (with_part p others)
runs_joined graph width p others all =
    ap (λ (b : Bool). if b then None else begun_join_from graph (with_part p others))
    (above (length (with_part p others)) width (omega (arith, with_part-length p others)))
