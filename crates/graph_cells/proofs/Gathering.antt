-- What waits after an item, by instance and as the program's list.
use Rattle.std.proofs.Common.{◌≡◌, ℕ, zero, suc, ◌<◌, Bool, true, false, cond, ◌&&◌, ◌==◌, List, [], ◌∷◌, Option, Some, None, refl, sym, ap, subst, ◌∙◌, arith}
use Rattle.std.specs.Prelude.{nat_lt}
use Rattle.std.proofs.lemmas.Bool.{and_parts, eqb-true, eq-eqb, ne_eqb}
use Rattle.sdg_base.specs.declared.port.Port.{Port}
use Rattle.sdg_base.specs.declared.item.Item.{Item}
use Rattle.sdg_base.specs.declared.item.Item.TheVariants as item
use Rattle.sdg_base.specs.declared.val.Outcome.{Outcome}
use Rattle.sdg_base.specs.declared.val.Val.{Val}
use Rattle.state_classes.specs.States.{State}
use Rattle.flat_code.specs.declared.graph.Graph.{Graph}
use Rattle.flat_code.specs.Items.{instance_of, with_part}
use Rattle.tagged_agreement.specs.Machine.{Out, Send, Broadcast, ToJoin, Result, Wait, Ignore, Ran, Parts, gathered_after}
use Rattle.tagged_agreement.specs.History.{most_wide}
use Rattle.graph_cells.specs.Gathered.{Waiting, parts_of, listed, found_by, is_beside, all_beside, parts_after, IsGathered, IsKept}
use Rattle.graph_cells.specs.Processing.{processed}
use Rattle.graph_cells.specs.Sound.{IsJoinable, AreJoinable, AllJoinable}
use Rattle.graph_cells.proofs.Calls.{none_waiting}
use Rattle.graph_cells.proofs.Listed.{listed_same, listed_none, listed_each, listed_with}
use Rattle.graph_cells.proofs.Processed.{PartFits, other_instance, processed-not}

abbrev pub AllKept : (ℕ → Parts) → Type 0
AllKept gathered = (call instance : ℕ) (part : Item) → gathered call instance ≡ Some part → IsKept instance part

-- a part that waits has no other of its instance
abbrev pub HasPlace : Item → Out → (ℕ → Parts) → Type 0
HasPlace (item.Part call t width instance turns vs how) Wait gathered = (gathered call instance ≡ None) × (instance < most_wide)
HasPlace _ _ gathered = Unit {0}

-- ---- a place for a part

free : (call t width instance turns : ℕ) (vs : List Val) (how : Outcome) (gathered : ℕ → Parts) → AllKept gathered → instance < most_wide → all_beside (item.Part call t width instance turns vs how) (listed (gathered call)) ≡ true → gathered call instance ≡ None
free call t width instance turns vs how gathered kept below all = by (gathered call instance) refl
  where
    by : (o : Option Item) → gathered call instance ≡ o → o ≡ None
    by None e = refl
    by (Some other) e =
        let beside = listed_each (is_beside (item.Part call t width instance turns vs how)) (gathered call) 0 most_wide instance other all (omega arith) (omega arith) e in
        absurd (other_instance call t width instance turns vs how other beside (kept call instance other e).own)

any_place : (call t width instance turns : ℕ) (vs : List Val) (how : Outcome) (out : Out) (gathered : ℕ → Parts) → gathered call instance ≡ None → instance < most_wide → HasPlace (item.Part call t width instance turns vs how) out gathered
any_place call t width instance turns vs how (Send to x) gathered none below = tt
any_place call t width instance turns vs how (Broadcast f w x) gathered none below = tt
any_place call t width instance turns vs how (ToJoin x) gathered none below = tt
any_place call t width instance turns vs how (Result x) gathered none below = tt
any_place call t width instance turns vs how Wait gathered none below = (none, below)
any_place call t width instance turns vs how Ignore gathered none below = tt

pub place_after : (graph : Graph) (at : Port) (x : Item) (waiting : Waiting) (state : Option State) (pick : ℕ) (widths : List ℕ) (gathered : ℕ → Parts)
    → PartFits graph x → ((call : ℕ) → parts_of waiting call ≡ listed (gathered call)) → AllKept gathered → HasPlace x (processed graph at x (found_by x waiting) state pick widths).out gathered
place_after graph at (item.Start call m args) waiting state pick widths gathered fits same kept = tt
place_after graph at (item.Work call t key turns vs) waiting state pick widths gathered fits same kept = tt
place_after graph at (item.Visit call t width turns vs) waiting state pick widths gathered fits same kept = tt
place_after graph at (item.Done call how) waiting state pick widths gathered fits same kept = tt
place_after graph at (item.Part call t width instance turns vs how) waiting state pick widths gathered fits same kept = by (all_beside (item.Part call t width instance turns vs how) (parts_of waiting call)) refl
  where
    by : (b : Bool) → all_beside (item.Part call t width instance turns vs how) (parts_of waiting call) ≡ b → HasPlace (item.Part call t width instance turns vs how) (processed graph at (item.Part call t width instance turns vs how) (parts_of waiting call) state pick widths).out gathered
    by true e =
        let narrow = fits.2 in
        let within = fits.1 in
        let below : instance < most_wide = omega arith in
        let all : all_beside (item.Part call t width instance turns vs how) (listed (gathered call)) ≡ true = subst (λ (ps : List Item). all_beside (item.Part call t width instance turns vs how) ps ≡ true) (same call) e in
        any_place call t width instance turns vs how (processed graph at (item.Part call t width instance turns vs how) (parts_of waiting call) state pick widths).out gathered
        (free call t width instance turns vs how gathered kept below all) below
    by false e =
        subst (λ (r : Ran (Option State)). HasPlace (item.Part call t width instance turns vs how) r.out gathered)
        (sym (processed-not graph at (item.Part call t width instance turns vs how) (parts_of waiting call) state pick widths e)) tt

-- ---- by instance and as a list

used_up : (b : Bool) (P Q : Parts) → ((i : ℕ) → Q i ≡ cond b None (P i)) → listed Q ≡ cond b [] (listed P)
used_up true P Q h = listed_none Q 0 most_wide h
used_up false P Q h = listed_same P Q 0 most_wide (λ i low. h i)

put_in : (x : Item) (instance : ℕ) (b : Bool) (P Q : Parts) → ((i : ℕ) → Q i ≡ cond (b && i == instance) (Some x) (P i)) → instance_of x ≡ instance → instance < most_wide → (b ≡ true → P instance ≡ None) → ((j : ℕ) (y : Item) → P j ≡ Some y → instance_of y ≡ j)
    → listed Q ≡ cond b (with_part x (listed P)) (listed P)
put_in x instance false P Q h at below none own = listed_same P Q 0 most_wide (λ i low. h i)
put_in x instance true P Q h at below none own =
    listed_with x P own Q instance at
    (h instance ∙ ap (λ (t : Bool). cond t (Some x) (P instance)) (eq-eqb instance instance refl))
    (λ j differs. h j ∙ ap (λ (t : Bool). cond t (Some x) (P j)) (ne_eqb j instance differs))
    (none refl) 0 most_wide (omega arith) (omega arith)

pub listed_after : (x : Item) (out : Out) (gathered : ℕ → Parts) (c : ℕ) → HasPlace x out gathered → AllKept gathered → listed (λ i. gathered_after x out gathered c i) ≡ parts_after x out c (listed (gathered c))
listed_after (item.Part call t width instance turns vs how) Wait gathered c place kept =
    put_in (item.Part call t width instance turns vs how) instance (c == call) (gathered c) (λ i. gathered_after (item.Part call t width instance turns vs how) Wait gathered c i) (λ i. refl) refl place.1
    (λ e. subst (λ (k : ℕ). gathered k instance ≡ None) (sym (eqb-true c call e)) place.0)
    (λ j y e. (kept c j y e).own)
listed_after (item.Part call t width instance turns vs how) Ignore gathered c place kept = refl
listed_after (item.Part call t width instance turns vs how) (Send to y) gathered c place kept = used_up (c == call) (gathered c) (λ i. gathered_after (item.Part call t width instance turns vs how) (Send to y) gathered c i) (λ i. refl)
listed_after (item.Part call t width instance turns vs how) (Broadcast f w y) gathered c place kept = used_up (c == call) (gathered c) (λ i. gathered_after (item.Part call t width instance turns vs how) (Broadcast f w y) gathered c i) (λ i. refl)
listed_after (item.Part call t width instance turns vs how) (ToJoin y) gathered c place kept = used_up (c == call) (gathered c) (λ i. gathered_after (item.Part call t width instance turns vs how) (ToJoin y) gathered c i) (λ i. refl)
listed_after (item.Part call t width instance turns vs how) (Result y) gathered c place kept = used_up (c == call) (gathered c) (λ i. gathered_after (item.Part call t width instance turns vs how) (Result y) gathered c i) (λ i. refl)
listed_after (item.Start call m args) out gathered c place kept = refl
listed_after (item.Work call t key turns vs) out gathered c place kept = refl
listed_after (item.Visit call t width turns vs) out gathered c place kept = refl
listed_after (item.Done call how) out gathered c place kept = refl

-- ---- kept under their instances

kept_used : (b : Bool) (o : Option Item) (i : ℕ) (y : Item) → ((z : Item) → o ≡ Some z → IsKept i z) → cond b None o ≡ Some y → IsKept i y
kept_used true o i y kept e = cc
kept_used false o i y kept e = kept y e

kept_put : (b : Bool) (x : Item) (o : Option Item) (i : ℕ) (y : Item) → (b ≡ true → IsKept i x) → ((z : Item) → o ≡ Some z → IsKept i z) → cond b (Some x) o ≡ Some y → IsKept i y
kept_put true x o i y own kept e = let same : x ≡ y = cc in subst (λ (z : Item). IsKept i z) same (own refl)
kept_put false x o i y own kept e = kept y e

pub kept_after : (x : Item) (out : Out) (gathered : ℕ → Parts) → HasPlace x out gathered → AllKept gathered → AllKept (λ c i. gathered_after x out gathered c i)
kept_after (item.Part call t width instance turns vs how) Wait gathered place kept c i y e =
    kept_put (c == call && i == instance) (item.Part call t width instance turns vs how) (gathered c i) i y
    (λ here. let at = eqb-true i instance (and_parts (c == call) (i == instance) here).1 in let below = place.1 in record { own = sym at; below = omega arith })
    (kept c i) e
kept_after (item.Part call t width instance turns vs how) Ignore gathered place kept c i y e = kept c i y e
kept_after (item.Part call t width instance turns vs how) (Send to z) gathered place kept c i y e = kept_used (c == call) (gathered c i) i y (kept c i) e
kept_after (item.Part call t width instance turns vs how) (Broadcast f w z) gathered place kept c i y e = kept_used (c == call) (gathered c i) i y (kept c i) e
kept_after (item.Part call t width instance turns vs how) (ToJoin z) gathered place kept c i y e = kept_used (c == call) (gathered c i) i y (kept c i) e
kept_after (item.Part call t width instance turns vs how) (Result z) gathered place kept c i y e = kept_used (c == call) (gathered c i) i y (kept c i) e
kept_after (item.Start call m args) out gathered place kept c i y e = kept c i y e
kept_after (item.Work call t key turns vs) out gathered place kept c i y e = kept c i y e
kept_after (item.Visit call t width turns vs) out gathered place kept c i y e = kept c i y e
kept_after (item.Done call how) out gathered place kept c i y e = kept c i y e

-- ---- parts that the join takes

with_joinable : (graph : Graph) (x : Item) (others : List Item) → IsJoinable graph x → AreJoinable graph others → AreJoinable graph (with_part x others)
with_joinable graph x [] fits all zero y e = let same : x ≡ y = cc in subst (λ (z : Item). IsJoinable graph z) same fits
with_joinable graph x [] fits all (suc n) y e = cc
with_joinable graph x (other ∷ others) fits all n y e = by (nat_lt (instance_of x) (instance_of other)) (with_joinable graph x others fits (λ m z is. all (suc m) z is)) n y e
  where
    by : (b : Bool) → AreJoinable graph (with_part x others) → AreJoinable graph (cond b (x ∷ other ∷ others) (other ∷ with_part x others))
    by true more zero y e = let same : x ≡ y = cc in subst (λ (z : Item). IsJoinable graph z) same fits
    by true more (suc n) y e = all n y e
    by false more zero y e = all zero y e
    by false more (suc n) y e = more n y e

either_joinable : (graph : Graph) (b : Bool) (ps qs : List Item) → AreJoinable graph ps → AreJoinable graph qs → AreJoinable graph (cond b ps qs)
either_joinable graph true ps qs h k = h
either_joinable graph false ps qs h k = k

none_joinable : (graph : Graph) → AreJoinable graph []
none_joinable graph n y e = cc

parts_joinable : (graph : Graph) (x : Item) (out : Out) (c : ℕ) (ps : List Item) → PartFits graph x → AreJoinable graph ps → AreJoinable graph (parts_after x out c ps)
parts_joinable graph (item.Part call t width instance turns vs how) Wait c ps fits h =
    either_joinable graph (c == call) (with_part (item.Part call t width instance turns vs how) ps) ps (with_joinable graph (item.Part call t width instance turns vs how) ps fits.0 h) h
parts_joinable graph (item.Part call t width instance turns vs how) Ignore c ps fits h = h
parts_joinable graph (item.Part call t width instance turns vs how) (Send to y) c ps fits h = either_joinable graph (c == call) [] ps (none_joinable graph) h
parts_joinable graph (item.Part call t width instance turns vs how) (Broadcast f w y) c ps fits h = either_joinable graph (c == call) [] ps (none_joinable graph) h
parts_joinable graph (item.Part call t width instance turns vs how) (ToJoin y) c ps fits h = either_joinable graph (c == call) [] ps (none_joinable graph) h
parts_joinable graph (item.Part call t width instance turns vs how) (Result y) c ps fits h = either_joinable graph (c == call) [] ps (none_joinable graph) h
parts_joinable graph (item.Start call m args) out c ps fits h = h
parts_joinable graph (item.Work call t key turns vs) out c ps fits h = h
parts_joinable graph (item.Visit call t width turns vs) out c ps fits h = h
parts_joinable graph (item.Done call how) out c ps fits h = h

pub all_joinable_after : (graph : Graph) (x : Item) (out : Out) (old new : Waiting) → PartFits graph x → IsGathered x out old new → AllJoinable graph old → AllJoinable graph new
all_joinable_after graph x out old new fits gathers h c =
    subst (λ (ps : List Item). AreJoinable graph ps) (sym (gathers c)) (parts_joinable graph x out c (parts_of old c) fits (h c))

pub nothing_joinable : (graph : Graph) → AllJoinable graph []
nothing_joinable graph call = subst (λ (ps : List Item). AreJoinable graph ps) (sym (none_waiting call)) (none_joinable graph)
