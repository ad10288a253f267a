-- On a verified graph each item that fits goes right.
use Rattle.std.proofs.Common.{◌≡◌, refl, sym, subst, ◌∙◌, ℕ, true, List, [], Some, None, IsTrue, slice_get}
use Rattle.std.proofs.lemmas.Bool.{false≢true}
use Rattle.sdg_base.specs.Limits.{turns_at_start}
use Rattle.sdg_base.specs.declared.port.Port.{Port}
use Rattle.sdg_base.specs.declared.port.Port.TheVariants as port
use Rattle.sdg_base.specs.declared.item.Item.{Item}
use Rattle.sdg_base.specs.declared.item.Item.TheVariants as item
use Rattle.state_classes.specs.States.{State, class_of}
use Rattle.flat_code.specs.declared.graph.Graph.{Graph}
use Rattle.flat_code.specs.Items.{Processed, Gives, sender, visit, started, run_from, runs}
use Rattle.flat_code.specs.Fits.{fits}
use Rattle.flat_code.specs.Verified.{IsVerified}
use Rattle.graph_safety.specs.Safe.{AreWidths, IsStateAt, ArePartsBeside, OutputFits, GoesRight, VerifiedGraphsNeverGoWrong}
use Rattle.graph_safety.proofs.Lists.{some_is}
use Rattle.graph_safety.proofs.Outputs.{GivesRight}
use Rattle.graph_safety.proofs.Starts.{slot_item, instance_item, visit_item, front_item}
use Rattle.graph_safety.proofs.Joins.{part_item}

module _ (graph : Graph) (verified : IsVerified graph) (widths : List ℕ) (are : AreWidths graph widths) where
  alone : (at : Port) (from : Item) (parts : List Item) (state : State) (g : List Item → Gives) → parts ≡ [] → GivesRight graph widths at from [] state (g []) → GivesRight graph widths at from parts state (g parts)
  alone at from parts state g e h = subst (λ (ps : List Item). GivesRight graph widths at from ps state (g ps)) (sym e) h

  gives_right : (at : Port) (from : Item) (parts : List Item) (state : State) (pick : ℕ) → fits graph widths at from ≡ true → ArePartsBeside graph widths from parts → IsStateAt graph at state
      → GivesRight graph widths at from parts state (runs graph at from parts state pick widths)
  unfolding fits runs
  gives_right port.Front (item.Start call n args) parts state pick e beside there =
      alone port.Front (item.Start call n args) parts state (λ ps. started (sender graph widths pick call None) (slice_get graph.methods n) args turns_at_start state) beside
      (front_item graph verified widths are call n args pick state (slice_get graph.methods n) refl e)
  gives_right (port.Slot f n) (item.Work call k key turns vs) parts state pick e beside there =
      alone (port.Slot f n) (item.Work call k key turns vs) parts state (λ ps. run_from (sender graph widths pick call None) (slice_get graph.tasks k) key [] turns vs state) beside
      (slot_item graph verified widths are f n call k turns key vs pick state e there)
  gives_right (port.Inst f n) (item.Work call k key turns vs) parts state pick e beside there =
      alone (port.Inst f n) (item.Work call k key turns vs) parts state (λ ps. run_from (sender graph widths pick call None) (slice_get graph.tasks k) key [] turns vs state) beside
      (instance_item graph verified widths are f n call k turns key vs pick state e there)
  gives_right (port.Inst f n) (item.Visit call k width turns vs) parts state pick e beside there =
      alone (port.Inst f n) (item.Visit call k width turns vs) parts state (λ ps. run_from (sender graph widths pick call (visit width n k)) (slice_get graph.tasks k) None [] turns vs state) beside
      (visit_item graph verified widths are f n call k width turns vs pick state e there)
  gives_right port.Join (item.Part call k width instance turns vs how) parts state pick e beside there =
      part_item graph verified widths are call k width instance turns vs how parts pick state e beside
  gives_right _ _ parts state pick e beside there = absurd (false≢true e)

to_record : (graph : Graph) (widths : List ℕ) (at : Port) (from : Item) (parts : List Item) (state : State) (pick : ℕ) (g : Gives) → runs graph at from parts state pick widths ≡ g → GivesRight graph widths at from parts state g → GoesRight graph widths at from parts state pick
to_record graph widths at from parts state pick None e h = absurd h
to_record graph widths at from parts state pick (Some given) e h = record { given = given; runs = e; fits = h.0; class = h.1 }

pub goes_right : VerifiedGraphsNeverGoWrong
goes_right graph widths at from parts state pick verified are fitting beside there =
    to_record graph widths at from parts state pick (runs graph at from parts state pick widths) refl (gives_right graph verified widths are at from parts state pick fitting beside there)

-- An item that fits gives something.
pub runs_to_something : (graph : Graph) (widths : List ℕ) (at : Port) (from : Item) (parts : List Item) (state : State) (pick : ℕ)
    → IsVerified graph → AreWidths graph widths → IsTrue (fits graph widths at from) → ArePartsBeside graph widths from parts → IsStateAt graph at state
    → (given : Processed) × (runs graph at from parts state pick widths ≡ Some given)
runs_to_something graph widths at from parts state pick verified are fitting beside there =
    let right = goes_right graph widths at from parts state pick verified are fitting beside there in
    (right.given, right.runs)

-- Whatever an item that fits gives, it fits its receiver, and the state stays of its class.
pub what_is_given_fits : (graph : Graph) (widths : List ℕ) (at : Port) (from : Item) (parts : List Item) (state : State) (pick : ℕ) (given : Processed)
    → IsVerified graph → AreWidths graph widths → IsTrue (fits graph widths at from) → ArePartsBeside graph widths from parts → IsStateAt graph at state
    → runs graph at from parts state pick widths ≡ Some given
    → OutputFits graph widths at from parts given.output × (class_of given.state ≡ class_of state)
what_is_given_fits graph widths at from parts state pick given verified are fitting beside there e =
    let right = goes_right graph widths at from parts state pick verified are fitting beside there in
    let same : right.given ≡ given = some_is right.given given (sym right.runs ∙ e) in
    subst (λ (g : Processed). OutputFits graph widths at from parts g.output × (class_of g.state ≡ class_of state)) same (right.fits, right.class)
