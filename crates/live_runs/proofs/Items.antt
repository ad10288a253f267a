-- The run of a task's item gives what the run gives from a whole frame whose values it carries.
use Rattle.std.proofs.Common.{◌≡◌, refl, sym, ap, ◌∙◌, ℕ, ℤ, List, [], Option, None, slice_get}
use Rattle.sdg_base.specs.declared.val.Val.{Val}
use Rattle.state_classes.specs.States.{State}
use Rattle.flat_code.specs.declared.graph.Graph.{Graph}
use Rattle.flat_code.specs.declared.graph.GraphMethod.{GraphMethod}
use Rattle.flat_code.specs.declared.graph.Task.{Task}
use Rattle.flat_code.specs.declared.graph.TaskKind.TheVariants as kind
use Rattle.flat_code.specs.Items.{Visited, Sender, sender, visit, setting, run_in, run_from, runs, carried_variables}
use Rattle.flat_code.specs.Machine.{run}
use Rattle.flat_code.specs.Verified.{IsVerified}
use Rattle.graph_safety.proofs.Lists.{none_some, some_is}
use Rattle.live_runs.specs.Alike.{AreAlike}
use Rattle.live_runs.specs.Items.{IsLaterTask, CarriesLive, VisitsBy, AreCarriedFrom, frame_of, whole_run, CarriedIsEnough, ItemsDoAsWholeFrames}
use Rattle.live_runs.proofs.Carried.{found_agree, found_as_many}
use Rattle.live_runs.proofs.Ends.{after_runs_same}
use Rattle.live_runs.proofs.Runs.{live_variables_are_enough}

module _ (s : Sender) (n : ℕ) (t : Task) (m : GraphMethod) (carries : CarriesLive s.graph) (later : IsLaterTask s.graph n t m) (variables values : List Val) (from : AreCarriedFrom m t variables values) where
  begin_alike : (turns : ℕ) → AreAlike m.code (frame_of t variables turns) (frame_of t (carried_variables m t values) turns)
  begin_alike turns = record {
    at = refl;
    stack = refl;
    turns = refl;
    as_many = found_as_many m t variables values from;
    live = λ v h. found_agree m t variables values from v ((carries n t m later).whole v h);
  }

pub carried_is_enough : CarriedIsEnough
carried_is_enough s n t m verified carries later visits variables values from key gathered turns state =
    let on = setting s.graph t.field key gathered in
    let whole = frame_of t variables turns in
    let found = frame_of t (carried_variables m t values) turns in
    ap (λ (o : Option GraphMethod). run_in s o t key gathered turns values state) later.is_method
    ∙ after_runs_same s verified carries n t m later visits variables (carried_variables m t values) (found_agree m t variables values from)
    (run on m.code whole state) (run on m.code found state)
    (live_variables_are_enough on m.code whole found state (begin_alike s n t m carries later variables values from turns))

-- a sender without a visit
no_visits : (graph : Graph) (widths : List ℕ) (pick call n : ℕ) (t : Task) → VisitsBy n t (sender graph widths pick call None)
no_visits graph widths pick call n t visit e = absurd (none_some visit e)

own_visits : (graph : Graph) (widths : List ℕ) (pick call width k n : ℕ) (t : Task) → t.kind ≡ kind.Visit → VisitsBy n t (sender graph widths pick call (visit width k n))
own_visits graph widths pick call width k n t is_visit of e =
    (ap (λ (v : Visited). v.task) (sym (some_is (record { width = width; instance = k; task = n }) of e)), is_visit)

-- by the number of the task
from_number : (s : Sender) (n : ℕ) (t : Task) (m : GraphMethod) → IsVerified s.graph → CarriesLive s.graph → IsLaterTask s.graph n t m → VisitsBy n t s
    → (variables values : List Val) → AreCarriedFrom m t variables values → (key : Option ℤ) (gathered : List Val) (turns : ℕ) (state : State)
    → run_from s (slice_get s.graph.tasks n) key gathered turns values state ≡ whole_run s t m key gathered variables turns state
from_number s n t m verified carries later visits variables values from key gathered turns state =
    ap (λ (o : Option Task). run_from s o key gathered turns values state) later.is_task ∙ carried_is_enough s n t m verified carries later visits variables values from key gathered turns state

pub items_do_as_whole_frames : ItemsDoAsWholeFrames
unfolding runs
items_do_as_whole_frames graph n t m verified carries later variables values from = record {
  slots = λ f k pick call turns widths key parts state.
      from_number (sender graph widths pick call None) n t m verified carries later (no_visits graph widths pick call n t) variables values from key [] turns state;
  instances = λ f k pick call turns widths key parts state.
      from_number (sender graph widths pick call None) n t m verified carries later (no_visits graph widths pick call n t) variables values from key [] turns state;
  visits = λ f k pick call width turns widths parts state is_visit.
      from_number (sender graph widths pick call (visit width k n)) n t m verified carries later (own_visits graph widths pick call width k n t is_visit) variables values from None [] turns state;
  joins = λ pick call turns widths gathered state.
      from_number (sender graph widths pick call None) n t m verified carries later (no_visits graph widths pick call n t) variables values from None gathered turns state;
}
