-- Items that start a call, or work at a slot or an instance, go right.
use Rattle.std.proofs.Common.{◌≡◌, refl, sym, ap, subst, ◌∙◌, ℕ, ℤ, zero, suc, ◌+◌, ◌<◌, arith, true, List, [], ◌∷◌, Option, Some, None, slice_get, inl, inr}
use Rattle.std.specs.List.{range_with_len}
use Rattle.std.proofs.lemmas.Bool.{false≢true}
use Rattle.sdg_base.specs.Limits.{turns_at_start}
use Rattle.sdg_base.specs.declared.val.Val.{Val}
use Rattle.sdg_base.specs.declared.val.Val.TheVariants as val
use Rattle.sdg_base.specs.declared.port.Port.{Port}
use Rattle.sdg_base.specs.declared.port.Port.TheVariants as port
use Rattle.sdg_base.specs.declared.item.Item.{Item}
use Rattle.sdg_base.specs.declared.item.Item.TheVariants as item
use Rattle.state_classes.specs.States.{State}
use Rattle.flat_code.specs.declared.graph.GraphMethod.{GraphMethod}
use Rattle.flat_code.specs.declared.graph.MethodKind.{MethodKind}
use Rattle.flat_code.specs.declared.graph.MethodKind.TheVariants as method_kind
use Rattle.flat_code.specs.declared.graph.Graph.{Graph}
use Rattle.flat_code.specs.declared.graph.Task.{Task}
use Rattle.flat_code.specs.declared.graph.TaskKind.{TaskKind}
use Rattle.flat_code.specs.declared.graph.TaskKind.TheVariants as kind
use Rattle.flat_code.specs.Machine.{calls_of, first_variables, run}
use Rattle.flat_code.specs.Items.{Visited, sender, visit, started, run_in, run_from, carried_variables, method_of, width_of, after_run}
use Rattle.flat_code.specs.Ways.{IsIn}
use Rattle.flat_code.specs.Fits.{parameters, has_types, is_entry, starts, takes, takes_at, is_field, is_instance, is_key_of, no_key, keyed_work, local_work, visiting}
use Rattle.flat_code.specs.Verified.{IsVerified, IsMethod, HasStart, IsStart, StandsRight, TakesBrought}
use Rattle.graph_safety.specs.Safe.{AreWidths, IsStateOf}
use Rattle.graph_safety.proofs.Lists.{none_some, some_is, both_true}
use Rattle.graph_safety.proofs.Frames.{ArgsFit, HasKey, setting_of, frame}
use Rattle.graph_safety.proofs.Instructions.{first_hold, types_as_many}
use Rattle.graph_safety.proofs.Stacks.{range_length}
use Rattle.graph_safety.proofs.Carried.{ones, carried_room, carried_hold}
use Rattle.graph_safety.proofs.Calls.{first_variables_as_many}
use Rattle.graph_safety.proofs.Runs.{IsStateFor}
use Rattle.graph_safety.proofs.Ways.{Among, among}
use Rattle.graph_safety.proofs.Items.{Taking, taking, field_is, state_for}
use Rattle.graph_safety.proofs.Tasks.{TaskFits, task_runs}
use Rattle.graph_safety.proofs.Outputs.{Starts, GivesRight, after_right}

-- ---- a task with an item's values

module _ (graph : Graph) (verified : IsVerified graph) (widths : List ℕ) (are : AreWidths graph widths) where
  pub task_item : (at : Port) (from : Item) (parts : List Item) (k : ℕ) (j : TaskKind) (key : Option ℤ) (gathered vs : List Val) (turns pick call : ℕ) (visited : Option Visited) (state : State)
      → (it : Taking graph j (slice_get graph.tasks k) turns vs) → (j ≡ kind.Keyed → HasKey key)
      → (j ≡ kind.Join → (c : ℕ) → TakesBrought graph it.t c → (of : GraphMethod) → IsMethod graph c of → of.kind ≡ method_kind.Merge → ArgsFit of (val.Unit ∷ []) gathered)
      → Starts graph at from parts k it.t it.m turns call visited → IsStateFor graph it.t.field state
      → GivesRight graph widths at from parts state (run_from (sender graph widths pick call visited) (slice_get graph.tasks k) key gathered turns vs state)
  task_item at from parts k j key gathered vs turns pick call visited state it keyed merges source there =
      subst (λ (o : Option Task). GivesRight graph widths at from parts state (run_from (sender graph widths pick call visited) o key gathered turns vs state)) (sym it.is)
      (subst (λ (o : Option GraphMethod). GivesRight graph widths at from parts state (run_in (sender graph widths pick call visited) o it.t key gathered turns vs state)) (sym it.is_method)
      (after_right graph verified widths are at from parts k it.t it.m key gathered (carried_variables it.m it.t vs) turns task pick call visited source
      (run (setting_of graph (calls_of graph.fields graph.methods) it.t.field key gathered) it.m.code (frame it.t.at [] (carried_variables it.m it.t vs) turns) state) state
      (task_runs graph verified k it.t it.m key gathered (carried_variables it.m it.t vs) turns task state there)))
    where
      task : TaskFits graph k it.t it.m key gathered (carried_variables it.m it.t vs) turns
      task = record {
        is_task = it.is;
        is_method = it.is_method;
        few = it.few;
        carried = carried_hold it.m it.t gathered vs it.typed;
        one = λ v h. ones it.m it.t.vars vs it.typed v (among v it.t.vars h);
        room = carried_room it.m it.t vs;
        keyed = λ e. keyed (sym it.of_kind ∙ e);
        merges = λ e. merges (sym it.of_kind ∙ e);
      }

  pub method_is : (k : ℕ) (j : TaskKind) (turns : ℕ) (vs : List Val) (it : Taking graph j (slice_get graph.tasks k) turns vs) → method_of graph (slice_get graph.tasks k) ≡ Some it.m
  method_is k j turns vs it = ap (λ (o : Option Task). method_of graph o) it.is ∙ it.is_method

  -- ---- slots and instances

  has_key : (n width : ℕ) (key : Option ℤ) → is_key_of n width key ≡ true → HasKey key
  has_key n width None e = false≢true e
  has_key n width (Some key) e = tt

  pub slot_item : (f n call k turns : ℕ) (key : Option ℤ) (vs : List Val) (pick : ℕ) (state : State) → keyed_work graph widths f n k key turns vs ≡ true → IsStateOf (slice_get graph.fields f) state
      → GivesRight graph widths (port.Slot f n) (item.Work call k key turns vs) [] state (run_from (sender graph widths pick call None) (slice_get graph.tasks k) key [] turns vs state)
  slot_item f n call k turns key vs pick state e there =
      let a = both_true (takes_at graph kind.Keyed f (slice_get graph.tasks k) turns vs) (is_key_of n (width_of widths f) key) e in
      let b = both_true (is_field graph (slice_get graph.tasks k) f) (takes graph kind.Keyed (slice_get graph.tasks k) turns vs) a.0 in
      let it = taking graph kind.Keyed (slice_get graph.tasks k) turns vs b.1 in
      task_item (port.Slot f n) (item.Work call k key turns vs) [] k kind.Keyed key [] vs turns pick call None state it (λ q. has_key n (width_of widths f) key a.1) (λ q. absurd (cc))
      (record { of_call = refl; with_turns = refl; runs_method = method_is k kind.Keyed turns vs it; for = (tt, λ q. let r = sym it.of_kind ∙ q in absurd (cc)) })
      (state_for graph it.t.field f state (field_is graph (slice_get graph.tasks k) it.t f it.is b.0) there)

  pub instance_item : (f n call k turns : ℕ) (key : Option ℤ) (vs : List Val) (pick : ℕ) (state : State) → local_work graph f k key turns vs ≡ true → IsStateOf (slice_get graph.fields f) state
      → GivesRight graph widths (port.Inst f n) (item.Work call k key turns vs) [] state (run_from (sender graph widths pick call None) (slice_get graph.tasks k) key [] turns vs state)
  instance_item f n call k turns key vs pick state e there =
      let a = both_true (takes_at graph kind.Local f (slice_get graph.tasks k) turns vs) (no_key key) e in
      let b = both_true (is_field graph (slice_get graph.tasks k) f) (takes graph kind.Local (slice_get graph.tasks k) turns vs) a.0 in
      let it = taking graph kind.Local (slice_get graph.tasks k) turns vs b.1 in
      task_item (port.Inst f n) (item.Work call k key turns vs) [] k kind.Local key [] vs turns pick call None state it (λ q. absurd (cc)) (λ q. absurd (cc))
      (record { of_call = refl; with_turns = refl; runs_method = method_is k kind.Local turns vs it; for = (tt, λ q. let r = sym it.of_kind ∙ q in absurd (cc)) })
      (state_for graph it.t.field f state (field_is graph (slice_get graph.tasks k) it.t f it.is b.0) there)

  pub visit_item : (f n call k width turns : ℕ) (vs : List Val) (pick : ℕ) (state : State) → visiting graph f n k width turns vs ≡ true → IsStateOf (slice_get graph.fields f) state
      → GivesRight graph widths (port.Inst f n) (item.Visit call k width turns vs) [] state (run_from (sender graph widths pick call (visit width n k)) (slice_get graph.tasks k) None [] turns vs state)
  visit_item f n call k width turns vs pick state e there =
      let a = both_true (takes_at graph kind.Visit f (slice_get graph.tasks k) turns vs) (is_instance width n) e in
      let b = both_true (is_field graph (slice_get graph.tasks k) f) (takes graph kind.Visit (slice_get graph.tasks k) turns vs) a.0 in
      let it = taking graph kind.Visit (slice_get graph.tasks k) turns vs b.1 in
      task_item (port.Inst f n) (item.Visit call k width turns vs) [] k kind.Visit None [] vs turns pick call (visit width n k) state it (λ q. absurd (cc)) (λ q. absurd (cc))
      (record {
        of_call = refl;
        with_turns = refl;
        runs_method = method_is k kind.Visit turns vs it;
        for = record { of_kind = it.of_kind; of_task = refl; instance = a.1; for_join = λ join left ws how q less. (refl, q, refl, refl, less) };
      })
      (state_for graph it.t.field f state (field_is graph (slice_get graph.tasks k) it.t f it.is b.0) there)

  -- ---- the front

  entry_is : (k : MethodKind) → is_entry k ≡ true → k ≡ method_kind.Entry
  entry_is method_kind.Entry e = refl
  entry_is _ e = absurd (false≢true e)

  in_range : (v a n : ℕ) → Among v (range_with_len a n) → v < a + n
  in_range v a zero h = absurd h
  in_range v a (suc n) (inl e) = omega arith
  in_range v a (suc n) (inr h) = let k = in_range v (a + 1) n h in omega arith

  start_of : (n : ℕ) (m : GraphMethod) → IsMethod graph n m → (start : HasStart graph n) → IsStart m start.of
  start_of n m is start =
      let right = verified.tasks start.number start.of start.is_task in
      let there : slice_get graph.methods start.of.method ≡ Some m = ap (λ (k : ℕ). slice_get graph.methods k) start.of_method ∙ is in
      let same : right.of ≡ m = some_is right.of m (sym right.is_method ∙ there) in
      let stands : StandsRight graph start.number right.of start.of kind.Start = subst (λ (j : TaskKind). StandsRight graph start.number right.of start.of j) start.is_start right.stands in
      subst (λ (o : GraphMethod). IsStart o start.of) same stands

  start_task : (n : ℕ) (m : GraphMethod) (args : List Val) → IsMethod graph n m → (start : HasStart graph n) → IsStart m start.of → has_types m (parameters m) args ≡ true
      → TaskFits graph start.number start.of m None [] (first_variables m args) turns_at_start
  start_task n m args is start stands typed =
      let many = types_as_many m (parameters m) args typed in
      let long = range_length 0 m.params in
      let most = verified.parameters n m is in
      let in_parameters : (v : ℕ) → IsIn v start.of.vars → Among v (parameters m) = λ v h. among v (parameters m) (subst (λ (ns : List ℕ). IsIn v ns) stands.parameters h) in
      record {
        is_task = start.is_task;
        is_method = ap (λ (k : ℕ). slice_get graph.methods k) start.of_method ∙ is;
        few = omega arith;
        carried = λ v h. let w = in_range v 0 m.params (in_parameters v h) in let within : v < m.params = omega arith in first_hold m args [] typed v within;
        one = λ v h. ones m (parameters m) args typed v (in_parameters v h);
        room = first_variables_as_many m args (omega arith);
        keyed = λ e. let q = sym start.is_start ∙ e in absurd (cc);
        merges = λ e. let q = sym start.is_start ∙ e in absurd (cc);
      }

  start_item : (call n : ℕ) (args : List Val) (pick : ℕ) (state : State) (m : GraphMethod) → IsMethod graph n m → (start : HasStart graph n) → IsStart m start.of → has_types m (parameters m) args ≡ true
      → GivesRight graph widths port.Front (item.Start call n args) [] state (started (sender graph widths pick call None) (Some m) args turns_at_start state)
  start_item call n args pick state m is start stands typed =
      subst (λ (k : ℕ). GivesRight graph widths port.Front (item.Start call n args) [] state (after_run (sender graph widths pick call None) (run (setting_of graph (calls_of graph.fields graph.methods) None None []) m.code (frame k [] (first_variables m args) turns_at_start) state))) stands.first
      (subst (λ (o : Option (List ℕ)). GivesRight graph widths port.Front (item.Start call n args) [] state (after_run (sender graph widths pick call None) (run (setting_of graph (calls_of graph.fields graph.methods) o None []) m.code (frame start.of.at [] (first_variables m args) turns_at_start) state))) stands.no_field
      (after_right graph verified widths are port.Front (item.Start call n args) [] start.number start.of m None [] (first_variables m args) turns_at_start (start_task n m args is start stands typed) pick call None
      (record { of_call = refl; with_turns = refl; runs_method = is; for = (tt, λ q. let r = sym start.is_start ∙ q in absurd (cc)) })
      (run (setting_of graph (calls_of graph.fields graph.methods) start.of.field None []) m.code (frame start.of.at [] (first_variables m args) turns_at_start) state) state
      (task_runs graph verified start.number start.of m None [] (first_variables m args) turns_at_start (start_task n m args is start stands typed) state (λ name own. absurd (none_some name (sym stands.no_field ∙ own))))))

  pub front_item : (call n : ℕ) (args : List Val) (pick : ℕ) (state : State) (o : Option GraphMethod) → slice_get graph.methods n ≡ o → starts o args ≡ true
      → GivesRight graph widths port.Front (item.Start call n args) [] state (started (sender graph widths pick call None) o args turns_at_start state)
  front_item call n args pick state None is e = absurd (false≢true e)
  front_item call n args pick state (Some m) is e =
      let a = both_true (is_entry m.kind) (has_types m (parameters m) args) e in
      let start = verified.starts n m is (entry_is m.kind a.0) in
      start_item call n args pick state m is start (start_of n m is start) a.1
