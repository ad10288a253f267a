-- A mark: the source stops before its statement, and the machine sends the call to the key's slot.
use Rattle.std.proofs.Common.{◌≡◌, refl, ℕ, zero, suc, ℤ, ◌+◌, List, [], ◌∷◌, ◌++◌, length, Some, slice_get, ap, subst, ◌∙◌, arith, Contains, append_assoc}
use Rattle.sdg_base.specs.declared.val.Val.{Val}
use Rattle.sdg_base.specs.declared.val.Val.TheVariants as val
use Rattle.sdg_base.specs.declared.val.Outcome.TheVariants as outcome
use Rattle.sdg_base.specs.declared.port.Port.TheVariants as port
use Rattle.sdg_base.specs.declared.item.Item.TheVariants as item
use Rattle.early_forms.specs.declared.straight.Sum.{Sum}
use Rattle.early_forms.specs.declared.straight.Statement.{Statement}
use Rattle.early_forms.specs.declared.straight.Ending.{Ending}
use Rattle.early_forms.specs.Names.{SumIsKnown}
use Rattle.early_forms.specs.Trees.{body_tree}
use Rattle.early_tables.specs.States.{State}
use Rattle.early_source.specs.Variables.{Variables, Tables}
use Rattle.early_source.specs.Blocks.{AtMark, AtEnd, reach}
use Rattle.placement.specs.Slots.{slot}
use Rattle.early_task_code.specs.declared.graph.GraphMethod.{GraphMethod}
use Rattle.early_task_code.specs.declared.graph.Instr.{Instr}
use Rattle.early_task_code.specs.declared.graph.Instr.TheVariants as instr
use Rattle.early_task_code.specs.Machine.{Setting, run, carried, cut_to, sent}
use Rattle.early_cutter.specs.Points.{Point, number_in}
use Rattle.early_cutter.specs.Sums.{long_code}
use Rattle.early_cutter.specs.Liveness.{live_variables}
use Rattle.early_cutter.specs.Cutting.{keyed_task}
use Rattle.early_cutter.specs.Values.{long_value}
use Rattle.early_cutter.specs.Agrees.{StandsAt, first_access, unmarked_code}
use Rattle.early_cutter.proofs.Live.{live_carried}
use Rattle.early_cutter.proofs.SumCode.{long_runs}
use Rattle.early_cutter.proofs.Places.{drop_behind, leads_behind, first_field-unmarked}
use Rattle.early_cutter.proofs.Moves.{Moves-none}
use Rattle.early_cutter.proofs.Steps.{Steps, steps_from}

-- the same place, with the code behind instructions that lead on
pub stands_behind : (fields : List (List ℕ)) (s : Setting) (number : ℕ) (m : GraphMethod) (at : ℕ) (xs ys : List Instr) (scope : List (List ℕ)) (ss : List Statement) (end : Ending) (variables : Variables) (env : List Val)
    → StandsAt fields s.graph number m at (xs ++ ys) scope ss end variables env → StandsAt fields s.graph number m (at + length xs) ys scope ss end variables env
stands_behind fields s number m at xs ys scope ss end variables env stands = record {
  is_method = stands.is_method;
  is_code = drop_behind at m.code xs ys stands.is_code;
  cuts = leads_behind s.graph number (length m.vars) at xs ys stands.cuts;
  known = stands.known;
  new = stands.new;
  matches = stands.matches;
  as_many = stands.as_many;
  room = stands.room;
}

-- the machine's last steps, with the key on the stack
turn_and_cut : (fields : List (List ℕ)) (s : Setting) (number : ℕ) (m : GraphMethod) (at : ℕ) (p : Point) (task : ℕ) (ss : List Statement) (end : Ending) (variables : Variables) (env : List Val)
    (turns : ℕ) (tables : Tables) (state : State) (field : ℕ) (key : ℤ) (name : List ℕ) (written : Sum)
    → StandsAt fields s.graph number m at (unmarked_code fields p ss end) p.scope ss end variables env
    → slice_get s.graph.tasks task ≡ Some (keyed_task number (length m.vars) at (unmarked_code fields p ss end))
    → first_access ss end ≡ Some (name, written) → Contains fields name
    → Steps fields s field key (reach (body_tree ss end) variables turns tables (Some (val.Long (long_value variables written))))
    (run s (instr.Turn ∷ instr.Cut task ∷ unmarked_code fields p ss end) (val.Long (long_value variables written) ∷ []) env turns state) turns tables state
turn_and_cut fields s number m at p task ss end variables env zero tables state field key name written stands is_task is_access contains = record {
  place = AtEnd outcome.Limit;
  after = tables;
  state_after = state;
  source_is = refl;
  gives = record { to = port.Sink; output = item.Done s.call outcome.Limit; gives = refl; of_call = refl; agrees = refl };
  moves = Moves-none field key tables state;
  fewer = omega arith;
}
turn_and_cut fields s number m at p task ss end variables env (suc turns) tables state field key name written stands is_task is_access contains =
    let code = unmarked_code fields p ss end in
    let k = long_value variables written in
    let n = number_in fields name in
    let carries = live_carried code env in
    let live : carried (live_variables (length m.vars) code) env ≡ Some carries.0 = subst (λ count. carried (live_variables count code) env ≡ Some carries.0) stands.as_many carries.1 in
    record {
      place = AtMark (body_tree ss end) variables turns (val.Long k);
      after = tables;
      state_after = state;
      source_is = refl;
      gives = record {
        to = port.Slot n (slot k s.slots);
        output = item.Work s.call task (Some k) turns carries.0;
        gives = ap (λ o. cut_to s task o (val.Long k ∷ []) env turns state) is_task
            ∙ ap (λ f. sent s task turns f k (carried (live_variables (length m.vars) code) env) state) (first_field-unmarked fields p ss end name written is_access)
            ∙ ap (λ vs. sent s task turns (Some n) k vs state) live;
        of_call = refl;
        agrees = record {
          number = number;
          method = m;
          start = at;
          point = p;
          statements = ss;
          end = end;
          env = env;
          name = name;
          written = written;
          stands = stands;
          is_task = is_task;
          carries = live;
          is_rest = refl;
          is_access = is_access;
          is_field = refl;
          in_class = contains;
          is_key = refl;
          is_value = refl;
          is_slot = refl;
          is_turns = refl;
        };
      };
      moves = Moves-none field key tables state;
      fewer = omega arith;
    }

-- the whole of a mark
pub mark_steps : (fields : List (List ℕ)) (s : Setting) (number : ℕ) (m : GraphMethod) (at : ℕ) (p : Point) (task : ℕ) (ss : List Statement) (end : Ending) (variables : Variables) (env : List Val)
    (turns : ℕ) (tables : Tables) (state : State) (field : ℕ) (key : ℤ) (name : List ℕ) (written : Sum)
    → StandsAt fields s.graph number m at ((long_code p.scope written ++ (instr.Turn ∷ instr.Cut task ∷ [])) ++ unmarked_code fields p ss end) p.scope ss end variables env
    → first_access ss end ≡ Some (name, written) → Contains fields name → SumIsKnown p.scope written
    → Steps fields s field key (reach (body_tree ss end) variables turns tables (Some (val.Long (long_value variables written))))
    (run s ((long_code p.scope written ++ (instr.Turn ∷ instr.Cut task ∷ [])) ++ unmarked_code fields p ss end) [] env turns state) turns tables state
mark_steps fields s number m at p task ss end variables env turns tables state field key name written stands is_access contains known =
    let code = unmarked_code fields p ss end in
    let value = long_code p.scope written in
    let mark : List Instr = instr.Turn ∷ instr.Cut task ∷ [] in
    let parted = append_assoc value mark code in
    let whole : StandsAt fields s.graph number m at (value ++ (mark ++ code)) p.scope ss end variables env =
    subst (λ is. StandsAt fields s.graph number m at is p.scope ss end variables env) parted stands in
    let at_mark = stands_behind fields s number m at value (mark ++ code) p.scope ss end variables env whole in
    let behind = stands_behind fields s number m (at + length value) mark code p.scope ss end variables env at_mark in
    let places : at + length value + 1 + 1 ≡ at + length value + 2 = omega arith in
    let is_task : slice_get s.graph.tasks task ≡ Some (keyed_task number (length m.vars) (at + length value + 2) code) =
    at_mark.cuts.1.0 ∙ ap (λ n. Some (keyed_task number (length m.vars) n code)) places in
    let k = val.Long (long_value variables written) in
    steps_from fields s field key (reach (body_tree ss end) variables turns tables (Some k)) (reach (body_tree ss end) variables turns tables (Some k))
    (run s ((value ++ mark) ++ code) [] env turns state) (run s (instr.Turn ∷ instr.Cut task ∷ code) (k ∷ []) env turns state) turns tables tables state state
    refl
    (ap (λ is. run s is [] env turns state) parted ∙ long_runs s p.scope env variables written stands.matches known (mark ++ code) [] turns state)
    (Moves-none field key tables state)
    (turn_and_cut fields s number m (at + length value + 2) p task ss end variables env turns tables state field key name written behind is_task is_access contains)
