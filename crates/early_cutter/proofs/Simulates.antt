-- The graph of a class of the straight form does what the source does, one step at a time.
use Rattle.std.proofs.Common.{◌≡◌, refl, ℕ, ℤ, pos, ◌+◌, ◌-◌, List, [], ◌∷◌, length, replicate, Option, Some, None, slice_get, sym, ap, subst, ◌∙◌, arith, All}
use Rattle.std.specs.List.{zip}
use Rattle.std.proofs.lemmas.List.{length-map}
use Rattle.sdg_base.specs.Limits.{turns_at_start}
use Rattle.sdg_base.specs.declared.val.Val.{Val}
use Rattle.sdg_base.specs.declared.val.Val.TheVariants as val
use Rattle.sdg_base.specs.declared.call.Call.{Call}
use Rattle.sdg_base.specs.declared.port.Port.{Port}
use Rattle.sdg_base.specs.declared.port.Port.TheVariants as port
use Rattle.sdg_base.specs.declared.item.Item.{Item}
use Rattle.sdg_base.specs.declared.item.Item.TheVariants as item
use Rattle.java_tree.specs.declared.tree.BlockItem.{BlockItem}
use Rattle.early_forms.specs.declared.straight.StraightMethod.{StraightMethod}
use Rattle.early_forms.specs.declared.straight.StraightClass.{StraightClass}
use Rattle.early_forms.specs.Names.{IsProper, MethodIsProper, variables}
use Rattle.early_forms.specs.Trees.{class_tree, method_tree, body_tree}
use Rattle.early_tables.specs.Entries.{Entries}
use Rattle.early_tables.specs.Contents.{entry_at}
use Rattle.early_tables.specs.States.{State, Nothing, OfTable}
use Rattle.early_source.specs.Variables.{Variables, Tables}
use Rattle.early_source.specs.Members.{fields, methods, variables_of}
use Rattle.early_source.specs.Blocks.{Stop, run_from, run_block}
use Rattle.early_source.specs.Source.{CallState, Fresh, At, Ended, begun}
use Rattle.agreement.specs.Simulation.{entry_in, field_names, Begins, Continues, Fitting, Simulation}
use Rattle.early_task_code.specs.declared.graph.Task.{Task}
use Rattle.early_task_code.specs.Machine.{Setting, Runs, run, runs, start_method, run_task, run_in_method, first_vars, carried_vars}
use Rattle.early_cutter.specs.Lowering.{first_point, lowered, lowered_method, task_behind, table_field}
use Rattle.early_cutter.specs.Cutting.{cut_tasks, graph_of, keyed_task}
use Rattle.early_plain.specs.Fits.{IsLong, CallFits}
use Rattle.early_cutter.specs.Agrees.{Agrees, WorkAgrees, StandsAt, unmarked_code}
use Rattle.early_cutter.proofs.Live.{run_carried}
use Rattle.early_cutter.proofs.Scopes.{new_from_distinct, distinct_behind}
use Rattle.early_cutter.proofs.Places.{leads_from, are_body, carries_live}
use Rattle.early_cutter.proofs.Moves.{Moves, number_within}
use Rattle.early_cutter.proofs.Steps.{Steps, IsHere, AtSite}
use Rattle.early_cutter.proofs.Bodies.{body_steps, unmarked_steps}
use Rattle.early_cutter.proofs.Graphs.{fields-class_tree, method_at, variables_of-method_tree, all_at, MethodFound, method_found, begins_with, length-vars, length-first_vars}

-- ---- a call begins

abbrev setting_of : StraightClass → ℕ → Option ℕ → ℕ → Option ℤ → Setting
setting_of c slots field call key = record { graph = graph_of c; slots = slots; field = field; call = call; key = key }

-- the place where a call begins
stands_first : (c : StraightClass) (number start : ℕ) (m : StraightMethod) (args : List Val)
    → MethodIsProper c.fields m → slice_get (graph_of c).methods number ≡ Some (lowered_method c.fields start m)
    → ((k : ℕ) (t : Task) → slice_get (cut_tasks number (length (lowered_method c.fields start m).vars) 0 (lowered c.fields start m)) k ≡ Some t → slice_get (graph_of c).tasks (start + 1 + k) ≡ Some t)
    → length args ≡ length m.parameters → All IsLong args
    → StandsAt c.fields (graph_of c) number (lowered_method c.fields start m) 0 (lowered c.fields start m) m.parameters m.statements m.ending (zip m.parameters args) (first_vars (lowered_method c.fields start m) args)
stands_first c number start m args proper is_method tasks as_many longs = record {
  is_method = is_method;
  is_code = refl;
  cuts = leads_from (graph_of c) number (length (lowered_method c.fields start m).vars) 0 (start + 1) (task_behind start m) (lowered c.fields start m) tasks
      (are_body c.fields (first_point start m) m.statements m.ending);
  known = proper.known;
  new = new_from_distinct m.parameters m.statements (distinct_behind c.fields (variables m) proper.distinct);
  matches = begins_with m.parameters args (replicate (length (lowered_method c.fields start m).vars - length args) val.Unit) as_many longs;
  as_many = length-first_vars (lowered_method c.fields start m) args (omega (arith, length-vars c.fields start m));
  room = omega (arith, length-first_vars (lowered_method c.fields start m) args (omega (arith, length-vars c.fields start m)), length-vars c.fields start m);
}

-- Where the cell holds nothing, nothing changes.
begins_from : (c : StraightClass) (slots n : ℕ) (call : Call) (tables : Tables) (source : Stop) (given : Runs)
    → begun (class_tree c) (slice_get (methods (class_tree c)) call.method) call.args tables ≡ source
    → runs (graph_of c) slots port.Front (item.Start n call.method call.args) Nothing ≡ given
    → (steps : Steps c.fields (setting_of c slots None n None) 0 (pos 0) source given turns_at_start tables Nothing)
    → (state : State) → steps.state_after ≡ state → Moves 0 (pos 0) tables Nothing steps.after state
    → Begins (class_tree c) (graph_of c) slots (Agrees c.fields (graph_of c) slots) n call tables
begins_from c slots n call tables source given sources givens steps Nothing is unmoved = record {
  place = steps.place;
  source = sources ∙ steps.source_is ∙ ap (λ after. Some (steps.place, after)) unmoved;
  gives = record {
    to = steps.gives.to;
    output = steps.gives.output;
    gives = givens ∙ steps.gives.gives ∙ ap (λ state. Some (record { outputs = (steps.gives.to, steps.gives.output) ∷ []; state = state })) is;
    of_call = steps.gives.of_call;
    agrees = steps.gives.agrees;
  };
  fewer = (let f = steps.fewer in omega arith);
}
begins_from c slots n call tables source given sources givens steps (OfTable entries) is moved = absurd moved

begins : (c : StraightClass) (slots n : ℕ) (call : Call) (tables : Tables) → IsProper c → CallFits c call
    → Begins (class_tree c) (graph_of c) slots (Agrees c.fields (graph_of c) slots) n call tables
begins c slots n call tables proper fits =
    let m = fits.method in
    let found : MethodFound c.fields 0 0 c.methods call.method m = method_found c.fields 0 0 c.methods call.method m fits.is_method in
    let start = 0 + found.further in
    let g = lowered_method c.fields start m in
    let method_proper = all_at (MethodIsProper c.fields) c.methods call.method m proper.methods fits.is_method in
    let s = setting_of c slots None n None in
    let scope = zip m.parameters call.args in
    let env = first_vars g call.args in
    let code = lowered c.fields start m in
    let numbers : 0 + call.method ≡ call.method = omega arith in
    let stands = stands_first c call.method start m call.args method_proper found.is_method
    (λ k t there. (let places : start + 1 + k ≡ found.further + 1 + k = omega arith in
    ap (slice_get (graph_of c).tasks) places
    ∙ found.tasks k t (subst (λ x. slice_get (cut_tasks x (length g.vars) 0 code) k ≡ Some t) (sym numbers) there)))
    fits.as_many fits.longs in
    let steps = body_steps c.fields m.statements m.ending s call.method g 0 (first_point start m) scope env turns_at_start tables Nothing 0 (pos 0) stands tt in
    begins_from c slots n call tables (run_from c.fields (body_tree m.statements m.ending) None scope turns_at_start tables) (run s code [] env turns_at_start Nothing)
    (ap (λ o. begun (class_tree c) o call.args tables) (method_at c call.method m fits.is_method)
    ∙ ap (λ names. run_from names (body_tree m.statements m.ending) None (variables_of (method_tree m) call.args) turns_at_start tables) (fields-class_tree c)
    ∙ ap (λ vs. run_from c.fields (body_tree m.statements m.ending) None vs turns_at_start tables) (variables_of-method_tree m call.args))
    (ap (start_method s call.args Nothing) found.is_method)
    steps steps.state_after refl steps.moves

-- ---- a call goes on

continues_from : (c : StraightClass) (slots field at n t : ℕ) (key : ℤ) (turns : ℕ) (vars : List Val) (rest : List BlockItem) (variables : Variables) (turns' : ℕ) (carried : Val) (tables : Tables) (entries : Entries)
    (source : Stop) (given : Runs)
    → run_block (fields (class_tree c)) rest variables turns' carried tables ≡ source
    → runs (graph_of c) slots (port.Slot field at) (item.Work n t (Some key) turns vars) (OfTable entries) ≡ given
    → entry_at key entries ≡ entry_in tables field key
    → (steps : Steps c.fields (setting_of c slots (Some field) n (Some key)) field key source given turns' tables (OfTable entries))
    → (state : State) → steps.state_after ≡ state → Moves field key tables (OfTable entries) steps.after state
    → Continues (class_tree c) (graph_of c) slots (Agrees c.fields (graph_of c) slots) field at key (item.Work n t (Some key) turns vars) rest variables turns' carried tables entries
continues_from c slots field at n t key turns vars rest variables turns' carried tables entries source given sources givens agree steps Nothing is moved = absurd moved
continues_from c slots field at n t key turns vars rest variables turns' carried tables entries source given sources givens agree steps (OfTable entries_after) is moved = record {
  place = steps.place;
  after = steps.after;
  entries_after = entries_after;
  source = sources ∙ steps.source_is;
  gives = record {
    to = steps.gives.to;
    output = steps.gives.output;
    gives = givens ∙ steps.gives.gives ∙ ap (λ state. Some (record { outputs = (steps.gives.to, steps.gives.output) ∷ []; state = state })) is;
    of_call = steps.gives.of_call;
    agrees = steps.gives.agrees;
  };
  same = moved.same agree;
  other_entries = moved.others;
  other_tables = moved.tables_move;
  fewer = (let f = steps.fewer in omega arith);
}

continues : (c : StraightClass) (slots field at n t : ℕ) (key : ℤ) (turns : ℕ) (vars : List Val) (rest : List BlockItem) (variables : Variables) (turns' : ℕ) (carried : Val) (tables : Tables) (entries : Entries)
    → WorkAgrees c.fields (graph_of c) slots field at t key turns vars rest variables turns' carried
    → field_names tables ≡ fields (class_tree c)
    → entry_at key entries ≡ entry_in tables field key
    → Continues (class_tree c) (graph_of c) slots (Agrees c.fields (graph_of c) slots) field at key (item.Work n t (Some key) turns vars) rest variables turns' carried tables entries
continues c slots field at n t key turns vars rest variables turns' carried tables entries w names agree =
    let s = setting_of c slots (Some field) n (Some key) in
    let code = unmarked_code c.fields w.point w.statements w.end in
    let task = keyed_task w.number (length w.method.vars) w.start code in
    let state = OfTable entries in
    let here : IsHere c.fields s w.name field key tables state =
    record { own = refl; carries = refl; is_field = w.is_field; names = names ∙ fields-class_tree c; entries = entries; is_state = refl; agree = agree } in
    let site : AtSite c.fields s w.name w.written variables field key tables state = record { here = here; value = sym w.is_key } in
    let steps = unmarked_steps c.fields w.statements w.end s w.number w.method w.start w.point variables w.env turns' tables state field key w.name w.written w.stands w.is_access site in
    continues_from c slots field at n t key turns vars rest variables turns' carried tables entries
    (run_block c.fields (body_tree w.statements w.end) variables turns' (val.Long key) tables) (run s code [] w.env turns' state)
    (ap (λ fs. run_block fs rest variables turns' carried tables) (fields-class_tree c)
    ∙ ap (λ trees. run_block c.fields trees variables turns' carried tables) w.is_rest
    ∙ ap (λ v. run_block c.fields (body_tree w.statements w.end) variables turns' v tables) w.is_value)
    (ap (run_task s turns vars state) w.is_task
    ∙ ap (run_in_method s task turns vars state) w.stands.is_method
    ∙ ap (λ is. run s is [] (carried_vars w.method task vars) turns state) w.stands.is_code
    ∙ run_carried s code (length w.method.vars) w.env vars (carries_live (graph_of c) w.number (length w.method.vars) w.start code w.stands.cuts) w.stands.as_many w.carries turns state
    ∙ ap (λ left. run s code [] w.env left state) w.is_turns)
    agree steps steps.state_after refl steps.moves

-- ---- which items fit

fitting : (c : StraightClass) (slots : ℕ) (to : Port) (x : Item) (state : CallState) → Agrees c.fields (graph_of c) slots to x state → Fitting (class_tree c) slots to x state
fitting c slots port.Front (item.Start n method args) Fresh agrees = tt
fitting c slots (port.Slot field at) (item.Work n t (Some key) turns vars) (At rest variables turns' carried) agrees =
    let within = number_within agrees.name c.fields agrees.in_class in
    let e = agrees.is_field in
    (omega (arith, ap length (fields-class_tree c)), agrees.is_slot)
fitting c slots port.Sink (item.Done n outcome) (Ended outcome') agrees = agrees
fitting c slots _ _ _ agrees = absurd agrees

-- For calls that fit, whatever the number of slots.
pub simulates : (c : StraightClass) (slots : ℕ) → IsProper c → Simulation (class_tree c) (graph_of c) slots (CallFits c) (Agrees c.fields (graph_of c) slots)
simulates c slots proper = record {
  as_many = length-map c.fields table_field ∙ sym (ap length (fields-class_tree c));
  fitting = fitting c slots;
  fresh = λ n call fits. tt;
  begins = λ n call tables fits. begins c slots n call tables proper fits;
  continues = λ field at n t key turns vars rest variables turns' carried tables entries agrees names agree.
      continues c slots field at n t key turns vars rest variables turns' carried tables entries agrees names agree;
}
