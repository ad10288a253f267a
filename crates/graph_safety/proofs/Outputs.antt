-- What a task gives at its end fits its receiver.
use Rattle.std.proofs.Common.{◌≡◌, ◌≢◌, refl, sym, ap, subst, ◌∙◌, ℕ, ℤ, ◌<◌, ◌≤◌, arith, ◌%◌, mod-lt, Bool, true, false, cond, ◌&&◌, List, [], ◌∷◌, map, drop, Option, Some, None, slice_get}
use Rattle.std.proofs.lemmas.Bool.{eq-eqb}
use Rattle.sdg_base.specs.Limits.{turns_at_start}
use Rattle.sdg_base.specs.declared.val.Val.{Val}
use Rattle.sdg_base.specs.declared.val.Val.TheVariants as val
use Rattle.sdg_base.specs.declared.val.Outcome.{Outcome}
use Rattle.sdg_base.specs.declared.val.Outcome.TheVariants as outcome
use Rattle.sdg_base.specs.declared.value_type.ValueType.{ValueType}
use Rattle.sdg_base.specs.declared.value_type.ValueType.TheVariants as type
use Rattle.sdg_base.specs.declared.port.Port.{Port}
use Rattle.sdg_base.specs.declared.port.Port.TheVariants as port
use Rattle.sdg_base.specs.declared.item.Item.{Item}
use Rattle.sdg_base.specs.declared.item.Item.TheVariants as item
use Rattle.sdg_base.specs.Types.{type_of}
use Rattle.state_classes.specs.States.{State, class_of}
use Rattle.placement.specs.Slots.{slot}
use Rattle.flat_code.specs.declared.graph.FieldKind.TheVariants as field_kind
use Rattle.flat_code.specs.declared.graph.GraphMethod.{GraphMethod}
use Rattle.flat_code.specs.declared.graph.Graph.{Graph}
use Rattle.flat_code.specs.declared.graph.Task.{Task}
use Rattle.flat_code.specs.declared.graph.TaskKind.{TaskKind}
use Rattle.flat_code.specs.declared.graph.TaskKind.TheVariants as kind
use Rattle.flat_code.specs.declared.graph.Instr.{Instr}
use Rattle.flat_code.specs.declared.graph.Instr.TheVariants as instr
use Rattle.flat_code.specs.Types.{result_by, same_types}
use Rattle.flat_code.specs.Machine.{Frame, Ending, Returned, Stopped, CutTo, PartFor, Ran, calls_of, part_value}
use Rattle.flat_code.specs.Items.{Send, Broadcast, Part, Gives, Visited, Sender, sender, carried, field_number, width_of, sent_for, sent, part_of, parted, first_part, join_of, method_of, join_number, part_for_join, stopped, ended, after_run, done}
use Rattle.flat_code.specs.Ways.{IsIn, IsNeeded, NeededHere, variables_of}
use Rattle.flat_code.specs.Fits.{is_type, brought, is_brought, brings, is_instance, takes, takes_at, is_field, is_key_of, no_key, fits}
use Rattle.flat_code.specs.Verified.{IsVerified, IsTask, HasCode, IsCutKind, IsPartKind, HasPart, IsOfTask, StandsAfter, StandsRight, Stack, on_top, types_after, cut_type, cut_to_kind, part_type, only_type}
use Rattle.graph_safety.specs.Safe.{AreWidths, call_of, turns_of, method_for, IsNoVisit, IsForJoin, HasType, result_of, OutputFits}
use Rattle.graph_safety.proofs.Values.{is_same, same_are}
use Rattle.graph_safety.proofs.Lists.{none_some, some_is, and_true}
use Rattle.graph_safety.proofs.Frames.{Holds, HasNoValue, IsReturn}
use Rattle.graph_safety.proofs.Carried.{Carries, carries, ones_at}
use Rattle.graph_safety.proofs.Runs.{FrameFits, EndsRight, RunsRight}
use Rattle.graph_safety.proofs.Items.{taken, is_of_field, numbered, width_is, slot_within, instance_is}
use Rattle.graph_safety.proofs.Tasks.{TaskFits, reaches_code, of_task, on}

-- the visit that a task runs for is this one, or none
pub record IsVisitOf (graph : Graph) (at : Port) (from : Item) (k : ℕ) (t : Task) (turns : ℕ) (visit : Visited) : Type 0 where
  pub of_kind : t.kind ≡ kind.Visit
  pub of_task : visit.task ≡ k
  pub instance : is_instance visit.width visit.instance ≡ true
  pub for_join : (join left : ℕ) (ws : List Val) (how : Outcome) → join_number graph k ≡ Some join → left ≤ turns
      → IsForJoin graph at from (item.Part (call_of from) join visit.width visit.instance left ws how)

abbrev pub IsFor : Graph → Port → Item → ℕ → Task → ℕ → Option Visited → Type 0
IsFor graph at from k t turns None = IsNoVisit from × (t.kind ≢ kind.Visit)
IsFor graph at from k t turns (Some visit) = IsVisitOf graph at from k t turns visit

-- an item starts a task
pub record Starts (graph : Graph) (at : Port) (from : Item) (parts : List Item) (k : ℕ) (t : Task) (m : GraphMethod) (turns call : ℕ) (visited : Option Visited) : Type 0 where
  pub of_call : call_of from ≡ call
  pub with_turns : turns_of from parts ≡ turns
  pub runs_method : method_for graph from ≡ Some m
  pub for : IsFor graph at from k t turns visited

abbrev pub GivesRight : Graph → List ℕ → Port → Item → List Item → State → Gives → Type 0
GivesRight graph widths at from parts state None = ⊥
GivesRight graph widths at from parts state (Some given) = OutputFits graph widths at from parts given.output × (class_of given.state ≡ class_of state)

-- ---- stacks at cuts and parts

keyed_cut : (stack : List Val) (after : Stack) → cut_to_kind kind.Keyed (map type_of stack) ≡ Some after → (key : ℤ) × (stack ≡ val.Long key ∷ [])
keyed_cut (val.Long key ∷ []) after e = (key, refl)
keyed_cut _ after e = absurd (none_some after e)

local_cut : (stack : List Val) (after : Stack) → cut_to_kind kind.Local (map type_of stack) ≡ Some after → stack ≡ []
local_cut [] after e = refl
local_cut (x ∷ xs) after e = absurd (none_some after e)

visit_cut : (stack : List Val) (after : Stack) → cut_to_kind kind.Visit (map type_of stack) ≡ Some after → stack ≡ []
visit_cut [] after e = refl
visit_cut (x ∷ xs) after e = absurd (none_some after e)

part_has : (t : ValueType) (stack : List Val) → map type_of stack ≡ on_top t [] → type_of (part_value stack) ≡ t
part_has type.Void [] e = refl
part_has type.Void (x ∷ xs) e = absurd (cc)
part_has _ [] e = absurd (cc)
part_has _ (x ∷ xs) e = cc

pub no_value_has : (t : Option ValueType) (how : Outcome) → HasNoValue how → HasType t how
no_value_has t (outcome.Value v) h = absurd h
no_value_has t (outcome.Throws e) h = tt
no_value_has t outcome.Limit h = tt

no_value_brought : (t : Option ValueType) (how : Outcome) → HasNoValue how → is_brought t how ≡ true
no_value_brought t (outcome.Value v) h = absurd h
no_value_brought t (outcome.Throws e) h = refl
no_value_brought t outcome.Limit h = refl

no_return_of_visit : (graph : Graph) (t : Task) (i : Instr) → IsReturn i → IsOfTask graph t i → t.kind ≢ kind.Visit
no_return_of_visit graph t instr.Return r h = h
no_return_of_visit graph t instr.ReturnVoid r h = h
no_return_of_visit graph t _ r h = absurd r

part_kind : (j : TaskKind) → IsPartKind j → j ≡ kind.Join
part_kind kind.Join h = refl
part_kind _ h = absurd h

-- ---- which items fit

fits_join : (graph : Graph) (widths : List ℕ) (call join width instance turns : ℕ) (vs : List Val) (how : Outcome)
    → takes graph kind.Join (slice_get graph.tasks join) turns vs ≡ true → is_instance width instance ≡ true → brings graph (slice_get graph.tasks join) how ≡ true
    → fits graph widths port.Join (item.Part call join width instance turns vs how) ≡ true
unfolding fits
fits_join graph widths call join width instance turns vs how a b c =
    and_true (takes graph kind.Join (slice_get graph.tasks join) turns vs && is_instance width instance) (brings graph (slice_get graph.tasks join) how)
    (and_true (takes graph kind.Join (slice_get graph.tasks join) turns vs) (is_instance width instance) a b) c

fits_slot : (graph : Graph) (widths : List ℕ) (f call c turns : ℕ) (key : ℤ) (vs : List Val)
    → is_field graph (slice_get graph.tasks c) f ≡ true → takes graph kind.Keyed (slice_get graph.tasks c) turns vs ≡ true
    → fits graph widths (port.Slot f (slot key (width_of widths f))) (item.Work call c (Some key) turns vs) ≡ true
unfolding fits
fits_slot graph widths f call c turns key vs a b =
    and_true (takes_at graph kind.Keyed f (slice_get graph.tasks c) turns vs) (is_key_of (slot key (width_of widths f)) (width_of widths f) (Some key))
    (and_true (is_field graph (slice_get graph.tasks c) f) (takes graph kind.Keyed (slice_get graph.tasks c) turns vs) a b)
    (eq-eqb (slot key (width_of widths f)) (slot key (width_of widths f)) refl)

fits_instance : (graph : Graph) (widths : List ℕ) (f n call c turns : ℕ) (vs : List Val)
    → is_field graph (slice_get graph.tasks c) f ≡ true → takes graph kind.Local (slice_get graph.tasks c) turns vs ≡ true
    → fits graph widths (port.Inst f n) (item.Work call c None turns vs) ≡ true
unfolding fits
fits_instance graph widths f n call c turns vs a b =
    and_true (takes_at graph kind.Local f (slice_get graph.tasks c) turns vs) (no_key None)
    (and_true (is_field graph (slice_get graph.tasks c) f) (takes graph kind.Local (slice_get graph.tasks c) turns vs) a b) refl

fits_visit : (graph : Graph) (widths : List ℕ) (f n call c width turns : ℕ) (vs : List Val)
    → is_field graph (slice_get graph.tasks c) f ≡ true → takes graph kind.Visit (slice_get graph.tasks c) turns vs ≡ true → is_instance width n ≡ true
    → fits graph widths (port.Inst f n) (item.Visit call c width turns vs) ≡ true
unfolding fits
fits_visit graph widths f n call c width turns vs a b i =
    and_true (takes_at graph kind.Visit f (slice_get graph.tasks c) turns vs) (is_instance width n)
    (and_true (is_field graph (slice_get graph.tasks c) f) (takes graph kind.Visit (slice_get graph.tasks c) turns vs) a b) i

-- ---- what is sent, by the kind of the task

keyed_sent : (s : Sender) (c f turns : ℕ) (key : ℤ) (vs : List Val) (state : State) (j : TaskKind) (n : Option ℕ) (stack : List Val) (o : Option (List Val))
    → j ≡ kind.Keyed → n ≡ Some f → stack ≡ val.Long key ∷ [] → o ≡ Some vs
    → sent_for s c j n stack turns o state ≡ Some (record { output = Send (port.Slot f (slot key (width_of s.widths f))) (item.Work s.call c (Some key) turns vs); state = state })
keyed_sent s c f turns key vs state j n stack o e h i l =
    ap (λ x. sent_for s c x n stack turns o state) e ∙ ap (λ x. sent_for s c kind.Keyed x stack turns o state) h
    ∙ ap (λ x. sent_for s c kind.Keyed (Some f) x turns o state) i ∙ ap (λ x. sent_for s c kind.Keyed (Some f) (val.Long key ∷ []) turns x state) l

local_sent : (s : Sender) (c f turns : ℕ) (vs : List Val) (state : State) (j : TaskKind) (n : Option ℕ) (stack : List Val) (o : Option (List Val))
    → j ≡ kind.Local → n ≡ Some f → stack ≡ [] → o ≡ Some vs
    → sent_for s c j n stack turns o state ≡ Some (record { output = Send (port.Inst f (s.pick % width_of s.widths f)) (item.Work s.call c None turns vs); state = state })
local_sent s c f turns vs state j n stack o e h i l =
    ap (λ x. sent_for s c x n stack turns o state) e ∙ ap (λ x. sent_for s c kind.Local x stack turns o state) h
    ∙ ap (λ x. sent_for s c kind.Local (Some f) x turns o state) i ∙ ap (λ x. sent_for s c kind.Local (Some f) [] turns x state) l

visit_sent : (s : Sender) (c f turns : ℕ) (vs : List Val) (state : State) (j : TaskKind) (n : Option ℕ) (stack : List Val) (o : Option (List Val))
    → j ≡ kind.Visit → n ≡ Some f → stack ≡ [] → o ≡ Some vs
    → sent_for s c j n stack turns o state ≡ Some (record { output = Broadcast f (width_of s.widths f) (item.Visit s.call c (width_of s.widths f) turns vs); state = state })
visit_sent s c f turns vs state j n stack o e h i l =
    ap (λ x. sent_for s c x n stack turns o state) e ∙ ap (λ x. sent_for s c kind.Visit x stack turns o state) h
    ∙ ap (λ x. sent_for s c kind.Visit (Some f) x turns o state) i ∙ ap (λ x. sent_for s c kind.Visit (Some f) [] turns x state) l

module _ (graph : Graph) (verified : IsVerified graph) (widths : List ℕ) (are : AreWidths graph widths) (at : Port) (from : Item) (parts : List Item)
    (k : ℕ) (t : Task) (m : GraphMethod) (key : Option ℤ) (gathered variables : List Val) (turns : ℕ) (task : TaskFits graph k t m key gathered variables turns)
    (pick call : ℕ) (visited : Option Visited) (source : Starts graph at from parts k t m turns call visited) where
  abbrev sends : Sender
  sends = sender graph widths pick call visited

  abbrev Fits : Frame → Type 0
  Fits f = FrameFits graph verified t.method m (calls_of graph.fields graph.methods) t.field key gathered t.at turns t.vars (on graph verified k t m key gathered variables turns task) f

  -- ---- a result

  result_right : (how : Outcome) (state other : State) → class_of other ≡ class_of state → IsNoVisit from → HasType (Some (result_by m.result)) how → GivesRight graph widths at from parts state (done sends how other)
  result_right how state other class no_visit has =
      (record { no_visit = no_visit; done = (sym source.of_call, subst (λ (o : Option GraphMethod). HasType (result_of o) how) (sym source.runs_method) has) }, class)

  -- ---- a part

  join_is : (has : HasPart graph t) → join_number graph k ≡ Some has.join
  join_is has =
      let same : has.of ≡ m = some_is has.of m (sym has.is_method ∙ task.is_method) in
      ap (λ (o : Option Task). join_of graph (method_of graph o) o) task.is_task
      ∙ ap (λ (o : Option GraphMethod). join_of graph o (Some t)) task.is_method
      ∙ subst (λ (o : GraphMethod). first_part (drop t.at o.code) ≡ Some has.join) same has.first

  part_code : (has : HasPart graph t) → slice_get m.code has.at ≡ Some (instr.Part has.join)
  part_code has =
      let same : has.reached.of ≡ m = some_is has.reached.of m (sym has.reached.is_method ∙ task.is_method) in
      subst (λ (o : GraphMethod). slice_get o.code has.at ≡ Some (instr.Part has.join)) same has.reached.is_code

  visit_part : (visit : Visited) → IsVisitOf graph at from k t turns visit → (has : HasPart graph t) (f : Frame) (how : Outcome) (state other : State) → class_of other ≡ class_of state
      → ((v : ℕ) → IsIn v t.vars → Holds m gathered f.variables v) → f.turns ≤ turns → ((u : Task) → IsTask graph has.join u → is_brought (brought graph u) how ≡ true)
      → GivesRight graph widths at from parts state (parted sends (Some visit) has.join (slice_get graph.tasks has.join) f how other)
  visit_part visit for has f how state other class holds less brings_it =
      let named = verified.numbers t.method m has.at (instr.Part has.join) task.is_method (part_code has) in
      let u = named.of in
      let right = verified.tasks has.join u named.is_task in
      let joins : u.kind ≡ kind.Join = part_kind u.kind named.is_kind in
      let stands = (subst (λ (j : TaskKind). StandsRight graph has.join right.of u j) joins right.stands).0 in
      let code : HasCode graph t.method has.at (instr.Part has.join) = record { of = m; is_method = task.is_method; is_code = part_code has } in
      let same : t.method ≡ u.method = (stands.only t.method has.at code).0 in
      let is_method : slice_get graph.methods u.method ≡ Some m = subst (λ (n : ℕ). slice_get graph.methods n ≡ Some m) same task.is_method in
      let brought_on = carries m gathered u.vars f.variables
      (λ v h. holds v (verified.joins k has.join has.at t u v task.is_task has.reached named.is_task h))
      (λ v h. task.one v (verified.joins k has.join has.at t u v task.is_task has.reached named.is_task h)) in
      let few = task.few in
      let still : f.turns ≤ turns_at_start = omega arith in
      let path : parted sends (Some visit) has.join (slice_get graph.tasks has.join) f how other
      ≡ Some (record { output = Part (item.Part call has.join visit.width visit.instance f.turns brought_on.values how); state = other }) =
      ap (λ (o : Option Task). parted sends (Some visit) has.join o f how other) named.is_task
      ∙ ap (λ (o : Option (List Val)). part_of sends visit has.join f.turns o how other) brought_on.is in
      subst (λ (g : Gives). GivesRight graph widths at from parts state g) (sym path) (
        record {
          for_join = subst (λ (c : ℕ). IsForJoin graph at from (item.Part c has.join visit.width visit.instance f.turns brought_on.values how)) source.of_call
              (for.for_join has.join f.turns brought_on.values how (join_is has) less);
          takes = fits_join graph widths call has.join visit.width visit.instance f.turns brought_on.values how
              (taken graph kind.Join (slice_get graph.tasks has.join) u f.turns brought_on.values m named.is_task joins still is_method brought_on.typed)
              for.instance
              (ap (λ (o : Option Task). brings graph o how) named.is_task ∙ brings_it u named.is_task);
        },
        class,
      )

  -- ---- a task that a cut names

  pub record CutTask (f : Frame) (c : ℕ) : Type 0 where
    pub to : Task
    pub is_task : IsTask graph c to
    pub cuts : IsCutKind to.kind
    pub after : Stack
    pub types : cut_to_kind to.kind (map type_of f.stack) ≡ Some after
    pub of : GraphMethod
    pub stands : StandsRight graph c of to to.kind
    pub values : Carries m to.vars f.variables
    pub fewer : f.turns < turns

  cut_task : (f : Frame) (c : ℕ) → Fits f → slice_get m.code f.at ≡ Some (instr.Cut c) → CutTask f c
  cut_task f c fits is_code =
      let named = verified.numbers t.method m f.at (instr.Cut c) task.is_method is_code in
      let right = verified.tasks c named.of named.is_task in
      let typed = (verified.types t.method m task.is_method).typed f.at (map type_of f.stack) fits.stacked in
      let same : typed.i ≡ instr.Cut c = some_is typed.i (instr.Cut c) (sym typed.is_code ∙ is_code) in
      let takes_cut : types_after graph m (instr.Cut c) (map type_of f.stack) ≡ Some typed.after = subst (λ (i : Instr). types_after graph m i (map type_of f.stack) ≡ Some typed.after) same typed.takes in
      let code : HasCode graph t.method f.at (instr.Cut c) = record { of = m; is_method = task.is_method; is_code = is_code } in
      let needs_it : (v : ℕ) → IsIn v named.of.vars → IsNeeded graph.tasks m.code v f.at =
      λ v h. NeededHere f.at (instr.Cut c) is_code (subst (λ (o : Option Task). IsIn v (variables_of o)) (sym named.is_task) h) in
      record {
        to = named.of;
        is_task = named.is_task;
        cuts = named.is_kind;
        after = typed.after;
        types = ap (λ (o : Option Task). cut_type o (map type_of f.stack)) (sym named.is_task) ∙ takes_cut;
        of = right.of;
        stands = right.stands;
        values = carries m gathered named.of.vars f.variables (λ v h. fits.needed v (needs_it v h))
            (λ v h. (ones_at graph verified k t m task.is_task task.is_method task.one f.at fits.reached).one v (needs_it v h));
        fewer = fits.spent (verified.spends t.method f.at (instr.Cut c) code tt);
      }

  code_of : (f : Frame) (c : ℕ) → slice_get m.code f.at ≡ Some (instr.Cut c) → HasCode graph t.method f.at (instr.Cut c)
  code_of f c is_code = record { of = m; is_method = task.is_method; is_code = is_code }

  -- the method of the task that is named is the one that runs
  method_there : (f : Frame) (c : ℕ) (to : Task) → slice_get m.code f.at ≡ Some (instr.Cut c) → StandsAfter graph to (instr.Cut c) → slice_get graph.methods to.method ≡ Some m
  method_there f c to is_code stands =
      subst (λ (n : ℕ). slice_get graph.methods n ≡ Some m) (stands.only t.method f.at (code_of f c is_code)).0 task.is_method

  taken_there : (f : Frame) (c : ℕ) (cut : CutTask f c) (j : TaskKind) → slice_get m.code f.at ≡ Some (instr.Cut c) → cut.to.kind ≡ j → StandsAfter graph cut.to (instr.Cut c)
      → takes graph j (slice_get graph.tasks c) f.turns cut.values.values ≡ true
  taken_there f c cut j is_code is_kind stands =
      let few = task.few in
      let fewer = cut.fewer in
      let still : f.turns ≤ turns_at_start = omega arith in
      taken graph j (slice_get graph.tasks c) cut.to f.turns cut.values.values m cut.is_task is_kind still (method_there f c cut.to is_code stands) cut.values.typed

  fewer_of : (f : Frame) (c : ℕ) → CutTask f c → f.turns < turns_of from parts
  fewer_of f c cut = subst (λ (n : ℕ). f.turns < n) (sym source.with_turns) cut.fewer

  keyed_right : (f : Frame) (c : ℕ) (cut : CutTask f c) (state other : State) → slice_get m.code f.at ≡ Some (instr.Cut c) → IsNoVisit from → class_of other ≡ class_of state → cut.to.kind ≡ kind.Keyed
      → GivesRight graph widths at from parts state (sent sends c (slice_get graph.tasks c) f other)
  keyed_right f c cut state other is_code no_visit class is_kind =
      let stands = subst (λ (j : TaskKind). StandsRight graph c cut.of cut.to j) is_kind cut.stands in
      let top = keyed_cut f.stack cut.after (subst (λ (j : TaskKind). cut_to_kind j (map type_of f.stack) ≡ Some cut.after) is_kind cut.types) in
      let number = numbered graph cut.to.field field_kind.Partitioned stands.1 in
      let wide = width_is graph widths number.number field_kind.Partitioned are number.of_field in
      let path = ap (λ (o : Option Task). sent sends c o f other) cut.is_task
      ∙ keyed_sent sends c number.number f.turns top.0 cut.values.values other cut.to.kind (field_number graph cut.to.field) f.stack (carried cut.to.vars f.variables) is_kind number.is top.1 cut.values.is in
      subst (λ (g : Gives). GivesRight graph widths at from parts state g) (sym path) (
        record {
          no_visit = no_visit;
          cell = (number.of_field, slot_within top.0 (width_of widths number.number) wide.0);
          takes = fits_slot graph widths number.number call c f.turns top.0 cut.values.values (is_of_field graph (slice_get graph.tasks c) cut.to number.number cut.is_task number.is) (taken_there f c cut kind.Keyed is_code is_kind stands.0);
          same_call = sym source.of_call;
          fewer = fewer_of f c cut;
        },
        class,
      )

  local_right : (f : Frame) (c : ℕ) (cut : CutTask f c) (state other : State) → slice_get m.code f.at ≡ Some (instr.Cut c) → IsNoVisit from → class_of other ≡ class_of state → cut.to.kind ≡ kind.Local
      → GivesRight graph widths at from parts state (sent sends c (slice_get graph.tasks c) f other)
  local_right f c cut state other is_code no_visit class is_kind =
      let stands = subst (λ (j : TaskKind). StandsRight graph c cut.of cut.to j) is_kind cut.stands in
      let top = local_cut f.stack cut.after (subst (λ (j : TaskKind). cut_to_kind j (map type_of f.stack) ≡ Some cut.after) is_kind cut.types) in
      let number = numbered graph cut.to.field field_kind.Partial stands.1 in
      let wide = width_is graph widths number.number field_kind.Partial are number.of_field in
      let path = ap (λ (o : Option Task). sent sends c o f other) cut.is_task
      ∙ local_sent sends c number.number f.turns cut.values.values other cut.to.kind (field_number graph cut.to.field) f.stack (carried cut.to.vars f.variables) is_kind number.is top cut.values.is in
      subst (λ (g : Gives). GivesRight graph widths at from parts state g) (sym path) (
        record {
          no_visit = no_visit;
          cell = (number.of_field, mod-lt pick wide.0);
          takes = fits_instance graph widths number.number (pick % width_of widths number.number) call c f.turns cut.values.values (is_of_field graph (slice_get graph.tasks c) cut.to number.number cut.is_task number.is) (taken_there f c cut kind.Local is_code is_kind stands.0);
          same_call = sym source.of_call;
          fewer = fewer_of f c cut;
        },
        class,
      )

  visit_right : (f : Frame) (c : ℕ) (cut : CutTask f c) (state other : State) → slice_get m.code f.at ≡ Some (instr.Cut c) → IsNoVisit from → class_of other ≡ class_of state → cut.to.kind ≡ kind.Visit
      → GivesRight graph widths at from parts state (sent sends c (slice_get graph.tasks c) f other)
  visit_right f c cut state other is_code no_visit class is_kind =
      let stands = subst (λ (j : TaskKind). StandsRight graph c cut.of cut.to j) is_kind cut.stands in
      let top = visit_cut f.stack cut.after (subst (λ (j : TaskKind). cut_to_kind j (map type_of f.stack) ≡ Some cut.after) is_kind cut.types) in
      let number = numbered graph cut.to.field field_kind.Partial stands.1 in
      let wide = width_is graph widths number.number field_kind.Partial are number.of_field in
      let path = ap (λ (o : Option Task). sent sends c o f other) cut.is_task
      ∙ visit_sent sends c number.number f.turns cut.values.values other cut.to.kind (field_number graph cut.to.field) f.stack (carried cut.to.vars f.variables) is_kind number.is top cut.values.is in
      subst (λ (g : Gives). GivesRight graph widths at from parts state g) (sym path) (
        record {
          no_visit = no_visit;
          of_field = number.of_field;
          as_wide = refl;
          wide = refl;
          takes = λ n within. fits_visit graph widths number.number n call c (width_of widths number.number) f.turns cut.values.values (is_of_field graph (slice_get graph.tasks c) cut.to number.number cut.is_task number.is) (taken_there f c cut kind.Visit is_code is_kind stands.0)
              (instance_is (width_of widths number.number) n within wide.1);
          same_call = sym source.of_call;
          fewer = fewer_of f c cut;
        },
        class,
      )

  cut_right : (f : Frame) (c : ℕ) (state other : State) → Fits f → slice_get m.code f.at ≡ Some (instr.Cut c) → IsNoVisit from → class_of other ≡ class_of state
      → GivesRight graph widths at from parts state (sent sends c (slice_get graph.tasks c) f other)
  cut_right f c state other stands is_code no_visit class = by (cut_task f c stands is_code).to.kind refl (cut_task f c stands is_code).cuts
    where
      by : (j : TaskKind) → (cut_task f c stands is_code).to.kind ≡ j → IsCutKind j → GivesRight graph widths at from parts state (sent sends c (slice_get graph.tasks c) f other)
      by kind.Keyed e h = keyed_right f c (cut_task f c stands is_code) state other is_code no_visit class e
      by kind.Local e h = local_right f c (cut_task f c stands is_code) state other is_code no_visit class e
      by kind.Visit e h = visit_right f c (cut_task f c stands is_code) state other is_code no_visit class e
      by _ e h = absurd h

  -- ---- any end

  what_part_brings : (f : Frame) (join : ℕ) (v : Val) (u : Task) → Fits f → slice_get m.code f.at ≡ Some (instr.Part join) → v ≡ part_value f.stack → IsTask graph join u → is_brought (brought graph u) (outcome.Value v) ≡ true
  what_part_brings f join v u stands is_code value is_task =
      let typed = (verified.types t.method m task.is_method).typed f.at (map type_of f.stack) stands.stacked in
      let same : typed.i ≡ instr.Part join = some_is typed.i (instr.Part join) (sym typed.is_code ∙ is_code) in
      let takes_part : types_after graph m (instr.Part join) (map type_of f.stack) ≡ Some typed.after = subst (λ (i : Instr). types_after graph m i (map type_of f.stack) ≡ Some typed.after) same typed.takes in
      let types : only_type (brought graph u) (map type_of f.stack) ≡ Some typed.after = ap (λ (o : Option Task). part_type graph o (map type_of f.stack)) (sym is_task) ∙ takes_part in
      by typed.after (brought graph u) types
    where
      by_test : (b : Bool) (ty : ValueType) (after : Stack) → same_types (map type_of f.stack) (on_top ty []) ≡ b → cond b (Some []) None ≡ Some after → is_type (Some ty) v ≡ true
      by_test true ty after is e = is_same (type_of v) ty (ap type_of value ∙ part_has ty f.stack (same_are (map type_of f.stack) (on_top ty []) is))
      by_test false ty after is e = absurd (none_some after e)

      by : (after : Stack) (o : Option ValueType) → only_type o (map type_of f.stack) ≡ Some after → is_type o v ≡ true
      by after None e = absurd (none_some after e)
      by after (Some ty) e = by_test (same_types (map type_of f.stack) (on_top ty [])) ty after refl e

  no_visit_of : (o : Option Visited) → IsFor graph at from k t turns o → t.kind ≢ kind.Visit → IsNoVisit from
  no_visit_of None h other = h.0
  no_visit_of (Some visit) h other = absurd (other h.of_kind)

  stopped_right : (o : Option Visited) → IsFor graph at from k t turns o → (f : Frame) (how : Outcome) (state other : State) → o ≡ visited → HasNoValue how → class_of other ≡ class_of state
      → ((v : ℕ) → IsIn v t.vars → Holds m gathered f.variables v) → f.turns ≤ turns
      → GivesRight graph widths at from parts state (stopped sends o f how other)
  stopped_right None h f how state other e none class holds less = result_right how state other class h.0 (no_value_has (Some (result_by m.result)) how none)
  stopped_right (Some visit) h f how state other e none class holds less =
      let has = verified.parts k t task.is_task h.of_kind in
      let path : join_number graph visit.task ≡ Some has.join = ap (λ (n : ℕ). join_number graph n) h.of_task ∙ join_is has in
      subst (λ (j : Option ℕ). GivesRight graph widths at from parts state (part_for_join sends (Some visit) j f how other)) (sym path)
      (visit_part visit h has f how state other class holds less (λ u is_task. no_value_brought (brought graph u) how none))

  part_right : (o : Option Visited) → IsFor graph at from k t turns o → (f : Frame) (join : ℕ) (v : Val) (state other : State) → Fits f → slice_get m.code f.at ≡ Some (instr.Part join) → v ≡ part_value f.stack
      → class_of other ≡ class_of state → f.turns ≤ turns
      → GivesRight graph widths at from parts state (parted sends o join (slice_get graph.tasks join) f (outcome.Value v) other)
  part_right None h f join v state other stands is_code value class less =
      absurd (h.1 (of_task graph verified k t m key gathered variables turns task f.at (instr.Part join) stands.reached is_code))
  part_right (Some visit) h f join v state other stands is_code value class less =
      let has = verified.parts k t task.is_task h.of_kind in
      let here : f.at ≡ has.at = has.only f.at join (reaches_code graph verified k t m key gathered variables turns task f.at (instr.Part join) stands.reached is_code) in
      let codes : instr.Part join ≡ instr.Part has.join = some_is (instr.Part join) (instr.Part has.join) (sym is_code ∙ ap (λ (n : ℕ). slice_get m.code n) here ∙ part_code has) in
      let same : join ≡ has.join = cc in
      subst (λ (j : ℕ). GivesRight graph widths at from parts state (parted sends (Some visit) j (slice_get graph.tasks j) f (outcome.Value v) other)) (sym same)
      (visit_part visit h has f (outcome.Value v) state other class stands.carried less
      (λ u is_task. what_part_brings f join v u stands is_code value (subst (λ (j : ℕ). IsTask graph j u) (sym same) is_task)))

  ended_right : (ending : Ending) (f : Frame) (state other : State) → EndsRight graph verified t.method m (calls_of graph.fields graph.methods) t.field key gathered t.at turns t.vars (on graph verified k t m key gathered variables turns task) ending f
      → class_of other ≡ class_of state → ((v : ℕ) → IsIn v t.vars → Holds m gathered f.variables v) → f.turns ≤ turns
      → GivesRight graph widths at from parts state (ended sends ending f other)
  ended_right (Returned v) f state other h class holds less =
      let returns = of_task graph verified k t m key gathered variables turns task f.at h.1 h.0.reached h.2 in
      result_right (outcome.Value v) state other class (no_visit_of visited source.for (no_return_of_visit graph t h.1 h.3 returns)) (is_same (type_of v) (result_by m.result) h.4)
  ended_right (Stopped how) f state other h class holds less = stopped_right visited source.for f how state other refl h class holds less
  ended_right (CutTo c) f state other h class holds less =
      cut_right f c state other h.0 h.1 (no_visit_of visited source.for (of_task graph verified k t m key gathered variables turns task f.at (instr.Cut c) h.0.reached h.1)) class
  ended_right (PartFor join v) f state other h class holds less = part_right visited source.for f join v state other h.0 h.1 h.2 class less

  pub after_right : (o : Option Ran) (state : State)
      → RunsRight graph verified t.method m (calls_of graph.fields graph.methods) t.field key gathered t.at turns t.vars (on graph verified k t m key gathered variables turns task) state o
      → GivesRight graph widths at from parts state (after_run sends o)
  after_right None state h = h
  after_right (Some ran) state h = ended_right ran.ending ran.frame state ran.state h.ends h.class h.carried h.turns
