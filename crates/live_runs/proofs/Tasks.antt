-- The tasks of a cut graph carry what is live at their first instructions, and each frame of a method has what its tasks carry.
use Rattle.std.proofs.Common.{◌≡◌, refl, sym, subst, ◌∙◌, ℕ, zero, suc, ◌<◌, ◌≤◌, arith, List, [], ◌∷◌, length, All, Option, Some, slice_get, unwrap_or, inl, inr, ◌⊎◌}
use Rattle.std.proofs.lemmas.List.Elements.{All-nil, All-cons, All-append}
use Rattle.std.proofs.lemmas.Option.{slice_get_within, slice_get_past, get_or_from_slice_get}
use Rattle.flat_code.specs.declared.graph.GraphField.{GraphField}
use Rattle.flat_code.specs.declared.graph.GraphMethod.{GraphMethod}
use Rattle.flat_code.specs.declared.graph.Instr.{Instr}
use Rattle.flat_code.specs.declared.graph.Instr.TheVariants as instr
use Rattle.flat_code.specs.declared.graph.MethodKind.{MethodKind}
use Rattle.flat_code.specs.declared.graph.MethodKind.TheVariants as method_kind
use Rattle.flat_code.specs.declared.graph.Task.{Task}
use Rattle.flat_code.specs.declared.graph.TaskKind.TheVariants as kind
use Rattle.flat_code.specs.Ways.{IsLive, IsRead, IsReadLater}
use Rattle.graph_safety.proofs.Lists.{some_is, within_get}
use Rattle.graph_safety.proofs.Ways.{Among, among}
use Rattle.live_vars.specs.Sets.{AreLive, HasSets, AreLiveSets}
use Rattle.live_runs.proofs.Carried.{all_carried}
use Rattle.live_runs.specs.Items.{CutGraphsCarryLive, FramesHaveWhatIsCarried}
use Rattle.task_cutter.specs.Tasks.{set_in, set_at, start_task, task_behind, tasks_behind, method_tasks, tasks_from}

all_get : {A : Type 0} (P : A → Type 0) (xs : List A) (n : ℕ) (x : A) → All P xs → slice_get xs n ≡ Some x → P x
all_get P xs n x all is = subst P (get_or_from_slice_get xs n x x is) (all n x (slice_get_within xs n x is))

-- ---- each task is a start, or has the set of its first instruction

module _ (fields : List GraphField) (live : List (List (List ℕ))) where
  abbrev IsRight : Task → Type 0
  IsRight t = (t.kind ≡ kind.Start) ⊎ (t.vars ≡ set_at live t.method t.at)

  right_behind : (method at : ℕ) (i : Instr) (code : List Instr) → All IsRight (task_behind fields live method at i code)
  right_behind method at (instr.Cut t) code = All-cons IsRight _ [] (inr refl) (All-nil IsRight)
  right_behind method at (instr.Part t) code = All-cons IsRight _ [] (inr refl) (All-nil IsRight)
  right_behind method at _ code = All-nil IsRight

  all_behind : (method at : ℕ) (code : List Instr) → All IsRight (tasks_behind fields live method at code)
  all_behind method at [] = All-nil IsRight
  all_behind method at (i ∷ code) = All-append IsRight (task_behind fields live method (suc at) i code) (tasks_behind fields live method (suc at) code) (right_behind method (suc at) i code) (all_behind method (suc at) code)

  all_of : (method : ℕ) (m : GraphMethod) (k : MethodKind) → All IsRight (method_tasks fields live method m k)
  all_of method m method_kind.Entry = All-cons IsRight (start_task method m) (tasks_behind fields live method zero m.code) (inl refl) (all_behind method zero m.code)
  all_of method m method_kind.Helper = All-nil IsRight
  all_of method m method_kind.Merge = All-nil IsRight

  all_right : (method : ℕ) (methods : List GraphMethod) → All IsRight (tasks_from fields live method methods)
  all_right method [] = All-nil IsRight
  all_right method (m ∷ ms) = All-append IsRight (method_tasks fields live method m m.kind) (tasks_from fields live (suc method) ms) (all_of method m m.kind) (all_right (suc method) ms)

-- ---- the set of an instruction is what is live there

live_within : (code : List Instr) (v at : ℕ) → IsLive code v at → at < length code
live_within code v at (IsRead _ i here is_read) = slice_get_within code at i here
live_within code v at (IsReadLater _ next i here unwritten is_next later) = slice_get_within code at i here

none_live : (code : List Instr) (at : ℕ) → length code ≤ at → AreLive code at []
none_live code at past = record {
  live = λ v h. absurd (among v [] h);
  whole = λ v h. let within = live_within code v at h in absurd (omega arith);
  upwards = tt;
}

below_or_not : (a b : ℕ) → (a < b) ⊎ (b ≤ a)
below_or_not a zero = inr (omega arith)
below_or_not zero (suc b) = inl (omega arith)
below_or_not (suc a) (suc b) = elim (below_or_not a b) [ inl l ↦ inl (omega (arith, l)) | inr l ↦ inr (omega (arith, l)) ]

live_in : (code : List Instr) (sets : List (List ℕ)) (at : ℕ) → HasSets code sets → (at < length sets) ⊎ (length sets ≤ at) → AreLive code at (unwrap_or (slice_get sets at) [])
live_in code sets at has (inl within) =
    let row = within_get sets at within in
    subst (λ (o : Option (List ℕ)). AreLive code at (unwrap_or o [])) (sym row.1) (has.each at row.0 row.1)
live_in code sets at has (inr past) =
    let many = has.as_many in
    subst (λ (o : Option (List ℕ)). AreLive code at (unwrap_or o [])) (sym (slice_get_past sets at past)) (none_live code at (omega (arith, past, many)))

pub live_at : (methods : List GraphMethod) (live : List (List (List ℕ))) (n at : ℕ) (m : GraphMethod) → AreLiveSets methods live → slice_get methods n ≡ Some m → AreLive m.code at (set_at live n at)
live_at methods live n at m sets is =
    let within = slice_get_within methods n m is in
    let many = sets.as_many in
    let own = within_get live n (omega (arith, within, many)) in
    subst (λ (o : Option (List (List ℕ))). AreLive m.code at (set_in o at)) (sym own.1) (live_in m.code own.0 at (sets.each n m own.0 is own.1) (below_or_not at (length own.0)))

pub cut_graphs_carry_live : CutGraphsCarryLive
cut_graphs_carry_live flat live sets n t m later = by (all_get (IsRight flat.fields live) (tasks_from flat.fields live zero flat.methods) n t (all_right flat.fields live zero flat.methods) later.is_task)
  where
    by : (t.kind ≡ kind.Start) ⊎ (t.vars ≡ set_at live t.method t.at) → AreLive m.code t.at t.vars
    by (inl start) = absurd (later.no_start start)
    by (inr is) = subst (λ (vs : List ℕ). AreLive m.code t.at vs) (sym is) (live_at flat.methods live t.method t.at m sets later.is_method)

-- ---- the variables of a task are variables of its method

within_all : (many : ℕ) (ns : List ℕ) → All (λ (v : ℕ). v < many) ns → (v : ℕ) → Among v ns → v < many
within_all many [] all v h = absurd h
within_all many (n ∷ ns) all v (inl same) = subst (λ (k : ℕ). k < many) (sym same) (all_get (λ (k : ℕ). k < many) (n ∷ ns) 0 n all refl)
within_all many (n ∷ ns) all v (inr h) = within_all many ns (λ k d inside. all (suc k) d (omega (arith, inside))) v h

pub frames_have_what_is_carried : FramesHaveWhatIsCarried
frames_have_what_is_carried graph n t m verified is_task is_method variables whole =
    let right = verified.tasks n t is_task in
    let same : right.of ≡ m = some_is right.of m (sym right.is_method ∙ is_method) in
    let within : All (λ (v : ℕ). v < length m.vars) t.vars = subst (λ (o : GraphMethod). All (λ (v : ℕ). v < length o.vars) t.vars) same right.variables in
    let has = all_carried t.vars variables (λ v h. subst (λ (k : ℕ). v < k) (sym whole) (within_all (length m.vars) t.vars within v h)) in
    (has.0, record { whole = whole; are_its = has.1 })
