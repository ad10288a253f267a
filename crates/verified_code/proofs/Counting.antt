-- The numbers that cuts and parts name are those of the tasks behind them, and there is no other task.
use Rattle.std.proofs.Common.{◌≡◌, refl, sym, ap, subst, ℕ, zero, suc, ◌+◌, ◌-◌, ◌<◌, arith, Bool, true, false, cond, List, [], ◌∷◌, ◌++◌, map, length, take, Option, Some, None, slice_get, inl, inr}
use Rattle.std.specs.List.{flat_map, list_any}
use Rattle.java_tree.specs.declared.tree.Class.{Class}
use Rattle.java_tree.specs.declared.tree.Method.{Method}
use Rattle.java_tree.specs.declared.method_kinds.MethodKind.{MethodKind}
use Rattle.java_tree.specs.declared.method_kinds.MethodKind.TheVariants as source_kind
use Rattle.java_tree.specs.declared.types.ValueType.{ValueType as VariableType}
use Rattle.java_tree.specs.declared.types.ValueType.TheVariants as variable
use Rattle.flat_code.specs.declared.graph.GraphField.{GraphField}
use Rattle.flat_code.specs.declared.graph.GraphMethod.{GraphMethod}
use Rattle.flat_code.specs.declared.graph.Instr.{Instr}
use Rattle.flat_code.specs.declared.graph.Instr.TheVariants as instr
use Rattle.flat_code.specs.declared.graph.MethodKind.{MethodKind as FlatKind}
use Rattle.flat_code.specs.declared.graph.MethodKind.TheVariants as method_kind
use Rattle.flat_code.specs.declared.graph.Task.{Task}
use Rattle.flat_code.specs.Verified.{is_of_entry, IsMethod, HasCode, Calls}
use Rattle.flat_code.specs.Verified as verified
use Rattle.access_blocks.specs.declared.body.Body.{Body}
use Rattle.access_blocks.specs.declared.body.Program.{Program}
use Rattle.access_blocks.specs.Programs.{methods_in}
use Rattle.body_code.specs.declared.callee.Callee.{Callee}
use Rattle.body_code.specs.Completing.{body_completes}
use Rattle.body_code.specs.Early.{is_in, early}
use Rattle.body_code.specs.ClassCode.{start_of, set_at_start, started, first_cut, body_place, no_exits, is_jump_to, ending, body_piece, graph_kind, graph_methods, tasks_of}
use Rattle.body_code.specs.Checking.{in_all, called_in, CallsMethod, IsTyped}
use Rattle.body_code.specs.Checking as checking
use Rattle.task_cutter.specs.Numbers.{ends, task_count, start_number, number_behind}
use Rattle.verified_code.proofs.Typed.{none_some, some_is}
use Rattle.verified_code.proofs.Shapes.{Quiet, CallsAt, AllCalls, Counts, quiet_both, quiet_calls, quiet_counts, counts_both, calls_both, statements_shaped}
use Rattle.verified_code.proofs.Classes.{graph, own, fields, cs, setting, first_task}
use Rattle.verified_code.proofs.Bodies.{Labelled, at_first, body_labels, below_or}
use Rattle.verified_code.proofs.Clauses.{lays}

-- ---- numbers by counting

pub cut_number : (n m at t : ℕ) (code : List Instr) → Counts n code m → slice_get code at ≡ Some (instr.Cut t) → t ≡ n + ends (take at code)
cut_number n m at t [] h e = absurd (none_some (instr.Cut t) e)
cut_number n m zero t (instr.Cut u ∷ code) h e = (let same : u ≡ t = cc in let first = h.0 in omega (arith, same, first))
cut_number n m (suc at) t (instr.Cut u ∷ code) h e = (let k = cut_number (suc n) m at t code h.1 e in omega (arith, k))
cut_number n m zero t (instr.Part u ∷ code) h e = absurd (cc)
cut_number n m (suc at) t (instr.Part u ∷ code) h e = (let k = cut_number (suc n) m at t code h.1 e in omega (arith, k))
cut_number n m zero t (i ∷ code) h e = absurd (cc)
cut_number n m (suc at) t (i ∷ code) h e = cut_number n m at t code h e

pub part_number : (n m at t : ℕ) (code : List Instr) → Counts n code m → slice_get code at ≡ Some (instr.Part t) → t ≡ n + ends (take at code)
part_number n m at t [] h e = absurd (none_some (instr.Part t) e)
part_number n m zero t (instr.Part u ∷ code) h e = (let same : u ≡ t = cc in let first = h.0 in omega (arith, same, first))
part_number n m (suc at) t (instr.Part u ∷ code) h e = (let k = part_number (suc n) m at t code h.1 e in omega (arith, k))
part_number n m zero t (instr.Cut u ∷ code) h e = absurd (cc)
part_number n m (suc at) t (instr.Cut u ∷ code) h e = (let k = part_number (suc n) m at t code h.1 e in omega (arith, k))
part_number n m zero t (i ∷ code) h e = absurd (cc)
part_number n m (suc at) t (i ∷ code) h e = part_number n m at t code h e

pub counts_end : (n m : ℕ) (code : List Instr) → Counts n code m → m ≡ n + ends code
counts_end n m [] h = omega (arith, h)
counts_end n m (instr.Cut u ∷ code) h = (let k = counts_end (suc n) m code h.1 in omega (arith, k))
counts_end n m (instr.Part u ∷ code) h = (let k = counts_end (suc n) m code h.1 in omega (arith, k))
counts_end n m (i ∷ code) h = counts_end n m code h

no_ends : (code : List Instr) → ((at : ℕ) (i : Instr) → slice_get code at ≡ Some i → is_of_entry i ≡ true → ⊥) → ends code ≡ 0
no_ends [] h = refl
no_ends (instr.Cut u ∷ code) h = absurd (h 0 (instr.Cut u) refl refl)
no_ends (instr.Part u ∷ code) h = absurd (h 0 (instr.Part u) refl refl)
no_ends (i ∷ code) h = no_ends code (λ at j e k. h (suc at) j e k)

-- a cut or a part with so many before it
pub data EndsAt (code : List Instr) (e : ℕ) : Type 0 where
  IsCut : (at t : ℕ) → slice_get code at ≡ Some (instr.Cut t) → ends (take at code) ≡ e → EndsAt code e
  IsPart : (at t : ℕ) → slice_get code at ≡ Some (instr.Part t) → ends (take at code) ≡ e → EndsAt code e

one_later : (u : ℕ) (code : List Instr) (e : ℕ) → EndsAt code e → EndsAt (instr.Cut u ∷ code) (suc e)
one_later u code e (IsCut at t is same) = IsCut (suc at) t is (ap suc same)
one_later u code e (IsPart at t is same) = IsPart (suc at) t is (ap suc same)

part_later : (u : ℕ) (code : List Instr) (e : ℕ) → EndsAt code e → EndsAt (instr.Part u ∷ code) (suc e)
part_later u code e (IsCut at t is same) = IsCut (suc at) t is (ap suc same)
part_later u code e (IsPart at t is same) = IsPart (suc at) t is (ap suc same)

pub ends_at : (code : List Instr) (e : ℕ) → e < ends code → EndsAt code e
ends_at [] e h = absurd (omega (arith, h))
ends_at (instr.Cut u ∷ code) zero h = IsCut 0 u refl refl
ends_at (instr.Cut u ∷ code) (suc e) h = one_later u code e (ends_at code e (omega (arith, h)))
ends_at (instr.Part u ∷ code) zero h = IsPart 0 u refl refl
ends_at (instr.Part u ∷ code) (suc e) h = part_later u code e (ends_at code e (omega (arith, h)))
ends_at (i ∷ code) e h = elim (ends_at code e h) [ IsCut at t is same ↦ IsCut (suc at) t is same | IsPart at t is same ↦ IsPart (suc at) t is same ]

pub record MethodWith (methods : List GraphMethod) (k : ℕ) : Type 0 where
  pub n : ℕ
  pub m : GraphMethod
  pub is_method : slice_get methods n ≡ Some m
  pub j : ℕ
  pub few : j < task_count m m.kind
  pub is : k ≡ start_number methods n + j

pub method_with : (methods : List GraphMethod) (k : ℕ) → k < start_number methods (length methods) → MethodWith methods k
method_with [] k h = absurd (omega (arith, h))
method_with (m ∷ ms) k h =
    elim (below_or k (task_count m m.kind)) [
      | inl less ↦ record { n = 0; m = m; is_method = refl; j = k; few = less; is = omega arith }
      | inr more ↦
          (let rest = method_with ms (k - task_count m m.kind) (omega (arith, h, more)) in
          let same = rest.is in
          record { n = suc rest.n; m = rest.m; is_method = rest.is_method; j = rest.j; few = rest.few; is = omega (arith, same, more) })
    ]

pub entry_count : (m : GraphMethod) (k : FlatKind) (j : ℕ) → j < task_count m k → (k ≡ method_kind.Entry) × (j < suc (ends m.code))
entry_count m method_kind.Entry j h = (refl, h)
entry_count m method_kind.Helper j h = absurd (omega (arith, h))
entry_count m method_kind.Merge j h = absurd (omega (arith, h))

-- ---- what a body's code calls and names

start_quiet : (ms : List ℕ) (o : Option VariableType) → Quiet ms (start_of o)
start_quiet ms None = tt
start_quiet ms (Some variable.Int) = (tt, tt)
start_quiet ms (Some variable.Long) = (tt, tt)
start_quiet ms (Some variable.Boolean) = (tt, tt)
start_quiet ms (Some variable.Vector) = (tt, (tt, tt))

started_quiet : (ms : List ℕ) (b : Body) (vs : List ℕ) → Quiet ms (flat_map (set_at_start b) vs)
started_quiet ms b [] = tt
started_quiet ms b (v ∷ vs) = quiet_both ms (set_at_start b v) (flat_map (set_at_start b) vs) (quiet_both ms (start_of (slice_get b.variables v)) (instr.Store v ∷ []) (start_quiet ms (slice_get b.variables v)) (tt, tt)) (started_quiet ms b vs)

waits_quiet : (ms : List ℕ) (at : ℕ) (jumps : Bool) → Quiet ms (cond jumps (instr.Turn ∷ instr.Jump at ∷ []) [])
waits_quiet ms at true = (tt, (tt, tt))
waits_quiet ms at false = tt

ending_quiet : (ms : List ℕ) (completes : Bool) (code : List Instr) → Quiet ms (ending completes code)
ending_quiet ms true code = (tt, tt)
ending_quiet ms false code = waits_quiet ms (length code) (list_any (is_jump_to (length code)) code)

calls_at : (ms : List ℕ) (code : List Instr) (at : ℕ) (i : Instr) → AllCalls ms code → slice_get code at ≡ Some i → CallsAt ms i
calls_at ms [] at i h e = absurd (none_some i e)
calls_at ms (x ∷ code) zero i h e = subst (λ (z : Instr). CallsAt ms z) (some_is x i e) h.0
calls_at ms (x ∷ code) (suc at) i h e = calls_at ms code at i h.1 e

module _ (class : Class) (program : Program) (tasks : List Task) (typed : IsTyped class program) where
  abbrev fs : List GraphField
  fs = fields class program tasks

  abbrev ks : List Callee
  ks = cs class program tasks

  pub body_calls : (m : Method) (b : Body) (task : ℕ) → AllCalls (in_all (map called_in b.statements)) (own class program tasks m b task).code
  body_calls m b task =
      let ms = in_all (map called_in b.statements) in
      let piece = body_piece fs ks b in
      let place = body_place b task in
      let shaped = statements_shaped (record { fields = fs; context = (setting class program tasks m b task).around.context }) b.statements in
      let code = started b ++ piece.from place no_exits in
      calls_both ms code (ending (body_completes b.statements) code)
      (calls_both ms (started b) (piece.from place no_exits) (quiet_calls ms (started b) (started_quiet ms b (early b))) (shaped.calls place no_exits))
      (quiet_calls ms (ending (body_completes b.statements) code) (ending_quiet ms (body_completes b.statements) code))

  pub body_counts : (m : Method) (b : Body) (task : ℕ) → Counts (first_cut b.kind task) (own class program tasks m b task).code (first_cut b.kind task + (body_piece fs ks b).tasks)
  body_counts m b task =
      let piece = body_piece fs ks b in
      let place = body_place b task in
      let first = first_cut b.kind task in
      let shaped = statements_shaped (record { fields = fs; context = (setting class program tasks m b task).around.context }) b.statements in
      let code = started b ++ piece.from place no_exits in
      counts_both first (first + piece.tasks) (first + piece.tasks) code (ending (body_completes b.statements) code)
      (counts_both first first (first + piece.tasks) (started b) (piece.from place no_exits) (quiet_counts [] first (started b) (started_quiet [] b (early b))) (shaped.counts place no_exits))
      (quiet_counts [] (first + piece.tasks) (ending (body_completes b.statements) code) (ending_quiet [] (body_completes b.statements) code))

  many_tasks : (m : Method) (b : Body) (task : ℕ) → Labelled (setting class program tasks m b task) (at_first b) (own class program tasks m b task).code → task_count (own class program tasks m b task) (graph_kind b.kind) ≡ tasks_of fs ks b
  many_tasks m b task l = by b.kind (λ at i e h. (l.right at i e).kind.entry h) (counts_end (first_cut b.kind task) (first_cut b.kind task + (body_piece fs ks b).tasks) (own class program tasks m b task).code (body_counts m b task))
    where
      by : (k : MethodKind) → ((at : ℕ) (i : Instr) → slice_get (own class program tasks m b task).code at ≡ Some i → is_of_entry i ≡ true → k ≡ source_kind.Entry)
          → first_cut b.kind task + (body_piece fs ks b).tasks ≡ first_cut b.kind task + ends (own class program tasks m b task).code
          → task_count (own class program tasks m b task) (graph_kind k) ≡ first_cut k (body_piece fs ks b).tasks
      by source_kind.Entry entry e = omega (arith, e)
      by source_kind.Helper entry e = (let z = no_ends (own class program tasks m b task).code (λ at i is h. (let f = entry at i is h in absurd (cc))) in omega (arith, e, z))
      by source_kind.Merge entry e = (let z = no_ends (own class program tasks m b task).code (λ at i is h. (let f = entry at i is h in absurd (cc))) in omega (arith, e, z))

  first_is : (ms : List Method) (bs : List Body) (task n : ℕ) (gm : GraphMethod) → ((j : ℕ) (m : Method) (b : Body) (t : ℕ) → slice_get ms j ≡ Some m → slice_get bs j ≡ Some b → task_count (own class program tasks m b t) (graph_kind b.kind) ≡ tasks_of fs ks b)
      → slice_get (graph_methods fs ks ms bs task) n ≡ Some gm → first_task fs ks ms bs task n ≡ task + start_number (graph_methods fs ks ms bs task) n
  first_is [] bs task n gm count e = absurd (none_some gm e)
  first_is (m ∷ ms) [] task n gm count e = absurd (none_some gm e)
  first_is (m ∷ ms) (b ∷ bs) task zero gm count e = omega arith
  first_is (m ∷ ms) (b ∷ bs) task (suc n) gm count e =
      let rest = first_is ms bs (task + tasks_of fs ks b) n gm (λ j x y t is is_b. count (suc j) x y t is is_b) e in
      let here = count 0 m b task refl refl in
      omega (arith, rest, here)

  pub first_number : (n : ℕ) (gm : GraphMethod) → IsMethod (graph class program tasks) n gm → first_task fs ks (methods_in class.members) program.methods 0 n ≡ start_number (graph class program tasks).methods n
  first_number n gm e =
      let k = first_is (methods_in class.members) program.methods 0 n gm (λ j m b t is is_b. many_tasks m b t (body_labels class program tasks typed m b t (typed.bodies j m b is is_b))) e in
      omega (arith, k)

  cut_first : (k : MethodKind) (task : ℕ) → graph_kind k ≡ method_kind.Entry → first_cut k task ≡ suc task
  cut_first source_kind.Entry task e = refl
  cut_first source_kind.Helper task e = absurd (cc)
  cut_first source_kind.Merge task e = absurd (cc)

  pub cut_named : (n at t : ℕ) (gm : GraphMethod) → IsMethod (graph class program tasks) n gm → gm.kind ≡ method_kind.Entry → slice_get gm.code at ≡ Some (instr.Cut t) → t ≡ number_behind (graph class program tasks).methods n gm at
  cut_named n at t gm e =
      let k = lays class program tasks typed n gm e in
      let first = first_number n gm e in
      let numbered = k.numbered in
      subst (λ (z : GraphMethod). z.kind ≡ method_kind.Entry → slice_get z.code at ≡ Some (instr.Cut t) → t ≡ number_behind (graph class program tasks).methods n z at) k.is (λ entry is.
      (let number = cut_number (first_cut k.b.kind k.task) (first_cut k.b.kind k.task + (body_piece fs ks k.b).tasks) at t (own class program tasks k.m k.b k.task).code (body_counts k.m k.b k.task) is in
      let one = cut_first k.b.kind k.task entry in
      omega (arith, number, one, first, numbered)))

  pub part_named : (n at t : ℕ) (gm : GraphMethod) → IsMethod (graph class program tasks) n gm → gm.kind ≡ method_kind.Entry → slice_get gm.code at ≡ Some (instr.Part t) → t ≡ number_behind (graph class program tasks).methods n gm at
  part_named n at t gm e =
      let k = lays class program tasks typed n gm e in
      let first = first_number n gm e in
      let numbered = k.numbered in
      subst (λ (z : GraphMethod). z.kind ≡ method_kind.Entry → slice_get z.code at ≡ Some (instr.Part t) → t ≡ number_behind (graph class program tasks).methods n z at) k.is (λ entry is.
      (let number = part_number (first_cut k.b.kind k.task) (first_cut k.b.kind k.task + (body_piece fs ks k.b).tasks) at t (own class program tasks k.m k.b k.task).code (body_counts k.m k.b k.task) is in
      let one = cut_first k.b.kind k.task entry in
      omega (arith, number, one, first, numbered)))

  -- ---- calls

  direct : (from at : ℕ) (i : Instr) (to : ℕ) → HasCode (graph class program tasks) from at i → ((ms : List ℕ) → CallsAt ms i → is_in to ms ≡ true) → CallsMethod program.methods from to
  direct from at i to h called =
      let k = lays class program tasks typed from h.of h.is_method in
      let code : slice_get (own class program tasks k.m k.b k.task).code at ≡ Some i = subst (λ (z : GraphMethod). slice_get z.code at ≡ Some i) (sym k.is) h.is_code in
      checking.Direct from to k.b k.is_b (called (in_all (map called_in k.b.statements)) (calls_at (in_all (map called_in k.b.statements)) (own class program tasks k.m k.b k.task).code at i (body_calls k.m k.b k.task) code))

  called : (from to : ℕ) → Calls (graph class program tasks) from to → CallsMethod program.methods from to
  called from to (verified.Direct f t at h) = direct f at (instr.Call t) t h (λ ms k. k)
  called from to (verified.Gathering f t at h) = direct f at (instr.Merge t) t h (λ ms k. k)
  called from to (verified.Through f via t h k) = checking.Through f via t (called f via h) (called via t k)

  pub no_cycle : (n : ℕ) → Calls (graph class program tasks) n n → ⊥
  no_cycle n h = typed.no_cycle n (called n n h)
