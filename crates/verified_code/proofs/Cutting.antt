-- Each task has its number.
use Rattle.std.proofs.Common.{◌≡◌, ℕ, zero, suc, ◌+◌, ◌<◌, ◌≤◌, List, [], ◌∷◌, ◌++◌, length, take, drop, Option, Some, ◌⊎◌, inl, inr, slice_get, unwrap_or, refl, sym, ap, subst, ◌∙◌, arith, length-append}
use Rattle.std.proofs.lemmas.Option.{slice_get_within, slice_get_past}
use Rattle.flat_code.specs.declared.graph.Flat.{Flat}
use Rattle.flat_code.specs.declared.graph.GraphField.{GraphField}
use Rattle.flat_code.specs.declared.graph.GraphMethod.{GraphMethod}
use Rattle.flat_code.specs.declared.graph.Instr.{Instr}
use Rattle.flat_code.specs.declared.graph.Instr.TheVariants as instr
use Rattle.flat_code.specs.declared.graph.MethodKind.{MethodKind}
use Rattle.flat_code.specs.declared.graph.MethodKind.TheVariants as method_kind
use Rattle.flat_code.specs.declared.graph.Task.{Task}
use Rattle.flat_code.specs.Ways.{IsLive, IsRead, IsReadLater}
use Rattle.live_vars.specs.Sets.{AreLive, HasSets, AreLiveSets}
use Rattle.task_cutter.specs.Tasks.{set_in, set_at, start_task, cut_task, join_task, task_behind, tasks_behind, method_tasks, tasks_from, graph_of}
use Rattle.task_cutter.specs.Numbers.{ends, task_count, start_number, number_behind, HasEntryCode, IsStart, AreCutBehind}

-- ---- elements by number

there : {A : Type 0} (xs : List A) (n : ℕ) → n < length xs → (x : A) × (slice_get xs n ≡ Some x)
there [] n within = absurd (omega (arith, within))
there (x ∷ xs) zero within = (x, refl)
there (x ∷ xs) (suc n) within = there xs n (omega (arith, within))

get_front : {A : Type 0} (xs ys : List A) (n : ℕ) → n < length xs → slice_get (xs ++ ys) n ≡ slice_get xs n
get_front [] ys n within = absurd (omega (arith, within))
get_front (x ∷ xs) ys zero within = refl
get_front (x ∷ xs) ys (suc n) within = get_front xs ys n (omega (arith, within))

get_behind : {A : Type 0} (xs ys : List A) (n : ℕ) → slice_get (xs ++ ys) (length xs + n) ≡ slice_get ys n
get_behind [] ys n = let e : 0 + n ≡ n = omega arith in ap (slice_get ys) e
get_behind (x ∷ xs) ys n =
    let e : suc (length xs) + n ≡ suc (length xs + n) = omega arith in
    ap (slice_get (x ∷ (xs ++ ys))) e ∙ get_behind xs ys n

-- ---- how many

length_behind : (fields : List GraphField) (live : List (List (List ℕ))) (method at : ℕ) (code : List Instr) → length (tasks_behind fields live method at code) ≡ ends code
length_behind fields live method at [] = refl
length_behind fields live method at (instr.Cut t ∷ code) = ap suc (length_behind fields live method (suc at) code)
length_behind fields live method at (instr.Part t ∷ code) = ap suc (length_behind fields live method (suc at) code)
length_behind fields live method at (i ∷ code) = length_behind fields live method (suc at) code

length_method : (fields : List GraphField) (live : List (List (List ℕ))) (method : ℕ) (m : GraphMethod) (k : MethodKind) → length (method_tasks fields live method m k) ≡ task_count m k
length_method fields live method m method_kind.Entry = ap suc (length_behind fields live method zero m.code)
length_method fields live method m method_kind.Helper = refl
length_method fields live method m method_kind.Merge = refl

length_from : (fields : List GraphField) (live : List (List (List ℕ))) (method : ℕ) (methods : List GraphMethod) → length (tasks_from fields live method methods) ≡ start_number methods (length methods)
length_from fields live method [] = refl
length_from fields live method (m ∷ ms) =
    let first = length_method fields live method m m.kind in
    let rest = length_from fields live (suc method) ms in
    let both = length-append (method_tasks fields live method m m.kind) (tasks_from fields live (suc method) ms) in
    omega (arith, first, rest, both)

-- ---- the task behind an instruction

skip : (fields : List GraphField) (live : List (List (List ℕ))) (method at : ℕ) (i : Instr) (code before : List Instr) (tasks : List Task)
    → slice_get (task_behind fields live method at i code ++ tasks) (ends (i ∷ before)) ≡ slice_get tasks (ends before)
skip fields live method at (instr.Cut t) code before tasks = refl
skip fields live method at (instr.Part t) code before tasks = refl
skip fields live method at i code before tasks = refl

module _ (fields : List GraphField) (live : List (List (List ℕ))) (method : ℕ) (end : Instr) (task : ℕ → List Instr → Task) where
  behind_at : ((at : ℕ) (code : List Instr) → task_behind fields live method at end code ≡ task at code ∷ []) → (from at place : ℕ) (code : List Instr) → slice_get code at ≡ Some end → place ≡ suc (from + at)
      → slice_get (tasks_behind fields live method from code) (ends (take at code)) ≡ Some (task place (drop (suc at) code))
  behind_at own from at place [] is place_is = absurd cc
  behind_at own from zero place (i ∷ code) is place_is =
      let same : i ≡ end = cc in
      let P : Instr → Type 0 = λ j. slice_get (task_behind fields live method (suc from) j code ++ tasks_behind fields live method (suc from) code) zero ≡ Some (task (suc from) code) in
      let there : suc from ≡ place = omega (arith, place_is) in
      subst P (sym same) (ap (λ ts. slice_get (ts ++ tasks_behind fields live method (suc from) code) zero) (own (suc from) code)) ∙ ap (λ n. Some (task n code)) there
  behind_at own from (suc at) place (i ∷ code) is place_is =
      skip fields live method (suc from) i code (take at code) (tasks_behind fields live method (suc from) code)
      ∙ behind_at own (suc from) at place code is (omega (arith, place_is))

-- ---- the tasks of a method among all

from_at : (fields : List GraphField) (live : List (List (List ℕ))) (from n place k : ℕ) (methods : List GraphMethod) (m : GraphMethod) → slice_get methods n ≡ Some m → place ≡ from + n
    → k < task_count m m.kind → slice_get (tasks_from fields live from methods) (start_number methods n + k) ≡ slice_get (method_tasks fields live place m m.kind) k
from_at fields live from n place k [] m is place_is within = absurd cc
from_at fields live from zero place k (x ∷ ms) m is place_is within =
    let same : m ≡ x = cc in
    let there : from ≡ place = omega (arith, place_is) in
    let long = length_method fields live from m m.kind in
    let none : 0 + k ≡ k = omega arith in
    let P : GraphMethod → Type 0 = λ y. slice_get (method_tasks fields live from y y.kind ++ tasks_from fields live (suc from) ms) (0 + k) ≡ slice_get (method_tasks fields live from m m.kind) k in
    subst P same
    (ap (λ j. slice_get (method_tasks fields live from m m.kind ++ tasks_from fields live (suc from) ms) j) none
    ∙ get_front (method_tasks fields live from m m.kind) (tasks_from fields live (suc from) ms) k (omega (arith, within, long)))
    ∙ ap (λ j. slice_get (method_tasks fields live j m m.kind) k) there
from_at fields live from (suc n) place k (x ∷ ms) m is place_is within =
    let front = method_tasks fields live from x x.kind in
    let long = length_method fields live from x x.kind in
    let index : (task_count x x.kind + start_number ms n) + k ≡ length front + (start_number ms n + k) = omega (arith, long) in
    ap (λ j. slice_get (front ++ tasks_from fields live (suc from) ms) j) index ∙ get_behind front (tasks_from fields live (suc from) ms) (start_number ms n + k)
    ∙ from_at fields live (suc from) n place k ms m is (omega (arith, place_is)) within

-- ---- what is live behind an instruction

live_within : (code : List Instr) (v at : ℕ) → IsLive code v at → at < length code
live_within code v at (IsRead _ i here is_read) = slice_get_within code at i here
live_within code v at (IsReadLater _ next i here clear goes later) = slice_get_within code at i here

none_live : (code : List Instr) (at : ℕ) → length code ≤ at → AreLive code at []
none_live code at past = record {
  live = λ v is_in. elim is_in [ ];
  whole = λ v live. let w = live_within code v at live in absurd (omega (arith, w, past));
  upwards = tt;
}

live_in : (code : List Instr) (sets : List (List ℕ)) (at : ℕ) → HasSets code sets → (at < length sets) ⊎ (length sets ≤ at) → AreLive code at (unwrap_or (slice_get sets at) [])
live_in code sets at has (inl within) =
    let row = there sets at within in
    let P : Option (List ℕ) → Type 0 = λ o. AreLive code at (unwrap_or o []) in
    subst P (sym row.1) (has.each at row.0 row.1)
live_in code sets at has (inr past) =
    let P : Option (List ℕ) → Type 0 = λ o. AreLive code at (unwrap_or o []) in
    let long = has.as_many in
    subst P (sym (slice_get_past sets at past)) (none_live code at (omega (arith, past, long)))

below_or_not : (a b : ℕ) → (a < b) ⊎ (b ≤ a)
below_or_not a zero = inr (omega arith)
below_or_not zero (suc b) = inl (omega arith)
below_or_not (suc a) (suc b) = elim (below_or_not a b) [ inl l ↦ inl (omega (arith, l)) | inr l ↦ inr (omega (arith, l)) ]

live_at : (methods : List GraphMethod) (live : List (List (List ℕ))) (n at : ℕ) (m : GraphMethod) → AreLiveSets methods live → slice_get methods n ≡ Some m → AreLive m.code at (set_at live n at)
live_at methods live n at m sets is =
    let w = slice_get_within methods n m is in
    let long = sets.as_many in
    let own = there live n (omega (arith, w, long)) in
    let P : Option (List (List ℕ)) → Type 0 = λ o. AreLive m.code at (set_in o at) in
    subst P (sym own.1) (live_in m.code own.0 at (sets.each n m own.0 is own.1) (below_or_not at (length own.0)))

-- ---- the whole

module _ (flat : Flat) (live : List (List (List ℕ))) (sets : AreLiveSets flat.methods live) where
  started : (n : ℕ) (m : GraphMethod) → slice_get flat.methods n ≡ Some m → m.kind ≡ method_kind.Entry → IsStart (graph_of flat live) n m (start_number flat.methods n)
  started n m is entry =
      let P : MethodKind → Type 0 = λ k. slice_get (method_tasks flat.fields live n m k) 0 ≡ Some (start_task n m) in
      let Q : MethodKind → Type 0 = λ k. 0 < task_count m k in
      let R : ℕ → Type 0 = λ j. slice_get (tasks_from flat.fields live zero flat.methods) j ≡ Some (start_task n m) in
      let none : start_number flat.methods n + 0 ≡ start_number flat.methods n = omega arith in
      let some : 0 < suc (ends m.code) = omega arith in
      record {
        of = start_task n m;
        is_task = subst R none (from_at flat.fields live zero n n 0 flat.methods m is (omega arith) (subst Q (sym entry) some) ∙ subst P (sym entry) refl);
        in_method = refl;
        at_first = refl;
        starts = refl;
        no_field = refl;
        variables = refl;
      }

  is_behind : (n at : ℕ) (m : GraphMethod) (end : Instr) (task : ℕ → List Instr → Task) → ((place : ℕ) (code : List Instr) → task_behind flat.fields live n place end code ≡ task place code ∷ [])
      → HasEntryCode flat.methods n m at end → slice_get (tasks_from flat.fields live zero flat.methods) (number_behind flat.methods n m at) ≡ Some (task (suc at) (drop (suc at) m.code))
  is_behind n at m end task own code =
      let k = suc (ends (take at m.code)) in
      let behind = behind_at flat.fields live n end task own zero at (suc at) m.code code.is_code (omega arith) in
      let w = slice_get_within (tasks_behind flat.fields live n zero m.code) (ends (take at m.code)) (task (suc at) (drop (suc at) m.code)) behind in
      let long = length_behind flat.fields live n zero m.code in
      let some : k < suc (ends m.code) = omega (arith, w, long) in
      let P : MethodKind → Type 0 = λ kind. slice_get (method_tasks flat.fields live n m kind) k ≡ Some (task (suc at) (drop (suc at) m.code)) in
      let Q : MethodKind → Type 0 = λ kind. k < task_count m kind in
      from_at flat.fields live zero n n k flat.methods m code.is_method (omega arith) (subst Q (sym code.is_entry) some) ∙ subst P (sym code.is_entry) behind

  pub tasks_are_cut : AreCutBehind flat (graph_of flat live)
  tasks_are_cut = record {
    starts = started;
    cuts = λ n at t m code. record {
      of = cut_task flat.fields live n (suc at) (drop (suc at) m.code);
      is_task = is_behind n at m (instr.Cut t) (λ place c. cut_task flat.fields live n place c) (λ place c. refl) code;
      in_method = refl;
      right_behind = refl;
      has_kind = refl;
      has_field = refl;
      variables = live_at flat.methods live n (suc at) m sets code.is_method;
    };
    parts = λ n at t m code. record {
      of = join_task live n (suc at);
      is_task = is_behind n at m (instr.Part t) (λ place c. join_task live n place) (λ place c. refl) code;
      in_method = refl;
      right_behind = refl;
      has_kind = refl;
      has_field = refl;
      variables = live_at flat.methods live n (suc at) m sets code.is_method;
    };
    as_many = length_from flat.fields live zero flat.methods;
  }
