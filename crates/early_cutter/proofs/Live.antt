-- Running code depends only on the variables that are live at its start.
use Rattle.std.proofs.Common.{◌+◌, ◌≡◌, ◌⊎◌, inl, inr, refl, ℕ, zero, suc, ◌<◌, ◌≤◌, Bool, true, false, not, ◌&&◌, ◌||◌, cond, ◌==◌, nat_lt, if◌then◌else◌, List, [], ◌∷◌, length, replicate, Option, Some, None, slice_get, slice_set, sym, ap, ◌∙◌, arith}
use Rattle.std.specs.List.{filter, range_with_len}
use Rattle.std.proofs.lemmas.Bool.{eq-eqb, eqb-true, eqb-false, ltb-true, lt-ltb, cases_eq, cases_lt}
use Rattle.std.proofs.lemmas.List.{length-replicate}
use Rattle.std.proofs.lemmas.Option.{slice_get_within, slice_get_past}
use Rattle.sdg_base.specs.declared.val.Val.{Val}
use Rattle.sdg_base.specs.declared.val.Val.TheVariants as val
use Rattle.sdg_base.specs.declared.val.Outcome.{Outcome}
use Rattle.sdg_base.specs.declared.val.Outcome.TheVariants as outcome
use Rattle.early_tables.specs.declared.method.Method.{Method}
use Rattle.early_tables.specs.States.{State, arity, call_on}
use Rattle.early_task_code.specs.declared.graph.Graph.{Graph}
use Rattle.early_task_code.specs.declared.graph.Task.{Task}
use Rattle.early_task_code.specs.declared.graph.TaskKind.{TaskKind}
use Rattle.early_task_code.specs.declared.graph.TaskKind.TheVariants as task
use Rattle.early_task_code.specs.declared.graph.Instr.{Instr}
use Rattle.early_task_code.specs.declared.graph.Instr.TheVariants as instr
use Rattle.early_task_code.specs.Machine.{Setting, Runs, Rest, run, perform, pushed, operated, casted, key_value, carried, cons_some, sent, sent_by_kind, cut_to, arguments, pushed_result, after_outcome, after_access, accessed, is_own_field, set_all}
use Rattle.early_cutter.specs.Liveness.{is_live, live_variables}
use Rattle.early_cutter.proofs.Lists.{IsAmong, EachPasses, length-slice_set, get-set_same, get-set_other, get_within, among_filter}

-- the same values of the variables that are live
pub record SameLive (code : List Instr) (vars others : List Val) : Type 0 where
  pub as_many : length vars ≡ length others
  pub same : (v : ℕ) → is_live code v ≡ true → slice_get vars v ≡ slice_get others v

-- A cut carries variables that are live behind it.
abbrev pub CutCarriesLive : Graph → List Instr → Instr → Type 0
CutCarriesLive graph behind (instr.Cut t) = (to : Task) → slice_get graph.tasks t ≡ Some to → EachPasses (is_live behind) to.vars
CutCarriesLive graph behind _ = Unit {0}

abbrev pub CutsCarryLive : Graph → List Instr → Type 0
CutsCarryLive graph [] = Unit {0}
CutsCarryLive graph (i ∷ is) = CutCarriesLive graph is i × CutsCarryLive graph is

-- code that gives the same on both, whatever the stack, the turns and the state
abbrev Alike : Rest → List Val → List Val → Type 0
Alike next vars others = (stack : List Val) (turns : ℕ) (state : State) → next stack vars turns state ≡ next stack others turns state

pushed_alike : (next : Rest) (vars others : List Val) → Alike next vars others → (o : Option Val) (stack : List Val) (turns : ℕ) (state : State)
    → pushed next o stack vars turns state ≡ pushed next o stack others turns state
pushed_alike next vars others alike None stack turns state = refl
pushed_alike next vars others alike (Some v) stack turns state = alike (v ∷ stack) turns state

outcome_alike : (s : Setting) (next : Rest) (vars others : List Val) → Alike next vars others → (how : Outcome) (stack : List Val) (turns : ℕ) (state : State)
    → after_outcome s next how stack vars turns state ≡ after_outcome s next how stack others turns state
outcome_alike s next vars others alike (outcome.Value v) stack turns state = alike (pushed_result v stack) turns state
outcome_alike s next vars others alike (outcome.Throws x) stack turns state = refl
outcome_alike s next vars others alike outcome.Limit stack turns state = refl

access_alike : (s : Setting) (next : Rest) (vars others : List Val) → Alike next vars others → (answer : Option (Outcome × State)) (stack : List Val) (turns : ℕ)
    → after_access s next stack vars turns answer ≡ after_access s next stack others turns answer
access_alike s next vars others alike None stack turns = refl
access_alike s next vars others alike (Some answer) stack turns = outcome_alike s next vars others alike answer.0 stack turns answer.1

accessed_alike : (s : Setting) (next : Rest) (vars others : List Val) → Alike next vars others → (m : Method) (taken : Option (List Val × List Val)) (turns : ℕ) (state : State)
    → accessed s next m taken vars turns state ≡ accessed s next m taken others turns state
accessed_alike s next vars others alike m None turns state = refl
accessed_alike s next vars others alike m (Some taken) turns state = access_alike s next vars others alike (call_on m taken.0 state) taken.1 turns

if_alike : (b : Bool) (x y : Runs) → x ≡ y → (if b then x else None) ≡ (if b then y else None)
if_alike true x y e = e
if_alike false x y e = refl

carried_alike : (code : List Instr) (vars others : List Val) → SameLive code vars others → (ns : List ℕ) → EachPasses (is_live code) ns → carried ns vars ≡ carried ns others
carried_alike code vars others same [] live = refl
carried_alike code vars others same (n ∷ ns) live =
    ap (λ o. cons_some o (carried ns vars)) (same.same n live.0) ∙ ap (cons_some (slice_get others n)) (carried_alike code vars others same ns live.1)

kind_alike : (s : Setting) (t : ℕ) (kind : TaskKind) (to : Task) (vars others : List Val) → carried to.vars vars ≡ carried to.vars others
    → (stack : List Val) (turns : ℕ) (state : State) → sent_by_kind s t kind to stack vars turns state ≡ sent_by_kind s t kind to stack others turns state
kind_alike s t task.Keyed to vars others same (val.Long key ∷ []) turns state = ap (λ o. sent s t turns to.field key o state) same
kind_alike s t task.Keyed to vars others same [] turns state = refl
kind_alike s t task.Keyed to vars others same (val.Long key ∷ x ∷ xs) turns state = refl
kind_alike s t task.Keyed to vars others same (val.Int n ∷ xs) turns state = refl
kind_alike s t task.Keyed to vars others same (val.Bool b ∷ xs) turns state = refl
kind_alike s t task.Keyed to vars others same (val.Vector v ∷ xs) turns state = refl
kind_alike s t task.Keyed to vars others same (val.Unit ∷ xs) turns state = refl
kind_alike s t task.Start to vars others same stack turns state = refl
kind_alike s t task.Local to vars others same stack turns state = refl
kind_alike s t task.Visit to vars others same stack turns state = refl
kind_alike s t task.Join to vars others same stack turns state = refl

cut_alike : (s : Setting) (t : ℕ) (o : Option Task) (vars others : List Val) → ((to : Task) → o ≡ Some to → carried to.vars vars ≡ carried to.vars others)
    → (stack : List Val) (turns : ℕ) (state : State) → cut_to s t o stack vars turns state ≡ cut_to s t o stack others turns state
cut_alike s t None vars others same stack turns state = refl
cut_alike s t (Some to) vars others same stack turns state = kind_alike s t to.kind to vars others (same to refl) stack turns state

-- ---- loads and stores

live_read : (code : List Instr) (b : Bool) (v : ℕ) → is_live code v ≡ true → (b || is_live code v) ≡ true
live_read code true v live = refl
live_read code false v live = live

load_alike : (s : Setting) (v : ℕ) (is : List Instr) (vars others : List Val) → SameLive (instr.Load v ∷ is) vars others
    → (next : Rest) → Alike next vars others
    → (stack : List Val) (turns : ℕ) (state : State) → perform s (instr.Load v) next stack vars turns state ≡ perform s (instr.Load v) next stack others turns state
load_alike s v is vars others same next alike stack turns state =
    let here : is_live (instr.Load v ∷ is) v ≡ true = ap (λ (b : Bool). b || is_live is v) (eq-eqb v v refl) in
    ap (λ o. pushed next o stack vars turns state) (same.same v here) ∙ pushed_alike next vars others alike (slice_get others v) stack turns state

set_live : (v u : ℕ) (is : List Instr) (vars others : List Val) (x : Val) → length vars ≡ length others → v < length vars → (b : Bool) → (v == u) ≡ b
    → ((not b && is_live is u) ≡ true → slice_get vars u ≡ slice_get others u)
    → is_live is u ≡ true → slice_get (slice_set vars v x) u ≡ slice_get (slice_set others v x) u
set_live v u is vars others x as_many within true at same live =
    let e : v ≡ u = eqb-true v u at in
    let within' : v < length others = omega arith in
    ap (slice_get (slice_set vars v x)) (sym e) ∙ get-set_same vars v x within
    ∙ sym (ap (slice_get (slice_set others v x)) (sym e) ∙ get-set_same others v x within')
set_live v u is vars others x as_many within false at same live =
    let other = eqb-false v u at in
    get-set_other vars v u x other ∙ same live ∙ sym (get-set_other others v u x other)

SameLive-set : (v : ℕ) (is : List Instr) (vars others : List Val) (x : Val) → SameLive (instr.Store v ∷ is) vars others → v < length vars
    → SameLive is (slice_set vars v x) (slice_set others v x)
SameLive-set v is vars others x same within = record {
  as_many = length-slice_set vars v x ∙ same.as_many ∙ sym (length-slice_set others v x);
  same = λ u live. set_live v u is vars others x same.as_many within (v == u) refl (same.same u) live;
}

SameLive-load : (v : ℕ) (is : List Instr) (vars others : List Val) → SameLive (instr.Load v ∷ is) vars others → SameLive is vars others
SameLive-load v is vars others same = record { as_many = same.as_many; same = λ u live. same.same u (live_read is (v == u) u live) }

stored_alike : (b : Bool) (x y : Runs) → (b ≡ true → x ≡ y) → (if b then x else None) ≡ (if b then y else None)
stored_alike true x y e = e refl
stored_alike false x y e = refl

-- ---- one instruction, and all

perform_alike : (s : Setting) (i : Instr) (is : List Instr) (vars others : List Val) → CutCarriesLive s.graph is i → SameLive (i ∷ is) vars others
    → ((vs ws : List Val) → SameLive is vs ws → Alike (run s is) vs ws)
    → (stack : List Val) (turns : ℕ) (state : State) → perform s i (run s is) stack vars turns state ≡ perform s i (run s is) stack others turns state
perform_alike s (instr.Int n) is vars others cuts same next stack turns state =
    next vars others (record { as_many = same.as_many; same = same.same }) (val.Int n ∷ stack) turns state
perform_alike s (instr.Load v) is vars others cuts same next stack turns state =
    load_alike s v is vars others same (run s is) (next vars others (SameLive-load v is vars others same)) stack turns state
perform_alike s (instr.Store v) is vars others cuts same next (x ∷ stack) turns state =
    let lengths = ap (λ n. if nat_lt v n then run s is stack (slice_set others v x) turns state else None) same.as_many in
    stored_alike (nat_lt v (length vars)) (run s is stack (slice_set vars v x) turns state) (run s is stack (slice_set others v x) turns state)
    (λ within. next (slice_set vars v x) (slice_set others v x) (SameLive-set v is vars others x same (ltb-true v (length vars) within)) stack turns state)
    ∙ lengths
perform_alike s (instr.Store v) is vars others cuts same next [] turns state = refl
perform_alike s instr.Pop is vars others cuts same next (x ∷ stack) turns state = next vars others (record { as_many = same.as_many; same = same.same }) stack turns state
perform_alike s instr.Pop is vars others cuts same next [] turns state = refl
perform_alike s (instr.Bin op type) is vars others cuts same next (b ∷ a ∷ stack) turns state =
    pushed_alike (run s is) vars others (next vars others (record { as_many = same.as_many; same = same.same })) (operated op type a b) stack turns state
perform_alike s (instr.Bin op type) is vars others cuts same next (b ∷ []) turns state = refl
perform_alike s (instr.Bin op type) is vars others cuts same next [] turns state = refl
perform_alike s (instr.Cast type) is vars others cuts same next (a ∷ stack) turns state =
    pushed_alike (run s is) vars others (next vars others (record { as_many = same.as_many; same = same.same })) (casted type a) stack turns state
perform_alike s (instr.Cast type) is vars others cuts same next [] turns state = refl
perform_alike s instr.Turn is vars others cuts same next stack zero state = refl
perform_alike s instr.Turn is vars others cuts same next stack (suc turns) state = next vars others (record { as_many = same.as_many; same = same.same }) stack turns state
perform_alike s instr.Key is vars others cuts same next stack turns state =
    pushed_alike (run s is) vars others (next vars others (record { as_many = same.as_many; same = same.same })) (key_value s.key) stack turns state
perform_alike s (instr.Access field m) is vars others cuts same next stack turns state =
    if_alike (is_own_field s.field field) (accessed s (run s is) m (arguments (arity m) stack) vars turns state) (accessed s (run s is) m (arguments (arity m) stack) others turns state)
    (accessed_alike s (run s is) vars others (next vars others (record { as_many = same.as_many; same = same.same })) m (arguments (arity m) stack) turns state)
perform_alike s (instr.Cut t) is vars others cuts same next stack turns state =
    cut_alike s t (slice_get s.graph.tasks t) vars others
    (λ to at. carried_alike is vars others (record { as_many = same.as_many; same = same.same }) to.vars (cuts to at)) stack turns state
perform_alike s instr.Return is vars others cuts same next [] turns state = refl
perform_alike s instr.Return is vars others cuts same next (v ∷ []) turns state = refl
perform_alike s instr.Return is vars others cuts same next (v ∷ w ∷ stack) turns state = refl
perform_alike s instr.ReturnVoid is vars others cuts same next [] turns state = refl
perform_alike s instr.ReturnVoid is vars others cuts same next (v ∷ stack) turns state = refl

pub run_alike : (s : Setting) (code : List Instr) → CutsCarryLive s.graph code → (vars others : List Val) → SameLive code vars others → Alike (run s code) vars others
run_alike s [] cuts vars others same stack turns state = refl
run_alike s (i ∷ is) cuts vars others same stack turns state = perform_alike s i is vars others cuts.0 same (run_alike s is cuts.1) stack turns state

-- ---- a task's variables as it begins

cons_parts : (o : Option Val) (os : Option (List Val)) (values : List Val) → cons_some o os ≡ Some values
    → (v : Val) × (vs : List Val) × (o ≡ Some v) × (os ≡ Some vs) × (values ≡ v ∷ vs)
cons_parts None os values is = absurd (cc)
cons_parts (Some v) None values is = absurd (cc)
cons_parts (Some v) (Some vs) values is = (v, vs, refl, refl, cc)

set_here : (n v : ℕ) (base env : List Val) (x : Val) → n < length base → slice_get env n ≡ Some x → n ≡ v → slice_get (slice_set base n x) v ≡ slice_get env v
set_here n v base env x within at e =
    ap (slice_get (slice_set base n x)) (sym e) ∙ get-set_same base n x within ∙ sym at ∙ ap (slice_get env) e

set_kept : (n v : ℕ) (base env : List Val) (x : Val) → n < length base → slice_get env n ≡ Some x → slice_get base v ≡ slice_get env v
    → (n ≡ v) ⊎ (n ≡ v → ⊥) → slice_get (slice_set base n x) v ≡ slice_get env v
set_kept n v base env x within at same (inl e) = set_here n v base env x within at e
set_kept n v base env x within at same (inr other) = get-set_other base n v x other ∙ same

set_next : (n v : ℕ) (ns : List ℕ) (base env : List Val) (x : Val) → n < length base → slice_get env n ≡ Some x
    → ((n ≡ v) ⊎ IsAmong v ns) ⊎ (slice_get base v ≡ slice_get env v) → IsAmong v ns ⊎ (slice_get (slice_set base n x) v ≡ slice_get env v)
set_next n v ns base env x within at (inl (inl e)) = inr (set_here n v base env x within at e)
set_next n v ns base env x within at (inl (inr h)) = inl h
set_next n v ns base env x within at (inr same) = inr (set_kept n v base env x within at same (cases_eq n v))

only_same : (v : ℕ) (base env : List Val) → ⊥ ⊎ (slice_get base v ≡ slice_get env v) → slice_get base v ≡ slice_get env v
only_same v base env (inl h) = absurd h
only_same v base env (inr h) = h

-- the variables that are carried have their values
set_all_same : (ns : List ℕ) (values env base : List Val) → carried ns env ≡ Some values → length base ≡ length env
    → (v : ℕ) → IsAmong v ns ⊎ (slice_get base v ≡ slice_get env v) → slice_get (set_all ns values base) v ≡ slice_get env v
set_all_same [] values env base is as_many v h = only_same v base env h
set_all_same (n ∷ ns) [] env base is as_many v h =
    let parts = cons_parts (slice_get env n) (carried ns env) [] is in let e = parts.4 in absurd (cc)
set_all_same (n ∷ ns) (x ∷ xs) env base is as_many v h =
    let parts = cons_parts (slice_get env n) (carried ns env) (x ∷ xs) is in
    let e = parts.4 in
    let at : slice_get env n ≡ Some x = parts.2 ∙ (let same : parts.0 ≡ x = cc in ap Some same) in
    let rest : carried ns env ≡ Some xs = parts.3 ∙ (let same : parts.1 ≡ xs = cc in ap Some same) in
    let within : n < length base = (let w = slice_get_within env n x at in omega arith) in
    set_all_same ns xs env (slice_set base n x) rest (length-slice_set base n x ∙ as_many) v (set_next n v ns base env x within at h)

length-set_all : (ns : List ℕ) (values base : List Val) → length (set_all ns values base) ≡ length base
length-set_all [] values base = refl
length-set_all (n ∷ ns) [] base = refl
length-set_all (n ∷ ns) (v ∷ values) base = length-set_all ns values (slice_set base n v) ∙ length-slice_set base n v

first_or_later : (v a n : ℕ) → (suc a ≤ v → v < a + 1 + n → IsAmong v (range_with_len (a + 1) n)) → a ≤ v → v < a + suc n → (a ≡ v) ⊎ (a ≡ v → ⊥)
    → IsAmong v (range_with_len a (suc n))
first_or_later v a n later from within (inl e) = inl e
first_or_later v a n later from within (inr other) = inr (later (omega arith) (omega arith))

among_range : (v a n : ℕ) → a ≤ v → v < a + n → IsAmong v (range_with_len a n)
among_range v a zero from within = absurd (omega arith)
among_range v a (suc n) from within = first_or_later v a n (λ f w. among_range v (a + 1) n (omega arith) w) from within (cases_eq a v)

-- a variable that is live, or that is none
carried_live : (code : List Instr) (n : ℕ) (env values : List Val) → length env ≡ n → carried (live_variables n code) env ≡ Some values
    → (v : ℕ) → is_live code v ≡ true → (v < n) ⊎ (n ≤ v)
    → slice_get (set_all (live_variables n code) values (replicate n val.Unit)) v ≡ slice_get env v
carried_live code n env values as_many is v live (inl within) =
    set_all_same (live_variables n code) values env (replicate n val.Unit) is (length-replicate n val.Unit ∙ sym as_many) v
    (inl (among_filter (is_live code) v (range_with_len 0 n) live (among_range v 0 n (omega arith) (omega arith))))
carried_live code n env values as_many is v live (inr past) =
    let all = set_all (live_variables n code) values (replicate n val.Unit) in
    let lengths = length-set_all (live_variables n code) values (replicate n val.Unit) in
    let whole = length-replicate n val.Unit in
    slice_get_past all v (omega (arith, lengths, whole)) ∙ sym (slice_get_past env v (omega arith))

-- The code of a task runs from what it carries as from the whole of the variables.
pub run_carried : (s : Setting) (code : List Instr) (n : ℕ) (env values : List Val) → CutsCarryLive s.graph code → length env ≡ n → carried (live_variables n code) env ≡ Some values
    → (turns : ℕ) (state : State) → run s code [] (set_all (live_variables n code) values (replicate n val.Unit)) turns state ≡ run s code [] env turns state
run_carried s code n env values cuts as_many is turns state =
    let all = set_all (live_variables n code) values (replicate n val.Unit) in
    run_alike s code cuts all env
    (record {
      as_many = length-set_all (live_variables n code) values (replicate n val.Unit) ∙ length-replicate n val.Unit ∙ sym as_many;
      same = λ v live. carried_live code n env values as_many is v live (cases_lt v n);
    })
    [] turns state

-- Variables that are there can be carried.
pub carried_all : (ns : List ℕ) (env : List Val) → EachPasses (λ n. nat_lt n (length env)) ns → (values : List Val) × (carried ns env ≡ Some values)
carried_all [] env within = ([], refl)
carried_all (n ∷ ns) env within =
    let here = get_within env n (ltb-true n (length env) within.0) in
    let rest = carried_all ns env within.1 in
    (here.0 ∷ rest.0, ap (λ o. cons_some o (carried ns env)) here.1 ∙ ap (cons_some (Some here.0)) rest.1)

range_within : (m a n : ℕ) → a + n ≤ m → EachPasses (λ k. nat_lt k m) (range_with_len a n)
range_within m a zero within = tt
range_within m a (suc n) within = (lt-ltb a m (omega arith), range_within m (a + 1) n (omega arith))

kept_within : (p q : ℕ → Bool) (n : ℕ) (ns : List ℕ) (b : Bool) → q n ≡ true → EachPasses q ns → EachPasses q (cond b (n ∷ ns) ns)
kept_within p q n ns true here rest = (here, rest)
kept_within p q n ns false here rest = rest

filter_within : (p q : ℕ → Bool) (ns : List ℕ) → EachPasses q ns → EachPasses q (filter p ns)
filter_within p q [] h = tt
filter_within p q (n ∷ ns) h = kept_within p q n (filter p ns) (p n) h.0 (filter_within p q ns h.1)

-- the live variables of code, of as many as there are
pub live_carried : (code : List Instr) (env : List Val) → (values : List Val) × (carried (live_variables (length env) code) env ≡ Some values)
live_carried code env =
    carried_all (live_variables (length env) code) env
    (filter_within (is_live code) (λ k. nat_lt k (length env)) (range_with_len 0 (length env)) (range_within (length env) 0 (length env) (omega arith)))
