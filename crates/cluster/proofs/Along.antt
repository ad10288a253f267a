-- What holds of every port along a history.
use Rattle.std.proofs.Common.{◌≡◌, ℕ, suc, ◌+◌, ◌≤◌, Bool, true, false, if◌then◌else◌, List, [], ◌∷◌, ◌++◌, length, Some, None, refl, subst, arith, length-append, zero-add}
use Rattle.std.specs.List.{AllByRecursion}
use Rattle.sdg_base.specs.declared.call.Call.{Call}
use Rattle.sdg_base.specs.declared.port.Port.{Port}
use Rattle.sdg_base.specs.declared.port.Port.TheVariants as port
use Rattle.sdg_base.specs.declared.item.Item.{Item}
use Rattle.sdg_base.specs.declared.item.Item.TheVariants as item
use Rattle.sdg_base.specs.Ports.{same_port}
use Rattle.early_tables.specs.States.{State}
use Rattle.early_task_code.specs.declared.graph.Graph.{Graph}
use Rattle.early_task_code.specs.Machine.{Ran, Runs, runs}
use Rattle.early_task_code.specs.Progress.{Taken, Progress, ran_or_nothing, outputs_to}
use Rattle.early_task_code.specs.Safe.{IsStateOf, IsSafeFor, IsSafe}
use Rattle.cluster.specs.History.{Setup, Happening, at_start, starts, given_at_start, after_entry, IsCell, Follows, IsHistory, cells_after}
use Rattle.cluster.specs.Results.{IsEnd}
use Rattle.cluster.proofs.Lists.{all_append, all_at}
use Rattle.sdg_base.proofs.Ports.{same_port-true}
use Rattle.cluster.proofs.Histories.{holds_along, after_by, after_cases}
use Rattle.cluster.proofs.Outputs.{IsGiven, AreFew, GivesFew, runs_gives}

-- the cells of a run: no instances stand among them
abbrev pub IsOwn : Port → Type 0
IsOwn port.Front = Unit {0}
IsOwn port.Join = Unit {0}
IsOwn (port.Slot field at) = Unit {0}
IsOwn p = ⊥

-- what is known of the ports after so many happenings
pub record Along (s : Setup) (n : ℕ) (cells : Port → Progress) : Type 0 where
  pub quiet : (p : Port) → (IsCell p → ⊥) → cells p ≡ at_start s.calls p
  pub holds : (p : Port) → IsOwn p → IsStateOf p (cells p).state
  pub safe : (from to : Port) → AllByRecursion (IsSafe s.graph s.header.slots to) ((cells from).gave to)
  pub ends : (from : Port) → AllByRecursion IsEnd ((cells from).gave port.Sink)
  pub counted : (p : Port) → (cells p).position ≤ n
  pub few : (p : Port) → IsCell p → (to : Port) → length ((cells p).gave to) ≤ (cells p).position
  pub taken : (p from : Port) → (cells p).took from ≤ (cells p).position

-- ---- one entry

-- what an item gives on a state
abbrev gives : Graph → ℕ → Port → Item → State → Ran
gives graph slots p x state = ran_or_nothing state (runs graph slots p x state)

-- whatever is known of what a safe item gives is known of what it gave
known_of : (ran : Runs) (state : State) (P : ℕ → Ran → Type 0) → ((n : ℕ) → (r : Ran) × (ran ≡ Some r) × P n r) → (n : ℕ) → P n (ran_or_nothing state ran)
known_of None state P known n = let k = known n in absurd (cc (k.1))
known_of (Some r) state P known n = let k = known n in let same : k.0 ≡ r = cc (k.1) in subst (P n) same k.2

-- what a safe item gave is safe, for as many steps as one asks
abbrev GivesSafe : Graph → ℕ → Port → ℕ → Ran → Type 0
GivesSafe graph slots p n r = IsStateOf p r.state × AllByRecursion (λ o. IsSafeFor graph slots n o.0 o.1) r.outputs

front_safe : (graph : Graph) (slots : ℕ) (x : Item) (state : State) → IsStateOf port.Front state → IsSafe graph slots port.Front x
    → (n : ℕ) → GivesSafe graph slots port.Front n (gives graph slots port.Front x state)
front_safe graph slots x state kind safe =
    known_of (runs graph slots port.Front x state) state (GivesSafe graph slots port.Front) (λ (n : ℕ). let k = safe (suc n) state kind in (k.0, k.1, (k.2, k.3)))

slot_safe : (graph : Graph) (slots field at : ℕ) (x : Item) (state : State) → IsStateOf (port.Slot field at) state → IsSafe graph slots (port.Slot field at) x
    → (n : ℕ) → GivesSafe graph slots (port.Slot field at) n (gives graph slots (port.Slot field at) x state)
slot_safe graph slots field at x state kind safe =
    known_of (runs graph slots (port.Slot field at) x state) state (GivesSafe graph slots (port.Slot field at)) (λ (n : ℕ). let k = safe (suc n) state kind in (k.0, k.1, (k.2, k.3)))

-- An item keeps the kind of the state of its cell.
keeps_kind : (graph : Graph) (slots : ℕ) (p : Port) (x : Item) (state : State) → IsOwn p → IsStateOf p state → IsSafe graph slots p x
    → IsStateOf p (gives graph slots p x state).state
keeps_kind graph slots port.Caller x state own kind safe = absurd own
keeps_kind graph slots port.Sink x state own kind safe = absurd own
keeps_kind graph slots port.Front x state own kind safe = (front_safe graph slots x state kind safe 0).0
keeps_kind graph slots port.Join x state own kind safe = kind
keeps_kind graph slots (port.Slot field at) x state own kind safe = (slot_safe graph slots field at x state kind safe 0).0
keeps_kind graph slots (port.Inst field number) x state own kind safe = absurd own

-- the outputs for one port are safe there
outputs_safe : (graph : Graph) (slots : ℕ) (os : List (Port × Item)) (to : Port) → ((n : ℕ) → AllByRecursion (λ o. IsSafeFor graph slots n o.0 o.1) os)
    → AllByRecursion (IsSafe graph slots to) (outputs_to to os)
outputs_safe graph slots [] to safe = tt
outputs_safe graph slots (o ∷ os) to safe =
    output_safe graph slots (same_port o.0 to) o os to (λ (is : same_port o.0 to ≡ true). same_port-true o.0 to is) (λ (n : ℕ). (safe n).0) (outputs_safe graph slots os to (λ (n : ℕ). (safe n).1))
  where
    output_safe : (graph : Graph) (slots : ℕ) (b : Bool) (o : Port × Item) (os : List (Port × Item)) (to : Port) → (b ≡ true → o.0 ≡ to) → ((n : ℕ) → IsSafeFor graph slots n o.0 o.1)
        → AllByRecursion (IsSafe graph slots to) (outputs_to to os) → AllByRecursion (IsSafe graph slots to) (if b then o.1 ∷ outputs_to to os else outputs_to to os)
    output_safe graph slots true o os to same safe rest = let P : Port → Type 0 = λ q. IsSafe graph slots q o.1 in (subst P (same refl) safe, rest)
    output_safe graph slots false o os to same safe rest = rest

gives_safe : (graph : Graph) (slots : ℕ) (p : Port) (x : Item) (state : State) (to : Port) → (IsOwn p → IsStateOf p state) → IsSafe graph slots p x
    → AllByRecursion (IsSafe graph slots to) (outputs_to to (gives graph slots p x state).outputs)
gives_safe graph slots port.Caller x state to kind safe = tt
gives_safe graph slots port.Sink x state to kind safe = tt
gives_safe graph slots port.Front x state to kind safe = outputs_safe graph slots _ to (λ (n : ℕ). (front_safe graph slots x state (kind tt) safe n).1)
gives_safe graph slots port.Join x state to kind safe = tt
gives_safe graph slots (port.Slot field at) x state to kind safe = outputs_safe graph slots _ to (λ (n : ℕ). (slot_safe graph slots field at x state (kind tt) safe n).1)
gives_safe graph slots (port.Inst field number) x state to kind safe = tt

few_of : (state : State) (ran : Runs) → GivesFew ran → AreFew (ran_or_nothing state ran).outputs
few_of state None few = tt
few_of state (Some r) few = few

-- at most one output, and a result where it is for the sink
one_at_most : (os : List (Port × Item)) (to : Port) → AreFew os → length (outputs_to to os) ≤ 1
one_at_most [] to few = omega arith
one_at_most (o ∷ []) to few = one (same_port o.0 to) o.1
  where
    one : (b : Bool) (x : Item) → length (if b then x ∷ [] else []) ≤ 1
    one true x = omega arith
    one false x = omega arith
one_at_most (o ∷ p ∷ os) to few = absurd few

ends_alone : (os : List (Port × Item)) → AreFew os → AllByRecursion IsEnd (outputs_to port.Sink os)
unfolding same_port
ends_alone [] few = tt
ends_alone (o ∷ []) few = is_end o.0 o.1 few
  where
    is_end : (p : Port) (x : Item) → IsGiven p x → AllByRecursion IsEnd (if same_port p port.Sink then x ∷ [] else [])
    is_end port.Sink (item.Done call outcome) given = (tt, tt)
    is_end port.Sink (item.Start call method args) given = absurd given
    is_end port.Sink (item.Work call t key turns vars) given = absurd given
    is_end port.Sink (item.Visit call t width turns vars) given = absurd given
    is_end port.Sink (item.Part call t width instance turns vars value) given = absurd given
    is_end (port.Slot field at) x given = tt
    is_end port.Caller x given = absurd given
    is_end port.Front x given = absurd given
    is_end port.Join x given = absurd given
    is_end (port.Inst field number) x given = absurd given
ends_alone (o ∷ p ∷ os) few = absurd few

-- what an entry's item gave
abbrev given_by : Setup → (Port → Progress) → Taken → Ran
given_by s cells e = gives s.graph s.header.slots e.cell e.item (cells e.cell).state

-- the item of an entry is safe at its cell
item_safe : (s : Setup) (n : ℕ) (cells : Port → Progress) (e : Taken) → Follows cells e → Along s n cells → IsSafe s.graph s.header.slots e.cell e.item
item_safe s n cells e follows now = all_at (IsSafe s.graph s.header.slots e.cell) _ _ e.item (now.safe e.from e.cell) follows.given

fewer : (s : Setup) (cells : Port → Progress) (e : Taken) → AreFew (given_by s cells e).outputs
fewer s cells e = few_of (cells e.cell).state _ (runs_gives s.graph s.header.slots e.cell e.item (cells e.cell).state)

step_quiet : (s : Setup) (n : ℕ) (cells : Port → Progress) (e : Taken) → Follows cells e → Along s n cells
    → (p : Port) → (IsCell p → ⊥) → after_entry s e cells p ≡ at_start s.calls p
step_quiet s n cells e follows now p not_cell =
    after_cases (λ (q : Progress). q ≡ at_start s.calls p) s e cells p
    (λ (is : same_port e.cell p ≡ true). absurd (not_cell (subst IsCell (same_port-true e.cell p is) follows.is_cell)))
    (λ _. now.quiet p not_cell)

step_holds : (s : Setup) (n : ℕ) (cells : Port → Progress) (e : Taken) → Follows cells e → Along s n cells
    → (p : Port) → IsOwn p → IsStateOf p (after_entry s e cells p).state
step_holds s n cells e follows now p =
    after_by (λ (q : Port) (a : Progress). IsOwn q → IsStateOf q a.state) s e cells p
    (λ (own : IsOwn e.cell). keeps_kind s.graph s.header.slots e.cell e.item (cells e.cell).state own (now.holds e.cell own) (item_safe s n cells e follows now))
    (now.holds p)

step_safe : (s : Setup) (n : ℕ) (cells : Port → Progress) (e : Taken) → Follows cells e → Along s n cells
    → (from to : Port) → AllByRecursion (IsSafe s.graph s.header.slots to) ((after_entry s e cells from).gave to)
step_safe s n cells e follows now from to =
    after_by (λ (q : Port) (a : Progress). AllByRecursion (IsSafe s.graph s.header.slots to) (a.gave to)) s e cells from
    (all_append (IsSafe s.graph s.header.slots to) ((cells e.cell).gave to) _ (now.safe e.cell to)
    (gives_safe s.graph s.header.slots e.cell e.item (cells e.cell).state to (now.holds e.cell) (item_safe s n cells e follows now)))
    (now.safe from to)

step_ends : (s : Setup) (n : ℕ) (cells : Port → Progress) (e : Taken) → Along s n cells
    → (from : Port) → AllByRecursion IsEnd ((after_entry s e cells from).gave port.Sink)
step_ends s n cells e now from =
    after_by (λ (q : Port) (a : Progress). AllByRecursion IsEnd (a.gave port.Sink)) s e cells from
    (all_append IsEnd ((cells e.cell).gave port.Sink) _ (now.ends e.cell) (ends_alone (given_by s cells e).outputs (fewer s cells e)))
    (now.ends from)

step_counted : (s : Setup) (n : ℕ) (cells : Port → Progress) (e : Taken) → Along s n cells → (p : Port) → (after_entry s e cells p).position ≤ n + 1
step_counted s n cells e now p =
    after_by (λ (q : Port) (a : Progress). a.position ≤ n + 1) s e cells p
    (let before : (cells e.cell).position ≤ n = now.counted e.cell in omega arith)
    (let before : (cells p).position ≤ n = now.counted p in omega arith)

longer : {A : Type 0} (xs ys : List A) (n : ℕ) → length xs ≤ n → length ys ≤ 1 → length (xs ++ ys) ≤ n + 1
longer xs ys n a b = rw length-append (omega arith)

step_few : (s : Setup) (n : ℕ) (cells : Port → Progress) (e : Taken) → Along s n cells
    → (p : Port) → IsCell p → (to : Port) → length ((after_entry s e cells p).gave to) ≤ (after_entry s e cells p).position
step_few s n cells e now p =
    after_by (λ (q : Port) (a : Progress). IsCell q → (to : Port) → length (a.gave to) ≤ a.position) s e cells p
    (λ (is : IsCell e.cell) (to : Port). longer ((cells e.cell).gave to) _ (cells e.cell).position (now.few e.cell is to) (one_at_most (given_by s cells e).outputs to (fewer s cells e)))
    (now.few p)

-- one more, or as many
took_more : (b : Bool) (n k : ℕ) → n ≤ k → (if b then n + 1 else n) ≤ k + 1
took_more true n k h = omega arith
took_more false n k h = omega arith

step_taken : (s : Setup) (n : ℕ) (cells : Port → Progress) (e : Taken) → Along s n cells
    → (p from : Port) → (after_entry s e cells p).took from ≤ (after_entry s e cells p).position
step_taken s n cells e now p from =
    after_by (λ (q : Port) (a : Progress). a.took from ≤ a.position) s e cells p
    (took_more (same_port from e.from) ((cells e.cell).took from) (cells e.cell).position (now.taken e.cell from))
    (now.taken p from)

step_along : (s : Setup) (n : ℕ) (cells : Port → Progress) (e : Taken) → Follows cells e → Along s n cells → Along s (n + 1) (λ p. after_entry s e cells p)
step_along s n cells e follows now = record {
  quiet = step_quiet s n cells e follows now;
  holds = step_holds s n cells e follows now;
  safe = step_safe s n cells e follows now;
  ends = step_ends s n cells e now;
  counted = step_counted s n cells e now;
  few = step_few s n cells e now;
  taken = step_taken s n cells e now;
}

-- ---- at the start

start_holds : (calls : List Call) (p : Port) → IsOwn p → IsStateOf p (at_start calls p).state
start_holds calls port.Front own = tt
start_holds calls port.Join own = tt
start_holds calls (port.Slot field at) own = tt
start_holds calls port.Caller own = absurd own
start_holds calls port.Sink own = absurd own
start_holds calls (port.Inst field number) own = absurd own

-- each call is safe where calls begin
abbrev pub StartsAreSafe : Setup → Type 0
StartsAreSafe s = AllByRecursion (IsSafe s.graph s.header.slots port.Front) (starts s.calls)

start_safe : (s : Setup) → StartsAreSafe s → (from to : Port) → AllByRecursion (IsSafe s.graph s.header.slots to) (given_at_start s.calls from to)
start_safe s safe port.Caller port.Front = safe
start_safe s safe port.Caller port.Caller = tt
start_safe s safe port.Caller port.Sink = tt
start_safe s safe port.Caller port.Join = tt
start_safe s safe port.Caller (port.Slot field at) = tt
start_safe s safe port.Caller (port.Inst field number) = tt
start_safe s safe port.Sink to = tt
start_safe s safe port.Front to = tt
start_safe s safe port.Join to = tt
start_safe s safe (port.Slot field at) to = tt
start_safe s safe (port.Inst field number) to = tt

start_ends : (calls : List Call) (from : Port) → AllByRecursion IsEnd (given_at_start calls from port.Sink)
start_ends calls port.Caller = tt
start_ends calls port.Sink = tt
start_ends calls port.Front = tt
start_ends calls port.Join = tt
start_ends calls (port.Slot field at) = tt
start_ends calls (port.Inst field number) = tt

start_few : (calls : List Call) (p : Port) → IsCell p → (to : Port) → length (given_at_start calls p to) ≤ 0
start_few calls port.Caller is to = absurd is
start_few calls port.Sink is to = absurd is
start_few calls port.Front is to = omega arith
start_few calls port.Join is to = omega arith
start_few calls (port.Slot field at) is to = omega arith
start_few calls (port.Inst field number) is to = omega arith

start_along : (s : Setup) → StartsAreSafe s → Along s 0 (λ p. at_start s.calls p)
start_along s safe = record {
  quiet = λ p not_cell. refl;
  holds = start_holds s.calls;
  safe = start_safe s safe;
  ends = start_ends s.calls;
  counted = λ p. omega arith;
  few = start_few s.calls;
  taken = λ p from. omega arith;
}

-- What a history of safe calls leaves.
pub along : (s : Setup) (hist : List Happening) → StartsAreSafe s → IsHistory s hist → Along s (length hist) (λ p. cells_after s hist p)
along s hist safe history =
    let P : ℕ → Type 0 = λ n. Along s n (λ p. cells_after s hist p) in
    subst P (zero-add (length hist)) (holds_along (λ (n : ℕ) (cells : Port → Progress). Along s n cells) s (step_along s) (λ p. at_start s.calls p) hist 0 history (start_along s safe))
