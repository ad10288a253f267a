-- No item of an accepted class goes wrong.
use Rattle.std.proofs.Common.{◌≡◌, ℕ, zero, suc, ◌+◌, ◌<◌, ℤ, List, [], ◌∷◌, map, length, Some, slice_get, refl, ap, sym, subst, arith}
use Rattle.std.specs.List.{AllByRecursion}
use Rattle.sdg_base.specs.declared.val.Val.{Val}
use Rattle.sdg_base.specs.declared.call.Call.{Call}
use Rattle.sdg_base.specs.declared.port.Port.{Port}
use Rattle.sdg_base.specs.declared.port.Port.TheVariants as port
use Rattle.sdg_base.specs.declared.item.Item.{Item}
use Rattle.sdg_base.specs.declared.item.Item.TheVariants as item
use Rattle.java_tree.specs.declared.tree.Class.{Class}
use Rattle.java_tree.specs.declared.tree.BlockItem.{BlockItem}
use Rattle.early_tables.specs.Entries.{Entries}
use Rattle.early_tables.specs.Contents.{entry_at}
use Rattle.early_tables.specs.States.{State, Nothing, OfTable}
use Rattle.early_source.specs.Variables.{Variables, Tables}
use Rattle.early_source.specs.Members.{fields}
use Rattle.early_source.specs.Source.{CallState, Fresh, At, state_of}
use Rattle.early_source.specs.Blocks.{Place, AtMark, AtEnd}
use Rattle.early_task_code.specs.declared.graph.Graph.{Graph}
use Rattle.early_task_code.specs.Machine.{Ran, runs}
use Rattle.early_task_code.specs.Safe.{IsStateOf, IsSafeFor, IsSafe}
use Rattle.cluster.specs.History.{starts, starts_from}
use Rattle.agreement.specs.Simulation.{Simulation, Fitting, entries_in, field_names}
use Rattle.agreement.proofs.Histories.{AllFit}

-- tables that all hold these entries
abbrev all_with : List (List ℕ) → Entries → Tables
all_with names entries = map (λ name. let t : List ℕ × Entries = (name, entries) in t) names

same_names : (names : List (List ℕ)) (entries : Entries) → field_names (all_with names entries) ≡ names
same_names [] entries = refl
same_names (x ∷ names) entries = ap (λ (rest : List (List ℕ)). x ∷ rest) (same_names names entries)

all_hold : (names : List (List ℕ)) (entries : Entries) (field : ℕ) → field < length names → entries_in (slice_get (all_with names entries) field) ≡ entries
all_hold [] entries field l = absurd (omega arith)
all_hold (x ∷ names) entries zero l = refl
all_hold (x ∷ names) entries (suc field) l = all_hold names entries field (omega arith)

-- it runs on this state, and what it gives is safe for so many steps
abbrev IsSafeOn : Graph → ℕ → ℕ → Port → Item → State → Type 0
IsSafeOn graph slots n to x state = (r : Ran) × (runs graph slots to x state ≡ Some r) × IsStateOf to r.state × AllByRecursion (λ o. IsSafeFor graph slots n o.0 o.1) r.outputs

not_fresh : (place : Place) → state_of place ≡ Fresh → ⊥
not_fresh (AtMark rest variables turns key) e = absurd cc
not_fresh (AtEnd outcome) e = absurd cc

-- work that agrees runs on each state of its slot, where what it gives goes right
work_safe : (class : Class) (graph : Graph) (slots : ℕ) (Fits : Call → Type 0) (Agrees : Port → Item → CallState → Type 0) → Simulation class graph slots Fits Agrees
    → (n field at c t : ℕ) (key : ℤ) (turns : ℕ) (vars : List Val) (rest : List BlockItem) (variables : Variables) (left : ℕ) (carried : Val) (state : State)
    → Agrees (port.Slot field at) (item.Work c t (Some key) turns vars) (At rest variables left carried) → field < length (fields class) → IsStateOf (port.Slot field at) state
    → ((to : Port) (out : Item) (place : Place) → Agrees to out (state_of place) → IsSafeFor graph slots n to out)
    → IsSafeOn graph slots n (port.Slot field at) (item.Work c t (Some key) turns vars) state
work_safe class graph slots Fits Agrees sim n field at c t key turns vars rest variables left carried Nothing a l kind later = absurd kind
work_safe class graph slots Fits Agrees sim n field at c t key turns vars rest variables left carried (OfTable entries) a l kind later =
    let tables = all_with (fields class) entries in
    let b = sim.continues field at c t key turns vars rest variables left carried tables entries a (same_names (fields class) entries) (ap (entry_at key) (sym (all_hold (fields class) entries field l))) in (
      record { outputs = (b.gives.to, b.gives.output) ∷ []; state = OfTable b.entries_after },
      b.gives.gives,
      tt,
      (later b.gives.to b.gives.output b.place b.gives.agrees, tt),
    )

-- An item that agrees with a state that is not fresh goes right for so many steps.
agreeing_safe : (class : Class) (graph : Graph) (slots : ℕ) (Fits : Call → Type 0) (Agrees : Port → Item → CallState → Type 0) → Simulation class graph slots Fits Agrees
    → (n : ℕ) (to : Port) (x : Item) (state : CallState) → (state ≡ Fresh → ⊥) → Agrees to x state → Fitting class slots to x state → IsSafeFor graph slots n to x
agreeing_safe class graph slots Fits Agrees sim n port.Sink x state ne a h = tt
agreeing_safe class graph slots Fits Agrees sim n port.Caller x state ne a h = absurd h
agreeing_safe class graph slots Fits Agrees sim n port.Join x state ne a h = absurd h
agreeing_safe class graph slots Fits Agrees sim n (port.Inst f k) x state ne a h = absurd h
agreeing_safe class graph slots Fits Agrees sim n port.Front (item.Start c m args) Fresh ne a h = absurd (ne refl)
agreeing_safe class graph slots Fits Agrees sim zero (port.Slot field at) (item.Work c t (Some key) turns vars) (At rest variables left carried) ne a h = tt
agreeing_safe class graph slots Fits Agrees sim (suc n) (port.Slot field at) (item.Work c t (Some key) turns vars) (At rest variables left carried) ne a h =
    λ state kind. work_safe class graph slots Fits Agrees sim n field at c t key turns vars rest variables left carried state a h.0 kind
    (λ to out place agrees. agreeing_safe class graph slots Fits Agrees sim n to out (state_of place) (not_fresh place) agrees (sim.fitting to out (state_of place) agrees))
agreeing_safe class graph slots Fits Agrees sim n to x state ne a h = absurd h

-- The start of a call that fits goes right.
start_safe : (class : Class) (graph : Graph) (slots : ℕ) (Fits : Call → Type 0) (Agrees : Port → Item → CallState → Type 0) → Simulation class graph slots Fits Agrees
    → (c : ℕ) (call : Call) → Fits call → IsSafe graph slots port.Front (item.Start c call.method call.args)
start_safe class graph slots Fits Agrees sim c call fits = λ n. for_steps n
  where
    on_state : (n : ℕ) (state : State) → IsStateOf port.Front state → IsSafeOn graph slots n port.Front (item.Start c call.method call.args) state
    on_state n (OfTable entries) kind = absurd kind
    on_state n Nothing kind =
        let b = sim.begins c call [] fits in (
          record { outputs = (b.gives.to, b.gives.output) ∷ []; state = Nothing },
          b.gives.gives,
          tt,
          (agreeing_safe class graph slots Fits Agrees sim n b.gives.to b.gives.output (state_of b.place) (not_fresh b.place) b.gives.agrees (sim.fitting b.gives.to b.gives.output (state_of b.place) b.gives.agrees), tt),
        )

    for_steps : (n : ℕ) → IsSafeFor graph slots n port.Front (item.Start c call.method call.args)
    for_steps zero = tt
    for_steps (suc n) = λ state kind. on_state n state kind

starts_safe_from : (class : Class) (graph : Graph) (slots : ℕ) (Fits : Call → Type 0) (Agrees : Port → Item → CallState → Type 0) → Simulation class graph slots Fits Agrees
    → (n : ℕ) (calls : List Call) → AllByRecursion Fits calls → AllByRecursion (IsSafe graph slots port.Front) (starts_from n calls)
starts_safe_from class graph slots Fits Agrees sim n [] fit = tt
starts_safe_from class graph slots Fits Agrees sim n (call ∷ calls) fit = (start_safe class graph slots Fits Agrees sim n call fit.0, starts_safe_from class graph slots Fits Agrees sim (n + 1) calls fit.1)

-- The starts of calls that fit go right.
pub starts_safe : (class : Class) (graph : Graph) (slots : ℕ) (Fits : Call → Type 0) (Agrees : Port → Item → CallState → Type 0) → Simulation class graph slots Fits Agrees
    → (calls : List Call) → AllByRecursion Fits calls → AllByRecursion (IsSafe graph slots port.Front) (starts calls)
starts_safe class graph slots Fits Agrees sim calls fit = starts_safe_from class graph slots Fits Agrees sim 1 calls fit

-- calls that fit one by one fit by number
pub all_fit_by_number : (Fits : Call → Type 0) (calls : List Call) → AllByRecursion Fits calls → AllFit Fits calls
all_fit_by_number Fits calls fit zero call e = absurd cc
all_fit_by_number Fits [] fit (suc n) call e = absurd cc
all_fit_by_number Fits (x ∷ calls) fit (suc zero) call e = let same : x ≡ call = cc in subst Fits same fit.0
all_fit_by_number Fits (x ∷ calls) fit (suc (suc n)) call e = all_fit_by_number Fits calls fit.1 (suc n) call e
