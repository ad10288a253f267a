-- A safe item runs on each state of its port's kind, leaves a state of that kind, and what it gives is safe.
use Rattle.std.proofs.Common.{◌≡◌, ◌≢◌, ℕ, suc, List, [], ◌∷◌, Some, refl, sym, subst, ◌∙◌}
use Rattle.std.specs.List.{AllByRecursion}
use Rattle.sdg_base.specs.declared.port.Port.{Port}
use Rattle.sdg_base.specs.declared.port.Port.TheVariants as port
use Rattle.sdg_base.specs.declared.item.Item.{Item}
use Rattle.early_tables.specs.States.{State}
use Rattle.early_task_code.specs.declared.graph.Graph.{Graph}
use Rattle.early_task_code.specs.Machine.{Ran, runs}
use Rattle.early_task_code.specs.Safe.{IsStateOf, IsSafeFor, IsSafe}

pub record SafeStep (graph : Graph) (slots : ℕ) (to : Port) (x : Item) (state : State) : Type 0 where
  pub ran : Ran
  pub runs_so : runs graph slots to x state ≡ Some ran
  pub state_stays : IsStateOf to ran.state
  pub outputs_safe : AllByRecursion (λ o. IsSafe graph slots o.0 o.1) ran.outputs

all_at_each : {A : Type 0} (P : ℕ → A → Type 0) (xs : List A) → ((n : ℕ) → AllByRecursion (P n) xs) → AllByRecursion (λ x. (n : ℕ) → P n x) xs
all_at_each P [] each = tt
all_at_each P (x ∷ xs) each = (λ n. (each n).0, all_at_each P xs (λ n. (each n).1))

abbrev RunsFor : Graph → ℕ → ℕ → Port → Item → State → Type 0
RunsFor graph slots n to x state = (r : Ran) × (runs graph slots to x state ≡ Some r) × IsStateOf to r.state × AllByRecursion (λ o. IsSafeFor graph slots n o.0 o.1) r.outputs

same_ran : (a b : Ran) → Some a ≡ Some b → a ≡ b
same_ran a b e = cc

step_from : (graph : Graph) (slots : ℕ) (to : Port) (x : Item) (state : State) → ((n : ℕ) → RunsFor graph slots n to x state) → SafeStep graph slots to x state
step_from graph slots to x state each =
    let r = (each 0).0 in
    record {
      ran = r;
      runs_so = (each 0).1;
      state_stays = (each 0).2;
      outputs_safe = all_at_each (λ n o. IsSafeFor graph slots n o.0 o.1) r.outputs
          (λ n. subst (λ (s : Ran). AllByRecursion (λ o. IsSafeFor graph slots n o.0 o.1) s.outputs) (same_ran (each n).0 r (sym (each n).1 ∙ (each 0).1)) (each n).3);
    }

pub safe_step : (graph : Graph) (slots : ℕ) (to : Port) (x : Item) (state : State) → to ≢ port.Sink → IsSafe graph slots to x → IsStateOf to state → SafeStep graph slots to x state
safe_step graph slots port.Sink x state cell safe is = absurd (cell refl)
safe_step graph slots port.Caller x state cell safe is = step_from graph slots port.Caller x state (λ n. safe (suc n) state is)
safe_step graph slots port.Front x state cell safe is = step_from graph slots port.Front x state (λ n. safe (suc n) state is)
safe_step graph slots port.Join x state cell safe is = step_from graph slots port.Join x state (λ n. safe (suc n) state is)
safe_step graph slots (port.Slot field at) x state cell safe is = step_from graph slots (port.Slot field at) x state (λ n. safe (suc n) state is)
safe_step graph slots (port.Inst field number) x state cell safe is = step_from graph slots (port.Inst field number) x state (λ n. safe (suc n) state is)

-- The sink's items are safe.
pub safe_at_sink : (graph : Graph) (slots : ℕ) (x : Item) → IsSafe graph slots port.Sink x
safe_at_sink graph slots x n = tt
