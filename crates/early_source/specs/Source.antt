-- The annotated source, step by step: a configuration, what each step does to it, and a list of steps.
use Rattle.std.specs.Prelude.{◌≡◌, ℕ, zero, suc, ◌+◌, List, [], ◌∷◌, map, Option, Some, None, slice_get, slice_set}
use Rattle.std.specs.List.{AllByRecursion}
use Rattle.sdg_base.specs.Limits.{turns_at_start}
use Rattle.sdg_base.specs.declared.val.Val.{Val}
use Rattle.sdg_base.specs.declared.val.Outcome.{Outcome}
use Rattle.sdg_base.specs.declared.call.Call.{Call}
use Rattle.sdg_base.specs.declared.call.Step.{Step}
use Rattle.sdg_base.specs.declared.call.Step.TheVariants.{Begin, Block}
use Rattle.java_tree.specs.declared.tree.Class.{Class}
use Rattle.java_tree.specs.declared.tree.Method.{Method}
use Rattle.java_tree.specs.declared.tree.BlockItem.{BlockItem}
use Rattle.early_source.specs.Variables.{Variables, Tables}
use Rattle.early_source.specs.Members.{fields, methods, empty_tables, variables_of}
use Rattle.early_source.specs.Blocks.{Place, AtMark, AtEnd, run_from, run_block}

-- a call that hasn't begun, one that waits at a mark, and one that has ended
pub data CallState : Type 0 where
  Fresh : CallState
  At : (rest : List BlockItem) (variables : Variables) (turns : ℕ) (key : Val) → CallState
  Ended : Outcome → CallState

pub record Source : Type 0 where
  pub tables : Tables
  pub calls : List CallState

abbrev pub start : Class → List Call → Source
start class calls = record { tables = empty_tables class; calls = map (λ _. Fresh) calls }

-- calls count from 1
abbrev pub nth : {A : Type 0} → List A → ℕ → Option A
nth xs zero = None
nth xs (suc n) = slice_get xs n

abbrev pub state_of : Place → CallState
state_of (AtMark rest variables turns key) = At rest variables turns key
state_of (AtEnd outcome) = Ended outcome

abbrev pub with_state : ℕ → CallState → List CallState → List CallState
with_state zero state calls = calls
with_state (suc n) state calls = slice_set calls n state

abbrev pub moved : Source → ℕ → Option (Place × Tables) → Option Source
moved now c None = None
moved now c (Some r) = Some (record { tables = r.1; calls = with_state c (state_of r.0) now.calls })

abbrev pub begun : Class → Option Method → List Val → Tables → Option (Place × Tables)
begun class None args tables = None
begun class (Some m) args tables = run_from (fields class) m.body None (variables_of m args) turns_at_start tables

abbrev pub begins : Class → Source → ℕ → Option CallState → Option Call → Option Source
begins class now c (Some Fresh) (Some call) = moved now c (begun class (slice_get (methods class) call.method) call.args now.tables)
begins class now c _ _ = None

abbrev pub goes_on : Class → Source → ℕ → Option CallState → Option Source
goes_on class now c (Some (At rest variables turns key)) = moved now c (run_block (fields class) rest variables turns key now.tables)
goes_on class now c _ = None

-- None where the step isn't the next one of its call
abbrev pub step : Class → List Call → Source → Step → Option Source
step class calls now (Begin c) = begins class now c (nth now.calls c) (nth calls c)
step class calls now (Block c None) = goes_on class now c (nth now.calls c)
step class calls now _ = None

abbrev pub step_from : Class → List Call → Option Source → Step → Option Source
step_from class calls None s = None
step_from class calls (Some now) s = step class calls now s

abbrev pub steps_from : Class → List Call → Option Source → List Step → Option Source
steps_from class calls now [] = now
steps_from class calls now (s ∷ steps) = steps_from class calls (step_from class calls now s) steps

-- None where a step is illegal
abbrev pub source : Class → List Call → List Step → Option Source
source class calls history = steps_from class calls (Some (start class calls)) history

abbrev pub outcome_in : Option CallState → Option Outcome
outcome_in (Some (Ended outcome)) = Some outcome
outcome_in _ = None

-- how a call ended, if it has
abbrev pub outcome : Source → ℕ → Option Outcome
outcome now c = outcome_in (nth now.calls c)

-- each call's outcome beside its number
abbrev pub numbered : {A : Type 0} → ℕ → List A → List (ℕ × A)
numbered n [] = []
numbered n (x ∷ xs) = (n, x) ∷ numbered (n + 1) xs

-- The history is legal, and stepping it ends each of these calls with its outcome.
pub record Explains (class : Class) (calls : List Call) (history : List Step) (results : List (ℕ × Outcome)) : Type 0 where
  pub end : Source
  pub legal : source class calls history ≡ Some end
  pub gives : AllByRecursion (λ r. outcome end r.0 ≡ Some r.1) results
