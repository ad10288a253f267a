-- A task runs to an end that fits.
use Rattle.std.proofs.Common.{◌≡◌, refl, ℕ, ℤ, ◌<◌, ◌≤◌, arith, List, [], ◌∷◌, length, Option, Some, slice_get}
use Rattle.sdg_base.specs.Limits.{turns_at_start}
use Rattle.sdg_base.specs.declared.val.Val.{Val}
use Rattle.sdg_base.specs.declared.val.Val.TheVariants as val
use Rattle.state_classes.specs.States.{State}
use Rattle.flat_code.specs.declared.graph.GraphMethod.{GraphMethod}
use Rattle.flat_code.specs.declared.graph.MethodKind.TheVariants as method_kind
use Rattle.flat_code.specs.declared.graph.Graph.{Graph}
use Rattle.flat_code.specs.declared.graph.Task.{Task}
use Rattle.flat_code.specs.declared.graph.TaskKind.TheVariants as kind
use Rattle.flat_code.specs.declared.graph.Instr.{Instr}
use Rattle.flat_code.specs.declared.graph.Instr.TheVariants as instr
use Rattle.flat_code.specs.Machine.{calls_of, run}
use Rattle.flat_code.specs.Ways.{IsIn, Reaches, ReachesStart}
use Rattle.flat_code.specs.Verified.{IsVerified, IsTask, IsMethod, TaskBegins, ReachesCode, IsOfTask, TakesBrought}
use Rattle.graph_safety.proofs.Frames.{Holds, ArgsFit, HasKey, Allowed, setting_of, frame}
use Rattle.graph_safety.proofs.Carried.{IsOne}
use Rattle.graph_safety.proofs.Calls.{calls_fit}
use Rattle.graph_safety.proofs.Runs.{Standing, FrameFits, IsStateFor, RunsRight, runs_right}

-- a task with what it begins with
pub record TaskFits (graph : Graph) (k : ℕ) (t : Task) (m : GraphMethod) (key : Option ℤ) (gathered variables : List Val) (turns : ℕ) : Type 0 where
  pub is_task : IsTask graph k t
  pub is_method : IsMethod graph t.method m
  pub few : turns ≤ turns_at_start
  pub carried : (v : ℕ) → IsIn v t.vars → Holds m gathered variables v
  pub one : (v : ℕ) → IsIn v t.vars → IsOne m v
  pub room : length variables ≡ length m.vars
  pub keyed : t.kind ≡ kind.Keyed → HasKey key
  pub merges : t.kind ≡ kind.Join → (c : ℕ) → TakesBrought graph t c → (of : GraphMethod) → IsMethod graph c of → of.kind ≡ method_kind.Merge → ArgsFit of (val.Unit ∷ []) gathered

module _ (graph : Graph) (verified : IsVerified graph) (k : ℕ) (t : Task) (m : GraphMethod) (key : Option ℤ) (gathered variables : List Val) (turns : ℕ) (task : TaskFits graph k t m key gathered variables turns) where
  pub reaches_code : (at : ℕ) (i : Instr) → Reaches m.code t.at at → slice_get m.code at ≡ Some i → ReachesCode graph t at i
  reaches_code at i reached is_code = record { of = m; is_method = task.is_method; reaches = reached; is_code = is_code }

  pub of_task : (at : ℕ) (i : Instr) → Reaches m.code t.at at → slice_get m.code at ≡ Some i → IsOfTask graph t i
  of_task at i reached is_code = verified.in_tasks k t at i task.is_task (reaches_code at i reached is_code)

  pub allowed : (i : Instr) → IsOfTask graph t i → Allowed graph t.field key gathered i
  allowed (instr.Access name method) h = h
  allowed instr.Key h = task.keyed h
  allowed (instr.Merge c) h = λ of is_method is_kind. task.merges h.0 c h.1 of is_method is_kind
  allowed _ h = tt

  abbrev pub on : Standing graph t.method m (calls_of graph.fields graph.methods) t.field key gathered t.at turns
  on = record {
    is_method = task.is_method;
    begins = TaskBegins k t task.is_task refl;
    allowed = λ at i reached is_code. allowed i (of_task at i reached is_code);
    fits = λ fewer less. let few = task.few in let below : fewer < turns_at_start = omega arith in calls_fit graph verified turns_at_start fewer below;
  }

  first : FrameFits graph verified t.method m (calls_of graph.fields graph.methods) t.field key gathered t.at turns t.vars on (frame t.at [] variables turns)
  first = record {
    reached = ReachesStart;
    stacked = (verified.types t.method m task.is_method).starts t.at (TaskBegins k t task.is_task refl);
    needed = λ v h. task.carried v (verified.variables k t m v task.is_task task.is_method h);
    carried = task.carried;
    room = task.room;
    turns = omega arith;
    spent = λ behind. absurd (behind.only.no_start k t task.is_task refl refl);
  }

  pub task_runs : (state : State) → IsStateFor graph t.field state
      → RunsRight graph verified t.method m (calls_of graph.fields graph.methods) t.field key gathered t.at turns t.vars on state
      (run (setting_of graph (calls_of graph.fields graph.methods) t.field key gathered) m.code (frame t.at [] variables turns) state)
  task_runs state at = runs_right graph verified t.method m (calls_of graph.fields graph.methods) t.field key gathered t.at turns t.vars on (frame t.at [] variables turns) state first at
