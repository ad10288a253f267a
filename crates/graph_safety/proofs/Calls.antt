-- Calls of helper and merge methods go right with fewer turns than they may be deep.
use Rattle.std.proofs.Common.{◌≡◌, ◌≢◌, refl, sym, subst, ◌∙◌, ℕ, zero, suc, ◌-◌, ◌<◌, ◌≤◌, arith, true, false, List, [], length, replicate, Option, Some, None, slice_get}
use Rattle.std.proofs.lemmas.Bool.{false≢true}
use Rattle.std.proofs.lemmas.List.{length-append, length-replicate}
use Rattle.sdg_base.specs.declared.val.Val.{Val}
use Rattle.sdg_base.specs.declared.val.Val.TheVariants as val
use Rattle.flat_code.specs.declared.graph.Graph.{Graph}
use Rattle.flat_code.specs.declared.graph.GraphMethod.{GraphMethod}
use Rattle.flat_code.specs.declared.graph.MethodKind.{MethodKind}
use Rattle.flat_code.specs.declared.graph.MethodKind.TheVariants as method_kind
use Rattle.flat_code.specs.declared.graph.Instr.{Instr}
use Rattle.flat_code.specs.declared.graph.Instr.TheVariants as instr
use Rattle.flat_code.specs.Machine.{Frame, Calls, Ending, Returned, Stopped, CutTo, PartFor, Ran, calls_within, first_variables, first_frame, no_state, given_by, given, method_run, run}
use Rattle.flat_code.specs.Ways.{ReachesStart}
use Rattle.flat_code.specs.Verified.{IsVerified, IsMethod, MethodBegins, IsOfBody, is_of_entry}
use Rattle.graph_safety.proofs.Lists.{none_some}
use Rattle.graph_safety.proofs.Frames.{ArgsFit, CalledFits, CallsFit, setting_of, Allowed}
use Rattle.graph_safety.proofs.Ways.{among}
use Rattle.graph_safety.proofs.Runs.{Standing, FrameFits, EndsRight, RunsRight, runs_right}

pub first_variables_as_many : (of : GraphMethod) (args : List Val) → length args ≤ length of.vars → length (first_variables of args) ≡ length of.vars
first_variables_as_many of args most =
    let a = length-append args (replicate (length of.vars - length args) val.Unit) in
    let b = length-replicate (length of.vars - length args) val.Unit in
    omega arith

no_entry_code : (kind : MethodKind) (i : Instr) → kind ≢ method_kind.Entry → IsOfBody kind i → is_of_entry i ≡ false
no_entry_code method_kind.Entry i other h = absurd (other refl)
no_entry_code method_kind.Helper i other h = h.0
no_entry_code method_kind.Merge i other h = h

allowed_outside : (graph : Graph) (gathered : List Val) (i : Instr) → is_of_entry i ≡ false → Allowed graph None None gathered i
allowed_outside graph gathered (instr.Access name k) e = absurd (false≢true (sym e))
allowed_outside graph gathered instr.Key e = absurd (false≢true (sym e))
allowed_outside graph gathered (instr.Merge k) e = absurd (false≢true (sym e))
allowed_outside graph gathered _ e = tt

module _ (graph : Graph) (verified : IsVerified graph) where
  called_right : (k : ℕ) (of : GraphMethod) (calls : Calls) (args gathered : List Val) (turns : ℕ) → IsMethod graph k of → ArgsFit of args gathered
      → ((fewer : ℕ) → fewer < turns → CallsFit graph calls fewer)
      → CalledFits of turns (given_by (run (setting_of graph calls None None gathered) of.code (first_frame of args turns) no_state))
  called_right k of calls args gathered turns is args_fit fits = ends (run (setting_of graph calls None None gathered) of.code (first_frame of args turns) no_state)
      (runs_right graph verified k of calls None None gathered 0 turns [] on (first_frame of args turns) no_state first (λ name e. absurd (none_some name e)))
    where
      on : Standing graph k of calls None None gathered 0 turns
      on = record {
        is_method = is;
        begins = MethodBegins args_fit.no_entry;
        allowed = λ at i reached is_code. allowed_outside graph gathered i (no_entry_code of.kind i args_fit.no_entry (verified.bodies k of at i is is_code));
        fits = fits;
      }

      first : FrameFits graph verified k of calls None None gathered 0 turns [] on (first_frame of args turns)
      first = record {
        reached = ReachesStart;
        stacked = (verified.types k of is).starts 0 (MethodBegins args_fit.no_entry);
        needed = λ v h. args_fit.hold v (verified.helpers k of v is args_fit.no_entry h);
        carried = λ v h. absurd (among v [] h);
        room = let a = args_fit.as_many in let b = verified.parameters k of is in first_variables_as_many of args (omega arith);
        turns = omega arith;
        spent = λ behind. let e = behind.only.behind in absurd (omega arith);
      }

      outside : (at : ℕ) (i : Instr) → slice_get of.code at ≡ Some i → is_of_entry i ≡ true → ⊥
      outside at i is_code e = false≢true (sym (no_entry_code of.kind i args_fit.no_entry (verified.bodies k of at i is is_code)) ∙ e)

      how : (ending : Ending) (f : Frame) → f.turns ≤ turns → EndsRight graph verified k of calls None None gathered 0 turns [] on ending f → CalledFits of turns (given ending f)
      how (Returned v) f left h = (h.4, left)
      how (Stopped outcome) f left h = (h, left)
      how (CutTo t) f left h = outside f.at (instr.Cut t) h.1 refl
      how (PartFor join v) f left h = outside f.at (instr.Part join) h.1 refl

      ends : (o : Option Ran) → RunsRight graph verified k of calls None None gathered 0 turns [] on no_state o → CalledFits of turns (given_by o)
      ends None h = h
      ends (Some ran) h = how ran.ending ran.frame h.turns h.ends

  pub calls_fit : (depth turns : ℕ) → turns < depth → CallsFit graph (calls_within depth graph.fields graph.methods) turns
  unfolding calls_within
  calls_fit zero turns less k of args gathered is fits = absurd (omega arith)
  calls_fit (suc depth) turns less k of args gathered is fits =
      subst (λ (o : Option GraphMethod). CalledFits of turns (method_run graph.fields graph.methods (calls_within depth graph.fields graph.methods) o args gathered turns)) (sym is)
      (called_right k of (calls_within depth graph.fields graph.methods) args gathered turns is fits (λ fewer h. let below : fewer < depth = omega arith in calls_fit depth fewer below))
