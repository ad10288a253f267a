-- What an item runs: code from a frame on.
use Rattle.std.specs.Prelude.{ℕ, ℤ, nat_lt, if◌then◌else◌, List, [], ◌∷◌, length, Option, Some, None, slice_get}
use Rattle.sdg_base.specs.Limits.{turns_at_start}
use Rattle.sdg_base.specs.declared.val.Val.{Val}
use Rattle.sdg_base.specs.declared.port.Port.{Port}
use Rattle.sdg_base.specs.declared.port.Port.TheVariants as port
use Rattle.sdg_base.specs.declared.item.Item.{Item}
use Rattle.sdg_base.specs.declared.item.Item.TheVariants as item
use Rattle.flat_code.specs.declared.graph.Graph.{Graph}
use Rattle.flat_code.specs.declared.graph.GraphMethod.{GraphMethod}
use Rattle.flat_code.specs.declared.graph.Instr.{Instr}
use Rattle.flat_code.specs.declared.graph.Task.{Task}
use Rattle.flat_code.specs.Items.{Gathered, AllValues, FirstOther, carried_variables, gathered_of, setting, with_part}
use Rattle.flat_code.specs.Machine.{first_frame}
use Rattle.task_code.specs.declared.engine.Engine.{Engine}
use Rattle.task_code.specs.declared.frame.Frame.{Frame}
use Rattle.task_code.specs.Partway.{Begun}
use Rattle.task_code.specs.Seen.{frame_of, setting_of}

-- code from a frame of an engine on
abbrev pub begun_by : Engine → List Instr → Frame → Begun
begun_by e code f = record { setting = setting_of e; code = code; frame = frame_of f }

-- a task of a method by an engine, from the values that its item carries
abbrev pub task_begun : Engine → GraphMethod → Task → ℕ → List Val → Begun
task_begun e m t turns values = record {
  setting = setting_of e;
  code = m.code;
  frame = record { at = t.at; stack = []; variables = carried_variables m t values; turns = turns };
}

-- an entry method, from its start
abbrev pub begun_start : Graph → Option GraphMethod → List Val → Option Begun
begun_start graph None args = None
begun_start graph (Some m) args =
    Some (record { setting = setting graph None None []; code = m.code; frame = first_frame m args turns_at_start })

-- a task of a method
abbrev pub begun_in : Graph → Option GraphMethod → Task → Option ℤ → List Val → ℕ → List Val → Option Begun
begun_in graph None t key gathered turns values = None
begun_in graph (Some m) t key gathered turns values = Some (record {
  setting = setting graph t.field key gathered;
  code = m.code;
  frame = record { at = t.at; stack = []; variables = carried_variables m t values; turns = turns };
})

abbrev pub begun_from : Graph → Option Task → Option ℤ → List Val → ℕ → List Val → Option Begun
begun_from graph None key gathered turns values = None
begun_from graph (Some t) key gathered turns values = begun_in graph (slice_get graph.methods t.method) t key gathered turns values

-- A join runs its task where all parts brought values.
abbrev pub begun_with : Graph → ℕ → ℕ → List Val → Gathered → Option Begun
begun_with graph t turns vs (AllValues values) = begun_from graph (slice_get graph.tasks t) None values turns vs
begun_with graph t turns vs (FirstOther how) = None

abbrev pub begun_join_from : Graph → List Item → Option Begun
begun_join_from graph (item.Part call t width instance turns vs how ∷ ps) =
    begun_with graph t turns vs (gathered_of (item.Part call t width instance turns vs how ∷ ps))
begun_join_from graph _ = None

-- It waits until each instance that was visited has brought its part.
abbrev pub begun_join : Graph → ℕ → List Item → Option Begun
begun_join graph width parts = if nat_lt (length parts) width then None else begun_join_from graph parts

-- what an item runs at a port; None where it runs nothing
unfoldable pub begun : Graph → Port → Item → List Item → Option Begun
begun graph port.Front (item.Start call m args) parts = begun_start graph (slice_get graph.methods m) args
begun graph (port.Slot f n) (item.Work call t key turns vs) parts = begun_from graph (slice_get graph.tasks t) key [] turns vs
begun graph (port.Inst f n) (item.Work call t key turns vs) parts = begun_from graph (slice_get graph.tasks t) key [] turns vs
begun graph (port.Inst f n) (item.Visit call t width turns vs) parts = begun_from graph (slice_get graph.tasks t) None [] turns vs
begun graph port.Join (item.Part call t width instance turns vs how) parts =
    begun_join graph width (with_part (item.Part call t width instance turns vs how) parts)
begun graph _ _ parts = None
