-- A cluster before the first event stands for the first world.
use Rattle.std.proofs.Common.{◌≡◌, ℕ, false, List, [], map, Some, slice_get, refl, ap, ◌∙◌, sym, subst, arith}
use Rattle.std.specs.List.{AllByRecursion}
use Rattle.sdg_base.specs.declared.port.Port.{Port}
use Rattle.sdg_base.specs.declared.port.Port.TheVariants as port
use Rattle.sdg_base.specs.declared.call.Call.{Call}
use Rattle.channels.specs.Outboxes.{outbox_of}
use Rattle.channels.specs.Sent.{trimmed}
use Rattle.early_task_code.specs.Progress.{first_progress}
use Rattle.cell_machine.specs.declared.cell.Cell.{Cell}
use Rattle.cell_machine.specs.Shows.{Shows}
use Rattle.cluster.specs.declared.cells.PortCell.{PortCell}
use Rattle.cluster.specs.declared.cluster.Cluster.{Cluster}
use Rattle.cluster.specs.declared.past.Committed.{Committed}
use Rattle.cluster.specs.History.{Setup, at_start}
use Rattle.cluster.specs.World.{first_world, cells_of}
use Rattle.cluster.specs.Beginning.{port_in, IsFirst}
use Rattle.cluster.specs.Standing.{StandsForCell, IsReady, Holds, dropped}
use Rattle.cluster.proofs.Lists.{all_at}
use Rattle.cluster.proofs.Along.{IsOwn}
use Rattle.cluster.proofs.Places.{placed, own_cell}
use Rattle.cluster.proofs.Worlds.{first_reached}
use Rattle.std.proofs.lemmas.Option.{slice_get-map}
use Rattle.std.specs.Option.{option_map}

first_is : (calls : List Call) (p : Port) → IsOwn p → first_progress p ≡ at_start calls p
first_is calls port.Caller own = absurd own
first_is calls port.Sink own = absurd own
first_is calls port.Front own = refl
first_is calls port.Join own = refl
first_is calls (port.Slot field at) own = refl
first_is calls (port.Inst field number) own = absurd own

none_yet : (p to : Port) → dropped first_world p to ≡ 0
none_yet p port.Sink = refl
none_yet p port.Caller = refl
none_yet p port.Front = refl
none_yet p port.Join = refl
none_yet p (port.Slot field at) = refl
none_yet p (port.Inst field number) = refl

nothing_sent : (held : Cell) (p to : Port) → Shows held (first_progress p) → trimmed (outbox_of held.outboxes to) ≡ 0
nothing_sent held p to shows = let last : (outbox_of held.outboxes to).last ≡ 0 = shows.sent to in omega arith

first_cell : (s : Setup) (held : PortCell) → IsOwn held.port → IsFirst held → StandsForCell held.cell s first_world held.port
first_cell s held own first = record {
  shows = subst (Shows held.cell) (first_is s.calls held.port own) first;
  dropped = λ to. nothing_sent held.cell held.port to first ∙ sym (none_yet held.port to);
}

pub first_holds : (c : Cluster) (s : Setup) → IsReady s → c.calls ≡ s.calls → c.header ≡ s.header → map port_in c.cells.items ≡ cells_of s → AllByRecursion IsFirst c.cells.items
    → c.history ≡ [] → c.commits ≡ [] → c.next_step ≡ 1 → c.spent ≡ false → Holds c s first_world
first_holds c s ready calls header ports first history commits next going = record {
  ready = ready;
  reached = first_reached s;
  stands = record {
    calls = calls;
    header = header;
    ports = ports;
    cells = λ at held e.
        (let place : slice_get (cells_of s) at ≡ Some held.port = ap (λ ps. slice_get ps at) (sym ports) ∙ slice_get-map port_in c.cells.items at ∙ ap (option_map port_in) e in
        first_cell s held (own_cell s held.port (placed s at held.port place).1) (all_at IsFirst c.cells.items at held first e));
    history = history;
    commits = ap (map {B = Port × ℕ} (λ (c : Committed). (c.from, c.seq))) commits;
    results = ap (map (λ (c : Committed). (c.shown.call, c.shown.outcome))) commits;
    next_step = next;
    going = going;
  };
}
