-- The world of a run, the events of a schedule, and the run to completion after them.
use Rattle.std.specs.Prelude.{ℕ, zero, suc, ◌+◌, ◌-◌, ◌*◌, ◌^◌, ◌%◌, ◌==◌, nat_lt, if◌then◌else◌, List, [], ◌∷◌, ◌++◌, length, map, sum_by, Option, Some, None, slice_get}
use Rattle.std.specs.List.{flat_map, filter_map}
use Rattle.sdg_base.specs.declared.port.Port.{Port}
use Rattle.sdg_base.specs.declared.port.Port.TheVariants as port
use Rattle.sdg_base.specs.declared.item.Item.{Item}
use Rattle.sdg_base.specs.declared.item.Item.TheVariants as item
use Rattle.sdg_base.specs.declared.val.Outcome.{Outcome}
use Rattle.sdg_base.specs.Ports.{same_port}
use Rattle.placement.specs.declared.event.Event.{Event}
use Rattle.placement.specs.declared.event.Event.TheVariants as event
use Rattle.placement.specs.declared.event.Word.{Word}
use Rattle.placement.specs.declared.event.Word.TheVariants as word
use Rattle.early_task_code.specs.Progress.{Taken, Progress}
use Rattle.cluster.specs.History.{Setup, Happening, Took, cells_after, call_of}

-- What happened, which results were committed, in their order, by port and number, and the number of the next step. All else follows from these.
pub record World : Type 0 where
  pub hist : List Happening
  pub commits : List (Port × ℕ)
  pub next_step : ℕ

abbrev pub first_world : World
first_world = record { hist = []; commits = []; next_step = 1 }

abbrev pub cell : Setup → World → Port → Progress
cell s w p = cells_after s w.hist p

-- step numbers end here
abbrev pub last_step : ℕ
last_step = 2 ^ 64 - 1

-- ---- a cell takes

-- the item after the last that a cell took from a port, where the port has given it
abbrev pub next_item : Setup → World → Port → Port → Option Item
next_item s w to from = slice_get ((cell s w from).gave to) ((cell s w to).took from)

-- the entry that says so
abbrev pub entry : Setup → World → Port → Port → ℕ → Item → Taken
entry s w to from pick x =
    record { cell = to; from = from; number = (cell s w to).took from + 1; pick = pick; growths = 0; step = w.next_step; item = x }

abbrev pub with_entry : Setup → World → Port → Port → ℕ → Item → World
with_entry s w to from pick x = record { hist = w.hist ++ Took (entry s w to from pick x) ∷ []; commits = w.commits; next_step = w.next_step + 1 }

abbrev pub take_item : Setup → World → Port → Port → ℕ → Option Item → World × Word
take_item s w to from pick None = (w, word.Empty)
take_item s w to from pick (Some x) = (with_entry s w to from pick x, word.Done)

-- ---- the sink takes

-- how many results of a port were committed
abbrev pub committed : Port → List (Port × ℕ) → ℕ
committed p [] = 0
committed p (c ∷ commits) = if same_port c.0 p then committed p commits + 1 else committed p commits

abbrev pub next_result : Setup → World → Port → Option Item
next_result s w from = slice_get ((cell s w from).gave port.Sink) (committed from w.commits)

abbrev pub with_commit : World → Port → World
with_commit w from = record { hist = w.hist; commits = w.commits ++ (from, committed from w.commits + 1) ∷ []; next_step = w.next_step }

abbrev pub commit_item : World → Port → Option Item → World × Word
commit_item w from None = (w, word.Empty)
commit_item w from (Some x) = (with_commit w from, word.Done)

-- ---- events

-- what an event makes of the world, and its word; a word other than done changes nothing
abbrev pub event_of : Setup → World → Event → World × Word
event_of s w (event.Take to from pick) = if w.next_step == last_step then (w, word.Held) else take_item s w to from pick (next_item s w to from)
event_of s w (event.Sink from) = commit_item w from (next_result s w from)

abbrev pub after_events : Setup → World → List Event → World
after_events s w [] = w
after_events s w (e ∷ events) = after_events s (event_of s w e).0 events

abbrev pub words_of : Setup → World → List Event → List Word
words_of s w [] = []
words_of s w (e ∷ events) = (event_of s w e).1 ∷ words_of s (event_of s w e).0 events

-- ---- the run to completion

-- numbers from n on, so many
abbrev pub numbers_from : ℕ → ℕ → List ℕ
numbers_from n zero = []
numbers_from n (suc count) = n ∷ numbers_from (n + 1) count

-- the cells in port order: the one that begins calls, the one that joins parts, and the slots of each field
abbrev pub cells_of : Setup → List Port
cells_of s = port.Front ∷ port.Join ∷ flat_map (λ field. map (λ at. port.Slot field at) (numbers_from 0 s.header.slots)) (numbers_from 0 (length s.graph.fields))

-- an item that can be taken: its call, the port that takes it, and the port that gave it
pub record Offer : Type 0 where
  pub call : ℕ
  pub to : Port
  pub from : Port

abbrev pub offer : Port → Port → Option Item → Option Offer
offer to from None = None
offer to from (Some x) = Some (record { call = call_of x; to = to; from = from })

-- none where a take of it would not be done
abbrev pub cell_offer : Setup → World → Port → Port → Option Offer
cell_offer s w to from = if w.next_step == last_step then None else offer to from (next_item s w to from)

abbrev pub sink_offer : Setup → World → Port → Option Offer
sink_offer s w from = offer port.Sink from (next_result s w from)

-- all of them, by the port that takes and then by the port that gave; a commit is taken by the sink
abbrev pub offers : Setup → World → List Offer
offers s w =
    filter_map (sink_offer s w) (cells_of s)
    ++ flat_map (λ to. filter_map (cell_offer s w to) (port.Caller ∷ cells_of s)) (cells_of s)

-- the first of those with the lowest call
abbrev pub lower : Option Offer → Offer → Option Offer
lower None o = Some o
lower (Some best) o = if nat_lt o.call best.call then Some o else Some best

abbrev pub lowest_from : Option Offer → List Offer → Option Offer
lowest_from best [] = best
lowest_from best (o ∷ os) = lowest_from (lower best o) os

abbrev pub lowest : List Offer → Option Offer
lowest os = lowest_from None os

-- the pick of an entry that no schedule names
abbrev pub pick_of : ℕ → ℕ
pick_of call = call % 64

abbrev pub take_event : Offer → Port → Event
take_event o port.Sink = event.Sink o.from
take_event o to = event.Take to o.from (pick_of o.call)

abbrev pub event_for : Offer → Event
event_for o = take_event o o.to

abbrev pub after_offer : Setup → World → Option Offer → World
after_offer s w None = w
after_offer s w (Some o) = (event_of s w (event_for o)).0

-- so many events of the run to completion
abbrev pub drained_for : ℕ → Setup → World → World
drained_for zero s w = w
drained_for (suc n) s w = drained_for n s (after_offer s w (lowest (offers s w)))

-- No call has more: it begins, spends a turn before each block, and its result is committed.
abbrev pub most_events : Setup → ℕ
most_events s = length s.calls * 100002

abbrev pub drained : Setup → World → World
drained s w = drained_for (most_events s) s w

-- ---- what is reported

-- the world of a run: the events of the schedule, and then the run to completion
abbrev pub world_of : Setup → List Event → World
world_of s events = drained s (after_events s first_world events)

abbrev pub result_in : Option Item → Option (ℕ × Outcome)
result_in (Some (item.Done call outcome)) = Some (call, outcome)
result_in _ = None

-- the call and the outcome of a commit
abbrev pub result_of : Setup → World → Port × ℕ → Option (ℕ × Outcome)
result_of s w c = result_in (slice_get ((cell s w c.0).gave port.Sink) (c.1 - 1))

-- the results in the order of their commits
abbrev pub results_of : Setup → World → List (ℕ × Outcome)
results_of s w = filter_map (result_of s w) w.commits

-- Items between cells are kept, a result until it is committed, and each call by the caller.
abbrev pub kept_by : Setup → World → Port → ℕ
kept_by s w from =
    sum_by (λ to. length ((cell s w from).gave to)) (cells_of s) + (length ((cell s w from).gave port.Sink) - committed from w.commits)

abbrev pub kept : Setup → World → ℕ
kept s w = length s.calls + sum_by (kept_by s w) (cells_of s)
