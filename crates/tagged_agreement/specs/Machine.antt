-- Cells that take items, over any machine: what an item gives, and a cell as what its entries make of it, one after the other.
use Rattle.std.specs.Prelude.{ℕ, ◌+◌, ◌==◌, ◌&&◌, nat_lt, if◌then◌else◌, List, [], ◌∷◌, ◌++◌, Option, Some, None}
use Rattle.sdg_base.specs.declared.port.Port.{Port}
use Rattle.sdg_base.specs.declared.port.Port.TheVariants as port
use Rattle.sdg_base.specs.declared.item.Item.{Item}
use Rattle.sdg_base.specs.declared.item.Item.TheVariants as item
use Rattle.sdg_base.specs.Ports.{same_port}

-- ---- what an item gives

-- an item to one cell, one item to each instance below a width, a part to the join, a result to the sink, or nothing: a part that waits, or one
-- that does not fit those that wait
pub data Out : Type 0 where
  Send : Port → Item → Out
  Broadcast : (field width : ℕ) → Item → Out
  ToJoin : Item → Out
  Result : Item → Out
  Wait : Out
  Ignore : Out

abbrev pub one_to : Port → Item → Port → List Item
one_to to x p = if same_port to p then x ∷ [] else []

-- to every instance of the field below the width, and to nothing else
abbrev pub each_to : ℕ → ℕ → Item → Port → List Item
each_to field width x (port.Inst own number) = if field == own && nat_lt number width then x ∷ [] else []
each_to field width x p = []

-- what a port is given: nothing, or one item
abbrev pub given_to : Out → Port → List Item
given_to (Send to x) p = one_to to x p
given_to (Broadcast field width x) p = each_to field width x p
given_to (ToJoin x) p = one_to port.Join x p
given_to (Result x) p = one_to port.Sink x p
given_to Wait p = []
given_to Ignore p = []

pub record Ran (State : Type 0) : Type 0 where
  pub out : Out
  pub state : State

-- parts of a call by the number of the instance
abbrev pub Parts : Type 0
Parts = ℕ → Option Item

-- The state of each cell at the start, and what an item gives at a cell: from the parts gathered so far of its call, the state, a pick of an
-- instance, and the widths of the partial fields.
pub record Machine (State : Type 0) : Type 0 where
  pub first : Port → State
  pub runs : Port → Item → Parts → State → ℕ → (ℕ → ℕ) → Ran State

-- ---- the call and the part that an item is of

abbrev pub call_of : Item → ℕ
call_of (item.Start call method args) = call
call_of (item.Work call t key turns vars) = call
call_of (item.Visit call t width turns vars) = call
call_of (item.Part call t width instance turns vars value) = call
call_of (item.Done call outcome) = call

-- a visit is of the instance that it is for, and a part of the one that it says; every other item is of its call as a whole
abbrev pub number_of : Port → Option ℕ
number_of (port.Inst field number) = Some number
number_of p = None

abbrev pub part_of : Port → Item → Option ℕ
part_of to (item.Part call t width instance turns vars value) = Some instance
part_of to (item.Visit call t width turns vars) = number_of to
part_of to x = None

-- ---- cells

-- A cell took an item: the number of the item in its channel, from 1, the pick of an instance, the growths so far and the widths after them, and
-- the step number. The log has the numbers alone; the item and the widths follow from them.
pub record Taken : Type 0 where
  pub cell : Port
  pub from : Port
  pub number : ℕ
  pub pick : ℕ
  pub growths : ℕ
  pub step : ℕ
  pub widths : ℕ → ℕ
  pub item : Item

-- What a cell has come to: what it holds, what it gave to each port, whole and in order, how many items it took from each, the parts that wait in
-- it by call, and of how many entries.
pub record Progress (State : Type 0) : Type 0 where
  pub state : State
  pub gave : Port → List Item
  pub took : Port → ℕ
  pub gathered : ℕ → Parts
  pub position : ℕ

-- a cell that took nothing yet
abbrev pub first_progress : {State : Type 0} → Machine State → Port → Progress State
first_progress m p = record { state = m.first p; gave = λ _. []; took = λ _. 0; gathered = λ _ _. None; position = 0 }

-- the parts that a part is joined with
abbrev pub parts_for : Item → (ℕ → Parts) → Parts
parts_for (item.Part call t width instance turns vars value) gathered = gathered call
parts_for x gathered = λ _. None

-- A part that waits is kept with those of its call, one that does not fit changes nothing, and the last one uses them up.
abbrev pub gathered_after : Item → Out → (ℕ → Parts) → ℕ → Parts
gathered_after (item.Part call t width instance turns vars value) Wait gathered c i =
    if c == call && i == instance then Some (item.Part call t width instance turns vars value) else gathered c i
gathered_after (item.Part call t width instance turns vars value) Ignore gathered c i = gathered c i
gathered_after (item.Part call t width instance turns vars value) out gathered c i = if c == call then None else gathered c i
gathered_after x out gathered c i = gathered c i

abbrev pub progress_with : {State : Type 0} → Port → Item → Ran State → Progress State → Progress State
progress_with from x ran now =
    record {
      state = ran.state;
      gave = λ p. now.gave p ++ given_to ran.out p;
      took = λ p. if same_port p from then now.took p + 1 else now.took p;
      gathered = λ c i. gathered_after x ran.out now.gathered c i;
      position = now.position + 1;
    }

-- what the item of an entry gives at its cell
abbrev pub ran_at : {State : Type 0} → Machine State → Taken → Progress State → Ran State
ran_at m e now = m.runs e.cell e.item (parts_for e.item now.gathered) now.state e.pick e.widths

-- a cell after one more of its entries
abbrev pub progress_after : {State : Type 0} → Machine State → Taken → Progress State → Progress State
progress_after m e now = progress_with e.from e.item (ran_at m e now) now

-- A cell after entries of its own: all of them, those up to a position, or those up to a checkpoint.
abbrev pub cell_after : {State : Type 0} → Machine State → List Taken → Progress State → Progress State
cell_after m [] now = now
cell_after m (e ∷ entries) now = cell_after m entries (progress_after m e now)
