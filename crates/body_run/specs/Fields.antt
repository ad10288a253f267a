-- The states of a field, as the definitions have them.
use Rattle.std.specs.Prelude.{ℕ, Option, Some, None, slice_get}
use Rattle.state_classes.specs.States.{State}
use Rattle.access_blocks.specs.Statements.{Field, Whole, Instances, Machine, part_of, with_part, with_state}
use Rattle.body_run.specs.declared.field_state.States.{States}
use Rattle.body_run.specs.declared.field_state.States.TheVariants as states

abbrev pub field_of : States → Field
field_of (states.Whole state) = Whole state
field_of (states.Instances all) = Instances all.items

-- a field whose part is replaced by what is made of it
abbrev pub replaced : (State → State) → Field → ℕ → Option State → Field
replaced f field instance None = field
replaced f field instance (Some state) = with_part field instance (f state)

abbrev pub field_after : (State → State) → Field → ℕ → Field
field_after f field instance = replaced f field instance (part_of (Some field) instance)

-- a machine whose part of a field is replaced by what is made of it, where it has one
abbrev pub with_made : (State → State) → Machine → ℕ → Option State → Machine
with_made f m field None = m
with_made f m field (Some state) = with_state field (f state) m

abbrev pub machine_after : (State → State) → Machine → ℕ → Machine
machine_after f m field = with_made f m field (part_of (slice_get m.fields field) m.instance)
