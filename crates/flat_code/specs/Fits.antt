-- Which items a cell takes: those that name a task of the port's kind and field, with values of the types that it needs.
use Rattle.std.specs.Prelude.{ℕ, ℤ, suc, Bool, true, false, ◌&&◌, ◌==◌, nat_lt, not, List, [], ◌∷◌, Option, Some, None, slice_get}
use Rattle.std.specs.List.{range_with_len}
use Rattle.sdg_base.specs.Limits.{turns_at_start}
use Rattle.sdg_base.specs.Signatures.{Signature}
use Rattle.sdg_base.specs.Types.{type_of}
use Rattle.sdg_base.specs.declared.val.Val.{Val}
use Rattle.sdg_base.specs.declared.val.Outcome.{Outcome}
use Rattle.sdg_base.specs.declared.val.Outcome.TheVariants as outcome
use Rattle.sdg_base.specs.declared.value_type.ValueType.{ValueType}
use Rattle.sdg_base.specs.declared.port.Port.{Port}
use Rattle.sdg_base.specs.declared.port.Port.TheVariants as port
use Rattle.sdg_base.specs.declared.item.Item.{Item}
use Rattle.sdg_base.specs.declared.item.Item.TheVariants as item
use Rattle.placement.specs.Slots.{slot}
use Rattle.flat_code.specs.declared.graph.Graph.{Graph}
use Rattle.flat_code.specs.declared.graph.GraphMethod.{GraphMethod}
use Rattle.flat_code.specs.declared.graph.MethodKind.{MethodKind}
use Rattle.flat_code.specs.declared.graph.MethodKind.TheVariants as method_kind
use Rattle.flat_code.specs.declared.graph.Task.{Task}
use Rattle.flat_code.specs.declared.graph.TaskKind.{TaskKind}
use Rattle.flat_code.specs.declared.graph.TaskKind.TheVariants as kind
use Rattle.flat_code.specs.declared.graph.Instr.{Instr}
use Rattle.flat_code.specs.declared.graph.Instr.TheVariants as instr
use Rattle.flat_code.specs.Types.{type_of_variable, same_type, signature_at}
use Rattle.flat_code.specs.Items.{field_number, width_of}

-- ---- values

abbrev pub is_type : Option ValueType → Val → Bool
is_type None v = false
is_type (Some t) v = same_type (type_of v) t

-- values of the types of the variables with these numbers
abbrev pub has_types : GraphMethod → List ℕ → List Val → Bool
has_types m [] [] = true
has_types m (n ∷ ns) (v ∷ vs) = is_type (type_of_variable m n) v && has_types m ns vs
has_types m _ _ = false

abbrev pub parameters : GraphMethod → List ℕ
parameters m = range_with_len 0 m.params

abbrev pub values_fit : Option GraphMethod → Task → List Val → Bool
values_fit None t vs = false
values_fit (Some m) t vs = has_types m t.vars vs

-- ---- what a part brings: the result of the access before the part, which stands right before its join task

abbrev pub result_of : Option Signature → Option ValueType
result_of None = None
result_of (Some sig) = Some sig.result

abbrev pub result_at : Graph → Option Instr → Option ValueType
result_at graph (Some (instr.Access name m)) = result_of (signature_at graph.fields name m)
result_at graph _ = None

abbrev pub access_before : List Instr → ℕ → Option Instr
access_before code (suc (suc at)) = slice_get code at
access_before code _ = None

abbrev pub brought_by : Graph → Option GraphMethod → Task → Option ValueType
brought_by graph None t = None
brought_by graph (Some m) t = result_at graph (access_before m.code t.at)

-- the type of what the parts of a join task bring
abbrev pub brought : Graph → Task → Option ValueType
brought graph t = brought_by graph (slice_get graph.methods t.method) t

abbrev pub is_brought : Option ValueType → Outcome → Bool
is_brought t (outcome.Value v) = is_type t v
is_brought t _ = true

-- ---- tasks

abbrev pub is_kind : TaskKind → TaskKind → Bool
is_kind kind.Start kind.Start = true
is_kind kind.Keyed kind.Keyed = true
is_kind kind.Local kind.Local = true
is_kind kind.Visit kind.Visit = true
is_kind kind.Join kind.Join = true
is_kind _ _ = false

abbrev pub is_number : Option ℕ → ℕ → Bool
is_number None f = false
is_number (Some n) f = n == f

-- a task takes so many turns and these values
abbrev pub takes : Graph → TaskKind → Option Task → ℕ → List Val → Bool
takes graph k None turns vs = false
takes graph k (Some t) turns vs = is_kind k t.kind && not (nat_lt turns_at_start turns) && values_fit (slice_get graph.methods t.method) t vs

abbrev pub is_field : Graph → Option Task → ℕ → Bool
is_field graph None f = false
is_field graph (Some t) f = is_number (field_number graph t.field) f

-- the same of a task of a field
abbrev pub takes_at : Graph → TaskKind → ℕ → Option Task → ℕ → List Val → Bool
takes_at graph k f t turns vs = is_field graph t f && takes graph k t turns vs

-- ---- widths, instances and keys

-- so many instances were visited, and this is one of them
abbrev pub is_instance : ℕ → ℕ → Bool
is_instance width i = nat_lt i width && not (nat_lt 64 width)

abbrev pub is_key_of : ℕ → ℕ → Option ℤ → Bool
is_key_of at slots None = false
is_key_of at slots (Some key) = slot key slots == at

abbrev pub no_key : Option ℤ → Bool
no_key None = true
no_key (Some key) = false

-- ---- items

abbrev pub is_entry : MethodKind → Bool
is_entry method_kind.Entry = true
is_entry _ = false

abbrev pub starts : Option GraphMethod → List Val → Bool
starts None args = false
starts (Some m) args = is_entry m.kind && has_types m (parameters m) args

abbrev pub keyed_work : Graph → List ℕ → ℕ → ℕ → ℕ → Option ℤ → ℕ → List Val → Bool
keyed_work graph widths f n t key turns vs =
    takes_at graph kind.Keyed f (slice_get graph.tasks t) turns vs && is_key_of n (width_of widths f) key

abbrev pub local_work : Graph → ℕ → ℕ → Option ℤ → ℕ → List Val → Bool
local_work graph f t key turns vs = takes_at graph kind.Local f (slice_get graph.tasks t) turns vs && no_key key

abbrev pub visiting : Graph → ℕ → ℕ → ℕ → ℕ → ℕ → List Val → Bool
visiting graph f n t width turns vs = takes_at graph kind.Visit f (slice_get graph.tasks t) turns vs && is_instance width n

abbrev pub brings : Graph → Option Task → Outcome → Bool
brings graph None how = false
brings graph (Some t) how = is_brought (brought graph t) how

abbrev pub joining : Graph → ℕ → ℕ → ℕ → ℕ → List Val → Outcome → Bool
joining graph t width instance turns vs how =
    takes graph kind.Join (slice_get graph.tasks t) turns vs && is_instance width instance && brings graph (slice_get graph.tasks t) how

-- a cell of a port takes an item; `widths` has how many slots each partitioned field has
unfoldable pub fits : Graph → List ℕ → Port → Item → Bool
fits graph widths port.Front (item.Start call m args) = starts (slice_get graph.methods m) args
fits graph widths (port.Slot f n) (item.Work call t key turns vs) = keyed_work graph widths f n t key turns vs
fits graph widths (port.Inst f n) (item.Work call t key turns vs) = local_work graph f t key turns vs
fits graph widths (port.Inst f n) (item.Visit call t width turns vs) = visiting graph f n t width turns vs
fits graph widths port.Join (item.Part call t width instance turns vs how) = joining graph t width instance turns vs how
fits graph widths _ _ = false
