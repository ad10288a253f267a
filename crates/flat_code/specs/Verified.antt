-- Verified graphs: what every graph of an accepted class is, and why no item that fits goes wrong on one.
use Rattle.std.specs.Prelude.{◌≡◌, ◌≢◌, ℕ, ◌≤◌, ◌<◌, suc, Bool, true, false, ◌||◌, ◌==◌, if◌then◌else◌, List, [], ◌∷◌, length, drop, map, All, Option, Some, None, slice_get}
use Rattle.std.specs.List.{AllPass}
use Rattle.std.specs.Char.{is_ascii_digit, is_ascii_alphanumeric}
use Rattle.sdg_base.specs.Signatures.{Signature}
use Rattle.sdg_base.specs.Types.{type_named, binary_type, unary_type}
use Rattle.sdg_base.specs.declared.operator.BinOp.{BinOp}
use Rattle.sdg_base.specs.declared.val.Num.{Num}
use Rattle.sdg_base.specs.declared.value_type.ValueType.{ValueType}
use Rattle.sdg_base.specs.declared.value_type.ValueType.TheVariants as type
use Rattle.state_classes.specs.declared.method.Method.{Method}
use Rattle.flat_code.specs.declared.graph.FieldKind.{FieldKind}
use Rattle.flat_code.specs.declared.graph.FieldKind.TheVariants as field_kind
use Rattle.flat_code.specs.declared.graph.GraphField.{GraphField}
use Rattle.flat_code.specs.declared.graph.Graph.{Graph}
use Rattle.flat_code.specs.declared.graph.GraphMethod.{GraphMethod}
use Rattle.flat_code.specs.declared.graph.MethodKind.{MethodKind}
use Rattle.flat_code.specs.declared.graph.MethodKind.TheVariants as method_kind
use Rattle.flat_code.specs.declared.graph.VarType.{VarType}
use Rattle.flat_code.specs.declared.graph.Task.{Task}
use Rattle.flat_code.specs.declared.graph.TaskKind.{TaskKind}
use Rattle.flat_code.specs.declared.graph.TaskKind.TheVariants as kind
use Rattle.flat_code.specs.declared.graph.Instr.{Instr}
use Rattle.flat_code.specs.declared.graph.Instr.TheVariants as instr
use Rattle.flat_code.specs.Types.{type_by, result_by, type_of_variable, members_of_variable, operand_type, right_type, same_type, same_types, field_named, signature_at}
use Rattle.flat_code.specs.Items.{first_part}
use Rattle.flat_code.specs.Ways.{IsIn, next_in_task, Reaches, IsFree, IsNeeded}
use Rattle.flat_code.specs.Fits.{parameters, brought}

-- ---- names

-- a letter, a digit, `_` or `$` (JLS 3.8)
abbrev pub is_word_byte : ℕ → Bool
is_word_byte b = is_ascii_alphanumeric b || b == 95 || b == 36

abbrev pub begins_with_digit : List ℕ → Bool
begins_with_digit [] = false
begins_with_digit (b ∷ name) = is_ascii_digit b

pub record IsIdentifier (name : List ℕ) : Type 0 where
  pub not_empty : 0 < length name
  pub each : AllPass is_word_byte name
  pub first : begins_with_digit name ≡ false

abbrev pub AreDistinct : List (List ℕ) → Type 0
AreDistinct names = (i j : ℕ) (name : List ℕ) → slice_get names i ≡ Some name → slice_get names j ≡ Some name → i ≡ j

pub record AreNames (names : List (List ℕ)) : Type 0 where
  pub each : All IsIdentifier names
  pub distinct : AreDistinct names

-- ---- numbers that name something

abbrev pub IsMethod : Graph → ℕ → GraphMethod → Type 0
IsMethod graph n m = slice_get graph.methods n ≡ Some m

abbrev pub IsTask : Graph → ℕ → Task → Type 0
IsTask graph n t = slice_get graph.tasks n ≡ Some t

-- an instruction of a method
pub record HasCode (graph : Graph) (method at : ℕ) (i : Instr) : Type 0 where
  pub of : GraphMethod
  pub is_method : IsMethod graph method of
  pub is_code : slice_get of.code at ≡ Some i

pub record HasMethod (graph : Graph) (n : ℕ) (kind : MethodKind) : Type 0 where
  pub of : GraphMethod
  pub is_method : IsMethod graph n of
  pub is_kind : of.kind ≡ kind

-- what a cut begins
abbrev pub IsCutKind : TaskKind → Type 0
IsCutKind kind.Keyed = Unit {0}
IsCutKind kind.Local = Unit {0}
IsCutKind kind.Visit = Unit {0}
IsCutKind _ = ⊥

-- what a part begins
abbrev pub IsPartKind : TaskKind → Type 0
IsPartKind kind.Join = Unit {0}
IsPartKind _ = ⊥

pub record HasTask (graph : Graph) (n : ℕ) (Is : TaskKind → Type 0) : Type 0 where
  pub of : Task
  pub is_task : IsTask graph n of
  pub is_kind : Is of.kind

pub record HasAccess (graph : Graph) (name : List ℕ) (m : Method) : Type 0 where
  pub of : Signature
  pub is_signature : signature_at graph.fields name m ≡ Some of

abbrev pub NamesSomething : Graph → GraphMethod → Instr → Type 0
NamesSomething graph m (instr.Load v) = v < length m.vars
NamesSomething graph m (instr.Store v) = v < length m.vars
NamesSomething graph m (instr.Jump to) = to < length m.code
NamesSomething graph m (instr.IfFalse to) = to < length m.code
NamesSomething graph m (instr.VectorSize v) = v < length m.vars
NamesSomething graph m (instr.VectorGet v) = v < length m.vars
NamesSomething graph m (instr.VectorSet v) = v < length m.vars
NamesSomething graph m (instr.CollectionLength v) = v < length m.vars
NamesSomething graph m (instr.CollectionItem v) = v < length m.vars
NamesSomething graph m (instr.CollectionSize v) = v < length m.vars
NamesSomething graph m (instr.CollectionCheck v) = v < length m.vars
NamesSomething graph m (instr.CollectionGet v) = v < length m.vars
NamesSomething graph m (instr.Call n) = HasMethod graph n method_kind.Helper
NamesSomething graph m (instr.Access name method) = HasAccess graph name method
NamesSomething graph m (instr.Cut t) = HasTask graph t IsCutKind
NamesSomething graph m (instr.Part t) = HasTask graph t IsPartKind
NamesSomething graph m (instr.Merge n) = HasMethod graph n method_kind.Merge
NamesSomething graph m _ = Unit {0}

-- ---- where tasks stand

-- right behind the one instruction that names it
pub record StandsAfter (graph : Graph) (t : Task) (i : Instr) : Type 0 where
  pub before : ℕ
  pub behind : t.at ≡ suc before
  pub named : HasCode graph t.method before i
  pub only : (method at : ℕ) → HasCode graph method at i → (method ≡ t.method) × (at ≡ before)

-- the name is that of a field of a kind
pub record IsOf (fields : List GraphField) (named : Option (List ℕ)) (kind : FieldKind) : Type 0 where
  pub name : List ℕ
  pub is_name : named ≡ Some name
  pub of : GraphField
  pub is_field : field_named name fields ≡ Some of
  pub is_kind : of.kind ≡ kind

pub record IsStart (m : GraphMethod) (t : Task) : Type 0 where
  pub first : t.at ≡ 0
  pub parameters : t.vars ≡ parameters m
  pub no_field : t.field ≡ None

abbrev pub StandsRight : Graph → ℕ → GraphMethod → Task → TaskKind → Type 0
StandsRight graph n m t kind.Start = IsStart m t
StandsRight graph n m t kind.Keyed = StandsAfter graph t (instr.Cut n) × IsOf graph.fields t.field field_kind.Partitioned
StandsRight graph n m t kind.Local = StandsAfter graph t (instr.Cut n) × IsOf graph.fields t.field field_kind.Partial
StandsRight graph n m t kind.Visit = StandsAfter graph t (instr.Cut n) × IsOf graph.fields t.field field_kind.Partial
StandsRight graph n m t kind.Join = StandsAfter graph t (instr.Part n) × (t.field ≡ None)

-- the task with this number
pub record IsRightTask (graph : Graph) (n : ℕ) (t : Task) : Type 0 where
  pub of : GraphMethod
  pub is_method : IsMethod graph t.method of
  pub is_entry : of.kind ≡ method_kind.Entry
  pub variables : All (λ v. v < length of.vars) t.vars
  pub stands : StandsRight graph n of t t.kind

-- the one start task of a method
pub record HasStart (graph : Graph) (method : ℕ) : Type 0 where
  pub number : ℕ
  pub of : Task
  pub is_task : IsTask graph number of
  pub is_start : of.kind ≡ kind.Start
  pub of_method : of.method ≡ method
  pub only : (n : ℕ) (t : Task) → IsTask graph n t → t.kind ≡ kind.Start → t.method ≡ method → n ≡ number

-- ---- types of the stack: the top comes first

abbrev pub Stack : Type 0
Stack = List ValueType

abbrev pub off : ValueType → Option Stack → Option Stack
off t None = None
off t (Some []) = None
off t (Some (s ∷ stack)) = if same_type s t then Some stack else None

-- types off the stack, of which the last is on top
abbrev pub without : List ValueType → Stack → Option Stack
without [] stack = Some stack
without (t ∷ ts) stack = off t (without ts stack)

-- nothing where it is void
abbrev pub on_top : ValueType → Stack → Stack
on_top type.Void stack = stack
on_top t stack = t ∷ stack

abbrev pub with_result : ValueType → Option Stack → Option Stack
with_result t None = None
with_result t (Some stack) = Some (on_top t stack)

abbrev pub pushing : Option ValueType → Option Stack → Option Stack
pushing None stack = None
pushing (Some t) stack = with_result t stack

abbrev pub if_type : Option ValueType → ValueType → Option Stack → Option Stack
if_type None t stack = None
if_type (Some s) t stack = if same_type s t then stack else None

abbrev pub if_members : Option ValueType → Option Stack → Option Stack
if_members None stack = None
if_members (Some t) stack = stack

abbrev pub stored_type : Option ValueType → Stack → Option Stack
stored_type None stack = None
stored_type (Some t) stack = without (t ∷ []) stack

abbrev pub operated_type : BinOp → ValueType → ValueType → Stack → Option Stack
operated_type op s t stack = pushing (binary_type op s t) (without (s ∷ t ∷ []) stack)

abbrev pub cast_type : Num → Stack → Option Stack
cast_type t (type.Int ∷ stack) = Some (type_named t ∷ stack)
cast_type t (type.Long ∷ stack) = Some (type_named t ∷ stack)
cast_type t _ = None

abbrev pub with_first_type : Option ValueType → Option (List ValueType) → Option (List ValueType)
with_first_type (Some t) (Some ts) = Some (t ∷ ts)
with_first_type _ _ = None

-- the types of the variables with these numbers
abbrev pub types_of_variables : GraphMethod → List ℕ → Option (List ValueType)
types_of_variables m [] = Some []
types_of_variables m (n ∷ ns) = with_first_type (type_of_variable m n) (types_of_variables m ns)

abbrev pub without_all : Option (List ValueType) → Stack → Option Stack
without_all None stack = None
without_all (Some ts) stack = without ts stack

abbrev pub called_type : Option GraphMethod → Stack → Option Stack
called_type None stack = None
called_type (Some m) stack = with_result (result_by m.result) (without_all (types_of_variables m (parameters m)) stack)

abbrev pub merged_type : Option GraphMethod → Stack → Option Stack
merged_type None stack = None
merged_type (Some m) stack = Some (on_top (result_by m.result) stack)

abbrev pub accessed_type : Option Signature → Stack → Option Stack
accessed_type None stack = None
accessed_type (Some sig) stack = with_result sig.result (without sig.arguments stack)

-- A keyed task takes its key off the stack; else nothing is on it.
abbrev pub cut_to_kind : TaskKind → Stack → Option Stack
cut_to_kind kind.Keyed (type.Long ∷ []) = Some []
cut_to_kind kind.Local [] = Some []
cut_to_kind kind.Visit [] = Some []
cut_to_kind _ _ = None

abbrev pub cut_type : Option Task → Stack → Option Stack
cut_type None stack = None
cut_type (Some t) stack = cut_to_kind t.kind stack

-- nothing else is on the stack
abbrev pub only_type : Option ValueType → Stack → Option Stack
only_type None stack = None
only_type (Some t) stack = if same_types stack (on_top t []) then Some [] else None

-- A part has what the join task's parts bring.
abbrev pub part_type : Graph → Option Task → Stack → Option Stack
part_type graph None stack = None
part_type graph (Some t) stack = only_type (brought graph t) stack

abbrev pub returned_type : Option VarType → Stack → Option Stack
returned_type None stack = None
returned_type (Some t) stack = only_type (Some (type_by t)) stack

abbrev pub nothing_returned : Option VarType → Stack → Option Stack
nothing_returned None [] = Some []
nothing_returned _ _ = None

-- the types of the stack after an instruction, where those before it fit its meaning
abbrev pub types_after : Graph → GraphMethod → Instr → Stack → Option Stack
types_after graph m (instr.Int n) stack = Some (type.Int ∷ stack)
types_after graph m (instr.Long n) stack = Some (type.Long ∷ stack)
types_after graph m (instr.Bool b) stack = Some (type.Boolean ∷ stack)
types_after graph m (instr.Load v) stack = pushing (type_of_variable m v) (Some stack)
types_after graph m (instr.Store v) stack = stored_type (type_of_variable m v) stack
types_after graph m instr.Pop (t ∷ stack) = Some stack
types_after graph m (instr.Bin op t) stack = operated_type op (operand_type t) (right_type op t) stack
types_after graph m (instr.Un op) (t ∷ stack) = pushing (unary_type op t) (Some stack)
types_after graph m (instr.Cast t) stack = cast_type t stack
types_after graph m (instr.Jump to) stack = Some stack
types_after graph m (instr.IfFalse to) stack = without (type.Boolean ∷ []) stack
types_after graph m instr.Turn stack = Some stack
types_after graph m instr.NewVector stack = with_result type.Vector (without (type.Int ∷ []) stack)
types_after graph m (instr.VectorSize v) stack = if_type (type_of_variable m v) type.Vector (Some (type.Int ∷ stack))
types_after graph m (instr.VectorGet v) stack = if_type (type_of_variable m v) type.Vector (with_result type.Long (without (type.Int ∷ []) stack))
types_after graph m (instr.VectorSet v) stack = if_type (type_of_variable m v) type.Vector (without (type.Int ∷ type.Long ∷ []) stack)
types_after graph m (instr.CollectionLength v) stack = if_members (members_of_variable m v) (Some (type.Int ∷ stack))
types_after graph m (instr.CollectionItem v) stack = pushing (members_of_variable m v) (without (type.Int ∷ []) stack)
types_after graph m (instr.CollectionSize v) stack = if_type (members_of_variable m v) type.Vector (with_result type.Int (without (type.Int ∷ []) stack))
types_after graph m (instr.CollectionCheck v) stack = if_members (members_of_variable m v) (with_result type.Int (without (type.Int ∷ []) stack))
types_after graph m (instr.CollectionGet v) stack = if_type (members_of_variable m v) type.Vector (with_result type.Long (without (type.Int ∷ type.Int ∷ []) stack))
types_after graph m (instr.Call n) stack = called_type (slice_get graph.methods n) stack
types_after graph m instr.Key stack = Some (type.Long ∷ stack)
types_after graph m (instr.Access name method) stack = accessed_type (signature_at graph.fields name method) stack
types_after graph m (instr.Cut t) stack = cut_type (slice_get graph.tasks t) stack
types_after graph m (instr.Part t) stack = part_type graph (slice_get graph.tasks t) stack
types_after graph m (instr.Merge n) stack = merged_type (slice_get graph.methods n) stack
types_after graph m instr.Return stack = returned_type m.result stack
types_after graph m instr.ReturnVoid stack = nothing_returned m.result stack
types_after graph m _ [] = None

-- An instruction takes its stack, and leaves what those that come next have.
pub record IsTypedAt (graph : Graph) (m : GraphMethod) (stacks : ℕ → Option Stack) (at : ℕ) (stack : Stack) : Type 0 where
  pub i : Instr
  pub is_code : slice_get m.code at ≡ Some i
  pub after : Stack
  pub takes : types_after graph m i stack ≡ Some after
  pub leaves : (next : ℕ) → IsIn next (next_in_task at i) → stacks next ≡ Some after

-- where a run of a method's code begins
pub data Begins (graph : Graph) (n : ℕ) (m : GraphMethod) : ℕ → Type 0 where
  TaskBegins : (k : ℕ) (t : Task) → IsTask graph k t → t.method ≡ n → Begins graph n m t.at
  MethodBegins : m.kind ≢ method_kind.Entry → Begins graph n m 0

-- Each instruction that a run comes to has one stack of types on all ways to it.
pub record IsTypedMethod (graph : Graph) (n : ℕ) (m : GraphMethod) : Type 0 where
  pub stacks : ℕ → Option Stack
  pub starts : (at : ℕ) → Begins graph n m at → stacks at ≡ Some []
  pub typed : (at : ℕ) (stack : Stack) → stacks at ≡ Some stack → IsTypedAt graph m stacks at stack

-- ---- which instructions stand where

-- only in entry methods
abbrev pub is_of_entry : Instr → Bool
is_of_entry (instr.Cut t) = true
is_of_entry (instr.Part t) = true
is_of_entry (instr.Access name m) = true
is_of_entry instr.Key = true
is_of_entry (instr.Merge n) = true
is_of_entry _ = false

-- only in merge methods
abbrev pub is_of_merge : Instr → Bool
is_of_merge (instr.CollectionLength v) = true
is_of_merge (instr.CollectionItem v) = true
is_of_merge (instr.CollectionSize v) = true
is_of_merge (instr.CollectionCheck v) = true
is_of_merge (instr.CollectionGet v) = true
is_of_merge _ = false

abbrev pub IsOfBody : MethodKind → Instr → Type 0
IsOfBody method_kind.Entry i = is_of_merge i ≡ false
IsOfBody method_kind.Helper i = (is_of_entry i ≡ false) × (is_of_merge i ≡ false)
IsOfBody method_kind.Merge i = is_of_entry i ≡ false

-- a merge method takes what the parts of a join task bring
pub record TakesBrought (graph : Graph) (t : Task) (n : ℕ) : Type 0 where
  pub of : GraphMethod
  pub is_method : IsMethod graph n of
  pub one : of.params ≡ 1
  pub members : members_of_variable of 0 ≡ brought graph t

-- An access is to the task's field, a key is had by keyed tasks, merged is in join tasks, and a visit ends in parts alone.
abbrev pub IsOfTask : Graph → Task → Instr → Type 0
IsOfTask graph t (instr.Access name m) = t.field ≡ Some name
IsOfTask graph t instr.Key = t.kind ≡ kind.Keyed
IsOfTask graph t (instr.Merge n) = (t.kind ≡ kind.Join) × TakesBrought graph t n
IsOfTask graph t (instr.Part n) = t.kind ≡ kind.Visit
IsOfTask graph t (instr.Cut n) = t.kind ≢ kind.Visit
IsOfTask graph t instr.Return = t.kind ≢ kind.Visit
IsOfTask graph t instr.ReturnVoid = t.kind ≢ kind.Visit
IsOfTask graph t _ = Unit {0}

-- a task comes to an instruction before its end
pub record ReachesCode (graph : Graph) (t : Task) (at : ℕ) (i : Instr) : Type 0 where
  pub of : GraphMethod
  pub is_method : IsMethod graph t.method of
  pub reaches : Reaches of.code t.at at
  pub is_code : slice_get of.code at ≡ Some i

-- the one part that a visit comes to, which is the first in code
pub record HasPart (graph : Graph) (t : Task) : Type 0 where
  pub of : GraphMethod
  pub is_method : IsMethod graph t.method of
  pub join : ℕ
  pub first : first_part (drop t.at of.code) ≡ Some join
  pub at : ℕ
  pub reached : ReachesCode graph t at (instr.Part join)
  pub only : (other n : ℕ) → ReachesCode graph t other (instr.Part n) → other ≡ at

-- ---- calls and turns

-- a method calls another one, itself or through others
pub data Calls (graph : Graph) : ℕ → ℕ → Type 0 where
  Direct : (from to at : ℕ) → HasCode graph from at (instr.Call to) → Calls graph from to
  Gathering : (from to at : ℕ) → HasCode graph from at (instr.Merge to) → Calls graph from to
  Through : (from via to : ℕ) → Calls graph from via → Calls graph via to → Calls graph from to

abbrev pub SpendsBefore : Instr → Type 0
SpendsBefore (instr.Cut t) = Unit {0}
SpendsBefore (instr.Call n) = Unit {0}
SpendsBefore (instr.Merge n) = Unit {0}
SpendsBefore _ = ⊥

abbrev pub IsJumpTo : ℕ → Instr → Type 0
IsJumpTo at (instr.Jump to) = to ≡ at
IsJumpTo at (instr.IfFalse to) = to ≡ at
IsJumpTo at _ = ⊥

-- No run comes to an instruction but from the one before it.
pub record IsOnlyBehind (graph : Graph) (method at before : ℕ) : Type 0 where
  pub behind : at ≡ suc before
  pub no_jump : (other : ℕ) (i : Instr) → HasCode graph method other i → IsJumpTo at i → ⊥
  pub no_start : (n : ℕ) (t : Task) → IsTask graph n t → t.method ≡ method → t.at ≢ at

pub record IsBehindTurn (graph : Graph) (method at : ℕ) : Type 0 where
  pub before : ℕ
  pub only : IsOnlyBehind graph method at before
  pub turn : HasCode graph method before instr.Turn

pub record IsBehindAccess (graph : Graph) (method at : ℕ) : Type 0 where
  pub before : ℕ
  pub only : IsOnlyBehind graph method at before
  pub name : List ℕ
  pub of : Method
  pub access : HasCode graph method before (instr.Access name of)

-- ---- the whole

pub record IsVerified (graph : Graph) : Type 0 where
  pub few_fields : length graph.fields ≤ 64
  pub few_methods : length graph.methods ≤ 256
  pub field_names : AreNames (map (λ field. field.name) graph.fields)
  pub method_names : AreNames (map (λ m. m.name) graph.methods)
  pub parameters : (n : ℕ) (m : GraphMethod) → IsMethod graph n m → m.params ≤ length m.vars
  pub numbers : (n : ℕ) (m : GraphMethod) (at : ℕ) (i : Instr) → IsMethod graph n m → slice_get m.code at ≡ Some i → NamesSomething graph m i
  pub tasks : (n : ℕ) (t : Task) → IsTask graph n t → IsRightTask graph n t
  pub starts : (n : ℕ) (m : GraphMethod) → IsMethod graph n m → m.kind ≡ method_kind.Entry → HasStart graph n
  pub types : (n : ℕ) (m : GraphMethod) → IsMethod graph n m → IsTypedMethod graph n m
  pub bodies : (n : ℕ) (m : GraphMethod) (at : ℕ) (i : Instr) → IsMethod graph n m → slice_get m.code at ≡ Some i → IsOfBody m.kind i
  pub in_tasks : (n : ℕ) (t : Task) (at : ℕ) (i : Instr) → IsTask graph n t → ReachesCode graph t at i → IsOfTask graph t i
  pub parts : (n : ℕ) (t : Task) → IsTask graph n t → t.kind ≡ kind.Visit → HasPart graph t
  pub one_visit_a_part : (n k join : ℕ) (t u : Task) (at other : ℕ) → IsTask graph n t → IsTask graph k u → t.kind ≡ kind.Visit → u.kind ≡ kind.Visit
      → ReachesCode graph t at (instr.Part join) → ReachesCode graph u other (instr.Part join) → n ≡ k
  pub no_cycle : (n : ℕ) → Calls graph n n → ⊥
  -- what a task needs is carried to it
  pub variables : (n : ℕ) (t : Task) (m : GraphMethod) (v : ℕ) → IsTask graph n t → IsMethod graph t.method m → IsNeeded graph.tasks m.code v t.at → IsIn v t.vars
  pub helpers : (n : ℕ) (m : GraphMethod) (v : ℕ) → IsMethod graph n m → m.kind ≢ method_kind.Entry → IsNeeded graph.tasks m.code v 0 → v < m.params
  -- what a join carries, the visit carried
  pub joins : (n join at : ℕ) (t u : Task) (v : ℕ) → IsTask graph n t → ReachesCode graph t at (instr.Part join) → IsTask graph join u → IsIn v u.vars → IsIn v t.vars
  -- every way back spends a turn
  pub turns : (n : ℕ) (m : GraphMethod) (at : ℕ) → IsMethod graph n m → IsFree m.code at at → ⊥
  pub spends : (method at : ℕ) (i : Instr) → HasCode graph method at i → SpendsBefore i → IsBehindTurn graph method at
  pub accesses : (method at n : ℕ) → HasCode graph method at (instr.Part n) → IsBehindAccess graph method at
