-- Which bodies are typed (JLS 14, 15), and where state may be accessed in them: a walk over the statements, with what holds
-- before each.
use Rattle.std.specs.Prelude.{◌≡◌, ℕ, ◌≤◌, zero, suc, Bool, true, false, not, ◌&&◌, ◌||◌, nat_eq, if◌then◌else◌, List, [], ◌∷◌, ◌++◌, length, map, Option, Some, None, slice_get}
use Rattle.std.specs.List.{list_all, flat_map, range_with_len}
use Rattle.sdg_base.specs.declared.value_type.ValueType.{ValueType}
use Rattle.sdg_base.specs.declared.value_type.ValueType.TheVariants as type
use Rattle.sdg_base.specs.Signatures.{Signature}
use Rattle.state_classes.specs.declared.method.Method.{Method as StateMethod}
use Rattle.state_classes.specs.Methods.{signature}
use Rattle.java_tree.specs.declared.tree.Class.{Class}
use Rattle.java_tree.specs.declared.tree.Method.{Method}
use Rattle.java_tree.specs.declared.method_kinds.MethodKind.{MethodKind}
use Rattle.java_tree.specs.declared.method_kinds.MethodKind.TheVariants.{Entry, Helper, Merge}
use Rattle.flat_code.specs.Types.{same_type, same_types}
use Rattle.flat_code.specs.Verified.{AreNames}
use Rattle.access_blocks.specs.declared.body.Access.{Access}
use Rattle.access_blocks.specs.declared.body.Body.{Body}
use Rattle.access_blocks.specs.declared.body.Expression.{Expression}
use Rattle.access_blocks.specs.declared.body.Expression.TheOpen.{Expression-F}
use Rattle.access_blocks.specs.declared.body.Expression.TheOpen as e
use Rattle.access_blocks.specs.declared.body.Expression.TheFolds.{fold-Expression}
use Rattle.access_blocks.specs.declared.body.Gather.{Gather}
use Rattle.access_blocks.specs.declared.body.Holder.{Holder}
use Rattle.access_blocks.specs.declared.body.Mark.{Mark}
use Rattle.access_blocks.specs.declared.body.Program.{Program}
use Rattle.access_blocks.specs.declared.body.Statement.{Statement}
use Rattle.access_blocks.specs.declared.body.Statement.TheOpen.{Statement-F}
use Rattle.access_blocks.specs.declared.body.Statement.TheOpen as s
use Rattle.access_blocks.specs.declared.body.Statement.TheFolds.{fold-Statement}
use Rattle.access_blocks.specs.declared.body.Target.{Target}
use Rattle.access_blocks.specs.declared.body.Target.TheVariants as target
use Rattle.access_blocks.specs.Programs.{fields_in, methods_in}
use Rattle.body_code.specs.declared.callee.Callee.{Callee}
use Rattle.body_code.specs.Typing.{Context, Needs, needs, needs_of_all, type_of, types_of, variable_type}
use Rattle.body_code.specs.Completing.{body_completes}
use Rattle.body_code.specs.Early.{early, is_in}
use Rattle.body_code.specs.ClassCode.{callees_of, context_of, result_type}

-- what a body stands in: its kind, the fields of the class, what its expressions stand in, and the type of its result
pub record Surroundings : Type 0 where
  pub kind : MethodKind
  pub fields : List Holder
  pub context : Context
  pub result : ValueType

-- what holds before a statement: the variables that have a value, the field that the block accesses, where there is one, and
-- the type of what the parts of the last gathering access brought
pub record Standing : Type 0 where
  pub known : List ℕ
  pub field : Option ℕ
  pub gathered : Option ValueType

-- What holds where a `break` or a `continue` goes; None outside of loops.
abbrev pub Around : Type 0
Around = Option Standing

-- what holds after a statement, where it is typed
abbrev pub Checking : Type 0
Checking = Around → Standing → Option Standing

abbrev pub if_so : Bool → Standing → Option Standing
if_so true st = Some st
if_so false st = None

abbrev pub with_known : ℕ → Standing → Standing
with_known v st = record { known = v ∷ st.known; field = st.field; gathered = st.gathered }

-- in no block
abbrev pub outside : Standing → Standing
outside st = record { known = st.known; field = None; gathered = None }

abbrev pub in_block : ℕ → Standing → Standing
in_block field st = record { known = st.known; field = Some field; gathered = None }

-- behind a gathering access
abbrev pub gathering : ValueType → Standing → Standing
gathering t st = record { known = st.known; field = None; gathered = Some t }

-- the variables that were known before a compound statement, in the block that it ends in
abbrev pub after_compound : Standing → Standing → Standing
after_compound before st = record { known = before.known; field = st.field; gathered = st.gathered }

-- ---- what one standing has that another one needs

abbrev pub same_number : Option ℕ → Option ℕ → Bool
same_number None None = true
same_number (Some a) (Some b) = nat_eq a b
same_number _ _ = false

abbrev pub same_value : Option ValueType → Option ValueType → Bool
same_value None None = true
same_value (Some s) (Some t) = same_type s t
same_value _ _ = false

abbrev pub is_none : {A : Type 0} → Option A → Bool
is_none None = true
is_none (Some a) = false

abbrev pub are_known : Standing → List ℕ → Bool
are_known st vs = list_all (λ v. is_in v st.known) vs

-- What holds in the second holds in the first.
abbrev pub covers : Standing → Standing → Bool
covers st need =
    are_known st need.known && ((is_none need.field || same_number st.field need.field) && (is_none need.gathered || same_value st.gathered need.gathered))

abbrev pub common : {A : Type 0} → Bool → Option A → Option A
common true a = a
common false a = None

-- what holds after one of two
abbrev pub meet : Standing → Standing → Standing → Standing
meet before a b = record {
  known = before.known;
  field = common (same_number a.field b.field) a.field;
  gathered = common (same_value a.gathered b.gathered) a.gathered;
}

-- ---- expressions

abbrev pub is_partitioned : Option Holder → Bool
is_partitioned None = false
is_partitioned (Some h) = not h.is_partial

abbrev pub is_partial : Option Holder → Bool
is_partial None = false
is_partial (Some h) = h.is_partial

-- only blocks of a partitioned field have a key
abbrev pub has_key : Surroundings → Option ℕ → Bool
has_key around None = false
has_key around (Some field) = is_partitioned (slice_get around.fields field)

abbrev pub is_merge_of : ValueType → MethodKind → List ValueType → Bool
is_merge_of t Merge params = same_types params (t ∷ [])
is_merge_of t _ params = false

abbrev pub takes_values : Option Callee → ValueType → Bool
takes_values None t = false
takes_values (Some m) t = is_merge_of t m.kind m.params

-- a method merges what was gathered
abbrev pub takes_gathered : Surroundings → Option ValueType → ℕ → Bool
takes_gathered around None m = false
takes_gathered around (Some t) m = takes_values (slice_get around.context.methods m) t

abbrev pub are_met : Surroundings → Standing → Needs → Bool
are_met around st n =
    are_known st n.variables && (list_all (takes_gathered around st.gathered) n.merges && (not n.key || has_key around st.field))

abbrev pub is_type : Option ValueType → ValueType → Bool
is_type None t = false
is_type (Some s) t = same_type s t

abbrev pub are_types : Option (List ValueType) → List ValueType → Bool
are_types None ts = false
are_types (Some ss) ts = same_types ss ts

-- a value of a type
abbrev pub takes : Surroundings → Standing → Expression → ValueType → Bool
takes around st x t = are_met around st (needs x) && is_type (type_of around.context x) t

abbrev pub takes_all : Surroundings → Standing → List Expression → List ValueType → Bool
takes_all around st xs ts = are_met around st (needs_of_all xs) && are_types (types_of around.context xs) ts

abbrev pub is_void : ValueType → Bool
is_void type.Void = true
is_void _ = false

-- a value of the method's result type
abbrev pub is_result : Surroundings → ValueType → Bool
is_result around t = same_type t around.result && not (is_void t)

-- ---- simple statements

-- a value of a type goes to a variable
abbrev pub to_variable : Surroundings → ℕ → ValueType → Standing → Option Standing
to_variable around v t st = if_so (is_type (variable_type around.context v) t) (with_known v st)

abbrev pub assigned : Surroundings → ℕ → Option ValueType → Bool → Standing → Option Standing
assigned around v None met st = None
assigned around v (Some t) met st = if met then to_variable around v t st else None

abbrev pub set_element : Surroundings → ℕ → Expression → Expression → Standing → Option Standing
set_element around v at x st =
    if_so (is_type (variable_type around.context v) type.Vector && (is_in v st.known && (takes around st at type.Int && takes around st x type.Long))) st

abbrev pub has_type : Option ValueType → Bool
has_type None = false
has_type (Some t) = true

abbrev pub evaluated : Surroundings → Expression → Standing → Option Standing
evaluated around x st = if_so (are_met around st (needs x) && has_type (type_of around.context x)) st

abbrev pub targeted : Surroundings → Target → ValueType → Standing → Option Standing
targeted around target.Dropped t st = Some st
targeted around (target.Variable v) t st = to_variable around v t st
targeted around target.Returned t st = if_so (is_result around t) st

abbrev pub signature_in : Option Holder → StateMethod → Option Signature
signature_in None m = None
signature_in (Some h) m = signature h.class m

abbrev pub signature_of : Surroundings → ℕ → StateMethod → Option Signature
signature_of around field m = signature_in (slice_get around.fields field) m

-- to the field of the block, and by its key where the field is partitioned
abbrev pub is_access : Surroundings → Access → Signature → Standing → Bool
is_access around a sig st =
    same_number st.field (Some a.field) && ((sig.keyed || not (is_partitioned (slice_get around.fields a.field))) && takes_all around st a.args sig.arguments)

abbrev pub access : Surroundings → Access → Option Signature → Standing → Option Standing
access around a None st = None
access around a (Some sig) st = if is_access around a sig st then targeted around a.target sig.result st else None

abbrev pub is_entry : MethodKind → Bool
is_entry Entry = true
is_entry _ = false

abbrev pub gather : Surroundings → Gather → Option Signature → Standing → Option Standing
gather around g None st = None
gather around g (Some sig) st =
    if_so (is_entry around.kind && (is_partial (slice_get around.fields g.field) && takes_all around st g.args sig.arguments)) (gathering sig.result st)

-- ---- marks

abbrev pub is_key_of : Surroundings → Standing → Option Holder → Option Expression → Bool
is_key_of around st None key = false
is_key_of around st (Some h) None = h.is_partial
is_key_of around st (Some h) (Some key) = not h.is_partial && takes around st key type.Long

abbrev pub marked : Surroundings → Mark → Checking → Checking
marked around mark body exits st =
    if is_entry around.kind && is_key_of around st (slice_get around.fields mark.field) mark.key then body exits (in_block mark.field st) else None

-- ---- control

abbrev pub next : (Standing → Option Standing) → Option Standing → Option Standing
next f None = None
next f (Some st) = f st

abbrev pub in_order : List Checking → Checking
in_order [] exits st = Some st
in_order (c ∷ cs) exits st = next (in_order cs exits) (c exits st)

abbrev pub opened : Standing → Option Standing → Option Standing
opened st None = None
opened st (Some end) = Some (outside st)

abbrev pub compound : Standing → Option Standing → Option Standing
compound before None = None
compound before (Some end) = Some (after_compound before end)

abbrev pub met : Standing → Option Standing → Option Standing → Option Standing
met before (Some a) (Some b) = Some (meet before a b)
met before _ _ = None

abbrev pub otherwise : Option Checking → Checking
otherwise None exits st = Some st
otherwise (Some c) exits st = c exits st

abbrev pub branching : Surroundings → Expression → Checking → Option Checking → Checking
branching around test first second exits st =
    if takes around st test type.Boolean then met st (first exits st) (otherwise second exits st) else None

abbrev pub is_condition : Surroundings → Standing → Option Expression → Bool
is_condition around st None = true
is_condition around st (Some test) = takes around st test type.Boolean

abbrev pub ends_as : Standing → Option Standing → Bool
ends_as need None = false
ends_as need (Some end) = covers end need

-- What holds before the first pass holds before each, and after the loop.
abbrev pub passing : Surroundings → Standing → Option Expression → List Checking → Checking → Standing → Option Standing
passing around before test update body st =
    if_so (is_condition around st test && (ends_as st (body (Some st) st) && ends_as st (in_order update None st))) (after_compound before st)

abbrev pub looping : Surroundings → List Checking → Option Expression → List Checking → Checking → Checking
looping around start test update body exits st = next (passing around st test update body) (in_order start None st)

abbrev pub jumping : Around → Standing → Option Standing
jumping None st = None
jumping (Some need) st = if_so (covers st need) st

abbrev pub returning : Surroundings → Option Expression → Standing → Option Standing
returning around None st = if_so (is_void around.result) st
returning around (Some x) st = if_so (takes around st x around.result && not (is_void around.result)) st

-- ---- statements

abbrev pub checked_step : Surroundings → Statement-F Checking → Checking
checked_step around (s.Assign v x) exits st = assigned around v (type_of around.context x) (are_met around st (needs x)) st
checked_step around (s.SetElement v at x) exits st = set_element around v at x st
checked_step around (s.Evaluate x) exits st = evaluated around x st
checked_step around (s.Access a) exits st = access around a (signature_of around a.field a.method) st
checked_step around (s.Gather g) exits st = gather around g (signature_of around g.field g.method) st
checked_step around (s.Marked mark body) exits st = marked around mark body exits st
checked_step around (s.Opened body) exits st = opened st (body exits (outside st))
checked_step around (s.Block items) exits st = compound st (in_order items exits st)
checked_step around (s.If test first second) exits st = branching around test first second exits st
checked_step around (s.Loop start test update body) exits st = looping around start test update body exits st
checked_step around s.Break exits st = jumping exits st
checked_step around s.Continue exits st = jumping exits st
checked_step around (s.Return x) exits st = returning around x st

abbrev pub checked : Surroundings → Statement → Checking
checked around = fold-Statement Checking (checked_step around)

abbrev pub checked_list : Surroundings → List Statement → Checking
checked_list around ss = in_order (map (checked around) ss)

-- ---- blocks: the first access in the code of a block is one to a part of its field

-- to a part of a field, or to each instance of one
pub data Reach : Type 0 where
  ToPart : ℕ → Reach
  ToEach : Reach

pub record Accessing : Type 0 where
  pub first : Option Reach
  pub is_right : Bool

abbrev pub accessing : Option Reach → Bool → Accessing
accessing first is_right = record { first = first; is_right = is_right }

abbrev pub is_to_part : ℕ → Option Reach → Bool
is_to_part field (Some (ToPart f)) = nat_eq f field
is_to_part field _ = false

abbrev pub first_of : Option Reach → Option Reach → Option Reach
first_of None b = b
first_of (Some a) b = Some a

abbrev pub one_after : Accessing → Accessing → Accessing
one_after a b = accessing (first_of a.first b.first) (a.is_right && b.is_right)

abbrev pub one_by_one : List Accessing → Accessing
one_by_one [] = accessing None true
one_by_one (a ∷ others) = one_after a (one_by_one others)

abbrev pub maybe_after : Accessing → Option Accessing → Accessing
maybe_after a None = a
maybe_after a (Some b) = one_after a b

abbrev pub accessing_step : Statement-F Accessing → Accessing
accessing_step (s.Access a) = accessing (Some (ToPart a.field)) true
accessing_step (s.Gather g) = accessing (Some ToEach) true
accessing_step (s.Marked mark body) = accessing body.first (body.is_right && is_to_part mark.field body.first)
accessing_step (s.Opened body) = body
accessing_step (s.Block items) = one_by_one items
accessing_step (s.If test first second) = maybe_after first second
accessing_step (s.Loop start test update body) = one_after (one_by_one start) (one_after body (one_by_one update))
accessing_step _ = accessing None true

abbrev pub accessing_in : Statement → Accessing
accessing_in = fold-Statement Accessing accessing_step

-- ---- calls

abbrev pub calling_step : Expression-F (List ℕ) → List ℕ
calling_step (e.Unary op a) = a
calling_step (e.Binary op a b) = a ++ b
calling_step (e.Cast to a) = a
calling_step (e.Conditional test a b) = test ++ (a ++ b)
calling_step (e.NewVector n) = n
calling_step (e.VectorElement v at) = at
calling_step (e.Gathered at) = at
calling_step (e.GatheredSize at) = at
calling_step (e.GatheredElement at index) = at ++ index
calling_step (e.Call m args) = flat_map (λ ms. ms) args ++ m ∷ []
calling_step (e.Merge m) = m ∷ []
calling_step _ = []

-- the methods that an expression calls
abbrev pub calling : Expression → List ℕ
calling = fold-Expression (List ℕ) calling_step

abbrev pub calling_maybe : Option Expression → List ℕ
calling_maybe None = []
calling_maybe (Some x) = calling x

abbrev pub in_all : List (List ℕ) → List ℕ
in_all = flat_map (λ ms. ms)

abbrev pub in_second : Option (List ℕ) → List ℕ
in_second None = []
in_second (Some ms) = ms

abbrev pub called_step : Statement-F (List ℕ) → List ℕ
called_step (s.Assign v x) = calling x
called_step (s.SetElement v at x) = calling at ++ calling x
called_step (s.Evaluate x) = calling x
called_step (s.Access a) = in_all (map calling a.args)
called_step (s.Gather g) = in_all (map calling g.args)
called_step (s.Marked mark body) = calling_maybe mark.key ++ body
called_step (s.Opened body) = body
called_step (s.Block items) = in_all items
called_step (s.If test first second) = calling test ++ (first ++ in_second second)
called_step (s.Loop start test update body) = in_all start ++ (calling_maybe test ++ (body ++ in_all update))
called_step (s.Return x) = calling_maybe x
called_step _ = []

abbrev pub called_in : Statement → List ℕ
called_in = fold-Statement (List ℕ) called_step

-- a method calls another one, itself or through others
pub data CallsMethod (methods : List Body) : ℕ → ℕ → Type 0 where
  Direct : (from to : ℕ) (b : Body) → slice_get methods from ≡ Some b → is_in to (in_all (map called_in b.statements)) ≡ true → CallsMethod methods from to
  Through : (from via to : ℕ) → CallsMethod methods from via → CallsMethod methods via to → CallsMethod methods from to

-- ---- bodies

abbrev pub surroundings : List Holder → List Callee → Method → Body → Surroundings
surroundings fields methods m b = record { kind = b.kind; fields = fields; context = context_of methods b; result = result_type m.result }

-- A collection has no value of its own.
abbrev pub known_parameters : MethodKind → ℕ → List ℕ
known_parameters Merge arity = []
known_parameters _ arity = range_with_len 0 arity

abbrev pub at_start : Body → Standing
at_start b = record { known = known_parameters b.kind b.arity ++ early b; field = None; gathered = None }

abbrev pub IsOne : MethodKind → ℕ → Type 0
IsOne Merge arity = arity ≡ 1
IsOne _ arity = Unit {0}

pub record IsTypedBody (fields : List Holder) (methods : List Callee) (m : Method) (b : Body) : Type 0 where
  pub arity : b.arity ≤ length b.variables
  pub one : IsOne b.kind b.arity
  pub after : Standing
  pub checked : checked_list (surroundings fields methods m b) b.statements None (at_start b) ≡ Some after
  pub blocks : (one_by_one (map accessing_in b.statements)).is_right ≡ true
  pub returns : body_completes b.statements ≡ true → result_type m.result ≡ type.Void

pub record AreNamed (class : Class) : Type 0 where
  pub few_fields : length (fields_in class.members) ≤ 64
  pub few_methods : length (methods_in class.members) ≤ 256
  pub field_names : AreNames (map (λ f. f.name) (fields_in class.members))
  pub method_names : AreNames (map (λ m. m.name) (methods_in class.members))

-- every body of a class is typed
pub record IsTyped (class : Class) (program : Program) : Type 0 where
  pub names : AreNamed class
  pub same_fields : length (fields_in class.members) ≡ length program.fields
  pub same_methods : length (methods_in class.members) ≡ length program.methods
  pub bodies : (n : ℕ) (m : Method) (b : Body) → slice_get (methods_in class.members) n ≡ Some m → slice_get program.methods n ≡ Some b
      → IsTypedBody program.fields (callees_of class program) m b
  pub no_cycle : (n : ℕ) → CallsMethod program.methods n n → ⊥
