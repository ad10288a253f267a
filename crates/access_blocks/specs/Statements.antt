-- What statements do (JLS 14), in big steps: how a statement completes (JLS 14.1), and what it leaves. A mark is passed by
-- spending a turn once its key is evaluated.
use Rattle.std.specs.Prelude.{ℕ, zero, suc, ℤ, pos, negsuc, Bool, true, false, List, [], ◌∷◌, length, map, nat_lt, slice_get, slice_set, unwrap_or, Option, Some, None, if◌then◌else◌}
use Rattle.sdg_base.specs.declared.val.Val.{Val}
use Rattle.sdg_base.specs.declared.val.Val.TheVariants as val
use Rattle.sdg_base.specs.declared.val.Exn.TheVariants as exn
use Rattle.sdg_base.specs.declared.val.Outcome.{Outcome}
use Rattle.sdg_base.specs.declared.val.Outcome.TheVariants as outcome
use Rattle.state_classes.specs.declared.method.Method.{Method}
use Rattle.state_classes.specs.States.{State, called}
use Rattle.access_blocks.specs.declared.body.Expression.{Expression}
use Rattle.access_blocks.specs.declared.body.Access.{Access}
use Rattle.access_blocks.specs.declared.body.Mark.{Mark}
use Rattle.access_blocks.specs.declared.body.Target.{Target}
use Rattle.access_blocks.specs.declared.body.Target.TheVariants as target
use Rattle.access_blocks.specs.declared.body.Statement.{Statement}
use Rattle.access_blocks.specs.declared.body.Statement.TheOpen.{Statement-F}
use Rattle.access_blocks.specs.declared.body.Statement.TheOpen as s
use Rattle.access_blocks.specs.declared.body.Statement.TheFolds.{fold-Statement}
use Rattle.access_blocks.specs.declared.halt.Halt.{Halt}
use Rattle.access_blocks.specs.declared.halt.Halt.TheVariants.{Threw, OutOfTurns, TooLong}
use Rattle.access_blocks.specs.Expressions.{Calls, Ended, Gives, Ends, Seen, is_true, longs_in, value_of, values_of}

-- a partitioned field whole, or the instances of a partial one
pub data Field : Type 0 where
  Whole : State → Field
  Instances : List State → Field

-- what a statement works on: what expressions see, the turns that are left, the fields, and which instance of a partial
-- field the block runs on
pub record Machine : Type 0 where
  pub variables : List Val
  pub key : Val
  pub gathered : List Val
  pub turns : ℕ
  pub fields : List Field
  pub instance : ℕ

-- JLS 14.1, where a call may also end at once
pub data Completion : Type 0 where
  Normal : Completion
  Breaks : Completion
  Continues : Completion
  Returns : Val → Completion
  Halts : Halt → Completion

pub record Completed : Type 0 where
  pub completion : Completion
  pub machine : Machine

abbrev pub completed : Completion → Machine → Completed
completed c m = record { completion = c; machine = m }

abbrev pub normal : Machine → Completed
normal m = completed Normal m

abbrev pub seen_by : Machine → Seen
seen_by m = record { variables = m.variables; key = m.key; gathered = m.gathered }

abbrev pub with_turns : ℕ → Machine → Machine
with_turns turns m = record m { turns = turns }

abbrev pub with_variable : ℕ → Val → Machine → Machine
with_variable v x m = record m { variables = slice_set m.variables v x }

-- what comes of something evaluated, and then of the machine
abbrev pub with_value : {A : Type 0} → Ended A → Machine → (A → Machine → Completed) → Completed
with_value (Gives a turns) m f = f a (with_turns turns m)
with_value (Ends h) m f = completed (Halts h) m

abbrev pub evaluated : Calls → Expression → Machine → (Val → Machine → Completed) → Completed
evaluated calls x m f = with_value (value_of calls x (seen_by m) m.turns) m f

-- A turn is spent, or the call ends for want of one.
abbrev pub spending : ℕ → Machine → (Machine → Completed) → Completed
spending zero m f = completed (Halts OutOfTurns) m
spending (suc left) m f = f (with_turns left m)

abbrev pub spent : Machine → (Machine → Completed) → Completed
spent m f = spending m.turns m f

-- ---- vectors

-- the elements with another at an index, where it is not outside
abbrev pub with_element : Val → Val → Val → Option Val
with_element (val.Vector xs) (val.Int (pos n)) (val.Long x) = if nat_lt n (length xs) then Some (val.Vector (slice_set xs n x)) else None
with_element _ _ _ = None

abbrev pub element_set : ℕ → Option Val → Machine → Completed
element_set v None m = completed (Halts (Threw exn.Index)) m
element_set v (Some vector) m = normal (with_variable v vector m)

abbrev pub variable_in : Machine → ℕ → Val
variable_in m v = unwrap_or (slice_get m.variables v) val.Unit

-- ---- state accesses

-- one part of a field: the whole of it, or an instance
abbrev pub part_of : Option Field → ℕ → Option State
part_of None instance = None
part_of (Some (Whole state)) instance = Some state
part_of (Some (Instances states)) instance = slice_get states instance

abbrev pub with_part : Field → ℕ → State → Field
with_part (Whole old) instance state = Whole state
with_part (Instances states) instance state = Instances (slice_set states instance state)

abbrev pub changed_field : Option Field → ℕ → State → List Field → ℕ → List Field
changed_field None field state fields instance = fields
changed_field (Some old) field state fields instance = slice_set fields field (with_part old instance state)

abbrev pub with_state : ℕ → State → Machine → Machine
with_state field state m = record m { fields = changed_field (slice_get m.fields field) field state m.fields m.instance }

-- What a method answers goes to its target. An exception, or a vector that would be too long, ends the call.
abbrev pub targeted : Target → Outcome → Machine → Completed
targeted target.Dropped (outcome.Value v) m = normal m
targeted (target.Variable x) (outcome.Value v) m = normal (with_variable x v m)
targeted target.Returned (outcome.Value v) m = completed (Returns v) m
targeted to (outcome.Throws e) m = completed (Halts (Threw e)) m
targeted to outcome.Limit m = completed (Halts TooLong) m

abbrev pub called_on : Option State → ℕ → Target → Method → List Val → Machine → Completed
called_on None field to method args m = normal m
called_on (Some state) field to method args m = targeted to (called method args state).0 (with_state field (called method args state).1 m)

abbrev pub access : Calls → Access → Machine → Completed
access calls a m =
    with_value (values_of calls a.args (seen_by m) m.turns) m (λ args n. called_on (part_of (slice_get n.fields a.field) n.instance) a.field a.target a.method args n)

-- ---- marks

-- The key is evaluated, and then the turn is spent. A block on an instance has no key.
abbrev pub marked : Calls → Option Expression → Machine → (Machine → Completed) → Completed
marked calls None m f = spent m f
marked calls (Some key) m f = evaluated calls key m (λ k n. spent n (λ left. f (record left { key = k })))

-- A field that has no instances gathers nothing. Where a field has some, they are visited in steps of their own.
abbrev pub gathering : Calls → List Expression → Machine → Completed
gathering calls args m = with_value (values_of calls args (seen_by m) m.turns) m (λ vs n. spent n (λ left. normal (record left { key = val.Unit; gathered = [] })))

-- ---- control

abbrev pub Running : Type 0
Running = Machine → Completed

abbrev pub going_on : Completion → Machine → Running → Completed
going_on Normal m f = f m
going_on c m f = completed c m

-- what follows where a statement completes normally
abbrev pub after : Completed → Running → Completed
after c f = going_on c.completion c.machine f

abbrev pub in_order : List Running → Running
in_order [] m = normal m
in_order (s ∷ ss) m = after (s m) (in_order ss)

abbrev pub otherwise : Option Running → Running
otherwise None m = normal m
otherwise (Some s) m = s m

-- The condition of a loop; where there is none it holds (JLS 14.14.1.2).
abbrev pub tested : Calls → Option Expression → Machine → (Val → Machine → Completed) → Completed
tested calls None m f = f (val.Bool true) m
tested calls (Some x) m f = evaluated calls x m f

-- behind a body: `break` leaves the loop, and `continue` goes on with the update (JLS 14.14.1.3, 14.15, 14.16)
abbrev pub looping : Completion → Machine → Running → Completed
looping Normal m f = f m
looping Continues m f = f m
looping Breaks m f = normal m
looping c m f = completed c m

abbrev pub after_body : Completed → Running → Completed
after_body c f = looping c.completion c.machine f

-- so many passes of a loop at most; each spends a turn
abbrev pub passes : Calls → Option Expression → Running → Running → ℕ → Running
passes calls test update body zero m = completed (Halts OutOfTurns) m
passes calls test update body (suc most) m =
    tested calls test m (λ holds n.
    if is_true holds then spent n (λ left. after_body (body left) (λ o. after (update o) (passes calls test update body most)))
    else normal n)

-- No loop has more passes than there are turns, and then one test more.
abbrev pub looped : Calls → Option Expression → Running → Running → Running
looped calls test update body m = passes calls test update body (suc m.turns) m

abbrev pub returned : Calls → Option Expression → Running
returned calls None m = completed (Returns val.Unit) m
returned calls (Some x) m = evaluated calls x m (λ v n. completed (Returns v) n)

-- ---- statements

abbrev pub statement_step : Calls → Statement-F Running → Running
statement_step calls (s.Assign v x) m = evaluated calls x m (λ value n. normal (with_variable v value n))
statement_step calls (s.SetElement v at x) m =
    evaluated calls at m (λ i n. evaluated calls x n (λ value o. element_set v (with_element (variable_in o v) i value) o))
statement_step calls (s.Evaluate x) m = evaluated calls x m (λ value n. normal n)
statement_step calls (s.Access a) m = access calls a m
statement_step calls (s.Gather g) m = gathering calls g.args m
statement_step calls (s.Marked mark body) m = marked calls mark.key m body
statement_step calls (s.Opened body) m = body m
statement_step calls (s.Block items) m = in_order items m
statement_step calls (s.If test first second) m = evaluated calls test m (λ holds n. if is_true holds then first n else otherwise second n)
statement_step calls (s.Loop start test update body) m = after (in_order start m) (looped calls test (in_order update) body)
statement_step calls s.Break m = completed Breaks m
statement_step calls s.Continue m = completed Continues m
statement_step calls (s.Return x) m = returned calls x m

abbrev pub meaning : Calls → Statement → Running
meaning calls = fold-Statement Running (statement_step calls)

abbrev pub meanings : Calls → List Statement → Running
meanings calls ss = in_order (map (meaning calls) ss)
