-- Which bodies are typed before marks stand in them (JLS 14, 15): the same walk over the statements as with marks, with what
-- was gathered for the next statement alone, and with each access outside of blocks.
use Rattle.std.specs.Prelude.{◌≡◌, ℕ, Bool, true, false, not, ◌&&◌, ◌||◌, nat_eq, if◌then◌else◌, List, [], ◌∷◌, map, Option, Some, None, slice_get}
use Rattle.std.specs.List.{list_all}
use Rattle.sdg_base.specs.declared.value_type.ValueType.TheVariants as type
use Rattle.sdg_base.specs.Signatures.{Signature}
use Rattle.access_blocks.specs.declared.body.Access.{Access}
use Rattle.access_blocks.specs.declared.body.Choice.{Choice}
use Rattle.access_blocks.specs.declared.body.Choice.TheVariants as choice
use Rattle.access_blocks.specs.declared.body.Expression.{Expression}
use Rattle.access_blocks.specs.declared.body.Statement.{Statement}
use Rattle.access_blocks.specs.declared.body.Statement.TheOpen.{Statement-F}
use Rattle.access_blocks.specs.declared.body.Statement.TheOpen as s
use Rattle.access_blocks.specs.declared.body.Statement.TheFolds.{fold-Statement}
use Rattle.access_blocks.specs.Marks.{first_argument}
use Rattle.body_code.specs.Typing.{Needs, needs, type_of}
use Rattle.body_code.specs.Checking.{Surroundings, Standing, Checking, outside, in_order, otherwise, looping, jumping, returning, takes, takes_all, is_type, is_entry, is_partial, is_partitioned, assigned, set_element, evaluated, targeted, gather, signature_of, are_met}

-- What was gathered is for the next statement alone.
abbrev pub and_outside : Option Standing → Option Standing
and_outside None = None
and_outside (Some st) = Some (outside st)

-- behind a compound statement
abbrev pub behind : Standing → Option Standing → Option Standing
behind before None = None
behind before (Some end) = Some (outside before)

abbrev pub behind_both : Standing → Option Standing → Option Standing → Option Standing
behind_both before (Some a) (Some b) = Some (outside before)
behind_both before _ _ = None

-- ---- accesses

abbrev pub is_empty : List ℕ → Bool
is_empty [] = true
is_empty (n ∷ ns) = false

-- reads one variable and nothing else
abbrev pub reads_only : ℕ → Needs → Bool
reads_only v n = list_all (nat_eq v) n.variables && (is_empty n.merges && not n.key)

abbrev pub reads_nothing : Needs → Bool
reads_nothing n = is_empty n.variables && (is_empty n.merges && not n.key)

-- the key of an access as its choice says
abbrev pub is_chosen_so : Choice → Expression → Bool
is_chosen_so (choice.Literal n) key = reads_nothing (needs key)
is_chosen_so (choice.Variable v) key = reads_only v (needs key)
is_chosen_so choice.Compound key = true
is_chosen_so choice.Instance key = false

abbrev pub is_key : Surroundings → Choice → Option Expression → Bool
is_key around how None = false
is_key around how (Some key) = is_chosen_so how key && is_type (type_of around.context key) type.Long

-- an instance of a partial field, or the part of a partitioned one that a key chooses
abbrev pub has_place : Surroundings → Access → Signature → Choice → Bool
has_place around a sig choice.Instance = is_partial (slice_get around.fields a.field)
has_place around a sig how = is_partitioned (slice_get around.fields a.field) && (sig.keyed && is_key around how (first_argument a.args))

abbrev pub is_unmarked_access : Surroundings → Access → Signature → Standing → Bool
is_unmarked_access around a sig st = is_entry around.kind && (has_place around a sig a.choice && takes_all around st a.args sig.arguments)

abbrev pub unmarked_access : Surroundings → Access → Option Signature → Standing → Option Standing
unmarked_access around a None st = None
unmarked_access around a (Some sig) st = if is_unmarked_access around a sig st then targeted around a.target sig.result st else None

-- ---- control

abbrev pub unmarked_branching : Surroundings → Expression → Checking → Option Checking → Checking
unmarked_branching around test first second exits st =
    if takes around st test type.Boolean then behind_both st (first exits st) (otherwise second exits st) else None

-- ---- statements

abbrev pub unmarked_step : Surroundings → Statement-F Checking → Checking
unmarked_step around (s.Assign v x) exits st = and_outside (assigned around v (type_of around.context x) (are_met around st (needs x)) st)
unmarked_step around (s.SetElement v at x) exits st = and_outside (set_element around v at x st)
unmarked_step around (s.Evaluate x) exits st = and_outside (evaluated around x st)
unmarked_step around (s.Access a) exits st = unmarked_access around a (signature_of around a.field a.method) (outside st)
unmarked_step around (s.Gather g) exits st = gather around g (signature_of around g.field g.method) st
unmarked_step around (s.Marked mark body) exits st = None
unmarked_step around (s.Opened body) exits st = None
unmarked_step around (s.Block items) exits st = behind st (in_order items exits (outside st))
unmarked_step around (s.If test first second) exits st = unmarked_branching around test first second exits (outside st)
unmarked_step around (s.Loop start test update body) exits st = behind st (looping around start test update body exits (outside st))
unmarked_step around s.Break exits st = jumping exits (outside st)
unmarked_step around s.Continue exits st = jumping exits (outside st)
unmarked_step around (s.Return x) exits st = and_outside (returning around x st)

abbrev pub unmarked : Surroundings → Statement → Checking
unmarked around = fold-Statement Checking (unmarked_step around)

abbrev pub unmarked_list : Surroundings → List Statement → Checking
unmarked_list around ss = in_order (map (unmarked around) ss)

-- ---- the headers of loops

-- whether there is an access in a statement, and none in the header of a loop
pub record Headed : Type 0 where
  pub accesses : Bool
  pub is_right : Bool

abbrev pub headed : Bool → Bool → Headed
headed accesses is_right = record { accesses = accesses; is_right = is_right }

abbrev pub one_after : Headed → Headed → Headed
one_after a b = headed (a.accesses || b.accesses) (a.is_right && b.is_right)

abbrev pub one_by_one : List Headed → Headed
one_by_one [] = headed false true
one_by_one (a ∷ others) = one_after a (one_by_one others)

abbrev pub maybe_after : Headed → Option Headed → Headed
maybe_after a None = a
maybe_after a (Some b) = one_after a b

abbrev pub around_body : Headed → Headed → Headed
around_body header body = headed (header.accesses || body.accesses) (not header.accesses && body.is_right)

abbrev pub headed_step : Statement-F Headed → Headed
headed_step (s.Access a) = headed true true
headed_step (s.Gather g) = headed true true
headed_step (s.Marked mark body) = body
headed_step (s.Opened body) = body
headed_step (s.Block items) = one_by_one items
headed_step (s.If test first second) = maybe_after first second
headed_step (s.Loop start test update body) = around_body (one_after (one_by_one start) (one_by_one update)) body
headed_step _ = headed false true

abbrev pub headed_in : Statement → Headed
headed_in = fold-Statement Headed headed_step

-- typed before marks stand in them, from a standing on
pub record AreUnmarkedTyped (around : Surroundings) (ss : List Statement) (st : Standing) : Type 0 where
  pub after : Standing
  pub walked : unmarked_list around ss None st ≡ Some after
  pub headers : (one_by_one (map headed_in ss)).is_right ≡ true
