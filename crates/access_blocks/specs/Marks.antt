-- Where blocks begin: before which statements of a list a mark stands, by recursion on the list with the current site carried
-- along.
use Rattle.std.specs.Prelude.{ℕ, Bool, true, false, not, ◌&&◌, ◌||◌, nat_eq, List, [], ◌∷◌, ◌++◌, map, slice_get, Option, Some, None, if◌then◌else◌}
use Rattle.std.specs.List.{list_any, list_all, flat_map}
use Rattle.std.specs.Ordering.{int_eq}
use Rattle.access_blocks.specs.declared.body.Access.{Access}
use Rattle.access_blocks.specs.declared.body.Choice.{Choice}
use Rattle.access_blocks.specs.declared.body.Choice.TheVariants as choice
use Rattle.access_blocks.specs.declared.body.Expression.{Expression}
use Rattle.access_blocks.specs.declared.body.Expression.TheVariants as x
use Rattle.access_blocks.specs.declared.body.Target.{Target}
use Rattle.access_blocks.specs.declared.place.Placed.{Placed}
use Rattle.access_blocks.specs.declared.place.Reached.{Reached}
use Rattle.access_blocks.specs.declared.place.Reached.TheVariants.{Nothing, One, Several}
use Rattle.access_blocks.specs.declared.place.Site.{Site}
use Rattle.access_blocks.specs.declared.body.Target.TheVariants as target
use Rattle.access_blocks.specs.declared.body.Statement.{Statement, out-Statement, roll-Statement}
use Rattle.access_blocks.specs.declared.body.Statement.TheVariants as statement
use Rattle.access_blocks.specs.declared.body.Statement.TheOpen.{Statement-F}
use Rattle.access_blocks.specs.declared.body.Statement.TheOpen as s
use Rattle.access_blocks.specs.declared.body.Statement.TheFolds.{fold-Statement, map-Statement}

-- ---- the accesses of a statement

abbrev pub site_of : Access → Site
site_of a = record { field = a.field; choice = Some a.choice }

abbrev pub of_second : {A : Type 0} → Option (List A) → List A
of_second None = []
of_second (Some xs) = xs

abbrev pub sites_step : Statement-F (List Site) → List Site
sites_step (s.Access a) = site_of a ∷ []
sites_step (s.Gather g) = record { field = g.field; choice = None } ∷ []
sites_step (s.Marked mark body) = body
sites_step (s.Opened body) = body
sites_step (s.Block items) = flat_map (λ xs. xs) items
sites_step (s.If test first second) = first ++ of_second second
sites_step (s.Loop start test update body) = flat_map (λ xs. xs) start ++ (flat_map (λ xs. xs) update ++ body)
sites_step _ = []

abbrev pub sites_in : Statement → List Site
sites_in = fold-Statement (List Site) sites_step

-- ---- equal sites

-- Two keys are equal where they are literals of one value, or one variable. Any other key is like none, itself included.
abbrev pub same_choice : Choice → Choice → Bool
same_choice (choice.Literal a) (choice.Literal b) = int_eq a b
same_choice (choice.Variable a) (choice.Variable b) = nat_eq a b
same_choice choice.Instance choice.Instance = true
same_choice _ _ = false

abbrev pub same_part : Option Choice → Option Choice → Bool
same_part (Some a) (Some b) = same_choice a b
same_part _ _ = false

abbrev pub same_site : Site → Site → Bool
same_site a b = nat_eq a.field b.field && same_part a.choice b.choice

-- ---- accesses as they come

abbrev pub one_or_several : Bool → Site → Reached
one_or_several true a = One a
one_or_several false a = Several

-- what is known with one more access
abbrev pub also : Reached → Site → Reached
also Nothing a = one_or_several (same_site a a) a
also (One first) a = one_or_several (same_site first a) first
also Several a = Several

abbrev pub is_any : Reached → Bool
is_any Nothing = false
is_any (One a) = true
is_any Several = true

-- ---- assignments

abbrev pub is_target : ℕ → Target → Bool
is_target v (target.Variable w) = nat_eq w v
is_target v _ = false

abbrev pub in_second : Option Bool → Bool
in_second None = false
in_second (Some b) = b

abbrev pub assigns_step : ℕ → Statement-F Bool → Bool
assigns_step v (s.Assign w a) = nat_eq w v
assigns_step v (s.Access a) = is_target v a.target
assigns_step v (s.Marked mark body) = body
assigns_step v (s.Opened body) = body
assigns_step v (s.Block items) = list_any (λ b. b) items
assigns_step v (s.If test first second) = first || in_second second
assigns_step v (s.Loop start test update body) = list_any (λ b. b) start || (list_any (λ b. b) update || body)
assigns_step v _ = false

-- whether a statement assigns or declares a variable, also within
abbrev pub assigns : ℕ → Statement → Bool
assigns v = fold-Statement Bool (assigns_step v)

abbrev pub changes_key : Option Choice → Statement → Bool
changes_key (Some (choice.Variable v)) st = assigns v st
changes_key _ st = false

-- ---- units

abbrev pub site_if : Bool → Site → Option Site
site_if true a = Some a
site_if false a = None

-- whether these accesses are to one part that one key chooses, which the statement doesn't change
abbrev pub is_one : Statement → Site → List Site → Bool
is_one st first all = list_all (same_site first) all && not (changes_key first.choice st)

abbrev pub one_of : Statement → List Site → Option Site
one_of st [] = None
one_of st (first ∷ others) = site_if (is_one st first (first ∷ others)) first

-- the same by what is known of the accesses
abbrev pub part_of : Statement → Reached → Option Site
part_of st (One a) = site_if (not (changes_key a.choice st)) a
part_of st _ = None

-- the site of a statement that is a unit: of a simple one with an access to one part, whatever its key; of a compound one
-- whose accesses are all to one part
abbrev pub unit_in : Statement → Statement-F Statement → Option Site
unit_in st (s.Access a) = Some (site_of a)
unit_in st (s.Gather g) = None
unit_in st _ = one_of st (sites_in st)

abbrev pub unit_of : Statement → Option Site
unit_of st = unit_in st (out-Statement st)

abbrev pub has_access : Statement → Bool
has_access st = list_any (λ site. true) (sites_in st)

-- ---- the key of a mark

abbrev pub first_argument : List Expression → Option Expression
first_argument args = slice_get args 0

-- A block on an instance has no key.
abbrev pub key_by : Choice → List Expression → Option Expression
key_by choice.Instance args = None
key_by how args = first_argument args

abbrev pub first_of : {A : Type 0} → Option A → Option A → Option A
first_of (Some a) b = Some a
first_of None b = b

abbrev pub first_in : {A : Type 0} → List (Option A) → Option A
first_in [] = None
first_in (a ∷ more) = first_of a (first_in more)

abbrev pub key_in_second : Option (Option Expression) → Option Expression
key_in_second None = None
key_in_second (Some key) = key

abbrev pub key_step : Statement-F (Option Expression) → Option Expression
key_step (s.Access a) = key_by a.choice a.args
key_step (s.Marked mark body) = body
key_step (s.Opened body) = body
key_step (s.Block items) = first_in items
key_step (s.If test first second) = first_of first (key_in_second second)
key_step (s.Loop start test update body) = first_of (first_in start) (first_of (first_in update) body)
key_step _ = None

-- the key of the first access in text order
abbrev pub key_of : Statement → Option Expression
key_of = fold-Statement (Option Expression) key_step

-- A compound key is evaluated at the mark alone.
abbrev pub carried_args : List Expression → List Expression
carried_args [] = []
carried_args (key ∷ args) = x.CarriedKey ∷ args

abbrev pub carrying_access : Access → Choice → Access
carrying_access a choice.Compound = record a { args = carried_args a.args }
carrying_access a how = a

abbrev pub carrying_in : Statement → Statement-F Statement → Statement
carrying_in st (s.Access a) = statement.Access (carrying_access a a.choice)
carrying_in st _ = st

abbrev pub marked : Site → Statement → Statement
marked site st = statement.Marked (record { field = site.field; key = key_of st }) (carrying_in st (out-Statement st))

-- ---- marks

abbrev pub is_current : Option Site → Site → Bool
is_current None site = false
is_current (Some a) b = same_site a b

-- The current site ends where its key is assigned or declared.
abbrev pub kept : Statement → Option Site → Option Site
kept st None = None
kept st (Some site) = if changes_key site.choice st then None else Some site

-- a unit, which begins a block where its site isn't the current one
abbrev pub unit_placed : Option Site → Site → Statement → Placed
unit_placed current site st = record { statement = if is_current current site then st else marked site st; site = kept st (Some site) }

-- an opened statement, behind which there is no current site
abbrev pub opened : Statement → Placed
opened st = record { statement = st; site = None }

abbrev pub without : Option Site → Statement → Placed
without current st = record { statement = st; site = kept st current }

-- A statement beside itself with the marks within it, as it stands where it is opened. One with a mark inside says so.
pub record Marking : Type 0 where
  pub whole : Statement
  pub opened : Statement

abbrev pub placed_as : Option Site → Option Site → Bool → Marking → Placed
placed_as current (Some site) accesses m = unit_placed current site m.whole
placed_as current None true m = opened m.opened
placed_as current None false m = without current m.whole

abbrev pub placed : Option Site → Marking → Placed
placed current m = placed_as current (unit_of m.whole) (has_access m.whole) m

abbrev pub list_placed : Option Site → List Marking → List Statement
list_placed current [] = []
list_placed current (m ∷ more) = (placed current m).statement ∷ list_placed (placed current m).site more

-- Where a body isn't a block it counts as a list of one statement.
abbrev pub branch_in : Statement-F Statement → Marking → Statement
branch_in (s.Block items) m = if has_access m.whole then m.opened else m.whole
branch_in layer m = (placed None m).statement

abbrev pub branch : Marking → Statement
branch m = branch_in (out-Statement m.whole) m

abbrev pub second_branch : Option Marking → Option Statement
second_branch None = None
second_branch (Some m) = Some (branch m)

abbrev pub wholes : Statement-F Marking → Statement
wholes layer = roll-Statement (map-Statement Marking Statement (λ m. m.whole) layer)

abbrev pub whole_list : List Marking → List Statement
whole_list = map (λ m. m.whole)

abbrev pub opened_step : Statement-F Marking → Statement
opened_step (s.Block items) = statement.Opened (statement.Block (list_placed None items))
opened_step (s.If test first second) = statement.Opened (statement.If test (branch first) (second_branch second))
opened_step (s.Loop start test update body) = statement.Opened (statement.Loop (whole_list start) test (whole_list update) (branch body))
opened_step layer = wholes layer

abbrev pub marking_step : Statement-F Marking → Marking
marking_step layer = record { whole = wholes layer; opened = opened_step layer }

abbrev pub marking_of : Statement → Marking
marking_of = fold-Statement Marking marking_step

-- the list of a body's statements with its marks
abbrev pub with_marks : List Statement → List Statement
with_marks all = list_placed None (map marking_of all)
