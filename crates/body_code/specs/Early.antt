-- The locals that are read before the place where their text first assigns them: an initialiser may read its own local where
-- a constant lets no evaluation come, as in `boolean x = false && x` (JLS 16). They are set before the body.
use Rattle.std.specs.Prelude.{ℕ, Bool, nat_eq, if◌then◌else◌, List, [], ◌∷◌, ◌++◌, map, Option, Some, None}
use Rattle.std.specs.List.{list_any, flat_map, range_with_len}
use Rattle.access_blocks.specs.declared.body.Body.{Body}
use Rattle.access_blocks.specs.declared.body.Expression.{Expression}
use Rattle.access_blocks.specs.declared.body.Statement.{Statement}
use Rattle.access_blocks.specs.declared.body.Statement.TheOpen.{Statement-F}
use Rattle.access_blocks.specs.declared.body.Statement.TheOpen as s
use Rattle.access_blocks.specs.declared.body.Statement.TheFolds.{fold-Statement}
use Rattle.access_blocks.specs.declared.body.Target.{Target}
use Rattle.access_blocks.specs.declared.body.Target.TheVariants as target
use Rattle.body_code.specs.Typing.{needs, needs_of_all}

-- a variable that is assigned, and the variables that are read for its value
pub record Assigned : Type 0 where
  pub variable : ℕ
  pub reads : List ℕ

abbrev pub to_target : Target → List ℕ → List Assigned
to_target (target.Variable v) reads = record { variable = v; reads = reads } ∷ []
to_target _ reads = []

abbrev pub with_reads : List ℕ → Assigned → Assigned
with_reads more a = record { variable = a.variable; reads = more ++ a.reads }

-- the key of a block is read before the block
abbrev pub key_reads : Option Expression → List ℕ
key_reads None = []
key_reads (Some key) = (needs key).variables

abbrev pub of_second : Option (List Assigned) → List Assigned
of_second None = []
of_second (Some all) = all

abbrev pub all_of : List (List Assigned) → List Assigned
all_of = flat_map (λ all. all)

-- in text order
abbrev pub assigned_step : Statement-F (List Assigned) → List Assigned
assigned_step (s.Assign v x) = record { variable = v; reads = (needs x).variables } ∷ []
assigned_step (s.Access a) = to_target a.target (needs_of_all a.args).variables
assigned_step (s.Marked mark body) = map (with_reads (key_reads mark.key)) body
assigned_step (s.Opened body) = body
assigned_step (s.Block items) = all_of items
assigned_step (s.If test first second) = first ++ of_second second
assigned_step (s.Loop start test update body) = all_of start ++ (all_of update ++ body)
assigned_step _ = []

abbrev pub assigned_in : Statement → List Assigned
assigned_in = fold-Statement (List Assigned) assigned_step

abbrev pub is_in : ℕ → List ℕ → Bool
is_in v vs = list_any (nat_eq v) vs

abbrev pub if_early : Assigned → List ℕ → List ℕ
if_early a others = if is_in a.variable a.reads then a.variable ∷ others else others

-- where some variables are assigned already
abbrev pub early_after : List ℕ → List Assigned → List ℕ
early_after seen [] = []
early_after seen (a ∷ others) = if is_in a.variable seen then early_after seen others else if_early a (early_after (a.variable ∷ seen) others)

-- Parameters are assigned from the start.
abbrev pub early : Body → List ℕ
early b = early_after (range_with_len 0 b.arity) (all_of (map assigned_in b.statements))
