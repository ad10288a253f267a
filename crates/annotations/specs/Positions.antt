-- Where an expression stands, and what may stand there.
use Rattle.std.specs.Prelude.{Bool, true, false, if◌then◌else◌}
use Rattle.java_tree.specs.declared.tree.AssignOp.{AssignOp}
use Rattle.java_tree.specs.declared.tree.AssignOp.TheVariants as assign
use Rattle.annotations.specs.declared.position.Position.{Position}
use Rattle.annotations.specs.declared.position.Position.TheVariants.{Inside, Merged, Whole, Statement, Gathered}

-- an access to state
abbrev pub is_whole : Position → Bool
is_whole Inside = false
is_whole (Merged call merging) = false
is_whole Whole = true
is_whole Statement = true
is_whole Gathered = true

-- one behind `@Global`
abbrev pub is_for_global : Position → Bool
is_for_global Inside = false
is_for_global (Merged call merging) = false
is_for_global Whole = false
is_for_global Statement = true
is_for_global Gathered = true

-- a call that merges
abbrev pub is_for_merge : Position → Bool
is_for_merge Inside = false
is_for_merge (Merged call merging) = false
is_for_merge Whole = true
is_for_merge Statement = false
is_for_merge Gathered = false

-- a `@Partial` local behind `@Global`
abbrev pub merges : Position → Bool
merges Inside = false
merges (Merged call merging) = merging
merges Whole = false
merges Statement = false
merges Gathered = false

-- where the right side of an assignment stands
abbrev pub assigned_by : AssignOp → Position
assigned_by assign.Assign = Whole
assigned_by _ = Inside

-- where an initialiser stands
abbrev pub initialiser_of : Bool → Position
initialiser_of is_partial = if is_partial then Gathered else Whole
