-- What the code knows of other points, by the numbers of the locals.
use Rattle.std.specs.Prelude.{ℕ, List}
use Rattle.java_flow.specs.Sets.{stands}
use Rattle.java_flow.specs.Statements as known
use Rattle.java_flow.specs.declared.branches.Branch.{Branch}
use Rattle.java_flow.specs.declared.branches.Outside.{Outside}

abbrev pub seen_branch : List (List ℕ) → Branch → known.Branch
seen_branch numbers b = record { is_reachable = b.is_reachable; assigned = stands numbers b.unassigned }

abbrev pub seen_outside : List (List ℕ) → Outside → known.Outside
seen_outside numbers o = record {
  exit = seen_branch numbers o.exit;
  is_left = o.is_left;
  at_breaks = stands numbers o.at_breaks;
  at_continues = stands numbers o.at_continues;
}
