-- What is known at a point of a method's text: whether it can be reached (JLS 14.22), which locals are definitely assigned
-- there (JLS 16), and what was found on the way.
use Rattle.std.specs.Prelude.{ℕ, Bool, false, ◌||◌, if◌then◌else◌, List, [], ◌∷◌, ◌++◌, drop}
use Rattle.java_tree.specs.declared.token.Place.{Place}
use Rattle.java_flow.specs.declared.finding.Finding.{Finding}
use Rattle.java_flow.specs.declared.finding.Rule.{Rule}
use Rattle.java_flow.specs.declared.finding.Rule.TheVariants as rule
use Rattle.java_flow.specs.Assigned.{Assigned, all_assigned}
use Rattle.java_flow.specs.Sets.{stands}
use Rattle.java_flow.specs.declared.walk.Walk.{Walk}

pub record Point : Type 0 where
  -- where the tokens from here on stand
  pub places : List Place
  pub is_reachable : Bool
  pub assigned : Assigned
  -- whether a reachable `break` has left the innermost loop
  pub is_left : Bool
  -- what is assigned before each `break` that has left it, and before each `continue` of it
  pub at_breaks : Assigned
  pub at_continues : Assigned
  pub findings : List Finding

-- what the code has at a point
abbrev pub seen : Walk → Point
seen w = record {
  places = w.places.now;
  is_reachable = w.is_reachable;
  assigned = stands w.numbers.now w.unassigned;
  is_left = w.is_left;
  at_breaks = stands w.numbers.now w.at_breaks;
  at_continues = stands w.numbers.now w.at_continues;
  findings = w.findings;
}

-- ---- what a token does

-- behind so many tokens
abbrev pub behind : ℕ → Point → Point
behind n p = record p { places = drop n p.places }

abbrev pub behind_if : Bool → ℕ → Point → Point
behind_if stands_there n p = if stands_there then behind n p else p

-- a finding at the next token, if there is one
abbrev pub finding : Rule → List Place → List Finding
finding r [] = []
finding r (place ∷ more) = record { rule = r; place = place } ∷ []

abbrev pub found : Rule → Point → Point
found r p = record p { findings = p.findings ++ finding r p.places }

abbrev pub found_unless : Bool → Rule → Point → Point
found_unless is_fine r p = if is_fine then p else found r p

-- A variable is read at the next token, which is its name, where every variable is assigned or not.
abbrev pub reading : Bool → List ℕ → Point → Point
reading is_cut name p = found_unless (is_cut || p.assigned name) rule.Unassigned p

-- A statement begins at the next token.
abbrev pub begun : Point → Point
begun p = found_unless p.is_reachable rule.Unreachable p

-- what is assigned from here on
abbrev pub with_assigned : (Assigned → Assigned) → Point → Point
with_assigned change p = record p { assigned = change p.assigned }

-- what stands here doesn't complete normally
abbrev pub stopped : Point → Point
stopped p = record p { is_reachable = false; assigned = all_assigned }
