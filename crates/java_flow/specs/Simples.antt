-- Declarations of locals and simple statements: what they read, and what they assign (JLS 16.1.7 to 16.1.9, 16.2.4).
use Rattle.std.specs.Prelude.{ℕ, false, List, [], ◌∷◌, Option, Some, None}
use Rattle.java_tree.specs.declared.tree.AssignOp.{AssignOp}
use Rattle.java_tree.specs.declared.tree.AssignOp.TheVariants as assign
use Rattle.java_tree.specs.declared.tree.Value.{Value}
use Rattle.java_tree.specs.declared.tree.Local.{Local}
use Rattle.java_tree.specs.declared.tree.Simple.{Simple}
use Rattle.java_tree.specs.declared.tree.Simple.TheVariants as simple
use Rattle.java_flow.specs.Assigned.{also, except}
use Rattle.java_flow.specs.Points.{Point, behind, behind_if, reading, with_assigned}
use Rattle.java_flow.specs.Expressions.{value_walk, call_walk, opening}

-- A value is evaluated where not every variable is assigned.
abbrev pub value_here : Value → Point → Point
value_here v p = value_walk v false p

abbrev pub initialised : List ℕ → Option Value → Point → Point
initialised name None p = p
initialised name (Some v) p = with_assigned (also name) (value_here v (behind 1 p))

-- Its scope begins with its own initialiser (JLS 6.3).
abbrev pub local_walk : Local → Point → Point
local_walk l p = initialised l.name l.value (with_assigned (except l.name) (behind 2 (behind_if l.is_partial 2 p)))

-- Every assignment but a plain one reads its target.
abbrev pub target : AssignOp → List ℕ → Point → Point
target assign.Assign name p = p
target _ name p = reading false name p

-- a step up or down, at its name
abbrev pub step_here : List ℕ → Point → Point
step_here name p = with_assigned (also name) (reading false name p)

abbrev pub simple_walk : Simple → Point → Point
simple_walk (simple.Assign name op v) p = with_assigned (also name) (value_here v (behind 2 (target op name p)))
simple_walk (simple.PostIncrement name) p = behind 2 (step_here name p)
simple_walk (simple.PostDecrement name) p = behind 2 (step_here name p)
simple_walk (simple.PreIncrement name) p = behind 1 (step_here name (behind 1 p))
simple_walk (simple.PreDecrement name) p = behind 1 (step_here name (behind 1 p))
simple_walk (simple.Call is_global call) p = call_walk call false (behind_if is_global 2 p)

-- One token stands before each.
abbrev pub simples_from : List Simple → Point → Point
simples_from [] p = p
simples_from (x ∷ xs) p = simples_from xs (simple_walk x (behind 1 p))

abbrev pub simples_walk : List Simple → Point → Point
simples_walk all p = simples_from all (opening all p)
