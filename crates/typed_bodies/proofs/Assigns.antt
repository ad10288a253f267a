-- What the statements that wholes are made into assign, and what they read for it.
use Rattle.std.proofs.Common.{◌≡◌, ℕ, false, List, [], ◌∷◌, ◌++◌, Some, sym, ap, ◌∙◌}
use Rattle.java_tree.specs.declared.types.ExprType.{ExprType}
use Rattle.access_blocks.specs.declared.body.Access.{Access}
use Rattle.access_blocks.specs.declared.body.Expression.{Expression}
use Rattle.access_blocks.specs.declared.body.Gather.{Gather}
use Rattle.access_blocks.specs.declared.body.Statement.{Statement, roll-Statement}
use Rattle.access_blocks.specs.declared.body.Statement.TheOpen.{Statement-F}
use Rattle.access_blocks.specs.declared.body.Statement.TheOpen as s
use Rattle.access_blocks.specs.declared.body.Statement.TheVariants as statement
use Rattle.access_blocks.specs.declared.body.Statement.TheFolds.{fold-roll-Statement, map-Statement}
use Rattle.access_blocks.specs.declared.body.Target.{Target}
use Rattle.access_blocks.specs.declared.body.Target.TheVariants as target
use Rattle.access_blocks.specs.declared.resolved.Invoked.{Invoked}
use Rattle.access_blocks.specs.declared.resolved.Invoked.TheVariants as invoked
use Rattle.access_blocks.specs.Resolving.{converted_to}
use Rattle.access_blocks.specs.ResolvingStatements.{given_to, put}
use Rattle.body_code.specs.Early.{Assigned, assigned_in, assigned_step, to_target}
use Rattle.body_code.specs.Typing.{Needs, needs, needs_of_all}
use Rattle.typed_bodies.specs.Reading.{Place}
use Rattle.typed_bodies.proofs.Needing.{needs_converted}

-- the variables that a call or a value reads
abbrev pub reads_in : Invoked → List ℕ
reads_in (invoked.Value a) = (needs a).variables
reads_in (invoked.Sets v at a) = v ∷ ((needs at).variables ++ (needs a).variables)
reads_in (invoked.Accesses a) = (needs_of_all a.args).variables

at_layer : (layer : Statement-F Statement) {made : Statement} → roll-Statement layer ≡ made → assigned_in made ≡ assigned_step (map-Statement Statement (List Assigned) assigned_in layer)
at_layer layer rolled = ap assigned_in (sym rolled) ∙ fold-roll-Statement (List Assigned) assigned_step layer

pub assign_assigns : (v : ℕ) (a : Expression) → assigned_in (statement.Assign v a) ≡ record { variable = v; reads = (needs a).variables } ∷ []
assign_assigns v a = at_layer (s.Assign v a) (statement.rolls-Assign v a)

pub value_assigns : (p : Place) (to : Target) (wanted from : ExprType) (a : Expression) → assigned_in (put to (converted_to wanted from a)) ≡ to_target to (needs a).variables
value_assigns p target.Dropped wanted from a = at_layer (s.Evaluate (converted_to wanted from a)) (statement.rolls-Evaluate (converted_to wanted from a))
value_assigns p (target.Variable v) wanted from a =
    at_layer (s.Assign v (converted_to wanted from a)) (statement.rolls-Assign v (converted_to wanted from a))
    ∙ ap (λ (n : Needs). record { variable = v; reads = n.variables } ∷ []) (needs_converted p wanted from a)
value_assigns p target.Returned wanted from a = at_layer (s.Return (Some (converted_to wanted from a))) (statement.rolls-Return (Some (converted_to wanted from a)))

pub access_assigns : (a : Access) → assigned_in (statement.Access a) ≡ to_target a.target (needs_of_all a.args).variables
access_assigns a = at_layer (s.Access a) (statement.rolls-Access a)

pub gather_assigns : (g : Gather) → assigned_in (statement.Gather g) ≡ []
gather_assigns g = at_layer (s.Gather g) (statement.rolls-Gather g)

set_assigns : (v : ℕ) (at a : Expression) → assigned_in (statement.SetElement v at a) ≡ []
set_assigns v at a = at_layer (s.SetElement v at a) (statement.rolls-SetElement v at a)

-- a write of an element goes nowhere
abbrev pub IsDropped : Invoked → Target → Type 0
IsDropped (invoked.Sets v at a) to = to ≡ target.Dropped
IsDropped _ to = Unit {0}

pub call_assigns : (p : Place) (to : Target) (wanted from : ExprType) (i : Invoked) → IsDropped i to → assigned_in (given_to false to wanted from i) ≡ to_target to (reads_in i)
call_assigns p to wanted from (invoked.Value a) dropped = value_assigns p to wanted from a
call_assigns p to wanted from (invoked.Sets v at a) dropped = set_assigns v at a ∙ ap (λ (t : Target). to_target t (reads_in (invoked.Sets v at a))) (sym dropped)
call_assigns p to wanted from (invoked.Accesses a) dropped = access_assigns (record a { target = to })
