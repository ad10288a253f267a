-- A declaration of a local goes, with a value or without.
use Rattle.std.proofs.Common.{length, Option, Some, None}
use Rattle.java_tree.specs.declared.tree.Local.{Local}
use Rattle.java_tree.specs.declared.tree.Value.{Value}
use Rattle.java_types.specs.declared.statements.Around.{Around}
use Rattle.java_types.specs.declared.walk.Walk.{Walk}
use Rattle.java_types.specs.Simples as types
use Rattle.java_types.specs.Walks.{past_if}
use Rattle.annotations.specs.declared.walk.Walk.{Walk as MarkingWalk}
use Rattle.annotations.specs.Simples as marking
use Rattle.annotations.specs.Walks.{unmerged}
use Rattle.access_blocks.specs.ResolvingStatements as resolving
use Rattle.typed_bodies.specs.Laws.{ExpressionsAreTyped}
use Rattle.typed_bodies.specs.PartLaws.{PartsAreTyped}
use Rattle.typed_bodies.specs.StayLaws.{PartsStay}
use Rattle.typed_bodies.specs.WholeLaws.{WholesAreTyped}
use Rattle.typed_statements.specs.Points.{Setting, IsSoundSomewhere}
use Rattle.typed_statements.specs.Checks.{Typed}
use Rattle.typed_statements.specs.Goes.{Goes}
use Rattle.typed_statements.proofs.Declaring.{named_walk}
use Rattle.typed_statements.proofs.GivenLocals.{given_goes}
use Rattle.typed_statements.proofs.LocalsBehind.{marked_name, cursor_named}
use Rattle.typed_statements.proofs.StartedLocals.{started_goes}

module _ (expressions : ExpressionsAreTyped) (wholes : WholesAreTyped) (parts : PartsAreTyped) (stay : PartsStay) (k : Setting) (there : IsSoundSomewhere k) (l : Local) (a : Around) (w : Walk) (u : MarkingWalk) where
  value_goes : (o : Option Value)
      → Goes k w (types.initialised k.env (types.typed_name k.env w.at l.type_name (past_if k.env l.is_partial 2 w)).found o (named_walk k.env l w)) u
      (marking.awaiting l.is_partial (length u.locals) u.at (unmerged (marking.initialised k.marks l.is_partial u.at o (marked_name k l u))))
      (λ c. resolving.initialised k.scope (length c.variables) (resolving.declared_type l.type_name) o (cursor_named l c)) (Typed k a)
  value_goes None = started_goes parts k l a w u
  value_goes (Some v) = given_goes expressions wholes stay k there l v a w u

  pub local_goes : Goes k w (types.local k.env l w) u (marking.local k.marks l u) (resolving.local k.scope l) (Typed k a)
  unfolding types.local marking.local
  local_goes = value_goes l.value
