-- The statements without statements inside, and the conditions, go where declarations of locals do.
use Rattle.java_tree.specs.declared.tree.Local.{Local}
use Rattle.java_types.specs.declared.statements.Around.{Around}
use Rattle.java_types.specs.declared.walk.Walk.{Walk}
use Rattle.java_types.specs.Simples as types_simples
use Rattle.annotations.specs.declared.walk.Walk.{Walk as MarkingWalk}
use Rattle.annotations.specs.Simples as marking_simples
use Rattle.access_blocks.specs.ResolvingStatements.{local}
use Rattle.typed_bodies.specs.Laws.{ExpressionsAreTyped}
use Rattle.typed_bodies.specs.PartLaws.{PartsAreTyped}
use Rattle.typed_bodies.specs.StayLaws.{PartsStay}
use Rattle.typed_bodies.specs.WholeLaws.{WholesAreTyped}
use Rattle.typed_statements.specs.Points.{Setting, IsSoundSomewhere}
use Rattle.typed_statements.specs.Checks.{Typed}
use Rattle.typed_statements.specs.Goes.{Goes}
use Rattle.typed_statements.specs.Leaves.{LeavesGo}
use Rattle.typed_statements.proofs.Returns.{return_goes}
use Rattle.typed_statements.proofs.Simples.{simple_goes}
use Rattle.typed_statements.proofs.Tests.{test_goes}

abbrev pub LocalsGo : Type 0
LocalsGo = (k : Setting) → IsSoundSomewhere k → (l : Local) (a : Around) (w : Walk) (u : MarkingWalk)
    → Goes k w (types_simples.local k.env l w) u (marking_simples.local k.marks l u) (local k.scope l) (Typed k a)

pub leaves_go : ExpressionsAreTyped → WholesAreTyped → PartsAreTyped → PartsStay → LocalsGo → LeavesGo
leaves_go expressions wholes parts stay locals = record {
  locals = locals;
  simples = λ k there s a w u. simple_goes expressions wholes parts stay k there a w u s;
  tests = λ k there test w u. test_goes expressions parts stay k there test w u;
  returns = λ k there v a w u is. return_goes expressions wholes stay k there v a w u is;
}
