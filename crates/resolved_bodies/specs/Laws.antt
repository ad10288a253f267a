-- What holds of the statements that a method is resolved to.
use Rattle.std.specs.Prelude.{◌≡◌, true, [], map}
use Rattle.java_tree.specs.declared.tree.Method.{Method}
use Rattle.annotations.specs.declared.walk.Env.{Env}
use Rattle.annotations.specs.declared.walk.Walk.{Walk}
use Rattle.annotations.specs.Members.{method_walk}
use Rattle.access_blocks.specs.declared.scope.Scope.{Scope}
use Rattle.access_blocks.specs.Cursors.{Cursor}
use Rattle.marked_bodies.specs.Unmarked.{headed_in, one_by_one}
use Rattle.typed_bodies.specs.Bodies.{statements_of}
use Rattle.resolved_bodies.specs.Together.{AreTogether}

-- No access stands in the header of a loop. The walk over the method found nothing before it, and both stand before the same names
-- behind it.
pub record KeepsHeaders (env : Env) (scope : Scope) (m : Method) (w : Walk) (c : Cursor) : Type 0 where
  pub headers : (one_by_one (map headed_in (statements_of scope m c).it)).is_right ≡ true
  pub before : w.findings ≡ []
  pub behind : AreTogether env (method_walk env m w) (statements_of scope m c).cursor

-- Where the rules on annotations find nothing in a method, and its names are read from where the walk of the rules stands.
abbrev pub HeadersAreKept : Type 0
HeadersAreKept = (env : Env) (scope : Scope) (m : Method) (w : Walk) (c : Cursor) → AreTogether env w c → (method_walk env m w).findings ≡ []
    → KeepsHeaders env scope m w c
