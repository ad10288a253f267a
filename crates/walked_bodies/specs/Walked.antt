-- The statements of the bodies of a class that breaks no rule are typed before marks stand in them.
use Rattle.std.specs.Prelude.{◌≡◌, ℕ, Some, None, slice_get}
use Rattle.java_tree.specs.declared.tree.Class.{Class}
use Rattle.java_tree.specs.declared.tree.Method.{Method}
use Rattle.access_blocks.specs.Cursors.{Cursor}
use Rattle.access_blocks.specs.Programs.{methods_in, scope_of}
use Rattle.body_code.specs.Checking.{Standing, at_start}
use Rattle.marked_bodies.specs.Unmarked.{unmarked_list}
use Rattle.typed_bodies.specs.Bodies.{BreaksNoRule, bare_of}
use Rattle.walked_bodies.specs.Begun.{IsMet, before, setting}

-- Its statements are typed, from its start on.
pub record IsWalked (class : Class) (m : Method) (c : Cursor) : Type 0 where
  pub met : IsMet class m c
  pub after : Standing
  pub walked : unmarked_list (setting class m c).around (bare_of (scope_of class) m c).statements None (at_start (bare_of (scope_of class) m c)) ≡ Some after

abbrev pub BodiesAreWalked : Type 0
BodiesAreWalked = (class : Class) → BreaksNoRule class → (n : ℕ) (m : Method) → slice_get (methods_in class.members) n ≡ Some m → IsWalked class m (before class n)
