-- A body whose end is reached has no result.
use Rattle.std.specs.Prelude.{◌≡◌, ℕ, true, slice_get, Some}
use Rattle.java_tree.specs.declared.tree.Class.{Class}
use Rattle.java_tree.specs.declared.tree.Method.{Method}
use Rattle.sdg_base.specs.declared.value_type.ValueType.TheVariants as type
use Rattle.access_blocks.specs.Programs.{methods_in, scope_of}
use Rattle.body_code.specs.ClassCode.{result_type}
use Rattle.body_code.specs.Completing.{body_completes}
use Rattle.accepted_classes.specs.Classes.{IsSpelled}
use Rattle.typed_bodies.specs.Bodies.{BreaksNoRule, bare_of}
use Rattle.walked_bodies.specs.Begun.{IsMet, before}

-- Where each token has a place, a finding can name it.
abbrev pub BodiesComplete : Type 0
BodiesComplete =
    (class : Class) → IsSpelled class → BreaksNoRule class → (n : ℕ) (m : Method) → slice_get (methods_in class.members) n ≡ Some m → IsMet class m (before class n)
    → body_completes (bare_of (scope_of class) m (before class n)).statements ≡ true → result_type m.result ≡ type.Void
