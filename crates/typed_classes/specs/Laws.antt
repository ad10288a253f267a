-- A class that breaks no rule is typed; and what its parts hold to.
use Rattle.std.specs.Prelude.{◌≡◌, ℕ, true, map, slice_get, Some}
use Rattle.java_tree.specs.declared.tree.Class.{Class}
use Rattle.java_tree.specs.declared.tree.Method.{Method}
use Rattle.access_blocks.specs.Programs.{methods_in, scope_of}
use Rattle.access_blocks.specs.declared.body.Body.{Body}
use Rattle.body_code.specs.Checking.{IsTyped}
use Rattle.marked_bodies.specs.Unmarked.{headed_in, one_by_one}
use Rattle.accepted_classes.specs.Classes.{IsSpelled}
use Rattle.typed_bodies.specs.Bodies.{BreaksNoRule, HasTypedBare, resolved_of, bare_of}
use Rattle.code_meaning.specs.Entries.{IsEntry}
use Rattle.code_meaning.specs.Placed.{are_placed}
use Rattle.walked_bodies.specs.Begun.{IsMet, before}

-- No access stands in the header of a loop.
abbrev pub HeadersAreBare : Type 0
HeadersAreBare =
    (class : Class) → BreaksNoRule class → (n : ℕ) (m : Method) → slice_get (methods_in class.members) n ≡ Some m → IsMet class m (before class n)
    → (one_by_one (map headed_in (bare_of (scope_of class) m (before class n)).statements)).is_right ≡ true

-- the body of each method before its marks
abbrev pub BodiesAreTyped : Type 0
BodiesAreTyped = (class : Class) → IsSpelled class → BreaksNoRule class → (n : ℕ) (m : Method) → slice_get (methods_in class.members) n ≡ Some m → HasTypedBare class n m

abbrev pub AcceptedClassesAreTyped : Type 0
AcceptedClassesAreTyped = (class : Class) → IsSpelled class → BreaksNoRule class → IsTyped class (resolved_of class)

-- In the body of an entry method blocks are marked only where steps come to.
abbrev pub AcceptedEntriesArePlaced : Type 0
AcceptedEntriesArePlaced = (class : Class) → IsSpelled class → BreaksNoRule class → (n : ℕ) (m : Method) (b : Body) → IsEntry class (resolved_of class) n m b → are_placed b.statements ≡ true
