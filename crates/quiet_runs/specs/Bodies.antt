-- In the bodies of typed classes no access comes before the next mark.
use Rattle.std.specs.Prelude.{◌≡◌, ℕ, true}
use Rattle.java_tree.specs.declared.tree.Class.{Class}
use Rattle.java_tree.specs.declared.tree.Method.{Method}
use Rattle.access_blocks.specs.declared.body.Body.{Body}
use Rattle.access_blocks.specs.declared.body.Program.{Program}
use Rattle.body_code.specs.Checking.{IsTyped}
use Rattle.code_meaning.specs.Entries.{IsEntry}
use Rattle.code_meaning.specs.Placed.{are_placed}
use Rattle.quiet_runs.specs.Quiet.{are_quiet}

-- Where blocks are marked where steps come to.
abbrev pub TypedBodiesAreQuiet : Type 0
TypedBodiesAreQuiet =
    (class : Class) (program : Program) → IsTyped class program → (n : ℕ) (m : Method) (b : Body) → IsEntry class program n m b → are_placed b.statements ≡ true → are_quiet b.statements ≡ true
