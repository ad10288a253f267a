-- Typed classes have verified graphs.
use Rattle.std.specs.Prelude.{ℕ, List}
use Rattle.java_tree.specs.declared.tree.Class.{Class}
use Rattle.flat_code.specs.Verified.{IsVerified}
use Rattle.access_blocks.specs.declared.body.Program.{Program}
use Rattle.body_code.specs.Checking.{IsTyped}
use Rattle.body_code.specs.ClassCode.{code_of_class}
use Rattle.live_vars.specs.Sets.{AreLiveSets}
use Rattle.task_cutter.specs.Tasks.{graph_of}

unfoldable pub TypedClassesAreVerified : Type 0
TypedClassesAreVerified = (class : Class) (program : Program) (live : List (List (List ℕ))) → IsTyped class program → AreLiveSets (code_of_class class program).methods live
    → IsVerified (graph_of (code_of_class class program) live)
