-- The statements of an accepted class are typed before marks stand in them.
use Rattle.std.specs.Prelude.{◌≡◌, List, map}
use Rattle.java_tree.specs.declared.tree.BlockItem.{BlockItem}
use Rattle.java_types.specs.declared.statements.Around.{Around}
use Rattle.java_types.specs.declared.walk.Walk.{Walk}
use Rattle.java_types.specs.Statements as types
use Rattle.annotations.specs.declared.walk.Walk.{Walk as MarkingWalk}
use Rattle.annotations.specs.Statements as marking
use Rattle.access_blocks.specs.Resolving.{wanted_by}
use Rattle.access_blocks.specs.ResolvingStatements.{item_of, list_of}
use Rattle.typed_statements.specs.Points.{Setting, IsSoundSomewhere}
use Rattle.typed_statements.specs.Checks.{AllTyped}
use Rattle.typed_statements.specs.Goes.{Goes}

-- In a method with this result the statements of a body go: what is read of them is typed.
abbrev pub StatementsGo : Type 0
StatementsGo =
    (k : Setting) → IsSoundSomewhere k → (items : List BlockItem) (a : Around) (w : Walk) (u : MarkingWalk) → a.result ≡ wanted_by k.around.result
    → Goes k w (types.in_block k.env (map (types.item_walk k.env) items) a w) u (marking.in_block k.marks (map (marking.item_walk k.marks) items) u)
    (list_of (map (item_of k.scope (wanted_by k.around.result)) items)) (AllTyped k a)
