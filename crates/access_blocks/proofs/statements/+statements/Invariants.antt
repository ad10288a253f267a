use Rattle.std.proofs.Common.{◌≡◌, take, fold, []}
use Rattle.access_blocks.specs.Cursors.{read}
use Rattle.access_blocks.specs.ResolvingStatements as spec
use Rattle.access_blocks.proofs.statements.+statements.Given as goal

abbrev pub invariant-block-loop-i : goal.invariant-block-loop-i
invariant-block-loop-i l =
    let a = fold (λ a i. spec.listed a (spec.item_of l.scope l.wanted i)) (read [] l.initial.cursor) (take l.i-index l.items) in
    (l.made ≡ a.it) × (l.cursor ≡ a.cursor)
