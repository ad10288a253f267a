use Rattle.std.proofs.Common.{◌≡◌, take, fold, []}
use Rattle.access_blocks.specs.Cursors.{read}
use Rattle.access_blocks.specs.Resolving as spec
use Rattle.access_blocks.proofs.expressions.+expressions.Given as goal

abbrev pub invariant-arguments-loop-v : goal.invariant-arguments-loop-v
invariant-arguments-loop-v l =
    let a = fold (λ a v. spec.argued l.params a (spec.value_of l.scope v)) (read [] l.initial.cursor) (take l.v-index l.args) in
    (l.all ≡ a.it) × (l.cursor ≡ a.cursor)
