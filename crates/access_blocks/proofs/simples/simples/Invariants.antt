use Rattle.std.proofs.Common.{◌≡◌, take, fold, []}
use Rattle.access_blocks.specs.Cursors.{read}
use Rattle.access_blocks.specs.ResolvingStatements as spec
use Rattle.access_blocks.proofs.simples.simples.Given as goal

abbrev pub invariant-loop-s : goal.invariant-loop-s
invariant-loop-s l =
    let a = fold (λ a s. spec.listed a (spec.simple_of l.scope s)) (read [] l.initial.cursor) (take l.s-index l.all) in
    (l.made ≡ a.it) × (l.cursor ≡ a.cursor)
