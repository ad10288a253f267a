use Rattle.std.proofs.Common.{◌≡◌, take, fold}
use Rattle.annotations.specs.Statements as spec
use Rattle.annotations.proofs.statements.+statements.Given as goal

abbrev pub invariant-block-loop-i : goal.invariant-block-loop-i
invariant-block-loop-i l = l.walk ≡ fold (λ w i. spec.item_walk l.env i w) l.initial.walk (take l.i-index l.items)
