use Rattle.std.proofs.Common.{◌≡◌, take, fold}
use Rattle.java_types.specs.Statements as spec
use Rattle.java_types.proofs.statements.+statements.Given as goal

abbrev pub invariant-block-loop-i : goal.invariant-block-loop-i
invariant-block-loop-i l = l.walk ≡ fold (λ w i. spec.item_walk l.env i l.around w) l.initial.walk (take l.i-index l.items)
