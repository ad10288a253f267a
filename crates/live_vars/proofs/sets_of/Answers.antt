use Rattle.std.proofs.Common.{◌≡◌, ◌++◌, ◌∷◌, [], ◌+◌, take, ℕ, List, sym, subst, ap, ◌∙◌, arith}
use Rattle.std.proofs.lemmas.Grind.{take_at_read}
use Rattle.flat_code.specs.declared.graph.GraphMethod.{GraphMethod}
use Rattle.flat_code.specs.declared.graph.Instr.{Instr}
use Rattle.live_vars.specs.Sets.{AreLiveSets, HasSets}
use Rattle.live_vars.proofs.Methods.{more_sets}
use Rattle.live_vars.proofs.sets_of.Goals as goal

pub loop-method-preserved : goal.loop-method-preserved
loop-method-preserved c =
    let methods = c.args.methods.now in
    let at = c.loop-method.method-index in
    let m = c.method-item.result in
    let of = c.in_ok-method_sets.field-0 in
    let taken : take (at + 1) methods ≡ take at methods ++ m ∷ [] = (take_at_read methods at m (omega arith)).1 ∙ ap (λ x. take at methods ++ x ∷ []) (sym c.method-item.is) in
    let P : List GraphMethod → Type 0 = λ ms. AreLiveSets ms c.push.new.self in
    let Q : List (List (List ℕ)) → Type 0 = λ sets. AreLiveSets (take at methods ++ m ∷ []) sets in
    let R : List Instr → Type 0 = λ code. HasSets code of in
    subst P (sym taken) (subst Q (sym c.in_ok-push.ensures.ok) (more_sets (take at methods) c.loop-method.sets m of c.loop-method.invariant (subst R c.as_slice.ensures c.in_ok-method_sets.ensures)))
