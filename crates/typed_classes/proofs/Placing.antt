-- In the bodies of a class that breaks no rule blocks are marked only where steps come to.
use Rattle.std.proofs.Common.{◌≡◌, true, sym, subst, ◌∙◌}
use Rattle.access_blocks.specs.declared.body.Body.{Body}
use Rattle.access_blocks.specs.Programs.{scope_of}
use Rattle.body_code.specs.Checking.{surroundings, at_start}
use Rattle.body_code.specs.ClassCode.{callees_of}
use Rattle.code_meaning.specs.Placed.{are_placed, MarkedArePlaced}
use Rattle.typed_bodies.specs.Bodies.{resolved_of, bare_of}
use Rattle.typed_classes.specs.Laws.{BodiesAreTyped, AcceptedEntriesArePlaced}
use Rattle.typed_classes.proofs.Unmarking.{typed_unmarked}
use Rattle.walked_bodies.proofs.Words.{the_same}

pub entries_placed : MarkedArePlaced → BodiesAreTyped → AcceptedEntriesArePlaced
entries_placed placed bodies class spelled keeps n m b e =
    let t = bodies class spelled keeps n m e.is_method in
    let bare = bare_of (scope_of class) m t.before in
    let around = surroundings (resolved_of class).fields (callees_of class (resolved_of class)) m bare in
    subst (λ (x : Body). are_placed x.statements ≡ true) (the_same (sym t.is ∙ e.is_body))
    (placed bare.statements (typed_unmarked around bare.statements (at_start bare) t.bare.statements))
