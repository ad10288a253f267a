use Rattle.std.proofs.Common.{refl}
use Rattle.std.proofs.lemmas.Result.{IfOk-weaker}
use Rattle.sdg_top.proofs.Judgements.{tree_judged, only_tree, no_tree}
use Rattle.sdg_top.proofs.accept.judge_tokens.Goals as goal

pub returns-in-Ok : goal.returns-in-Ok
returns-in-Ok c =
    let found = c.in-Ok.ensures.found in
    IfOk-weaker c.judge_tree.result _ _ (λ j h.
    tree_judged c.args.tokens.now.list c.in-Ok.tree j
    (record { are_tokens = found.0; placed = found.1; levels = found.2 })
    (λ other has. only_tree c.in-Ok.tree other (c.in-Ok.ensures.only other has.are_tokens has.placed has.levels))
    h) c.judge_tree.ensures

pub returns-in-Err-NoClass : goal.returns-in-Err-NoClass
returns-in-Err-NoClass c =
    (refl, λ class has. no_tree c.in-Err-NoClass.field-0 c.in-Err-NoClass.field-0-0 class c.in-Err-NoClass.field-0-is (c.in-Err-NoClass.ensures.only class has.are_tokens has.placed has.levels))
