use Rattle.std.proofs.Common.{arith, ap, refl, ◌≡◌, ◌∙◌, List, [], Some, None, sym}
use Rattle.std.proofs.lemmas.Grind.{common_steps}
use Rattle.sdg_base.specs.declared.val.Val.{Val}
use Rattle.sdg_base.specs.declared.val.Exn.TheVariants as exn
use Rattle.sdg_base.specs.declared.val.Outcome.TheVariants as outcome
use Rattle.flat_code.specs.Machine as machine
use Rattle.task_code.specs.Indices.{with_element}
use Rattle.task_code.specs.Seen.{setting_of, frame_of, seen}
use Rattle.task_code.proofs.Unset.{is_variable, not_set, stays}
use Rattle.task_code.proofs.engine.Engine.vector_set.Goals as goal

pub returns : goal.returns
returns c =
    let f = frame_of c.args.frame.now in
    let within = is_variable (setting_of c.args.self.now) c.args.variable f c.pop-element.result c.pop-index.result c.pop-element.new.self c.pop-index.new.self c.pop-element.ensures c.pop-index.ensures c.requires in
    let outside : with_element c.index_mut.result.now c.pop-index.result c.pop-element.result ≡ None = grind (arith, common_steps, c.set_element.ensures.set, c.if-set_element.false) in
    let e = not_set (setting_of c.args.self.now) c.args.variable f c.pop-element.result c.pop-index.result c.index_mut.result.now c.pop-element.new.self c.pop-index.new.self
    c.pop-element.ensures c.pop-index.ensures within c.index_mut.ensures.value outside c.requires in
    let same = stays f.variables c.args.variable c.index_mut.result.now c.set_element.new.vector within c.index_mut.ensures.value (c.set_element.ensures.unset c.if-set_element.false) in
    ap seen e
    ∙ ap (λ (vs : List Val). Some (machine.Ends (machine.Stopped (outcome.Throws exn.Index)) (record { at = 0; stack = []; variables = vs; turns = f.turns }))) (sym same)
    ∙ rw c.throws.ensures refl
