use Rattle.std.proofs.Common.{◌≡◌, List, ◌∷◌, Bor, drop, sym, ap, ◌∙◌, arith}
use Rattle.access_blocks.specs.declared.body.Body.{Body}
use Rattle.std.proofs.lemmas.Grind.{common_steps}
use Rattle.access_blocks.specs.Programs.{methods_in}
use Rattle.body_code.specs.ClassCode.{graph_methods}
use Rattle.task_lower.proofs.Paired.{no_methods, no_bodies}
use Rattle.task_lower.proofs.Numbered.{with_method, first_body}
use Rattle.task_lower.proofs.classes.graph_methods.Goals as goal
use Rattle.task_lower.proofs.classes.graph_methods.Goals.{in-Method+in-len1-up+in_ok-task, in_default}

pub returns-in_default-rest : goal.returns-in_default-rest
returns-in_default-rest c =
    let ms = methods_in (drop c.loop-member.member-index c.args.members.now) in
    let rest = graph_methods c.args.fields.now c.args.callees.now ms c.loop-member.rest.now c.loop-member.task in
    sym (no_methods c.loop-member.all rest (no_bodies c.args.fields.now c.args.callees.now ms c.loop-member.rest.now c.loop-member.task c.in_default-rest.len_below)) ∙ c.loop-member.invariant

pub loop-member-preserved : goal.loop-member-preserved
loop-member-preserved c =
    elim c.match-member.branch [
      | in-Method+in-len1-up+in_ok-task w ↦
          let rest = c.loop-member.rest.now in
          let b = w.body-item.result in
          let is_rest : rest ≡ b ∷ c.match-member.rest.now =
          first_body rest b (omega arith) w.body-item.is ∙ ap (λ (bs : List Body). b ∷ bs) (sym (ap (λ (r : Bor (List Body)). r.now) w.rest-is)) in
          with_method c.args.fields.now c.args.callees.now c.args.members.now c.loop-member.member-index c.member-item.result w.in-Method.method c.loop-member.all c.match-member.all
          rest c.match-member.rest.now b c.loop-member.task c.match-member.task (graph_methods c.args.fields.now c.args.callees.now (methods_in c.args.members.now) c.args.bodies.now 0)
          (omega arith) c.member-item.is w.in-Method.is is_rest c.loop-member.invariant (w.all-is ∙ w.in_ok-task.ensures.method) (w.task-is ∙ w.in_ok-task.ensures.task)
      | in_default w ↦ grind (arith, common_steps)
    ]
