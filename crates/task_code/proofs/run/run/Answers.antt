use Rattle.std.proofs.Common.{◌<◌, List, Option, length, refl, sym, ap, subst, ◌∙◌}
use Rattle.std.proofs.lemmas.Option.{slice_get_read, slice_get_past}
use Rattle.sdg_base.specs.declared.val.Val.{Val}
use Rattle.sdg_base.specs.declared.val.Outcome.{Outcome}
use Rattle.sdg_base.specs.declared.val.Outcome.TheVariants as outcome
use Rattle.flat_code.specs.declared.graph.Instr.{Instr}
use Rattle.flat_code.specs.Machine as machine
use Rattle.task_code.specs.declared.step.Move.{Move}
use Rattle.task_code.specs.Seen.{ending_of, frame_of, moves, seen, seen_frame, seen_ran, setting_of}
use Rattle.task_code.proofs.Calling.{none_is_not, some_along}
use Rattle.task_code.proofs.Fuel.{left, goes_on, access_goes_on, ended, access_ended, performs}
use Rattle.task_code.proofs.Partway.{Rests, rests_whole, rests_on, rests_now, rests_accessed, access_left}
use Rattle.task_code.proofs.run.run.Goals as goal

pub loop-frame-init : goal.loop-frame-init
loop-frame-init g c =
    (refl, rests_whole (setting_of c.args.engine.now) c.args.code.now (frame_of c.args.frame.now) (g.A.Access.held c.args.state.now))

pub step-requires-clause-right : goal.step-requires-clause-right
step-requires-clause-right g c =
    let s = setting_of c.args.engine.now in
    let f = frame_of c.loop-frame.frame in
    let some = some_along _ _ (sym c.loop-frame.invariant.0) c.requires in
    let there = slice_get_read c.args.code.now (length c.args.code.now) c.loop-frame.frame.at c.index-code-frame.result refl c.loop-frame-test.true c.index-code-frame.is in
    some_along _ _ (ap (λ (o : Option Instr). machine.perform s o f) there) (performs (machine.most_steps c.args.code.now c.args.frame.now.turns) s c.args.code.now f (g.A.Access.held c.loop-frame.state) some)

pub returns-in_err-step-clause-left : goal.returns-in_err-step-clause-left
returns-in_err-step-clause-left g c =
    rests_now (setting_of c.args.engine.now) c.args.code.now (frame_of c.args.frame.now) (frame_of c.loop-frame.frame) (g.A.Access.held c.args.state.now) (g.A.Access.held c.loop-frame.state) (g.A.Access.held c.loop-frame.state) c.loop-frame.invariant.1 refl

pub loop-frame-smaller-in-Go : goal.loop-frame-smaller-in-Go
loop-frame-smaller-in-Go g c =
    let s = setting_of c.args.engine.now in
    let f = frame_of c.loop-frame.frame in
    let some = some_along _ _ (sym c.loop-frame.invariant.0) c.requires in
    let there = slice_get_read c.args.code.now (length c.args.code.now) c.loop-frame.frame.at c.index-code-frame.result refl c.loop-frame-test.true c.index-code-frame.is in
    let on = goes_on (machine.most_steps c.args.code.now c.args.frame.now.turns) s c.args.code.now f (frame_of c.step.new.frame) (g.A.Access.held c.loop-frame.state)
    (ap (λ (o : Option Instr). seen (machine.perform s o f)) there ∙ c.in_ok-step.ensures ∙ ap (λ (to : Move). seen (moves to c.step.new.frame)) c.in-Go.is) some in
    on.fewer

pub loop-frame-preserved-in-Go : goal.loop-frame-preserved-in-Go
loop-frame-preserved-in-Go g c =
    let s = setting_of c.args.engine.now in
    let f = frame_of c.loop-frame.frame in
    let some = some_along _ _ (sym c.loop-frame.invariant.0) c.requires in
    let there = slice_get_read c.args.code.now (length c.args.code.now) c.loop-frame.frame.at c.index-code-frame.result refl c.loop-frame-test.true c.index-code-frame.is in
    let on = goes_on (machine.most_steps c.args.code.now c.args.frame.now.turns) s c.args.code.now f (frame_of c.step.new.frame) (g.A.Access.held c.loop-frame.state)
    (ap (λ (o : Option Instr). seen (machine.perform s o f)) there ∙ c.in_ok-step.ensures ∙ ap (λ (to : Move). seen (moves to c.step.new.frame)) c.in-Go.is) some in (
      on.same ∙ c.loop-frame.invariant.0,
      rests_on s c.args.code.now (frame_of c.args.frame.now) f (frame_of c.step.new.frame) (g.A.Access.held c.args.state.now) (g.A.Access.held c.loop-frame.state) (ap (λ (o : Option Instr). seen (machine.perform s o f)) there ∙ c.in_ok-step.ensures ∙ ap (λ (to : Move). seen (moves to c.step.new.frame)) c.in-Go.is) c.loop-frame.invariant.1,
    )

pub returns-in_err-value-in-Access-clause-left : goal.returns-in_err-value-in-Access-clause-left
returns-in_err-value-in-Access-clause-left g c =
    rests_now (setting_of c.args.engine.now) c.args.code.now (frame_of c.args.frame.now) (frame_of c.loop-frame.frame) (g.A.Access.held c.args.state.now) (g.A.Access.held c.loop-frame.state) (g.A.Access.held c.call.new.self) c.loop-frame.invariant.1 c.in_err-value-in-Access.ensures.err

pub returns-in_err-push_result-in-Value-clause-left : goal.returns-in_err-push_result-in-Value-clause-left
returns-in_err-push_result-in-Value-clause-left g c =
    let s = setting_of c.args.engine.now in
    let f = frame_of c.loop-frame.frame in
    let there = slice_get_read c.args.code.now (length c.args.code.now) c.loop-frame.frame.at c.index-code-frame.result refl c.loop-frame-test.true c.index-code-frame.is in
    access_left s c.args.code.now (frame_of c.args.frame.now) f (frame_of c.step.new.frame) (g.A.Access.held c.args.state.now) (g.A.Access.held c.loop-frame.state) (g.A.Access.held c.call.new.self) _ _ c.in_ok-value-in-Access.field-0
    (ap (λ (o : Option Instr). seen (machine.perform s o f)) there ∙ c.in_ok-step.ensures ∙ ap (λ (to : Move). seen (moves to c.step.new.frame)) c.in-Access.is)
    c.in_ok-value-in-Access.ensures.ok c.loop-frame.invariant.1

pub returns-in-Throws-clause-ends : goal.returns-in-Throws-clause-ends
returns-in-Throws-clause-ends g c =
    let s = setting_of c.args.engine.now in
    let f = frame_of c.loop-frame.frame in
    let some = some_along _ _ (sym c.loop-frame.invariant.0) c.requires in
    let there = slice_get_read c.args.code.now (length c.args.code.now) c.loop-frame.frame.at c.index-code-frame.result refl c.loop-frame-test.true c.index-code-frame.is in
    ap seen_ran (sym c.loop-frame.invariant.0)
    ∙ access_ended (machine.most_steps c.args.code.now c.args.frame.now.turns) s c.args.code.now f (frame_of c.step.new.frame) (g.A.Access.held c.loop-frame.state) (g.A.Access.held c.call.new.self) _ _ (outcome.Throws c.in-Throws.exception)
    (ap (λ (o : Option Instr). seen (machine.perform s o f)) there ∙ c.in_ok-step.ensures ∙ ap (λ (to : Move). seen (moves to c.step.new.frame)) c.in-Access.is)
    (c.in_ok-value-in-Access.ensures.ok ∙ ap (λ (how : Outcome). (how, g.A.Access.held c.call.new.self)) c.in-Throws.is) (λ next. refl) some

pub returns-in-Throws-clause-left : goal.returns-in-Throws-clause-left
returns-in-Throws-clause-left g c =
    let s = setting_of c.args.engine.now in
    let f = frame_of c.loop-frame.frame in
    let there = slice_get_read c.args.code.now (length c.args.code.now) c.loop-frame.frame.at c.index-code-frame.result refl c.loop-frame-test.true c.index-code-frame.is in
    access_left s c.args.code.now (frame_of c.args.frame.now) f (frame_of c.step.new.frame) (g.A.Access.held c.args.state.now) (g.A.Access.held c.loop-frame.state) (g.A.Access.held c.call.new.self) _ _ c.in_ok-value-in-Access.field-0
    (ap (λ (o : Option Instr). seen (machine.perform s o f)) there ∙ c.in_ok-step.ensures ∙ ap (λ (to : Move). seen (moves to c.step.new.frame)) c.in-Access.is)
    c.in_ok-value-in-Access.ensures.ok c.loop-frame.invariant.1

pub returns-in-Limit-clause-ends : goal.returns-in-Limit-clause-ends
returns-in-Limit-clause-ends g c =
    let s = setting_of c.args.engine.now in
    let f = frame_of c.loop-frame.frame in
    let some = some_along _ _ (sym c.loop-frame.invariant.0) c.requires in
    let there = slice_get_read c.args.code.now (length c.args.code.now) c.loop-frame.frame.at c.index-code-frame.result refl c.loop-frame-test.true c.index-code-frame.is in
    ap seen_ran (sym c.loop-frame.invariant.0)
    ∙ access_ended (machine.most_steps c.args.code.now c.args.frame.now.turns) s c.args.code.now f (frame_of c.step.new.frame) (g.A.Access.held c.loop-frame.state) (g.A.Access.held c.call.new.self) _ _ outcome.Limit
    (ap (λ (o : Option Instr). seen (machine.perform s o f)) there ∙ c.in_ok-step.ensures ∙ ap (λ (to : Move). seen (moves to c.step.new.frame)) c.in-Access.is)
    (c.in_ok-value-in-Access.ensures.ok ∙ ap (λ (how : Outcome). (how, g.A.Access.held c.call.new.self)) c.in-Limit.is) (λ next. refl) some

pub returns-in-Limit-clause-left : goal.returns-in-Limit-clause-left
returns-in-Limit-clause-left g c =
    let s = setting_of c.args.engine.now in
    let f = frame_of c.loop-frame.frame in
    let there = slice_get_read c.args.code.now (length c.args.code.now) c.loop-frame.frame.at c.index-code-frame.result refl c.loop-frame-test.true c.index-code-frame.is in
    access_left s c.args.code.now (frame_of c.args.frame.now) f (frame_of c.step.new.frame) (g.A.Access.held c.args.state.now) (g.A.Access.held c.loop-frame.state) (g.A.Access.held c.call.new.self) _ _ c.in_ok-value-in-Access.field-0
    (ap (λ (o : Option Instr). seen (machine.perform s o f)) there ∙ c.in_ok-step.ensures ∙ ap (λ (to : Move). seen (moves to c.step.new.frame)) c.in-Access.is)
    c.in_ok-value-in-Access.ensures.ok c.loop-frame.invariant.1

pub loop-frame-smaller : goal.loop-frame-smaller
loop-frame-smaller g c =
    let s = setting_of c.args.engine.now in
    let f = frame_of c.loop-frame.frame in
    let n = machine.most_steps c.args.code.now c.args.frame.now.turns in
    let some = some_along _ _ (sym c.loop-frame.invariant.0) c.requires in
    let there = slice_get_read c.args.code.now (length c.args.code.now) c.loop-frame.frame.at c.index-code-frame.result refl c.loop-frame-test.true c.index-code-frame.is in
    let on = access_goes_on n s c.args.code.now f (frame_of c.step.new.frame) (g.A.Access.held c.loop-frame.state) (g.A.Access.held c.call.new.self) _ _ c.in-Value.value
    (ap (λ (o : Option Instr). seen (machine.perform s o f)) there ∙ c.in_ok-step.ensures ∙ ap (λ (to : Move). seen (moves to c.step.new.frame)) c.in-Access.is)
    (c.in_ok-value-in-Access.ensures.ok ∙ ap (λ (how : Outcome). (how, g.A.Access.held c.call.new.self)) c.in-Value.is) some in
    subst (λ (stack : List Val). left n s c.args.code.now (record { at = c.step.new.frame.at; stack = stack; variables = c.step.new.frame.variables.items; turns = c.step.new.frame.turns }) (g.A.Access.held c.call.new.self) < left n s c.args.code.now f (g.A.Access.held c.loop-frame.state))
    (sym c.in_ok-push_result-in-Value.ensures) on.fewer

pub loop-frame-preserved : goal.loop-frame-preserved
loop-frame-preserved g c =
    let s = setting_of c.args.engine.now in
    let f = frame_of c.loop-frame.frame in
    let n = machine.most_steps c.args.code.now c.args.frame.now.turns in
    let some = some_along _ _ (sym c.loop-frame.invariant.0) c.requires in
    let there = slice_get_read c.args.code.now (length c.args.code.now) c.loop-frame.frame.at c.index-code-frame.result refl c.loop-frame-test.true c.index-code-frame.is in
    let on = access_goes_on n s c.args.code.now f (frame_of c.step.new.frame) (g.A.Access.held c.loop-frame.state) (g.A.Access.held c.call.new.self) _ _ c.in-Value.value
    (ap (λ (o : Option Instr). seen (machine.perform s o f)) there ∙ c.in_ok-step.ensures ∙ ap (λ (to : Move). seen (moves to c.step.new.frame)) c.in-Access.is)
    (c.in_ok-value-in-Access.ensures.ok ∙ ap (λ (how : Outcome). (how, g.A.Access.held c.call.new.self)) c.in-Value.is) some in
    let pushed : List Val → machine.Frame = λ stack. record { at = c.step.new.frame.at; stack = stack; variables = c.step.new.frame.variables.items; turns = c.step.new.frame.turns } in (
      ap (λ (stack : List Val). machine.run_within n s c.args.code.now (pushed stack) (g.A.Access.held c.call.new.self)) c.in_ok-push_result-in-Value.ensures
          ∙ on.same ∙ c.loop-frame.invariant.0,
      subst (λ (stack : List Val). Rests s c.args.code.now (frame_of c.args.frame.now) (g.A.Access.held c.args.state.now) (pushed stack) (g.A.Access.held c.call.new.self)) (sym c.in_ok-push_result-in-Value.ensures)
          (rests_accessed s c.args.code.now (frame_of c.args.frame.now) f (frame_of c.step.new.frame) (g.A.Access.held c.args.state.now) (g.A.Access.held c.loop-frame.state) (g.A.Access.held c.call.new.self) _ _ c.in-Value.value
          (ap (λ (o : Option Instr). seen (machine.perform s o f)) there ∙ c.in_ok-step.ensures ∙ ap (λ (to : Move). seen (moves to c.step.new.frame)) c.in-Access.is)
          (c.in_ok-value-in-Access.ensures.ok ∙ ap (λ (how : Outcome). (how, g.A.Access.held c.call.new.self)) c.in-Value.is) c.loop-frame.invariant.1),
    )

pub returns-in-End-clause-ends : goal.returns-in-End-clause-ends
returns-in-End-clause-ends g c =
    let s = setting_of c.args.engine.now in
    let f = frame_of c.loop-frame.frame in
    let some = some_along _ _ (sym c.loop-frame.invariant.0) c.requires in
    let there = slice_get_read c.args.code.now (length c.args.code.now) c.loop-frame.frame.at c.index-code-frame.result refl c.loop-frame-test.true c.index-code-frame.is in
    ap seen_ran (sym c.loop-frame.invariant.0)
    ∙ ended (machine.most_steps c.args.code.now c.args.frame.now.turns) s c.args.code.now f (seen_frame (ending_of c.in-End.ending) (frame_of c.step.new.frame)) (g.A.Access.held c.loop-frame.state) (ending_of c.in-End.ending)
    (ap (λ (o : Option Instr). seen (machine.perform s o f)) there ∙ c.in_ok-step.ensures ∙ ap (λ (to : Move). seen (moves to c.step.new.frame)) c.in-End.is) some

pub returns-in-End-clause-left : goal.returns-in-End-clause-left
returns-in-End-clause-left g c =
    rests_now (setting_of c.args.engine.now) c.args.code.now (frame_of c.args.frame.now) (frame_of c.loop-frame.frame) (g.A.Access.held c.args.state.now) (g.A.Access.held c.loop-frame.state) (g.A.Access.held c.loop-frame.state) c.loop-frame.invariant.1 refl

pub unreachable-requires : goal.unreachable-requires
unreachable-requires g c =
    let s = setting_of c.args.engine.now in
    none_is_not _ (ap (λ (o : Option Instr). machine.perform s o (frame_of c.loop-frame.frame)) (slice_get_past c.args.code.now c.loop-frame.frame.at c.loop-frame-test.false))
    (performs (machine.most_steps c.args.code.now c.args.frame.now.turns) s c.args.code.now (frame_of c.loop-frame.frame) (g.A.Access.held c.loop-frame.state)
    (some_along _ _ (sym c.loop-frame.invariant.0) c.requires))
