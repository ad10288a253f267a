use Rattle.std.proofs.Common.{List, Option, length, refl, sym, ap, ◌∙◌, arith}
use Rattle.std.proofs.lemmas.Option.{slice_get_read, slice_get_past}
use Rattle.std.proofs.lemmas.Result.{IfOk-weaker}
use Rattle.sdg_base.specs.declared.val.Val.{Val}
use Rattle.flat_code.specs.declared.graph.Instr.{Instr}
use Rattle.flat_code.specs.Machine as machine
use Rattle.task_code.specs.declared.step.Move.{Move}
use Rattle.task_code.specs.declared.step.Step.{Step}
use Rattle.task_code.specs.Seen.{calling, ending_of, frame_of, leads, moves, seen, seen_frame, seen_ran, setting_of}
use Rattle.task_code.proofs.Calling.{can_call, method_found, method_missing, no_depth, none_is_not, some_along}
use Rattle.task_code.proofs.Calm.{no_access}
use Rattle.task_code.proofs.Fuel.{goes_on, ended, performs}
use Rattle.task_code.proofs.engine.Engine.+calls.Goals as goal

pub call_method-unreachable-requires : goal.call_method-unreachable-requires
call_method-unreachable-requires t c =
    let e = c.args.self.now in
    none_is_not _ (no_depth e.depth e.graph.now.fields e.graph.now.methods c.args.method c.args.args.items c.args.gathered.now c.args.turns c.if-self-eq0.true) c.requires

pub call_method-method_called-requires : goal.call_method-method_called-requires
call_method-method_called-requires t c =
    let e = c.args.self.now in
    let is = method_found e.depth e.graph.now.fields e.graph.now.methods _ c.args.method _ c.in-Some.method.now c.args.args.items c.args.gathered.now c.args.turns (omega arith) c.as_slice.ensures c.from.ensures c.in-Some.ensures in
    (omega (arith, c.decreases), (refl, some_along _ _ is c.requires))

pub call_method-unreachable-requires-in-None : goal.call_method-unreachable-requires-in-None
call_method-unreachable-requires-in-None t c =
    let e = c.args.self.now in
    none_is_not _ (method_missing e.depth e.graph.now.fields e.graph.now.methods _ c.args.method _ c.args.args.items c.args.gathered.now c.args.turns (omega arith) c.as_slice.ensures c.from.ensures c.in-None.ensures) c.requires

pub call_method-returns : goal.call_method-returns
call_method-returns t c =
    let e = c.args.self.now in
    let is = method_found e.depth e.graph.now.fields e.graph.now.methods _ c.args.method _ c.in-Some.method.now c.args.args.items c.args.gathered.now c.args.turns (omega arith) c.as_slice.ensures c.from.ensures c.in-Some.ensures in
    IfOk-weaker c.method_called.result _ _ (λ called given. is ∙ given) c.method_called.ensures

pub run_method-step-requires : goal.run_method-step-requires
run_method-step-requires t c =
    let s = setting_of c.args.self.now in
    let f = frame_of c.loop-frame.frame in
    let some = some_along _ _ (sym c.loop-frame.invariant) c.requires.right in
    let there = slice_get_read c.args.code.now (length c.args.code.now) c.loop-frame.frame.at c.index-code-frame.result refl c.loop-frame-test.true c.index-code-frame.is in (
      omega (arith, c.decreases),
      (
        omega arith,
        some_along _ _ (ap (λ (o : Option Instr). machine.perform s o f) there) (performs (machine.most_steps c.args.code.now c.args.frame.now.turns) s c.args.code.now f machine.no_state some),
      ),
    )

pub run_method-loop-frame-smaller : goal.run_method-loop-frame-smaller
run_method-loop-frame-smaller t c =
    let s = setting_of c.args.self.now in
    let f = frame_of c.loop-frame.frame in
    let some = some_along _ _ (sym c.loop-frame.invariant) c.requires.right in
    let there = slice_get_read c.args.code.now (length c.args.code.now) c.loop-frame.frame.at c.index-code-frame.result refl c.loop-frame-test.true c.index-code-frame.is in
    let on = goes_on (machine.most_steps c.args.code.now c.args.frame.now.turns) s c.args.code.now f (frame_of c.step.new.frame) machine.no_state
    (ap (λ (o : Option Instr). seen (machine.perform s o f)) there ∙ c.in_ok-step.ensures ∙ ap (λ (to : Move). seen (moves to c.step.new.frame)) c.in-Go.is) some in
    on.fewer

pub run_method-loop-frame-preserved : goal.run_method-loop-frame-preserved
run_method-loop-frame-preserved t c =
    let s = setting_of c.args.self.now in
    let f = frame_of c.loop-frame.frame in
    let some = some_along _ _ (sym c.loop-frame.invariant) c.requires.right in
    let there = slice_get_read c.args.code.now (length c.args.code.now) c.loop-frame.frame.at c.index-code-frame.result refl c.loop-frame-test.true c.index-code-frame.is in
    let on = goes_on (machine.most_steps c.args.code.now c.args.frame.now.turns) s c.args.code.now f (frame_of c.step.new.frame) machine.no_state
    (ap (λ (o : Option Instr). seen (machine.perform s o f)) there ∙ c.in_ok-step.ensures ∙ ap (λ (to : Move). seen (moves to c.step.new.frame)) c.in-Go.is) some in
    on.same ∙ c.loop-frame.invariant

pub run_method-returns-in-End : goal.run_method-returns-in-End
run_method-returns-in-End t c =
    let s = setting_of c.args.self.now in
    let f = frame_of c.loop-frame.frame in
    let some = some_along _ _ (sym c.loop-frame.invariant) c.requires.right in
    let there = slice_get_read c.args.code.now (length c.args.code.now) c.loop-frame.frame.at c.index-code-frame.result refl c.loop-frame-test.true c.index-code-frame.is in
    ap seen_ran (sym c.loop-frame.invariant)
    ∙ ended (machine.most_steps c.args.code.now c.args.frame.now.turns) s c.args.code.now f (seen_frame (ending_of c.in-End.ending) (frame_of c.step.new.frame)) machine.no_state (ending_of c.in-End.ending)
    (ap (λ (o : Option Instr). seen (machine.perform s o f)) there ∙ c.in_ok-step.ensures ∙ ap (λ (to : Move). seen (moves to c.step.new.frame)) c.in-End.is) some

pub run_method-unreachable-requires-2 : goal.run_method-unreachable-requires-2
run_method-unreachable-requires-2 t c =
    let s = setting_of c.args.self.now in
    none_is_not _ (ap (λ (o : Option Instr). machine.perform s o (frame_of c.loop-frame.frame)) (slice_get_past c.args.code.now c.loop-frame.frame.at c.loop-frame-test.false))
    (performs (machine.most_steps c.args.code.now c.args.frame.now.turns) s c.args.code.now (frame_of c.loop-frame.frame) machine.no_state
    (some_along _ _ (sym c.loop-frame.invariant) c.requires.right))

pub run_method-unreachable-requires : goal.run_method-unreachable-requires
run_method-unreachable-requires t c =
    let s = setting_of c.args.self.now in
    let f = frame_of c.loop-frame.frame in
    no_access s c.index-code-frame.result f.stack f (frame_of c.step.new.frame) _ _ c.requires.no_field
    (c.in_ok-step.ensures ∙ ap (λ (to : Move). seen (moves to c.step.new.frame)) c.in-Access.is)

pub step-call_method-requires : goal.step-call_method-requires
step-call_method-requires t c =
    let s = setting_of c.args.self.now in (
      omega (arith, c.decreases),
      can_call _ _ c.perform.new.frame.stack _ (c.in_ok-perform.ensures ∙ ap (λ (to : Step). seen (leads s c.args.frame.now.at to c.perform.new.frame)) c.in-Call.is) c.requires.right,
    )

pub step-call_method-requires-in-Merge : goal.step-call_method-requires-in-Merge
step-call_method-requires-in-Merge t c =
    let s = setting_of c.args.self.now in
    let called = can_call _ _ c.perform.new.frame.stack _ (c.in_ok-perform.ensures ∙ ap (λ (to : Step). seen (leads s c.args.frame.now.at to c.perform.new.frame)) c.in-Merge.is) c.requires.right in (
      omega (arith, c.decreases),
      some_along _ _ (ap (λ (args : List Val). calling c.args.self.now c.in-Merge.method args c.args.self.now.gathered.now c.perform.new.frame.turns) (sym c.in_ok-args-in-Merge.ensures)) called,
    )
