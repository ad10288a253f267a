use Rattle.std.proofs.Common.{arith, ap, sym, ◌∙◌, ◌≡◌, suc, ◌+◌, ◌-◌, Some}
use Rattle.std.proofs.lemmas.Grind.{common_steps}
use Rattle.access_blocks.specs.Statements as spec
use Rattle.access_blocks.specs.Calls.{calls_within}
use Rattle.body_run.specs.Seen.{machine_of}
use Rattle.body_run.specs.Passes.{pass, round}
use Rattle.body_run.proofs.InTurn.{goes_on, ends_there, stops_there, passes_on, passes_end, passes_stop, goes_same, holding}
use Rattle.body_run.proofs.expressions.Interpreter.+statements.Goals as goal

pub in_order-loop-statement-preserved : goal.in_order-loop-statement-preserved
in_order-loop-statement-preserved g t c =
    goes_on (calls_within c.args.self.now.depth c.args.self.now.methods.now) c.args.statements.now c.loop-statement.statement-index c.statement-item.result
    (machine_of c.loop-statement.machine) (machine_of c.statement.new.machine) c.in_ok-ended.ended _ (omega arith) c.statement-item.is c.in-Normal.is c.in_ok-ended.ensures c.loop-statement.invariant

pub in_order-returns-in_default : goal.in_order-returns-in_default
in_order-returns-in_default g t c =
    ends_there (calls_within c.args.self.now.depth c.args.self.now.methods.now) c.args.statements.now c.loop-statement.statement-index c.statement-item.result
    (machine_of c.loop-statement.machine) (machine_of c.statement.new.machine) c.in_ok-ended.ended _ (omega arith) c.statement-item.is c.in_default.not-Normal c.in_ok-ended.ensures c.loop-statement.invariant

pub in_order-returns-in_err-ended : goal.in_order-returns-in_err-ended
in_order-returns-in_err-ended g t c =
    let stops = stops_there (calls_within c.args.self.now.depth c.args.self.now.methods.now) c.args.statements.now c.loop-statement.statement-index c.statement-item.result
    (machine_of c.loop-statement.machine) (machine_of c.statement.new.machine) c.in_err-ended.field-0.0
    (spec.meanings (calls_within c.args.self.now.depth c.args.self.now.methods.now) c.args.statements.now (machine_of c.args.machine.now))
    (omega arith) c.statement-item.is c.in_err-ended.ensures c.loop-statement.invariant in
    grind (arith, common_steps, stops)

pub looped-loop-preserved : goal.looped-loop-preserved
looped-loop-preserved g t c =
    let calls = calls_within c.args.self.now.depth c.args.self.now.methods.now in
    passes_on calls c.args.test.now (spec.meanings calls c.args.update.now) (spec.meaning calls c.args.body.now)
    (c.from-most.result + 1) c.loop.counter (machine_of c.loop.machine) (machine_of c.pass.new.machine) c.in_ok-pass.field-0 _ (omega arith) c.in-None.is c.in_ok-pass.ensures c.loop.invariant

pub looped-returns-in-Some : goal.looped-returns-in-Some
looped-returns-in-Some g t c =
    let calls = calls_within c.args.self.now.depth c.args.self.now.methods.now in
    passes_end calls c.args.test.now (spec.meanings calls c.args.update.now) (spec.meaning calls c.args.body.now)
    (c.from-most.result + 1) c.loop.counter (machine_of c.loop.machine) (machine_of c.pass.new.machine) c.in_ok-pass.field-0 c.in-Some.completion _ (omega arith) c.in-Some.is c.in_ok-pass.ensures c.loop.invariant

pub looped-returns-in_err-pass : goal.looped-returns-in_err-pass
looped-returns-in_err-pass g t c =
    let calls = calls_within c.args.self.now.depth c.args.self.now.methods.now in
    let stops = passes_stop calls c.args.test.now (spec.meanings calls c.args.update.now) (spec.meaning calls c.args.body.now)
    (c.from-most.result + 1) c.loop.counter (machine_of c.loop.machine) (machine_of c.pass.new.machine)
    (spec.looped calls c.args.test.now (spec.meanings calls c.args.update.now) (spec.meaning calls c.args.body.now) (machine_of c.args.machine.now))
    c.in_err-pass.field-0.0 (omega arith) c.in_err-pass.ensures c.loop.invariant in
    grind (arith, common_steps, stops)

pub looped-loop-init : goal.looped-loop-init
looped-loop-init g t c =
    let calls = calls_within c.args.self.now.depth c.args.self.now.methods.now in
    let start : (c.from-most.result + 1) - 0 ≡ suc c.args.machine.now.turns = omega (arith, c.from-most.ensures) in
    ap (λ most. spec.passes calls c.args.test.now (spec.meanings calls c.args.update.now) (spec.meaning calls c.args.body.now) most (machine_of c.args.machine.now)) start

pub pass-returns-then-is_true : goal.pass-returns-then-is_true
pass-returns-then-is_true g t c =
    let calls = calls_within c.args.self.now.depth c.args.self.now.methods.now in
    let update = spec.meanings calls c.args.update.now in
    let body = spec.meaning calls c.args.body.now in
    let m = machine_of c.args.machine.now in
    goes_same c.round-then-is_true.result (machine_of c.round-then-is_true.new.machine) (round update body (spec.with_turns c.in_ok-test-in-Some.left m)) (pass calls c.args.test.now update body m)
    (holding calls c.args.test.now c.get.result.now update body m c.in_ok-test-in-Some.test c.in_ok-test-in-Some.left
    (c.in-Some.is ∙ ap (λ x. Some x) (sym c.get.ensures)) c.in_ok-test-in-Some.ensures (sym c.if-is_true.ensures))
    c.round-then-is_true.ensures
