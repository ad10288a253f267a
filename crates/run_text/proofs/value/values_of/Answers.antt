use Rattle.std.proofs.Common.{[], arith}
use Rattle.std.specs.Option.{option_copied}
use Rattle.run_text.specs.Parts.{parts_of}
use Rattle.run_text.specs.declared.entrance.ValueType.TheVariants as t
use Rattle.run_text.proofs.Arguments.{so_far, some_come, misfit, one_more, all_read}
use Rattle.run_text.proofs.value.values_of.Goals as goal

pub unreachable-requires : goal.unreachable-requires
unreachable-requires c =
    let told = rw c.in_default.is at c.loop-parameter.invariant.told in
    some_come c.args.parameters.now c.loop-parameter.parameter-index c.loop-parameter.values _ (so_far c.args.parameters.now c.loop-parameter.parameter-index c.loop-parameter.values [] c.args.line.now c.loop-parameter.invariant.fit told c.requires (omega arith)) c.loop-parameter-test.true

pub returns-in_default-2-clause-bad : goal.returns-in_default-2-clause-bad
returns-in_default-2-clause-bad c =
    let told = rw (c.in-Some.is, c.cut-in-loop-parameter.ensures.parts) at c.loop-parameter.invariant.told in
    let none = rw c.in_default-2.is at c.in_ok-value.ensures in
    misfit c.args.parameters.now c.loop-parameter.parameter-index c.loop-parameter.values c.cut-in-loop-parameter.result.0.now (parts_of 32 (option_copied c.cut-in-loop-parameter.result.1)) _ t.Int (so_far c.args.parameters.now c.loop-parameter.parameter-index c.loop-parameter.values _ c.args.line.now c.loop-parameter.invariant.fit told c.requires (omega arith)) c.loop-parameter-test.true none

pub loop-parameter-preserved : goal.loop-parameter-preserved
loop-parameter-preserved c =
    let told = rw (c.in-Some.is, c.cut-in-loop-parameter.ensures.parts) at c.loop-parameter.invariant.told in
    let some = rw c.in-Some-2.is at c.in_ok-value.ensures in
    let next = one_more c.args.parameters.now c.loop-parameter.parameter-index c.loop-parameter.values c.in-Some-2.value c.cut-in-loop-parameter.result.0.now (parts_of 32 (option_copied c.cut-in-loop-parameter.result.1)) _ t.Int (so_far c.args.parameters.now c.loop-parameter.parameter-index c.loop-parameter.values _ c.args.line.now c.loop-parameter.invariant.fit told c.requires (omega arith)) c.loop-parameter-test.true some in
    rw c.in_ok-push.ensures.ok (record { fit = next.0; told = next.1 })

pub returns-clause-found : goal.returns-clause-found
returns-clause-found c =
    all_read c.args.parameters.now c.loop-parameter.parameter-index c.loop-parameter.values (parts_of 32 (option_copied c.loop-parameter.later)) _ (so_far c.args.parameters.now c.loop-parameter.parameter-index c.loop-parameter.values _ c.args.line.now c.loop-parameter.invariant.fit c.loop-parameter.invariant.told c.requires c.loop-parameter.auto.parameter-index-end) c.loop-parameter-test.false
