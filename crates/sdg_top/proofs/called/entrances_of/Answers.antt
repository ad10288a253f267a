use Rattle.std.proofs.Common.{ap, ◌∙◌, take, arith}
use Rattle.access_blocks.specs.Programs.{methods_in}
use Rattle.sdg_top.specs.Entrances.{entrances_from}
use Rattle.sdg_top.proofs.Entering.{method_entered, few_entered, all_entered, full_entered}
use Rattle.sdg_top.proofs.called.entrances_of.Goals as goal
use Rattle.sdg_top.proofs.called.entrances_of.Goals.{else-loop-member-test, then-loop-member-test+in-Method+then-number-ge-MOST_MEMBERS}

pub loop-member-preserved : goal.loop-member-preserved
loop-member-preserved c =
    let ms = c.as_slice-member-items.result.now in
    let old = c.loop-member.entrances.items in
    let new = c.add_method.new.entrances.items in
    let m = c.in-Method.method in
    record {
      all = method_entered ms c.loop-member.member-index c.loop-member.number c.member-item.result m old new c.loop-member-test.true c.member-item.is c.in-Method.is c.if-number-ge-MOST_MEMBERS.false c.in_ok-add_method.ensures c.loop-member.invariant.all;
      few = few_entered c.loop-member.number m old new c.in_ok-add_method.ensures c.loop-member.invariant.few;
      room = omega (arith, c.if-number-ge-MOST_MEMBERS.false);
    }

pub returns-clause-are : goal.returns-clause-are
returns-clause-are c =
    let ms = c.as_slice-member-items.result.now in
    let i = c.loop-member.member-index in
    let number = c.loop-member.number in
    let entrances = c.loop-member.entrances.items in
    let members = ap (λ all. entrances_from 0 (take 65536 (methods_in all))) c.as_slice-member-items.ensures in
    elim c.loop-member-test.branch [
      | else-loop-member-test w ↦ all_entered ms i number entrances w.loop-member-test.false c.loop-member.invariant.all ∙ members
      | then-loop-member-test+in-Method+then-number-ge-MOST_MEMBERS w ↦ full_entered ms i number entrances w.if-number-ge-MOST_MEMBERS.true c.loop-member.invariant.all ∙ members
    ]
