use Rattle.std.proofs.Common.{rules, w64, to_z, of_z, sym, subst}
use Rattle.std.proofs.lemmas.Int.{to_z-of_z}
use Rattle.sdg_base.specs.declared.val.Val.TheVariants as val
use Rattle.sdg_base.specs.declared.val.Outcome.TheVariants as outcome
use Rattle.early_forms.specs.declared.straight.Ending.{Ending}
use Rattle.early_forms.specs.Names.{EndingIsKnown}
use Rattle.early_forms.specs.Trees.{ending_tree}
use Rattle.early_plain.specs.Machines.{at}
use Rattle.early_plain.specs.Plain.{Completes, Falls}
use Rattle.early_plain.specs.Scopes.{names_in}
use Rattle.early_plain.proofs.StraightBodies.{get_ends, get_ends_short, sum_ends}
use Rattle.early_plain.proofs.run.run_ending.Goals as goal

pub returns-in-Nothing : goal.returns-in-Nothing
returns-in-Nothing c =
    let now = at c.args.machine.now c.args.tables.now in
    subst (λ (e : Ending). Completes (names_in c.args.tables.now) (ending_tree e) now (outcome.Value val.Unit) c.args.tables.now) (sym c.in-Nothing.is) (Falls now)

pub returns-then-passes : goal.returns-then-passes
returns-then-passes c =
    let known = subst (EndingIsKnown (names_in c.args.tables.now) (names_in c.args.machine.now.scope)) c.in-Get.is c.requires in
    subst (λ (e : Ending). Completes (names_in c.args.tables.now) (ending_tree e) (at c.args.machine.now c.args.tables.now) (outcome.Value (val.Long (to_z w64 (of_z w64 c.get-read.result)))) c.args.tables.now) (sym c.in-Get.is)
    (get_ends c.in-Get.field c.in-Get.key c.args.machine.now c.args.tables.now c.long_of-key_value.result known.0 c.long_of-key_value.ensures c.passes.new.self
    _ c.get-read.result _ c.if-passes.ensures (to_z-of_z w64 c.long_of-key_value.result (search rules)) c.get-read.ensures (to_z-of_z w64 c.get-read.result (search rules)))

pub returns-else-passes : goal.returns-else-passes
returns-else-passes c =
    let known = subst (EndingIsKnown (names_in c.args.tables.now) (names_in c.args.machine.now.scope)) c.in-Get.is c.requires in
    subst (λ (e : Ending). Completes (names_in c.args.tables.now) (ending_tree e) (at c.args.machine.now c.args.tables.now) outcome.Limit c.args.tables.now) (sym c.in-Get.is)
    (get_ends_short c.in-Get.field c.in-Get.key c.args.machine.now c.args.tables.now c.long_of-key_value.result known.0 c.long_of-key_value.ensures c.passes.new.self c.if-passes.ensures)

pub returns-in-Sum : goal.returns-in-Sum
returns-in-Sum c =
    subst (λ (e : Ending). Completes (names_in c.args.tables.now) (ending_tree e) (at c.args.machine.now c.args.tables.now) (outcome.Value (val.Long (to_z w64 (of_z w64 c.long_of.result)))) c.args.tables.now) (sym c.in-Sum.is)
    (sum_ends c.in-Sum.value c.args.machine.now c.args.tables.now c.long_of.result _ c.long_of.ensures (to_z-of_z w64 c.long_of.result (search rules)))
