use Rattle.std.proofs.Common.{arith, refl, ap, length}
use Rattle.run_text.specs.Histories.{StrangeField, NoGrowth}
use Rattle.run_text.proofs.Fields.{partial_within}
use Rattle.run_text.proofs.Steps.{grown_named}
use Rattle.run_text.proofs.step.growth.Goals as goal

pub returns-in_default-clause-bad : goal.returns-in_default-clause-bad
returns-in_default-clause-bad c = λ calls. StrangeField c.args.name.now refl c.in_default.ensures

pub bounds-as_slice-field : goal.bounds-as_slice-field
bounds-as_slice-field c = omega (arith, partial_within c.args.fields.now c.in-Some.field c.in-Some.ensures.partial, c.requires.room.long, ap length c.as_slice.ensures)

pub returns-then-as_slice-field-ge-MOST_INSTANCES-clause-bad : goal.returns-then-as_slice-field-ge-MOST_INSTANCES-clause-bad
returns-then-as_slice-field-ge-MOST_INSTANCES-clause-bad c = λ calls.
    (NoGrowth c.args.name.now c.in-Some.field refl c.in-Some.ensures (rw c.as_slice.ensures at c.if-as_slice-field-ge-MOST_INSTANCES.true), grown_named c.args.fields.now calls c.in-Some.field c.args.name.now c.in-Some.ensures)
