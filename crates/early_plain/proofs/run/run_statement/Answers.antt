use Rattle.std.proofs.Common.{true, false, rules, w64, sym, subst}
use Rattle.std.proofs.lemmas.Int.{to_z-of_z}
use Rattle.early_forms.specs.Names.{StatementIsKnown}
use Rattle.early_forms.specs.declared.straight.Statement.{Statement}
use Rattle.early_plain.specs.Bodies.{StatementRuns}
use Rattle.early_plain.specs.Machines.{at}
use Rattle.early_plain.specs.Scopes.{names_in}
use Rattle.early_plain.proofs.StraightBodies.{set_runs, get_runs, get_stops, put_runs, put_stops}
use Rattle.early_plain.proofs.run.run_statement.Goals as goal

pub returns-then-not-passes : goal.returns-then-not-passes
returns-then-not-passes c =
    let known = subst (StatementIsKnown (names_in c.args.tables.now) (names_in c.args.machine.now.scope)) c.in-Get.is c.requires in
    subst (λ (s : Statement). StatementRuns s (at c.args.machine.now c.args.tables.now) (at c.passes.new.self c.args.tables.now) false) (sym c.in-Get.is)
    (get_stops c.in-Get.field c.in-Get.key c.args.machine.now c.args.tables.now c.long_of-key_value.result known.0 c.long_of-key_value.ensures c.in-Get.local c.passes.new.self c.if-not-passes.ensures)

pub returns-then-not-passes-2 : goal.returns-then-not-passes-2
returns-then-not-passes-2 c =
    let known = subst (StatementIsKnown (names_in c.args.tables.now) (names_in c.args.machine.now.scope)) c.in-Put.is c.requires in
    subst (λ (s : Statement). StatementRuns s (at c.args.machine.now c.args.tables.now) (at c.passes-in-Put.new.self c.args.tables.now) false) (sym c.in-Put.is)
    (put_stops c.in-Put.field c.in-Put.key c.args.machine.now c.args.tables.now c.long_of-key_value-in-Put.result known.0 c.long_of-key_value-in-Put.ensures c.in-Put.value c.passes-in-Put.new.self
    c.if-not-passes-2.ensures)

pub returns-in_ok-declare-in-Get : goal.returns-in_ok-declare-in-Get
returns-in_ok-declare-in-Get c =
    let known = subst (StatementIsKnown (names_in c.args.tables.now) (names_in c.args.machine.now.scope)) c.in-Get.is c.requires in
    subst (λ (s : Statement). StatementRuns s (at c.args.machine.now c.args.tables.now) (at c.declare.new.self c.args.tables.now) true) (sym c.in-Get.is)
    (get_runs c.in-Get.field c.in-Get.key c.args.machine.now c.args.tables.now c.long_of-key_value.result known.0 c.long_of-key_value.ensures c.in-Get.local c.passes.new.self c.declare.new.self
    _ c.get-read.result _ c.if-not-passes.ensures (to_z-of_z w64 c.long_of-key_value.result (search rules)) c.get-read.ensures (to_z-of_z w64 c.get-read.result (search rules)) c.in_ok-declare-in-Get.ensures)

pub returns-in_ok-declare-in-Set : goal.returns-in_ok-declare-in-Set
returns-in_ok-declare-in-Set c =
    subst (λ (s : Statement). StatementRuns s (at c.args.machine.now c.args.tables.now) (at c.declare-in-Set.new.self c.args.tables.now) true) (sym c.in-Set.is)
    (set_runs c.in-Set.local c.in-Set.value c.args.machine.now c.declare-in-Set.new.self c.args.tables.now c.long_of-set.result _ c.long_of-set.ensures (to_z-of_z w64 c.long_of-set.result (search rules))
    c.in_ok-declare-in-Set.ensures)

pub returns-in_ok-put-in-Put : goal.returns-in_ok-put-in-Put
returns-in_ok-put-in-Put c =
    let known = subst (StatementIsKnown (names_in c.args.tables.now) (names_in c.args.machine.now.scope)) c.in-Put.is c.requires in
    subst (λ (s : Statement). StatementRuns s (at c.args.machine.now c.args.tables.now) (at c.passes-in-Put.new.self c.put.new.self) true) (sym c.in-Put.is)
    (put_runs c.in-Put.field c.in-Put.key c.args.machine.now c.args.tables.now c.long_of-key_value-in-Put.result known.0 c.long_of-key_value-in-Put.ensures c.in-Put.value c.passes-in-Put.new.self c.put.new.self
    c.long_of-put_value.result _ _ c.if-not-passes-2.ensures c.long_of-put_value.ensures (to_z-of_z w64 c.long_of-key_value-in-Put.result (search rules)) (to_z-of_z w64 c.long_of-put_value.result (search rules))
    c.in_ok-put-in-Put.ensures)
