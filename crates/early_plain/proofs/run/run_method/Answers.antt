use Rattle.std.proofs.Common.{◌<◌, ◌≤◌, Bool, length, get_or, ◌∙◌, ap, refl, subst}
use Rattle.std.specs.List.{zip}
use Rattle.early_plain.specs.Bodies.{StatementRuns, begin_at}
use Rattle.early_plain.specs.Machines.{at}
use Rattle.early_plain.proofs.StraightBodies.{machine_begins}
use Rattle.early_plain.proofs.WholeBodies.{body_starts, next_known, body_goes_on, end_known}
use Rattle.early_plain.proofs.run.run_method.Goals as goal

pub loop-statement-init : goal.loop-statement-init
loop-statement-init c =
    let m = c.args.method.now in
    let start = begin_at (zip m.parameters c.args.arguments.now) c.args.tables.now in
    body_starts m.statements m.ending m.parameters c.args.arguments.now start (at c.new-machine.result c.args.tables.now) c.requires.as_many c.requires.known refl
    (machine_begins c.new-machine.result m.parameters c.as_slice.result.now c.args.arguments.now c.args.tables.now c.as_slice.ensures c.new-machine.ensures.site c.new-machine.ensures.scope c.new-machine.ensures.turns)

pub run_statement-requires : goal.run_statement-requires
run_statement-requires c =
    let n = c.loop-statement.statement-index in
    let statements = c.args.method.now.statements in
    let within : n < length statements = rw c.as_slice-statement-items.ensures at c.loop-statement-test.true in
    let is = c.statement-item.is ∙ ap (λ xs. get_or xs n c.statement-item.result) c.as_slice-statement-items.ensures in
    next_known _ statements _ _ n (at c.loop-statement.machine c.loop-statement.tables) c.loop-statement.invariant c.statement-item.result within is

pub loop-statement-preserved : goal.loop-statement-preserved
loop-statement-preserved c =
    let n = c.loop-statement.statement-index in
    let statements = c.args.method.now.statements in
    let within : n < length statements = rw c.as_slice-statement-items.ensures at c.loop-statement-test.true in
    let is = c.statement-item.is ∙ ap (λ xs. get_or xs n c.statement-item.result) c.as_slice-statement-items.ensures in
    let old = at c.loop-statement.machine c.loop-statement.tables in
    let next = at c.run_statement.new.machine c.run_statement.new.tables in
    body_goes_on _ statements _ _ n old c.loop-statement.invariant c.statement-item.result within is next
    (subst (λ (b : Bool). StatementRuns c.statement-item.result old next b) c.if-not-branch.false c.in_ok-run_statement.ensures)

pub run_ending-requires : goal.run_ending-requires
run_ending-requires c =
    let n = c.loop-statement.statement-index in
    let statements = c.args.method.now.statements in
    let past : length statements ≤ n = rw c.as_slice-statement-items.ensures at c.loop-statement-test.false in
    end_known _ statements _ _ n (at c.loop-statement.machine c.loop-statement.tables) c.loop-statement.invariant past
