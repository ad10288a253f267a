use Rattle.std.proofs.Common.{refl, sym}
use Rattle.graph_safety.proofs.Safety.{runs_to_something, what_is_given_fits}
use Rattle.task_code.specs.Begun.{begun}
use Rattle.task_code.specs.Given.{output_of}
use Rattle.task_code.proofs.Calling.{some_along}
use Rattle.task_code.proofs.Partway.{class_kept}
use Rattle.task_code.proofs.tasks.run_task.Goals as goal

pub given-requires-clause-right : goal.given-requires-clause-right
given-requires-clause-right g c =
    let something = runs_to_something c.args.graph.now c.args.widths.now c.args.port c.args.item.now c.args.parts.now (g.A.Access.held c.args.state.now) c.args.pick c.requires.graph c.requires.widths c.requires.item c.requires.parts c.requires.state in
    some_along _ _ (sym something.1) refl

pub returns-clause-output : goal.returns-clause-output
returns-clause-output g c =
    (what_is_given_fits c.args.graph.now c.args.widths.now c.args.port c.args.item.now c.args.parts.now (g.A.Access.held c.args.state.now) c.args.pick (record { output = output_of c.in_ok-out.out; state = g.A.Access.held c.given.new.state })
    c.requires.graph c.requires.widths c.requires.item c.requires.parts c.requires.state c.in_ok-out.ensures.gives).0

pub returns-clause-class : goal.returns-clause-class
returns-clause-class g c =
    class_kept (begun c.args.graph.now c.args.port c.args.item.now c.args.parts.now) (g.A.Access.held c.args.state.now) (g.A.Access.held c.given.new.state) c.given.ensures.left

pub returns-in_err-out-clause-class : goal.returns-in_err-out-clause-class
returns-in_err-out-clause-class g c =
    class_kept (begun c.args.graph.now c.args.port c.args.item.now c.args.parts.now) (g.A.Access.held c.args.state.now) (g.A.Access.held c.given.new.state) c.given.ensures.left
