use Rattle.std.proofs.Common.{◌≡◌, List, [], ap, sym, ◌∙◌}
use Rattle.sdg_base.specs.Limits.{turns_at_start}
use Rattle.sdg_base.specs.declared.val.Val.{Val}
use Rattle.access_blocks.specs.Statements.{Machine, Completed, completed, meanings}
use Rattle.access_blocks.specs.Calls.{calls_of, machine_at_start, outcome_by}
use Rattle.body_run.specs.Seen.{machine_of, completion_of}
use Rattle.plain_java.specs.Calling.{Completes}
use Rattle.plain_java.proofs.run.run_body.Goals as goal

pub returns : goal.returns
returns c =
    let start : machine_of c.in_ok-machine.machine ≡ machine_at_start c.args.body.now c.args.values.now [] turns_at_start c.args.fields.items =
    c.in_ok-machine.ensures
    ∙ ap (λ vs. machine_at_start c.args.body.now vs c.new-gathered.result turns_at_start c.args.fields.items) c.in_ok-arguments.ensures
    ∙ ap (λ vs. machine_at_start c.args.body.now c.args.values.now vs turns_at_start c.args.fields.items) c.new-gathered.ensures in
    let whole : meanings (calls_of c.args.program.now.methods) c.args.body.now.statements (machine_at_start c.args.body.now c.args.values.now [] turns_at_start c.args.fields.items)
    ≡ completed (completion_of c.in_ok-completion.completion) (machine_of c.run_all.new.machine) =
    ap (λ ms. meanings (calls_of ms) c.args.body.now.statements (machine_at_start c.args.body.now c.args.values.now [] turns_at_start c.args.fields.items)) (sym c.as_slice.ensures)
    ∙ ap (λ ss. meanings (calls_of c.as_slice.result.now) ss (machine_at_start c.args.body.now c.args.values.now [] turns_at_start c.args.fields.items)) (sym c.as_slice-2.ensures)
    ∙ ap (meanings (calls_of c.as_slice.result.now) c.as_slice-2.result.now) (sym start)
    ∙ c.in_ok-completion.ensures in
    record {
      outcome = c.outcome.ensures ∙ ap (λ (w : Completed). outcome_by w.completion) (sym whole);
      fields = ap (λ (w : Completed). w.machine.fields) (sym whole);
    }
