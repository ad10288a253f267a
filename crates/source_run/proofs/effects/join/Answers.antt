use Rattle.std.proofs.Common.{map, ap, sym, ◌∙◌}
use Rattle.access_blocks.specs.Source as source
use Rattle.source_run.specs.Seen.{state_of}
use Rattle.source_run.proofs.Leading.{leads}
use Rattle.source_run.proofs.effects.join.Goals as goal

pub returns : goal.returns
returns c =
    let now : source.Source = record { fields = c.args.fields.now.items; calls = map state_of c.args.calls.now.items } in
    leads c.args.program.now now c.args.call (state_of c.in_ok-rest.rest.state) c.in_ok-rest.rest.fields.items _ _ _ (c.in_ok-rest.ensures now c.args.call)
    (c.in_ok-started.ensures now (ap (λ v. v.items) (sym c.replace-before.ensures.value)) ∙ ap (source.join_run now) c.take_call-state.ensures.state)
    (c.set_call.ensures ∙ c.take_call-state.ensures.others _)
