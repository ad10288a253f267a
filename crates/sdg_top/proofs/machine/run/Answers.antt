use Rattle.std.proofs.Common.{◌≡◌, ◌-◌, ◌^◌, List, [], refl, sym, subst, ◌∙◌}
use Rattle.std.specs.Prelude.{min}
use Rattle.std.specs.List.{AllByRecursion}
use Rattle.std.proofs.lemmas.Result.{IfOk-weaker}
use Rattle.placement.specs.declared.event.Event.{Event}
use Rattle.placement.specs.declared.event.Header.{Header}
use Rattle.placement.specs.declared.event.Word.{Word}
use Rattle.early_task_code.specs.declared.graph.Graph.{Graph}
use Rattle.early_cutter.specs.Cutting.{graph_of}
use Rattle.cluster.specs.History.{Setup, steps_of}
use Rattle.cluster.specs.World.{first_world, after_events, words_of, world_of, results_of, kept}
use Rattle.cluster.specs.Standing.{IsReady, NamesPorts}
use Rattle.sdg_top.specs.Report.{report_text}
use Rattle.sdg_top.proofs.Runs.{ready, all_named, reported}
use Rattle.sdg_top.proofs.machine.run.Goals as goal

pub new-requires : goal.new-requires
new-requires c =
    let header = c.args.schedule.now.header in
    subst (λ (g : Graph). IsReady (record { graph = g; calls = c.args.calls; header = header })) (sym c.in_ok-graph.ensures)
    (ready c.args.class.now c.args.calls header c.every_call_is_safe.ensures c.requires.proper c.requires.fit c.requires.few c.requires.range)

pub take_events-requires-clause-named : goal.take_events-requires-clause-named
take_events-requires-clause-named c =
    let named = all_named c.args.class.now c.args.schedule.now.header c.args.schedule.now.events c.requires.named in
    subst (λ (g : Graph). AllByRecursion (NamesPorts g c.in_ok-cluster.cluster.header) c.as_slice.result.now) (sym c.in_ok-graph.ensures)
    (subst (λ (h : Header). AllByRecursion (NamesPorts (graph_of c.args.class.now) h) c.as_slice.result.now) (sym c.in_ok-cluster.ensures.stands.header)
    (subst (λ (es : List Event). AllByRecursion (NamesPorts (graph_of c.args.class.now) c.args.schedule.now.header) es) (sym c.as_slice.ensures) named))

pub drain-requires : goal.drain-requires
drain-requires c going =
    let s : Setup = record { graph = c.in_ok-graph.graph; calls = c.args.calls; header = c.args.schedule.now.header } in
    record { s = s; w = after_events s first_world c.as_slice.result.now; of_graph = refl; holds = c.in_ok-words.ensures.world s first_world refl c.in_ok-cluster.ensures }

pub returns : goal.returns
returns c =
    let header = c.args.schedule.now.header in
    let names = c.args.class.now.fields in
    let events = c.args.schedule.now.events in
    let setup : Graph → Setup = λ g. record { graph = g; calls = c.args.calls; header = header } in
    let s = setup c.in_ok-graph.graph in
    let taken = c.as_slice.result.now in
    let words = c.deref.ensures.value ∙ c.in_ok-words.ensures.words s first_world refl c.in_ok-cluster.ensures in
    let after = c.in_ok-words.ensures.world s first_world refl c.in_ok-cluster.ensures in
    let end = c.in_ok-drain.ensures.world s (after_events s first_world taken) refl after in
    IfOk-weaker c.report.result _ _ (λ text is.
    let W : Graph → List Event → List Word → Type 0 =
    λ g es ws. text ≡ report_text header names ws [] (results_of (setup g) (world_of (setup g) es)) (steps_of (world_of (setup g) es).hist) [] (min (kept (setup g) (world_of (setup g) es)) (2 ^ 64 - 1)) in
    let P : Graph → List Event → Type 0 = λ g es. W g es (words_of (setup g) first_world es) in
    let of_words : P c.in_ok-graph.graph taken = subst (λ (ws : List Word). W c.in_ok-graph.graph taken ws) words is in
    let of_events : P c.in_ok-graph.graph events = subst (λ (es : List Event). P c.in_ok-graph.graph es) c.as_slice.ensures of_words in
    let of_class : P (graph_of c.args.class.now) events = subst (λ (g : Graph). P g events) c.in_ok-graph.ensures of_events in
    reported c.args.class.now c.args.calls c.args.schedule.now text c.every_run_agrees.ensures c.every_run_runs_again.ensures c.every_run_keeps_its_steps.ensures c.serial_runs_are_plain.ensures c.plain_runs_in_turn.ensures c.ordered_runs_are_plain.ensures
    c.requires.proper c.requires.fit c.requires.few c.requires.range c.requires.named c.requires.few_events of_class) (c.report.ensures s (world_of s taken) end)
