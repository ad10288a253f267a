use Rattle.std.proofs.Common.{◌++◌, ap, sym, ◌∙◌}
use Rattle.std.proofs.lemmas.List.{drop_more}
use Rattle.cluster.specs.World.{after_events, words_of}
use Rattle.sdg_top.proofs.Runs.{word_more}
use Rattle.sdg_top.proofs.machine.take_events.Goals as goal

pub loop-event-preserved : goal.loop-event-preserved
loop-event-preserved c =
    let events = c.args.events.now in
    let i = c.loop-event.event-index in
    let before = c.loop-event.invariant in
    let split = drop_more events i _ c.loop-event-test.true in
    let live = before.live in
    let now = c.in_ok-event.ensures.world live.s live.w live.of_graph live.holds in
    record {
      live = record { s = live.s; w = _; of_graph = live.of_graph; holds = now };
      header = now.stands.header ∙ sym live.holds.stands.header ∙ before.header;
      along = λ s w of_graph holds.
          let so_far = before.along s w of_graph holds in
          let next = c.in_ok-event.ensures.world s so_far.0 of_graph so_far.1 in
          let word = c.in_ok-event.ensures.word s so_far.0 of_graph so_far.1 in (
            _,
            next,
            sym (ap (after_events s so_far.0) split) ∙ so_far.2,
            word_more s so_far.0 _ _ _ _ _ c.in_ok-push.ensures.items word
                ∙ sym (ap (λ rest. c.loop-event.words.items ++ words_of s so_far.0 rest) split)
                ∙ so_far.3,
          );
    }
