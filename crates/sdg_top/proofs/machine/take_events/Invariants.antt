use Rattle.std.proofs.Common.{◌≡◌, ◌++◌, drop}
use Rattle.cluster.specs.History.{Setup}
use Rattle.cluster.specs.World.{World, after_events, words_of}
use Rattle.cluster.specs.Standing.{Holds, HasWorld}
use Rattle.sdg_top.proofs.machine.take_events.Given as goal

-- the cluster stands for a world from which the events to come lead where all of them do
abbrev pub invariant-loop-event : goal.invariant-loop-event
invariant-loop-event l = record {
  live : HasWorld l.graph l.cluster;
  header : l.cluster.header ≡ l.initial.cluster.header;
  along : (s : Setup) (w : World) → s.graph ≡ l.graph → Holds l.initial.cluster s w
      → (now : World) × Holds l.cluster s now × (after_events s now (drop l.event-index l.events) ≡ after_events s w l.events) × (l.words.items ++ words_of s now (drop l.event-index l.events) ≡ words_of s w l.events);
}
