use Rattle.std.proofs.Common.{◌≡◌, suc, ◌+◌, ◌*◌, ◌≤◌, Some, None, length, ap, ◌∙◌, sym, subst, arith}
use Rattle.std.specs.Option.{option_map}
use Rattle.placement.specs.declared.event.Event.{Event}
use Rattle.placement.specs.declared.event.Header.{Header}
use Rattle.early_task_code.specs.declared.graph.Graph.{Graph}
use Rattle.cluster.specs.World.{World, drained_for, most_events, lowest, offers, after_offer, event_of}
use Rattle.cluster.specs.Standing.{Holds, NamesPorts}
use Rattle.cluster.specs.Offering.{offered}
use Rattle.cluster.proofs.Draining.{drained_for-suc, drained_for-stops}
use Rattle.cluster.proofs.Offers.{lowest_named}
use Rattle.cluster.proofs.cluster.Cluster.drain.Goals as goal

pub lowest-requires : goal.lowest-requires
lowest-requires c =
    let live = c.requires c.if-self.false in
    record { s = live.s; w = drained_for c.loop-turn._turn live.s live.w; holds = c.loop-turn.invariant live.s live.w live.of_graph live.holds }

pub event-requires-in-Some-clause-sound : goal.event-requires-in-Some-clause-sound
event-requires-in-Some-clause-sound c going =
    let live = c.requires c.if-self.false in
    record { s = live.s; w = drained_for c.loop-turn._turn live.s live.w; of_graph = live.of_graph; holds = c.loop-turn.invariant live.s live.w live.of_graph live.holds }

pub event-requires-in-Some-clause-named : goal.event-requires-in-Some-clause-named
event-requires-in-Some-clause-named c =
    let live = c.requires c.if-self.false in
    let now = drained_for c.loop-turn._turn live.s live.w in
    let holds = c.loop-turn.invariant live.s live.w live.of_graph live.holds in
    let named = lowest_named live.s now (offered c.in-Some.offer) (sym (c.lowest.ensures live.s now holds) ∙ ap (option_map offered) c.in-Some.is) in
    let G : Graph → Type 0 = λ g. NamesPorts g c.loop-turn.self.header c.event.result in
    let H : Header → Type 0 = λ h. NamesPorts live.s.graph h c.event.result in
    let E : Event → Type 0 = λ e. NamesPorts live.s.graph live.s.header e in
    subst G live.of_graph (subst H (sym holds.stands.header) (subst E (sym c.event.ensures) named))

pub loop-turn-preserved : goal.loop-turn-preserved
loop-turn-preserved c s w of_graph holds =
    let now = drained_for c.loop-turn._turn s w in
    let before = c.loop-turn.invariant s w of_graph holds in
    let after = c.in_ok-event-in-Some.ensures.world s now of_graph before in
    let offer : lowest (offers s now) ≡ Some (offered c.in-Some.offer) = sym (c.lowest.ensures s now before) ∙ ap (option_map offered) c.in-Some.is in
    let next : c.loop-turn._turn + 1 ≡ suc c.loop-turn._turn = omega arith in
    let W : World → Type 0 = λ v. Holds c.event-in-Some.new.self s v in
    subst W
    (ap (λ e. (event_of s now e).0) c.event.ensures ∙ sym (ap (after_offer s now) offer) ∙ sym (drained_for-suc c.loop-turn._turn s w) ∙ ap (λ n. drained_for n s w) (sym next))
    after

pub returns-in-None-clause-world : goal.returns-in-None-clause-world
returns-in-None-clause-world c s w of_graph holds =
    let now = drained_for c.loop-turn._turn s w in
    let before = c.loop-turn.invariant s w of_graph holds in
    let none : lowest (offers s now) ≡ None = sym (c.lowest.ensures s now before) ∙ ap (option_map offered) c.in-None.is in
    let most : most_events s ≡ c.len-most.result * 100002 = ap (λ n. n * 100002) (sym (c.len-most.ensures ∙ ap length holds.stands.calls)) in
    let below : c.loop-turn._turn ≤ most_events s = rw most (omega arith) in
    let W : World → Type 0 = λ v. Holds c.loop-turn.self s v in
    subst W (sym (drained_for-stops c.loop-turn._turn (most_events s) s w below none)) before

pub returns-in-None-clause-going : goal.returns-in-None-clause-going
returns-in-None-clause-going c =
    let live = c.requires c.if-self.false in
    (c.loop-turn.invariant live.s live.w live.of_graph live.holds).stands.going

pub returns-clause-world : goal.returns-clause-world
returns-clause-world c s w of_graph holds =
    let before = c.loop-turn.invariant s w of_graph holds in
    let most : most_events s ≡ c.len-most.result * 100002 = ap (λ n. n * 100002) (sym (c.len-most.ensures ∙ ap length holds.stands.calls)) in
    let all : c.loop-turn._turn ≡ c.len-most.result * 100002 = omega arith in
    let W : World → Type 0 = λ v. Holds c.loop-turn.self s v in
    subst W (ap (λ n. drained_for n s w) (all ∙ sym most)) before

pub returns-clause-going : goal.returns-clause-going
returns-clause-going c =
    let live = c.requires c.if-self.false in
    (c.loop-turn.invariant live.s live.w live.of_graph live.holds).stands.going
