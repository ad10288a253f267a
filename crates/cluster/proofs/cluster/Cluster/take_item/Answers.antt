use Rattle.std.proofs.Common.{◌≡◌, ◌+◌, ◌++◌, ◌∷◌, [], slice_get, slice_set, ap, ◌∙◌, sym, subst, refl, arith}
use Rattle.early_task_code.specs.declared.graph.Graph.{Graph}
use Rattle.placement.specs.declared.event.Header.{Header}
use Rattle.early_task_code.specs.Progress.{Taken, Progress, progress_after}
use Rattle.cell_machine.specs.Shows.{Shows}
use Rattle.cluster.specs.declared.cells.PortCell.{PortCell}
use Rattle.cluster.specs.declared.past.Past.{Past}
use Rattle.cluster.specs.History.{shown_entry}
use Rattle.cluster.specs.World.{last_step}
use Rattle.cluster.specs.Standing.{place_of}
use Rattle.cluster.proofs.Reading.{within_cells, read, same_cell, take_right, room, past_of}
use Rattle.cluster.proofs.Stands.{holds_after_take, TookItem}
use Rattle.cluster.proofs.cluster.Cluster.take_item.Goals as goal

pub index_mut-held-requires : goal.index_mut-held-requires
index_mut-held-requires c = within_cells c.args.self.now c.requires.s c.requires.w c.args.to c.place_of.result c.requires.holds.stands c.requires.is_cell c.place_of.ensures

pub overflow_add-seq : goal.overflow_add-seq
overflow_add-seq c =
    let here = read c.args.self.now c.requires.s c.requires.w c.args.to c.place_of.result c.index_mut-held.result.now c.requires.holds.stands c.requires.is_cell c.place_of.ensures c.index_mut-held.ensures.value in
    let fits = (room c.requires.s c.requires.w c.args.to c.index_mut-held.result.now.cell c.requires.holds.ready c.requires.holds.reached c.requires.is_cell here.stands).mark c.args.from in
    omega arith

pub take-requires-clause-right : goal.take-requires-clause-right
take-requires-clause-right c =
    let here = read c.args.self.now c.requires.s c.requires.w c.args.to c.place_of.result c.index_mut-held.result.now c.requires.holds.stands c.requires.is_cell c.place_of.ensures c.index_mut-held.ensures.value in
    take_right c.args.self.now c.requires.s c.requires.w c.args.graph.now c.args.to c.args.from c.args.item.now c.index_mut-held.result.now.cell c.requires.of_graph c.requires.holds c.requires.is_cell c.requires.given here.stands

pub take-requires-clause-position : goal.take-requires-clause-position
take-requires-clause-position c =
    let here = read c.args.self.now c.requires.s c.requires.w c.args.to c.place_of.result c.index_mut-held.result.now c.requires.holds.stands c.requires.is_cell c.place_of.ensures c.index_mut-held.ensures.value in
    (room c.requires.s c.requires.w c.args.to c.index_mut-held.result.now.cell c.requires.holds.ready c.requires.holds.reached c.requires.is_cell here.stands).position

pub take-requires-clause-mark : goal.take-requires-clause-mark
take-requires-clause-mark c =
    let here = read c.args.self.now c.requires.s c.requires.w c.args.to c.place_of.result c.index_mut-held.result.now c.requires.holds.stands c.requires.is_cell c.place_of.ensures c.index_mut-held.ensures.value in
    (room c.requires.s c.requires.w c.args.to c.index_mut-held.result.now.cell c.requires.holds.ready c.requires.holds.reached c.requires.is_cell here.stands).mark c.args.from

pub take-requires-clause-sent : goal.take-requires-clause-sent
take-requires-clause-sent c =
    let here = read c.args.self.now c.requires.s c.requires.w c.args.to c.place_of.result c.index_mut-held.result.now c.requires.holds.stands c.requires.is_cell c.place_of.ensures c.index_mut-held.ensures.value in
    (room c.requires.s c.requires.w c.args.to c.index_mut-held.result.now.cell c.requires.holds.ready c.requires.holds.reached c.requires.is_cell here.stands).sent

pub returns : goal.returns
returns c s w of_graph holds given =
    let self = c.args.self.now in
    let is = same_cell self c.requires.s s c.requires.w w c.args.to c.requires.holds.stands holds.stands c.requires.is_cell in
    let here = read self s w c.args.to c.place_of.result c.index_mut-held.result.now holds.stands is c.place_of.ensures c.index_mut-held.ensures.value in
    let G : Graph → Type 0 = λ g. (p : Progress) (e : Taken) → e.from ≡ c.args.from → e.cell ≡ c.args.to → e.item ≡ c.args.item.now → Shows c.index_mut-held.result.now.cell p → Shows c.take.new.self (progress_after g self.header.slots e p) in
    let H : Header → Type 0 = λ h. (p : Progress) (e : Taken) → e.from ≡ c.args.from → e.cell ≡ c.args.to → e.item ≡ c.args.item.now → Shows c.index_mut-held.result.now.cell p → Shows c.take.new.self (progress_after s.graph h.slots e p) in
    let shows = subst H holds.stands.header (subst G (sym of_graph) c.in_ok-take.ensures.shows) in
    let took : TookItem s c.args.to c.args.from c.args.item.now c.index_mut-held.result.now.cell c.take.new.self = record { shows = shows; trimmed = c.in_ok-take.ensures.trimmed } in
    let place : c.place_of.result ≡ place_of s.header.slots c.args.to = c.place_of.ensures ∙ ap (λ (h : Header). place_of h.slots c.args.to) holds.stands.header in
    let after : PortCell = record { port = c.index_mut-held.result.now.port; cell = c.take.new.self } in
    let made =
    past_of s w c.args.to c.args.from c.args.pick (c.get-seq.result + 1) self.next_step c.args.item.now c.shown_of.result (ap (λ n. n + 1) (c.get-seq.ensures ∙ here.stands.shows.took c.args.from)) holds.stands.next_step
    (c.shown_of.ensures ∙ ap (λ call. slice_get (shown_entry c.args.to call) 0) c.call_of.ensures) in
    holds_after_take self _ s w c.args.to c.args.from c.args.pick c.args.item.now c.index_mut-held.result.now after holds is
    (λ (e : w.next_step ≡ last_step). c.requires.goes_on (sym c.requires.holds.stands.next_step ∙ holds.stands.next_step ∙ e)) given here.there
    (ap (λ i. slice_set self.cells.items i after) place) refl took (record { calls = refl; header = refl; spent = refl }) refl refl
    (c.in_ok-push.ensures.ok ∙ ap (λ (p : Past). self.history ++ p ∷ []) made)
