-- What a run of a task gives, where two of its runs end alike: the same item, part or result.
use Rattle.std.proofs.Common.{◌≡◌, ◌≢◌, refl, sym, ap, subst, ◌∙◌, ℕ, suc, List, drop, Option, Some, None, slice_get}
use Rattle.sdg_base.specs.declared.val.Outcome.{Outcome}
use Rattle.sdg_base.specs.declared.val.Outcome.TheVariants as outcome
use Rattle.sdg_base.specs.declared.val.Val.{Val}
use Rattle.state_classes.specs.States.{State}
use Rattle.flat_code.specs.declared.graph.Graph.{Graph}
use Rattle.flat_code.specs.declared.graph.GraphMethod.{GraphMethod}
use Rattle.flat_code.specs.declared.graph.Instr.{Instr}
use Rattle.flat_code.specs.declared.graph.Instr.TheVariants as instr
use Rattle.flat_code.specs.declared.graph.Task.{Task}
use Rattle.flat_code.specs.declared.graph.TaskKind.{TaskKind}
use Rattle.flat_code.specs.declared.graph.TaskKind.TheVariants as kind
use Rattle.flat_code.specs.Items.{Visited, Sender, carried, field_number, sent_for, sent, part_of, parted, first_part, join_of, method_of, join_number, part_for_join, stopped, ended, after_run}
use Rattle.flat_code.specs.Machine.{Frame, Ending, Returned, Stopped, CutTo, PartFor, Ran}
use Rattle.flat_code.specs.Verified.{IsMethod, IsTask, IsVerified, IsCutKind, IsPartKind, HasPart, StandsAfter, StandsRight}
use Rattle.flat_code.specs.Ways.{IsIn, IsLive}
use Rattle.graph_safety.proofs.Lists.{some_is}
use Rattle.live_runs.proofs.Carried.{carried_same}
use Rattle.live_runs.specs.Alike.{Agree, AreAlike, AgreeBehind, EndAlike}
use Rattle.live_runs.specs.Items.{IsLaterTask, CarriesLive, VisitsBy}

-- ---- tasks behind cuts and parts

behind_cut : (graph : Graph) (n : ℕ) (m : GraphMethod) (t : Task) (k : TaskKind) → IsCutKind k → StandsRight graph n m t k → StandsAfter graph t (instr.Cut n)
behind_cut graph n m t kind.Keyed is stands = stands.0
behind_cut graph n m t kind.Local is stands = stands.0
behind_cut graph n m t kind.Visit is stands = stands.0
behind_cut graph n m t _ is stands = absurd is

behind_part : (graph : Graph) (n : ℕ) (m : GraphMethod) (t : Task) (k : TaskKind) → IsPartKind k → StandsRight graph n m t k → StandsAfter graph t (instr.Part n)
behind_part graph n m t kind.Join is stands = stands.0
behind_part graph n m t _ is stands = absurd is

module _ (s : Sender) (verified : IsVerified s.graph) (carries : CarriesLive s.graph) (n : ℕ) (t : Task) (m : GraphMethod) (later : IsLaterTask s.graph n t m) where
  -- A task that stands behind an instruction of the method carries what is live there.
  vars_live : (k at : ℕ) (to : Task) (i : Instr) → IsTask s.graph k to → to.kind ≢ kind.Start → slice_get m.code at ≡ Some i → StandsAfter s.graph to i → (v : ℕ) → IsIn v to.vars → IsLive m.code v (suc at)
  vars_live k at to i is_task no_start is_code stands v h =
      let place = stands.only t.method at (record { of = m; is_method = later.is_method; is_code = is_code }) in
      let is_method : IsMethod s.graph to.method m = subst (λ (o : ℕ). IsMethod s.graph o m) place.0 later.is_method in
      let there : to.at ≡ suc at = stands.behind ∙ ap suc (sym place.1) in
      subst (λ (o : ℕ). IsLive m.code v o) there ((carries k to m (record { is_task = is_task; no_start = no_start; is_method = is_method })).live v h)

  cut_live : (k at : ℕ) (to : Task) → IsTask s.graph k to → slice_get m.code at ≡ Some (instr.Cut k) → (v : ℕ) → IsIn v to.vars → IsLive m.code v (suc at)
  cut_live k at to is_task is_code =
      let named = verified.numbers t.method m at (instr.Cut k) later.is_method is_code in
      let is_kind : IsCutKind to.kind = subst (λ (o : Task). IsCutKind o.kind) (some_is named.of to (sym named.is_task ∙ is_task)) named.is_kind in
      let right = verified.tasks k to is_task in
      vars_live k at to (instr.Cut k) is_task (λ e. subst IsCutKind e is_kind) is_code (behind_cut s.graph k right.of to to.kind is_kind right.stands)

  part_live : (k at : ℕ) (to : Task) → IsTask s.graph k to → slice_get m.code at ≡ Some (instr.Part k) → (v : ℕ) → IsIn v to.vars → IsLive m.code v (suc at)
  part_live k at to is_task is_code =
      let named = verified.numbers t.method m at (instr.Part k) later.is_method is_code in
      let is_kind : IsPartKind to.kind = subst (λ (o : Task). IsPartKind o.kind) (some_is named.of to (sym named.is_task ∙ is_task)) named.is_kind in
      let right = verified.tasks k to is_task in
      vars_live k at to (instr.Part k) is_task (λ e. subst IsPartKind e is_kind) is_code (behind_part s.graph k right.of to to.kind is_kind right.stands)

  -- ---- what is sent, and what is brought

  sent_same : (k : ℕ) (f g : Frame) (state : State) → AreAlike m.code f g → AgreeBehind m.code (CutTo k) f g → sent s k (slice_get s.graph.tasks k) g state ≡ sent s k (slice_get s.graph.tasks k) f state
  sent_same k f g state alike behind = by (slice_get s.graph.tasks k) refl
    where
      by : (o : Option Task) → slice_get s.graph.tasks k ≡ o → sent s k o g state ≡ sent s k o f state
      by None is = refl
      by (Some to) is =
          let field = field_number s.graph to.field in
          ap (λ (vs : List Val). sent_for s k to.kind field vs g.turns (carried to.vars g.variables) state) alike.stack
          ∙ ap (λ (left : ℕ). sent_for s k to.kind field f.stack left (carried to.vars g.variables) state) alike.turns
          ∙ ap (λ (o : Option (List Val)). sent_for s k to.kind field f.stack f.turns o state) (carried_same to.vars f.variables g.variables (λ v h. behind.1 v (cut_live k f.at to is behind.0 v h)))

  parted_same : (visited : Option Visited) (join : ℕ) (f g : Frame) (how : Outcome) (state : State) → g.turns ≡ f.turns
      → ((to : Task) → IsTask s.graph join to → (v : ℕ) → IsIn v to.vars → Agree f.variables g.variables v)
      → parted s visited join (slice_get s.graph.tasks join) g how state ≡ parted s visited join (slice_get s.graph.tasks join) f how state
  parted_same None join f g how state turns agree = refl
  parted_same (Some visit) join f g how state turns agree = by (slice_get s.graph.tasks join) refl
    where
      by : (o : Option Task) → slice_get s.graph.tasks join ≡ o → parted s (Some visit) join o g how state ≡ parted s (Some visit) join o f how state
      by None is = refl
      by (Some to) is =
          ap (λ (left : ℕ). part_of s visit join left (carried to.vars g.variables) how state) turns
          ∙ ap (λ (o : Option (List Val)). part_of s visit join f.turns o how state) (carried_same to.vars f.variables g.variables (agree to is))

  -- ---- a visit that stops

  join_is : (has : HasPart s.graph t) → join_number s.graph n ≡ Some has.join
  join_is has =
      let same : has.of ≡ m = some_is has.of m (sym has.is_method ∙ later.is_method) in
      ap (λ (o : Option Task). join_of s.graph (method_of s.graph o) o) later.is_task
      ∙ ap (λ (o : Option GraphMethod). join_of s.graph o (Some t)) later.is_method
      ∙ subst (λ (o : GraphMethod). first_part (drop t.at o.code) ≡ Some has.join) same has.first

  -- What the join of a visit carries, the visit carried.
  join_carried : (visit : Visited) (join : ℕ) (to : Task) → (visit.task ≡ n) × (t.kind ≡ kind.Visit) → join_number s.graph visit.task ≡ Some join → IsTask s.graph join to → (v : ℕ) → IsIn v to.vars → IsIn v t.vars
  join_carried visit join to by_this is is_task v h =
      let has = verified.parts n t later.is_task by_this.1 in
      let same : has.join ≡ join = some_is has.join join (sym (join_is has) ∙ ap (λ (k : ℕ). join_number s.graph k) (sym by_this.0) ∙ is) in
      verified.joins n has.join has.at t to v later.is_task has.reached (subst (λ (k : ℕ). IsTask s.graph k to) (sym same) is_task) h

  stopped_same : (visited : Option Visited) (f g : Frame) (how : Outcome) (state : State) → ((visit : Visited) → visited ≡ Some visit → (visit.task ≡ n) × (t.kind ≡ kind.Visit)) → g.turns ≡ f.turns
      → ((v : ℕ) → IsIn v t.vars → Agree f.variables g.variables v) → stopped s visited g how state ≡ stopped s visited f how state
  stopped_same None f g how state visits turns agree = refl
  stopped_same (Some visit) f g how state visits turns agree = by (join_number s.graph visit.task) refl
    where
      by : (o : Option ℕ) → join_number s.graph visit.task ≡ o → part_for_join s (Some visit) o g how state ≡ part_for_join s (Some visit) o f how state
      by None is = refl
      by (Some join) is = parted_same (Some visit) join f g how state turns (λ to is_task v h. agree v (join_carried visit join to (visits visit refl) is is_task v h))

  -- ---- the whole

  module _ (visits : VisitsBy n t s) (here there : List Val) (agree : (v : ℕ) → IsIn v t.vars → Agree here there v) where
    gives_same : (ending : Ending) (f g : Frame) (state : State) → AreAlike m.code f g → AgreeBehind m.code ending f g → ((v : ℕ) → Agree here there v → Agree f.variables g.variables v) → ended s ending g state ≡ ended s ending f state
    gives_same (Returned v) f g state alike behind kept = refl
    gives_same (Stopped how) f g state alike behind kept = stopped_same s.visited f g how state visits alike.turns (λ v h. kept v (agree v h))
    gives_same (CutTo k) f g state alike behind kept = sent_same k f g state alike behind
    gives_same (PartFor join x) f g state alike behind kept =
        parted_same s.visited join f g (outcome.Value x) state alike.turns (λ to is_task v h. behind.1 v (part_live join f.at to is_task behind.0 v h))

    pub after_runs_same : (o p : Option Ran) → EndAlike m.code here there o p → after_run s p ≡ after_run s o
    after_runs_same None None h = refl
    after_runs_same (Some r) (Some q) h =
        ap (λ (ending : Ending). ended s ending q.frame q.state) h.ending
        ∙ ap (λ (state : State). ended s r.ending q.frame state) h.state
        ∙ gives_same r.ending r.frame q.frame r.state h.frames h.behind h.kept
    after_runs_same _ _ h = absurd h
