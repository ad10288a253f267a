-- From the start of the source on, and behind each step, all its calls stand at their code, and its fields are as the class says.
use Rattle.std.proofs.Common.{◌≡◌, ◌≢◌, ◌<◌, refl, sym, ap, subst, ◌∙◌, ℕ, zero, suc, arith, true, List, [], ◌∷◌, map, length, unwrap_or, Option, Some, None, slice_get, slice_set, inl, inr, ◌⊎◌}
use Rattle.sdg_base.specs.declared.call.Call.{Call}
use Rattle.sdg_base.specs.declared.call.Step.{Step}
use Rattle.sdg_base.specs.declared.call.Step.TheVariants.{Begin, Block, Visit, Join, Grow}
use Rattle.access_blocks.specs.declared.body.Program.{Program}
use Rattle.access_blocks.specs.Statements.{Field}
use Rattle.access_blocks.specs.Source as source
use Rattle.access_blocks.specs.Source.{CallState, Fresh, Source, nth, Started, with_call, left, is_there, is_fresh, is_next_block, is_next_visit, is_next_join, begun, block_run, visit_run, join_run, state_of, growth_refused, grown_field, grown, grown_source, field_at_start, source_at_start, ByRunning, AtOnce, Steps, Follows, Done, Next}
use Rattle.code_meaning.specs.Standing.{Entered, Stands, FieldsFit, StandsAgain}
use Rattle.code_meaning.specs.Following.{IsCallOf, AreCallsOf, SourceStands, StepsKeepStanding, SourcesStand}
use Rattle.code_meaning.proofs.Lists.{none_some, some_is, get_within, within_get, get_set, get_set_other, length_set, same_or_not}
use Rattle.code_meaning.proofs.Fitting.{grown_fit, fit_at_start}
use Rattle.code_meaning.proofs.Following.{legal_is, StandsBehind, begin_stands, block_stands, visit_stands, join_stands}

-- ---- the calls behind a step

stood_before : (c k : ℕ) (calls : List CallState) (state x : CallState) → nth (with_call c state calls) k ≡ Some x → ((k ≡ c) × (state ≡ x)) ⊎ (nth calls k ≡ Some x)
stood_before zero k calls state x is = inr is
stood_before (suc n) zero calls state x is = absurd (none_some x is)
stood_before (suc n) (suc k) calls state x is = by (same_or_not k n)
  where
    by : (k ≡ n) ⊎ (k ≢ n) → ((suc k ≡ suc n) × (state ≡ x)) ⊎ (slice_get calls k ≡ Some x)
    by (inl e) =
        let there : slice_get (slice_set calls n state) n ≡ Some x = sym (ap (slice_get (slice_set calls n state)) e) ∙ is in
        let within : n < length calls = subst (λ m. n < m) (length_set calls n state) (get_within (slice_set calls n state) n x there) in
        inl (ap suc e, some_is state x (sym (get_set calls n state within) ∙ there))
    by (inr other) = inr (sym (get_set_other calls n k state other) ∙ is)

with_as_many : (c : ℕ) (state : CallState) (calls : List CallState) → length (with_call c state calls) ≡ length calls
with_as_many zero state calls = refl
with_as_many (suc n) state calls = length_set calls n state

call_there : (calls : List Call) (states : List CallState) (c : ℕ) (state : CallState) → length states ≡ length calls → nth states c ≡ Some state → (call : Call) × (nth calls c ≡ Some call)
call_there calls states zero state many is = absurd (none_some state is)
call_there calls states (suc n) state many is = (let within = get_within states n state is in within_get calls n (omega arith))

module _ (program : Program) (calls : List Call) (entries : ℕ → Entered) (of : AreCallsOf program calls entries) where
  module _ (now : Source) (s : SourceStands program calls entries now) (c : ℕ) (call : Call) (is : nth calls c ≡ Some call) where
    abbrev mine : IsCallOf program call (entries c)
    mine = of c call is

    kept : (state : CallState) (fields : List Field) → StandsAgain (entries c) state fields → SourceStands program calls entries (left c state fields now)
    kept state fields again = record {
      as_many = with_as_many c state now.calls ∙ s.as_many;
      fit = subst (λ p. FieldsFit p fields) mine.same_program again.fit;
      stand = λ k x there. by k x (stood_before c k now.calls state x there);
    }
      where
        by : (k : ℕ) (x : CallState) → ((k ≡ c) × (state ≡ x)) ⊎ (nth now.calls k ≡ Some x) → Stands (entries k) x
        by k x (inl e) = subst (λ n. Stands (entries n) x) (sym e.0) (subst (Stands (entries c)) e.1 again.stands)
        by k x (inr there) = s.stand k x there

    leads_on : (started : Started) (next : Source) → source.Leads program now c started next → StandsBehind program call (entries c) mine now s.fit started → SourceStands program calls entries next
    leads_on _ _ (ByRunning frames m state fields runs) behind = kept state fields (behind state fields runs)
    leads_on _ _ (AtOnce state fields) behind = kept state fields behind

  -- a step of a call
  module _ (now next : Source) (s : SourceStands program calls entries now) (c : ℕ) where
    state_is : (state : CallState) → nth now.calls c ≡ Some state → state_of now c ≡ state
    state_is state is = ap (λ o. unwrap_or o Fresh) is

    by_run : (run : CallState → Started) (state : CallState) → (is : nth now.calls c ≡ Some state)
        → (let there = call_there calls now.calls c state s.as_many is in StandsBehind program there.0 (entries c) (of c there.0 there.1) now s.fit (run state))
        → source.Leads program now c (run (state_of now c)) next → SourceStands program calls entries next
    by_run run state is behind does =
        let there = call_there calls now.calls c state s.as_many is in
        leads_on now s c there.0 there.1 (run state) next (subst (λ x. source.Leads program now c (run x) next) (state_is state is) does) behind

    begins : source.refused c true is_fresh (nth now.calls c) ≡ None → source.Leads program now c (begun program now (nth calls c)) next → SourceStands program calls entries next
    begins legal does =
        let l = legal_is c true is_fresh (nth now.calls c) legal in
        let there = call_there calls now.calls c l.state s.as_many l.is_state in
        leads_on now s c there.0 there.1 (begun program now (Some there.0)) next (subst (λ o. source.Leads program now c (begun program now o) next) there.1 does) (begin_stands program there.0 (entries c) (of c there.0 there.1) now s.fit)

    blocks : (i : Option ℕ) → source.refused c (is_there i now.fields) (is_next_block now i) (nth now.calls c) ≡ None → source.Leads program now c (block_run now i (state_of now c)) next → SourceStands program calls entries next
    blocks i legal does =
        let l = legal_is c (is_there i now.fields) (is_next_block now i) (nth now.calls c) legal in
        let there = call_there calls now.calls c l.state s.as_many l.is_state in
        by_run (block_run now i) l.state l.is_state (block_stands program there.0 (entries c) (of c there.0 there.1) now s.fit i l.state l.next (s.stand c l.state l.is_state)) does

    visits : (i : ℕ) → source.refused c (is_there (Some i) now.fields) (is_next_visit i) (nth now.calls c) ≡ None → source.Leads program now c (visit_run now i (state_of now c)) next → SourceStands program calls entries next
    visits i legal does =
        let l = legal_is c (is_there (Some i) now.fields) (is_next_visit i) (nth now.calls c) legal in
        let there = call_there calls now.calls c l.state s.as_many l.is_state in
        by_run (visit_run now i) l.state l.is_state (visit_stands program there.0 (entries c) (of c there.0 there.1) now s.fit i l.state l.next (s.stand c l.state l.is_state)) does

    joins : source.refused c true is_next_join (nth now.calls c) ≡ None → source.Leads program now c (join_run now (state_of now c)) next → SourceStands program calls entries next
    joins legal does =
        let l = legal_is c true is_next_join (nth now.calls c) legal in
        let there = call_there calls now.calls c l.state s.as_many l.is_state in
        by_run (join_run now) l.state l.is_state (join_stands program there.0 (entries c) (of c there.0 there.1) now s.fit l.state l.next (s.stand c l.state l.is_state)) does

  -- ---- any step, and all of them

  step_stands : (now next : Source) (step : Step) → SourceStands program calls entries now → Steps program calls now step next → SourceStands program calls entries next
  step_stands now next (Begin c) s does = begins now next s c does.legal does.does
  step_stands now next (Block c i) s does = blocks now next s c i does.legal does.does
  step_stands now next (Visit c i) s does = visits now next s c i does.legal does.does
  step_stands now next (Join c) s does = joins now next s c does.legal does.does
  step_stands now next (Grow field) s does =
      subst (SourceStands program calls entries) (sym does.does)
      (record { as_many = s.as_many; fit = grown_fit program now.fields field s.fit; stand = s.stand })

  follows_stand : (now : Source) (steps : List Step) (end : Source) → SourceStands program calls entries now → Follows program calls now steps end → SourceStands program calls entries end
  follows_stand _ _ _ s (Done now) = s
  follows_stand _ _ _ s (Next now between end step steps does more) = follows_stand between steps end (step_stands now between step s does) more

  fresh_stands : (e : Entered) (cs : List Call) (k : ℕ) (state : CallState) → slice_get (map (λ (c : Call). Fresh) cs) k ≡ Some state → Stands e state
  fresh_stands e [] k state is = absurd (none_some state is)
  fresh_stands e (c ∷ cs) zero state is = subst (Stands e) (some_is Fresh state is) tt
  fresh_stands e (c ∷ cs) (suc k) state is = fresh_stands e cs k state is

  fresh_at : (c : ℕ) (state : CallState) → nth (map (λ (c : Call). Fresh) calls) c ≡ Some state → Stands (entries c) state
  fresh_at zero state is = absurd (none_some state is)
  fresh_at (suc k) state is = fresh_stands (entries (suc k)) calls k state is

  as_many_fresh : (cs : List Call) → length (map (λ (c : Call). Fresh) cs) ≡ length cs
  as_many_fresh [] = refl
  as_many_fresh (c ∷ cs) = ap suc (as_many_fresh cs)

  start_stands : (width : ℕ) → SourceStands program calls entries (source_at_start program calls width)
  start_stands width = record { as_many = as_many_fresh calls; fit = fit_at_start program width; stand = fresh_at }

pub steps_keep_standing : StepsKeepStanding
steps_keep_standing program calls entries of now next step s does = step_stands program calls entries of now next step s does

pub sources_stand : SourcesStand
sources_stand program calls entries of width steps end follows = follows_stand program calls entries of (source_at_start program calls width) steps end (start_stands program calls entries of width) follows
