-- What a legal step does to a source, and what it leaves.
use Rattle.std.proofs.Common.{◌≡◌, ◌≢◌, ◌≤◌, ◌<◌, ℕ, zero, suc, Bool, true, false, if◌then◌else◌, List, [], ◌∷◌, Option, Some, None, slice_get, slice_set, refl, sym, ◌∙◌, ap, subst, arith}
use Rattle.std.specs.Prelude.{unwrap_or}
use Rattle.std.specs.List.{AllByRecursion, list_any}
use Rattle.std.proofs.lemmas.Option.{same_Some}
use Rattle.sdg_base.specs.declared.val.Outcome.{Outcome}
use Rattle.sdg_base.specs.declared.call.Call.{Call}
use Rattle.sdg_base.specs.declared.call.Step.{Step}
use Rattle.sdg_base.specs.declared.call.Step.TheVariants.{Begin, Block, Visit, Join, Grow}
use Rattle.access_blocks.specs.declared.body.Program.{Program}
use Rattle.access_blocks.specs.Statements.{Field, Whole, Instances}
use Rattle.access_blocks.specs.Calls.{calls_of}
use Rattle.access_blocks.specs.Source.{Then, CallState, Fresh, At, Visiting, Ended, Source, Runs, Refusal, nth, has_instance, is_there, is_next_block, is_next_visit, is_next_join, is_fresh, refused, growth_refused, Started, Goes, Stays, begun, machine_of, block_run, visit_run, first_failure, joined, join_run, Leads, ByRunning, AtOnce, state_of, Steps, Follows, Done, Next}
use Rattle.access_blocks.specs.Serial.{IsNotEarlier}
use Rattle.plain_java.proofs.Keeping.{AllWhole, part_whole}
use Rattle.plain_java.proofs.Seams.{slice_get-set_other}

abbrev pub IsEnded : CallState → Type 0
IsEnded (Ended end) = Unit {0}
IsEnded _ = ⊥

-- ---- legal steps

pub record Allowed (there : Bool) (is_next : CallState → Bool) (o : Option CallState) : Type 0 where
  pub state : CallState
  pub is_state : o ≡ Some state
  pub is_there : there ≡ true
  pub is_its_next : is_next state ≡ true

allowed-next : (c : ℕ) (is_next : CallState → Bool) (state : CallState) (b : Bool) → is_next state ≡ b → (if b then None else Some (Refusal.NotNext c)) ≡ None → Allowed true is_next (Some state)
allowed-next c is_next state true is legal = record { state = state; is_state = refl; is_there = refl; is_its_next = is }
allowed-next c is_next state false is legal = cc

allowed : (c : ℕ) (there : Bool) (is_next : CallState → Bool) (o : Option CallState) → refused c there is_next o ≡ None → Allowed there is_next o
allowed c there is_next None legal = cc
allowed c false is_next (Some state) legal = cc
allowed c true is_next (Some state) legal = allowed-next c is_next state (is_next state) refl legal

-- what a call comes to that is started so
abbrev pub LedBy : Program → Started → CallState → List Field → Type 0
LedBy program (Goes frames m) state fields = Runs (calls_of program.methods) frames m state fields
LedBy program (Stays s f) state fields = (s ≡ state) × (f ≡ fields)

-- the source once a call, counted from 0, has come to a state
abbrev pub come_to : Source → ℕ → CallState → List Field → Source
come_to now n state fields = record { fields = fields; calls = slice_set now.calls n state }

record Led (program : Program) (now : Source) (n : ℕ) (started : Started) (next : Source) : Type 0 where
  pub state : CallState
  pub fields : List Field
  pub by : LedBy program started state fields
  pub is : come_to now n state fields ≡ next

led : (program : Program) (now : Source) (n : ℕ) (started : Started) (next : Source) → Leads program now (suc n) started next → Led program now n started next
led program now n started next (ByRunning frames m state fields runs) = record { state = state; fields = fields; by = runs; is = refl }
led program now n started next (AtOnce state fields) = record { state = state; fields = fields; by = (refl, refl); is = refl }

-- ---- what a step leaves

-- A legal step changes one call that has not ended, or none.
data Change (now : Source) : Step → Source → Type 0 where
  OfCall : (n : ℕ) (step : Step) (old new : CallState) (fields : List Field)
      → ((c : ℕ) → IsNotEarlier c step → c ≤ suc n)
      → slice_get now.calls n ≡ Some old
      → (IsEnded old → ⊥)
      → Change now step (come_to now n new fields)
  OfNone : (field : ℕ) (fields : List Field) → Change now (Grow field) (record { fields = fields; calls = now.calls })

module _ (program : Program) (calls : List Call) (now : Source) where
  call_change : (c : ℕ) (step : Step) (there : Bool) (is_next : CallState → Bool) (started : Started) (next : Source) → refused c there is_next (nth now.calls c) ≡ None
      → ((state : CallState) → is_next state ≡ true → IsEnded state → ⊥) → ((d : ℕ) → IsNotEarlier d step → d ≤ c) → Leads program now c started next → Change now step next
  call_change zero step there is_next started next legal open_only of_call leads = cc
  call_change (suc n) step there is_next started next legal open_only of_call leads =
      let a = allowed (suc n) there is_next (slice_get now.calls n) legal in
      let l = led program now n started next leads in
      subst (Change now step) l.is (OfCall n step a.state l.state l.fields of_call a.is_state (open_only a.state a.is_its_next))

  fresh_open : (state : CallState) → is_fresh state ≡ true → IsEnded state → ⊥
  fresh_open (Ended o) is ended = cc
  fresh_open _ is ended = ended

  block_open : (i : Option ℕ) (state : CallState) → is_next_block now i state ≡ true → IsEnded state → ⊥
  block_open i (Ended o) is ended = cc
  block_open i _ is ended = ended

  visit_open : (i : ℕ) (state : CallState) → is_next_visit i state ≡ true → IsEnded state → ⊥
  visit_open i (Ended o) is ended = cc
  visit_open i _ is ended = ended

  join_open : (state : CallState) → is_next_join state ≡ true → IsEnded state → ⊥
  join_open (Ended o) is ended = cc
  join_open _ is ended = ended

  change : (step : Step) (next : Source) → Steps program calls now step next → Change now step next
  change (Begin c) next st = call_change c (Begin c) true is_fresh (begun program now (nth calls c)) next st.legal fresh_open (λ d l. l) st.does
  change (Block c i) next st =
      call_change c (Block c i) (is_there i now.fields) (is_next_block now i) (block_run now i (state_of now c)) next st.legal (block_open i) (λ d l. l) st.does
  change (Visit c i) next st =
      call_change c (Visit c i) (is_there (Some i) now.fields) (is_next_visit i) (visit_run now i (state_of now c)) next st.legal (visit_open i) (λ d l. l) st.does
  change (Join c) next st = call_change c (Join c) true is_next_join (join_run now (state_of now c)) next st.legal join_open (λ d l. l) st.does
  change (Grow field) next st = subst (Change now (Grow field)) (sym st.does) (OfNone field _)

changed_elsewhere : (now : Source) (step : Step) (next : Source) (c i : ℕ) → Change now step next → IsNotEarlier c step → suc i < c → slice_get next.calls i ≡ slice_get now.calls i
changed_elsewhere now step next c i (OfCall n s old new fields of_call is_old open_only) not_earlier less =
    let at : c ≤ suc n = of_call c not_earlier in
    slice_get-set_other now.calls n i new (λ e. omega arith)
changed_elsewhere now step next c i (OfNone field fields) not_earlier less = refl

changed_keeps_end : (now : Source) (step : Step) (next : Source) (i : ℕ) (end : Outcome) → Change now step next → slice_get now.calls i ≡ Some (Ended end) → slice_get next.calls i ≡ Some (Ended end)
changed_keeps_end now step next i end (OfCall n s old new fields of_call is_old not_ended) is =
    let other : i ≢ n = λ e. not_ended (subst IsEnded (same_Some (Ended end) old (sym is ∙ ap (slice_get now.calls) e ∙ is_old)) tt) in
    slice_get-set_other now.calls n i new other ∙ is
changed_keeps_end now step next i end (OfNone field fields) is = is

module _ (program : Program) (calls : List Call) where
  -- Steps of later calls leave a call as it is.
  pub steps_leave : (now : Source) (steps : List Step) (end : Source) (c i : ℕ) → Follows program calls now steps end → AllByRecursion (IsNotEarlier c) steps → suc i < c
      → slice_get end.calls i ≡ slice_get now.calls i
  steps_leave now steps end c i (Done same) not_earlier less = refl
  steps_leave now steps end c i (Next from between to step later st rest) not_earlier less =
      steps_leave between later end c i rest not_earlier.1 less ∙ changed_elsewhere now step between c i (change program calls now step between st) not_earlier.0 less

  -- No step changes how a call ended.
  pub steps_keep_end : (now : Source) (steps : List Step) (last : Source) (i : ℕ) (end : Outcome) → Follows program calls now steps last → slice_get now.calls i ≡ Some (Ended end)
      → slice_get last.calls i ≡ Some (Ended end)
  steps_keep_end now steps last i end (Done same) is = is
  steps_keep_end now steps last i end (Next from between to step later st rest) is =
      steps_keep_end between later last i end rest (changed_keeps_end now step between i end (change program calls now step between st) is)

-- ---- steps on whole fields

-- how a call goes on that waits in a state
abbrev pub resumed : CallState → List Field → Option Started
resumed (At field (Some key) block at) fields = Some (Goes (Then (block ∷ []) ∷ at.frames) (machine_of at key [] fields 0))
resumed (Visiting field method args parts at) fields = Some (joined (first_failure parts) parts at fields)
resumed _ fields = None

-- On whole fields a legal step begins a call, or goes on with one.
pub data Doing (program : Program) (calls : List Call) (now : Source) : Step → Source → Type 0 where
  Begins : (n : ℕ) (state : CallState) (fields : List Field)
      → slice_get now.calls n ≡ Some Fresh
      → LedBy program (begun program now (slice_get calls n)) state fields
      → Doing program calls now (Begin (suc n)) (come_to now n state fields)
  GoesOn : (n : ℕ) (step : Step) (old : CallState) (started : Started) (state : CallState) (fields : List Field)
      → slice_get now.calls n ≡ Some old
      → resumed old now.fields ≡ Some started
      → LedBy program started state fields
      → Doing program calls now step (come_to now n state fields)

no_instances : (i : ℕ) (fields : List Field) → AllWhole fields → list_any (has_instance i) fields ≡ false
no_instances i [] h = refl
no_instances i (Whole state ∷ fields) h = no_instances i fields h.1
no_instances i (Instances states ∷ fields) h = absurd h.0

module _ (program : Program) (calls : List Call) (now : Source) (whole : AllWhole now.fields) where
  is_fresh-Fresh : (state : CallState) → is_fresh state ≡ true → state ≡ Fresh
  is_fresh-Fresh Fresh is = refl
  is_fresh-Fresh _ is = cc

  begins : (c : ℕ) (next : Source) → refused c true is_fresh (nth now.calls c) ≡ None → Leads program now c (begun program now (nth calls c)) next → Doing program calls now (Begin c) next
  begins zero next legal leads = cc
  begins (suc n) next legal leads =
      let a = allowed (suc n) true is_fresh (slice_get now.calls n) legal in
      let l = led program now n (begun program now (slice_get calls n)) next leads in
      subst (Doing program calls now (Begin (suc n))) l.is (Begins n l.state l.fields (a.is_state ∙ ap Some (is_fresh-Fresh a.state a.is_its_next)) l.by)

  resumes-block : (state : CallState) → is_next_block now None state ≡ true → resumed state now.fields ≡ Some (block_run now None state)
  resumes-block (At field (Some key) block at) is = refl
  resumes-block (At field None block at) is = cc
  resumes-block _ is = cc

  resumes-join : (state : CallState) → is_next_join state ≡ true → resumed state now.fields ≡ Some (join_run now state)
  resumes-join (Visiting field method args parts at) is = refl
  resumes-join _ is = cc

  goes_on : (c : ℕ) (step : Step) (is_next : CallState → Bool) (run : CallState → Started) (next : Source) → refused c true is_next (nth now.calls c) ≡ None
      → ((state : CallState) → is_next state ≡ true → resumed state now.fields ≡ Some (run state)) → Leads program now c (run (state_of now c)) next → Doing program calls now step next
  goes_on zero step is_next run next legal resumes leads = cc
  goes_on (suc n) step is_next run next legal resumes leads =
      let a = allowed (suc n) true is_next (slice_get now.calls n) legal in
      let l = led program now n (run (state_of now (suc n))) next leads in
      let same : state_of now (suc n) ≡ a.state = ap (λ (o : Option CallState). unwrap_or o Fresh) a.is_state in
      let by : LedBy program (run a.state) l.state l.fields = subst (λ (s : CallState). LedBy program (run s) l.state l.fields) same l.by in
      subst (Doing program calls now step) l.is (GoesOn n step a.state (run a.state) l.state l.fields a.is_state (resumes a.state a.is_its_next) by)

  -- where no field has instances
  no_instance_there : (c i : ℕ) (is_next : CallState → Bool) → refused c (is_there (Some i) now.fields) is_next (nth now.calls c) ≡ None → ⊥
  no_instance_there c i is_next legal =
      let a = allowed c (is_there (Some i) now.fields) is_next (nth now.calls c) legal in
      let none : is_there (Some i) now.fields ≡ false = no_instances i now.fields whole in
      cc (a.is_there)

  no_growth : (field : ℕ) (o : Option Field) → slice_get now.fields field ≡ o → growth_refused o ≡ None → ⊥
  no_growth field None is legal = cc
  no_growth field (Some (Whole state)) is legal = cc
  no_growth field (Some (Instances states)) is legal = part_whole now.fields field (Instances states) whole is

  pub doing : (step : Step) (next : Source) → Steps program calls now step next → Doing program calls now step next
  doing (Begin c) next st = begins c next st.legal st.does
  doing (Block c None) next st = goes_on c (Block c None) (is_next_block now None) (block_run now None) next st.legal resumes-block st.does
  doing (Block c (Some i)) next st = absurd (no_instance_there c i (is_next_block now (Some i)) st.legal)
  doing (Visit c i) next st = absurd (no_instance_there c i (is_next_visit i) st.legal)
  doing (Join c) next st = goes_on c (Join c) is_next_join (join_run now) next st.legal resumes-join st.does
  doing (Grow field) next st = absurd (no_growth field (slice_get now.fields field) refl st.legal)
