-- Runs of code in so many steps: more steps change nothing, and each instruction leaves fewer.
use Rattle.std.proofs.Common.{◌≡◌, ℕ, zero, suc, ◌<◌, Bool, true, false, List, Option, Some, None, IsSome, refl, sym, ap, subst, ◌∙◌, arith}
use Rattle.std.proofs.lemmas.Bool.{false≢true}
use Rattle.std.specs.List.{slice_get}
use Rattle.sdg_base.specs.declared.val.Val.{Val}
use Rattle.sdg_base.specs.declared.val.Outcome.{Outcome}
use Rattle.sdg_base.specs.declared.val.Outcome.TheVariants as outcome
use Rattle.state_classes.specs.declared.method.Method.{Method}
use Rattle.state_classes.specs.States.{State, called}
use Rattle.flat_code.specs.declared.graph.Instr.{Instr}
use Rattle.flat_code.specs.Machine.{Setting, Frame, Ran, Running, Ending, Stopped, Performed, Goes, Accesses, Ends, perform, run_within, after, after_access, pushed_result}
use Rattle.task_code.specs.Seen.{seen, seen_frame, seen_ran}

-- ---- the least number of steps

abbrev pub has_ran : Option Ran → Bool
has_ran None = false
has_ran (Some r) = true

some_has_ran : (o : Option Ran) → IsSome o → has_ran o ≡ true
some_has_ran None some = absurd (false≢true some)
some_has_ran (Some r) some = refl

abbrev if_so : Bool → ℕ → ℕ → ℕ
if_so true m n = m
if_so false m n = n

-- the least number up to a number with an answer, where all above a number with an answer have one
pub least : (ℕ → Bool) → ℕ → ℕ
least p zero = zero
least p (suc n) = if_so (p n) (least p n) (suc n)

suc-if_so : (b : Bool) (m n : ℕ) → if_so b (suc m) (suc n) ≡ suc (if_so b m n)
suc-if_so true m n = refl
suc-if_so false m n = refl

least-later : (p q : ℕ → Bool) (n : ℕ) → ((k : ℕ) → p (suc k) ≡ q k) → p zero ≡ false → least p (suc n) ≡ suc (least q n)
unfolding least
least-later p q zero later first = ap (λ (b : Bool). if_so b zero (suc zero)) first
least-later p q (suc n) later first =
    ap (λ (b : Bool). if_so b (least p (suc n)) (suc (suc n))) (later n)
    ∙ ap (λ (m : ℕ). if_so (q n) m (suc (suc n))) (least-later p q n later first)
    ∙ suc-if_so (q n) (least q n) (suc n)

least-found : (p : ℕ → Bool) (n : ℕ) → p n ≡ true → least p (suc n) ≡ least p n
unfolding least
least-found p n found = ap (λ (b : Bool). if_so b (least p n) (suc n)) found

least-falls : (p q : ℕ → Bool) (n : ℕ) → ((k : ℕ) → p (suc k) ≡ q k) → p zero ≡ false → p n ≡ true → least q n < least p n
least-falls p q zero later first found = absurd (false≢true (sym first ∙ found))
least-falls p q (suc n) later first found =
    omega (arith, least-later p q n later first, least-found q n (sym (later n) ∙ found))

-- ---- more steps

none_within : (s : Setting) (code : List Instr) (f : Frame) (state : State) → run_within zero s code f state ≡ None
unfolding run_within
none_within s code f state = refl

one_more : (n : ℕ) (s : Setting) (code : List Instr) (f : Frame) (state : State) → run_within (suc n) s code f state ≡ after (run_within n s code) state (perform s (slice_get code f.at) f)
unfolding run_within
one_more n s code f state = refl

Agree : Running → Running → Type 0
Agree next next' = (f : Frame) (state : State) → IsSome (next f state) → next' f state ≡ next f state

same_after_access : (next next' : Running) (f : Frame) (answer : Outcome × State) → Agree next next' → IsSome (after_access next f answer) → after_access next' f answer ≡ after_access next f answer
unfolding Agree
same_after_access next next' f (outcome.Value v, state) agree some = agree (record { at = f.at; stack = pushed_result v f.stack; variables = f.variables; turns = f.turns }) state some
same_after_access next next' f (outcome.Throws e, state) agree some = refl
same_after_access next next' f (outcome.Limit, state) agree some = refl

same_after : (next next' : Running) (state : State) (p : Option Performed) → Agree next next' → IsSome (after next state p) → after next' state p ≡ after next state p
unfolding Agree
same_after next next' state None agree some = absurd (false≢true some)
same_after next next' state (Some (Goes f)) agree some = agree f state some
same_after next next' state (Some (Accesses m args f)) agree some = same_after_access next next' f (called m args state) agree some
same_after next next' state (Some (Ends e f)) agree some = refl

agree_more : (n : ℕ) (s : Setting) (code : List Instr) → Agree (run_within n s code) (run_within (suc n) s code)
unfolding Agree
agree_more zero s code f state some = absurd (false≢true (subst (λ (o : Option Ran). IsSome o) (none_within s code f state) some))
agree_more (suc n) s code f state some =
    one_more (suc n) s code f state
    ∙ same_after (run_within n s code) (run_within (suc n) s code) state (perform s (slice_get code f.at) f) (agree_more n s code)
    (subst (λ (o : Option Ran). IsSome o) (one_more n s code f state) some)
    ∙ sym (one_more n s code f state)

-- ---- a step of a run

-- how many steps are left of so many
pub left : ℕ → Setting → List Instr → Frame → State → ℕ
left n s code f state = least (λ k. has_ran (run_within k s code f state)) n

-- a run goes on from a frame and a state as from others, with fewer steps left
pub record GoesOn (n : ℕ) (s : Setting) (code : List Instr) (f : Frame) (state : State) (f' : Frame) (state' : State) : Type 0 where
  pub same : run_within n s code f' state' ≡ run_within n s code f state
  pub fewer : left n s code f' state' < left n s code f state

same_run : (n : ℕ) (s : Setting) (code : List Instr) (f f' : Frame) (state state' : State) → ((k : ℕ) → run_within (suc k) s code f state ≡ run_within k s code f' state') → IsSome (run_within n s code f state) → run_within n s code f' state' ≡ run_within n s code f state
unfolding Agree
same_run zero s code f f' state state' next some = absurd (false≢true (subst (λ (o : Option Ran). IsSome o) (none_within s code f state) some))
same_run (suc n) s code f f' state state' next some =
    agree_more n s code f' state' (subst (λ (o : Option Ran). IsSome o) (next n) some) ∙ sym (next n)

on_from : (n : ℕ) (s : Setting) (code : List Instr) (f f' : Frame) (state state' : State) → ((k : ℕ) → run_within (suc k) s code f state ≡ run_within k s code f' state') → IsSome (run_within n s code f state) → GoesOn n s code f state f' state'
unfolding left
on_from n s code f f' state state' next some = record {
  same = same_run n s code f f' state state' next some;
  fewer = least-falls (λ k. has_ran (run_within k s code f state)) (λ k. has_ran (run_within k s code f' state')) n (λ k. ap has_ran (next k)) (ap has_ran (none_within s code f state)) (some_has_ran (run_within n s code f state) some);
}

pub seen_goes : (p : Option Performed) (f : Frame) → seen p ≡ Some (Goes f) → p ≡ Some (Goes f)
seen_goes None f e = cc
seen_goes (Some (Goes g)) f e = e
seen_goes (Some (Accesses m args g)) f e = cc
seen_goes (Some (Ends ending g)) f e = cc

pub seen_accesses : (p : Option Performed) (m : Method) (args : List Val) (f : Frame) → seen p ≡ Some (Accesses m args f) → p ≡ Some (Accesses m args f)
seen_accesses None m args f e = cc
seen_accesses (Some (Goes g)) m args f e = cc
seen_accesses (Some (Accesses n others g)) m args f e = e
seen_accesses (Some (Ends ending g)) m args f e = cc

pub goes_on : (n : ℕ) (s : Setting) (code : List Instr) (f f' : Frame) (state : State) → seen (perform s (slice_get code f.at) f) ≡ Some (Goes f') → IsSome (run_within n s code f state) → GoesOn n s code f state f' state
goes_on n s code f f' state e some =
    on_from n s code f f' state state (λ k. one_more k s code f state ∙ ap (after (run_within k s code) state) (seen_goes (perform s (slice_get code f.at) f) f' e)) some

pub access_goes_on : (n : ℕ) (s : Setting) (code : List Instr) (f f' : Frame) (state state' : State) (m : Method) (args : List Val) (v : Val) → seen (perform s (slice_get code f.at) f) ≡ Some (Accesses m args f') → called m args state ≡ (outcome.Value v, state') → IsSome (run_within n s code f state) → GoesOn n s code f state (record { at = f'.at; stack = pushed_result v f'.stack; variables = f'.variables; turns = f'.turns }) state'
access_goes_on n s code f f' state state' m args v e answer some =
    on_from n s code f (record { at = f'.at; stack = pushed_result v f'.stack; variables = f'.variables; turns = f'.turns }) state state'
    (λ k. one_more k s code f state ∙ ap (after (run_within k s code) state) (seen_accesses (perform s (slice_get code f.at) f) m args f' e)
    ∙ ap (after_access (run_within k s code) f') answer)
    some

-- ---- ends

seen_end : (next : Running) (state : State) (p : Option Performed) (ending : Ending) (f : Frame) → seen p ≡ Some (Ends ending f) → seen_ran (after next state p) ≡ Some (record { ending = ending; frame = f; state = state })
seen_end next state None ending f e = cc
seen_end next state (Some (Goes g)) ending f e = cc
seen_end next state (Some (Accesses m args g)) ending f e = cc
seen_end next state (Some (Ends how g)) ending f e =
    let same : how ≡ ending = cc in
    let frames : seen_frame how g ≡ f = cc in
    ap (λ (x : Ending). Some (record { ending = x; frame = seen_frame how g; state = state })) same
    ∙ ap (λ (x : Frame). Some (record { ending = ending; frame = x; state = state })) frames

pub ended : (n : ℕ) (s : Setting) (code : List Instr) (f f' : Frame) (state : State) (ending : Ending) → seen (perform s (slice_get code f.at) f) ≡ Some (Ends ending f') → IsSome (run_within n s code f state) → seen_ran (run_within n s code f state) ≡ Some (record { ending = ending; frame = f'; state = state })
ended zero s code f f' state ending e some = absurd (false≢true (subst (λ (o : Option Ran). IsSome o) (none_within s code f state) some))
ended (suc n) s code f f' state ending e some =
    ap seen_ran (one_more n s code f state) ∙ seen_end (run_within n s code) state (perform s (slice_get code f.at) f) ending f' e

-- an access that gave no value ends the run
pub access_ended : (n : ℕ) (s : Setting) (code : List Instr) (f f' : Frame) (state state' : State) (m : Method) (args : List Val) (how : Outcome) → seen (perform s (slice_get code f.at) f) ≡ Some (Accesses m args f') → called m args state ≡ (how, state') → ((next : Running) → after_access next f' (how, state') ≡ Some (record { ending = Stopped how; frame = f'; state = state' })) → IsSome (run_within n s code f state) → seen_ran (run_within n s code f state) ≡ Some (record { ending = Stopped how; frame = seen_frame (Stopped how) f'; state = state' })
access_ended zero s code f f' state state' m args how e answer stops some = absurd (false≢true (subst (λ (o : Option Ran). IsSome o) (none_within s code f state) some))
access_ended (suc n) s code f f' state state' m args how e answer stops some =
    ap seen_ran (one_more n s code f state
    ∙ ap (after (run_within n s code) state) (seen_accesses (perform s (slice_get code f.at) f) m args f' e)
    ∙ ap (after_access (run_within n s code) f') answer
    ∙ stops (run_within n s code))

-- ---- what a run may do

some_performed : (next : Running) (state : State) (p : Option Performed) → IsSome (after next state p) → IsSome p
some_performed next state None some = absurd (false≢true some)
some_performed next state (Some p) some = refl

pub performs : (n : ℕ) (s : Setting) (code : List Instr) (f : Frame) (state : State) → IsSome (run_within n s code f state) → IsSome (perform s (slice_get code f.at) f)
performs zero s code f state some = absurd (false≢true (subst (λ (o : Option Ran). IsSome o) (none_within s code f state) some))
performs (suc n) s code f state some = some_performed (run_within n s code) state (perform s (slice_get code f.at) f) (subst (λ (o : Option Ran). IsSome o) (one_more n s code f state) some)
