-- What is left by the accesses of a run: from each step on, what the rest of the run leaves is left by the whole of it.
use Rattle.std.proofs.Common.{◌≡◌, ℕ, zero, suc, List, Option, Some, None, refl, sym, ap, subst, ◌∙◌}
use Rattle.std.specs.List.{slice_get}
use Rattle.sdg_base.specs.declared.val.Val.{Val}
use Rattle.sdg_base.specs.declared.val.Outcome.{Outcome}
use Rattle.sdg_base.specs.declared.val.Outcome.TheVariants as outcome
use Rattle.state_classes.specs.declared.method.Method.{Method}
use Rattle.state_classes.specs.States.{State, class_of, called}
use Rattle.graph_safety.proofs.States.{call_keeps}
use Rattle.flat_code.specs.declared.graph.Instr.{Instr}
use Rattle.flat_code.specs.Machine.{Setting, Frame, Performed, Goes, Accesses, Ends, perform, pushed_result}
use Rattle.task_code.specs.Partway.{Leaving, left_by, left_by_access, state_after, Begun, IsLeftBy}
use Rattle.task_code.specs.Seen.{seen}
use Rattle.task_code.proofs.Fuel.{seen_goes, seen_accesses}

-- the same code from another frame on
abbrev pub from_frame : Setting → List Instr → Frame → Option Begun
from_frame s code f = Some (record { setting = s; code = code; frame = f })

-- before its first access a run leaves the state as it was
pub none_made : (b : Option Begun) (state : State) → IsLeftBy b state state
unfolding state_after
none_made None state = refl
none_made (Some b) state = (zero, refl)

pub left_along : (b b' : Option Begun) (old new : State) → b ≡ b' → IsLeftBy b' old new → IsLeftBy b old new
left_along b b' old new e left = subst (λ (c : Option Begun). IsLeftBy c old new) (sym e) left

one_more : (n : ℕ) (s : Setting) (code : List Instr) (f : Frame) (state : State) → state_after (suc n) s code f state ≡ left_by (state_after n s code) state (perform s (slice_get code f.at) f)
unfolding state_after
one_more n s code f state = refl

-- what is left by the rest of a run is left by the run
pub Rests : Setting → List Instr → Frame → State → Frame → State → Type 0
Rests s code f state f' state' = (new : State) → IsLeftBy (from_frame s code f') state' new → IsLeftBy (from_frame s code f) state new

pub rests_whole : (s : Setting) (code : List Instr) (f : Frame) (state : State) → Rests s code f state f state
unfolding Rests
rests_whole s code f state new left = left

pub rests_now : (s : Setting) (code : List Instr) (f f' : Frame) (state state' new : State) → Rests s code f state f' state' → new ≡ state' → IsLeftBy (from_frame s code f) state new
unfolding Rests
rests_now s code f f' state state' new rests e = rests new (subst (λ (x : State). IsLeftBy (from_frame s code f') state' x) (sym e) (none_made (from_frame s code f') state'))

later : (s : Setting) (code : List Instr) (f f' f'' : Frame) (state state' state'' : State) → ((n : ℕ) → state_after (suc n) s code f' state' ≡ state_after n s code f'' state'') → Rests s code f state f' state' → Rests s code f state f'' state''
unfolding Rests
later s code f f' f'' state state' state'' next rests new left = rests new (suc left.0, left.1 ∙ sym (next left.0))

pub rests_on : (s : Setting) (code : List Instr) (f f' f'' : Frame) (state state' : State) → seen (perform s (slice_get code f'.at) f') ≡ Some (Goes f'') → Rests s code f state f' state' → Rests s code f state f'' state'
rests_on s code f f' f'' state state' e rests =
    later s code f f' f'' state state' state' (λ n. one_more n s code f' state' ∙ ap (left_by (state_after n s code) state') (seen_goes (perform s (slice_get code f'.at) f') f'' e)) rests

accessed : (n : ℕ) (s : Setting) (code : List Instr) (f f' : Frame) (state : State) (m : Method) (args : List Val) (answer : Outcome × State) → seen (perform s (slice_get code f.at) f) ≡ Some (Accesses m args f') → called m args state ≡ answer → state_after (suc n) s code f state ≡ left_by_access (state_after n s code) f' answer
accessed n s code f f' state m args answer e is =
    one_more n s code f state ∙ ap (left_by (state_after n s code) state) (seen_accesses (perform s (slice_get code f.at) f) m args f' e)
    ∙ ap (left_by_access (state_after n s code) f') is

-- an access that gave a value is behind
pub rests_accessed : (s : Setting) (code : List Instr) (f f' f'' : Frame) (state state' state'' : State) (m : Method) (args : List Val) (v : Val) → seen (perform s (slice_get code f'.at) f') ≡ Some (Accesses m args f'') → called m args state' ≡ (outcome.Value v, state'') → Rests s code f state f' state' → Rests s code f state (record { at = f''.at; stack = pushed_result v f''.stack; variables = f''.variables; turns = f''.turns }) state''
rests_accessed s code f f' f'' state state' state'' m args v e is rests =
    later s code f f' (record { at = f''.at; stack = pushed_result v f''.stack; variables = f''.variables; turns = f''.turns }) state state' state''
    (λ n. accessed n s code f' f'' state' m args (outcome.Value v, state'') e is) rests

left_behind : (s : Setting) (code : List Instr) (f : Frame) (how : Outcome) (state : State) → left_by_access (state_after zero s code) f (how, state) ≡ state
unfolding state_after
left_behind s code f (outcome.Value v) state = refl
left_behind s code f (outcome.Throws e) state = refl
left_behind s code f outcome.Limit state = refl

-- whatever it answers, an access leaves what the run leaves after it
pub access_left : (s : Setting) (code : List Instr) (f f' f'' : Frame) (state state' state'' : State) (m : Method) (args : List Val) (how : Outcome) → seen (perform s (slice_get code f'.at) f') ≡ Some (Accesses m args f'') → called m args state' ≡ (how, state'') → Rests s code f state f' state' → IsLeftBy (from_frame s code f) state state''
unfolding Rests
access_left s code f f' f'' state state' state'' m args how e is rests =
    rests state'' (1, sym (accessed zero s code f' f'' state' m args (how, state'') e is ∙ left_behind s code f'' how state''))

-- ---- classes

KeepsClass : Leaving → Type 0
KeepsClass next = (f : Frame) (state : State) → class_of (next f state) ≡ class_of state

access_keeps : (next : Leaving) (f : Frame) (answer : Outcome × State) → KeepsClass next → class_of (left_by_access next f answer) ≡ class_of answer.1
unfolding KeepsClass
access_keeps next f (outcome.Value v, state) keeps = keeps (record { at = f.at; stack = pushed_result v f.stack; variables = f.variables; turns = f.turns }) state
access_keeps next f (outcome.Throws e, state) keeps = refl
access_keeps next f (outcome.Limit, state) keeps = refl

step_keeps : (next : Leaving) (state : State) (p : Option Performed) → KeepsClass next → class_of (left_by next state p) ≡ class_of state
unfolding KeepsClass
step_keeps next state None keeps = refl
step_keeps next state (Some (Goes f)) keeps = keeps f state
step_keeps next state (Some (Accesses m args f)) keeps = access_keeps next f (called m args state) keeps ∙ call_keeps m args state
step_keeps next state (Some (Ends ending f)) keeps = refl

steps_keep : (n : ℕ) (s : Setting) (code : List Instr) → KeepsClass (state_after n s code)
unfolding KeepsClass state_after
steps_keep zero s code f state = refl
steps_keep (suc n) s code f state = step_keeps (state_after n s code) state (perform s (slice_get code f.at) f) (steps_keep n s code)

-- the accesses of a run leave a state of the same class
pub class_kept : (b : Option Begun) (old new : State) → IsLeftBy b old new → class_of new ≡ class_of old
unfolding KeepsClass
class_kept None old new left = ap class_of left
class_kept (Some b) old new left = ap class_of left.1 ∙ steps_keep left.0 b.setting b.code b.frame old
