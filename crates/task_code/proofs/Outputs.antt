-- What is given at an end does not hang on what is not looked at.
use Rattle.std.proofs.Common.{◌≡◌, ℕ, [], Option, Some, None, IsSome, refl, sym, subst, ap, ◌∙◌}
use Rattle.std.proofs.lemmas.Bool.{false≢true}
use Rattle.std.specs.List.{slice_get}
use Rattle.sdg_base.specs.declared.val.Outcome.{Outcome}
use Rattle.state_classes.specs.States.{State}
use Rattle.flat_code.specs.declared.graph.Task.{Task}
use Rattle.flat_code.specs.Machine.{Frame, Ending, Returned, Stopped, CutTo, PartFor, Ran}
use Rattle.flat_code.specs.Items.{Sender, Visited, Gives, parted, part_for_join, stopped, sent, ended, after_run, join_number}
use Rattle.task_code.specs.Seen.{seen_frame, seen_ran}

parted_seen : (s : Sender) (v : Option Visited) (join : ℕ) (to : Option Task) (f : Frame) (how : Outcome) (state : State) → parted s v join to (record { at = 0; stack = []; variables = f.variables; turns = f.turns }) how state ≡ parted s v join to f how state
parted_seen s None join to f how state = refl
parted_seen s (Some v) join None f how state = refl
parted_seen s (Some v) join (Some to) f how state = refl

joined_seen : (s : Sender) (v : Option Visited) (join : Option ℕ) (f : Frame) (how : Outcome) (state : State) → part_for_join s v join (record { at = 0; stack = []; variables = f.variables; turns = f.turns }) how state ≡ part_for_join s v join f how state
joined_seen s v None f how state = refl
joined_seen s v (Some join) f how state = parted_seen s v join (slice_get s.graph.tasks join) f how state

stopped_seen : (s : Sender) (v : Option Visited) (f : Frame) (how : Outcome) (state : State) → stopped s v (record { at = 0; stack = []; variables = f.variables; turns = f.turns }) how state ≡ stopped s v f how state
stopped_seen s None f how state = refl
stopped_seen s (Some v) f how state = joined_seen s (Some v) (join_number s.graph v.task) f how state

sent_seen : (s : Sender) (t : ℕ) (to : Option Task) (f : Frame) (state : State) → sent s t to (record { at = 0; stack = f.stack; variables = f.variables; turns = f.turns }) state ≡ sent s t to f state
sent_seen s t None f state = refl
sent_seen s t (Some to) f state = refl

pub ended_seen : (s : Sender) (e : Ending) (f : Frame) (state : State) → ended s e (seen_frame e f) state ≡ ended s e f state
ended_seen s (Returned v) f state = refl
ended_seen s (Stopped how) f state = stopped_seen s s.visited f how state
ended_seen s (CutTo t) f state = sent_seen s t (slice_get s.graph.tasks t) f state
ended_seen s (PartFor join v) f state = parted_seen s s.visited join (slice_get s.graph.tasks join) f _ state

pub after_seen : (s : Sender) (o : Option Ran) → after_run s (seen_ran o) ≡ after_run s o
after_seen s None = refl
after_seen s (Some r) = ended_seen s r.ending r.frame r.state

-- a run after which something is given
pub has_run : (s : Sender) (o : Option Ran) → IsSome (after_run s o) → IsSome o
has_run s None some = absurd (false≢true some)
has_run s (Some r) some = refl

-- what a run gives that ended so
pub ran_gives : (s : Sender) (o : Option Ran) (e : Ending) (f : Frame) (state : State) → seen_ran o ≡ Some (record { ending = e; frame = seen_frame e f; state = state }) → after_run s o ≡ ended s e f state
ran_gives s o e f state is = sym (after_seen s o) ∙ ap (after_run s) is ∙ ended_seen s e f state

pub can_end : (s : Sender) (o : Option Ran) (e : Ending) (f : Frame) (state : State) → seen_ran o ≡ Some (record { ending = e; frame = seen_frame e f; state = state }) → IsSome (after_run s o) → IsSome (ended s e f state)
can_end s o e f state is some = subst (λ (g : Gives). IsSome g) (ran_gives s o e f state is) some
