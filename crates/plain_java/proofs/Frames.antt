-- What is left to run of a body, in big steps: the innermost frame first, and then those behind it.
use Rattle.std.proofs.Common.{◌≡◌, List, [], ◌∷◌, Some, None, refl}
use Rattle.sdg_base.specs.declared.val.Val.{Val}
use Rattle.sdg_base.specs.declared.val.Val.TheVariants as val
use Rattle.sdg_base.specs.declared.val.Outcome.{Outcome}
use Rattle.sdg_base.specs.declared.val.Outcome.TheVariants as outcome
use Rattle.access_blocks.specs.declared.halt.Halt.{Halt}
use Rattle.access_blocks.specs.Expressions.{Calls, outcome_of}
use Rattle.access_blocks.specs.Statements.{Field, Machine, Breaks, Continues, Returns, Halts, Completed, completed, normal, after, looped, after_body, meaning, meanings}
use Rattle.access_blocks.specs.Calls.{outcome_by}
use Rattle.access_blocks.specs.Source.{Frame, Then, Test, Again, left_loop, next_pass, CallState, Fresh, At, Visiting, Ended, machine_of}
use Rattle.plain_java.proofs.Keeping.{AllWhole}

-- how a call ended, and the fields that it left
pub record Ending : Type 0 where
  pub outcome : Outcome
  pub fields : List Field

abbrev pub ended_so : Outcome → List Field → Ending
ended_so o fields = record { outcome = o; fields = fields }

abbrev pub framed : Calls → Frame → Completed → Completed
framed calls (Then ss) c = after c (meanings calls ss)
framed calls (Test test update body) c = after_body c (looped calls test (meanings calls update) (meaning calls body))
framed calls (Again test update body) c = after_body c (λ m. after (meanings calls update m) (looped calls test (meanings calls update) (meaning calls body)))

-- what comes of a call where the innermost of its statements has completed
abbrev pub finish : Calls → List Frame → Completed → Ending
finish calls [] c = ended_so (outcome_by c.completion) c.machine.fields
finish calls (frame ∷ frames) c = finish calls frames (framed calls frame c)

module _ (calls : Calls) where
  pub halts_end : (frames : List Frame) (h : Halt) (m : Machine) → finish calls frames (completed (Halts h) m) ≡ ended_so (outcome_of h) m.fields
  halts_end [] h m = refl
  halts_end (Then ss ∷ frames) h m = halts_end frames h m
  halts_end (Test test update body ∷ frames) h m = halts_end frames h m
  halts_end (Again test update body ∷ frames) h m = halts_end frames h m

  pub returns_end : (frames : List Frame) (v : Val) (m : Machine) → finish calls frames (completed (Returns v) m) ≡ ended_so (outcome.Value v) m.fields
  returns_end [] v m = refl
  returns_end (Then ss ∷ frames) v m = returns_end frames v m
  returns_end (Test test update body ∷ frames) v m = returns_end frames v m
  returns_end (Again test update body ∷ frames) v m = returns_end frames v m

  pub breaks_leave : (frames : List Frame) (m : Machine) → finish calls frames (completed Breaks m) ≡ finish calls (left_loop frames) (normal m)
  breaks_leave [] m = refl
  breaks_leave (Then ss ∷ frames) m = breaks_leave frames m
  breaks_leave (Test test update body ∷ frames) m = refl
  breaks_leave (Again test update body ∷ frames) m = refl

  pub continues_go_on : (frames : List Frame) (m : Machine) → finish calls frames (completed Continues m) ≡ finish calls (next_pass frames) (normal m)
  continues_go_on [] m = refl
  continues_go_on (Then ss ∷ frames) m = continues_go_on frames m
  continues_go_on (Test test update body ∷ frames) m = refl
  continues_go_on (Again test update body ∷ frames) m = refl

-- What comes of a call in this state, with these fields, if nothing of other calls comes between; where a block has no key, no
-- instance is there to run it on.
abbrev pub StateGives : Calls → CallState → List Field → Ending → Type 0
StateGives calls Fresh fields r = ⊥
StateGives calls (At field None block at) fields r = Unit {0}
StateGives calls (At field (Some k) block at) fields r = finish calls (Then (block ∷ []) ∷ at.frames) (normal (machine_of at k [] fields 0)) ≡ r
StateGives calls (Visiting field method args parts at) fields r = (parts ≡ []) × (finish calls at.frames (normal (machine_of at val.Unit [] fields 0)) ≡ r)
StateGives calls (Ended o) fields r = ended_so o fields ≡ r

pub record Rested (calls : Calls) (state : CallState) (fields : List Field) (r : Ending) : Type 0 where
  pub whole : AllWhole fields
  pub gives : StateGives calls state fields r
