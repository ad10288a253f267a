-- What two frames do alike that differ in their variables alone: they go on, access the state or end in the same way.
use Rattle.std.proofs.Common.{◌≡◌, refl, sym, subst, ℕ, zero, suc, pos, negsuc, Bool, true, false, List, [], ◌∷◌, map, length, Option, Some, None, Result, Ok, Err, slice_get, nat_lt, if◌then◌else◌, replicate}
use Rattle.sdg_base.specs.declared.val.Exn.{Exn}
use Rattle.sdg_base.specs.declared.val.Exn.TheVariants as exn
use Rattle.sdg_base.specs.declared.val.Val.{Val}
use Rattle.sdg_base.specs.declared.val.Val.TheVariants as val
use Rattle.sdg_base.specs.declared.val.Outcome.TheVariants as outcome
use Rattle.sdg_base.specs.Signatures.{Signature}
use Rattle.sdg_base.specs.Types.{type_of}
use Rattle.state_classes.specs.declared.method.Method.{Method}
use Rattle.flat_code.specs.declared.graph.GraphMethod.{GraphMethod}
use Rattle.flat_code.specs.declared.graph.Instr.{Instr}
use Rattle.flat_code.specs.declared.graph.Instr.TheVariants as instr
use Rattle.flat_code.specs.Types.{same_types, signature_at}
use Rattle.flat_code.specs.Machine as machine
use Rattle.flat_code.specs.Machine.{Frame, Calls, Called, Gave, Failed, Ending, Stopped, CutTo, PartFor, Performed, Goes, Accesses, Ends, Setting}
use Rattle.flat_code.specs.Ways.{IsIn, next_of, writes}
use Rattle.live_runs.specs.Alike.{Agree}

abbrev pub frame : ℕ → List Val → List Val → ℕ → Frame
frame at stack variables turns = record { at = at; stack = stack; variables = variables; turns = turns }

-- ---- two frames after a step

-- at one place, with the same stack and turns, and no less agreed than before
pub record BothAt (here there : List Val) (f g : Frame) : Type 0 where
  pub at : g.at ≡ f.at
  pub stack : g.stack ≡ f.stack
  pub turns : g.turns ≡ f.turns
  pub as_many : length g.variables ≡ length f.variables
  pub kept : (v : ℕ) → Agree here there v → Agree f.variables g.variables v

pub record GoAlike (i : Instr) (at : ℕ) (here there : List Val) (f g : Frame) : Type 0 where
  pub both : BothAt here there f g
  pub next : IsIn f.at (next_of at i)
  pub written : (v : ℕ) → writes i ≡ Some v → Agree f.variables g.variables v

abbrev pub EndsBy : Instr → Ending → Type 0
EndsBy i (CutTo t) = i ≡ instr.Cut t
EndsBy i (PartFor t v) = i ≡ instr.Part t
EndsBy i _ = Unit {0}

pub record StopAlike (i : Instr) (at : ℕ) (here there : List Val) (ending other : Ending) (f g : Frame) : Type 0 where
  pub same : other ≡ ending
  pub both : BothAt here there f g
  pub stays : f.at ≡ at
  pub by : EndsBy i ending

abbrev pub DoAlike : Instr → ℕ → List Val → List Val → Option Performed → Option Performed → Type 0
DoAlike i at here there None None = Unit {0}
DoAlike i at here there (Some (Goes f)) (Some (Goes g)) = GoAlike i at here there f g
DoAlike i at here there (Some (Accesses m args f)) (Some (Accesses n others g)) = (n ≡ m) × (others ≡ args) × GoAlike i at here there f g
DoAlike i at here there (Some (Ends ending f)) (Some (Ends other g)) = StopAlike i at here there ending other f g
DoAlike i at here there _ _ = ⊥

-- ---- the same done at both

module _ (i : Instr) (at : ℕ) (here there : List Val) (many : length there ≡ length here) where
  -- something done at both frames, which stand here with this stack and these turns
  abbrev pub Same : (Frame → Option Performed) → List Val → ℕ → Type 0
  Same does stack turns = DoAlike i at here there (does (frame at stack here turns)) (does (frame at stack there turns))

  pub both : (to : ℕ) (stack : List Val) (turns : ℕ) → BothAt here there (frame to stack here turns) (frame to stack there turns)
  both to stack turns = record { at = refl; stack = refl; turns = refl; as_many = many; kept = λ v e. e }

  pub stops : (ending : Ending) (stack : List Val) (turns : ℕ) → EndsBy i ending → Same (λ f. Some (Ends ending f)) stack turns
  stops ending stack turns by = record { same = refl; both = both at stack turns; stays = refl; by = by }

  -- a variable on which the frames agree
  pub reading : (v : ℕ) (does : Option Val → Frame → Option Performed) (stack : List Val) (turns : ℕ) → Agree here there v → ((o : Option Val) → Same (does o) stack turns)
      → DoAlike i at here there (does (machine.a_value (slice_get here v)) (frame at stack here turns)) (does (machine.a_value (slice_get there v)) (frame at stack there turns))
  reading v does stack turns e same = subst
      (λ (o : Option Val). DoAlike i at here there (does (machine.a_value (slice_get here v)) (frame at stack here turns)) (does (machine.a_value o) (frame at stack there turns)))
      (sym e) (same (machine.a_value (slice_get here v)))

  -- an instruction that writes no variable without reading it
  module _ (plain : (v : ℕ) → writes i ≡ Some v → ⊥) where
    pub moves : (to : ℕ) (next : List Val) (turns : ℕ) → IsIn to (next_of at i) → GoAlike i at here there (frame to next here turns) (frame to next there turns)
    moves to next turns is_next = record { both = both to next turns; next = is_next; written = λ v e. absurd (plain v e) }

    pub jumps : (to : ℕ) (next stack : List Val) (turns : ℕ) → IsIn to (next_of at i) → Same (λ f. machine.jumped to next f) stack turns
    jumps to next stack turns is_next = moves to next turns is_next

    -- one that may go on behind
    module _ (on : IsIn (suc at) (next_of at i)) where
      pub goes : (next stack : List Val) (turns : ℕ) → Same (λ f. machine.goes next f) stack turns
      goes next stack turns = moves (suc at) next turns on

      pub pushed : (o : Option Val) (next stack : List Val) (turns : ℕ) → Same (λ f. machine.pushed o next f) stack turns
      pushed None next stack turns = tt
      pushed (Some v) next stack turns = goes (v ∷ next) stack turns

      pub turned : (left : ℕ) (stack : List Val) (turns : ℕ) → Same (λ f. machine.turned left f) stack turns
      turned zero stack turns = stops (Stopped outcome.Limit) stack turns tt
      turned (suc left) stack turns = moves (suc at) stack left on

      pub answered : (o : Option (Result Val Exn)) (next stack : List Val) (turns : ℕ) → Same (λ f. machine.answered o next f) stack turns
      answered None next stack turns = tt
      answered (Some (Ok v)) next stack turns = goes (v ∷ next) stack turns
      answered (Some (Err e)) next stack turns = stops (Stopped (outcome.Throws e)) stack turns tt

      pub found : (o : Option Val) (next stack : List Val) (turns : ℕ) → Same (λ f. machine.found o next f) stack turns
      found None next stack turns = stops (Stopped (outcome.Throws exn.Index)) stack turns tt
      found (Some v) next stack turns = goes (v ∷ next) stack turns

      pub element : (o : Option Val) (index : Val) (next stack : List Val) (turns : ℕ) → Same (λ f. machine.element o index next f) stack turns
      element (Some (val.Vector longs)) (val.Int n) next stack turns = found (machine.a_long (machine.long_at longs (machine.at_index n))) next stack turns
      element _ _ next stack turns = tt

      pub new_vector : (size : Val) (next stack : List Val) (turns : ℕ) → Same (λ f. machine.new_vector size next f) stack turns
      new_vector (val.Int (pos n)) next stack turns = by (nat_lt machine.most_elements n)
        where
          by : (b : Bool) → Same (λ f. if b then machine.ends_at_limit f else machine.goes (val.Vector (replicate n (pos 0)) ∷ next) f) stack turns
          by true = stops (Stopped outcome.Limit) stack turns tt
          by false = goes (val.Vector (replicate n (pos 0)) ∷ next) stack turns
      new_vector (val.Int (negsuc n)) next stack turns = stops (Stopped (outcome.Throws exn.NegativeSize)) stack turns tt
      new_vector _ next stack turns = tt

      -- ---- members of what was gathered

      pub member : (members : List Val) (index : Val) (next stack : List Val) (turns : ℕ) → Same (λ f. machine.member members index next f) stack turns
      member members (val.Int n) next stack turns = found (machine.item_at members (machine.at_index n)) next stack turns
      member members _ next stack turns = tt

      with_found : (o : Option Val) (does : Frame → Val → Option Performed) (stack : List Val) (turns : ℕ) → ((v : Val) → Same (λ f. does f v) stack turns) → Same (λ f. machine.with_found o (does f) f) stack turns
      with_found None does stack turns same = stops (Stopped (outcome.Throws exn.Index)) stack turns tt
      with_found (Some v) does stack turns same = same v

      pub with_member : (members : List Val) (index : Val) (does : Frame → Val → Option Performed) (stack : List Val) (turns : ℕ) → ((v : Val) → Same (λ f. does f v) stack turns)
          → Same (λ f. machine.with_member members index (does f) f) stack turns
      with_member members (val.Int n) does stack turns same = with_found (machine.item_at members (machine.at_index n)) does stack turns same
      with_member members _ does stack turns same = tt

      -- ---- calls

      pub after_call : (o : Option Called) (next stack : List Val) (turns : ℕ) → Same (λ f. machine.after_call o next f) stack turns
      after_call None next stack turns = tt
      after_call (Some (Gave v left)) next stack turns = moves (suc at) (machine.pushed_result v next) left on
      after_call (Some (Failed how left)) next stack turns = stops (Stopped how) stack left tt

      call_on : (calls : Calls) (k : ℕ) (o : Option (List Val × List Val)) (stack : List Val) (turns : ℕ) → Same (λ f. machine.call_on calls k o f) stack turns
      call_on calls k None stack turns = tt
      call_on calls k (Some taken) stack turns = after_call (calls k taken.0 [] turns) taken.1 stack turns

      pub call : (calls : Calls) (k : ℕ) (o : Option GraphMethod) (next stack : List Val) (turns : ℕ) → Same (λ f. machine.call calls k o next f) stack turns
      call calls k None next stack turns = tt
      call calls k (Some method) next stack turns = call_on calls k (machine.arguments method.params next) stack turns

      -- ---- state accesses

      access_with : (k : Method) (sig : Signature) (o : Option (List Val × List Val)) (stack : List Val) (turns : ℕ) → Same (λ f. machine.access_with k sig o f) stack turns
      access_with k sig None stack turns = tt
      access_with k sig (Some taken) stack turns = by (same_types (map type_of taken.0) sig.arguments)
        where
          by : (b : Bool) → Same (λ f. if b then Some (Accesses k taken.0 (frame (suc f.at) taken.1 f.variables f.turns)) else None) stack turns
          by true = (refl, refl, moves (suc at) taken.1 turns on)
          by false = tt

      access_by : (k : Method) (o : Option Signature) (next stack : List Val) (turns : ℕ) → Same (λ f. machine.access_by k o next f) stack turns
      access_by k None next stack turns = tt
      access_by k (Some sig) next stack turns = access_with k sig (machine.arguments (length sig.arguments) next) stack turns

      pub access : (s : Setting) (name : List ℕ) (k : Method) (next stack : List Val) (turns : ℕ) → Same (λ f. machine.access s name k next f) stack turns
      access s name k next stack turns = by (machine.is_own_field s.field name)
        where
          by : (b : Bool) → Same (λ f. if b then machine.access_by k (signature_at s.fields name k) next f else None) stack turns
          by true = access_by k (signature_at s.fields name k) next stack turns
          by false = tt
