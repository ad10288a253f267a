-- What a move of the source gives, the code does: it goes on to where what is left to run is laid, or it rests where the source rests.
use Rattle.std.proofs.Common.{◌≡◌, ◌≤◌, ◌+◌, ◌*◌, refl, ap, subst, ℕ, arith, Bool, true, List, [], Option, Some, is_some, slice_get}
use Rattle.sdg_base.specs.declared.val.Val.{Val}
use Rattle.sdg_base.specs.declared.val.Outcome.{Outcome}
use Rattle.sdg_base.specs.declared.value_type.ValueType.{ValueType}
use Rattle.state_classes.specs.States.{State}
use Rattle.flat_code.specs.Machine.{Frame, Stopped}
use Rattle.access_blocks.specs.declared.body.Statement.{Statement}
use Rattle.access_blocks.specs.declared.halt.Halt.{Halt}
use Rattle.access_blocks.specs.declared.halt.Halt.TheVariants.{Threw, OutOfTurns, TooLong}
use Rattle.access_blocks.specs.Expressions.{outcome_of}
use Rattle.access_blocks.specs.Statements.{Field, Machine, Completion, Normal, Breaks, Continues, Returns, Halts, completed, part_of, meaning}
use Rattle.access_blocks.specs.Source as source
use Rattle.access_blocks.specs.Source.{CallState, Fresh, At, Visiting, Ended, Move, Moves, Rests, completing}
use Rattle.body_code.specs.Completing.{Leaving, leaving_of}
use Rattle.body_code.specs.StatementCode.{piece_of}
use Rattle.body_code.specs.Checking.{Standing, checked}
use Rattle.code_meaning.specs.Laid.{frame, Stops}
use Rattle.code_meaning.specs.Foreseen.{IsForeseen, HasPart}
use Rattle.code_meaning.specs.Running.{Ground, IsGround, scope_on, FieldsAgree, Agrees, Completes, is_plain}
use Rattle.code_meaning.specs.Frames.{Level, AreLaid}
use Rattle.code_meaning.specs.Resting.{EndsIn, ending_of, IsOfResult, FieldsAreLeft, RestsAt}
use Rattle.code_meaning.specs.Stepping.{coded}
use Rattle.code_meaning.proofs.Agreeing.{agrees_below}
use Rattle.code_meaning.proofs.Sites.{part_is}
use Rattle.code_meaning.proofs.Plain.{statement_right}
use Rattle.code_meaning.proofs.Foreseen.{statement_foreseen}
use Rattle.code_meaning.proofs.Reaching.{Reaches, reaches_by, reaches_on, ends_by, ends_reached}
use Rattle.code_meaning.proofs.Laying.{Head, break_laid, continue_laid}

-- The code has come to where these frames are laid, and agrees with this machine.
pub record GoesOn (g : Ground) (whole left : ℕ) (f : Frame) (state : State) (frames : List source.Frame) (m : Machine) : Type 0 where
  pub level : Level
  pub at : ℕ
  pub standing : Standing
  pub later : ℕ
  pub variables : List Val
  pub next : State
  pub laid : AreLaid (coded g whole) frames level true at standing later
  pub within : later ≤ whole
  pub reaches : Reaches g.setting g.code whole left later f state (frame at [] variables m.turns) next
  pub agrees : Agrees g standing variables next m

abbrev pub MoveGives : Ground → ℕ → ℕ → Frame → State → Move → Type 0
MoveGives g whole left f state (Moves frames m) = GoesOn g whole left f state frames m
MoveGives g whole left f state (Rests call fields) = RestsAt (coded g whole) g f.turns (EndsIn g.setting g.code (left + whole * f.turns) f state) call fields

pub record Gives (g : Ground) (whole left : ℕ) (f : Frame) (state : State) (move : Move) : Type 0 where
  pub gives : MoveGives g whole left f state move

-- ---- how a call ends

halts_end : (h : Halt) → Stopped (outcome_of h) ≡ ending_of (outcome_of h)
halts_end (Threw e) = refl
halts_end OutOfTurns = refl
halts_end TooLong = refl

halts_type : (t : ValueType) (h : Halt) → IsOfResult t (outcome_of h)
halts_type t (Threw e) = tt
halts_type t OutOfTurns = tt
halts_type t TooLong = tt

pub fields_left : {g : Ground} {state : State} {m : Machine} → FieldsAgree g state m → FieldsAreLeft g state m.fields
fields_left h = record { same_fields = h.same_fields; of_class = h.of_class }

-- the part that the code works on is there
there : (o : Option State) (state : State) → o ≡ Some state → is_some o ≡ true
there o state is = ap is_some is

pub part_there : {g : Ground} → IsGround g → {st : Standing} {variables : List Val} {state : State} {m : Machine} → Agrees g st variables state m → HasPart g.site m
part_there {g} ground {state = state} {m = m} h = record { is_there = λ field on. there (part_of (slice_get m.fields field) m.instance) state (part_is field on (ground.site_agrees field on) h.fields) }

module _ (g : Ground) (whole : ℕ) where
  -- ---- a run before

  pub rests_on : {left later : ℕ} {f h : Frame} {a b : State} → Reaches g.setting g.code whole left later f a h b → (call : CallState) (fields : List Field)
      → RestsAt (coded g whole) g h.turns (EndsIn g.setting g.code (later + whole * h.turns) h b) call fields → RestsAt (coded g whole) g f.turns (EndsIn g.setting g.code (left + whole * f.turns) f a) call fields
  rests_on p Fresh fields r = r
  rests_on p (At field key block now) fields r = record {
    at = r.at;
    task = r.task;
    variables = r.variables;
    next = r.next;
    ends = ends_reached g.setting g.code whole p r.ends;
    stands = r.stands;
    falls = (let x = r.falls in let y = p.falls in omega arith);
    left = r.left;
  }
  rests_on p (Visiting field method args parts now) fields r = record {
    at = r.at;
    task = r.task;
    variables = r.variables;
    next = r.next;
    ends = ends_reached g.setting g.code whole p r.ends;
    stands = r.stands;
    none_made = r.none_made;
    falls = (let x = r.falls in let y = p.falls in omega arith);
    left = r.left;
  }
  rests_on p (Ended how) fields r = record { last = r.last; next = r.next; ends = ends_reached g.setting g.code whole p r.ends; of_result = r.of_result; left = r.left }

  move_on : {left later : ℕ} {f h : Frame} {a b : State} → Reaches g.setting g.code whole left later f a h b → (move : Move) → MoveGives g whole later h b move → MoveGives g whole left f a move
  move_on p (Moves frames m) r = record {
    level = r.level;
    at = r.at;
    standing = r.standing;
    later = r.later;
    variables = r.variables;
    next = r.next;
    laid = r.laid;
    within = r.within;
    reaches = reaches_on g.setting g.code whole p r.reaches;
    agrees = r.agrees;
  }
  move_on p (Rests call fields) r = rests_on p call fields r

  pub gives_on : {left later : ℕ} {f h : Frame} {a b : State} {move : Move} → Reaches g.setting g.code whole left later f a h b → Gives g whole later h b move → Gives g whole left f a move
  gives_on {move = move} p r = record { gives = move_on p move r.gives }

  -- ---- the end of a call

  pub stop_gives : {n left : ℕ} {f : Frame} {a b : State} (how : Outcome) (m : Machine) → Stopped how ≡ ending_of how → IsOfResult g.around.result how → Stops g.setting g.code n f a how b → n ≤ left → left ≤ whole → FieldsAgree g b m
      → Gives g whole left f a (source.ends how m)
  stop_gives {n} {left} {f} {a} {b} how m is of_result p fits room fields = record {
    gives = record {
      last = p.last;
      next = b;
      ends = subst (λ e. EndsIn g.setting g.code (left + whole * f.turns) f a e p.last b) is (ends_by g.setting g.code whole (omega arith) fits p.ends);
      of_result = of_result;
      left = fields_left fields;
    };
  }

  pub halt_gives : {n left : ℕ} {f : Frame} {a b : State} (h : Halt) (m : Machine) → Stops g.setting g.code n f a (outcome_of h) b → n ≤ left → left ≤ whole → FieldsAgree g b m → Gives g whole left f a (source.ends (outcome_of h) m)
  halt_gives h m p fits room fields = stop_gives (outcome_of h) m (halts_end h) (halts_type g.around.result h) p fits room fields

  -- ---- what a statement completes with

  pub completing_gives : {n left to : ℕ} {f : Frame} {a : State} {mid : Standing} (k : Completion) (m : Machine) (frames : List source.Frame) (level : Level) (leave : Leaving) (later : ℕ) → Completes g level.loop level.exits n f a to mid (completed k m)
      → IsForeseen leave k → n + later ≤ left → left ≤ whole → AreLaid (coded g whole) frames level leave.completes to mid later → (leave.breaks ≡ true → level.breaks ≡ true) → Gives g whole left f a (completing k m frames)
  completing_gives {to = to} {mid = mid} Normal m frames level leave later q foreseen fits room laid breaks = record {
    gives = record {
      level = level;
      at = to;
      standing = mid;
      later = later;
      variables = q.does.variables;
      next = q.does.next;
      laid = subst (λ b. AreLaid (coded g whole) frames level b to mid later) foreseen laid;
      within = omega arith;
      reaches = reaches_by g.setting g.code whole (omega arith) fits q.does.leads;
      agrees = q.does.agrees;
    };
  }
  completing_gives {to = to} {mid = mid} Breaks m frames level leave later q foreseen fits room laid breaks =
      let k = break_laid (coded g whole) frames level leave.completes to mid later q.does.need laid q.does.in_loop (breaks foreseen) in
      let l = k.few in
      record {
        gives = record {
          level = k.outer;
          at = level.exits.break_to;
          standing = k.next;
          later = k.later;
          variables = q.does.goes.variables;
          next = q.does.goes.next;
          laid = k.laid;
          within = omega arith;
          reaches = reaches_by g.setting g.code whole (omega arith) (omega arith) q.does.goes.leads;
          agrees = agrees_below k.below q.does.goes.agrees;
        };
      }
  completing_gives {to = to} {mid = mid} Continues m frames level leave later q foreseen fits room laid breaks =
      let k = continue_laid (coded g whole) frames level leave.completes to mid later q.does.need laid q.does.in_loop in
      let l = k.few in
      record {
        gives = record {
          level = level;
          at = level.exits.continue_to;
          standing = q.does.need;
          later = k.later;
          variables = q.does.goes.variables;
          next = q.does.goes.next;
          laid = k.laid;
          within = omega arith;
          reaches = reaches_by g.setting g.code whole (omega arith) (omega arith) q.does.goes.leads;
          agrees = q.does.goes.agrees;
        };
      }
  completing_gives (Returns v) m frames level leave later q foreseen fits room laid breaks = record {
    gives = record {
      last = q.does.last;
      next = q.does.next;
      ends = ends_by g.setting g.code whole (omega arith) (omega arith) q.does.ends;
      of_result = q.does.of_result;
      left = fields_left q.does.fields;
    };
  }
  completing_gives (Halts h) m frames level leave later q foreseen fits room laid breaks = halt_gives h m q.does.stops (omega arith) room q.does.fields

  -- ---- statements that are run whole

  pub plain_gives : IsGround g → (x : Statement) → is_plain x ≡ true → {frames : List source.Frame} {placed : Bool} {level : Level} {at : ℕ} {st : Standing} {left : ℕ}
      → Head (coded g whole) frames (piece_of (scope_on g) x) (checked g.around x) (leaving_of x) placed level at st left → left ≤ whole → {variables : List Val} {state : State} {m : Machine} → Agrees g st variables state m
      → Gives g whole left (frame at [] variables m.turns) state (source.after (meaning g.calls x m) frames)
  plain_gives ground x plain {frames} {placed} {level} {at} {st} {left} h room {variables} {state} {m} agrees =
      let c = meaning g.calls x m in
      let foreseen = (statement_foreseen g.site g.around g.calls x plain).1 level.loop st h.mid h.checked agrees.at_site m (part_there ground agrees) in
      subst (λ a. Gives g whole left (frame a [] variables m.turns) state (source.after (meaning g.calls x m) frames)) h.is_at
      (completing_gives c.completion c.machine frames level (leaving_of x) h.later (statement_right ground x plain level.loop st h.mid h.place level.exits h.checked h.laid variables state m agrees) foreseen.0 h.few room h.rest h.breaks)
