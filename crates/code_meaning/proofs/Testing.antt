-- The test of a loop, move by move: it leads into a pass, or behind the loop. And a loop that is opened leads to its test.
use Rattle.std.proofs.Common.{◌≡◌, ◌≤◌, ◌+◌, refl, ap, subst, ℕ, suc, arith, Bool, true, false, not, List, [], ◌∷◌, Option, Some, None}
use Rattle.sdg_base.specs.declared.val.Val.{Val}
use Rattle.sdg_base.specs.declared.val.Val.TheVariants as val
use Rattle.sdg_base.specs.declared.value_type.ValueType.TheVariants as type
use Rattle.state_classes.specs.States.{State}
use Rattle.flat_code.specs.declared.graph.Instr.TheVariants as instr
use Rattle.access_blocks.specs.declared.body.Expression.{Expression}
use Rattle.access_blocks.specs.declared.body.Statement.{Statement}
use Rattle.access_blocks.specs.Expressions.{Gives as GivesValue, is_true, value_of}
use Rattle.access_blocks.specs.Statements.{Machine, seen_by}
use Rattle.access_blocks.specs.Source as source
use Rattle.access_blocks.specs.Source.{Test, pass, move_test}
use Rattle.body_code.specs.Completing.{goes_on, leaving_of}
use Rattle.body_code.specs.ExpressionCode.{code_of}
use Rattle.body_code.specs.Checking.{Standing}
use Rattle.code_meaning.specs.Laid.{frame, Leads}
use Rattle.code_meaning.specs.Running.{Below, Ground, IsGround, Agrees}
use Rattle.code_meaning.specs.Frames.{Level, LoopStands, inner_exits, loop_piece, AreLaid}
use Rattle.code_meaning.specs.Stepping.{coded}
use Rattle.code_meaning.proofs.Running.{laid_two, one_step, stays, leads_on, leads_to}
use Rattle.code_meaning.proofs.Sizes.{code_sized}
use Rattle.code_meaning.proofs.Agreeing.{agrees_below, agrees_fewer}
use Rattle.code_meaning.proofs.Simple.{evaluates_taken}
use Rattle.code_meaning.proofs.Reaching.{reaches_by}
use Rattle.code_meaning.proofs.Laying.{either_first}
use Rattle.code_meaning.proofs.Moving.{Gives}
use Rattle.code_meaning.proofs.Opening.{tested_gives}
use Rattle.code_meaning.proofs.Rounds.{stops_going, laid_test, holding}

module _ {g : Ground} (ground : IsGround g) (whole : ℕ) where
  module _ (update : List Statement) (body : Statement) (frames : List source.Frame) (level : Level) where
    abbrev pub Rest : Level → Bool → ℕ → Standing → ℕ → Type 0
    Rest level may at st left = AreLaid (coded g whole) frames level may at st left

    -- Behind the loop the code is where the test is false.
    failing : (test : Option Expression) (z : LoopStands (coded g whole) test update body level Rest) {n left : ℕ} {variables : List Val} {state : State} {m : Machine} {st : Standing} → goes_on test ≡ false → n ≤ whole → n + z.later ≤ left → left ≤ whole
        → Below st z.need → Agrees g st variables state m → (turns : ℕ) → turns ≤ m.turns
        → Leads g.setting g.code n (frame z.place.at [] variables m.turns) state (frame (inner_exits (coded g whole) test update body z.place.at).break_to [] variables turns) state
        → Gives g whole left (frame z.place.at [] variables m.turns) state (pass false test update body frames turns m)
    failing test z {n} {left} {variables} {state} {m} over within fits room below h turns less lead = record {
      gives = record {
        level = z.outer;
        at = z.place.at + (loop_piece (coded g whole) test update body).size;
        standing = z.next;
        later = z.later;
        variables = variables;
        next = state;
        laid = subst (λ b. Rest z.outer b (z.place.at + (loop_piece (coded g whole) test update body).size) z.next z.later) (either_first (not (goes_on test)) (leaving_of body).breaks (ap not over)) z.rest;
        within = omega arith;
        reaches = reaches_by g.setting g.code whole within fits lead;
        agrees = agrees_fewer turns less (agrees_below z.next_below (agrees_below below h));
      };
    }

    none_tested : (z : LoopStands (coded g whole) None update body level Rest) {left : ℕ} {variables : List Val} {state : State} {m : Machine} {st : Standing} → 0 + 1 + z.later ≤ left → left ≤ whole → Below st z.need → Agrees g st variables state m
        → Gives g whole left (frame z.place.at [] variables m.turns) state (pass true None update body frames m.turns m)
    none_tested z {m = m} fits room below h =
        let e : z.place.at ≡ z.place.at + 0 = omega arith in
        holding ground whole None update body frames level z fits room below h m.turns (omega arith) (leads_to g.setting g.code e (stays g.setting g.code))

    some_tested : (x : Expression) (z : LoopStands (coded g whole) (Some x) update body level Rest) {left : ℕ} {variables : List Val} {state : State} {m : Machine} {st : Standing} → (code_of g.around.context x).size + 1 + 1 + z.later ≤ left → left ≤ whole
        → Below st z.need → Agrees g st variables state m → Gives g whole left (frame z.place.at [] variables m.turns) state (move_test g.calls (Some x) update body frames m)
    some_tested x z {left} {variables} {state} {m} {st} fits room below h =
        let c = code_of g.around.context x in
        let p = z.place in
        let to = (inner_exits (coded g whole) (Some x) update body p.at).break_to in
        let parts = laid_two g.code p.at c.size (c.from p.at) (instr.IfFalse to ∷ []) (code_sized g.around.context x p.at) (laid_test ground whole (Some x) update body frames level z).0 in
        let e : suc (p.at + c.size) ≡ p.at + (c.size + 1) = omega arith in
        let each : (b : Bool) (turns : ℕ) → value_of g.calls x (seen_by m) m.turns ≡ GivesValue (val.Bool b) turns → turns ≤ m.turns → Leads g.setting g.code c.size (frame p.at [] variables m.turns) state (frame (p.at + c.size) (val.Bool b ∷ []) variables turns) state
        → Gives g whole left (frame p.at [] variables m.turns) state (pass b (Some x) update body frames turns m) =
        λ b. elim b as (λ b. (turns : ℕ) → value_of g.calls x (seen_by m) m.turns ≡ GivesValue (val.Bool b) turns → turns ≤ m.turns → Leads g.setting g.code c.size (frame p.at [] variables m.turns) state (frame (p.at + c.size) (val.Bool b ∷ []) variables turns) state
        → Gives g whole left (frame p.at [] variables m.turns) state (pass b (Some x) update body frames turns m)) [
          | false ↦ λ turns is less lead. failing (Some x) z {n = c.size + 1} (stops_going g.calls x (seen_by m) m.turns turns is) (omega arith) (omega arith) room below h turns less
              (leads_on g.setting g.code lead (one_step g.setting g.code (instr.IfFalse to) parts.1.0 refl (omega arith)))
          | true ↦ λ turns is less lead. holding ground whole (Some x) update body frames level z fits room below h turns less
              (leads_on g.setting g.code lead (leads_to g.setting g.code e (one_step g.setting g.code (instr.IfFalse to) parts.1.0 refl (omega arith))))
        ] in
        tested_gives ground whole (value_of g.calls x (seen_by m) m.turns) (λ holds turns. pass (is_true holds) (Some x) update body frames turns m) refl (omega arith) room h.fields
        (evaluates_taken ground (agrees_below below h) x type.Boolean p.at [] z.condition parts.0) each

  pub test_gives : (test : Option Expression) (update : List Statement) (body : Statement) (frames : List source.Frame) {level : Level} {at left : ℕ} {st : Standing} → AreLaid (coded g whole) (Test test update body ∷ frames) level true at st left
      → left ≤ whole → {variables : List Val} {state : State} {m : Machine} → Agrees g st variables state m → Gives g whole left (frame at [] variables m.turns) state (move_test g.calls test update body frames m)
  test_gives None update body frames {level} {at} {left} {st} h room {variables} {state} {m} agrees =
      subst (λ a. Gives g whole left (frame a [] variables m.turns) state (move_test g.calls None update body frames m)) (h.is_at refl)
      (none_tested update body frames h.inner h.stands h.few room (h.below refl) agrees)
  test_gives (Some x) update body frames {level} {at} {left} {st} h room {variables} {state} {m} agrees =
      subst (λ a. Gives g whole left (frame a [] variables m.turns) state (move_test g.calls (Some x) update body frames m)) (h.is_at refl)
      (some_tested update body frames h.inner x h.stands h.few room (h.below refl) agrees)
