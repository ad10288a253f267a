-- Loops, move by move: into a loop, to its test, into a pass and behind it.
use Rattle.std.proofs.Common.{◌≡◌, ◌≤◌, ◌+◌, ◌⊎◌, inl, inr, refl, sym, ap, subst, ◌∙◌, ℕ, zero, suc, arith, Bool, true, false, List, [], ◌∷◌, ◌++◌, map, length, Option, Some, None, length-append}
use Rattle.sdg_base.specs.declared.val.Val.{Val}
use Rattle.sdg_base.specs.declared.val.Val.TheVariants as val
use Rattle.sdg_base.specs.declared.val.Outcome.TheVariants as outcome
use Rattle.state_classes.specs.States.{State}
use Rattle.flat_code.specs.declared.graph.Instr.TheVariants as instr
use Rattle.flat_code.specs.declared.graph.VarType.{VarType}
use Rattle.flat_code.specs.Machine.{Frame}
use Rattle.access_blocks.specs.declared.body.Expression.{Expression}
use Rattle.access_blocks.specs.declared.body.Statement.{Statement}
use Rattle.access_blocks.specs.Expressions.{Calls, Seen, Gives as GivesValue, value_of}
use Rattle.access_blocks.specs.Statements.{Machine, Completion, Normal, Breaks, Continues, Returns, Halts, completed, meanings}
use Rattle.access_blocks.specs.Source as source
use Rattle.access_blocks.specs.Source.{Move, Moves, Then, Test, Again, entering, entered, pass, move_test}
use Rattle.body_code.specs.Completing.{goes_on, constant_of}
use Rattle.body_code.specs.Typing.{Context}
use Rattle.body_code.specs.StatementCode.{Place, Exits, Piece, behind_piece, of_instructions, in_order, piece_of, pieces_of}
use Rattle.body_code.specs.StatementCode as code
use Rattle.body_code.specs.Checking.{Standing, checked}
use Rattle.code_meaning.specs.Laid.{IsLaid, frame, Leads}
use Rattle.code_meaning.specs.Running.{Below, Ground, IsGround, scope_on, Agrees, Completes}
use Rattle.code_meaning.specs.Frames.{Level, Comes, LoopStands, inner_exits, AreLaid}
use Rattle.code_meaning.specs.Stepping.{coded}
use Rattle.code_meaning.proofs.Lists.{none_some}
use Rattle.code_meaning.proofs.Running.{laid_two, one_step, one_stop, stays, leads_on, leads_to, stops_on, wider}
use Rattle.code_meaning.proofs.Agreeing.{agrees_below, agrees_fewer}
use Rattle.code_meaning.proofs.PieceSizes.{tested_sized, way_back, updated, bodied, turned, piece_sized, pieces_sized}
use Rattle.code_meaning.proofs.Leaving.{constant_value}
use Rattle.code_meaning.proofs.Plain.{statements_right}
use Rattle.code_meaning.proofs.Foreseen.{constant_true}
use Rattle.code_meaning.proofs.Reaching.{reaches_by, reaches_here, reaches_turned, ends_by}
use Rattle.code_meaning.proofs.Laying.{alone_laid, same_below}
use Rattle.code_meaning.proofs.Moving.{Gives, fields_left, stop_gives, halt_gives}

tested_carries : (c : Context) (test : Option Expression) → (code.tested c test).carried ≡ []
tested_carries c None = refl
tested_carries c (Some x) = refl

-- The condition of a loop is not false where the loop goes on for ever.
pub stops_going : (calls : Calls) (x : Expression) (seen : Seen) (turns left : ℕ) → value_of calls x seen turns ≡ GivesValue (val.Bool false) left → goes_on (Some x) ≡ false
stops_going calls x seen turns left is = by (goes_on (Some x)) refl
  where
    by : (b : Bool) → goes_on (Some x) ≡ b → goes_on (Some x) ≡ false
    by false e = e
    by true e =
        let always : value_of calls x seen turns ≡ GivesValue (val.Bool true) turns = constant_value calls x (val.Bool true) (constant_true (constant_of x) e) seen turns in
        absurd (cc)

module _ {g : Ground} (ground : IsGround g) (whole : ℕ) where
  -- ---- to the test

  pub jumps : {variables : List Val} {a : State} {turns : ℕ} (jump from to : ℕ) → Comes (coded g whole) jump from to → Leads g.setting g.code jump (frame from [] variables turns) a (frame to [] variables turns) a
  jumps zero from to comes = leads_to g.setting g.code comes (stays g.setting g.code)
  jumps (suc n) from to comes = wider g.setting g.code (omega arith) (one_step g.setting g.code (instr.Jump to) comes refl (omega arith))

  -- A loop is come to behind its start or its update, which no jump leaves.
  pub entering_gives : {n left to at later : ℕ} {f : Frame} {a : State} {exits : Exits} {mid need : Standing} (jump : ℕ) (k : Completion) (m : Machine) (test : Option Expression) (update : List Statement) (body : Statement) (frames : List source.Frame) (level : Level)
      → Completes g None exits n f a to mid (completed k m) → Comes (coded g whole) jump to at → Below mid need → AreLaid (coded g whole) (Test test update body ∷ frames) level true at need later → n + jump + later ≤ left → left ≤ whole
      → Gives g whole left f a (entering k m (Test test update body) frames)
  entering_gives {n} {left} {to} {at} {later} {f} {a} {exits} {mid} {need} jump Normal m test update body frames level q comes below laid fits room = record {
    gives = record {
      level = level;
      at = at;
      standing = need;
      later = later;
      variables = q.does.variables;
      next = q.does.next;
      laid = laid;
      within = omega arith;
      reaches = reaches_by g.setting g.code whole (omega arith) fits (leads_on g.setting g.code q.does.leads (jumps jump to at comes));
      agrees = agrees_below below q.does.agrees;
    };
  }
  entering_gives jump Breaks m test update body frames level q comes below laid fits room = absurd (none_some q.does.need q.does.in_loop)
  entering_gives jump Continues m test update body frames level q comes below laid fits room = absurd (none_some q.does.need q.does.in_loop)
  entering_gives jump (Returns v) m test update body frames level q comes below laid fits room = record {
    gives = record { last = q.does.last; next = q.does.next; ends = ends_by g.setting g.code whole (omega arith) (omega arith) q.does.ends; of_result = q.does.of_result; left = fields_left q.does.fields };
  }
  entering_gives jump (Halts h) m test update body frames level q comes below laid fits room = halt_gives g whole h m q.does.stops (omega arith) room q.does.fields

  -- nothing leaves a loop before its test
  abbrev pub at_test : Level → Level
  at_test level = record { loop = None; exits = level.exits; breaks = false }

  module _ (test : Option Expression) (update : List Statement) (body : Statement) (frames : List source.Frame) (level : Level)
      (z : LoopStands (coded g whole) test update body level (λ level may at st left. AreLaid (coded g whole) frames level may at st left)) where
    abbrev pub nt : ℕ
    nt = (code.tested g.around.context test).size

    abbrev pub nu : ℕ
    nu = (pieces_of (scope_on g) update).size

    abbrev pub piece : Piece
    piece = piece_of (scope_on g) body

    abbrev pub us : List Piece
    us = map (piece_of (scope_on g)) update

    abbrev pub p : Place
    p = z.place

    abbrev pub inner : Exits
    inner = inner_exits (coded g whole) test update body p.at

    abbrev pub p1 : Place
    p1 = behind_piece p (code.tested g.around.context test)

    abbrev pub p2 : Place
    p2 = behind_piece p1 (of_instructions (instr.Turn ∷ []))

    abbrev pub p3 : Place
    p3 = behind_piece p2 piece

    abbrev pub p4 : Place
    p4 = behind_piece p3 (in_order us)

    pub laid_test : IsLaid g.code p.at ((code.tested g.around.context test).from p inner) × IsLaid g.code p1.at ((turned (in_order us) piece p.at).from p1 inner)
    laid_test = laid_two g.code p.at nt ((code.tested g.around.context test).from p inner) ((turned (in_order us) piece p.at).from p1 inner) (tested_sized g.around.context test p inner) z.laid

    pub laid_turn : IsLaid g.code p1.at (instr.Turn ∷ []) × IsLaid g.code p2.at ((bodied (in_order us) piece p.at).from p2 inner)
    laid_turn = laid_two g.code p1.at 1 (instr.Turn ∷ []) ((bodied (in_order us) piece p.at).from p2 inner) refl laid_test.1

    pub laid_body : IsLaid g.code p2.at (piece.from p2 inner) × IsLaid g.code p3.at ((updated (in_order us) p.at).from p3 inner)
    laid_body = laid_two g.code p2.at piece.size (piece.from p2 inner) ((updated (in_order us) p.at).from p3 inner) (piece_sized (scope_on g) body p2 inner) laid_turn.1

    pub laid_update : IsLaid g.code p3.at ((in_order us).from p3 inner) × IsLaid g.code p4.at ((way_back p.at).from p4 inner)
    laid_update = laid_two g.code p3.at nu ((in_order us).from p3 inner) ((way_back p.at).from p4 inner) (pieces_sized (scope_on g) update p3 inner) laid_body.1

    abbrev pub before_turn : ℕ
    before_turn = nt + 1 + z.later

    -- the test stands at the loop's place
    pub test_laid : AreLaid (coded g whole) (Test test update body ∷ frames) (at_test level) true p.at z.need before_turn
    test_laid = record { no_loop = refl; inner = level; stands = z; is_at = λ e. refl; below = λ e. same_below z.need z.need refl; few = omega arith }

    -- ---- behind a pass

    pub again_by : {left at : ℕ} {variables : List Val} {state : State} {m : Machine} {st : Standing} → nu + 1 + before_turn ≤ left → left ≤ whole → Below st z.need → Agrees g st variables state m
        → (p3.at ≡ at) ⊎ ((update ≡ []) × (p.at ≡ at)) → Gives g whole left (frame at [] variables m.turns) state (entered (meanings g.calls update m) (Test test update body) frames)
    again_by {left} {at} {variables} {state} {m} fits room below h (inl e) =
        let c = meanings g.calls update m in
        subst (λ a. Gives g whole left (frame a [] variables m.turns) state (entered (meanings g.calls update m) (Test test update body) frames)) e
        (entering_gives 1 c.completion c.machine test update body frames (at_test level)
        (statements_right ground update z.update_plain None z.need z.after_update p3 inner z.update_checked laid_update.0 variables state m (agrees_below below h)) laid_update.1.0 z.update_below test_laid fits room)
    again_by {left} {at} {variables} {state} {m} fits room below h (inr e) =
        let here : Gives g whole left (frame p.at [] variables m.turns) state (Moves (Test test update body ∷ frames) m) =
        record {
          gives = record {
            level = at_test level;
            at = p.at;
            standing = z.need;
            later = before_turn;
            variables = variables;
            next = state;
            laid = test_laid;
            within = omega arith;
            reaches = reaches_here g.setting g.code whole (omega arith);
            agrees = agrees_below below h;
          };
        } in
        subst (λ a. Gives g whole left (frame a [] variables m.turns) state (entered (meanings g.calls update m) (Test test update body) frames)) e.1
        (subst (λ us. Gives g whole left (frame p.at [] variables m.turns) state (entered (meanings g.calls us m) (Test test update body) frames)) (sym e.0) here)

    -- ---- a pass

    abbrev pub behind_turn : ℕ
    behind_turn = piece.size + 0 + (nu + 1 + before_turn)

    pub body_laid : AreLaid (coded g whole) (Then (body ∷ []) ∷ Again test update body ∷ frames) level true p2.at z.need behind_turn
    body_laid =
        let v = ap (λ (l : List VarType). length l) (tested_carries g.around.context test) in
        let l1 = length-append (code.tested g.around.context test).carried ([] ++ (piece.carried ++ ((in_order us).carried ++ ([] ++ [])))) in
        let l2 = length-append piece.carried ((in_order us).carried ++ ([] ++ [])) in
        let r = z.room in
        let fi = z.first in
        alone_laid (coded g whole) body (Again test update body ∷ frames) level p2 z.need z.after_body true 0 p3.at z.need (nu + 1 + before_turn) behind_turn (subst (λ e. IsLaid g.code p2.at (piece.from p2 e)) (sym z.exits) laid_body.0)
        (ap (λ l. checked g.around body l z.need) z.loop ∙ z.body_checked) z.body_below z.body_placed refl (λ e. refl) (λ e. z.breaks ∙ e) (omega arith) (omega arith) (omega arith)
        (record { stands = z; is_at = λ e. inl refl; below = λ e. same_below z.need z.need refl; few = omega arith })

    pub holding : {left : ℕ} {variables : List Val} {state : State} {m : Machine} {st : Standing} → before_turn ≤ left → left ≤ whole → Below st z.need → Agrees g st variables state m → (turns : ℕ) → turns ≤ m.turns
        → Leads g.setting g.code nt (frame p.at [] variables m.turns) state (frame p1.at [] variables turns) state → Gives g whole left (frame p.at [] variables m.turns) state (pass true test update body frames turns m)
    holding {m = m} fits room below h zero less lead = stop_gives g whole outcome.Limit m refl tt (stops_on g.setting g.code lead (one_stop g.setting g.code instr.Turn laid_turn.0.0 refl)) (omega arith) room h.fields
    holding {left} {variables} {state} {m} fits room below h (suc turns) less lead =
        let few = z.few in
        let fewer : turns ≤ m.turns = omega arith in
        record {
          gives = record {
            level = level;
            at = p1.at + 1;
            standing = z.need;
            later = behind_turn;
            variables = variables;
            next = state;
            laid = body_laid;
            within = omega arith;
            reaches = reaches_turned g.setting g.code whole (omega arith) laid_turn.0.0 (reaches_by g.setting g.code whole (omega arith) (omega arith) lead);
            agrees = agrees_fewer turns fewer (agrees_below below h);
          };
        }
