-- The code of a loop does what the loop means, pass by pass: each pass spends a turn.
use Rattle.std.proofs.Common.{◌≡◌, ◌≤◌, ◌<◌, refl, sym, ap, subst, ◌∙◌, ℕ, zero, suc, ◌+◌, ◌*◌, arith, Bool, true, false, if◌then◌else◌, List, [], ◌∷◌, Option, Some, None, slice_get, add_assoc, mul-le-mul_left}
use Rattle.sdg_base.specs.declared.val.Val.{Val}
use Rattle.sdg_base.specs.declared.val.Val.TheVariants as val
use Rattle.sdg_base.specs.declared.value_type.ValueType.TheVariants as type
use Rattle.state_classes.specs.States.{State}
use Rattle.flat_code.specs.declared.graph.Instr.{Instr}
use Rattle.flat_code.specs.declared.graph.Instr.TheVariants as instr
use Rattle.flat_code.specs.Machine.{Setting, Frame, run_within, Ending}
use Rattle.access_blocks.specs.declared.body.Expression.{Expression}
use Rattle.access_blocks.specs.Expressions.{Ended, Gives, Ends, is_true, value_of}
use Rattle.access_blocks.specs.Statements.{Machine, Completion, Normal, Breaks, Continues, Returns, Halts, Completed, completed, normal, seen_by, with_turns, with_value, spent, Running, going_on, after, tested, looping, after_body, passes}
use Rattle.body_code.specs.ExpressionCode.{code_of}
use Rattle.body_code.specs.StatementCode.{Place, Exits, Piece, behind_piece, of_code, of_instructions, then_piece, in_order, next_pass}
use Rattle.body_code.specs.StatementCode as code
use Rattle.body_code.specs.Checking.{Standing, Around, Checking, is_condition}
use Rattle.code_meaning.specs.Laid.{IsSizedPiece, IsLaid, frame, Leads, EndsSo}
use Rattle.code_meaning.specs.Evaluating.{Evaluates}
use Rattle.code_meaning.specs.Running.{Below, Ground, IsGround, Agrees, GoesTo, Completes}
use Rattle.code_meaning.proofs.Lists.{none_some, some_is}
use Rattle.code_meaning.proofs.Running.{laid_two, one_step, one_turn, one_stop, stays, leads_on, stops_on, wider, leads_to, stops_wider}
use Rattle.code_meaning.proofs.Evaluations.{boolean_cases}
use Rattle.code_meaning.proofs.Sizes.{code_sized}
use Rattle.code_meaning.proofs.Operands.{on_stack}
use Rattle.code_meaning.proofs.Agreeing.{agrees_below, agrees_fewer}
use Rattle.code_meaning.proofs.Completing.{completes_on, completes_wider}
use Rattle.code_meaning.proofs.PieceSizes.{tested_sized, way_back, updated, bodied, turned}
use Rattle.code_meaning.proofs.Simple.{Does, evaluates_taken}

-- ---- a pass, after which a turn is spent

-- a run that has spent a turn, through code of so many instructions
pub record Rounds (s : Setting) (code : List Instr) (size : ℕ) (f : Frame) (state : State) (g : Frame) (next : State) : Type 0 where
  pub steps : ℕ
  pub same : (n : ℕ) → run_within (steps + n) s code f state ≡ run_within n s code g next
  pub falls : g.turns < f.turns
  pub few : steps + size * suc g.turns ≤ size * suc f.turns

few_of_turn : (a b s1 s2 t0 t1 t2 : ℕ) → s1 + a * suc t1 ≤ a * suc t0 → s2 + b * t2 ≤ b * suc t1 → t2 ≤ t1 → suc t1 ≤ t0
    → (s1 + 1 + s2) + (a + (1 + b)) * suc t2 ≤ (a + (1 + b)) * suc t0
few_of_turn a b s1 s2 t0 t1 t2 h1 h2 l2 l1 =
    let k2 : suc t2 ≤ suc t1 = omega arith in
    omega (arith, mul-le-mul_left a k2, mul-le-mul_left b l1)

few_round_then : (n s1 s2 t0 t1 t2 : ℕ) → s1 + n * suc t1 ≤ n * suc t0 → s2 + n * t2 ≤ n * suc t1 → s1 + s2 + n * t2 ≤ n * suc t0
few_round_then n s1 s2 t0 t1 t2 h1 h2 = omega arith

module _ (s : Setting) (code : List Instr) where
  -- a test, a turn and the rest of a pass
  pub rounds : {a b : ℕ} {f k : Frame} {x y : State} {at : ℕ} {stack variables : List Val} {left : ℕ} → Leads s code a f x (frame at stack variables (suc left)) x → slice_get code at ≡ Some instr.Turn
      → Leads s code b (frame (at + 1) stack variables left) x k y → Rounds s code (a + (1 + b)) f x k y
  rounds {a} {b} {f} {k = k} {x} {y} {at} {stack} {variables} {left} p is q =
      record {
        steps = p.steps + 1 + q.steps;
        same = λ n. ap (λ z. run_within z s code f x) (add_assoc (p.steps + 1) q.steps n ∙ add_assoc p.steps 1 (q.steps + n)) ∙ p.same (1 + (q.steps + n)) ∙ one_turn s code at left stack variables x is (q.steps + n) ∙ q.same n;
        falls = omega (arith, p.falls, q.falls);
        few = few_of_turn a b p.steps q.steps f.turns left k.turns p.few q.few q.falls p.falls;
      }

  pub round_then : {n : ℕ} {f h k : Frame} {x y z : State} → Rounds s code n f x h y → Leads s code n h y k z → Leads s code n f x k z
  round_then {n} {f} {h} {k} {x} {y} {z} p q = record {
    steps = p.steps + q.steps;
    same = λ m. ap (λ j. run_within j s code f x) (add_assoc p.steps q.steps m) ∙ p.same (q.steps + m) ∙ q.same m;
    falls = omega (arith, p.falls, q.falls);
    few = few_round_then n p.steps q.steps f.turns h.turns k.turns p.few q.few;
  }

  pub round_ends : {n : ℕ} {f h k : Frame} {x y z : State} {ending : Ending} → Rounds s code n f x h y → EndsSo s code n h y ending k z → EndsSo s code n f x ending k z
  round_ends {n} {f} {h} {k} {x} {y} {z} p q = record {
    steps = p.steps + q.steps;
    same = λ m. ap (λ j. run_within j s code f x) (add_assoc p.steps q.steps m) ∙ p.same (q.steps + m) ∙ q.same m;
    few = let a = p.few in let b = q.few in omega arith;
  }

module _ {g : Ground} where
  round_goes : {n to : ℕ} {f h : Frame} {a b : State} {need : Standing} {m : Machine} → Rounds g.setting g.code n f a h b → GoesTo g n h b to need m → GoesTo g n f a to need m
  round_goes p q = record { variables = q.variables; next = q.next; leads = round_then g.setting g.code p q.leads; agrees = q.agrees }

  round_completing : {n to : ℕ} {f h : Frame} {a b : State} {loop : Around} {exits : Exits} {end : Standing} (m : Machine) (c : Completion) → Rounds g.setting g.code n f a h b
      → Completes g loop exits n h b to end (completed c m) → Completes g loop exits n f a to end (completed c m)
  round_completing m Normal p q = record { does = round_goes p q.does }
  round_completing m Breaks p q = record { does = record { need = q.does.need; in_loop = q.does.in_loop; goes = round_goes p q.does.goes } }
  round_completing m Continues p q = record { does = record { need = q.does.need; in_loop = q.does.in_loop; goes = round_goes p q.does.goes } }
  round_completing m (Returns v) p q = record { does = record { last = q.does.last; next = q.does.next; ends = round_ends g.setting g.code p q.does.ends; turns = q.does.turns; falls = (let k = q.does.falls in let l = p.falls in omega arith); fields = q.does.fields; of_result = q.does.of_result } }
  round_completing m (Halts h) p q = record { does = record { next = q.does.next; stops = record { last = q.does.stops.last; ends = round_ends g.setting g.code p q.does.stops.ends }; fields = q.does.fields } }

  pub round_completes : {n to : ℕ} {f h : Frame} {a b : State} {loop : Around} {exits : Exits} {end : Standing} {c : Completed} → Rounds g.setting g.code n f a h b
      → Completes g loop exits n h b to end c → Completes g loop exits n f a to end c
  round_completes {c = c} p q = round_completing c.machine c.completion p q

  -- ---- no loop around a start or an update

  pub not_broken : {n to : ℕ} {f : Frame} {a : State} {loop : Around} {exits outer : Exits} {end : Standing} (m : Machine) (c : Completion)
      → Completes g None exits n f a to end (completed c m) → Completes g loop outer n f a to end (completed c m)
  not_broken m Normal q = record { does = q.does }
  not_broken m Breaks q = absurd (none_some q.does.need q.does.in_loop)
  not_broken m Continues q = absurd (none_some q.does.need q.does.in_loop)
  not_broken m (Returns v) q = record { does = q.does }
  not_broken m (Halts h) q = record { does = q.does }

  -- ---- the test of a loop

  pub tested_goes : (ground : IsGround g) {variables : List Val} {state : State} {m : Machine} {loop : Around} {exits : Exits} {n to : ℕ} {st end : Standing} (test : Option Expression) (k : Val → Machine → Completed) (p : Place) (inner : Exits)
      → (code.tested g.around.context test).size ≤ n → is_condition g.around st test ≡ true → IsLaid g.code p.at ((code.tested g.around.context test).from p inner) → Agrees g st variables state m
      → ((left : ℕ) → left ≤ m.turns → Leads g.setting g.code (code.tested g.around.context test).size (frame p.at [] variables m.turns) state (frame (p.at + (code.tested g.around.context test).size) [] variables left) state
      → Completes g loop exits n (frame p.at [] variables m.turns) state to end (k (val.Bool true) (with_turns left m)))
      → ((left : ℕ) → left ≤ m.turns → Leads g.setting g.code (code.tested g.around.context test).size (frame p.at [] variables m.turns) state (frame inner.break_to [] variables left) state
      → Completes g loop exits n (frame p.at [] variables m.turns) state to end (k (val.Bool false) (with_turns left m)))
      → Completes g loop exits n (frame p.at [] variables m.turns) state to end (tested g.calls test m k)
  tested_goes ground {m = m} None k p inner room holds laid h holding failing = let e : p.at ≡ p.at + 0 = omega arith in holding m.turns (omega arith) (leads_to g.setting g.code e (stays g.setting g.code))
  tested_goes ground {variables} {state} {m} {loop} {exits} {n} {to} {st} {end} (Some x) k p inner room holds laid h holding failing = by (value_of g.calls x (seen_by m) m.turns) (evaluates_taken ground h x type.Boolean p.at [] holds parts.0)
    where
      a : ℕ
      a = (code_of g.around.context x).size

      parts : IsLaid g.code p.at ((code_of g.around.context x).from p.at) × IsLaid g.code (p.at + (code_of g.around.context x).size) (instr.IfFalse inner.break_to ∷ [])
      parts = laid_two g.code p.at (code_of g.around.context x).size ((code_of g.around.context x).from p.at) (instr.IfFalse inner.break_to ∷ []) (code_sized g.around.context x p.at) laid

      holds_goes : (b : Bool) (left : ℕ) → left ≤ m.turns → Leads g.setting g.code (code_of g.around.context x).size (frame p.at [] variables m.turns) state (frame (p.at + (code_of g.around.context x).size) (val.Bool b ∷ []) variables left) state
          → Completes g loop exits n (frame p.at [] variables m.turns) state to end (k (val.Bool b) (with_turns left m))
      holds_goes true left less q =
          let e : suc (p.at + (code_of g.around.context x).size) ≡ p.at + ((code_of g.around.context x).size + 1) = omega arith in
          holding left less (leads_on g.setting g.code q (leads_to g.setting g.code e (one_step g.setting g.code (instr.IfFalse inner.break_to) parts.1.0 refl (omega arith))))
      holds_goes false left less q = failing left less (leads_on g.setting g.code q (one_step g.setting g.code (instr.IfFalse inner.break_to) parts.1.0 refl (omega arith)))

      by : (v : Ended Val) → Evaluates g.setting g.code (code_of g.around.context x).size (frame p.at [] variables m.turns) state (p.at + (code_of g.around.context x).size) [] variables type.Boolean v
          → Completes g loop exits n (frame p.at [] variables m.turns) state to end (with_value v m k)
      by (Gives v left) q =
          (boolean_cases (λ v. Leads g.setting g.code (code_of g.around.context x).size (frame p.at [] variables m.turns) state (frame (p.at + (code_of g.around.context x).size) (v ∷ []) variables left) state
          → Completes g loop exits n (frame p.at [] variables m.turns) state to end (k v (with_turns left m))) v q.does.0 (λ b. holds_goes b left q.does.1.falls))
          (subst (λ stack. Leads g.setting g.code (code_of g.around.context x).size (frame p.at [] variables m.turns) state (frame (p.at + (code_of g.around.context x).size) stack variables left) state) (on_stack type.Boolean v [] tt q.does.0) q.does.1)
      by (Ends z) q = record { does = record { next = state; stops = stops_wider g.setting g.code (omega arith) q.does; fields = h.fields } }

-- ---- the passes of a loop

module _ {g : Ground} (ground : IsGround g) (test : Option Expression) (us : List Piece) (body : Piece) (update_checks body_checks : Checking) (update_runs body_runs : Running)
    (none : (us ≡ []) → (m : Machine) → update_runs m ≡ normal m) (update_sized : IsSizedPiece (in_order us)) (body_sized : IsSizedPiece body)
    (body_does : Does ground body_checks body body_runs) (update_does : Does ground update_checks (in_order us) update_runs)
    (st : Standing) (condition : is_condition g.around st test ≡ true) (stb : Standing) (body_checked : body_checks (Some st) st ≡ Some stb) (body_below : Below stb st)
    (stu : Standing) (update_checked : update_checks None st ≡ Some stu) (update_below : Below stu st)
    (p : Place) (loop : Around) (exits : Exits) where
  abbrev nt : ℕ
  nt = (code.tested g.around.context test).size

  abbrev nu : ℕ
  nu = (in_order us).size

  abbrev size : ℕ
  size = nt + (1 + (body.size + (nu + (1 + 0))))

  abbrev to : ℕ
  to = p.at + size

  abbrev inner : Exits
  inner = record { break_to = to; continue_to = next_pass p.at (p.at + nt + 1 + body.size) us }

  abbrev whole : Piece
  whole = then_piece (code.tested g.around.context test) (turned (in_order us) body p.at)

  module _ (laid : IsLaid g.code p.at (whole.from p inner)) where
    abbrev p1 : Place
    p1 = behind_piece p (code.tested g.around.context test)

    abbrev p2 : Place
    p2 = behind_piece p1 (of_instructions (instr.Turn ∷ []))

    abbrev p3 : Place
    p3 = behind_piece p2 body

    abbrev p4 : Place
    p4 = behind_piece p3 (in_order us)

    laid_test : IsLaid g.code p.at ((code.tested g.around.context test).from p inner) × IsLaid g.code p1.at ((turned (in_order us) body p.at).from p1 inner)
    laid_test = laid_two g.code p.at nt ((code.tested g.around.context test).from p inner) ((turned (in_order us) body p.at).from p1 inner) (tested_sized g.around.context test p inner) laid

    laid_turn : IsLaid g.code p1.at (instr.Turn ∷ []) × IsLaid g.code p2.at ((bodied (in_order us) body p.at).from p2 inner)
    laid_turn = laid_two g.code p1.at 1 (instr.Turn ∷ []) ((bodied (in_order us) body p.at).from p2 inner) refl laid_test.1

    laid_body : IsLaid g.code p2.at (body.from p2 inner) × IsLaid g.code p3.at ((updated (in_order us) p.at).from p3 inner)
    laid_body = laid_two g.code p2.at body.size (body.from p2 inner) ((updated (in_order us) p.at).from p3 inner) (body_sized p2 inner) laid_turn.1

    laid_update : IsLaid g.code p3.at ((in_order us).from p3 inner) × IsLaid g.code p4.at ((way_back p.at).from p4 inner)
    laid_update = laid_two g.code p3.at nu ((in_order us).from p3 inner) ((way_back p.at).from p4 inner) (update_sized p3 inner) laid_body.1

    -- what comes of a loop from its test on
    abbrev Comes : Frame → State → Completed → Type 0
    Comes f state c = Completes g loop exits size f state to st c

    -- the rest of a pass, from the turn on
    module _ {f : Frame} {a : State} {vs : List Val} {left : ℕ} (tested_first : Leads g.setting g.code nt f a (frame p1.at [] vs (suc left)) a) (more : Running)
        (again : (ws : List Val) (b : State) (m : Machine) → Agrees g st ws b m → m.turns ≤ left → Comes (frame p.at [] ws m.turns) b (more m)) where
      abbrev begun : Frame
      begun = frame (p1.at + 1) [] vs left

      turn_first : Leads g.setting g.code (nt + 1) f a begun a
      turn_first =
          let e : suc p1.at ≡ p1.at + 1 = omega arith in
          leads_on g.setting g.code tested_first (leads_to g.setting g.code e (one_step g.setting g.code instr.Turn laid_turn.0.0 refl (omega arith)))

      back_again : {n : ℕ} (ws : List Val) (b : State) (m : Machine) → n ≤ body.size + (nu + 1) → Agrees g st ws b m → Leads g.setting g.code n begun a (frame p.at [] ws m.turns) b → Comes f a (more m)
      back_again ws b m room h q = round_completes (rounds g.setting g.code tested_first laid_turn.0.0 (wider g.setting g.code room q)) (again ws b m h q.falls)

      after_update : {b : State} (ws : List Val) (q : Machine) (m : Machine) (c : Completion) → Leads g.setting g.code body.size begun a (frame p3.at [] ws q.turns) b
          → Completes g None inner nu (frame p3.at [] ws q.turns) b (p3.at + nu) stu (completed c m) → Comes f a (going_on c m more)
      after_update ws q m Normal before h =
          let jump : Leads g.setting g.code 1 (frame (p3.at + nu) [] h.does.variables m.turns) h.does.next (frame p.at [] h.does.variables m.turns) h.does.next = one_step g.setting g.code (instr.Jump p.at) laid_update.1.0 refl (omega arith) in
          back_again h.does.variables h.does.next m (omega arith) (agrees_below update_below h.does.agrees) (leads_on g.setting g.code before (leads_on g.setting g.code h.does.leads jump))
      after_update ws q m Breaks before h = absurd (none_some h.does.need h.does.in_loop)
      after_update ws q m Continues before h = absurd (none_some h.does.need h.does.in_loop)
      after_update ws q m (Returns v) before h = completes_wider (omega arith) (completes_on turn_first (completes_on before (record { does = h.does })))
      after_update ws q m (Halts z) before h = completes_wider (omega arith) (completes_on turn_first (completes_on before (record { does = h.does })))

      to_update : (ws : List Val) (b : State) (m : Machine) → Agrees g st ws b m → Leads g.setting g.code body.size begun a (frame p3.at [] ws m.turns) b → Comes f a (after (update_runs m) more)
      to_update ws b m h q =
          after_update ws m (update_runs m).machine (update_runs m).completion q (update_does None st stu p3 inner update_checked laid_update.0 ws b m h)

      continue_in : (vs' : List Piece) → us ≡ vs' → (ws : List Val) (b : State) (m : Machine) → Agrees g st ws b m → Leads g.setting g.code body.size begun a (frame (next_pass p.at p3.at vs') [] ws m.turns) b → Comes f a (after (update_runs m) more)
      continue_in [] is ws b m h q = subst (λ c. Comes f a (after c more)) (sym (none is m)) (back_again ws b m (omega arith) h q)
      continue_in (x ∷ xs) is ws b m h q = to_update ws b m h q

      need_is : {b : State} {ws : List Val} {m : Machine} (need : Standing) → Some st ≡ Some need → Agrees g need ws b m → Agrees g st ws b m
      need_is {b} {ws} {m} need is h = subst (λ z. Agrees g z ws b m) (sym (some_is st need is)) h

      after_pass : (m : Machine) (c : Completion) → Completes g (Some st) inner body.size begun a p3.at stb (completed c m) → Comes f a (looping c m (λ o. after (update_runs o) more))
      after_pass m Normal h = to_update h.does.variables h.does.next m (agrees_below body_below h.does.agrees) h.does.leads
      after_pass m Continues h = continue_in us refl h.does.goes.variables h.does.goes.next m (need_is h.does.need h.does.in_loop h.does.goes.agrees) h.does.goes.leads
      after_pass m Breaks h = record {
        does = record {
          variables = h.does.goes.variables;
          next = h.does.goes.next;
          leads = wider g.setting g.code (omega arith) (leads_on g.setting g.code turn_first h.does.goes.leads);
          agrees = need_is h.does.need h.does.in_loop h.does.goes.agrees;
        };
      }
      after_pass m (Returns v) h = completes_wider (omega arith) (completes_on turn_first (record { does = h.does }))
      after_pass m (Halts z) h = completes_wider (omega arith) (completes_on turn_first (record { does = h.does }))

      pub pass_goes : (m : Machine) → m.turns ≡ left → Agrees g st vs a m → Comes f a (after_body (body_runs m) (λ o. after (update_runs o) more))
      pass_goes m is h =
          after_pass (body_runs m).machine (body_runs m).completion
          (subst (λ n. Completes g (Some st) inner body.size (frame p2.at [] vs n) a p3.at stb (body_runs m)) is (body_does (Some st) st stb p2 inner body_checked laid_body.0 vs a m h))

    turning : (most left : ℕ) (vs : List Val) (a : State) (m : Machine) → m.turns < suc most → left ≤ m.turns → Agrees g st vs a m
        → ((ws : List Val) (b : State) (n : Machine) → n.turns < most → Agrees g st ws b n → Comes (frame p.at [] ws n.turns) b (passes g.calls test update_runs body_runs most n))
        → Leads g.setting g.code nt (frame p.at [] vs m.turns) a (frame p1.at [] vs left) a
        → Comes (frame p.at [] vs m.turns) a (spent (with_turns left m) (λ n. after_body (body_runs n) (λ o. after (update_runs o) (passes g.calls test update_runs body_runs most))))
    turning most zero vs a m less l h others q =
        record { does = record { next = a; stops = stops_wider g.setting g.code (omega arith) (stops_on g.setting g.code q (one_stop g.setting g.code instr.Turn laid_turn.0.0 refl)); fields = (agrees_fewer zero l h).fields } }
    turning most (suc left) vs a m less l h others q =
        let k : left ≤ m.turns = omega arith in
        pass_goes q (passes g.calls test update_runs body_runs most) (λ ws b n h' fewer. let z : n.turns < most = omega arith in others ws b n z h') (with_turns left (with_turns (suc left) m)) refl (agrees_fewer left k h)

    -- as many passes as may come
    pub passes_go : (most : ℕ) (vs : List Val) (a : State) (m : Machine) → m.turns < most → Agrees g st vs a m → Comes (frame p.at [] vs m.turns) a (passes g.calls test update_runs body_runs most m)
    passes_go zero vs a m less h = absurd (omega arith)
    passes_go (suc most) vs a m less h =
        tested_goes ground test (λ holds n. if is_true holds then spent n (λ left. after_body (body_runs left) (λ o. after (update_runs o) (passes g.calls test update_runs body_runs most))) else normal n)
        p inner (omega arith) condition laid_test.0 h (λ left l q. turning most left vs a m less l h (λ ws b n z h'. passes_go most ws b n z h') q)
        (λ left l q. record { does = record { variables = vs; next = a; leads = wider g.setting g.code (omega arith) q; agrees = agrees_fewer left l h } })
