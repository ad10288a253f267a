-- A move keeps what comes of a call.
use Rattle.std.proofs.Common.{◌≡◌, ◌≤◌, ◌<◌, ℕ, zero, suc, Bool, true, false, if◌then◌else◌, List, [], ◌∷◌, Option, Some, None, refl, sym, ◌∙◌, ap, subst, arith}
use Rattle.std.specs.Prelude.{replicate}
use Rattle.sdg_base.specs.declared.val.Val.{Val}
use Rattle.sdg_base.specs.declared.val.Val.TheVariants as val
use Rattle.sdg_base.specs.declared.val.Outcome.{Outcome}
use Rattle.access_blocks.specs.declared.halt.Halt.TheVariants.{OutOfTurns}
use Rattle.access_blocks.specs.declared.body.Expression.{Expression}
use Rattle.access_blocks.specs.declared.body.Gather.{Gather}
use Rattle.access_blocks.specs.declared.body.Mark.{Mark}
use Rattle.access_blocks.specs.declared.body.Statement.{Statement, out-Statement}
use Rattle.access_blocks.specs.declared.body.Statement.TheOpen.{Statement-F}
use Rattle.access_blocks.specs.declared.body.Statement.TheOpen as s
use Rattle.access_blocks.specs.declared.body.Statement.TheFolds.{fold_out-Statement, map-Statement}
use Rattle.access_blocks.specs.Expressions.{Ended as Evaluated, Gives, Ends, Calls, is_true, value_of, values_of}
use Rattle.access_blocks.specs.Statements.{Field, Whole, Instances, Machine, Completion, Normal, Breaks, Continues, Returns, Halts, Completed, completed, normal, seen_by, with_turns, with_value, spent, Running, going_on, after, in_order, otherwise, looping, after_body, passes, looped, statement_step, meaning, meanings}
use Rattle.access_blocks.specs.Statements as statements
use Rattle.access_blocks.specs.Source.{Frame, Then, Test, Again, CallState, Fresh, At, Visiting, Ended, Move, Moves, Rests, having, spending, standing, left_loop, next_pass, completing, entering, at_mark, width_in, width_of, at_gather, branch, opening, move_statement, pass, move_test, move, machine_of, Runs, Rest, Go}
use Rattle.access_blocks.specs.Source as source
use Rattle.plain_java.proofs.Turns.{AtMost, CallsFall, value_falls, values_fall}
use Rattle.plain_java.proofs.Keeping.{AllWhole, IsPlain, meaning_keeps, meanings_keep}
use Rattle.plain_java.proofs.Passes.{after_same, after_body_same, passes_same}
use Rattle.plain_java.proofs.Frames.{Ending, ended_so, finish, halts_end, returns_end, breaks_leave, continues_go_on, Rested}

abbrev MoveGives : Calls → Move → Ending → Type 0
MoveGives calls (Moves next n) r = IsPlain n × (finish calls next (normal n) ≡ r)
MoveGives calls (Rests state fields) r = Rested calls state fields r

-- This comes of the call behind the move.
pub record Reads (calls : Calls) (move : Move) (r : Ending) : Type 0 where
  pub gives : MoveGives calls move r

fewer : (left : ℕ) (m : Machine) → IsPlain m → IsPlain (with_turns left m)
fewer left m p = record { whole = p.whole; nothing_gathered = p.nothing_gathered; no_instance = p.no_instance }

going_on_normal : (c : Completion) (m : Machine) → going_on c m normal ≡ completed c m
going_on_normal Normal m = refl
going_on_normal Breaks m = refl
going_on_normal Continues m = refl
going_on_normal (Returns v) m = refl
going_on_normal (Halts h) m = refl

alone : (c : Completed) → after c normal ≡ c
alone c = going_on_normal c.completion c.machine

-- A field that is whole has no instances.
no_width : (fields : List Field) (field : ℕ) → AllWhole fields → width_of field fields ≡ 0
no_width [] field h = refl
no_width (Whole state ∷ fields) zero h = refl
no_width (Instances states ∷ fields) zero h = absurd h.0
no_width (x ∷ fields) (suc field) h = no_width fields field h.1

module _ (calls : Calls) (fall : CallsFall calls) where
  ends_reads : (o : Outcome) (m : Machine) (r : Ending) → IsPlain m → r ≡ ended_so o m.fields → Reads calls (source.ends o m) r
  ends_reads o m r p is = record { gives = record { whole = p.whole; gives = sym is } }

  completing_reads : (c : Completion) (m : Machine) (frames : List Frame) → IsPlain m → Reads calls (completing c m frames) (finish calls frames (completed c m))
  completing_reads Normal m frames p = record { gives = (p, refl) }
  completing_reads Breaks m frames p = record { gives = (p, sym (breaks_leave calls frames m)) }
  completing_reads Continues m frames p = record { gives = (p, sym (continues_go_on calls frames m)) }
  completing_reads (Returns v) m frames p = ends_reads _ m _ p (returns_end calls frames v m)
  completing_reads (Halts h) m frames p = ends_reads _ m _ p (halts_end calls frames h m)

  after_reads : (c : Completed) (frames : List Frame) → IsPlain c.machine → Reads calls (source.after c frames) (finish calls frames c)
  after_reads c frames p = completing_reads c.completion c.machine frames p

  having_reads : {A : Type 0} (e : Evaluated A) (m : Machine) (f : A → Machine → Completed) (g : A → ℕ → Move) (frames : List Frame) → IsPlain m → AtMost m.turns e
      → ((a : A) (turns : ℕ) → turns ≤ m.turns → Reads calls (g a turns) (finish calls frames (f a (with_turns turns m))))
      → Reads calls (having e m g) (finish calls frames (with_value e m f))
  having_reads (Gives a turns) m f g frames p h each = each a turns h.leaves
  having_reads (Ends x) m f g frames p h each = ends_reads _ m _ p (halts_end calls frames x m)

  spending_reads : (turns : ℕ) (m : Machine) (f : Running) (g : ℕ → Move) (frames : List Frame) → IsPlain m
      → ((left : ℕ) → left < turns → Reads calls (g left) (finish calls frames (f (with_turns left m))))
      → Reads calls (spending turns m g) (finish calls frames (statements.spending turns (with_turns turns m) f))
  spending_reads zero m f g frames p each = ends_reads _ m _ p (halts_end calls frames OutOfTurns (with_turns zero m))
  spending_reads (suc left) m f g frames p each = each left (omega arith)

  -- ---- marks

  abbrev rests_at : List Frame → Machine → ℕ → Val → Machine
  rests_at frames m left key = machine_of (standing frames m left) key [] m.fields 0

  -- where the call goes on, it has what it had
  same_machine : (frames : List Frame) (m : Machine) (left : ℕ) (key : Val) → IsPlain m → rests_at frames m left key ≡ record (with_turns left m) { key = key }
  same_machine frames m left key p = λ i. record {
    variables = m.variables;
    key = key;
    gathered = sym p.nothing_gathered i;
    turns = left;
    fields = m.fields;
    instance = sym p.no_instance i;
  }

  at_mark_reads : (mark : Mark) (key : Option Expression) (block : Statement) (frames : List Frame) (m : Machine) → IsPlain m
      → Reads calls (at_mark calls mark key block frames m) (finish calls frames (statements.marked calls key m (meaning calls block)))
  at_mark_reads mark None block frames m p =
      spending_reads m.turns m (meaning calls block) (λ left. Rests (At mark.field None block (standing frames m left)) m.fields) frames p
      (λ left l. record { gives = record { whole = p.whole; gives = tt } })
  at_mark_reads mark (Some key) block frames m p =
      having_reads (value_of calls key (seen_by m) m.turns) m (λ k n. spent n (λ left. meaning calls block (record left { key = k })))
      (λ k turns. spending turns m (λ left. Rests (At mark.field (Some k) block (standing frames m left)) m.fields)) frames p (value_falls calls fall key (seen_by m) m.turns) (λ k turns less.
      spending_reads turns m (λ left. meaning calls block (record left { key = k })) (λ left. Rests (At mark.field (Some k) block (standing frames m left)) m.fields) frames p (λ left l.
      let same : after (meaning calls block (rests_at frames m left k)) normal ≡ meaning calls block (record (with_turns left m) { key = k }) =
      alone (meaning calls block (rests_at frames m left k)) ∙ ap (meaning calls block) (same_machine frames m left k p) in
      record { gives = record { whole = p.whole; gives = ap (finish calls frames) same } }))

  same_gathered : (frames : List Frame) (m : Machine) (left : ℕ) → IsPlain m → rests_at frames m left val.Unit ≡ record (with_turns left m) { key = val.Unit; gathered = [] }
  same_gathered frames m left p = λ i. record {
    variables = m.variables;
    key = val.Unit;
    gathered = [];
    turns = left;
    fields = m.fields;
    instance = sym p.no_instance i;
  }

  at_gather_reads : (g : Gather) (frames : List Frame) (m : Machine) → IsPlain m → Reads calls (at_gather calls g frames m) (finish calls frames (statements.gathering calls g.args m))
  at_gather_reads g frames m p =
      let parts : ℕ → List (Option Outcome) = λ n. replicate n None in
      let stays : List Val → ℕ → Move = λ args left. Rests (Visiting g.field g.method args (parts (width_of g.field m.fields)) (standing frames m left)) m.fields in
      having_reads (values_of calls g.args (seen_by m) m.turns) m (λ vs n. spent n (λ left. normal (record left { key = val.Unit; gathered = [] })))
      (λ args turns. spending turns m (stays args)) frames p (values_fall calls fall g.args (seen_by m) m.turns) (λ args turns less.
      spending_reads turns m (λ left. normal (record left { key = val.Unit; gathered = [] })) (stays args) frames p (λ left l.
      record { gives = record { whole = p.whole; gives = (ap parts (no_width m.fields g.field p.whole), ap (λ n. finish calls frames (normal n)) (same_gathered frames m left p)) } }))

  -- ---- statements

  plain_meaning : (st : Statement) (m : Machine) → IsPlain m → IsPlain (meaning calls st m).machine
  plain_meaning st m p = (meaning_keeps calls fall st m).keeps p

  plain_meanings : (ss : List Statement) (m : Machine) → IsPlain m → IsPlain (meanings calls ss m).machine
  plain_meanings ss m p = (meanings_keep calls fall ss m).keeps p

  abbrev meant : Statement-F Statement → Statement-F Running
  meant = map-Statement Statement Running (meaning calls)

  means : (st : Statement) (y : Statement-F Statement) (m : Machine) → out-Statement st ≡ y → statement_step calls (meant y) m ≡ meaning calls st m
  means st y m is = sym (ap (λ (r : Running). r m) (fold_out-Statement Running (statement_step calls) st) ∙ ap (λ (z : Statement-F Statement). statement_step calls (meant z) m) is)

  entering_reads : (c : Completion) (m : Machine) (test : Option Expression) (update : List Statement) (body : Statement) (frames : List Frame) → IsPlain m
      → Reads calls (entering c m (Test test update body) frames) (finish calls frames (going_on c m (looped calls test (meanings calls update) (meaning calls body))))
  entering_reads Normal m test update body frames p = record { gives = (p, refl) }
  entering_reads Breaks m test update body frames p = completing_reads Breaks m frames p
  entering_reads Continues m test update body frames p = completing_reads Continues m frames p
  entering_reads (Returns v) m test update body frames p = completing_reads (Returns v) m frames p
  entering_reads (Halts h) m test update body frames p = completing_reads (Halts h) m frames p

  chosen_or_none : (holds : Bool) (first : Statement) (frames : List Frame) (m : Machine) → IsPlain m
      → Reads calls (Moves (Then (branch holds first None) ∷ frames) m) (finish calls frames (if holds then meaning calls first m else normal m))
  chosen_or_none true first frames m p = record { gives = (p, ap (finish calls frames) (alone (meaning calls first m))) }
  chosen_or_none false first frames m p = record { gives = (p, refl) }

  chosen : (holds : Bool) (first second : Statement) (frames : List Frame) (m : Machine) → IsPlain m
      → Reads calls (Moves (Then (branch holds first (Some second)) ∷ frames) m) (finish calls frames (if holds then meaning calls first m else meaning calls second m))
  chosen true first second frames m p = record { gives = (p, ap (finish calls frames) (alone (meaning calls first m))) }
  chosen false first second frames m p = record { gives = (p, ap (finish calls frames) (alone (meaning calls second m))) }

  opening_reads : (st : Statement) (y : Statement-F Statement) (frames : List Frame) (m : Machine) → out-Statement st ≡ y → IsPlain m
      → Reads calls (opening calls st y frames m) (finish calls frames (meaning calls st m))
  opening_reads st (s.Block items) frames m is p = record { gives = (p, ap (finish calls frames) (means st (s.Block items) m is)) }
  opening_reads st (s.If test first None) frames m is p =
      subst (λ (c : Completed). Reads calls (opening calls st (s.If test first None) frames m) (finish calls frames c)) (means st (s.If test first None) m is)
      (having_reads (value_of calls test (seen_by m) m.turns) m (λ holds n. if is_true holds then meaning calls first n else normal n)
      (λ holds turns. Moves (Then (branch (is_true holds) first None) ∷ frames) (with_turns turns m)) frames p (value_falls calls fall test (seen_by m) m.turns) (λ holds turns less.
      chosen_or_none (is_true holds) first frames (with_turns turns m) (fewer turns m p)))
  opening_reads st (s.If test first (Some second)) frames m is p =
      subst (λ (c : Completed). Reads calls (opening calls st (s.If test first (Some second)) frames m) (finish calls frames c)) (means st (s.If test first (Some second)) m is)
      (having_reads (value_of calls test (seen_by m) m.turns) m (λ holds n. if is_true holds then meaning calls first n else meaning calls second n)
      (λ holds turns. Moves (Then (branch (is_true holds) first (Some second)) ∷ frames) (with_turns turns m)) frames p (value_falls calls fall test (seen_by m) m.turns) (λ holds turns less.
      chosen (is_true holds) first second frames (with_turns turns m) (fewer turns m p)))
  opening_reads st (s.Loop start test update body) frames m is p =
      subst (λ (c : Completed). Reads calls (opening calls st (s.Loop start test update body) frames m) (finish calls frames c)) (means st (s.Loop start test update body) m is)
      (entering_reads (meanings calls start m).completion (meanings calls start m).machine test update body frames (plain_meanings start m p))
  opening_reads st y frames m is p = after_reads (meaning calls st m) frames (plain_meaning st m p)

  statement_reads : (st : Statement) (y : Statement-F Statement) (frames : List Frame) (m : Machine) → out-Statement st ≡ y → IsPlain m
      → Reads calls (move_statement calls st y frames m) (finish calls frames (meaning calls st m))
  statement_reads st (s.Marked mark block) frames m is p =
      subst (λ (c : Completed). Reads calls (at_mark calls mark mark.key block frames m) (finish calls frames c)) (means st (s.Marked mark block) m is) (at_mark_reads mark mark.key block frames m p)
  statement_reads st (s.Gather g) frames m is p =
      subst (λ (c : Completed). Reads calls (at_gather calls g frames m) (finish calls frames c)) (means st (s.Gather g) m is) (at_gather_reads g frames m p)
  statement_reads st (s.Opened body) frames m is p =
      subst (λ (c : Completed). Reads calls (opening calls body (out-Statement body) frames m) (finish calls frames c)) (means st (s.Opened body) m is) (opening_reads body (out-Statement body) frames m refl p)
  statement_reads st y frames m is p = after_reads (meaning calls st m) frames (plain_meaning st m p)

  -- ---- loops

  module _ (test : Option Expression) (update : List Statement) (body : Statement) where
    abbrev next : ℕ → Running
    next most o = after (meanings calls update o) (passes calls test (meanings calls update) (meaning calls body) most)

    abbrev all_next : Running
    all_next o = after (meanings calls update o) (looped calls test (meanings calls update) (meaning calls body))

    -- one pass, and then those that follow it
    pass_same : (most left : ℕ) (m : Machine) → left < most
        → after_body (after (meaning calls body (with_turns left m)) normal) all_next ≡ after_body (meaning calls body (with_turns left m)) (next most)
    pass_same most left m less =
        let once : Completed = meaning calls body (with_turns left m) in
        let then_once : Completed = meanings calls update once.machine in
        let falls : once.machine.turns ≤ left = (meaning_keeps calls fall body (with_turns left m)).falls in
        let falls_on : then_once.machine.turns ≤ once.machine.turns = (meanings_keep calls fall update once.machine).falls in
        ap (λ (c : Completed). after_body c all_next) (alone once)
        ∙ after_body_same once all_next (next most)
        (after_same then_once (looped calls test (meanings calls update) (meaning calls body)) (passes calls test (meanings calls update) (meaning calls body) most)
        (passes_same calls fall test (meanings calls update) (meaning calls body) (meanings_keep calls fall update) (meaning_keeps calls fall body) (suc then_once.machine.turns) most then_once.machine (omega arith) (omega arith)))

    pass_reads : (holds : Bool) (frames : List Frame) (turns : ℕ) (m : Machine) → IsPlain m → turns ≤ m.turns
        → Reads calls (pass holds test update body frames turns m)
        (finish calls frames (if holds then spent (with_turns turns m) (λ left. after_body (meaning calls body left) (next m.turns)) else normal (with_turns turns m)))
    pass_reads true frames turns m p less =
        spending_reads turns m (λ left. after_body (meaning calls body left) (next m.turns)) (λ left. Moves (Then (body ∷ []) ∷ Again test update body ∷ frames) (with_turns left m)) frames p (λ left l.
        record { gives = (fewer left m p, ap (finish calls frames) (pass_same m.turns left m (omega arith))) })
    pass_reads false frames turns m p less = record { gives = (fewer turns m p, refl) }

  move_test_reads : (test : Option Expression) (update : List Statement) (body : Statement) (frames : List Frame) (m : Machine) → IsPlain m
      → Reads calls (move_test calls test update body frames m) (finish calls frames (looped calls test (meanings calls update) (meaning calls body) m))
  move_test_reads None update body frames m p = pass_reads None update body true frames m.turns m p (omega arith)
  move_test_reads (Some test) update body frames m p =
      having_reads (value_of calls test (seen_by m) m.turns) m
      (λ holds n. if is_true holds then spent n (λ left. after_body (meaning calls body left) (next (Some test) update body m.turns)) else normal n)
      (λ holds turns. pass (is_true holds) (Some test) update body frames turns m) frames p (value_falls calls fall test (seen_by m) m.turns)
      (λ holds turns less. pass_reads (Some test) update body (is_true holds) frames turns m p less)

  -- ---- whole calls

  pub move_reads : (frames : List Frame) (m : Machine) → IsPlain m → Reads calls (move calls frames m) (finish calls frames (normal m))
  move_reads [] m p = ends_reads _ m _ p refl
  move_reads (Then [] ∷ frames) m p = record { gives = (p, refl) }
  move_reads (Then (st ∷ ss) ∷ frames) m p = statement_reads st (out-Statement st) (Then ss ∷ frames) m refl p
  move_reads (Test test update body ∷ frames) m p = move_test_reads test update body frames m p
  move_reads (Again test update body ∷ frames) m p =
      entering_reads (meanings calls update m).completion (meanings calls update m).machine test update body frames (plain_meanings update m p)

  -- and so does a run
  pub runs_rest : (frames : List Frame) (m : Machine) (state : CallState) (fields : List Field) → Runs calls frames m state fields → IsPlain m
      → Rested calls state fields (finish calls frames (normal m))
  runs_rest frames m state fields (Rest f n st fs is) p =
      let read : Reads calls (Rests state fields) (finish calls frames (normal m)) = subst (λ (x : Move). Reads calls x (finish calls frames (normal m))) is (move_reads frames m p) in
      read.gives
  runs_rest frames m state fields (Go f next n o st fs is later) p =
      let read : Reads calls (Moves next o) (finish calls frames (normal m)) = subst (λ (x : Move). Reads calls x (finish calls frames (normal m))) is (move_reads frames m p) in
      subst (λ (r : Ending). Rested calls state fields r) read.gives.1 (runs_rest next o state fields later read.gives.0)
