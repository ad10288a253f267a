-- Each move of the source: the code does it, whatever comes next of what is left to run.
use Rattle.std.proofs.Common.{◌≡◌, ◌≤◌, ◌+◌, refl, sym, ap, subst, ◌∙◌, ℕ, arith, true, List, [], ◌∷◌, Some, None}
use Rattle.sdg_base.specs.declared.val.Val.{Val}
use Rattle.state_classes.specs.States.{State}
use Rattle.flat_code.specs.declared.graph.Instr.TheVariants as instr
use Rattle.access_blocks.specs.declared.body.Statement.{Statement, out-Statement}
use Rattle.access_blocks.specs.declared.body.Statement.TheOpen.{Statement-F}
use Rattle.access_blocks.specs.declared.body.Statement.TheOpen as s
use Rattle.access_blocks.specs.declared.body.Statement.TheFolds.{fold_out-Statement, map-Statement}
use Rattle.access_blocks.specs.Statements.{Machine, Completed, statement_step, meaning}
use Rattle.access_blocks.specs.Source as source
use Rattle.access_blocks.specs.Source.{Then, Test, Again, after, opening, move_statement, move}
use Rattle.body_code.specs.Completing.{leaving_of, leaving_step}
use Rattle.body_code.specs.StatementCode.{piece_of, piece_step}
use Rattle.body_code.specs.Checking.{Standing, checked, checked_step}
use Rattle.code_meaning.specs.Laid.{frame}
use Rattle.code_meaning.specs.Running.{Ground, IsGround, scope_on, Agrees, is_plain}
use Rattle.code_meaning.specs.Placed.{placing_of, placing_step}
use Rattle.code_meaning.specs.Frames.{Level, ListStands, AreLaid}
use Rattle.code_meaning.specs.Stepping.{AreNamed, coded}
use Rattle.code_meaning.proofs.Lists.{some_is}
use Rattle.code_meaning.proofs.Running.{one_end}
use Rattle.code_meaning.proofs.Agreeing.{agrees_below}
use Rattle.code_meaning.proofs.Placing.{plain_same}
use Rattle.code_meaning.proofs.Reaching.{Reaches, reaches_by, ends_by}
use Rattle.code_meaning.proofs.Laying.{Head, head_of}
use Rattle.code_meaning.proofs.Layers.{pieces, checks, leavings, placings, plain_reads, head_reads, opened_check, opened_reads}
use Rattle.code_meaning.proofs.Moving.{Gives, plain_gives, fields_left}
use Rattle.code_meaning.proofs.Opening.{block_gives, alone_gives}
use Rattle.code_meaning.proofs.Choosing.{chosen_gives}
use Rattle.code_meaning.proofs.Looping.{loop_gives}
use Rattle.code_meaning.proofs.Rounds.{jumps, again_by}
use Rattle.code_meaning.proofs.Testing.{test_gives}
use Rattle.code_meaning.proofs.Marking.{mark_gives}
use Rattle.code_meaning.proofs.Gathering.{gather_gives}

module _ {g : Ground} (ground : IsGround g) (whole : ℕ) (named : AreNamed g) where
  abbrev pub HeadOf : Statement → List source.Frame → Level → ℕ → Standing → ℕ → Type 0
  HeadOf x frames level at st left = Head (coded g whole) frames (piece_of (scope_on g) x) (checked g.around x) (leaving_of x) (placing_of x).placed level at st left

  -- An opened statement means what the one inside means.
  inside_means : (x body : Statement) (m : Machine) → out-Statement x ≡ s.Opened body → meaning g.calls x m ≡ meaning g.calls body m
  inside_means x body m is =
      ap (λ (f : Machine → Completed). f m) (fold_out-Statement (Machine → Completed) (statement_step g.calls) x ∙ ap (λ (z : Statement-F Statement). statement_step g.calls (map-Statement Statement (Machine → Completed) (meaning g.calls) z)) is)

  module _ (frames : List source.Frame) (level : Level) (at left : ℕ) (st : Standing) (room : left ≤ whole) (variables : List Val) (state : State) (m : Machine) (agrees : Agrees g st variables state m) where
    -- ---- statements that are run whole

    whole_gives : (x : Statement) (y : Statement-F Statement) → out-Statement x ≡ y → HeadOf x frames level at st left → (placing_step (placings (coded g whole) y)).plain ≡ true
        → Gives g whole left (frame at [] variables m.turns) state (after (meaning g.calls x m) frames)
    whole_gives x y is h plain = plain_gives g whole ground x (plain_reads (coded g whole) x y is plain) h room agrees

    -- ---- opened statements

    opened_whole : (x body : Statement) → out-Statement x ≡ s.Opened body → HeadOf x frames level at st left → is_plain body ≡ true
        → Gives g whole left (frame at [] variables m.turns) state (after (meaning g.calls body m) frames)
    opened_whole x body is h plain =
        subst (λ c. Gives g whole left (frame at [] variables m.turns) state (after c frames)) (inside_means x body m is)
        (whole_gives x (s.Opened body) is h (plain_same body ∙ plain))

    abbrev Inside : Statement-F Statement → Type 0
    Inside y = Head (coded g whole) frames (piece_step (scope_on g) (pieces (coded g whole) y)) (opened_check (coded g whole) (checked_step g.around (checks (coded g whole) y))) (leaving_step (leavings (coded g whole) y)) (placing_step (placings (coded g whole) y)).opened level at st left

    abbrev InsideGives : Statement → Statement-F Statement → Type 0
    InsideGives body y = Gives g whole left (frame at [] variables m.turns) state (opening g.calls body y frames m)

    opened_gives : (x body : Statement) (y : Statement-F Statement) → out-Statement x ≡ s.Opened body → out-Statement body ≡ y → HeadOf x frames level at st left → Inside y → InsideGives body y
    opened_gives x body (s.Block items) is reads h i = block_gives ground whole items i room agrees
    opened_gives x body (s.If test first None) is reads h i = alone_gives ground whole test first i room agrees
    opened_gives x body (s.If test first (Some second)) is reads h i = chosen_gives ground whole test first second i room agrees
    opened_gives x body (s.Loop start test update inner) is reads h i = loop_gives ground whole start test update inner i room agrees
    opened_gives x body (s.Marked mark block) is reads h i = opened_whole x body is h (plain_reads (coded g whole) body (s.Marked mark block) reads i.is_placed)
    opened_gives x body (s.Gather a) is reads h i = opened_whole x body is h (plain_reads (coded g whole) body (s.Gather a) reads i.is_placed)
    opened_gives x body (s.Opened more) is reads h i = opened_whole x body is h (plain_reads (coded g whole) body (s.Opened more) reads i.is_placed)
    opened_gives x body (s.Assign v e) is reads h i = opened_whole x body is h (plain_reads (coded g whole) body (s.Assign v e) reads i.is_placed)
    opened_gives x body (s.SetElement v a e) is reads h i = opened_whole x body is h (plain_reads (coded g whole) body (s.SetElement v a e) reads i.is_placed)
    opened_gives x body (s.Evaluate e) is reads h i = opened_whole x body is h (plain_reads (coded g whole) body (s.Evaluate e) reads i.is_placed)
    opened_gives x body (s.Access a) is reads h i = opened_whole x body is h (plain_reads (coded g whole) body (s.Access a) reads i.is_placed)
    opened_gives x body s.Break is reads h i = opened_whole x body is h (plain_reads (coded g whole) body s.Break reads i.is_placed)
    opened_gives x body s.Continue is reads h i = opened_whole x body is h (plain_reads (coded g whole) body s.Continue reads i.is_placed)
    opened_gives x body (s.Return e) is reads h i = opened_whole x body is h (plain_reads (coded g whole) body (s.Return e) reads i.is_placed)

    -- ---- any statement

    abbrev StatementGives : Statement → Statement-F Statement → Type 0
    StatementGives x y = Gives g whole left (frame at [] variables m.turns) state (move_statement g.calls x y frames m)

    statement_gives : (x : Statement) (y : Statement-F Statement) → out-Statement x ≡ y → HeadOf x frames level at st left
        → Head (coded g whole) frames (piece_step (scope_on g) (pieces (coded g whole) y)) (checked_step g.around (checks (coded g whole) y)) (leaving_step (leavings (coded g whole) y)) (placing_step (placings (coded g whole) y)).placed level at st left → StatementGives x y
    statement_gives x (s.Marked mark block) is h k = mark_gives ground whole mark block frames k room agrees
    statement_gives x (s.Gather a) is h k = gather_gives ground whole named a frames k room agrees
    statement_gives x (s.Opened body) is h k = opened_gives x body (out-Statement body) is refl h (opened_reads (coded g whole) body (out-Statement body) refl k)
    statement_gives x (s.Block items) is h k = whole_gives x (s.Block items) is h k.is_placed
    statement_gives x (s.If test first None) is h k = whole_gives x (s.If test first None) is h k.is_placed
    statement_gives x (s.If test first (Some second)) is h k = whole_gives x (s.If test first (Some second)) is h k.is_placed
    statement_gives x (s.Loop start test update inner) is h k = whole_gives x (s.Loop start test update inner) is h k.is_placed
    statement_gives x (s.Assign v e) is h k = whole_gives x (s.Assign v e) is h k.is_placed
    statement_gives x (s.SetElement v a e) is h k = whole_gives x (s.SetElement v a e) is h k.is_placed
    statement_gives x (s.Evaluate e) is h k = whole_gives x (s.Evaluate e) is h k.is_placed
    statement_gives x (s.Access a) is h k = whole_gives x (s.Access a) is h k.is_placed
    statement_gives x s.Break is h k = whole_gives x s.Break is h k.is_placed
    statement_gives x s.Continue is h k = whole_gives x s.Continue is h k.is_placed
    statement_gives x (s.Return e) is h k = whole_gives x (s.Return e) is h k.is_placed

    pub head_gives : (x : Statement) → HeadOf x frames level at st left → StatementGives x (out-Statement x)
    head_gives x h = statement_gives x (out-Statement x) refl h (head_reads (coded g whole) x (out-Statement x) refl h)

  -- ---- any frames

  pub move_gives : (frames : List source.Frame) (level : Level) (at left : ℕ) (st : Standing) → AreLaid (coded g whole) frames level true at st left → left ≤ whole
      → (variables : List Val) (state : State) (m : Machine) → Agrees g st variables state m → Gives g whole left (frame at [] variables m.turns) state (move g.calls frames m)
  -- the end of a void body
  move_gives [] level at left st h room variables state m agrees = record {
    gives = record {
      last = frame at [] variables m.turns;
      next = state;
      ends = ends_by g.setting g.code whole {n = 1} (let f = h.few in omega arith) h.few (one_end g.setting g.code instr.ReturnVoid (h.here refl) refl);
      of_result = sym (h.is_void refl);
      left = fields_left agrees.fields;
    };
  }
  move_gives (Then [] ∷ frames) level at left st h room variables state m agrees =
      let k : ListStands (coded g whole) [] level at st h.goes_on h.jump h.to h.next = h.here refl in
      let f = h.few in
      let e : k.place.at + 0 ≡ at = (let z : k.place.at + 0 ≡ k.place.at = omega arith in z ∙ k.is_at) in
      let same : st ≡ k.end = some_is st k.end k.checked in
      record {
        gives = record {
          level = level;
          at = h.to;
          standing = h.next;
          later = h.later;
          variables = variables;
          next = state;
          laid = subst (λ b. AreLaid (coded g whole) frames level b h.to h.next h.later) (k.completes refl) h.rest;
          within = omega arith;
          reaches = subst (λ a. Reaches g.setting g.code whole left h.later (frame a [] variables m.turns) state (frame h.to [] variables m.turns) state) e
              (reaches_by g.setting g.code whole {n = h.jump} (omega arith) (omega arith) (jumps ground whole h.jump (k.place.at + 0) h.to k.comes));
          agrees = agrees_below k.below (subst (λ a. Agrees g a variables state m) same agrees);
        };
      }
  move_gives (Then (x ∷ ss) ∷ frames) level at left st h room variables state m agrees = head_gives (Then ss ∷ frames) level at left st room variables state m agrees x (head_of (coded g whole) x ss frames level at st left h)
  move_gives (Test test update body ∷ frames) level at left st h room variables state m agrees = test_gives ground whole test update body frames h room agrees
  move_gives (Again test update body ∷ frames) level at left st h room variables state m agrees = again_by ground whole test update body frames level h.stands h.few room (h.below refl) agrees (h.is_at refl)
