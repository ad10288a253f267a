-- `for` goes where its body goes.
use Rattle.std.proofs.Common.{◌≡◌, true, false, List, Option, None, ap, ◌∙◌}
use Rattle.java_tree.specs.declared.tree.BlockItem.TheOpen as s
use Rattle.java_tree.specs.declared.tree.ForHeader.{ForHeader}
use Rattle.java_types.specs.declared.statements.Around.{Around}
use Rattle.java_types.specs.declared.walk.Walk.{Walk}
use Rattle.java_types.specs.Walks.{past}
use Rattle.java_types.specs.Simples as types_simples
use Rattle.java_types.specs.Statements as types
use Rattle.annotations.specs.declared.walk.Env.{Env as MarkingEnv}
use Rattle.annotations.specs.declared.walk.Walk.{Walk as MarkingWalk}
use Rattle.annotations.specs.Simples as marking_simples
use Rattle.annotations.specs.Statements as marking
use Rattle.annotations.specs.Walks as marks
use Rattle.access_blocks.specs.declared.body.Expression.{Expression}
use Rattle.access_blocks.specs.declared.body.Statement.{Statement}
use Rattle.access_blocks.specs.declared.body.Statement.TheVariants as statement
use Rattle.access_blocks.specs.Cursors.{Cursor, Read, read}
use Rattle.access_blocks.specs.ResolvingStatements.{Stating, condition, init_of, update_of, for_of}
use Rattle.typed_statements.specs.Points.{Setting, Point, IsSoundSomewhere}
use Rattle.typed_statements.specs.Goes.{Goes}
use Rattle.typed_statements.specs.Leaves.{Stated, LeavesGo}
use Rattle.typed_statements.proofs.Going.{Unmoved, still}
use Rattle.typed_statements.proofs.InTurn.{Way, before, behind, in_turn}
use Rattle.typed_statements.proofs.Standings.{longer}
use Rattle.typed_statements.proofs.Steps.{past_still, past_unmoved, unmerged_merges_none}
use Rattle.typed_statements.proofs.Keeping.{keeps_past}
use Rattle.typed_statements.proofs.Closing.{closed_knows}
use Rattle.typed_statements.proofs.Blocks.{Closing, outer, closing}
use Rattle.typed_statements.proofs.Gathering.{list_bare}
use Rattle.typed_statements.proofs.Headers.{Starts, Conditions, Updates, starts_stable, updates_stable, unmerged_awaits_none, init_awaits_none, test_awaits_none, init_goes, test_goes, update_goes}
use Rattle.typed_statements.proofs.Looping.{in_head, Turns, loop_typed}
use Rattle.typed_statements.proofs.StatedStatements.{stated_stable, way_both, closes_here}

-- ---- what is read of a `for`, part after part

abbrev Update : Type 0
Update = List Statement × Statement

abbrev Test : Type 0
Test = Option Expression × Update

abbrev Whole : Type 0
Whole = List Statement × Test

abbrev for_made : Whole → Statement
for_made z = statement.Loop z.0 z.1.0 z.1.1.0 z.1.1.1

-- from the update on
record FromUpdate (k : Setting) (a : Around) (at to : Point) (z : Update) : Type 0 where
  ready : Point
  to_ready : Way k at ready
  to_end : Way k ready to
  updates : Updates k (in_head a) at ready z.0
  runs_body : Stated k (types.in_loop a) ready to z.1

-- from the test on
record FromTest (k : Setting) (a : Around) (at to : Point) (z : Test) : Type 0 where
  tested : Point
  to_tested : Way k at tested
  conditions : Conditions k at tested z.0
  others : FromUpdate k a tested to z.1

record FromStart (k : Setting) (a : Around) (at to : Point) (z : Whole) : Type 0 where
  begun : Point
  to_begun : Way k at begun
  starts : Starts k (in_head a) at begun z.0
  others : FromTest k a begun to z.1

-- ---- the loop is typed

for_typed : (k : Setting) (a : Around) (at ended to : Point) (z : Whole) → at.marks.awaited ≡ None → Closing k at ended to → FromStart k a at ended z → Stated k a at to (for_made z)
for_typed k a at ended to z none c f =
    let t = f.others in
    let u = t.others in
    let none_tested = t.conditions.awaited ∙ f.starts.none_awaited in
    let d = u.updates none_tested in
    let tested = closes_here t.to_tested t.conditions.same_known in
    let ready = closes_here (way_both t.to_tested u.to_ready) (d.same_known ∙ t.conditions.same_known) in
    let turns : Turns k a at f.begun t.tested u.ready ended z.0 z.1.0 z.1.1.0 z.1.1.1 = record {
      starts = f.starts.typed;
      bare = λ exits st after b e. list_bare k.around z.0 f.starts.ungathered exits st after b e;
      holds = t.conditions.holds;
      longer_tested = longer t.to_tested.variables;
      known_tested = λ st h. closed_knows k f.begun t.tested t.to_tested.begins tested.closes st h;
      updates = d.typed;
      known_ready = λ st h. closed_knows k f.begun u.ready t.to_tested.begins ready.closes st h;
      runs_body = u.runs_body.typed;
      none_at = none;
      none_tested = none_tested;
      none_ready = d.none_awaited;
    } in
    let none_behind = ap (λ (m : MarkingWalk). m.awaited) c.same_marks ∙ u.runs_body.none_awaited in
    record {
      typed = loop_typed k a at f.begun t.tested u.ready ended z.0 z.1.0 z.1.1.0 z.1.1.1 turns to c none_behind;
      same_known = c.closes.known;
      none_awaited = none_behind;
    }

-- ---- in the header and behind it

abbrev headed : MarkingEnv → MarkingWalk → MarkingWalk
headed env u = marks.past env 1 (record u { in_header = true })

headed_unmoved : (env : MarkingEnv) (u : MarkingWalk) → Unmoved u (headed env u)
headed_unmoved env u =
    let p = past_unmoved env 1 (record u { in_header = true }) in
    record { back = p.back; used = p.used; in_entry = p.in_entry; locals = p.locals; awaited = p.awaited; sites = p.sites }

abbrev unheaded : MarkingEnv → MarkingWalk → MarkingWalk
unheaded env u = record (marks.past env 1 u) { in_header = false }

unheaded_unmoved : (env : MarkingEnv) (u : MarkingWalk) → Unmoved u (unheaded env u)
unheaded_unmoved env u =
    let p = past_unmoved env 1 u in
    record { back = p.back; used = p.used; in_entry = p.in_entry; locals = p.locals; awaited = p.awaited; sites = p.sites }

-- ---- the parts in turn

module _ (leaves : LeavesGo) (k : Setting) (sound : IsSoundSomewhere k) (header : ForHeader) (a : Around) (body : types.Running) (walking : marking.Running) (reading : Stating)
    (goes : (w : Walk) (u : MarkingWalk) → Goes k w (body (types.in_loop a) w) u (walking u) reading (Stated k (types.in_loop a))) where
  abbrev head : Around
  head = in_head a

  -- behind the start, the test and the header, of each walk
  abbrev behind_start : Walk → Walk
  behind_start w = past k.env 1 (types.init_walk k.env header.init (past k.env 1 w))

  abbrev behind_test : Walk → Walk
  behind_test w = types.test_walk k.env header.test (behind_start w)

  abbrev behind_header : Walk → Walk
  behind_header w = past k.env 1 (types_simples.simples k.env header.update (behind_test w))

  abbrev marks_start : MarkingWalk → MarkingWalk
  marks_start u = marks.past k.marks 1 (marking.init_walk k.marks header.init (headed k.marks u))

  abbrev marks_test : MarkingWalk → MarkingWalk
  marks_test u = marking.test_walk k.marks header.test (marks_start u)

  abbrev marks_header : MarkingWalk → MarkingWalk
  marks_header u = unheaded k.marks (marking_simples.simples k.marks header.update (marks_test u))

  headed_awaits_none : (u : MarkingWalk) → u.awaited ≡ None → (headed k.marks u).awaited ≡ None
  headed_awaits_none u none = (keeps_past k.marks 1 (record u { in_header = true })).none none

  test_none : (u : MarkingWalk) → u.awaited ≡ None → (marks_test u).awaited ≡ None
  test_none u none =
      test_awaits_none k.marks header.test (marks_start u)
      ((keeps_past k.marks 1 (marking.init_walk k.marks header.init (headed k.marks u))).none (init_awaits_none k.marks header.init (headed k.marks u) (headed_awaits_none u none)))

  start_turn : (w : Walk) (u : MarkingWalk) → u.awaited ≡ None → Goes k w (behind_start w) u (marks_start u) (init_of k.scope header.init) (Starts k head)
  start_turn w u none =
      behind k (starts_stable k head)
      (before k (starts_stable k head) (past_still k.env 1 w) (headed_unmoved k.marks u)
      (init_goes leaves k sound head header.init (past k.env 1 w) (headed k.marks u) ((keeps_past k.marks 1 (record u { in_header = true })).in_header) (headed_awaits_none u none)))
      (past_still k.env 1 _) (past_unmoved k.marks 1 _)

  update_turn : (w : Walk) (u : MarkingWalk) → u.awaited ≡ None → Goes k (behind_test w) (behind_header w) (marks_test u) (marks_header u) (update_of k.scope header.update) (Updates k head)
  update_turn w u none =
      behind k (updates_stable k head) (update_goes leaves k sound head header.update (behind_test w) (marks_test u) (test_none u none)) (past_still k.env 1 _)
      (unheaded_unmoved k.marks (marking_simples.simples k.marks header.update (marks_test u)))

  abbrev behind_body : Walk → Walk
  behind_body w = body (types.in_loop a) (behind_header w)

  abbrev marks_body : MarkingWalk → MarkingWalk
  marks_body u = walking (marks_header u)

  abbrev update_read : Cursor → Read Update
  update_read c = let us = update_of k.scope header.update c in read (us.it, (reading us.cursor).it) (reading us.cursor).cursor

  abbrev test_read : Cursor → Read Test
  test_read c = let t = condition k.scope header.test c in read (t.it, (update_read t.cursor).it) (update_read t.cursor).cursor

  abbrev whole_read : Cursor → Read Whole
  whole_read c = let xs = init_of k.scope header.init c in read (xs.it, (test_read xs.cursor).it) (test_read xs.cursor).cursor

  update_on : (w : Walk) (u : MarkingWalk) → u.awaited ≡ None → Goes k (behind_test w) (behind_body w) (marks_test u) (marks_body u) update_read (FromUpdate k a)
  update_on w u none =
      in_turn k {First = Updates k head} {Second = Stated k (types.in_loop a)} {Means = FromUpdate k a} (λ (us : List Statement) (x : Statement). (us, x))
      (λ at mid to us x p q updates stated. record { ready = mid; to_ready = p; to_end = q; updates = updates; runs_body = stated }) (update_turn w u none) (goes (behind_header w) (marks_header u))

  test_on : (w : Walk) (u : MarkingWalk) → u.awaited ≡ None → Goes k (behind_start w) (behind_body w) (marks_start u) (marks_body u) test_read (FromTest k a)
  test_on w u none =
      in_turn k {First = Conditions k} {Second = FromUpdate k a} {Means = FromTest k a} (λ (t : Option Expression) (z : Update). (t, z))
      (λ at mid to t z p q conditions others. record { tested = mid; to_tested = p; conditions = conditions; others = others })
      (test_goes leaves k sound head header.test (behind_start w) (marks_start u)) (update_on w u none)

  whole_on : (w : Walk) (u : MarkingWalk) → u.awaited ≡ None → Goes k w (behind_body w) u (marks_body u) whole_read (FromStart k a)
  whole_on w u none =
      in_turn k {First = Starts k head} {Second = FromTest k a} {Means = FromStart k a} (λ (xs : List Statement) (z : Test). (xs, z))
      (λ at mid to xs z p q starts others. record { begun = mid; to_begun = p; starts = starts; others = others }) (start_turn w u none) (test_on w u none)

  closed : (w : Walk) (u : MarkingWalk) → u.awaited ≡ None → Goes k w (outer w (behind_body w)) u (marks_body u) (for_of k.scope header reading) (Stated k a)
  closed w u none =
      closing k w (behind_body w) u (marks_body u) whole_read (FromStart k a) (Stated k a) for_made
      (λ at inside to z quiet is_at is_to c f. for_typed k a at inside to z (ap (λ (m : MarkingWalk). m.awaited) is_at ∙ none) c f) (whole_on w u none)

  pub for_goes : (w : Walk) (u : MarkingWalk)
      → Goes k w (types.statement_step k.env (s.For header body) a w) u (marking.statement_step k.marks (s.For header walking) u) (for_of k.scope header reading) (Stated k a)
  unfolding types.header_walk marking.header_walk
  for_goes w u = before k (stated_stable k a) (still w) (unmerged_merges_none u).moved (closed w (marks.unmerged u) (unmerged_awaits_none u))
