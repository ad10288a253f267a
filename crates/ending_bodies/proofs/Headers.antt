-- The header of a `for` goes: a condition that is the constant `true` to the rules on the flow is so as it is resolved.
use Rattle.std.proofs.Common.{◌≡◌, Bool, true, false, List, Option, Some, None, refl}
use Rattle.java_tree.specs.declared.tree.Expr.{Expr}
use Rattle.java_tree.specs.declared.tree.ForHeader.{ForHeader}
use Rattle.java_types.specs.declared.statements.Around.{Around}
use Rattle.java_types.specs.declared.walk.Walk.{Walk}
use Rattle.java_types.specs.Statements as types
use Rattle.java_types.specs.Walks.{past}
use Rattle.annotations.specs.declared.walk.Walk.{Walk as MarkingWalk}
use Rattle.annotations.specs.Statements as marking
use Rattle.annotations.specs.Walks as marks
use Rattle.access_blocks.specs.declared.body.Expression.{Expression}
use Rattle.access_blocks.specs.declared.body.Statement.{Statement}
use Rattle.access_blocks.specs.Cursors.{Cursor, Read, read}
use Rattle.access_blocks.specs.ResolvingStatements as statements
use Rattle.access_blocks.specs.ResolvingStatements.{list_of, nothing, local, simple_of}
use Rattle.resolved_constants.specs.Laws.{TestsAreKept}
use Rattle.typed_statements.specs.Goes.{Goes}
use Rattle.typed_statements.specs.Leaves.{LeavesGo}
use Rattle.typed_statements.specs.Points.{Setting, IsSoundSomewhere}
use Rattle.typed_statements.proofs.Going.{still, Unmoved}
use Rattle.typed_statements.proofs.Headers.{init_goes, update_goes, init_awaits_none, test_awaits_none}
use Rattle.typed_statements.proofs.Keeping.{keeps_past}
use Rattle.typed_statements.proofs.InTurn.{before, behind, unread, made, in_turn}
use Rattle.typed_statements.proofs.Steps.{past_still, past_unmoved}
use Rattle.ending_bodies.proofs.Meaning.{Fact, Nothing, fact_stable, goes_with}
use Rattle.ending_bodies.proofs.Tests.{IsTrueToo, test_goes}

in_header_unmoved : (in_header : Bool) (u : MarkingWalk) → Unmoved u (record u { in_header = in_header })
in_header_unmoved in_header u = record { back = λ q. q; used = refl; in_entry = refl; locals = refl; awaited = λ q. refl; sites = refl }

-- ---- the parts of a header

-- the start, the condition and the update
abbrev pub Head : Type 0
Head = List Statement × Option Expression × List Statement

abbrev pub head_of : Setting → ForHeader → Cursor → Read Head
head_of k h c =
    let start = statements.init_of k.scope h.init c in
    let test = statements.condition k.scope h.test start.cursor in
    let update = statements.update_of k.scope h.update test.cursor in
    read (start.it, test.it, update.it) update.cursor

module _ (leaves : LeavesGo) (kept : TestsAreKept) (k : Setting) (sound : IsSoundSomewhere k) (a : Around) where
  condition_goes : (test : Option Expr) (w : Walk) (u : MarkingWalk)
      → Goes k w (types.test_walk k.env test w) u (marking.test_walk k.marks test u) (statements.condition k.scope test) (Fact (IsTrueToo test))
  condition_goes None w u = unread k w u None (λ at is e. refl)
  condition_goes (Some x) w u = made k (λ r. Some r.expression) (λ at to r way h. h) (test_goes leaves kept k sound x w u)

  -- ---- the header

  pub header_goes : (h : ForHeader) (w : Walk) (u : MarkingWalk) → u.awaited ≡ None
      → Goes k w (types.header_walk k.env h w) u (marking.header_walk k.marks h u) (head_of k h) (Fact (λ (head : Head). IsTrueToo h.test head.1))
  unfolding types.header_walk marking.header_walk
  header_goes h w u none =
      let Told : Head → Type 0 = λ head. IsTrueToo h.test head.1 in
      let First : List Statement × Option Expression → Type 0 = λ two. IsTrueToo h.test two.1 in
      let w1 = past k.env 1 w in
      let w2 = types.init_walk k.env h.init w1 in
      let w3 = past k.env 1 w2 in
      let w4 = types.test_walk k.env h.test w3 in
      let u0 : MarkingWalk = record u { in_header = true } in
      let u1 = marks.past k.marks 1 u0 in
      let u2 = marking.init_walk k.marks h.init u1 in
      let u3 = marks.past k.marks 1 u2 in
      let u4 = marking.test_walk k.marks h.test u3 in
      let none_behind_init = init_awaits_none k.marks h.init u1 ((keeps_past k.marks 1 u0).none none) in
      let none_behind_test = test_awaits_none k.marks h.test u3 ((keeps_past k.marks 1 u2).none none_behind_init) in
      let start = goes_with k Nothing (λ c s. tt) (init_goes leaves k sound a h.init w1 u1 ((keeps_past k.marks 1 u0).in_header) ((keeps_past k.marks 1 u0).none none)) in
      let update = goes_with k Nothing (λ c s. tt) (update_goes leaves k sound a h.update w4 u4 none_behind_test) in
      let test = before k (fact_stable k (IsTrueToo h.test)) (past_still k.env 1 w2) (past_unmoved k.marks 1 u2) (condition_goes h.test w3 u3) in
      let two : Goes k w1 w4 u1 u4 (λ c. let s = statements.init_of k.scope h.init c in let t = statements.condition k.scope h.test s.cursor in read (s.it, t.it) t.cursor) (Fact First) =
      in_turn k {Means = Fact First} (λ (start : List Statement) (t : Option Expression). (start, t)) (λ at mid to start t p q g h. h) start test in
      let all : Goes k w1 _ u1 _ (head_of k h) (Fact Told) =
      in_turn k {Means = Fact Told} (λ (two : List Statement × Option Expression) (update : List Statement). (two.0, two.1, update)) (λ at mid to two update p q g h. g) two update in
      before k (fact_stable k Told) (still w) (in_header_unmoved true u)
      (behind k (fact_stable k Told)
      (behind k (fact_stable k Told) (before k (fact_stable k Told) (past_still k.env 1 w) (past_unmoved k.marks 1 u0) all) (past_still k.env 1 _) (past_unmoved k.marks 1 _))
      (still _) (in_header_unmoved false _))
