-- A body whose end is reached, as it is resolved, has no result, in a class in which no rule has a finding.
use Rattle.std.proofs.Common.{◌≡◌, ℕ, List, [], ◌++◌, map, drop, slice_get, Some, refl, sym, ap, subst, ◌∙◌, append-nil}
use Rattle.std.proofs.lemmas.List.{append_cancel_left}
use Rattle.java_tree.specs.declared.tree.Class.{Class}
use Rattle.java_tree.specs.declared.tree.Method.{Method}
use Rattle.java_tree.specs.declared.types.Declaration.{Declaration}
use Rattle.java_tree.specs.declared.types.ExprType.{ExprType}
use Rattle.java_types.specs.declared.walk.Walk.{Walk}
use Rattle.java_types.specs.Check.{env_of}
use Rattle.java_types.specs.Declarations.{result_type}
use Rattle.java_types.specs.Members.{method_walk}
use Rattle.annotations.specs.declared.site.Site.{Site}
use Rattle.annotations.specs.declared.walk.Walk.{Walk as MarkingWalk}
use Rattle.annotations.specs.Members as marking
use Rattle.annotations.specs.Statements as marking_statements
use Rattle.java_flow.specs.Findings.{body_start, behind_header}
use Rattle.java_flow.specs.Statements as flow
use Rattle.access_blocks.specs.declared.body.Statement.{Statement}
use Rattle.access_blocks.specs.Cursors.{Cursor, Read}
use Rattle.access_blocks.specs.Programs.{methods_in, scope_of, in_method}
use Rattle.access_blocks.specs.Programs as programs
use Rattle.access_blocks.specs.Resolving.{wanted_by}
use Rattle.access_blocks.specs.ResolvingStatements.{item_of, list_of}
use Rattle.body_code.specs.ClassCode as code
use Rattle.body_code.specs.Completing.{leaving_of}
use Rattle.accepted_classes.specs.Classes.{IsQuiet}
use Rattle.accepted_classes.proofs.Entering.{no_locals}
use Rattle.accepted_classes.proofs.MarkedEntering.{no_marks}
use Rattle.accepted_classes.proofs.MethodsGo.{method_sound}
use Rattle.accepted_classes.proofs.Parameters.{result_is}
use Rattle.resolved_constants.specs.Laws.{TestsAreKept}
use Rattle.typed_bodies.specs.Bodies.{bare_of}
use Rattle.typed_statements.specs.Goes.{Behind, Passes, Goes}
use Rattle.typed_statements.specs.Leaves.{LeavesGo}
use Rattle.typed_statements.specs.Points.{Setting, point, IsPoint, IsSoundSomewhere}
use Rattle.walked_bodies.specs.Begun.{names_of, marks_of, before, setting, IsMet}
use Rattle.ending_bodies.specs.Laws.{BodiesComplete}
use Rattle.walked_bodies.proofs.Beginning.{begins, sound_somewhere}
use Rattle.walked_bodies.proofs.Bodies.{body_at}
use Rattle.walked_bodies.proofs.MarksPass as marks
use Rattle.walked_bodies.proofs.OneMethod.{types_begin, marks_begin, around_body}
use Rattle.walked_bodies.proofs.TypesPass as passing
use Rattle.walked_bodies.proofs.Words.{wanted_result}
use Rattle.ending_bodies.proofs.Grown.{item_starts}
use Rattle.ending_bodies.proofs.Items.{body_goes}
use Rattle.ending_bodies.proofs.Leaving.{AllLeave, block_leaves}
use Rattle.ending_bodies.proofs.Meaning.{Fact}
use Rattle.ending_bodies.proofs.Methods.{method_met, ends_without_result, block_quiet, block_has}

-- ---- the statements of a body

module _ (leaves : LeavesGo) (kept : TestsAreKept) (class : Class) (quiet : IsQuiet class) (n : ℕ) (m : Method) (is : slice_get (methods_in class.members) n ≡ Some m)
    (met : IsMet class m (before class n)) where
  abbrev c : Cursor
  c = before class n

  abbrev k : Setting
  k = setting class m c

  abbrev w1 : Walk
  w1 = types_begin class m met.walk

  abbrev u1 : MarkingWalk
  u1 = marks_begin class m met.marks

  abbrev v : Walk
  v = method_walk (env_of class) m met.walk

  abbrev y : MarkingWalk
  y = marking.method_walk (marks_of class) m met.marks

  abbrev reading : Cursor → Read (List Statement)
  reading = list_of (map (item_of (scope_of class) (programs.result_type m.result)) m.body)

  abbrev Leave : List Statement → Type 0
  Leave rs = AllLeave flow.item_of item_starts (map leaving_of rs) m.body

  sound : IsSoundSomewhere k
  sound = sound_somewhere class quiet n m c is (body_at class n m is) (passing.at_params (env_of class) m met.walk) (marks.at_params (marks_of class) m met.marks)

  result_same : result_type m.result ≡ wanted_by (code.result_type m.result)
  result_same = result_is m.result (method_sound (env_of class) m met.walk met.quiet).result

  statements_go : Goes k w1 v u1 y reading (Fact Leave)
  unfolding method_walk
  statements_go =
      subst (λ (z : MarkingWalk). Goes k w1 v u1 z reading (Fact Leave)) (sym (marks.method_is class (names_of class) m met.marks))
      (subst (λ (t : ExprType). Goes k w1 v u1 (marking_statements.in_block k.marks (map (marking_statements.item_walk k.marks) m.body) u1) (list_of (map (item_of k.scope t) m.body)) (Fact Leave))
      (wanted_result m.result) (body_goes leaves kept k sound m.body (around_body m) w1 u1 result_same))

  passes : Passes k w1 v u1 y reading (Fact Leave)
  passes = statements_go.passes met.quiet met.quiet_marks

  -- ---- what is read of them

  same_types : met.types ≡ passes.added.types
  same_types =
      let start = (no_locals class m (passing.at_params (env_of class) m met.walk)).types ∙ (passing.at_params_keeps (env_of class) m met.walk).types in
      append_cancel_left met.walk.types met.types passes.added.types (sym met.to_types ∙ (passes.added.to_types ∙ ap (λ (ts : List ExprType). ts ++ passes.added.types) start))

  same_names : met.names ≡ passes.added.names
  same_names =
      let start = (no_locals class m (passing.at_params (env_of class) m met.walk)).names ∙ (passing.at_params_keeps (env_of class) m met.walk).names in
      append_cancel_left met.walk.names met.names passes.added.names (sym met.to_names ∙ (passes.added.to_names ∙ ap (λ (ns : List Declaration). ns ++ passes.added.names) start))

  stands : IsPoint k (point w1 u1 (in_method m c))
  stands =
      begins class quiet n m c is (body_at class n m is) (passing.at_params (env_of class) m met.walk) (marks.at_params (marks_of class) m met.marks)
      (ap (λ i. drop i (names_of class)) (marks.at_params_keeps (marks_of class) m met.marks).used ∙ met.passed)

  behind : Behind k (point w1 u1 (in_method m c)) v y (reading (in_method m c)) met.more_types met.more_names (Fact Leave)
  behind =
      passes.behind (in_method m c) met.more_types met.more_names stands (met.are_types ∙ ap (λ (ts : List ExprType). ts ++ met.more_types) same_types)
      (met.are_names ∙ ap (λ (ns : List Declaration). ns ++ met.more_names) same_names) (record { more = []; is = sym (append-nil _) })

  same_sites : met.sites ≡ behind.sites
  same_sites =
      let start = (no_marks class (names_of class) m (marks.at_params (marks_of class) m met.marks)).sites ∙ (marks.at_params_keeps (marks_of class) m met.marks).sites in
      append_cancel_left met.marks.sites met.sites behind.sites (sym met.to_sites ∙ (behind.to_sites ∙ ap (λ (ss : List Site). ss ++ behind.sites) start))

  pub statements_leave : Leave (bare_of (scope_of class) m c).statements
  statements_leave = (behind.tells met.more_sites (met.are_sites ∙ ap (λ (ss : List Site). ss ++ met.more_sites) same_sites)).means

-- ---- the law

-- Where statements without statements inside go, and constants are kept, a body whose end is reached has no result.
pub bodies_complete : LeavesGo → TestsAreKept → BodiesComplete
bodies_complete leaves kept class spelled keeps n m is met completes =
    let quiet : IsQuiet class = record { types = keeps.types; annotations = keeps.annotations } in
    let rs = (bare_of (scope_of class) m (before class n)).statements in
    let there = method_met class spelled.placed keeps.flow n m is in
    let end = block_leaves flow.item_of item_starts (map leaving_of rs) m.body (statements_leave leaves kept class quiet n m is met) (body_start (behind_header m there.start)) refl (block_quiet m there) (block_has m there) in
    ends_without_result m there (end.completes completes)
