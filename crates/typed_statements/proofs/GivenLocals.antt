-- A declaration with a value goes: the value is put into the variable of the local, or gathered for the statement behind it where the
-- local is `@Partial`.
use Rattle.std.proofs.Common.{◌≡◌, Bool, true, false, not, ◌&&◌, List, [], ◌++◌, length, drop, is_some, slice_get, unwrap_or, Some, None, refl, sym, ap, subst, ◌∙◌}
use Rattle.java_tree.specs.declared.tree.Local.{Local}
use Rattle.java_tree.specs.declared.tree.Value.{Value as Written, out-Value}
use Rattle.java_tree.specs.declared.types.ValueType.{ValueType}
use Rattle.java_tree.specs.declared.types.ExprType.{ExprType}
use Rattle.java_tree.specs.declared.types.ExprType.TheVariants.{Value}
use Rattle.java_tree.specs.declared.types.Declaration.{Declaration}
use Rattle.java_types.specs.declared.statements.Around.{Around}
use Rattle.java_types.specs.declared.walk.Walk.{Walk}
use Rattle.java_types.specs.Expressions.{Passing, value_walk}
use Rattle.java_types.specs.Fits.{fits}
use Rattle.java_types.specs.Simples.{put, typed_name}
use Rattle.java_types.specs.Walks.{past, past_if}
use Rattle.annotations.specs.declared.site.Site.{Site}
use Rattle.annotations.specs.declared.walk.Walk.{Walk as MarkingWalk}
use Rattle.annotations.specs.Expressions as marking
use Rattle.annotations.specs.Positions.{initialiser_of}
use Rattle.annotations.specs.Simples.{awaiting, gathers}
use Rattle.annotations.specs.Walks as marks
use Rattle.access_blocks.specs.declared.body.Statement.{Statement}
use Rattle.access_blocks.specs.declared.body.Target.TheVariants as target
use Rattle.access_blocks.specs.Cursors.{Cursor, Read}
use Rattle.access_blocks.specs.ResolvingStatements.{declared_type, value_to}
use Rattle.typed_bodies.specs.Laws.{ExpressionsAreTyped}
use Rattle.typed_bodies.specs.Marking.{Begins}
use Rattle.typed_bodies.specs.Reading.{Place, Adds, Stands}
use Rattle.typed_bodies.specs.StayLaws.{PartsStay}
use Rattle.typed_bodies.specs.Targets as targets
use Rattle.typed_bodies.specs.Targets.{IsPut, Puts, Takes}
use Rattle.typed_bodies.specs.WholeLaws.{WholesAreTyped}
use Rattle.typed_statements.specs.Points.{Setting, Point, point, IsSoundSomewhere, place_at, IsPoint}
use Rattle.typed_statements.specs.Checks.{Typed}
use Rattle.typed_statements.specs.Goes.{Grows, Behind, Goes}
use Rattle.typed_statements.proofs.Adding.{value_adds, stands_as}
use Rattle.typed_statements.proofs.Declaring.{named_walk, walk_adds, walk_declares_value, found_agrees}
use Rattle.typed_statements.proofs.DeclaredTyped.{initialised_typed, gathered_typed}
use Rattle.typed_statements.proofs.Fitting.{Moves, moves_alike, stands_in, stands_at, agrees_at, is_ready}
use Rattle.typed_statements.proofs.Going.{Unmoved, grown_to}
use Rattle.typed_statements.proofs.Initialising.{Finishes, finishes, noted_stays, unmoved_both, put_still, put_fits, whole_initialiser, global_as_partial}
use Rattle.typed_statements.proofs.LocalsBehind.{marked_name, cursor_named, point_named, entered_named, brings_local, local_behind}
use Rattle.typed_statements.proofs.NewPlace.{Entered, new_variables}
use Rattle.typed_statements.proofs.Steps.{past_still, past_unmoved}

module _ (expressions : ExpressionsAreTyped) (wholes : WholesAreTyped) (stay : PartsStay) (k : Setting) (there : IsSoundSomewhere k) (l : Local) (written : Written) (a : Around) (w : Walk) (u : MarkingWalk) where
  -- ---- the walks, and what is read

  abbrev type : ValueType
  type = declared_type l.type_name

  abbrev named : Walk
  named = named_walk k.env l w

  abbrev start : Walk
  start = past k.env 1 named

  abbrev passing : Passing
  passing = value_walk k.env written start

  abbrev v : Walk
  v = put (typed_name k.env w.at l.type_name (past_if k.env l.is_partial 2 w)).found passing (out-Value written).expr start.at

  abbrev behind_name : MarkingWalk
  behind_name = marks.past k.marks 1 (marked_name k l u)

  abbrev begin : MarkingWalk
  begin = marks.noted (l.is_partial && not (gathers k.marks behind_name written)) u.at 7 behind_name

  abbrev y : MarkingWalk
  y = (marking.value_of k.marks written).walk (initialiser_of l.is_partial) begin

  abbrev x : MarkingWalk
  x = awaiting l.is_partial (length u.locals) u.at (marks.unmerged y)

  abbrev given : Cursor → Read Statement
  given c = value_to k.scope (target.Variable (length c.variables)) (Value type) written (cursor_named l c)

  abbrev is_global : Bool
  is_global = (out-Value written).is_global

  -- ---- steps

  ends : Finishes l.is_partial (length u.locals) u.at y x
  ends = finishes l.is_partial (length u.locals) u.at y

  begins : Unmoved (marked_name k l u) begin
  begins = unmoved_both (past_unmoved k.marks 1 (marked_name k l u)) (noted_stays (l.is_partial && not (gathers k.marks behind_name written)) u.at 7 behind_name)

  begin_quiet : x.findings ≡ [] → begin.findings ≡ []
  begin_quiet quiet = stay.found_before_value (place_at k there.point) written (initialiser_of l.is_partial) begin (ends.back quiet)

  as_partial : x.findings ≡ [] → is_global ≡ l.is_partial
  as_partial quiet = global_as_partial stay (place_at k there.point) l.is_partial u.at written behind_name (ends.back quiet)

  value_quiet : v.findings ≡ [] → passing.walk.findings ≡ []
  value_quiet quiet = (put_still _ passing (out-Value written).expr start.at).back quiet

  adds : v.findings ≡ [] → Adds start passing.walk
  adds quiet = value_adds expressions k there written start (value_quiet quiet)

  name_quiet : v.findings ≡ [] → named.findings ≡ []
  name_quiet quiet = (past_still k.env 1 named).back (adds quiet).no_findings

  value_fits : v.findings ≡ [] → fits (Value type) passing.given.found ≡ true
  value_fits quiet =
      ap (λ (t : ExprType). fits t passing.given.found) (sym (found_agrees k.env l w (name_quiet quiet)))
      ∙ put_fits (typed_name k.env w.at l.type_name (past_if k.env l.is_partial 2 w)).found passing (out-Value written).expr start.at quiet

  keeps : (c : Cursor) → (given c).cursor.variables ≡ (cursor_named l c).variables
  keeps c = (stay.values_keep k.scope (target.Variable (length c.variables)) (Value type) written (cursor_named l c)).variables

  -- ---- the value

  module _ (quiet : v.findings ≡ []) (quiet_marks : x.findings ≡ []) (c : Cursor) (types : List ExprType) (names : List Declaration) (is : IsPoint k (point w u c))
      (ts : c.types ≡ (adds quiet).types ++ types) (ns : c.names ≡ (adds quiet).names ++ names) (all : Grows (cursor_named l c).variables k.around.context.variables) where
    abbrev at : Point
    at = point w u c

    abbrev mid : Point
    mid = point_named k l w u c

    abbrev p : Place
    p = place_at k mid

    abbrev to : Point
    to = point v x (given c).cursor

    e : Entered k at mid l.is_partial type
    e = entered_named k l w u c (name_quiet quiet) is all

    takes : Takes k.around is_global (target.Variable (length c.variables)) (Value type)
    takes = (type, refl, λ q. e.typed (sym (as_partial quiet_marks) ∙ q))

    puts : Puts p k.around is_global (target.Variable (length c.variables)) (Value type) start passing.walk (marking.value_of k.marks written).walk (value_to k.scope (target.Variable (length c.variables)) (Value type) written)
    puts = wholes.values p e.is_point.agree.sound k.around (stands_in k mid e.is_point.agree) (target.Variable (length c.variables)) (Value type) written takes start (value_quiet quiet) (value_fits quiet)

    known : start.variables ≡ p.known
    known = (past_still k.env 1 named).variables

    stands : Stands p (cursor_named l c) (puts.added.types ++ types) (puts.added.names ++ names)
    stands = stands_as p (cursor_named l c) (adds quiet) puts.added types names (stands_at k named (marked_name k l u) (cursor_named l c) ((adds quiet).types ++ types) ((adds quiet).names ++ names) ts ns)

    behind_it : Stands p (given c).cursor types names
    behind_it = puts.behind known (cursor_named l c) types names stands

    begins_there : Begins p ((marking.value_of k.marks written).walk (initialiser_of l.is_partial)) puts.added.names begin names
    begins_there = record {
      agrees = λ n. ap (λ ls. is_some (unwrap_or (slice_get ls n) None)) begins.locals ∙ agrees_at k mid n;
      before = ap (λ i. drop i k.marks.names) begins.used ∙ (e.is_point.names ∙ stands.are_names);
      quiet = ends.back quiet_marks;
    }

    is_put : IsPut p k.around is_global (target.Variable (length c.variables)) (Value type) begin y names (cursor_named l c) (given c)
    is_put = puts.put known (cursor_named l c) types names stands (initialiser_of l.is_partial) (whole_initialiser l.is_partial) begin begins_there

    moves : Moves k named v (marked_name k l u) x (cursor_named l c) (given c).cursor types names
    moves =
        let s = past_still k.env 1 named in
        let t = put_still (typed_name k.env w.at l.type_name (past_if k.env l.is_partial 2 w)).found passing (out-Value written).expr start.at in
        record {
          known = t.variables ∙ ((adds quiet).same_variables ∙ s.variables);
          locals_known = t.locals ∙ ((adds quiet).same_locals ∙ s.locals);
          marks = ends.locals ∙ (is_put.leaves.locals ∙ begins.locals);
          in_entry = ends.in_entry ∙ (is_put.leaves.in_entry ∙ begins.in_entry);
          variables = behind_it.are_variables;
          locals = behind_it.are_locals;
          are_types = behind_it.are_types;
          are_names = behind_it.are_names;
          behind = ap (λ i. drop i k.marks.names) ends.used ∙ is_put.leaves.behind;
        }

    -- ---- it is typed

    module _ (g : targets.Goes p k.around is_global (target.Variable (length c.variables)) (Value type) begin (given c).it) where
      put_typed : l.is_partial ≡ false → Typed k a at to (given c).it
      put_typed plain =
          let none : is_global ≡ false = as_partial quiet_marks ∙ plain in
          initialised_typed k at mid l.is_partial type e a to (moves_alike moves) (given c).it plain (ends.none plain quiet_marks) (record {
            reads = g.reads;
            assigns = g.assigns ∙ ap (λ b. targets.assigned_by b (target.Variable (length c.variables)) g.reads) none;
            runs = λ exits st knows waits.
                g.runs exits st (is_ready k mid begin st g.reads e.is_point (begins.awaited (begin_quiet quiet_marks)) begins.in_entry knows waits)
                ∙ ap (λ b. Some (targets.behind_whole b (target.Variable (length c.variables)) g.brings st)) none;
          })

      waits_typed : l.is_partial ≡ true → Typed k a at to (given c).it
      waits_typed partial =
          let some : is_global ≡ true = as_partial quiet_marks ∙ partial in
          gathered_typed k at mid l.is_partial type e a to (moves_alike moves) (given c).it partial u.at (ends.waits partial ∙ ap (λ n. Some (record { local = n; token = u.at })) is.same_marks) (record {
            reads = g.reads;
            brings = g.brings;
            of_type = g.of_type some type refl;
            assigns = g.assigns ∙ ap (λ b. targets.assigned_by b (target.Variable (length c.variables)) g.reads) some;
            runs = λ exits st knows waits.
                g.runs exits st (is_ready k mid begin st g.reads e.is_point (begins.awaited (begin_quiet quiet_marks)) begins.in_entry knows waits)
                ∙ ap (λ b. Some (targets.behind_whole b (target.Variable (length c.variables)) g.brings st)) some;
          })

      given_typed : Typed k a at to (given c).it
      given_typed = by l.is_partial refl
        where
          by : (b : Bool) → l.is_partial ≡ b → Typed k a at to (given c).it
          by true partial = waits_typed partial
          by false plain = put_typed plain

    given_behind : Behind k at v x (given c) types names (Typed k a)
    given_behind =
        local_behind k l w v u x c (given c) types names (Typed k a) (name_quiet quiet) is all moves is_put.leaves.sites
        (ends.sites ∙ (is_put.leaves.to_sites ∙ ap (λ (ss : List Site). ss ++ is_put.leaves.sites) begins.sites))
        (λ more ss. record { sites = is_put.sites_read more ss; means = given_typed (is_put.goes more ss) })

  pub given_goes : Goes k w v u x given (Typed k a)
  given_goes = record {
    back = λ q. sym (walk_adds k.marks l.is_partial u.at u).findings ∙ begins.back (begin_quiet q);
    grows = λ c. grown_to (new_variables l.is_partial type c) (keeps c);
    passes = λ qv qx.
        let s = past_still k.env 1 named in
        let t = put_still (typed_name k.env w.at l.type_name (past_if k.env l.is_partial 2 w)).found passing (out-Value written).expr start.at in
        let b = adds qv in
        record {
          added = brings_local b.types b.names (walk_declares_value k.env l w (name_quiet qv)) (t.types ∙ (b.to_types ∙ ap (λ (zs : List ExprType). zs ++ b.types) s.types))
              (t.names ∙ (b.to_names ∙ ap (λ (zs : List Declaration). zs ++ b.names) s.names)) (t.variables ∙ (b.same_variables ∙ s.variables));
          behind = λ c types names is ts ns all. given_behind qv qx c types names is ts ns (subst (λ (zs : List ValueType). Grows zs k.around.context.variables) (keeps c) all);
        };
  }
