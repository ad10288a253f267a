-- A declaration without a value goes: the local starts with a value of its type.
use Rattle.std.proofs.Common.{◌≡◌, false, List, [], length, drop, refl, sym, ap, ◌∙◌, append-nil}
use Rattle.java_tree.specs.declared.tree.Local.{Local}
use Rattle.java_tree.specs.declared.types.ExprType.{ExprType}
use Rattle.java_tree.specs.declared.types.Declaration.{Declaration}
use Rattle.java_types.specs.declared.statements.Around.{Around}
use Rattle.java_types.specs.declared.walk.Walk.{Walk}
use Rattle.annotations.specs.declared.walk.Walk.{Walk as MarkingWalk}
use Rattle.annotations.specs.Simples.{awaiting}
use Rattle.annotations.specs.Walks.{noted, unmerged}
use Rattle.access_blocks.specs.declared.body.Statement.{Statement}
use Rattle.access_blocks.specs.declared.body.Statement.TheVariants as statement
use Rattle.access_blocks.specs.Cursors.{Cursor, Read, read}
use Rattle.access_blocks.specs.ResolvingStatements.{declared_type, start_expression}
use Rattle.typed_bodies.specs.PartLaws.{PartsAreTyped}
use Rattle.typed_statements.specs.Points.{Setting, point, place_at, IsPoint}
use Rattle.typed_statements.specs.Checks.{Typed}
use Rattle.typed_statements.specs.Goes.{Grows, Behind, Goes}
use Rattle.typed_statements.proofs.Declaring.{named_walk, walk_adds, walk_declares_value}
use Rattle.typed_statements.proofs.DeclaredTyped.{initialised_typed}
use Rattle.typed_statements.proofs.Fitting.{Moves, moves_alike, stands_in}
use Rattle.typed_statements.proofs.Initialising.{Finishes, finishes, noted_quiet, noted_stays}
use Rattle.typed_statements.proofs.LocalsBehind.{marked_name, cursor_named, point_named, entered_named, brings_local, local_behind}
use Rattle.typed_statements.proofs.NewPlace.{Entered, new_variables}

module _ (parts : PartsAreTyped) (k : Setting) (l : Local) (a : Around) (w : Walk) (u : MarkingWalk) where
  abbrev v : Walk
  v = named_walk k.env l w

  abbrev y : MarkingWalk
  y = noted l.is_partial u.at 7 (marked_name k l u)

  abbrev x : MarkingWalk
  x = awaiting l.is_partial (length u.locals) u.at (unmerged y)

  abbrev started : Cursor → Read Statement
  started c = read (statement.Assign (length c.variables) (start_expression (declared_type l.type_name))) (cursor_named l c)

  ends : Finishes l.is_partial (length u.locals) u.at y x
  ends = finishes l.is_partial (length u.locals) u.at y

  no_partial : x.findings ≡ [] → l.is_partial ≡ false
  no_partial quiet = (noted_quiet l.is_partial u.at 7 (marked_name k l u) (ends.back quiet)).0

  started_typed : v.findings ≡ [] → x.findings ≡ [] → (c : Cursor) → (e : Entered k (point w u c) (point_named k l w u c) l.is_partial (declared_type l.type_name)) → (types : List ExprType) (names : List Declaration)
      → Moves k v v (marked_name k l u) x (cursor_named l c) (cursor_named l c) types names → Typed k a (point w u c) (point v x (cursor_named l c)) (started c).it
  started_typed quiet quiet_marks c e types names m =
      let at = point w u c in
      let mid = point_named k l w u c in
      let plain = no_partial quiet_marks in
      let s = parts.starts (place_at k mid) k.around (stands_in k mid e.is_point.agree) (length c.variables) (declared_type l.type_name) (e.typed plain) in
      initialised_typed k at mid l.is_partial (declared_type l.type_name) e a (point v x (cursor_named l c)) (moves_alike m) (started c).it plain (ends.none plain quiet_marks)
      (record { reads = []; assigns = s.assigns; runs = λ exits st knows waits. s.runs exits st })

  started_moves : (c : Cursor) (types : List ExprType) (names : List Declaration) → c.types ≡ types → c.names ≡ names → IsPoint k (point w u c)
      → Moves k v v (marked_name k l u) x (cursor_named l c) (cursor_named l c) types names
  started_moves c types names ts ns is =
      let n = noted_stays l.is_partial u.at 7 (marked_name k l u) in
      record {
        known = refl;
        locals_known = refl;
        marks = ends.locals ∙ n.locals;
        in_entry = ends.in_entry ∙ n.in_entry;
        variables = refl;
        locals = refl;
        are_types = ts;
        are_names = ns;
        behind = ap (λ i. drop i k.marks.names) (ends.used ∙ (n.used ∙ (walk_adds k.marks l.is_partial u.at u).used)) ∙ (is.names ∙ ns);
      }

  started_behind : v.findings ≡ [] → x.findings ≡ [] → (c : Cursor) (types : List ExprType) (names : List Declaration) → IsPoint k (point w u c) → c.types ≡ types → c.names ≡ names
      → Grows (cursor_named l c).variables k.around.context.variables → Behind k (point w u c) v x (started c) types names (Typed k a)
  started_behind quiet quiet_marks c types names is ts ns all =
      let n = noted_stays l.is_partial u.at 7 (marked_name k l u) in
      let m = started_moves c types names ts ns is in
      local_behind k l w v u x c (started c) types names (Typed k a) quiet is all m [] (ends.sites ∙ (n.sites ∙ sym (append-nil (marked_name k l u).sites)))
      (λ more ss. record { sites = ss; means = started_typed quiet quiet_marks c (entered_named k l w u c quiet is all) types names m })

  pub started_goes : Goes k w v u x started (Typed k a)
  started_goes = record {
    back = λ q.
        let n = noted_stays l.is_partial u.at 7 (marked_name k l u) in
        sym (walk_adds k.marks l.is_partial u.at u).findings ∙ n.back (ends.back q);
    grows = λ c. new_variables l.is_partial (declared_type l.type_name) c;
    passes = λ qv qx. record {
      added = brings_local [] [] (walk_declares_value k.env l w qv) (sym (append-nil v.types)) (sym (append-nil v.names)) refl;
      behind = λ c types names is ts ns all. started_behind qv qx c types names is ts ns all;
    };
  }
