-- One method in which neither walk finds anything: its body is read in step with both, and its statements are typed.
use Rattle.std.proofs.Common.{◌≡◌, ℕ, false, List, [], ◌++◌, map, drop, slice_get, Some, None, sym, ap, subst, ◌∙◌, append-nil}
use Rattle.std.specs.List.{range_with_len}
use Rattle.java_tree.specs.declared.tree.Class.{Class}
use Rattle.java_tree.specs.declared.tree.Method.{Method}
use Rattle.java_tree.specs.declared.types.Declaration.{Declaration}
use Rattle.java_tree.specs.declared.types.ExprType.{ExprType}
use Rattle.java_types.specs.declared.statements.Around.{Around as TypesAround}
use Rattle.java_types.specs.declared.walk.Walk.{Walk}
use Rattle.java_types.specs.Check.{env_of}
use Rattle.java_types.specs.Declarations.{result_type}
use Rattle.java_types.specs.Members.{method_walk}
use Rattle.annotations.specs.declared.site.Site.{Site}
use Rattle.annotations.specs.declared.walk.Walk.{Walk as MarkingWalk}
use Rattle.annotations.specs.Members as marking
use Rattle.annotations.specs.Statements as marking_statements
use Rattle.access_blocks.specs.declared.body.Statement.{Statement}
use Rattle.access_blocks.specs.Cursors.{Cursor, Read}
use Rattle.access_blocks.specs.Programs.{methods_in, scope_of, in_method, body_of}
use Rattle.access_blocks.specs.Programs as programs
use Rattle.access_blocks.specs.Resolving.{wanted_by}
use Rattle.access_blocks.specs.ResolvingStatements.{item_of, list_of}
use Rattle.body_code.specs.Checking.{at_start}
use Rattle.body_code.specs.ClassCode as code
use Rattle.accepted_classes.specs.Beginning.{at_body, at_marked_body}
use Rattle.accepted_classes.specs.Classes.{resolved_of, IsQuiet}
use Rattle.accepted_classes.proofs.Entering.{no_locals}
use Rattle.accepted_classes.proofs.MarkedEntering.{no_marks}
use Rattle.accepted_classes.proofs.MethodsGo.{method_sound}
use Rattle.accepted_classes.proofs.Parameters.{result_is}
use Rattle.typed_bodies.specs.Bodies.{bare_of}
use Rattle.typed_statements.specs.Checks.{AllTyped}
use Rattle.typed_statements.specs.Goes.{Behind, Passes, Goes}
use Rattle.typed_statements.specs.Laws.{StatementsGo}
use Rattle.typed_statements.specs.Points.{Setting, Point, point, IsPoint, IsSoundSomewhere}
use Rattle.walked_bodies.specs.Begun.{names_of, marks_of, setting, IsMet}
use Rattle.walked_bodies.specs.Walked.{IsWalked}
use Rattle.walked_bodies.proofs.Beginning.{begins, sound_somewhere}
use Rattle.walked_bodies.proofs.MarksPass as marks
use Rattle.walked_bodies.proofs.Starting.{ready}
use Rattle.walked_bodies.proofs.TypesPass as passing
use Rattle.walked_bodies.proofs.Words.{wanted_result}

-- ---- where the body begins

-- the walk of the rules on types there, from before the method on
abbrev pub types_begin : Class → Method → Walk → Walk
types_begin class m w = at_body class m (passing.at_params (env_of class) m w)

-- that of the rules on annotations
abbrev pub marks_begin : Class → Method → MarkingWalk → MarkingWalk
marks_begin class m u = at_marked_body class (names_of class) m (marks.at_params (marks_of class) m u)

abbrev pub around_body : Method → TypesAround
around_body m = record { result = result_type m.result; in_loop = false }

-- a body of the class
pub record IsThere (class : Class) (m : Method) (c : Cursor) : Type 0 where
  pub number : ℕ
  pub method : slice_get (methods_in class.members) number ≡ Some m
  pub body : slice_get (resolved_of class).methods number ≡ Some (body_of (scope_of class) m c).it

-- what the walk of the rules on types adds
pub record Adds (w v : Walk) : Type 0 where
  pub types : List ExprType
  pub names : List Declaration
  pub to_types : v.types ≡ w.types ++ types
  pub to_names : v.names ≡ w.names ++ names

-- what is known behind the body's sites
pub record IsTold (class : Class) (m : Method) (c : Cursor) (more : List Site) : Type 0 where
  pub sites : (body_of (scope_of class) m c).cursor.sites ≡ more
  pub walked : IsWalked class m c

-- The reading goes on behind the body, in step with both walks.
pub record Steps (class : Class) (m : Method) (c : Cursor) (u x : MarkingWalk) (types : List ExprType) (names : List Declaration) : Type 0 where
  pub sites : List Site
  pub to_sites : x.sites ≡ u.sites ++ sites
  pub are_types : (body_of (scope_of class) m c).cursor.types ≡ types
  pub are_names : (body_of (scope_of class) m c).cursor.names ≡ names
  pub passed : drop x.used (names_of class) ≡ (body_of (scope_of class) m c).cursor.names
  pub tells : (more : List Site) → c.sites ≡ sites ++ more → IsTold class m c more

-- ---- the body goes

module _ (go : StatementsGo) (class : Class) (quiet : IsQuiet class) (m : Method) (c : Cursor) (there : IsThere class m c) (w : Walk) (u : MarkingWalk)
    (q : (method_walk (env_of class) m w).findings ≡ []) (qx : (marking.method_walk (marks_of class) m u).findings ≡ []) where
  abbrev k : Setting
  k = setting class m c

  abbrev w1 : Walk
  w1 = types_begin class m w

  abbrev u1 : MarkingWalk
  u1 = marks_begin class m u

  abbrev v : Walk
  v = method_walk (env_of class) m w

  abbrev y : MarkingWalk
  y = marking.method_walk (marks_of class) m u

  abbrev reading : Cursor → Read (List Statement)
  reading = list_of (map (item_of (scope_of class) (programs.result_type m.result)) m.body)

  result_same : result_type m.result ≡ wanted_by (code.result_type m.result)
  result_same = result_is m.result (method_sound (env_of class) m w q).result

  sound : IsSoundSomewhere k
  sound = sound_somewhere class quiet there.number m c there.method there.body (passing.at_params (env_of class) m w) (marks.at_params (marks_of class) m u)

  body_goes : Goes k w1 v u1 y reading (AllTyped k (around_body m))
  unfolding method_walk
  body_goes =
      subst (λ (z : MarkingWalk). Goes k w1 v u1 z reading (AllTyped k (around_body m))) (sym (marks.method_is class (names_of class) m u))
      (subst (λ (t : ExprType). Goes k w1 v u1 (marking_statements.in_block k.marks (map (marking_statements.item_walk k.marks) m.body) u1) (list_of (map (item_of k.scope t) m.body)) (AllTyped k (around_body m)))
      (wanted_result m.result) (go k sound m.body (around_body m) w1 u1 result_same))

  passes : Passes k w1 v u1 y reading (AllTyped k (around_body m))
  passes = body_goes.passes q qx

  pub adds : Adds w v
  adds =
      let before = no_locals class m (passing.at_params (env_of class) m w) in
      let head = passing.at_params_keeps (env_of class) m w in
      let a = passes.added in
      record {
        types = a.types;
        names = a.names;
        to_types = a.to_types ∙ ap (λ ts. ts ++ a.types) (before.types ∙ head.types);
        to_names = a.to_names ∙ ap (λ ns. ns ++ a.names) (before.names ∙ head.names);
      }

  module _ (more_types : List ExprType) (more_names : List Declaration) (are_types : c.types ≡ adds.types ++ more_types) (are_names : c.names ≡ adds.names ++ more_names)
      (passed : drop u.used (names_of class) ≡ c.names) (none : u.awaited ≡ None) where
    stands : IsPoint k (point w1 u1 (in_method m c))
    stands =
        begins class quiet there.number m c there.method there.body (passing.at_params (env_of class) m w) (marks.at_params (marks_of class) m u)
        (ap (λ i. drop i (names_of class)) (marks.at_params_keeps (marks_of class) m u).used ∙ passed)

    behind : Behind k (point w1 u1 (in_method m c)) v y (reading (in_method m c)) more_types more_names (AllTyped k (around_body m))
    unfolding adds
    behind = passes.behind (in_method m c) more_types more_names stands are_types are_names (record { more = []; is = sym (append-nil _) })

    all_sites : y.sites ≡ u.sites ++ behind.sites
    all_sites =
        behind.to_sites
        ∙ ap (λ ss. ss ++ behind.sites) ((no_marks class (names_of class) m (marks.at_params (marks_of class) m u)).sites ∙ (marks.at_params_keeps (marks_of class) m u).sites)

    met : (more : List Site) → c.sites ≡ behind.sites ++ more → IsMet class m c
    met more is = record {
      walk = w;
      marks = u;
      quiet = q;
      quiet_marks = qx;
      types = adds.types;
      names = adds.names;
      more_types = more_types;
      more_names = more_names;
      to_types = adds.to_types;
      to_names = adds.to_names;
      are_types = are_types;
      are_names = are_names;
      passed = passed;
      sites = behind.sites;
      more_sites = more;
      to_sites = all_sites;
      are_sites = is;
    }

    walked : (to : Point) → IsMet class m c → AllTyped k (around_body m) (point w1 u1 (in_method m c)) to (bare_of (scope_of class) m c).statements → IsWalked class m c
    walked to met typed =
        let b = bare_of (scope_of class) m c in
        let r = typed.checked (at_start b) None (range_with_len 0 b.arity)
        (ready class quiet there.number m c there.method there.body (passing.at_params (env_of class) m w) (marks.at_params (marks_of class) m u) (result_type m.result)
        ((marks.at_params_keeps (marks_of class) m u).awaited ∙ none)) in
        record { met = met; after = r.after; walked = r.is }

    pub steps : Steps class m c u y more_types more_names
    steps = record {
      sites = behind.sites;
      to_sites = all_sites;
      are_types = behind.are_types;
      are_names = behind.are_names;
      passed = behind.is_point.names;
      tells = λ more is. let t = behind.tells more is in record { sites = t.sites; walked = walked _ (met more is) t.means };
    }
