-- The bodies of a class in which neither walk finds anything are read one after the other in step with both, and their statements are typed.
use Rattle.std.proofs.Common.{◌≡◌, List, [], ◌∷◌, ◌++◌, drop, fold, None, sym, ap, ◌∙◌, append_assoc, append-nil}
use Rattle.java_tree.specs.declared.tree.Class.{Class}
use Rattle.java_tree.specs.declared.tree.Member.{Member}
use Rattle.java_tree.specs.declared.tree.Member.TheVariants as member
use Rattle.java_tree.specs.declared.tree.Method.{Method}
use Rattle.java_tree.specs.declared.types.Declaration.{Declaration}
use Rattle.java_tree.specs.declared.types.ExprType.{ExprType}
use Rattle.java_types.specs.declared.walk.Walk.{Walk}
use Rattle.java_types.specs.Check.{env_of}
use Rattle.java_types.specs.Members.{Membering, named_member, member_walk, method_walk}
use Rattle.java_types.specs.Walks.{most_fields, most_methods}
use Rattle.annotations.specs.declared.site.Site.{Site}
use Rattle.annotations.specs.declared.walk.Walk.{Walk as MarkingWalk}
use Rattle.annotations.specs.Members as marking
use Rattle.access_blocks.specs.Cursors.{Cursor}
use Rattle.access_blocks.specs.Programs.{methods_in, scope_of, body_of}
use Rattle.accepted_classes.specs.Classes.{IsQuiet}
use Rattle.accepted_classes.proofs.MembersGo.{members_sound}
use Rattle.typed_statements.specs.Laws.{StatementsGo}
use Rattle.walked_bodies.specs.Begun.{names_of, marks_of}
use Rattle.walked_bodies.proofs.MarksPass as marks
use Rattle.walked_bodies.proofs.MarksPass.{members_back}
use Rattle.walked_bodies.specs.Walked.{IsWalked}
use Rattle.walked_bodies.proofs.OneMethod.{IsThere, Adds, Steps, adds, steps}
use Rattle.walked_bodies.proofs.TypesPass as passing

-- ---- bodies one after the other

abbrev pub AreThere : Class → Cursor → List Method → Type 0
AreThere class c [] = Unit {0}
AreThere class c (m ∷ ms) = IsThere class m c × AreThere class (body_of (scope_of class) m c).cursor ms

abbrev pub AreWalked : Class → Cursor → List Method → Type 0
AreWalked class c [] = Unit {0}
AreWalked class c (m ∷ ms) = IsWalked class m c × AreWalked class (body_of (scope_of class) m c).cursor ms

-- the sites that the walk of the rules on annotations adds; where those are read, the bodies are typed
pub record IsSited (class : Class) (u x : MarkingWalk) (c : Cursor) (ms : List Method) : Type 0 where
  pub sites : List Site
  pub to_sites : x.sites ≡ u.sites ++ sites
  pub walked : c.sites ≡ sites → AreWalked class c ms

-- What the walks add over members, and how their bodies are read of it.
pub record InStep (class : Class) (w v : Walk) (u x : MarkingWalk) (c : Cursor) (ms : List Method) : Type 0 where
  pub added : Adds w v
  pub reads : c.types ≡ added.types → c.names ≡ added.names → drop u.used (names_of class) ≡ c.names → IsSited class u x c ms

-- ---- over members

module _ (class : Class) where
  none_left : (w : Walk) (u : MarkingWalk) (c : Cursor) → InStep class w w u u c []
  none_left w u c = record {
    added = record { types = []; names = []; to_types = sym (append-nil w.types); to_names = sym (append-nil w.names) };
    reads = λ is_types is_names passed. record { sites = []; to_sites = sym (append-nil u.sites); walked = λ is. tt };
  }

  behind_types : {w w1 v : Walk} {u x : MarkingWalk} {c : Cursor} (ms : List Method) → passing.Keeps w w1 → InStep class w1 v u x c ms → InStep class w v u x c ms
  behind_types ms k s = record {
    added = record {
      types = s.added.types;
      names = s.added.names;
      to_types = s.added.to_types ∙ ap (λ ts. ts ++ s.added.types) k.types;
      to_names = s.added.to_names ∙ ap (λ ns. ns ++ s.added.names) k.names;
    };
    reads = s.reads;
  }

  behind_marks : {w v : Walk} {u u1 x : MarkingWalk} {c : Cursor} (ms : List Method) → marks.Keeps u u1 → InStep class w v u1 x c ms → InStep class w v u x c ms
  behind_marks ms k s = record {
    added = s.added;
    reads = λ is_types is_names passed.
        let r = s.reads is_types is_names (ap (λ i. drop i (names_of class)) k.used ∙ passed) in
        record { sites = r.sites; to_sites = r.to_sites ∙ ap (λ ss. ss ++ r.sites) k.sites; walked = r.walked };
  }

  -- the bodies behind the first
  further : {u y x : MarkingWalk} {m : Method} {ms : List Method} {c : Cursor} {types : List ExprType} {names : List Declaration}
      → Steps class m c u y types names → IsSited class y x (body_of (scope_of class) m c).cursor ms → IsSited class u x c (m ∷ ms)
  further {u = u} one rest = record {
    sites = one.sites ++ rest.sites;
    to_sites = rest.to_sites ∙ (ap (λ ss. ss ++ rest.sites) one.to_sites ∙ append_assoc u.sites one.sites rest.sites);
    walked = λ is. let t = one.tells rest.sites is in (t.walked, rest.walked t.sites);
  }

  module _ (go : StatementsGo) (quiet : IsQuiet class) where
    behind_method : {v : Walk} {x : MarkingWalk} (m : Method) (ms : List Method) (c : Cursor) (w : Walk) (u : MarkingWalk) → IsThere class m c → (method_walk (env_of class) m w).findings ≡ []
        → (marking.method_walk (marks_of class) m u).findings ≡ [] → u.awaited ≡ None → InStep class (method_walk (env_of class) m w) v (marking.method_walk (marks_of class) m u) x (body_of (scope_of class) m c).cursor ms
        → InStep class w v u x c (m ∷ ms)
    behind_method m ms c w u there q qx none s =
        let a = adds go class quiet m c there w u q qx in
        record {
          added = record {
            types = a.types ++ s.added.types;
            names = a.names ++ s.added.names;
            to_types = s.added.to_types ∙ (ap (λ ts. ts ++ s.added.types) a.to_types ∙ append_assoc w.types a.types s.added.types);
            to_names = s.added.to_names ∙ (ap (λ ns. ns ++ s.added.names) a.to_names ∙ append_assoc w.names a.names s.added.names);
          };
          reads = λ is_types is_names passed.
              let one = steps go class quiet m c there w u q qx s.added.types s.added.names is_types is_names passed none in further one (s.reads one.are_types one.are_names one.passed);
        }

    pub members_in_step : (ms : List Member) (b : Membering) (u : MarkingWalk) (c : Cursor) → AreThere class c (methods_in ms) → (fold (member_walk (env_of class)) b ms).walk.findings ≡ []
        → (fold (marking.member_walk (marks_of class)) u ms).findings ≡ [] → u.awaited ≡ None
        → InStep class b.walk (fold (member_walk (env_of class)) b ms).walk u (fold (marking.member_walk (marks_of class)) u ms) c (methods_in ms)
    members_in_step [] b u c there q qx none = none_left b.walk u c
    members_in_step (member.Field f ∷ ms) b u c there q qx none =
        let named = named_member f.name most_fields b.walk.at b.seen.fields b.walk in
        behind_types (methods_in ms) (passing.both (passing.named_keeps f.name most_fields b.walk.at b.seen.fields b.walk) (passing.field_keeps (env_of class) f b.walk.at named.walk))
        (behind_marks (methods_in ms) (marks.field_keeps (marks_of class) f u)
        (members_in_step ms (member_walk (env_of class) b (member.Field f)) (marking.field_walk (marks_of class) f u) c there q qx ((marks.field_keeps (marks_of class) f u).awaited ∙ none)))
    members_in_step (member.Method m ∷ ms) b u c there q qx none =
        let named = named_member m.name most_methods b.walk.at b.seen.methods b.walk in
        let next = member_walk (env_of class) b (member.Method m) in
        let x = marking.method_walk (marks_of class) m u in
        let quiet_there = members_back (marks_of class) ms x qx in
        behind_types (m ∷ methods_in ms) (passing.named_keeps m.name most_methods b.walk.at b.seen.methods b.walk)
        (behind_method m (methods_in ms) c named.walk u there.0 (members_sound (env_of class) ms next q).back quiet_there none
        (members_in_step ms next x (body_of (scope_of class) m c).cursor there.1 q qx (marks.method_awaits_none class (names_of class) m u quiet_there)))
