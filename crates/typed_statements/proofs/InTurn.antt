-- What goes in turn: steps before and behind, one part after another, and what is made of them.
use Rattle.std.proofs.Common.{◌≡◌, List, [], ◌++◌, sym, ap, ◌∙◌, append_assoc, append-nil}
use Rattle.java_tree.specs.declared.types.ExprType.{ExprType}
use Rattle.java_tree.specs.declared.types.Declaration.{Declaration}
use Rattle.java_types.specs.declared.walk.Walk.{Walk}
use Rattle.annotations.specs.declared.site.Site.{Site}
use Rattle.annotations.specs.declared.walk.Walk.{Walk as MarkingWalk}
use Rattle.access_blocks.specs.Cursors.{Cursor, Read, read}
use Rattle.typed_statements.specs.Points.{Setting, Point, point, IsPoint}
use Rattle.typed_statements.specs.Goes.{Grows, Brings, Meaning, Behind, Goes}
use Rattle.typed_statements.proofs.Going.{same, further, grown_from, grown_to, Still, Unmoved, Alike, alike_point, still_alike}

-- the same point, for all that statements mean
pub record Same (k : Setting) (at to : Point) : Type 0 where
  pub alike : Alike k at to
  pub awaited : to.marks.awaited ≡ at.marks.awaited

pub record Stable {A : Type 0} (k : Setting) (Means : Meaning A) : Type 0 where
  pub from : (at mid to : Point) (a : A) → Same k at mid → Means mid to a → Means at to a
  pub to : (at mid to : Point) (a : A) → Same k mid to → Means at mid a → Means at to a

-- what lies between two points
pub record Way (k : Setting) (at to : Point) : Type 0 where
  pub begins : IsPoint k at
  pub ends : IsPoint k to
  pub known : Grows at.types.variables to.types.variables
  pub variables : Grows at.cursor.variables to.cursor.variables
  pub locals : Grows at.cursor.locals to.cursor.locals
  pub marks : Grows at.marks.locals to.marks.locals

still_same : (k : Setting) {w v : Walk} {u x : MarkingWalk} (c : Cursor) → x.findings ≡ [] → Still w v → Unmoved u x → IsPoint k (point w u c) → Same k (point w u c) (point v x c)
still_same k c quiet s m p = record { alike = still_alike k c s m p; awaited = m.awaited quiet }

abbrev brings_before : {w v y : Walk} → Still w v → Brings v y → Brings w y
brings_before s b = record {
  types = b.types;
  names = b.names;
  quiet = s.back b.quiet;
  to_types = b.to_types ∙ ap (λ (ts : List ExprType). ts ++ b.types) s.types;
  to_names = b.to_names ∙ ap (λ (ns : List Declaration). ns ++ b.names) s.names;
  variables = grown_from s.variables b.variables;
}

behind_before : {A : Type 0} (k : Setting) {Means : Meaning A} {w v y : Walk} {u x z : MarkingWalk} {c : Cursor} {r : Read A} {types : List ExprType} {names : List Declaration} → Stable k Means → Unmoved u x → Same k (point w u c) (point v x c)
    → Behind k (point v x c) y z r types names Means → Behind k (point w u c) y z r types names Means
behind_before k {w = w} {v = v} {y = y} {u = u} {x = x} {z = z} {c = c} {r = r} st m s b = record {
  is_point = b.is_point;
  are_types = b.are_types;
  are_names = b.are_names;
  locals = b.locals;
  marks = grown_from m.locals b.marks;
  sites = b.sites;
  to_sites = b.to_sites ∙ ap (λ (ss : List Site). ss ++ b.sites) m.sites;
  tells = λ more is. (let t = b.tells more is in record { sites = t.sites; means = st.from (point w u c) (point v x c) (point y z r.cursor) r.it s t.means });
}

abbrev brings_behind : {w v y : Walk} → Brings w v → Still v y → Brings w y
brings_behind b s = record {
  types = b.types;
  names = b.names;
  quiet = b.quiet;
  to_types = s.types ∙ b.to_types;
  to_names = s.names ∙ b.to_names;
  variables = grown_to b.variables s.variables;
}

behind_behind : {A : Type 0} (k : Setting) {Means : Meaning A} {at : Point} {v y : Walk} {x z : MarkingWalk} {r : Read A} {types : List ExprType} {names : List Declaration} → Stable k Means → z.findings ≡ [] → Still v y → Unmoved x z
    → Behind k at v x r types names Means → Behind k at y z r types names Means
behind_behind k {at = at} {v = v} {y = y} {x = x} {z = z} {r = r} st quiet s m b =
    let a = still_same k r.cursor quiet s m b.is_point in
    record {
      is_point = alike_point a.alike b.is_point;
      are_types = b.are_types;
      are_names = b.are_names;
      locals = b.locals;
      marks = grown_to b.marks m.locals;
      sites = b.sites;
      to_sites = m.sites ∙ b.to_sites;
      tells = λ more is. (let t = b.tells more is in record { sites = t.sites; means = st.to at (point v x r.cursor) (point y z r.cursor) r.it a t.means });
    }

module _ {A : Type 0} (k : Setting) {Means : Meaning A} {reading : Cursor → Read A} where
  pub before : {w v y : Walk} {u x z : MarkingWalk} → Stable k Means → Still w v → Unmoved u x → Goes k v y x z reading Means → Goes k w y u z reading Means
  before st s m g = record {
    back = λ q. m.back (g.back q);
    grows = g.grows;
    passes = λ qv qx.
        let p = g.passes qv qx in
        record {
          added = brings_before s p.added;
          behind = λ c types names is ts ns all.
              let a = still_same k c (g.back qx) s m is in
              behind_before k st m a (p.behind c types names (alike_point a.alike is) ts ns all);
        };
  }

  pub behind : {w v y : Walk} {u x z : MarkingWalk} → Stable k Means → Goes k w v u x reading Means → Still v y → Unmoved x z → Goes k w y u z reading Means
  behind st g s m = record {
    back = λ q. g.back (m.back q);
    grows = g.grows;
    passes = λ qv qx.
        let p = g.passes (s.back qv) (m.back qx) in
        record { added = brings_behind p.added s; behind = λ c types names is ts ns all. behind_behind k st qx s m (p.behind c types names is ts ns all) };
  }

-- no step
pub stays : (k : Setting) (at : Point) → IsPoint k at → Way k at at
stays k at is = record {
  begins = is;
  ends = is;
  known = same at.types.variables;
  variables = same at.cursor.variables;
  locals = same at.cursor.locals;
  marks = same at.marks.locals;
}

-- nothing is read, where neither walk has found anything
pub unread_there : {A : Type 0} (k : Setting) {Means : Meaning A} (w : Walk) (u : MarkingWalk) (a : A)
    → ((c : Cursor) → w.findings ≡ [] → u.findings ≡ [] → IsPoint k (point w u c) → Means (point w u c) (point w u c) a) → Goes k w w u u (λ c. read a c) Means
unread_there k w u a means = record {
  back = λ q. q;
  grows = λ c. same c.variables;
  passes = λ qv qx. record {
    added = record { types = []; names = []; quiet = qv; to_types = sym (append-nil w.types); to_names = sym (append-nil w.names); variables = same w.variables };
    behind = λ c types names is ts ns all. record {
      is_point = is;
      are_types = ts;
      are_names = ns;
      locals = same c.locals;
      marks = same u.locals;
      sites = [];
      to_sites = sym (append-nil u.sites);
      tells = λ more ss. record { sites = ss; means = means c qv qx is };
    };
  };
}

-- nothing is read
pub unread : {A : Type 0} (k : Setting) {Means : Meaning A} (w : Walk) (u : MarkingWalk) (a : A) → ((at : Point) → IsPoint k at → Means at at a) → Goes k w w u u (λ c. read a c) Means
unread k w u a means = unread_there k w u a (λ c qv qx is. means (point w u c) is)

-- something is made of what is read, where it is known from where, and that nothing is found
pub made_there : {A B : Type 0} (k : Setting) (w v : Walk) (u x : MarkingWalk) (reading : Cursor → Read A) {First : Meaning A} {Means : Meaning B} (f : A → B)
    → ((c : Cursor) → x.findings ≡ [] → Way k (point w u c) (point v x (reading c).cursor) → First (point w u c) (point v x (reading c).cursor) (reading c).it
    → Means (point w u c) (point v x (reading c).cursor) (f (reading c).it))
    → Goes k w v u x reading First → Goes k w v u x (λ c. read (f (reading c).it) (reading c).cursor) Means
made_there k w v u x reading f means g = record {
  back = g.back;
  grows = g.grows;
  passes = λ qv qx.
      let p = g.passes qv qx in
      record {
        added = p.added;
        behind = λ c types names is ts ns all.
            let b = p.behind c types names is ts ns all in
            record {
              is_point = b.is_point;
              are_types = b.are_types;
              are_names = b.are_names;
              locals = b.locals;
              marks = b.marks;
              sites = b.sites;
              to_sites = b.to_sites;
              tells = λ more ss.
                  let t = b.tells more ss in
                  record {
                    sites = t.sites;
                    means = means c qx (record { begins = is; ends = b.is_point; known = p.added.variables; variables = g.grows c; locals = b.locals; marks = b.marks }) t.means;
                  };
            };
      };
}

-- something is made of what is read
pub made : {A B : Type 0} (k : Setting) {w v : Walk} {u x : MarkingWalk} {reading : Cursor → Read A} {First : Meaning A} {Means : Meaning B} (f : A → B)
    → ((at to : Point) (a : A) → Way k at to → First at to a → Means at to (f a)) → Goes k w v u x reading First → Goes k w v u x (λ c. read (f (reading c).it) (reading c).cursor) Means
made k {w = w} {v = v} {u = u} {x = x} {reading = reading} f means g =
    made_there k w v u x reading f (λ c qx way first. means (point w u c) (point v x (reading c).cursor) (reading c).it way first) g

-- ---- one after the other

abbrev brings_both : {w v y : Walk} → Brings w v → Brings v y → Brings w y
brings_both {w = w} a b = record {
  types = a.types ++ b.types;
  names = a.names ++ b.names;
  quiet = a.quiet;
  to_types = b.to_types ∙ (ap (λ (ts : List ExprType). ts ++ b.types) a.to_types ∙ append_assoc w.types a.types b.types);
  to_names = b.to_names ∙ (ap (λ (ns : List Declaration). ns ++ b.names) a.to_names ∙ append_assoc w.names a.names b.names);
  variables = further a.variables b.variables;
}

module _ {A B C : Type 0} (k : Setting) {w v y : Walk} {u x z : MarkingWalk} {first : Cursor → Read A} {second : Cursor → Read B} {First : Meaning A} {Second : Meaning B} {Means : Meaning C} (f : A → B → C)
    (means : (at mid to : Point) (a : A) (b : B) → Way k at mid → Way k mid to → First at mid a → Second mid to b → Means at to (f a b)) where
  pub in_turn : Goes k w v u x first First → Goes k v y x z second Second → Goes k w y u z (λ c. read (f (first c).it (second (first c).cursor).it) (second (first c).cursor).cursor) Means
  in_turn g h = record {
    back = λ q. g.back (h.back q);
    grows = λ c. further (g.grows c) (h.grows (first c).cursor);
    passes = λ qy qz.
        let q = h.passes qy qz in
        let p = g.passes q.added.quiet (h.back qz) in
        record {
          added = brings_both p.added q.added;
          behind = λ c types names is ts ns all.
              let mid = (first c).cursor in
              let b = p.behind c (q.added.types ++ types) (q.added.names ++ names) is (ts ∙ append_assoc p.added.types q.added.types types) (ns ∙ append_assoc p.added.names q.added.names names)
              (further (h.grows mid) all) in
              let d = q.behind mid types names b.is_point b.are_types b.are_names all in
              record {
                is_point = d.is_point;
                are_types = d.are_types;
                are_names = d.are_names;
                locals = further b.locals d.locals;
                marks = further b.marks d.marks;
                sites = b.sites ++ d.sites;
                to_sites = d.to_sites ∙ (ap (λ (ss : List Site). ss ++ d.sites) b.to_sites ∙ append_assoc u.sites b.sites d.sites);
                tells = λ more ss.
                    let t = b.tells (d.sites ++ more) (ss ∙ append_assoc b.sites d.sites more) in
                    let s = d.tells more t.sites in
                    record {
                      sites = s.sites;
                      means = means (point w u c) (point v x mid) (point y z (second mid).cursor) (first c).it (second mid).it
                          (record { begins = is; ends = b.is_point; known = p.added.variables; variables = g.grows c; locals = b.locals; marks = b.marks })
                          (record { begins = b.is_point; ends = d.is_point; known = q.added.variables; variables = h.grows mid; locals = d.locals; marks = d.marks }) t.means s.means;
                    };
              };
        };
  }
