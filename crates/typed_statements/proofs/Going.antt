-- Parts of a method go one after another.
use Rattle.std.proofs.Common.{◌≡◌, List, [], ◌++◌, length, drop, refl, sym, ap, subst, ◌∙◌, append_assoc, append-nil}
use Rattle.java_types.specs.declared.walk.Walk.{Walk}
use Rattle.annotations.specs.declared.walk.Walk.{Walk as MarkingWalk}
use Rattle.access_blocks.specs.Cursors.{Cursor}
use Rattle.typed_bodies.specs.Reading.{Place}
use Rattle.typed_statements.specs.Points.{Setting, Point, point, place_at, Agree, IsPoint}
use Rattle.typed_statements.specs.Goes.{Grows}

-- ---- lists that grow

pub same : {A : Type 0} (xs : List A) → Grows xs xs
same xs = record { more = []; is = sym (append-nil xs) }

pub further : {A : Type 0} {xs ys zs : List A} → Grows xs ys → Grows ys zs → Grows xs zs
further {xs = xs} a b = record { more = a.more ++ b.more; is = b.is ∙ (ap (λ vs. vs ++ b.more) a.is ∙ append_assoc xs a.more b.more) }

pub grown_from : {A : Type 0} {xs ys zs : List A} → ys ≡ xs → Grows ys zs → Grows xs zs
grown_from {ys = ys} {zs = zs} e g = subst (λ vs. Grows vs zs) e g

pub grown_to : {A : Type 0} {xs ys zs : List A} → Grows xs ys → zs ≡ ys → Grows xs zs
grown_to {xs = xs} g e = subst (λ vs. Grows xs vs) (sym e) g

-- ---- steps of the walks that tell nothing

pub record Still (w v : Walk) : Type 0 where
  pub back : v.findings ≡ [] → w.findings ≡ []
  pub types : v.types ≡ w.types
  pub names : v.names ≡ w.names
  pub variables : v.variables ≡ w.variables
  pub locals : v.locals ≡ w.locals

pub record Unmoved (u x : MarkingWalk) : Type 0 where
  pub back : x.findings ≡ [] → u.findings ≡ []
  pub used : x.used ≡ u.used
  pub in_entry : x.in_entry ≡ u.in_entry
  pub locals : x.locals ≡ u.locals
  pub awaited : x.findings ≡ [] → x.awaited ≡ u.awaited
  pub sites : x.sites ≡ u.sites

pub still : (w : Walk) → Still w w
still w = record { back = λ q. q; types = refl; names = refl; variables = refl; locals = refl }

pub unmoved : (u : MarkingWalk) → Unmoved u u
unmoved u = record { back = λ q. q; used = refl; in_entry = refl; locals = refl; awaited = λ q. refl; sites = refl }

-- ---- points that are alike

abbrev as_place : Place → Place → Type 0
as_place p q = q ≡ p

pub place_same : (k : Setting) (at to : Point) → to.types.variables ≡ at.types.variables → to.cursor.variables ≡ at.cursor.variables → to.cursor.locals ≡ at.cursor.locals
    → to.marks.locals ≡ at.marks.locals → place_at k to ≡ place_at k at
place_same k at to a b c d = cc

pub record Alike (k : Setting) (at to : Point) : Type 0 where
  pub known : to.types.variables ≡ at.types.variables
  pub types : to.types.locals ≡ at.types.locals
  pub marks : to.marks.locals ≡ at.marks.locals
  pub in_entry : to.marks.in_entry ≡ at.marks.in_entry
  pub variables : to.cursor.variables ≡ at.cursor.variables
  pub locals : to.cursor.locals ≡ at.cursor.locals
  pub names : drop to.marks.used k.marks.names ≡ to.cursor.names

pub alike_place : {k : Setting} {at to : Point} → Alike k at to → place_at k to ≡ place_at k at
alike_place {k = k} {at = at} {to = to} a = place_same k at to a.known a.variables a.locals a.marks

pub alike_point : {k : Setting} {at to : Point} → Alike k at to → IsPoint k at → IsPoint k to
alike_point {k = k} a p = record {
  agree = subst (Agree k) (sym (alike_place a)) p.agree;
  same_locals = ap length a.types ∙ (p.same_locals ∙ sym (ap length a.locals));
  same_marks = ap length a.marks ∙ (p.same_marks ∙ sym (ap length a.locals));
  in_entry = a.in_entry ∙ p.in_entry;
  names = a.names;
}

pub still_alike : (k : Setting) {w v : Walk} {u x : MarkingWalk} (c : Cursor) → Still w v → Unmoved u x → IsPoint k (point w u c) → Alike k (point w u c) (point v x c)
still_alike k c s m p = record {
  known = s.variables;
  types = s.locals;
  marks = m.locals;
  in_entry = m.in_entry;
  variables = refl;
  locals = refl;
  names = ap (λ n. drop n k.marks.names) m.used ∙ p.names;
}
