-- Braces close: what was declared since is out of scope, and the method has more variables and locals.
use Rattle.std.proofs.Common.{◌≡◌, suc, List, [], ◌∷◌, ◌++◌, length, map, is_some, refl, sym, ap, subst, ◌∙◌}
use Rattle.body_code.specs.Checking.{Standing}
use Rattle.typed_bodies.specs.Reading.{Place}
use Rattle.typed_statements.specs.Points.{Setting, Point, place_at, Agree, IsPoint, Knows}
use Rattle.typed_statements.specs.Goes.{Grows}
use Rattle.typed_statements.proofs.Wider.{Widens, with_more, agree_still, knows_still}

map_grows : {A B : Type 0} (f : A → B) (xs ys : List A) → Grows xs ys → Grows (map f xs) (map f ys)
map_grows f xs ys g = record { more = map f g.more; is = ap (map f) g.is ∙ map_both f xs g.more }
  where
    map_both : {A B : Type 0} (f : A → B) (xs ys : List A) → map f (xs ++ ys) ≡ map f xs ++ map f ys
    map_both f [] ys = refl
    map_both f (x ∷ xs) ys = ap (λ zs. f x ∷ zs) (map_both f xs ys)

map_length : {A B : Type 0} (f : A → B) (xs : List A) → length (map f xs) ≡ length xs
map_length f [] = refl
map_length f (x ∷ xs) = ap suc (map_length f xs)

abbrev with_all : Place → Point → Place
with_all p to = with_more p to.cursor.variables to.cursor.locals (map is_some to.marks.locals)

place_wide : (k : Setting) (at to : Point) → to.types.variables ≡ at.types.variables → place_at k to ≡ with_all (place_at k at) to
place_wide k at to e = cc

-- a point behind with the names of before in scope
pub record Closes (k : Setting) (at to : Point) : Type 0 where
  pub known : to.types.variables ≡ at.types.variables
  pub variables : Grows at.cursor.variables to.cursor.variables
  pub locals : Grows at.cursor.locals to.cursor.locals
  pub marks : Grows at.marks.locals to.marks.locals

pub widened : (k : Setting) (at to : Point) → IsPoint k at → Closes k at to → Widens (place_at k at) to.cursor.variables to.cursor.locals (map is_some to.marks.locals)
widened k at to p c = record {
  to_variables = c.variables;
  to_locals = c.locals;
  to_partial = map_grows is_some at.marks.locals to.marks.locals c.marks;
  same = map_length is_some at.marks.locals ∙ p.same_marks;
}

pub closed_agree : (k : Setting) (at to : Point) → IsPoint k at → Closes k at to → Agree k (place_at k to)
closed_agree k at to p c =
    subst (Agree k) (sym (place_wide k at to c.known))
    (agree_still k (place_at k at) to.cursor.variables to.cursor.locals (map is_some to.marks.locals) (widened k at to p c) p.agree)

pub closed_knows : (k : Setting) (at to : Point) → IsPoint k at → Closes k at to → (st : Standing) → Knows (place_at k at) st → Knows (place_at k to) st
closed_knows k at to p c st h =
    subst (λ (q : Place). Knows q st) (sym (place_wide k at to c.known))
    (knows_still k (place_at k at) to.cursor.variables to.cursor.locals (map is_some to.marks.locals) (widened k at to p c) p.agree st h)
