-- Behind the name of a declaration the method has one more local, and a variable where it is not `@Partial`: what is known of names
-- is sound again.
use Rattle.std.proofs.Common.{◌≡◌, ℕ, suc, zero, ◌<◌, Bool, true, false, not, List, [], ◌∷◌, ◌++◌, length, map, drop, is_some, slice_get, unwrap_or, Option, Some, None, refl, sym, ap, subst, ◌∙◌, ◌⊎◌, inl, inr, arith}
use Rattle.sdg_base.specs.declared.value_type.ValueType.{ValueType as SignatureType}
use Rattle.java_tree.specs.declared.types.ValueType.{ValueType}
use Rattle.java_tree.specs.declared.types.ExprType.TheVariants.{Value}
use Rattle.java_tree.specs.declared.types.Declaration.TheVariants as declaration
use Rattle.java_types.specs.declared.walk.Variable.{Variable}
use Rattle.java_types.specs.declared.walk.Walk.{Walk}
use Rattle.annotations.specs.declared.walk.Walk.{Walk as MarkingWalk}
use Rattle.annotations.specs.Walks as marking
use Rattle.access_blocks.specs.Cursors.{Cursor, declared, no_variable, variable_of}
use Rattle.body_code.specs.Typing.{Context, type_by, variable_type, variable_type_in, one_type}
use Rattle.typed_bodies.specs.Reading.{Place, cursor_at, known_as, is_plain}
use Rattle.typed_bodies.specs.Needing.{InScope}
use Rattle.typed_statements.specs.Points.{Setting, Point, point, place_at, Agree, IsPoint}
use Rattle.typed_statements.specs.Goes.{Grows}
use Rattle.typed_statements.proofs.Going.{same}
use Rattle.typed_statements.proofs.Wider.{get_still, scope_back}
use Rattle.typed_statements.proofs.Closing.{Closes, closed_agree, widened}
use Rattle.typed_statements.proofs.Declaring.{Declares, Adds, new_local}
use Rattle.typed_statements.proofs.NewName.{IsLocal, with_name, agree_named, known_either, scope_either}

-- ---- lists with one more behind

get_last : {A : Type 0} (xs : List A) (x : A) (n : ℕ) → n ≡ length xs → slice_get (xs ++ x ∷ []) n ≡ Some x
get_last [] x n e = ap (λ i. slice_get (x ∷ []) i) e
get_last (y ∷ xs) x zero e = absurd (cc)
get_last (y ∷ xs) x (suc n) e = get_last xs x n (cc)

one_longer : {A : Type 0} (xs : List A) (x : A) → length (xs ++ x ∷ []) ≡ suc (length xs)
one_longer [] x = refl
one_longer (y ∷ xs) x = ap suc (one_longer xs x)

pub within_more : {A : Type 0} (xs : List A) (x : A) (n : ℕ) → n ≡ length xs → n < length (xs ++ x ∷ [])
within_more xs x n e = subst (λ i. n < i) (sym (one_longer xs x)) (below n (length xs) e)
  where
    below : (n m : ℕ) → n ≡ m → n < suc m
    below n m e = grind (arith)

map_more : {A B : Type 0} (f : A → B) (xs : List A) (x : A) → map f (xs ++ x ∷ []) ≡ map f xs ++ f x ∷ []
map_more f [] x = refl
map_more f (y ∷ xs) x = ap (λ ys. f y ∷ ys) (map_more f xs x)

map_length : {A B : Type 0} (f : A → B) (xs : List A) → length (map f xs) ≡ length xs
map_length f [] = refl
map_length f (x ∷ xs) = ap suc (map_length f xs)

-- ---- the variable of the new local

pub new_variables : (is_partial : Bool) (t : ValueType) (c : Cursor) → Grows c.variables (declared is_partial t c).variables
new_variables true t c = same c.variables
new_variables false t c = record { more = t ∷ []; is = refl }

new_slot : (is_partial : Bool) (t : ValueType) (c : Cursor) → is_partial ≡ false → slice_get (declared is_partial t c).variables (length c.variables) ≡ Some t
new_slot true t c e = absurd (cc)
new_slot false t c e = get_last c.variables t (length c.variables) refl

new_within : (is_partial : Bool) (t : ValueType) (c : Cursor) → is_partial ≡ false → length c.variables < length (declared is_partial t c).variables
new_within true t c e = absurd (cc)
new_within false t c e = within_more c.variables t (length c.variables) refl

new_typed : (context : Context) (number : ℕ) (t : ValueType) → ((m : SignatureType) → context.members ≡ Some m → 0 < number) → slice_get context.variables number ≡ Some t
    → variable_type context number ≡ Some (type_by t)
new_typed context number t first is = by context.members number first (ap one_type is)
  where
    by : (members : Option SignatureType) (number : ℕ) → ((m : SignatureType) → members ≡ Some m → 0 < number) → one_type (slice_get context.variables number) ≡ Some (type_by t)
        → variable_type_in members context.variables number ≡ Some (type_by t)
    by None number first is = is
    by (Some m) zero first is = absurd (never (first m refl))
      where
        never : 0 < 0 → ⊥
        never e = grind (arith)
    by (Some m) (suc number) first is = is

token_is : (b : Bool) (n : ℕ) → is_some (marking.token_if b n) ≡ b
token_is true n = refl
token_is false n = refl

not_true : (b : Bool) → not b ≡ true → b ≡ false
not_true true e = absurd (cc)
not_true false e = refl

-- ---- the place behind the name

-- between the point before a declaration and the one where its name is in scope
pub record Entered (k : Setting) (at mid : Point) (is_partial : Bool) (t : ValueType) : Type 0 where
  pub begins : IsPoint k at
  pub is_point : IsPoint k mid
  pub variables : Grows at.cursor.variables mid.cursor.variables
  pub locals : Grows at.cursor.locals mid.cursor.locals
  pub one_more : is_partial ≡ false → length at.cursor.variables < length mid.cursor.variables
  pub one_local : length at.cursor.locals < length mid.cursor.locals
  pub typed : is_partial ≡ false → variable_type k.around.context (length at.cursor.variables) ≡ Some (type_by t)
  pub scope : (v : ℕ) → InScope (place_at k mid) v → InScope (place_at k at) v ⊎ ((is_partial ≡ false) × (v ≡ length at.cursor.variables))
  pub names : (name : List ℕ) (v : Variable) → known_as (place_at k mid) name ≡ Some v
      → (known_as (place_at k at) name ≡ Some v) ⊎ ((v.declaration ≡ declaration.Local (length at.cursor.locals)) × (v.found ≡ Value t))
  pub awaited : mid.marks.awaited ≡ at.marks.awaited

module _ (k : Setting) (w v : Walk) (u x : MarkingWalk) (c : Cursor) (is_partial : Bool) (name : List ℕ) (t : ValueType) (p : IsPoint k (point w u c)) (d : Declares name (Value t) w v) (a : Adds is_partial u x)
    (all : Grows (declared is_partial t c).variables k.around.context.variables) where
  abbrev at : Point
  at = point w u c

  abbrev mid : Point
  mid = point v x (declared is_partial t c)

  -- the point with the names of before
  abbrev unnamed : Point
  unnamed = point w x (declared is_partial t c)

  abbrev wide : Place
  wide = place_at k unnamed

  abbrev it : Variable
  it = new_local w (Value t)

  closes : Closes k at unnamed
  closes = record {
    known = refl;
    variables = new_variables is_partial t c;
    locals = record { more = length c.variables ∷ []; is = refl };
    marks = record { more = marking.token_if is_partial a.at ∷ []; is = a.locals };
  }

  agree_wide : Agree k wide
  agree_wide = closed_agree k at unnamed p closes

  partial_there : unwrap_or (slice_get wide.partial (length w.locals)) false ≡ is_partial
  partial_there =
      ap (λ ls. unwrap_or (slice_get (map is_some ls) (length w.locals)) false) a.locals
      ∙ (ap (λ bs. unwrap_or (slice_get bs (length w.locals)) false) (map_more is_some u.locals (marking.token_if is_partial a.at))
      ∙ (ap (λ o. unwrap_or o false) (get_last (map is_some u.locals) (is_some (marking.token_if is_partial a.at)) (length w.locals) (p.same_locals ∙ (sym p.same_marks ∙ sym (map_length is_some u.locals))))
      ∙ token_is is_partial a.at))

  plain_there : is_plain wide it.declaration ≡ not is_partial
  plain_there = ap not partial_there

  number_there : variable_of (cursor_at wide) (Some it.declaration) ≡ length c.variables
  number_there = ap (λ o. unwrap_or o (no_variable (cursor_at wide))) (get_last c.locals (length c.variables) (length w.locals) p.same_locals)

  none_partial : is_plain wide it.declaration ≡ true → is_partial ≡ false
  none_partial plain = not_true is_partial (sym plain_there ∙ plain)

  typed_there : is_partial ≡ false → variable_type k.around.context (length c.variables) ≡ Some (type_by t)
  typed_there e = new_typed k.around.context (length c.variables) t p.agree.has_collection (get_still all (length c.variables) t (new_slot is_partial t c e))

  local_there : IsLocal wide it
  local_there = record {
    local = length w.locals;
    is_local = refl;
    within = within_more c.locals (length c.variables) (length w.locals) p.same_locals;
    type = t;
    found = refl;
    number = length c.variables;
    is_number = λ plain. number_there;
    so_far = λ plain. new_slot is_partial t c (none_partial plain);
    typed = λ plain. typed_there (none_partial plain);
  }

  place_named : place_at k mid ≡ with_name wide name it
  place_named = ap (λ es. record wide { known = es }) d.variables

  as_long : {A B : Type 0} (xs : List A) (ys : List B) (x : A) (y : B) → length xs ≡ length ys → length (xs ++ x ∷ []) ≡ length (ys ++ y ∷ [])
  as_long xs ys x y e = one_longer xs x ∙ (ap suc e ∙ sym (one_longer ys y))

  is_point_mid : IsPoint k mid
  is_point_mid = record {
    agree = subst (Agree k) (sym place_named) (agree_named k wide name it agree_wide local_there);
    same_locals = ap length d.locals ∙ as_long w.locals c.locals (Value t) (length c.variables) p.same_locals;
    same_marks = ap length a.locals ∙ as_long u.locals c.locals (marking.token_if is_partial a.at) (length c.variables) p.same_marks;
    in_entry = a.in_entry ∙ p.in_entry;
    names = ap (λ n. drop n k.marks.names) a.used ∙ p.names;
  }

  scope_before : (i : ℕ) → InScope wide i → InScope (place_at k at) i
  scope_before i s = scope_back k (place_at k at) (declared is_partial t c).variables (declared is_partial t c).locals (map is_some x.locals) (widened k at unnamed p closes) p.agree i s

  scope_mid : (i : ℕ) → InScope (place_at k mid) i → InScope (place_at k at) i ⊎ ((is_partial ≡ false) × (i ≡ length c.variables))
  unfolding local_there
  scope_mid i s = by (scope_either k wide name it agree_wide local_there i (subst (λ (q : Place). InScope q i) place_named s))
    where
      by : InScope wide i ⊎ ((is_plain wide it.declaration ≡ true) × (i ≡ length c.variables)) → InScope (place_at k at) i ⊎ ((is_partial ≡ false) × (i ≡ length c.variables))
      by (inl e) = inl (scope_before i e)
      by (inr e) = inr (none_partial e.0, e.1)

  names_mid : (other : List ℕ) (o : Variable) → known_as (place_at k mid) other ≡ Some o
      → (known_as (place_at k at) other ≡ Some o) ⊎ ((o.declaration ≡ declaration.Local (length c.locals)) × (o.found ≡ Value t))
  names_mid other o s = by (known_either wide name it other o (subst (λ (q : Place). known_as q other ≡ Some o) place_named s))
    where
      by : (known_as wide other ≡ Some o) ⊎ (o ≡ it) → (known_as (place_at k at) other ≡ Some o) ⊎ ((o.declaration ≡ declaration.Local (length c.locals)) × (o.found ≡ Value t))
      by (inl e) = inl e
      by (inr e) = inr (ap (λ (z : Variable). z.declaration) e ∙ ap (λ n. declaration.Local n) p.same_locals, ap (λ (z : Variable). z.found) e)

  pub entered : Entered k at mid is_partial t
  entered = record {
    begins = p;
    is_point = is_point_mid;
    variables = new_variables is_partial t c;
    locals = closes.locals;
    one_more = new_within is_partial t c;
    one_local = within_more c.locals (length c.variables) (length c.locals) refl;
    typed = typed_there;
    scope = scope_mid;
    names = names_mid;
    awaited = a.awaited;
  }
