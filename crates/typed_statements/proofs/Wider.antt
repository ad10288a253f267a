-- Where a method has more variables and locals, and the same names in scope, these mean what they meant.
use Rattle.std.proofs.Common.{◌≡◌, ℕ, zero, suc, ◌<◌, ◌≤◌, Bool, true, false, not, List, [], ◌∷◌, ◌++◌, length, slice_get, unwrap_or, Some, refl, sym, ap, subst, ◌∙◌, arith}
use Rattle.java_tree.specs.declared.types.ValueType.{ValueType}
use Rattle.java_tree.specs.declared.types.Declaration.{Declaration}
use Rattle.java_tree.specs.declared.types.Declaration.TheVariants as declaration
use Rattle.java_types.specs.declared.walk.Signature.{Signature}
use Rattle.java_types.specs.declared.walk.Variable.{Variable}
use Rattle.access_blocks.specs.declared.body.Expression.TheVariants as x
use Rattle.access_blocks.specs.Cursors.{variable_of}
use Rattle.body_code.specs.Checking.{Standing}
use Rattle.typed_bodies.specs.Reading.{Place, IsSound, IsOneMethod, IsOfType, cursor_at, known_as, is_plain, is_method}
use Rattle.typed_bodies.specs.Needing.{InScope}
use Rattle.typed_statements.specs.Points.{Setting, Agree, Knows}
use Rattle.typed_statements.specs.Goes.{Grows}

pub get_more : {A : Type 0} (xs ys : List A) (n : ℕ) → n < length xs → slice_get (xs ++ ys) n ≡ slice_get xs n
get_more [] ys n less = absurd (never n less)
  where
    never : (n : ℕ) → n < 0 → ⊥
    never n less = grind (arith)
get_more (x ∷ xs) ys zero less = refl
get_more (x ∷ xs) ys (suc n) less = get_more xs ys n (lower n (length xs) less)
  where
    lower : (n m : ℕ) → suc n < suc m → n < m
    lower n m less = grind (arith)

pub get_grown : {A : Type 0} {xs ys : List A} → Grows xs ys → (n : ℕ) → n < length xs → slice_get ys n ≡ slice_get xs n
get_grown {xs = xs} g n less = ap (λ zs. slice_get zs n) g.is ∙ get_more xs g.more n less

get_there : {A : Type 0} (xs ys : List A) (n : ℕ) (a : A) → slice_get xs n ≡ Some a → slice_get (xs ++ ys) n ≡ Some a
get_there [] ys n a e = absurd (cc)
get_there (x ∷ xs) ys zero a e = e
get_there (x ∷ xs) ys (suc n) a e = get_there xs ys n a e

pub get_still : {A : Type 0} {xs ys : List A} → Grows xs ys → (n : ℕ) (a : A) → slice_get xs n ≡ Some a → slice_get ys n ≡ Some a
get_still {xs = xs} g n a e = ap (λ zs. slice_get zs n) g.is ∙ get_there xs g.more n a e

-- a place with the same names in scope, and more variables and locals
pub record Widens (p : Place) (variables : List ValueType) (locals : List ℕ) (partial : List Bool) : Type 0 where
  pub to_variables : Grows p.variables variables
  pub to_locals : Grows p.locals locals
  pub to_partial : Grows p.partial partial
  pub same : length p.partial ≡ length p.locals

abbrev pub with_more : Place → List ValueType → List ℕ → List Bool → Place
with_more p variables locals partial = record p { variables = variables; locals = locals; partial = partial }

module _ (k : Setting) (p : Place) (variables : List ValueType) (locals : List ℕ) (partial : List Bool) (w : Widens p variables locals partial) (g : Agree k p) where
  abbrev wide : Place
  wide = with_more p variables locals partial

  -- what a name is declared as stands for the same
  record IsAsBefore (d : Declaration) : Type 0 where
    plain : is_plain wide d ≡ is_plain p d
    number : is_plain p d ≡ true → variable_of (cursor_at wide) (Some d) ≡ variable_of (cursor_at p) (Some d)

  in_partial : (n m l : ℕ) → l ≡ m → n < m → n < l
  in_partial n m l e less = grind (arith)

  known_number : (n : ℕ) (xs ys : List ℕ) (a b : ℕ) → n < length xs → slice_get ys n ≡ slice_get xs n → unwrap_or (slice_get ys n) a ≡ unwrap_or (slice_get xs n) b
  known_number n [] ys a b less e = absurd (never n less)
    where
      never : (n : ℕ) → n < 0 → ⊥
      never n less = grind (arith)
  known_number zero (x ∷ xs) ys a b less e = ap (λ o. unwrap_or o a) e
  known_number (suc n) (x ∷ xs) [] a b less e = known_number n xs [] a b (lower n (length xs) less) e
    where
      lower : (n m : ℕ) → suc n < suc m → n < m
      lower n m less = grind (arith)
  known_number (suc n) (x ∷ xs) (y ∷ ys) a b less e = known_number n xs ys a b (lower n (length xs) less) e
    where
      lower : (n m : ℕ) → suc n < suc m → n < m
      lower n m less = grind (arith)

  as_before : (d : Declaration) → is_method d ≡ false → ((n : ℕ) → d ≡ declaration.Local n → n < length p.locals) → IsAsBefore d
  as_before (declaration.Field n) unlike within = record { plain = refl; number = λ e. absurd (cc) }
  as_before (declaration.Method n) unlike within = absurd (cc)
  as_before (declaration.Parameter n) unlike within = record { plain = refl; number = λ e. refl }
  as_before (declaration.Local n) unlike within = record {
    plain = ap (λ o. not (unwrap_or o false)) (get_grown w.to_partial n (in_partial n _ _ w.same (within n refl)));
    number = λ e. known_number n p.locals locals _ _ (within n refl) (get_grown w.to_locals n (within n refl));
  }

  before_of : (name : List ℕ) (v : Variable) → known_as p name ≡ Some v → IsAsBefore v.declaration
  before_of name v is = as_before v.declaration (g.sound.no_methods name v is) (λ n e. g.in_range name v n is e)

  one_method : (s : Signature) → IsOneMethod p s → IsOneMethod wide s
  one_method s m = record {
    is_sound = m.is_sound;
    header = m.header;
    is_header = m.is_header;
    header_params = m.header_params;
    header_merges = m.header_merges;
    callee = m.callee;
    is_callee = m.is_callee;
    kind = m.kind;
    takes = m.takes;
    merged = m.merged;
    gives = m.gives;
  }

  longer : (n m l : ℕ) → n < m → m ≤ l → n < l
  longer n m l a b = grind (arith)

  sound_still : IsSound wide
  sound_still = record {
    variables = λ name v is plain.
        let b = before_of name v is in
        let before : is_plain p v.declaration ≡ true = sym b.plain ∙ plain in
        subst (λ (n : ℕ). IsOfType p.context v.found (x.Variable n)) (sym (b.number before)) (g.sound.variables name v is before);
    fields = g.sound.fields;
    no_methods = g.sound.no_methods;
    methods = λ name s is. one_method s (g.sound.methods name s is);
    merging = g.sound.merging;
  }

  pub scope_back : (v : ℕ) → InScope wide v → InScope p v
  scope_back v s =
      let b = before_of s.name s.it s.is in
      let before : is_plain p s.it.declaration ≡ true = sym b.plain ∙ s.plain in
      record { name = s.name; it = s.it; is = s.is; plain = before; number = s.number ∙ b.number before }

  pub knows_still : (st : Standing) → Knows p st → Knows wide st
  knows_still st h v t s e = h v t (scope_back v s) e

  still_there : (n : ℕ) → n < length p.locals → n < length locals
  still_there n less = longer n _ _ less (subst (λ (ls : List ℕ). length p.locals ≤ length ls) (sym w.to_locals.is) (more p.locals w.to_locals.more))
    where
      more : (xs ys : List ℕ) → length xs ≤ length (xs ++ ys)
      more [] ys = grind (arith)
      more (x ∷ xs) ys = up (length xs) (length (xs ++ ys)) (more xs ys)
        where
          up : (n m : ℕ) → n ≤ m → suc n ≤ suc m
          up n m e = grind (arith)

  still_first : 0 < length p.variables → 0 < length variables
  still_first less = longer 0 _ _ less (subst (λ (vs : List ValueType). length p.variables ≤ length vs) (sym w.to_variables.is) (more p.variables w.to_variables.more))
    where
      more : (xs ys : List ValueType) → length xs ≤ length (xs ++ ys)
      more [] ys = grind (arith)
      more (x ∷ xs) ys = up (length xs) (length (xs ++ ys)) (more xs ys)
        where
          up : (n m : ℕ) → n ≤ m → suc n ≤ suc m
          up n m e = grind (arith)

  pub agree_still : Agree k wide
  agree_still = record {
    sound = sound_still;
    held = g.held;
    of_type = λ name v t is plain found.
        let b = before_of name v is in
        let before : is_plain p v.declaration ≡ true = sym b.plain ∙ plain in
        ap (λ n. slice_get variables n) (b.number before) ∙ get_still w.to_variables _ t (g.of_type name v t is before found);
    in_range = λ name v n is e. still_there n (g.in_range name v n is e);
    has_collection = λ t is. still_first (g.has_collection t is);
  }
