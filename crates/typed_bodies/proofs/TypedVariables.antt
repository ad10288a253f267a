-- An expression with a type reads only variables that have a type.
use Rattle.std.proofs.Common.{◌≡◌, ℕ, List, [], ◌∷◌, ◌++◌, map, Option, Some, None, refl, sym, subst, ◌∙◌}
use Rattle.std.specs.Prelude.{All}
use Rattle.std.proofs.lemmas.List.Elements.{All-append, All-cons, All-nil}
use Rattle.sdg_base.specs.declared.val.Num.{Num}
use Rattle.sdg_base.specs.declared.value_type.ValueType.{ValueType}
use Rattle.sdg_base.specs.declared.value_type.ValueType.TheVariants as type
use Rattle.access_blocks.specs.declared.body.Expression.{Expression, roll-Expression}
use Rattle.access_blocks.specs.declared.body.Expression.TheOpen.{Expression-F}
use Rattle.access_blocks.specs.declared.body.Expression.TheOpen as e
use Rattle.access_blocks.specs.declared.body.Expression.TheFolds.{fold-roll-Expression, ind-Expression, map-Expression}
use Rattle.body_code.specs.declared.callee.Callee.{Callee}
use Rattle.body_code.specs.Typing.{Context, Needs, variable_type, of_one, of_two, cast_type, chosen_type, where_type, and_then, with_type, all_types, called_type, all_of, type_step, needs_step, type_of, types_of, needs, needs_of_all}

abbrev pub HasType : Context → ℕ → Type 0
HasType c v = (t : ValueType) × (variable_type c v ≡ Some t)

abbrev TypesAll : {A : Type 0} → Context → Option A → Needs → Type 0
TypesAll {A = A} c o n = (t : A) → o ≡ Some t → All (HasType c) n.variables

abbrev IsSome : {A : Type 0} → Option A → Type 0
IsSome {A = A} o = (t : A) × (o ≡ Some t)

-- ---- what gives a type has parts with types

one_part : (f : ValueType → Option ValueType) (o : Option ValueType) (t : ValueType) → of_one f o ≡ Some t → IsSome o
one_part f None t e = absurd (cc)
one_part f (Some s) t e = (s, refl)

two_parts : (f : ValueType → ValueType → Option ValueType) (a b : Option ValueType) (t : ValueType) → of_two f a b ≡ Some t → IsSome a × IsSome b
two_parts f None b t e = absurd (cc)
two_parts f (Some r) None t e = absurd (cc)
two_parts f (Some r) (Some s) t e = ((r, refl), (s, refl))

cast_part : (to : Num) (o : Option ValueType) (t : ValueType) → cast_type to o ≡ Some t → IsSome o
cast_part to None t e = absurd (cc)
cast_part to (Some s) t e = (s, refl)

chosen_parts : (test a b : Option ValueType) (t : ValueType) → chosen_type test a b ≡ Some t → IsSome test × (IsSome a × IsSome b)
chosen_parts (Some type.Boolean) a b t e = ((type.Boolean, refl), two_parts _ a b t e)
chosen_parts (Some type.Int) a b t e = absurd (cc)
chosen_parts (Some type.Long) a b t e = absurd (cc)
chosen_parts (Some type.Vector) a b t e = absurd (cc)
chosen_parts (Some type.Void) a b t e = absurd (cc)
chosen_parts None a b t e = absurd (cc)

where_part : (o : Option ValueType) (s r t : ValueType) → where_type o s r ≡ Some t → IsSome o
where_part None s r t e = absurd (cc)
where_part (Some u) s r t e = (u, refl)

then_parts : (a b : Option ValueType) (t : ValueType) → and_then a b ≡ Some t → IsSome a × (b ≡ Some t)
then_parts None b t e = absurd (cc)
then_parts (Some s) b t e = ((s, refl), e)

with_parts : (a : Option ValueType) (b : Option (List ValueType)) (ts : List ValueType) → with_type a b ≡ Some ts → IsSome a × IsSome b
with_parts None b ts e = absurd (cc)
with_parts (Some s) None ts e = absurd (cc)
with_parts (Some s) (Some rs) ts e = ((s, refl), (rs, refl))

called_parts : (m : Option Callee) (o : Option (List ValueType)) (t : ValueType) → called_type m o ≡ Some t → IsSome o
called_parts None o t e = absurd (cc)
called_parts (Some m) None t e = absurd (cc)
called_parts (Some m) (Some ts) t e = (ts, refl)

module _ (c : Context) where
  all_alone : (v : ℕ) → HasType c v → All (HasType c) (v ∷ [])
  all_alone v h = All-cons (HasType c) v [] h (All-nil (HasType c))

  all_both : (xs ys : List ℕ) → All (HasType c) xs → All (HasType c) ys → All (HasType c) (xs ++ ys)
  all_both xs ys f g = All-append (HasType c) xs ys f g

  all_none : All (HasType c) []
  all_none = All-nil (HasType c)

  abbrev Part : Type 0
  Part = (x : Expression) × TypesAll c (type_of c x) (needs x)

  abbrev bare : Expression-F Part → Expression-F Expression
  bare = map-Expression Part Expression (λ p. p.0)

  abbrev types : Expression-F Expression → Expression-F (Option ValueType)
  types = map-Expression Expression (Option ValueType) (type_of c)

  abbrev needed : Expression-F Expression → Expression-F Needs
  needed = map-Expression Expression Needs needs

  of_part : (p : Part) → IsSome (type_of c p.0) → All (HasType c) (needs p.0).variables
  of_part p s = p.1 s.0 s.1

  of_parts : (ps : List Part) → TypesAll c (all_types (map (type_of c) (map (λ (p : Part). p.0) ps))) (all_of (map needs (map (λ (p : Part). p.0) ps)))
  of_parts [] ts e = all_none
  of_parts (p ∷ ps) ts e =
      let w = with_parts _ _ ts e in
      all_both (needs p.0).variables _ (of_part p w.0) (of_parts ps w.1.0 w.1.1)

  layer : (y : Expression-F Part) → TypesAll c (type_step c (types (bare y))) (needs_step (needed (bare y)))
  layer e.Nothing t is = absurd (cc)
  layer (e.Int n) t is = all_none
  layer (e.Long n) t is = all_none
  layer (e.Bool b) t is = all_none
  layer (e.Variable v) t is = all_alone v (t, is)
  layer e.CarriedKey t is = all_none
  layer (e.Unary op a) t is = of_part a (one_part _ _ t is)
  layer (e.Binary op a b) t is = let w = two_parts _ _ _ t is in all_both (needs a.0).variables (needs b.0).variables (of_part a w.0) (of_part b w.1)
  layer (e.Cast to a) t is = of_part a (cast_part to _ t is)
  layer (e.Conditional test a b) t is =
      let w = chosen_parts _ _ _ t is in
      all_both (needs test.0).variables _ (of_part test w.0) (all_both (needs a.0).variables (needs b.0).variables (of_part a w.1.0) (of_part b w.1.1))
  layer (e.NewVector n) t is = of_part n (where_part _ type.Int type.Vector t is)
  layer (e.VectorSize v) t is = all_alone v (where_part _ type.Vector type.Int t is)
  layer (e.VectorElement v at) t is =
      let w = then_parts _ _ t is in
      all_both (needs at.0).variables _ (of_part at (where_part _ type.Int type.Long t w.1)) (all_alone v (where_part _ type.Vector type.Long w.0.0 w.0.1))
  layer e.GatheredLength t is = all_none
  layer (e.Gathered at) t is = let w = then_parts _ _ t is in of_part at (where_part _ type.Int type.Int w.0.0 w.0.1)
  layer (e.GatheredSize at) t is = let w = then_parts _ _ t is in of_part at (where_part _ type.Int type.Int w.0.0 w.0.1)
  layer (e.GatheredElement at index) t is =
      let w = then_parts _ _ t is in
      let u = then_parts _ _ t w.1 in
      all_both (needs at.0).variables (needs index.0).variables (of_part at (where_part _ type.Int type.Int w.0.0 w.0.1)) (of_part index (where_part _ type.Int type.Long t u.1))
  layer (e.Call m args) t is = let w = called_parts _ _ t is in of_parts args w.0 w.1
  layer (e.Merge m) t is = all_none

  made : (x : Expression-F Expression) (y : Expression-F Part) → bare y ≡ x → TypesAll c (type_of c (roll-Expression x)) (needs (roll-Expression x))
  made x y is t typed =
      let P : Expression-F Expression → Type 0 = λ x. TypesAll c (type_step c (types x)) (needs_step (needed x)) in
      subst (λ (n : Needs). All (HasType c) n.variables) (sym (fold-roll-Expression Needs needs_step x))
      (subst P is (layer y) t (sym (fold-roll-Expression (Option ValueType) (type_step c) x) ∙ typed))

  -- each variable that is read has a type
  pub variables_typed : (x : Expression) (t : ValueType) → type_of c x ≡ Some t → All (HasType c) (needs x).variables
  variables_typed = ind-Expression (λ x. TypesAll c (type_of c x) (needs x)) made

  pub all_variables_typed : (xs : List Expression) (ts : List ValueType) → types_of c xs ≡ Some ts → All (HasType c) (needs_of_all xs).variables
  all_variables_typed [] ts is = all_none
  all_variables_typed (x ∷ xs) ts is =
      let w = with_parts _ _ ts is in
      all_both (needs x).variables _ (variables_typed x w.0.0 w.0.1) (all_variables_typed xs w.1.0 w.1.1)
