-- The code of expressions is as long as its size says, whatever its place.
use Rattle.std.proofs.Common.{◌≡◌, ◌+◌, true, false, List, [], ◌∷◌, map, Option, refl, sym, ap, subst, ◌∙◌, length-append, arith}
use Rattle.sdg_base.specs.declared.operator.BinOp.{BinOp}
use Rattle.sdg_base.specs.declared.operator.BinOp.TheVariants as bin
use Rattle.sdg_base.specs.declared.operator.UnOp.{UnOp}
use Rattle.sdg_base.specs.declared.operator.UnOp.TheVariants as un
use Rattle.sdg_base.specs.declared.value_type.ValueType.{ValueType}
use Rattle.flat_code.specs.declared.graph.Instr.{Instr}
use Rattle.flat_code.specs.declared.graph.Instr.TheVariants as instr
use Rattle.access_blocks.specs.declared.body.Expression.{Expression, roll-Expression}
use Rattle.access_blocks.specs.declared.body.Expression.TheOpen.{Expression-F}
use Rattle.access_blocks.specs.declared.body.Expression.TheOpen as e
use Rattle.access_blocks.specs.declared.body.Expression.TheFolds.{fold-roll-Expression, ind-Expression, map-Expression}
use Rattle.body_code.specs.Typing.{Context, type_step, type_of}
use Rattle.body_code.specs.Codes.{Code, plain, followed_by, all_of}
use Rattle.body_code.specs.ExpressionCode.{Lowered, behind, either, unary, binary, operand_of, code_step, lowered_step, lowered, code_of, codes_of}
use Rattle.code_meaning.specs.Laid.{IsSized}

pub followed_sized : (a b : Code) → IsSized a → IsSized b → IsSized (followed_by a b)
followed_sized a b ha hb at =
    let x = length-append (a.from at) (b.from (at + a.size)) in
    let y = ha at in
    let z = hb (at + a.size) in
    omega arith

pub behind_sized : (a : Code) (i : Instr) → IsSized a → IsSized (behind a i)
behind_sized a i ha = followed_sized a (plain (i ∷ [])) ha (λ at. refl)

either_sized : (a b : Code) → IsSized a → IsSized b → IsSized (either a b)
either_sized a b ha hb at =
    let x = length-append (a.from (at + 1)) (instr.Jump (at + a.size + b.size + 2) ∷ b.from (at + a.size + 2)) in
    let y = ha (at + 1) in
    let z = hb (at + a.size + 2) in
    omega arith

unary_sized : (op : UnOp) (a : Code) → IsSized a → IsSized (unary op a)
unary_sized un.Plus a ha = ha
unary_sized op a ha = behind_sized a (instr.Un op) ha

binary_sized : (op : BinOp) (a b : Lowered) → IsSized a.code → IsSized b.code → IsSized (binary op a b)
binary_sized bin.AndAlso a b ha hb = followed_sized a.code (either b.code (plain (instr.Bool false ∷ []))) ha (either_sized b.code (plain (instr.Bool false ∷ [])) hb (λ at. refl))
binary_sized bin.OrElse a b ha hb = followed_sized a.code (either (plain (instr.Bool true ∷ [])) b.code) ha (either_sized (plain (instr.Bool true ∷ [])) b.code (λ at. refl) hb)
binary_sized op a b ha hb = behind_sized (followed_by a.code b.code) (instr.Bin op (operand_of a.type)) (followed_sized a.code b.code ha hb)

module _ (c : Context) where
  abbrev Sized : Type 0
  Sized = (x : Expression) × IsSized (code_of c x)

  abbrev bare : Expression-F Sized → Expression-F Expression
  bare = map-Expression Sized Expression (λ x. x.0)

  abbrev low : Expression-F Expression → Expression-F Lowered
  low = map-Expression Expression Lowered (lowered c)

  args_sized : (xs : List Sized) → IsSized (all_of (map (λ (a : Lowered). a.code) (map (lowered c) (map (λ (x : Sized). x.0) xs))))
  args_sized [] at = refl
  args_sized (x ∷ xs) at = followed_sized (code_of c x.0) (all_of (map (λ (a : Lowered). a.code) (map (lowered c) (map (λ (y : Sized). y.0) xs)))) x.1 (args_sized xs) at

  layer_sized : (y : Expression-F Sized) → IsSized (code_step (low (bare y)))
  layer_sized (e.Unary op a) = unary_sized op (code_of c a.0) a.1
  layer_sized (e.Binary op a b) = binary_sized op (lowered c a.0) (lowered c b.0) a.1 b.1
  layer_sized (e.Cast to a) = behind_sized (code_of c a.0) _ a.1
  layer_sized (e.Conditional test a b) = followed_sized (code_of c test.0) (either (code_of c a.0) (code_of c b.0)) test.1 (either_sized (code_of c a.0) (code_of c b.0) a.1 b.1)
  layer_sized (e.NewVector n) = behind_sized (code_of c n.0) _ n.1
  layer_sized (e.VectorElement v at) = behind_sized (code_of c at.0) _ at.1
  layer_sized (e.Gathered at) = behind_sized (code_of c at.0) _ at.1
  layer_sized (e.GatheredSize at) = behind_sized (code_of c at.0) _ at.1
  layer_sized (e.GatheredElement at index) =
      behind_sized (followed_by (behind (code_of c at.0) (instr.CollectionCheck 0)) (code_of c index.0)) _
      (followed_sized (behind (code_of c at.0) (instr.CollectionCheck 0)) (code_of c index.0) (behind_sized (code_of c at.0) _ at.1) index.1)
  layer_sized (e.Call m args) = followed_sized (all_of (map (λ (a : Lowered). a.code) (map (lowered c) (map (λ (x : Sized). x.0) args)))) (plain (instr.Turn ∷ instr.Call m ∷ [])) (args_sized args) (λ at. refl)
  layer_sized _ = λ at. refl

  made_sized : (x : Expression-F Expression) (y : Expression-F Sized) → bare y ≡ x → IsSized (code_of c (roll-Expression x))
  made_sized x y is =
      let P : Expression-F Expression → Type 0 = λ x. IsSized (code_step (low x)) in
      subst (λ (l : Lowered). IsSized l.code) (sym (fold-roll-Expression Lowered (lowered_step c) x)) (subst P is (layer_sized y))

  pub code_sized : (x : Expression) → IsSized (code_of c x)
  code_sized = ind-Expression (λ x. IsSized (code_of c x)) made_sized

  pub codes_sized : (xs : List Expression) → IsSized (codes_of c xs)
  codes_sized [] at = refl
  codes_sized (x ∷ xs) at = followed_sized (code_of c x) (codes_of c xs) (code_sized x) (codes_sized xs) at

  -- ---- the type beside the code

  abbrev Typed : Type 0
  Typed = (x : Expression) × ((lowered c x).type ≡ type_of c x)

  abbrev known : Expression-F Typed → Expression-F Expression
  known = map-Expression Typed Expression (λ x. x.0)

  abbrev types_in : Expression-F Lowered → Expression-F (Option ValueType)
  types_in = map-Expression Lowered (Option ValueType) (λ a. a.type)

  abbrev types : Expression-F Expression → Expression-F (Option ValueType)
  types = map-Expression Expression (Option ValueType) (type_of c)

  args_typed : (xs : List Typed) → map (λ (a : Lowered). a.type) (map (lowered c) (map (λ (x : Typed). x.0) xs)) ≡ map (type_of c) (map (λ (x : Typed). x.0) xs)
  args_typed [] = refl
  args_typed (x ∷ xs) = λ i. x.1 i ∷ args_typed xs i

  layer_typed : (y : Expression-F Typed) → types_in (low (known y)) ≡ types (known y)
  layer_typed (e.Unary op a) = λ i. e.Unary op (a.1 i)
  layer_typed (e.Binary op a b) = λ i. e.Binary op (a.1 i) (b.1 i)
  layer_typed (e.Cast to a) = λ i. e.Cast to (a.1 i)
  layer_typed (e.Conditional test a b) = λ i. e.Conditional (test.1 i) (a.1 i) (b.1 i)
  layer_typed (e.NewVector n) = λ i. e.NewVector (n.1 i)
  layer_typed (e.VectorElement v at) = λ i. e.VectorElement v (at.1 i)
  layer_typed (e.Gathered at) = λ i. e.Gathered (at.1 i)
  layer_typed (e.GatheredSize at) = λ i. e.GatheredSize (at.1 i)
  layer_typed (e.GatheredElement at index) = λ i. e.GatheredElement (at.1 i) (index.1 i)
  layer_typed (e.Call m args) = λ i. e.Call m (args_typed args i)
  layer_typed e.Nothing = refl
  layer_typed (e.Int n) = refl
  layer_typed (e.Long n) = refl
  layer_typed (e.Bool b) = refl
  layer_typed (e.Variable v) = refl
  layer_typed e.CarriedKey = refl
  layer_typed (e.VectorSize v) = refl
  layer_typed e.GatheredLength = refl
  layer_typed (e.Merge m) = refl

  made_typed : (x : Expression-F Expression) (y : Expression-F Typed) → known y ≡ x → (lowered c (roll-Expression x)).type ≡ type_of c (roll-Expression x)
  made_typed x y is =
      ap (λ (l : Lowered). l.type) (fold-roll-Expression Lowered (lowered_step c) x)
      ∙ ap (type_step c) (subst (λ z. types_in (low z) ≡ types z) is (layer_typed y))
      ∙ sym (fold-roll-Expression (Option ValueType) (type_step c) x)

  pub type_beside : (x : Expression) → (lowered c x).type ≡ type_of c x
  type_beside = ind-Expression (λ x. (lowered c x).type ≡ type_of c x) made_typed
