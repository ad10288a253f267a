-- The type beside the code of an expression is the type of the expression.
use Rattle.std.proofs.Common.{◌≡◌, List, [], ◌∷◌, map, Option, refl, ap, subst, sym, ◌∙◌}
use Rattle.sdg_base.specs.declared.value_type.ValueType.{ValueType}
use Rattle.access_blocks.specs.declared.body.Expression.{Expression, roll-Expression}
use Rattle.access_blocks.specs.declared.body.Expression.TheOpen.{Expression-F}
use Rattle.access_blocks.specs.declared.body.Expression.TheOpen as e
use Rattle.access_blocks.specs.declared.body.Expression.TheFolds.{fold-roll-Expression, ind-Expression, map-Expression}
use Rattle.body_code.specs.Codes.{Code}
use Rattle.body_code.specs.Typing.{Context, type_step, type_of}
use Rattle.body_code.specs.ExpressionCode.{Lowered, lowered, lowered_step, code_of}

abbrev IsTyped : Context → Expression → Type 0
IsTyped c x = (lowered c x).type ≡ type_of c x

abbrev Part : Context → Type 0
Part c = (x : Expression) × IsTyped c x

abbrev bare : (c : Context) → Expression-F (Part c) → Expression-F Expression
bare c = map-Expression (Part c) Expression (λ p. p.0)

abbrev Found : Type 0
Found = Option ValueType

abbrev beside : Context → Expression-F Expression → Expression-F Found
beside c x = map-Expression Lowered Found (λ a. a.type) (map-Expression Expression Lowered (lowered c) x)

abbrev types : Context → Expression-F Expression → Expression-F Found
types c = map-Expression Expression Found (type_of c)

list_is : (c : Context) (xs : List (Part c)) → map (λ (a : Lowered). a.type) (map (lowered c) (map (λ (p : Part c). p.0) xs)) ≡ map (type_of c) (map (λ (p : Part c). p.0) xs)
list_is c [] = refl
list_is c (p ∷ xs) =
    ap (λ (t : Found). t ∷ map (λ (a : Lowered). a.type) (map (lowered c) (map (λ (p : Part c). p.0) xs))) p.1 ∙ ap (λ (rest : List Found). type_of c p.0 ∷ rest) (list_is c xs)

layer_is : (c : Context) (y : Expression-F (Part c)) → beside c (bare c y) ≡ types c (bare c y)
layer_is c e.Nothing = refl
layer_is c (e.Int n) = refl
layer_is c (e.Long n) = refl
layer_is c (e.Bool b) = refl
layer_is c (e.Variable v) = refl
layer_is c e.CarriedKey = refl
layer_is c (e.Unary op a) = ap (λ (t : Found). e.Unary op t) a.1
layer_is c (e.Binary op a b) = ap (λ (t : Found). e.Binary op t (lowered c b.0).type) a.1 ∙ ap (λ (t : Found). e.Binary op (type_of c a.0) t) b.1
layer_is c (e.Cast to a) = ap (λ (t : Found). e.Cast to t) a.1
layer_is c (e.Conditional test a b) =
    ap (λ (t : Found). e.Conditional t (lowered c a.0).type (lowered c b.0).type) test.1
    ∙ ap (λ (t : Found). e.Conditional (type_of c test.0) t (lowered c b.0).type) a.1
    ∙ ap (λ (t : Found). e.Conditional (type_of c test.0) (type_of c a.0) t) b.1
layer_is c (e.NewVector n) = ap (λ (t : Found). e.NewVector t) n.1
layer_is c (e.VectorSize v) = refl
layer_is c (e.VectorElement v at) = ap (λ (t : Found). e.VectorElement v t) at.1
layer_is c e.GatheredLength = refl
layer_is c (e.Gathered at) = ap (λ (t : Found). e.Gathered t) at.1
layer_is c (e.GatheredSize at) = ap (λ (t : Found). e.GatheredSize t) at.1
layer_is c (e.GatheredElement at index) =
    ap (λ (t : Found). e.GatheredElement t (lowered c index.0).type) at.1 ∙ ap (λ (t : Found). e.GatheredElement (type_of c at.0) t) index.1
layer_is c (e.Call m args) = ap (λ (ts : List Found). e.Call m ts) (list_is c args)
layer_is c (e.Merge m) = refl

made : (c : Context) (x : Expression-F Expression) (y : Expression-F (Part c)) → bare c y ≡ x → IsTyped c (roll-Expression x)
made c x y is =
    let P : Expression-F Expression → Type 0 = λ x. beside c x ≡ types c x in
    let same : beside c x ≡ types c x = subst P is (layer_is c y) in
    ap (λ (l : Lowered). l.type) (fold-roll-Expression Lowered (lowered_step c) x) ∙ ap (type_step c) same ∙ sym (fold-roll-Expression Found (type_step c) x)

pub lowered_type : (c : Context) (x : Expression) → (lowered c x).type ≡ type_of c x
lowered_type c = ind-Expression (IsTyped c) (made c)

pub codes_are : (c : Context) (xs : List Expression) → map (λ (a : Lowered). a.code) (map (lowered c) xs) ≡ map (code_of c) xs
codes_are c [] = refl
codes_are c (x ∷ xs) = ap (λ (rest : List Code). code_of c x ∷ rest) (codes_are c xs)
