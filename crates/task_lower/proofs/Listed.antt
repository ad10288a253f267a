-- Several expressions, one more at a time.
use Rattle.std.proofs.Common.{◌≡◌, ℕ, ◌+◌, ◌<◌, List, [], ◌∷◌, ◌++◌, length, map, take, get_or, slice_get, Option, None, Some, refl, sym, ap, subst, ◌∙◌}
use Rattle.std.proofs.lemmas.List.{take_more}
use Rattle.sdg_base.specs.declared.value_type.ValueType.{ValueType}
use Rattle.flat_code.specs.declared.graph.Instr.{Instr}
use Rattle.access_blocks.specs.declared.body.Expression.{Expression, fold-roll-Expression}
use Rattle.access_blocks.specs.declared.body.Expression.TheVariants as x
use Rattle.access_blocks.specs.declared.body.Expression.TheOpen as e
use Rattle.body_code.specs.Codes.{Code, all_of}
use Rattle.body_code.specs.Typing.{Context, all_types, with_type, called_type}
use Rattle.body_code.specs.ExpressionCode.{Lowered, lowered, lowered_step}
use Rattle.task_lower.specs.Pushing.{Pushes, snoc_type}
use Rattle.task_lower.proofs.Pushed.{snoc_pushed}

pub taken_more : {A : Type 0} (xs : List A) (i : ℕ) (y : A) → i < length xs → y ≡ get_or xs i y → take (i + 1) xs ≡ take i xs ++ y ∷ []
taken_more xs i y h is = take_more xs i y h ∙ ap (λ z. take i xs ++ z ∷ []) (sym is)

pub mapped_more : {A B : Type 0} (f : A → B) (xs : List A) (y : A) → map f (xs ++ y ∷ []) ≡ map f xs ++ f y ∷ []
mapped_more f [] y = refl
mapped_more f (x ∷ xs) y = ap (λ rest. f x ∷ rest) (mapped_more f xs y)

with_snoc : (t : Option ValueType) (ts : Option (List ValueType)) (u : Option ValueType) → with_type t (snoc_type ts u) ≡ snoc_type (with_type t ts) u
with_snoc None None None = refl
with_snoc None None (Some u) = refl
with_snoc None (Some ts) None = refl
with_snoc None (Some ts) (Some u) = refl
with_snoc (Some t) None None = refl
with_snoc (Some t) None (Some u) = refl
with_snoc (Some t) (Some ts) None = refl
with_snoc (Some t) (Some ts) (Some u) = refl

one_more : (u : Option ValueType) → with_type u (Some []) ≡ snoc_type (Some []) u
one_more None = refl
one_more (Some u) = refl

types_more : (ts : List (Option ValueType)) (u : Option ValueType) → all_types (ts ++ u ∷ []) ≡ snoc_type (all_types ts) u
types_more [] u = one_more u
types_more (t ∷ ts) u = ap (with_type t) (types_more ts u) ∙ with_snoc t (all_types ts) u

abbrev types_in : Context → List Expression → List (Option ValueType)
types_in c xs = map (λ a. a.type) (map (lowered c) xs)

abbrev codes_in : Context → List Expression → List Code
codes_in c xs = map (λ a. a.code) (map (lowered c) xs)

pub listed_types : (c : Context) (xs more : List Expression) (x : Expression) (types new : Option (List ValueType)) (found : Option ValueType) → more ≡ xs ++ x ∷ [] → types ≡ all_types (types_in c xs)
    → found ≡ (lowered c x).type → new ≡ snoc_type types found → new ≡ all_types (types_in c more)
listed_types c xs more x types new found is_more is_types is_found is_new =
    is_new ∙ ap (λ ts. snoc_type ts found) is_types ∙ ap (snoc_type (all_types (types_in c xs))) is_found
    ∙ sym (ap (λ ys. all_types (types_in c ys)) is_more
    ∙ ap (λ (ls : List Lowered). all_types (map (λ a. a.type) ls)) (mapped_more (lowered c) xs x)
    ∙ ap all_types (mapped_more (λ (a : Lowered). a.type) (map (lowered c) xs) (lowered c x))
    ∙ types_more (types_in c xs) (lowered c x).type)

pub listed_codes : (c : Context) (xs more : List Expression) (x : Expression) (s0 s1 s2 : List Instr) → more ≡ xs ++ x ∷ [] → Pushes (all_of (codes_in c xs)) s0 s1 → Pushes (lowered c x).code s1 s2
    → Pushes (all_of (codes_in c more)) s0 s2
listed_codes c xs more x s0 s1 s2 is_more p q =
    let P : List Code → Type 0 = λ cs. Pushes (all_of cs) s0 s2 in
    subst P
    (sym (ap (codes_in c) is_more
    ∙ ap (λ (ls : List Lowered). map (λ a. a.code) ls) (mapped_more (lowered c) xs x)
    ∙ mapped_more (λ (a : Lowered). a.code) (map (lowered c) xs) (lowered c x)))
    (snoc_pushed (codes_in c xs) (lowered c x).code s0 s1 s2 p q)

pub lowered_call : (c : Context) (m : ℕ) (args : List Expression) → (lowered c (x.Call m args)).type ≡ called_type (slice_get c.methods m) (all_types (types_in c args))
lowered_call c m args = ap (λ y. (lowered c y).type) (sym (x.rolls-Call m args)) ∙ ap (λ (l : Lowered). l.type) (fold-roll-Expression Lowered (lowered_step c) (e.Call m args))
