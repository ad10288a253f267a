-- Reading the arguments of a call one after the other.
use Rattle.std.proofs.Common.{◌≡◌, ℕ, ◌+◌, ◌<◌, ◌≤◌, List, [], ◌∷◌, ◌++◌, length, map, get_or, take, drop, Some, sym, ap, ◌∙◌, subst, arith, append_assoc}
use Rattle.std.specs.List.{AllZip}
use Rattle.std.proofs.lemmas.List.{get_or_at, length-map, length-append, length-drop, length-take-le, take_more, take_all, nil_from_length, map_push, append-nil}
use Rattle.std.proofs.lemmas.Option.{slice_get-get_or}
use Rattle.std.proofs.lemmas.Slice.Zip.{AllZip-long}
use Rattle.sdg_base.specs.declared.val.Val.{Val}
use Rattle.run_text.specs.declared.entrance.ValueType.{ValueType}
use Rattle.run_text.specs.Lines.{words}
use Rattle.run_text.specs.Values.{Fits, value_text, IsNoValue}
use Rattle.run_text.specs.Calls.{HasMisfit}

pub AllZip_push : {A B : Type 0} (R : A → B → Type 0) (xs : List A) (ys : List B) (x : A) (y : B) → AllZip R xs ys → R x y → AllZip R (xs ++ x ∷ []) (ys ++ y ∷ [])
AllZip_push R [] [] x y h r = (r, tt)
AllZip_push R (a ∷ xs) (b ∷ ys) x y h r = (h.0, AllZip_push R xs ys x y h.1 r)
AllZip_push R [] (b ∷ ys) x y h r = absurd h
AllZip_push R (a ∷ xs) [] x y h r = absurd h

-- the values so far, the words to come, and all words
pub record SoFar (parameters : List ValueType) (i : ℕ) (values : List Val) (coming args : List (List ℕ)) : Type 0 where
  pub fit : AllZip Fits (take i parameters) values
  pub told : map value_text values ++ coming ≡ args
  pub enough : length args ≡ length parameters
  pub within : i ≤ length parameters

pub so_far : (parameters : List ValueType) (i : ℕ) (values : List Val) (coming : List (List ℕ)) (line : List ℕ) → AllZip Fits (take i parameters) values → map value_text values ++ coming ≡ drop 1 (words line) → length (words line) ≡ length parameters + 1 → i ≤ length parameters → SoFar parameters i values coming (drop 1 (words line))
so_far parameters i values coming line fit told long within =
    record { fit = fit; told = told; enough = omega (arith, length-drop 1 (words line)); within = within }

values_long : (parameters : List ValueType) (i : ℕ) (values : List Val) (coming args : List (List ℕ)) → SoFar parameters i values coming args → (length values ≡ i) × (i + length coming ≡ length parameters)
values_long parameters i values coming args s =
    let n : length values ≡ i = AllZip-long Fits (take i parameters) values s.fit ∙ length-take-le i parameters s.within in
    let all : length values + length coming ≡ length parameters = sym (length-append (map value_text values) coming ∙ ap (λ k. k + length coming) (length-map values value_text)) ∙ ap length s.told ∙ s.enough in
    (n, omega arith)

pub some_come : (parameters : List ValueType) (i : ℕ) (values : List Val) (args : List (List ℕ)) → SoFar parameters i values [] args → i < length parameters → ⊥
some_come parameters i values args s lt = let n = values_long parameters i values [] args s in omega (arith, n.1)

pub misfit : (parameters : List ValueType) (i : ℕ) (values : List Val) (word : List ℕ) (more args : List (List ℕ)) (d : ValueType) → SoFar parameters i values (word ∷ more) args → i < length parameters → IsNoValue (get_or parameters i d) word → HasMisfit parameters args
misfit parameters i values word more args d s lt none =
    let n = values_long parameters i values (word ∷ more) args s in
    let inside : i < length args = omega (arith, s.enough) in
    let here : get_or args i [] ≡ word = ap (λ (ws : List (List ℕ)). get_or ws i []) (sym s.told) ∙ get_or_at (map value_text values) word more [] i (length-map values value_text ∙ n.0) in
    record { place = i; parameter = get_or parameters i d; arg = word; at_parameter = slice_get-get_or parameters i d lt; at_arg = slice_get-get_or args i [] inside ∙ ap (λ (w : List ℕ). Some w) here; no_value = none }

pub one_more : (parameters : List ValueType) (i : ℕ) (values : List Val) (value : Val) (word : List ℕ) (more args : List (List ℕ)) (d : ValueType) → SoFar parameters i values (word ∷ more) args → i < length parameters → Fits (get_or parameters i d) value × (value_text value ≡ word)
    → AllZip Fits (take (i + 1) parameters) (values ++ value ∷ []) × (map value_text (values ++ value ∷ []) ++ more ≡ args)
one_more parameters i values value word more args d s lt h = (
  rw (take_more parameters i d lt) (AllZip_push Fits (take i parameters) values (get_or parameters i d) value s.fit h.0),
  ap (λ (ws : List (List ℕ)). ws ++ more) (map_push value_text values value) ∙ append_assoc (map value_text values) (value_text value ∷ []) more ∙ ap (λ (w : List ℕ). map value_text values ++ (w ∷ more)) h.1 ∙ s.told,
)

pub all_read : (parameters : List ValueType) (i : ℕ) (values : List Val) (coming args : List (List ℕ)) → SoFar parameters i values coming args → length parameters ≤ i → AllZip Fits parameters values × (map value_text values ≡ args)
all_read parameters i values coming args s le =
    let n = values_long parameters i values coming args s in
    let none : coming ≡ [] = nil_from_length coming (omega (arith, n.1)) in (
      subst (λ (ps : List ValueType). AllZip Fits ps values) (take_all i parameters le) s.fit,
      sym (append-nil (map value_text values)) ∙ ap (λ (ws : List (List ℕ)). map value_text values ++ ws) (sym none) ∙ s.told,
    )
