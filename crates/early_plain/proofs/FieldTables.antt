-- The fields of a class, each name beside a table.
use Rattle.std.proofs.Common.{◌≡◌, ℕ, ℤ, Result, Ok, Err, zero, suc, ◌+◌, ◌<◌, ◌≤◌, Bool, true, false, if◌then◌else◌, List, [], ◌∷◌, ◌++◌, Some, length, map, drop, get_or, set, add-one, Contains, unwrap_or, sym, ◌∙◌, ap, subst, refl, arith}
use Rattle.std.specs.List.{zip}
use Rattle.std.specs.Result.{OnOk}
use Rattle.std.specs.Str.{bytes_eq}
use Rattle.std.proofs.Math.Seq.{drop-cons, append_snoc}
use Rattle.std.proofs.lemmas.List.{drop_all, append-nil}
use Rattle.std.proofs.lemmas.Slice.Zip.{firsts-zip}
use Rattle.std.proofs.lemmas.Slice.Eq.{bytes_eq-Decides}
use Rattle.early_tables.specs.Entries.{Entries}
use Rattle.early_tables.specs.Contents.{with_value}
use Rattle.early_source.specs.Variables.{Tables, named, renewed}
use Rattle.early_plain.specs.Fields.{entries_of, IsFirst}
use Rattle.early_plain.specs.Scopes.{names_in}
use Rattle.early_plain.proofs.Lookups.{Contains_later}

-- ---- the first place of a name

-- what is known once the names before a place are others
pub record FirstFrom (names : List (List ℕ)) (name : List ℕ) (n : ℕ) : Type 0 where
  pub there : Contains (drop n names) name
  pub first : (j : ℕ) → IsFirst (drop n names) name j → IsFirst names name (n + j)

from_place : (names : List (List ℕ)) (n : ℕ) (x : List ℕ) → n < length names → x ≡ get_or names n x → drop n names ≡ x ∷ drop (n + 1) names
from_place names n x l is = rw (add-one, drop-cons names n x, ← is)

pub first_later : (names : List (List ℕ)) (name : List ℕ) (n : ℕ) (x : List ℕ) → n < length names → x ≡ get_or names n x → bytes_eq x name ≡ false → FirstFrom names name n → FirstFrom names name (n + 1)
first_later names name n x l is other so_far =
    let here = from_place names n x l is in
    record {
      there = Contains_later x (drop (n + 1) names) name other (subst (λ (xs : List (List ℕ)). Contains xs name) here so_far.there);
      first = λ j f.
          let k : n + suc j ≡ n + 1 + j = omega arith in
          subst (IsFirst names name) k (so_far.first (suc j) (subst (λ (xs : List (List ℕ)). IsFirst xs name (suc j)) (sym here) (other, f)));
    }

pub first_here : (names : List (List ℕ)) (name : List ℕ) (n : ℕ) (x : List ℕ) → n < length names → x ≡ get_or names n x → bytes_eq x name ≡ true → FirstFrom names name n → IsFirst names name n
first_here names name n x l is same so_far =
    let here = from_place names n x l is in
    let k : n + 0 ≡ n = omega arith in
    subst (IsFirst names name) k (so_far.first 0 (subst (λ (xs : List (List ℕ)). IsFirst xs name 0) (sym here) same))

pub first_nowhere : (names : List (List ℕ)) (name : List ℕ) (n : ℕ) → length names ≤ n → FirstFrom names name n → ⊥
first_nowhere names name n l so_far = nowhere (subst (λ (xs : List (List ℕ)). Contains xs name) (drop_all n names l) so_far.there)
  where
    nowhere : Contains [] name → ⊥
    nowhere (k, less, e) = omega arith

-- ---- reading and writing there

pub named-first : (names : List (List ℕ)) (tables : List Entries) (field : List ℕ) (n : ℕ) (d : Entries) → length tables ≡ length names → IsFirst names field n
    → named field (zip names tables) ≡ Some (get_or tables n d)
named-first [] tables field n d e first = absurd first
named-first (x ∷ names) [] field n d e first = absurd (omega arith)
named-first (x ∷ names) (t ∷ tables) field zero d e first = ap (λ (b : Bool). if b then Some t else named field (zip names tables)) first
named-first (x ∷ names) (t ∷ tables) field (suc n) d e first =
    ap (λ (b : Bool). if b then Some t else named field (zip names tables)) first.0 ∙ named-first names tables field n d (omega arith) first.1

pub entries_of-first : (names : List (List ℕ)) (tables : List Entries) (field : List ℕ) (n : ℕ) (d : Entries) → length tables ≡ length names → IsFirst names field n
    → entries_of field (zip names tables) ≡ get_or tables n d
entries_of-first names tables field n d e first = ap (λ o. unwrap_or o []) (named-first names tables field n d e first)

pub renewed-first : (names : List (List ℕ)) (tables : List Entries) (field : List ℕ) (n : ℕ) (new : Entries) → length tables ≡ length names → IsFirst names field n
    → renewed field new (zip names tables) ≡ zip names (set tables n new)
renewed-first [] tables field n new e first = absurd first
renewed-first (x ∷ names) [] field n new e first = absurd (omega arith)
renewed-first (x ∷ names) (t ∷ tables) field zero new e first =
    let same : x ≡ field = (bytes_eq-Decides x field).0 first in
    ap (λ (b : Bool). if b then (field, new) ∷ zip names tables else (x, t) ∷ renewed field new (zip names tables)) first
    ∙ ap (λ (name : List ℕ). (name, new) ∷ zip names tables) (sym same)
renewed-first (x ∷ names) (t ∷ tables) field (suc n) new e first =
    ap (λ (b : Bool). if b then (field, new) ∷ zip names tables else (x, t) ∷ renewed field new (zip names tables)) first.0
    ∙ ap (λ (others : Tables). (x, t) ∷ others) (renewed-first names tables field n new (omega arith) first.1)

-- ---- tables without entries

abbrev pub no_entries : List (List ℕ) → List Entries
no_entries names = map (λ _. []) names

pub zip-no_entries : (names : List (List ℕ)) → zip names (no_entries names) ≡ map (λ name. (name, [])) names
zip-no_entries [] = refl
zip-no_entries (name ∷ names) = ap (λ (others : Tables). (name, []) ∷ others) (zip-no_entries names)

-- one more of them
pub made_later : (names : List (List ℕ)) (tables : List Entries) (n : ℕ) (x : List ℕ) → n < length names → tables ++ no_entries (drop n names) ≡ no_entries names
    → (tables ++ [] ∷ []) ++ no_entries (drop (n + 1) names) ≡ no_entries names
made_later names tables n x l so_far =
    let here : drop n names ≡ get_or names n x ∷ drop (n + 1) names = rw (add-one, drop-cons names n x) in
    append_snoc tables [] (no_entries (drop (n + 1) names)) ∙ ap (λ (xs : List (List ℕ)). tables ++ no_entries xs) (sym here) ∙ so_far

pub made_all : (names : List (List ℕ)) (tables : List Entries) (n : ℕ) → length names ≤ n → tables ++ no_entries (drop n names) ≡ no_entries names → tables ≡ no_entries names
made_all names tables n l so_far = sym (append-nil tables) ∙ ap (λ (xs : List (List ℕ)). tables ++ no_entries xs) (sym (drop_all n names l)) ∙ so_far

pub length-no_entries : (names : List (List ℕ)) → length (no_entries names) ≡ length names
length-no_entries [] = refl
length-no_entries (name ∷ names) = ap suc (length-no_entries names)

-- A field is one of the names.
pub is_name : {A : Type 0} (names : List (List ℕ)) (values : List A) (both : List (List ℕ × A)) (name : List ℕ) → length values ≡ length names → zip names values ≡ both → Contains (names_in both) name → Contains names name
is_name {A} names values both name e is there =
    subst (λ (xs : List (List ℕ)). Contains xs name) (firsts-zip names values e) (subst (λ (xs : List (List ℕ × A)). Contains (names_in xs) name) (sym is) there)

-- A write leaves the names.
pub names_in-renewed : {A : Type 0} (name : List ℕ) (a : A) (xs : List (List ℕ × A)) → names_in (renewed name a xs) ≡ names_in xs
names_in-renewed name a [] = refl
names_in-renewed {A} name a (x ∷ xs) = either (bytes_eq x.0 name) refl (names_in-renewed name a xs)
  where
    either : (b : Bool) → bytes_eq x.0 name ≡ b → names_in (renewed name a xs) ≡ names_in xs → names_in (if b then (name, a) ∷ xs else x ∷ renewed name a xs) ≡ x.0 ∷ names_in xs
    either true same later = ap (λ (y : List ℕ). y ∷ names_in xs) (sym ((bytes_eq-Decides x.0 name).0 same))
    either false other later = ap (λ (ys : List (List ℕ)). x.0 ∷ ys) later

-- ---- the field of a name

module _ (names : List (List ℕ)) (tables : List Entries) (both : Tables) (field : List ℕ) (n : ℕ) (e : length tables ≡ length names) (first : IsFirst names field n) (is : zip names tables ≡ both) where
  pub entries_of-place : (t : Entries) → t ≡ get_or tables n t → t ≡ entries_of field both
  entries_of-place t t_is = t_is ∙ sym (entries_of-first names tables field n t e first) ∙ ap (entries_of field) is

  pub renewed-place : (key value k v : ℤ) (t new : Entries) → t ≡ get_or tables n t → k ≡ key → v ≡ value → new ≡ with_value k v t
      → zip names (set tables n new) ≡ renewed field (with_value key value (entries_of field both)) both
  renewed-place key value k v t new t_is k_is v_is new_is =
      let whole : new ≡ with_value key value (entries_of field both) =
      new_is ∙ ap (λ (x : ℤ). with_value x v t) k_is ∙ ap (λ (x : ℤ). with_value key x t) v_is ∙ ap (with_value key value) (entries_of-place t t_is) in
      ap (λ (x : Entries). zip names (set tables n x)) whole
      ∙ sym (renewed-first names tables field n (with_value key value (entries_of field both)) e first)
      ∙ ap (renewed field (with_value key value (entries_of field both))) is

pub on_ok : {A E P Q : Type 0} (r : Result A E) → (P → Q) → OnOk r P → OnOk r Q
on_ok (Ok x) f p = f p
on_ok (Err e) f p = p
