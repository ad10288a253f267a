-- Numbers of names.
use Rattle.std.proofs.Common.{◌≡◌, refl, ℕ, zero, suc, ◌+◌, Bool, true, false, cond, List, [], ◌∷◌, ◌++◌, length, length-append, Option, Some, None, sym, ap, ◌∙◌, arith}
use Rattle.std.specs.Prelude.{is_some}
use Rattle.std.specs.Option.{option_map}
use Rattle.std.specs.Str.{bytes_eq}
use Rattle.std.specs.BTreeMap.{UpdatesBy}
use Rattle.std.specs.Cmp.Lexicographic.{slice_cmp}
use Rattle.std.specs.Ordering.{nat_cmp}
use Rattle.std.proofs.lemmas.Slice.Eq.{bytes_eq-Decides}
use Rattle.std.proofs.lemmas.Map.Text.{btree_map_updates_str}
use Rattle.early_cutter.specs.declared.point.Scope.{Scope}
use Rattle.early_cutter.specs.Points.{number_in}
use Rattle.early_cutter.specs.Scopes.{Index, index_at, found_in, Numbers}

-- what is found of a name in one name more, from what was found before
abbrev found_or : Option ℕ → Bool → ℕ → Option ℕ
found_or (Some n) is_last count = Some n
found_or None true count = Some count
found_or None false count = None

abbrev found_here : Bool → Option ℕ → Option ℕ
found_here true later = Some zero
found_here false later = option_map (λ n. suc n) later

here_or : (here is_last : Bool) (o : Option ℕ) (count : ℕ) → found_here here (found_or o is_last count) ≡ found_or (found_here here o) is_last (suc count)
here_or true is_last o count = refl
here_or false is_last (Some n) count = refl
here_or false true None count = refl
here_or false false None count = refl

here_is : (here : Bool) (later : Option ℕ) → cond here (Some zero) (option_map (λ n. suc n) later) ≡ found_here here later
here_is true later = refl
here_is false later = refl

found_cons : (x : List ℕ) (xs : List (List ℕ)) (name : List ℕ) → found_in (x ∷ xs) name ≡ found_here (bytes_eq x name) (found_in xs name)
found_cons x xs name = here_is (bytes_eq x name) (found_in xs name)

alone : (is_last : Bool) → found_here is_last None ≡ found_or None is_last zero
alone true = refl
alone false = refl

found_push : (names : List (List ℕ)) (y name : List ℕ) → found_in (names ++ y ∷ []) name ≡ found_or (found_in names name) (bytes_eq y name) (length names)
found_push [] y name = found_cons y [] name ∙ alone (bytes_eq y name)
found_push (x ∷ xs) y name =
    found_cons x (xs ++ y ∷ []) name ∙ ap (found_here (bytes_eq x name)) (found_push xs y name)
    ∙ here_or (bytes_eq x name) (bytes_eq y name) (found_in xs name) (length xs)
    ∙ ap (λ o. found_or o (bytes_eq y name) (suc (length xs))) (sym (found_cons x xs name))

number_step : (here : Bool) (later : Option ℕ) (rest n : ℕ) → ((m : ℕ) → later ≡ Some m → rest ≡ m) → found_here here later ≡ Some n → cond here zero (suc rest) ≡ n
number_step true later rest n ih h = cc
number_step false None rest n ih h = cc
number_step false (Some m) rest n ih h = let e = ih m refl in cc

pub number_found : (names : List (List ℕ)) (name : List ℕ) (n : ℕ) → found_in names name ≡ Some n → number_in names name ≡ n
number_found [] name n h = cc
number_found (x ∷ xs) name n h =
    number_step (bytes_eq x name) (found_in xs name) (number_in xs name) n (number_found xs name) (sym (found_cons x xs name) ∙ h)

missing_step : (here : Bool) (later : Option ℕ) (rest count : ℕ) → (later ≡ None → rest ≡ count) → found_here here later ≡ None → cond here zero (suc rest) ≡ suc count
missing_step true later rest count ih h = cc
missing_step false None rest count ih h = ap (λ n. suc n) (ih refl)
missing_step false (Some m) rest count ih h = cc

pub number_missing : (names : List (List ℕ)) (name : List ℕ) → found_in names name ≡ None → number_in names name ≡ length names
number_missing [] name h = refl
number_missing (x ∷ xs) name h =
    missing_step (bytes_eq x name) (found_in xs name) (number_in xs name) (length xs) (number_missing xs name) (sym (found_cons x xs name) ∙ h)

stays : (o : Option ℕ) (is_last : Bool) (count : ℕ) → (is_last ≡ true → is_some o ≡ true) → o ≡ found_or o is_last count
stays (Some n) is_last count there = refl
stays None true count there = (let h = there refl in cc)
stays None false count there = refl

comes : (o : Option ℕ) (is_last : Bool) (count : ℕ) → (is_last ≡ true → is_some o ≡ false) → cond is_last (Some count) o ≡ found_or o is_last count
comes (Some n) true count fresh = (let h = fresh refl in cc)
comes (Some n) false count fresh = refl
comes None true count fresh = refl
comes None false count fresh = refl

-- a name that is there already
pub numbers_known :
    (scope : Scope) (names : List (List ℕ)) (y : List ℕ) (count : ℕ) → is_some (index_at scope.numbers y) ≡ true → count ≡ scope.count + 1 → Numbers scope names →
    (let next : Scope = record { numbers = scope.numbers; count = count } in Numbers next (names ++ y ∷ []))
numbers_known scope names y count there more h = record {
  each = λ q.
      h.each q ∙ stays (found_in names q) (bytes_eq y q) (length names)
      (λ same.
      let is : y ≡ q = (bytes_eq-Decides y q).0 same in
      ap is_some (sym (h.each q)) ∙ ap (λ (n : List ℕ). is_some (index_at scope.numbers n)) (sym is) ∙ there)
      ∙ sym (found_push names y q);
  as_many = (let a = h.as_many in let b = length-append names (y ∷ []) in omega (arith, more, a, b));
}

-- a name that is put there
pub numbers_added :
    (scope : Scope) (names : List (List ℕ)) (y : List ℕ) (index : Index) (count : ℕ) → is_some (index_at scope.numbers y) ≡ false → count ≡ scope.count + 1 →
    UpdatesBy (λ x y. slice_cmp nat_cmp x.now y.now) (λ k. slice_cmp nat_cmp y k.now) scope.numbers index (Some scope.count) → Numbers scope names →
    (let next : Scope = record { numbers = index; count = count } in Numbers next (names ++ y ∷ []))
numbers_added scope names y index count absent more updates h = record {
  each = λ q.
      btree_map_updates_str y scope.numbers index (Some scope.count) updates q
      ∙ ap (λ (o : Option ℕ). cond (bytes_eq y q) (Some scope.count) o) (h.each q)
      ∙ ap (λ (n : ℕ). cond (bytes_eq y q) (Some n) (found_in names q)) h.as_many
      ∙ comes (found_in names q) (bytes_eq y q) (length names)
      (λ same.
      let is : y ≡ q = (bytes_eq-Decides y q).0 same in
      ap is_some (sym (h.each q)) ∙ ap (λ (n : List ℕ). is_some (index_at scope.numbers n)) (sym is) ∙ absent)
      ∙ sym (found_push names y q);
  as_many = (let a = h.as_many in let b = length-append names (y ∷ []) in omega (arith, more, a, b));
}
