-- Entry methods and fields by their names.
use Rattle.std.proofs.Common.{◌≡◌, ◌≢◌, ℕ, suc, zero, ◌+◌, ◌<◌, Bool, true, false, cond, List, [], ◌∷◌, ◌++◌, length, take, get_or, Option, Some, None, refl, sym, ap, ◌∙◌, subst, arith}
use Rattle.std.specs.Prelude.{slice_get, IsSomeAnd, is_some}
use Rattle.std.specs.Str.{bytes_eq}
use Rattle.std.specs.BTreeMap.{UpdatesBy}
use Rattle.std.specs.Cmp.Lexicographic.{slice_cmp}
use Rattle.std.specs.Ordering.{nat_cmp}
use Rattle.std.proofs.lemmas.List.{take-append-le, take_at, take_more, length-take-le}
use Rattle.std.proofs.lemmas.List.Elements.{All-push}
use Rattle.std.proofs.lemmas.Slice.Eq.{bytes_eq-Decides}
use Rattle.std.proofs.lemmas.Map.Text.{btree_map_updates_str}
use Rattle.run_text.specs.declared.entrance.Entrance.{Entrance}
use Rattle.run_text.specs.declared.field.Field.{Field}
use Rattle.run_text.specs.HistoryReading.{IsIndexOfFields}
use Rattle.run_text.specs.Index.{Index, index_at, IsFirstNamed, IsIndex, IsFieldIndex}

named_within : {A : Type 0} (f : A → List ℕ) (es : List A) (name : List ℕ) (m : ℕ) → IsSomeAnd (slice_get es m) (λ d. f d ≡ name) → m < length es
named_within f [] name m h = absurd h
named_within f (d ∷ es) name zero h = omega arith
named_within f (d ∷ es) name (suc m) h = let lt = named_within f es name m h in omega arith

named_more : {A : Type 0} (f : A → List ℕ) (es : List A) (e : A) (name : List ℕ) (m : ℕ) → IsSomeAnd (slice_get es m) (λ d. f d ≡ name) → IsSomeAnd (slice_get (es ++ e ∷ []) m) (λ d. f d ≡ name)
named_more f [] e name m h = absurd h
named_more f (d ∷ es) e name zero h = h
named_more f (d ∷ es) e name (suc m) h = named_more f es e name m h

named_last : {A : Type 0} (f : A → List ℕ) (es : List A) (e : A) (name : List ℕ) → f e ≡ name → IsSomeAnd (slice_get (es ++ e ∷ []) (length es)) (λ d. f d ≡ name)
named_last f [] e name h = h
named_last f (d ∷ es) e name h = named_last f es e name h

first_more : {A : Type 0} (f : A → List ℕ) (es : List A) (e : A) (name : List ℕ) (o : Option ℕ) → (o ≡ None → f e ≢ name) → IsFirstNamed f es name o → IsFirstNamed f (es ++ e ∷ []) name o
first_more f es e name None differs h = All-push (λ d. f d ≢ name) es e h (differs refl)
first_more f es e name (Some m) differs h =
    (named_more f es e name m h.0, rw (take-append-le m es (e ∷ []) (let lt = named_within f es name m h.0 in omega arith)) h.1)

first_last : {A : Type 0} (f : A → List ℕ) (es : List A) (e : A) (name : List ℕ) → f e ≡ name → IsFirstNamed f es name None → IsFirstNamed f (es ++ e ∷ []) name (Some (length es))
first_last f es e name same h = (named_last f es e name same, rw (take_at es (e ∷ []) (length es) refl) h)

-- the map has the first item of each name
pub record IsIndexOf {A : Type 0} (f : A → List ℕ) (es : List A) (index : Index) : Type 0 where
  pub first : (name : List ℕ) → IsFirstNamed f es name (index_at index name)

-- a name that is there already
known : {A : Type 0} (f : A → List ℕ) (es : List A) (e : A) (m : Index) → is_some (index_at m (f e)) ≡ true → IsIndexOf f es m → IsIndexOf f (es ++ e ∷ []) m
known f es e m there h = record {
  first = λ name. first_more f es e name (index_at m name)
      (λ none same. let gone : is_some (index_at m (f e)) ≡ false = ap (λ (n : List ℕ). is_some (index_at m n)) same ∙ ap is_some none in cc) (h.first name);
}

added_at : {A : Type 0} (f : A → List ℕ) (es : List A) (e : A) (name : List ℕ) (o : Option ℕ) (b : Bool) → (b ≡ true → f e ≡ name) → (b ≡ false → f e ≢ name) → IsFirstNamed f es (f e) None → IsFirstNamed f es name o → IsFirstNamed f (es ++ e ∷ []) name (cond b (Some (length es)) o)
added_at f es e name o true same differs none h = first_last f es e name (same refl) (subst (λ (n : List ℕ). IsFirstNamed f es n None) (same refl) none)
added_at f es e name o false same differs none h = first_more f es e name o (λ _. differs refl) h

is_none : (o : Option ℕ) → is_some o ≡ false → o ≡ None
is_none None h = refl
is_none (Some n) h = cc

-- a name that is put there
added : {A : Type 0} (f : A → List ℕ) (es : List A) (e : A) (m n : Index) → is_some (index_at m (f e)) ≡ false → UpdatesBy (λ x y. slice_cmp nat_cmp x.now y.now) (λ k. slice_cmp nat_cmp (f e) k.now) m n (Some (length es)) → IsIndexOf f es m → IsIndexOf f (es ++ e ∷ []) n
added f es e m n absent updates h = record {
  first = λ name.
      let d = bytes_eq-Decides (f e) name in
      let none = subst (λ (o : Option ℕ). IsFirstNamed f es (f e) o) (is_none (index_at m (f e)) absent) (h.first (f e)) in
      rw (btree_map_updates_str (f e) m n (Some (length es)) updates name)
      (added_at f es e name (index_at m name) (bytes_eq (f e) name) d.0 (λ no same. let yes = d.1 same in cc) none (h.first name));
}

take_step : {A : Type 0} (es : List A) (i : ℕ) (e : A) → i < length es → e ≡ get_or es i e → take (i + 1) es ≡ take i es ++ e ∷ []
take_step {A} es i e lt at = take_more es i e lt ∙ ap (λ (x : A). take i es ++ x ∷ []) (sym at)

known_next : {A : Type 0} (f : A → List ℕ) (es : List A) (i : ℕ) (e : A) (m : Index) → i < length es → e ≡ get_or es i e → is_some (index_at m (f e)) ≡ true → IsIndexOf f (take i es) m → IsIndexOf f (take (i + 1) es) m
known_next f es i e m lt at there h = rw (take_step es i e lt at) (known f (take i es) e m there h)

added_next : {A : Type 0} (f : A → List ℕ) (es : List A) (i : ℕ) (e : A) (m n : Index) → i < length es → e ≡ get_or es i e → is_some (index_at m (f e)) ≡ false → UpdatesBy (λ x y. slice_cmp nat_cmp x.now y.now) (λ k. slice_cmp nat_cmp (f e) k.now) m n (Some i) → IsIndexOf f (take i es) m → IsIndexOf f (take (i + 1) es) n
added_next f es i e m n lt at absent updates h =
    let long : length (take i es) ≡ i = length-take-le i es (omega arith) in
    rw (take_step es i e lt at) (added f (take i es) e m n absent (subst (λ k. UpdatesBy (λ x y. slice_cmp nat_cmp x.now y.now) (λ key. slice_cmp nat_cmp (f e) key.now) m n (Some k)) (sym long) updates) h)

-- ---- Entry methods

pub next_known : (es : List Entrance) (i : ℕ) (e : Entrance) (m : Index) → i < length es → e ≡ get_or es i e → is_some (index_at m e.name) ≡ true → IsIndex (take i es) m → IsIndex (take (i + 1) es) m
next_known es i e m lt at there h = record { first = (known_next (λ d. d.name) es i e m lt at there (record { first = h.first })).first }

pub next_added : (es : List Entrance) (i : ℕ) (e : Entrance) (m n : Index) → i < length es → e ≡ get_or es i e → is_some (index_at m e.name) ≡ false → UpdatesBy (λ x y. slice_cmp nat_cmp x.now y.now) (λ k. slice_cmp nat_cmp e.name k.now) m n (Some i) → IsIndex (take i es) m → IsIndex (take (i + 1) es) n
next_added es i e m n lt at absent updates h = record { first = (added_next (λ d. d.name) es i e m n lt at absent updates (record { first = h.first })).first }

-- ---- Fields

pub next_known_field : (es : List (List ℕ)) (i : ℕ) (e : List ℕ) (m : Index) → i < length es → e ≡ get_or es i e → is_some (index_at m e) ≡ true → IsFieldIndex (take i es) m → IsFieldIndex (take (i + 1) es) m
next_known_field es i e m lt at there h = record { first = (known_next (λ d. d) es i e m lt at there (record { first = h.first })).first }

pub next_added_field : (es : List (List ℕ)) (i : ℕ) (e : List ℕ) (m n : Index) → i < length es → e ≡ get_or es i e → is_some (index_at m e) ≡ false → UpdatesBy (λ x y. slice_cmp nat_cmp x.now y.now) (λ k. slice_cmp nat_cmp e k.now) m n (Some i) → IsFieldIndex (take i es) m → IsFieldIndex (take (i + 1) es) n
next_added_field es i e m n lt at absent updates h = record { first = (added_next (λ d. d) es i e m n lt at absent updates (record { first = h.first })).first }

-- ---- Fields that may be partial

pub next_known_member : (es : List Field) (i : ℕ) (e : Field) (m : Index) → i < length es → e ≡ get_or es i e → is_some (index_at m e.name) ≡ true → IsIndexOfFields (take i es) m → IsIndexOfFields (take (i + 1) es) m
next_known_member es i e m lt at there h = record { first = (known_next (λ d. d.name) es i e m lt at there (record { first = h.first })).first }

pub next_added_member : (es : List Field) (i : ℕ) (e : Field) (m n : Index) → i < length es → e ≡ get_or es i e → is_some (index_at m e.name) ≡ false → UpdatesBy (λ x y. slice_cmp nat_cmp x.now y.now) (λ k. slice_cmp nat_cmp e.name k.now) m n (Some i) → IsIndexOfFields (take i es) m → IsIndexOfFields (take (i + 1) es) n
next_added_member es i e m n lt at absent updates h = record { first = (added_next (λ d. d.name) es i e m n lt at absent updates (record { first = h.first })).first }
