-- Names of which each is new: there are few of them, they differ, and each stands for the one of its number.
use Rattle.std.proofs.Common.{◌≡◌, ℕ, zero, suc, ◌+◌, ◌<◌, ◌≤◌, Bool, true, false, List, [], ◌∷◌, ◌++◌, length, map, slice_get, Option, Some, None, is_some, if◌then◌else◌, refl, sym, ap, subst, ◌∙◌, length-append, arith}
use Rattle.std.specs.Str.{bytes_eq}
use Rattle.std.proofs.lemmas.Slice.Eq.{bytes_eq-Decides}
use Rattle.java_types.specs.Names.{entry_of, with_entry}
use Rattle.flat_code.specs.Verified.{AreDistinct}

abbrev pub Name : Type 0
Name = List ℕ

abbrev pub is_named : Name → List Name → Bool
is_named name [] = false
is_named name (x ∷ xs) = if bytes_eq name x then true else is_named name xs

-- each is none of those before it, and there is room for it
abbrev pub AreNew : List Name → ℕ → List Name → Type 0
AreNew seen most [] = Unit {0}
AreNew seen most (n ∷ ns) = (is_named n seen ≡ false) × (length seen < most) × AreNew (seen ++ n ∷ []) most ns

same_bytes : (n : Name) → bytes_eq n n ≡ true
same_bytes n = (bytes_eq-Decides n n).1 refl

here_or : (b c : Bool) → b ≡ true → (if b then true else c) ≡ true
here_or true c h = refl
here_or false c h = absurd (cc)

neither_is : (b c : Bool) → (if b then true else c) ≡ false → (b ≡ false) × (c ≡ false)
neither_is true c h = absurd (cc)
neither_is false c h = (refl, h)

none_is : (b c : Bool) → b ≡ false → c ≡ false → (if b then true else c) ≡ false
none_is true c h k = absurd (cc)
none_is false c h k = k

there_too : (b c : Bool) → c ≡ true → (if b then true else c) ≡ true
there_too true c h = refl
there_too false c h = h

pub last_named : (n : Name) (seen : List Name) → is_named n (seen ++ n ∷ []) ≡ true
last_named n [] = here_or (bytes_eq n n) false (same_bytes n)
last_named n (x ∷ seen) = there_too (bytes_eq n x) (is_named n (seen ++ n ∷ [])) (last_named n seen)

pub before_named : (n m : Name) (seen : List Name) → is_named n (seen ++ m ∷ []) ≡ false → is_named n seen ≡ false
before_named n m [] h = refl
before_named n m (x ∷ seen) h =
    let two = neither_is (bytes_eq n x) (is_named n (seen ++ m ∷ [])) h in
    none_is (bytes_eq n x) (is_named n seen) two.0 (before_named n m seen two.1)

both_ways : {b : Bool} → b ≡ true → b ≡ false → ⊥
both_ways h k = cc

pub not_seen : (seen : List Name) (most : ℕ) (ns : List Name) (i : ℕ) (n : Name) → AreNew seen most ns → slice_get ns i ≡ Some n → is_named n seen ≡ false
not_seen seen most [] i n new is = absurd (cc)
not_seen seen most (m ∷ ns) zero n new is = subst (λ (k : Name). is_named k seen ≡ false) (the_same is) new.0
  where
    the_same : {x y : Name} → Some x ≡ Some y → x ≡ y
    the_same e = cc
not_seen seen most (m ∷ ns) (suc i) n new is = before_named n m seen (not_seen (seen ++ m ∷ []) most ns i n new.2 is)

pub few_names : (seen : List Name) (most : ℕ) (ns : List Name) → length seen ≤ most → AreNew seen most ns → length seen + length ns ≤ most
few_names seen most [] room new = omega arith
few_names seen most (n ∷ ns) room new =
    let more : length (seen ++ n ∷ []) ≡ length seen + 1 = length-append seen (n ∷ []) in
    let lt : length seen < most = new.1 in
    let rest = few_names (seen ++ n ∷ []) most ns (omega (arith, more, lt)) new.2 in
    omega (arith, more, rest)

pub distinct_names : (seen : List Name) (most : ℕ) (ns : List Name) → AreNew seen most ns → AreDistinct ns
distinct_names seen most [] new i j n h k = absurd (cc)
distinct_names seen most (m ∷ ns) new zero zero n h k = refl
distinct_names seen most (m ∷ ns) new zero (suc j) n h k =
    absurd (both_ways (last_named n seen) (subst (λ (x : Name). is_named n (seen ++ x ∷ []) ≡ false) (the_same h) (not_seen (seen ++ m ∷ []) most ns j n new.2 k)))
  where
    the_same : {x y : Name} → Some x ≡ Some y → x ≡ y
    the_same e = cc
distinct_names seen most (m ∷ ns) new (suc i) zero n h k =
    absurd (both_ways (last_named n seen) (subst (λ (x : Name). is_named n (seen ++ x ∷ []) ≡ false) (the_same k) (not_seen (seen ++ m ∷ []) most ns i n new.2 h)))
  where
    the_same : {x y : Name} → Some x ≡ Some y → x ≡ y
    the_same e = cc
distinct_names seen most (m ∷ ns) new (suc i) (suc j) n h k = ap suc (distinct_names (seen ++ m ∷ []) most ns new.2 i j n h k)

-- ---- entries by name

module _ {T : Type 0} where
  abbrev pub names_in : List (Name × T) → List Name
  names_in entries = map (λ e. e.0) entries

  pub names_push : (es : List (Name × T)) (n : Name) (t : T) → names_in (es ++ (n, t) ∷ []) ≡ names_in es ++ n ∷ []
  names_push [] n t = refl
  names_push (e ∷ es) n t = ap (λ (rest : List Name). e.0 ∷ rest) (names_push es n t)

  some_by : (b : Bool) (t : T) (o : Option T) (c : Bool) → is_some o ≡ c → is_some (if b then Some t else o) ≡ (if b then true else c)
  some_by true t o c h = refl
  some_by false t o c h = h

  pub is_entry : (n : Name) (es : List (Name × T)) → is_some (entry_of n es) ≡ is_named n (names_in es)
  is_entry n [] = refl
  is_entry n (e ∷ es) = some_by (bytes_eq n e.0) e.1 (entry_of n es) (is_named n (names_in es)) (is_entry n es)

  with_new_by : (b : Bool) (x y : List (Name × T)) → b ≡ false → (if b then x else y) ≡ y
  with_new_by true x y h = absurd (cc)
  with_new_by false x y h = refl

  pub with_new : (n : Name) (t : T) (es : List (Name × T)) → is_named n (names_in es) ≡ false → with_entry n t es ≡ es ++ (n, t) ∷ []
  with_new n t es h = with_new_by (is_some (entry_of n es)) es (es ++ (n, t) ∷ []) (is_entry n es ∙ h)

  other_by : (b : Bool) (t : T) (o : Option T) → b ≡ false → (if b then Some t else o) ≡ o
  other_by true t o h = absurd (cc)
  other_by false t o h = refl

  here_by : (b : Bool) (t : T) (o : Option T) → b ≡ true → (if b then Some t else o) ≡ Some t
  here_by true t o h = refl
  here_by false t o h = absurd (cc)

  -- each entry is found by its name, where the names are new
  pub entry_there : (seen : List Name) (most : ℕ) (es : List (Name × T)) (i : ℕ) (n : Name) (t : T) → AreNew seen most (names_in es) → slice_get es i ≡ Some (n, t) → entry_of n es ≡ Some t
  entry_there seen most [] i n t new is = absurd (cc)
  entry_there seen most (e ∷ es) zero n t new is =
      let same = the_same is in
      here_by (bytes_eq n e.0) e.1 (entry_of n es) ((bytes_eq-Decides n e.0).1 (sym (ap (λ (p : Name × T). p.0) same))) ∙ ap (λ (p : Name × T). Some p.1) same
    where
      the_same : {x y : Name × T} → Some x ≡ Some y → x ≡ y
      the_same e = cc
  entry_there seen most (e ∷ es) (suc i) n t new is =
      let named : slice_get (names_in es) i ≡ Some n = name_at es i is in
      let not : is_named n (seen ++ e.0 ∷ []) ≡ false = not_seen (seen ++ e.0 ∷ []) most (names_in es) i n new.2 named in
      other_by (bytes_eq n e.0) e.1 (entry_of n es) (differ (bytes_eq n e.0) refl not) ∙ entry_there (seen ++ e.0 ∷ []) most es i n t new.2 is
    where
      name_at : (xs : List (Name × T)) (k : ℕ) → slice_get xs k ≡ Some (n, t) → slice_get (names_in xs) k ≡ Some n
      name_at [] k h = absurd (cc)
      name_at (x ∷ xs) zero h = ap Some (ap (λ (p : Name × T). p.0) (the_pair h))
        where
          the_pair : {x y : Name × T} → Some x ≡ Some y → x ≡ y
          the_pair e = cc
      name_at (x ∷ xs) (suc k) h = name_at xs k h

      differ : (b : Bool) → bytes_eq n e.0 ≡ b → is_named n (seen ++ e.0 ∷ []) ≡ false → b ≡ false
      differ true same h =
          let eq : n ≡ e.0 = (bytes_eq-Decides n e.0).0 same in
          absurd (both_ways (last_named e.0 seen) (subst (λ (x : Name). is_named x (seen ++ e.0 ∷ []) ≡ false) eq h))
      differ false same h = refl

  abbrev Found : List (Name × T) → T → Type 0
  Found es t = (i : ℕ) × (name : Name) × (slice_get es i ≡ Some (name, t))

  entry_by : (e : Name × T) (es : List (Name × T)) (n : Name) (t : T) (b : Bool) → (entry_of n es ≡ Some t → Found es t) → (if b then Some e.1 else entry_of n es) ≡ Some t → Found (e ∷ es) t
  entry_by e es n t true later h = (zero, e.0, ap with_name h)
    where
      with_name : Option T → Option (Name × T)
      with_name None = None
      with_name (Some u) = Some (e.0, u)
  entry_by e es n t false later h = let r = later h in (suc r.0, r.1, r.2)

  -- what is found is an entry
  pub entry_from : (es : List (Name × T)) (n : Name) (t : T) → entry_of n es ≡ Some t → (i : ℕ) × (name : Name) × (slice_get es i ≡ Some (name, t))
  entry_from [] n t is = absurd (cc)
  entry_from (e ∷ es) n t is = entry_by e es n t (bytes_eq n e.0) (entry_from es n t) is
