-- A table and the entries of a slot, changed at one key.
use Rattle.std.proofs.Common.{◌≡◌, ◌≢◌, ◌⊎◌, inl, inr, refl, ℕ, zero, suc, ℤ, ◌<◌, Bool, true, false, cond, if◌then◌else◌, List, [], ◌∷◌, length, Some, None, slice_get, sym, ap, ◌∙◌, arith, Contains}
use Rattle.std.specs.Str.{bytes_eq}
use Rattle.std.specs.Ordering.{int_cmp, is_eq, match_ordering}
use Rattle.std.specs.BTreeMap.{insert_entry}
use Rattle.std.specs.declared.cmp.Ordering.{Ordering}
use Rattle.std.specs.declared.cmp.Ordering.TheVariants.{Less, Equal, Greater}
use Rattle.std.proofs.lemmas.Cmp.{tied_itself, int_cmp_total}
use Rattle.std.proofs.lemmas.Map.Lookups.{exact_signed}
use Rattle.std.proofs.lemmas.Slice.Eq.{bytes_eq-Decides}
use Rattle.std.proofs.lemmas.Bool.{cases_eq}
use Rattle.early_tables.specs.Entries.{Entries}
use Rattle.early_tables.specs.Contents.{entry_at, with_value}
use Rattle.early_tables.specs.States.{State, Nothing, OfTable}
use Rattle.early_source.specs.Variables.{Tables, named, renewed}
use Rattle.agreement.specs.Simulation.{entries_in, entry_in, field_names, ChangesAt}
use Rattle.early_cutter.specs.Points.{number_in}

-- ---- entries by key

is_at_itself : (key : ℤ) → is_eq (int_cmp key key) ≡ true
is_at_itself key = ap is_eq (tied_itself int_cmp_total key)

is_at_other : (key other : ℤ) (o : Ordering) → int_cmp key other ≡ o → key ≢ other → is_eq o ≡ false
is_at_other key other Less is differ = refl
is_at_other key other Equal is differ = absurd (differ (exact_signed key other is))
is_at_other key other Greater is differ = refl

is_eq-at : (key other : ℤ) → key ≢ other → is_eq (int_cmp key other) ≡ false
is_eq-at key other differ = is_at_other key other (int_cmp key other) refl differ

with_value_here : (key value k v : ℤ) (es : Entries) (o : Ordering) → int_cmp key k ≡ o → entry_at key (insert_entry int_cmp es key value) ≡ Some value
    → entry_at key (match_ordering o ((key, value) ∷ (k, v) ∷ es) ((k, value) ∷ es) ((k, v) ∷ insert_entry int_cmp es key value)) ≡ Some value
with_value_here key value k v es Less is later = ap (λ b. cond b (Some value) (entry_at key ((k, v) ∷ es))) (is_at_itself key)
with_value_here key value k v es Equal is later = ap (λ o. cond (is_eq o) (Some value) (entry_at key es)) is
with_value_here key value k v es Greater is later = ap (λ o. cond (is_eq o) (Some v) (entry_at key (insert_entry int_cmp es key value))) is ∙ later

pub with_value_same : (key value : ℤ) (es : Entries) → entry_at key (with_value key value es) ≡ Some value
with_value_same key value [] = ap (λ b. cond b (Some value) None) (is_at_itself key)
with_value_same key value (e ∷ es) = with_value_here key value e.0 e.1 es (int_cmp key e.0) refl (with_value_same key value es)

with_value_there : (key value q k v : ℤ) (es : Entries) (o : Ordering) → q ≢ key → int_cmp key k ≡ o → entry_at q (insert_entry int_cmp es key value) ≡ entry_at q es
    → entry_at q (match_ordering o ((key, value) ∷ (k, v) ∷ es) ((k, value) ∷ es) ((k, v) ∷ insert_entry int_cmp es key value)) ≡ entry_at q ((k, v) ∷ es)
with_value_there key value q k v es Less differ is later = ap (λ b. cond b (Some value) (entry_at q ((k, v) ∷ es))) (is_eq-at q key differ)
with_value_there key value q k v es Equal differ is later =
    let same = exact_signed key k is in
    let other : is_eq (int_cmp q k) ≡ false = is_eq-at q k (λ e. differ (e ∙ sym same)) in
    ap (λ b. cond b (Some value) (entry_at q es)) other ∙ sym (ap (λ b. cond b (Some v) (entry_at q es)) other)
with_value_there key value q k v es Greater differ is later = ap (cond (is_eq (int_cmp q k)) (Some v)) later

pub with_value_other : (key value q : ℤ) (es : Entries) → q ≢ key → entry_at q (with_value key value es) ≡ entry_at q es
with_value_other key value q [] differ = ap (λ b. cond b (Some value) None) (is_eq-at q key differ)
with_value_other key value q (e ∷ es) differ = with_value_there key value q e.0 e.1 es (int_cmp key e.0) differ refl (with_value_other key value q es differ)

-- ---- names and their numbers

number_here : (name x : List ℕ) (xs : List (List ℕ)) (b : Bool) → bytes_eq x name ≡ b → (b ≡ false → number_in xs name < length xs)
    → (if b then zero else suc (number_in xs name)) < suc (length xs)
number_here name x xs true at later = omega arith
number_here name x xs false at later = (let h = later refl in omega arith)

later_contains : (name x : List ℕ) (xs : List (List ℕ)) → bytes_eq x name ≡ false → Contains (x ∷ xs) name → Contains xs name
later_contains name x xs other (zero, within, e) = let t = (bytes_eq-Decides x name).1 e in absurd (cc)
later_contains name x xs other (suc k, within, e) = (k, omega arith, e)

pub number_within : (name : List ℕ) (names : List (List ℕ)) → Contains names name → number_in names name < length names
number_within name [] (k, within, e) = absurd (omega arith)
number_within name (x ∷ xs) contains =
    number_here name x xs (bytes_eq x name) refl (λ (other : bytes_eq x name ≡ false). number_within name xs (later_contains name x xs other contains))

-- ---- tables by name and by number

named_here : (name : List ℕ) (x : List ℕ × Entries) (xs : Tables) (b : Bool)
    → (b ≡ false → named name xs ≡ Some (entries_in (slice_get xs (number_in (field_names xs) name))))
    → (if b then Some x.1 else named name xs) ≡ Some (entries_in (slice_get (x ∷ xs) (if b then zero else suc (number_in (field_names xs) name))))
named_here name x xs true later = refl
named_here name x xs false later = later refl

within_later : (n m : ℕ) (b : Bool) → b ≡ false → (if b then zero else suc n) < suc m → n < m
within_later n m true is h = absurd (cc)
within_later n m false is h = omega arith

pub named_number : (name : List ℕ) (tables : Tables) → number_in (field_names tables) name < length (field_names tables)
    → named name tables ≡ Some (entries_in (slice_get tables (number_in (field_names tables) name)))
named_number name [] within = absurd (omega arith)
named_number name (x ∷ xs) within =
    named_here name x xs (bytes_eq x.0 name)
    (λ (other : bytes_eq x.0 name ≡ false). named_number name xs (within_later (number_in (field_names xs) name) (length (field_names xs)) (bytes_eq x.0 name) other within))

names_here : (name : List ℕ) (a : Entries) (x : List ℕ × Entries) (xs : Tables) (b : Bool) → bytes_eq x.0 name ≡ b → field_names (renewed name a xs) ≡ field_names xs
    → field_names (if b then (name, a) ∷ xs else x ∷ renewed name a xs) ≡ x.0 ∷ field_names xs
names_here name a x xs true at later = (let e = (bytes_eq-Decides x.0 name).0 at in ap (λ n. n ∷ field_names xs) (sym e))
names_here name a x xs false at later = ap (λ names. x.0 ∷ names) later

pub field_names-renewed : (name : List ℕ) (a : Entries) (tables : Tables) → field_names (renewed name a tables) ≡ field_names tables
field_names-renewed name a [] = refl
field_names-renewed name a (x ∷ xs) = names_here name a x xs (bytes_eq x.0 name) refl (field_names-renewed name a xs)

renewed_here : (name : List ℕ) (a : Entries) (x : List ℕ × Entries) (xs : Tables) (b : Bool)
    → (b ≡ false → slice_get (renewed name a xs) (number_in (field_names xs) name) ≡ Some (name, a))
    → slice_get (if b then (name, a) ∷ xs else x ∷ renewed name a xs) (if b then zero else suc (number_in (field_names xs) name)) ≡ Some (name, a)
renewed_here name a x xs true later = refl
renewed_here name a x xs false later = later refl

pub renewed_same : (name : List ℕ) (a : Entries) (tables : Tables) → number_in (field_names tables) name < length (field_names tables)
    → slice_get (renewed name a tables) (number_in (field_names tables) name) ≡ Some (name, a)
renewed_same name a [] within = absurd (omega arith)
renewed_same name a (x ∷ xs) within =
    renewed_here name a x xs (bytes_eq x.0 name)
    (λ (other : bytes_eq x.0 name ≡ false). renewed_same name a xs (within_later (number_in (field_names xs) name) (length (field_names xs)) (bytes_eq x.0 name) other within))

renewed_there : (name : List ℕ) (a : Entries) (x : List ℕ × Entries) (xs : Tables) (n : ℕ) (b : Bool) → n ≢ (if b then zero else suc (number_in (field_names xs) name))
    → ((k : ℕ) → k ≢ number_in (field_names xs) name → slice_get (renewed name a xs) k ≡ slice_get xs k)
    → slice_get (if b then (name, a) ∷ xs else x ∷ renewed name a xs) n ≡ slice_get (x ∷ xs) n
renewed_there name a x xs zero true differ later = absurd (differ refl)
renewed_there name a x xs (suc n) true differ later = refl
renewed_there name a x xs zero false differ later = refl
renewed_there name a x xs (suc n) false differ later = later n (λ e. differ (ap suc e))

pub renewed_other : (name : List ℕ) (a : Entries) (tables : Tables) (n : ℕ) → n ≢ number_in (field_names tables) name → slice_get (renewed name a tables) n ≡ slice_get tables n
renewed_other name a [] n differ = refl
renewed_other name a (x ∷ xs) n differ = renewed_there name a x xs n (bytes_eq x.0 name) differ (λ k other. renewed_other name a xs k other)

-- ---- both, changed together

-- The tables and a slot's entries change at the key alone, and agree there where they did before.
pub record MovesAt (field : ℕ) (key : ℤ) (tables : Tables) (entries : Entries) (after : Tables) (entries_after : Entries) : Type 0 where
  pub tables_move : ChangesAt field key tables after
  pub others : (k : ℤ) → k ≢ key → entry_at k entries_after ≡ entry_at k entries
  pub same : entry_at key entries ≡ entry_in tables field key → entry_at key entries_after ≡ entry_in after field key

abbrev pub Moves : ℕ → ℤ → Tables → State → Tables → State → Type 0
Moves field key tables Nothing after Nothing = after ≡ tables
Moves field key tables (OfTable entries) after (OfTable entries_after) = MovesAt field key tables entries after entries_after
Moves field key tables Nothing after (OfTable entries) = ⊥
Moves field key tables (OfTable entries) after Nothing = ⊥

pub Moves-none : (field : ℕ) (key : ℤ) (tables : Tables) (state : State) → Moves field key tables state tables state
Moves-none field key tables Nothing = refl
Moves-none field key tables (OfTable entries) = record {
  tables_move = record { same_fields = refl; others = λ other k differ. refl };
  others = λ k differ. refl;
  same = λ agree. agree;
}

pub Moves-both : (field : ℕ) (key : ℤ) (a b c : Tables) (s t u : State) → Moves field key a s b t → Moves field key b t c u → Moves field key a s c u
Moves-both field key a b c Nothing Nothing Nothing first second = second ∙ first
Moves-both field key a b c Nothing Nothing (OfTable z) first second = absurd second
Moves-both field key a b c Nothing (OfTable y) u first second = absurd first
Moves-both field key a b c (OfTable x) Nothing u first second = absurd first
Moves-both field key a b c (OfTable x) (OfTable y) Nothing first second = absurd second
Moves-both field key a b c (OfTable x) (OfTable y) (OfTable z) first second = record {
  tables_move = record {
    same_fields = second.tables_move.same_fields ∙ first.tables_move.same_fields;
    others = λ other k differ. second.tables_move.others other k differ ∙ first.tables_move.others other k differ;
  };
  others = λ k differ. second.others k differ ∙ first.others k differ;
  same = λ agree. second.same (first.same agree);
}

other_field : (name : List ℕ) (key : ℤ) (tables : Tables) (new : Entries) → number_in (field_names tables) name < length (field_names tables)
    → ((k : ℤ) → k ≢ key → entry_at k new ≡ entry_in tables (number_in (field_names tables) name) k)
    → (other : ℕ) (k : ℤ) → (other ≡ number_in (field_names tables) name → k ≡ key → ⊥)
    → (other ≡ number_in (field_names tables) name) ⊎ (other ≡ number_in (field_names tables) name → ⊥)
    → entry_in (renewed name new tables) other k ≡ entry_in tables other k
other_field name key tables new within others other k differ (inl e) =
    ap (λ n. entry_in (renewed name new tables) n k) e
    ∙ ap (λ o. entry_at k (entries_in o)) (renewed_same name new tables within)
    ∙ others k (differ e)
    ∙ sym (ap (λ n. entry_in tables n k) e)
other_field name key tables new within others other k differ (inr e) = ap (λ o. entry_at k (entries_in o)) (renewed_other name new tables other e)

-- The table of a field and the entries of its slot change to the same at a key.
pub moves_at : (name : List ℕ) (key : ℤ) (tables : Tables) (new entries entries_after : Entries) → number_in (field_names tables) name < length (field_names tables)
    → ((k : ℤ) → k ≢ key → entry_at k new ≡ entry_in tables (number_in (field_names tables) name) k)
    → ((k : ℤ) → k ≢ key → entry_at k entries_after ≡ entry_at k entries)
    → (entry_at key entries ≡ entry_in tables (number_in (field_names tables) name) key → entry_at key entries_after ≡ entry_at key new)
    → MovesAt (number_in (field_names tables) name) key tables entries (renewed name new tables) entries_after
moves_at name key tables new entries entries_after within table_others slot_others same = record {
  tables_move = record {
    same_fields = field_names-renewed name new tables;
    others = λ other k differ. other_field name key tables new within table_others other k differ (cases_eq other (number_in (field_names tables) name));
  };
  others = slot_others;
  same = λ agree. same agree ∙ sym (ap (λ o. entry_at key (entries_in o)) (renewed_same name new tables within));
}
