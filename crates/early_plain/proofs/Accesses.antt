-- What an access of a field gives.
use Rattle.std.proofs.Common.{◌≡◌, ℕ, ℤ, Bool, true, false, List, [], ◌∷◌, Some, if◌then◌else◌, codes, unwrap_or, Contains, sym, ◌∙◌, ap, refl}
use Rattle.std.specs.Str.{bytes_eq}
use Rattle.std.proofs.lemmas.Option.{same_Some}
use Rattle.std.proofs.lemmas.Slice.Eq.{bytes_eq-Decides}
use Rattle.sdg_base.specs.declared.val.Val.TheVariants as val
use Rattle.early_forms.specs.declared.straight.Sum.{Sum}
use Rattle.early_forms.specs.Trees.{sum_tree, plain}
use Rattle.early_tables.specs.Entries.{Entries}
use Rattle.early_tables.specs.Contents.{value_at, with_value}
use Rattle.early_source.specs.Variables.{Variables, Tables, named, renewed}
use Rattle.early_source.specs.Expressions.{long_of, cons_if}
use Rattle.early_source.specs.Sites.{Access}
use Rattle.early_plain.specs.Fields.{entries_of}
use Rattle.early_plain.specs.Plain.{Accesses}
use Rattle.early_plain.specs.Scopes.{names_in}
use Rattle.early_plain.proofs.Lookups.{named-there}
use Rattle.early_plain.proofs.Statements.{made}

-- A field has its entries.
pub named-entries : (field : List ℕ) (tables : Tables) → Contains (names_in tables) field → named field tables ≡ Some (entries_of field tables)
named-entries field tables there = let is = named-there field tables there in is.1 ∙ ap Some (sym (ap (λ o. unwrap_or o []) is.1))

-- To set what is there changes nothing.
renewed-same : (field : List ℕ) (entries : Entries) (tables : Tables) → named field tables ≡ Some entries → renewed field entries tables ≡ tables
renewed-same field entries [] is = refl
renewed-same field entries (x ∷ tables) is = either (bytes_eq x.0 field) refl is (renewed-same field entries tables)
  where
    either : (b : Bool) → bytes_eq x.0 field ≡ b → (if b then Some x.1 else named field tables) ≡ Some entries → (named field tables ≡ Some entries → renewed field entries tables ≡ tables)
        → (if b then (field, entries) ∷ tables else x ∷ renewed field entries tables) ≡ x ∷ tables
    either true same here later =
        ap (λ (name : List ℕ). (name, entries) ∷ tables) (sym ((bytes_eq-Decides x.0 field).0 same)) ∙ ap (λ (e : Entries). (x.0, e) ∷ tables) (sym (same_Some x.1 entries here))
    either false other there later = ap (λ (others : Tables). x ∷ others) (later there)

abbrev pub get_of : List ℕ → Sum → Access
get_of field key = made field (codes "get") (sum_tree key ∷ [])

abbrev pub put_of : List ℕ → Sum → Sum → Access
put_of field key value = made field (codes "put") (sum_tree key ∷ sum_tree value ∷ [])

pub accesses_get : (field : List ℕ) (key : Sum) (variables : Variables) (tables : Tables) (k : ℤ) → Contains (names_in tables) field → long_of (plain (sum_tree key)) variables ≡ Some (val.Long k)
    → Accesses (get_of field key) variables tables (val.Long (value_at k (entries_of field tables))) tables
accesses_get field key variables tables k there key_is = record {
  args = val.Long k ∷ [];
  are_args = ap (λ o. cons_if o (Some [])) key_is;
  entries = entries_of field tables;
  is_field = named-entries field tables there;
  after = entries_of field tables;
  is_called = refl;
  leaves = sym (renewed-same field (entries_of field tables) tables (named-entries field tables there));
}

pub accesses_put : (field : List ℕ) (key value : Sum) (variables : Variables) (tables : Tables) (k v : ℤ) → Contains (names_in tables) field
    → long_of (plain (sum_tree key)) variables ≡ Some (val.Long k) → long_of (plain (sum_tree value)) variables ≡ Some (val.Long v)
    → Accesses (put_of field key value) variables tables val.Unit (renewed field (with_value k v (entries_of field tables)) tables)
accesses_put field key value variables tables k v there key_is value_is = record {
  args = val.Long k ∷ val.Long v ∷ [];
  are_args = ap (λ o. cons_if o (cons_if (long_of (plain (sum_tree value)) variables) (Some []))) key_is ∙ ap (λ o. cons_if (Some (val.Long k)) (cons_if o (Some []))) value_is;
  entries = entries_of field tables;
  is_field = named-entries field tables there;
  after = with_value k v (entries_of field tables);
  is_called = refl;
  leaves = refl;
}
