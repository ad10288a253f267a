-- The methods of a class of the straight form as a caller sees them.
use Rattle.std.proofs.Common.{◌≡◌, ℕ, zero, suc, ◌≤◌, List, [], ◌∷◌, ◌++◌, Bool, false, map, take, length, ap, refl, ◌∙◌, arith}
use Rattle.std.specs.Prelude.{if◌then◌else◌}
use Rattle.std.specs.List.{filter_map, list_any}
use Rattle.early_forms.specs.declared.straight.StraightMethod.{StraightMethod}
use Rattle.early_forms.specs.declared.straight.StraightClass.{StraightClass}
use Rattle.early_forms.specs.Names.{IsProper}
use Rattle.early_forms.specs.Trees.{class_tree, method_tree, method_member, table_member, long_parameter}
use Rattle.early_source.specs.Members.{field_name, fields}
use Rattle.java_tree.specs.declared.method_kinds.MethodKind.{MethodKind}
use Rattle.java_tree.specs.declared.method_kinds.MethodKind.TheVariants.{Entry, Helper, Merge}
use Rattle.java_tree.specs.Kinds.{is_private, kind_of}
use Rattle.access_blocks.specs.Programs.{method_in, methods_in}
use Rattle.run_text.specs.declared.entrance.ValueType.TheVariants.{Long}
use Rattle.run_text.specs.declared.entrance.Entrance.{Entrance}
use Rattle.sdg_top.specs.Entrances.{value_type_of, entrance_of, with_entrance, entrances_from, entrances_of}

no_fields : (ms : List StraightMethod) → filter_map field_name (map method_member ms) ≡ []
no_fields [] = refl
no_fields (m ∷ ms) = no_fields ms

all_fields : (names : List (List ℕ)) (ms : List StraightMethod) → filter_map field_name (map table_member names ++ map method_member ms) ≡ names
all_fields [] ms = no_fields ms
all_fields (name ∷ names) ms = ap (λ others. name ∷ others) (all_fields names ms)

pub fields-class_tree : (c : StraightClass) → fields (class_tree c) ≡ c.fields
fields-class_tree c = all_fields c.fields c.methods

long_types : (names : List (List ℕ)) → map (λ p. value_type_of p.type_name) (map long_parameter names) ≡ map (λ _. Long) names
long_types [] = refl
long_types (name ∷ names) = ap (λ ts. Long ∷ ts) (long_types names)

-- a method of the form as a caller sees it: every parameter is a long
abbrev pub straight_entrance : ℕ → StraightMethod → Entrance
straight_entrance number m = record { number = number; name = m.name; parameters = map (λ _. Long) m.parameters }

abbrev pub straight_entrances : ℕ → List StraightMethod → List Entrance
straight_entrances number [] = []
straight_entrances number (m ∷ ms) = straight_entrance number m ∷ straight_entrances (suc number) ms

entrance-method_tree : (number : ℕ) (m : StraightMethod) → entrance_of number (method_tree m) ≡ straight_entrance number m
entrance-method_tree number m = ap (λ ts. record { number = number; name = m.name; parameters = ts }) (long_types m.parameters)

no_collection : (names : List (List ℕ)) → list_any (λ p. p.is_collection) (map long_parameter names) ≡ false
no_collection [] = refl
no_collection (name ∷ names) = no_collection names

-- every method of the form is an entry method
entry-method_tree : (m : StraightMethod) → kind_of (method_tree m) ≡ Entry
entry-method_tree m = ap (λ (b : Bool). if b then Merge else (if list_any is_private (method_tree m).modifiers then Helper else Entry)) (no_collection m.parameters)

all_entrances : (number : ℕ) (ms : List StraightMethod) → entrances_from number (filter_map method_in (map method_member ms)) ≡ straight_entrances number ms
all_entrances number [] = refl
all_entrances number (m ∷ ms) =
    let others = entrances_from (suc number) (filter_map method_in (map method_member ms)) in
    ap (λ (k : MethodKind). with_entrance k (entrance_of number (method_tree m)) others) (entry-method_tree m)
    ∙ ap (λ e. e ∷ others) (entrance-method_tree number m)
    ∙ ap (λ es. straight_entrance number m ∷ es) (all_entrances (suc number) ms)

-- fields are no methods
past_fields : (names : List (List ℕ)) (ms : List StraightMethod) → filter_map method_in (map table_member names ++ map method_member ms) ≡ filter_map method_in (map method_member ms)
past_fields [] ms = refl
past_fields (name ∷ names) ms = past_fields names ms

as_many : (ms : List StraightMethod) → length (filter_map method_in (map method_member ms)) ≡ length ms
as_many [] = refl
as_many (m ∷ ms) = ap suc (as_many ms)

take_all : {A : Type 0} (n : ℕ) (xs : List A) → length xs ≤ n → take n xs ≡ xs
take_all zero [] le = refl
take_all zero (x ∷ xs) le = absurd (omega arith)
take_all (suc n) [] le = refl
take_all (suc n) (x ∷ xs) le = ap (λ ys. x ∷ ys) (take_all n xs (omega arith))

pub entrances-class_tree : (c : StraightClass) → IsProper c → entrances_of (class_tree c) ≡ straight_entrances 0 c.methods
entrances-class_tree c proper =
    let members = past_fields c.fields c.methods in
    let few = proper.size.few_methods in
    let short : length (methods_in (class_tree c).members) ≤ 65536 = let n = ap length members ∙ as_many c.methods in omega (arith, n, few) in
    ap (entrances_from 0) (take_all 65536 (methods_in (class_tree c).members) short ∙ members) ∙ all_entrances 0 c.methods
