-- The fields and methods of a class of the form.
use Rattle.std.proofs.Common.{◌≡◌, ℕ, List, [], ◌∷◌, ◌++◌, map, Some, slice_get, ◌∙◌, ap, refl}
use Rattle.std.specs.List.{filter_map, zip}
use Rattle.std.specs.Option.{option_map}
use Rattle.std.proofs.lemmas.Option.{slice_get-map}
use Rattle.sdg_base.specs.declared.val.Val.{Val}
use Rattle.early_forms.specs.declared.straight.StraightMethod.{StraightMethod}
use Rattle.early_forms.specs.declared.straight.StraightClass.{StraightClass}
use Rattle.early_forms.specs.Trees.{class_tree, method_tree, method_member, table_member, long_parameter}
use Rattle.early_source.specs.Members.{field_name, method_in, fields, methods, empty_tables, variables_of}

no_fields : (ms : List StraightMethod) → filter_map field_name (map method_member ms) ≡ []
no_fields [] = refl
no_fields (m ∷ ms) = no_fields ms

all_fields : (names : List (List ℕ)) (ms : List StraightMethod) → filter_map field_name (map table_member names ++ map method_member ms) ≡ names
all_fields [] ms = no_fields ms
all_fields (name ∷ names) ms = ap (λ others. name ∷ others) (all_fields names ms)

all_methods : (ms : List StraightMethod) → filter_map method_in (map method_member ms) ≡ map method_tree ms
all_methods [] = refl
all_methods (m ∷ ms) = ap (λ others. method_tree m ∷ others) (all_methods ms)

past_fields : (names : List (List ℕ)) (ms : List StraightMethod) → filter_map method_in (map table_member names ++ map method_member ms) ≡ map method_tree ms
past_fields [] ms = all_methods ms
past_fields (name ∷ names) ms = past_fields names ms

pub fields-class_tree : (c : StraightClass) → fields (class_tree c) ≡ c.fields
fields-class_tree c = all_fields c.fields c.methods

pub empty_tables-class_tree : (c : StraightClass) → empty_tables (class_tree c) ≡ map (λ name. (name, [])) c.fields
empty_tables-class_tree c = ap (map (λ name. (name, []))) (fields-class_tree c)

pub method_at : (c : StraightClass) (n : ℕ) (m : StraightMethod) → slice_get c.methods n ≡ Some m → slice_get (methods (class_tree c)) n ≡ Some (method_tree m)
method_at c n m is = ap (λ ms. slice_get ms n) (past_fields c.fields c.methods) ∙ slice_get-map method_tree c.methods n ∙ ap (option_map method_tree) is

names_of : (names : List (List ℕ)) → map (λ p. p.name) (map long_parameter names) ≡ names
names_of [] = refl
names_of (name ∷ names) = ap (λ others. name ∷ others) (names_of names)

pub variables_of-method_tree : (m : StraightMethod) (args : List Val) → variables_of (method_tree m) args ≡ zip m.parameters args
variables_of-method_tree m args = ap (λ names. zip names args) (names_of m.parameters)
