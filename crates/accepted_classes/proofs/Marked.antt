-- What the rules on annotations know of the fields and methods of a class, by number; and by what a field is held.
use Rattle.std.proofs.Common.{◌≡◌, ℕ, zero, suc, List, [], ◌∷◌, ◌++◌, map, fold, slice_get, option_map, Option, Some, None, refl, sym, ap, ap₂, ◌∙◌, append_assoc, append-nil}
use Rattle.std.proofs.lemmas.Option.{slice_get-map}
use Rattle.sdg_base.specs.declared.store.ClassName.{ClassName}
use Rattle.java_tree.specs.declared.tree.Class.{Class}
use Rattle.java_tree.specs.declared.tree.Field.{Field}
use Rattle.java_tree.specs.declared.tree.Member.{Member}
use Rattle.java_tree.specs.declared.tree.Member.TheVariants as member
use Rattle.java_tree.specs.declared.tree.Method.{Method}
use Rattle.java_tree.specs.declared.types.Declaration.{Declaration}
use Rattle.java_tree.specs.declared.method_kinds.MethodKind.{MethodKind}
use Rattle.java_tree.specs.declared.method_kinds.MethodKind.TheVariants.{Entry, Helper, Merge}
use Rattle.java_tree.specs.Kinds.{kind_of}
use Rattle.java_tree.specs.Words.{state_class}
use Rattle.annotations.specs.declared.site.FieldKind.{FieldKind}
use Rattle.annotations.specs.Environment.{with_class, with_method, classes_of, methods_of}
use Rattle.annotations.specs.Environment.{env_of as marking_env_of}
use Rattle.annotations.specs.Kinds.{kind_of_field, with_kind, kinds_of}
use Rattle.annotations.specs.Walks as marking
use Rattle.access_blocks.specs.declared.body.Holder.{Holder}
use Rattle.access_blocks.specs.Programs.{fields_in, methods_in, class_of, is_partial, is_merge, header_of, holders, scope_of}
use Rattle.accepted_classes.specs.Classes.{resolved_of}
use Rattle.accepted_classes.specs.Known.{merges}

the_same : {A : Type 0} {x y : A} → Some x ≡ Some y → x ≡ y
the_same e = cc

-- ---- lists over members

-- what is kept of each field, and of nothing else
fields_kept : {A : Type 0} (of : Field → A) (step : List A → Member → List A) → ((xs : List A) (f : Field) → step xs (member.Field f) ≡ xs ++ of f ∷ []) → ((xs : List A) (m : Method) → step xs (member.Method m) ≡ xs)
    → (ms : List Member) (xs : List A) → fold step xs ms ≡ xs ++ map of (fields_in ms)
fields_kept of step field method [] xs = sym (append-nil xs)
fields_kept of step field method (member.Field f ∷ ms) xs =
    ap (λ ys. fold step ys ms) (field xs f) ∙ (fields_kept of step field method ms (xs ++ of f ∷ []) ∙ append_assoc xs (of f ∷ []) (map of (fields_in ms)))
fields_kept of step field method (member.Method m ∷ ms) xs = ap (λ ys. fold step ys ms) (method xs m) ∙ fields_kept of step field method ms xs

methods_kept : (ms : List Member) (ks : List MethodKind) → fold with_method ks ms ≡ ks ++ map kind_of (methods_in ms)
methods_kept [] ks = sym (append-nil ks)
methods_kept (member.Field f ∷ ms) ks = methods_kept ms ks
methods_kept (member.Method m ∷ ms) ks = methods_kept ms (ks ++ kind_of m ∷ []) ∙ append_assoc ks (kind_of m ∷ []) (map kind_of (methods_in ms))

pub kinds_kept : (c : Class) → kinds_of c ≡ map kind_of_field (fields_in c.members)
kinds_kept c = fields_kept kind_of_field with_kind (λ xs f. refl) (λ xs m. refl) c.members []

abbrev class_of_state : Field → Option ClassName
class_of_state f = state_class f.type_name

classes_kept : (c : Class) → classes_of c ≡ map class_of_state (fields_in c.members)
classes_kept c = fields_kept class_of_state with_class (λ xs f. refl) (λ xs m. refl) c.members []

kinds_of_methods : (c : Class) → methods_of c ≡ map kind_of (methods_in c.members)
kinds_of_methods c = methods_kept c.members []

-- ---- by number

mapped_at : {A B : Type 0} (of : A → B) (xs : List A) (ys : List B) (i : ℕ) (x : A) → ys ≡ map of xs → slice_get xs i ≡ Some x → slice_get ys i ≡ Some (of x)
mapped_at of xs ys i x is at = ap (λ zs. slice_get zs i) is ∙ (slice_get-map of xs i ∙ ap (option_map of) at)

pub marked_methods : (c : Class) (i : ℕ) (m : Method) → slice_get (methods_in c.members) i ≡ Some m → slice_get (methods_of c) i ≡ Some (kind_of m)
marked_methods c i m at = mapped_at kind_of (methods_in c.members) (methods_of c) i m (kinds_of_methods c) at

pub marked_fields : (c : Class) (i : ℕ) (f : Field) → slice_get (fields_in c.members) i ≡ Some f → slice_get (classes_of c) i ≡ Some (state_class f.type_name)
marked_fields c i f at = mapped_at class_of_state (fields_in c.members) (classes_of c) i f (classes_kept c) at

pub kinds_at : (c : Class) (i : ℕ) (f : Field) → slice_get (fields_in c.members) i ≡ Some f → slice_get (kinds_of c) i ≡ Some (kind_of_field f)
kinds_at c i f at = mapped_at kind_of_field (fields_in c.members) (kinds_of c) i f (kinds_kept c) at

abbrev pub holder_of : ClassName → FieldKind → Holder
holder_of c k = record { class = c; is_partial = is_partial k }

holders_at : (cs : List ClassName) (ks : List FieldKind) (i : ℕ) (c : ClassName) (k : FieldKind) → slice_get cs i ≡ Some c → slice_get ks i ≡ Some k → slice_get (holders cs ks) i ≡ Some (holder_of c k)
holders_at [] ks i c k a b = absurd (cc)
holders_at (d ∷ cs) [] i c k a b = absurd (cc)
holders_at (d ∷ cs) (l ∷ ks) zero c k a b = ap₂ (λ (x : ClassName) (y : FieldKind). Some (holder_of x y)) (the_same a) (the_same b)
holders_at (d ∷ cs) (l ∷ ks) (suc i) c k a b = holders_at cs ks i c k a b

pub held_at : (c : Class) (i : ℕ) (f : Field) → slice_get (fields_in c.members) i ≡ Some f → slice_get (resolved_of c).fields i ≡ Some (holder_of (class_of f) (kind_of_field f))
held_at c i f at =
    holders_at (map class_of (fields_in c.members)) (kinds_of c) i (class_of f) (kind_of_field f)
    (mapped_at class_of (fields_in c.members) (map class_of (fields_in c.members)) i f refl at) (kinds_at c i f at)

-- ---- merge methods

merges_by : (k : MethodKind) → is_merge k ≡ marking.is_merge (Some k)
merges_by Entry = refl
merges_by Helper = refl
merges_by Merge = refl

merges_at : (o : Option Method) → merges (option_map header_of o) ≡ marking.is_merge (option_map kind_of o)
merges_at None = refl
merges_at (Some m) = merges_by (kind_of m)

pub merging_same : (c : Class) (names : List Declaration) (n : ℕ) → merges (slice_get (scope_of c).methods n) ≡ marking.is_merge (slice_get (marking_env_of c names).methods n)
merging_same c names n =
    ap merges (slice_get-map header_of (methods_in c.members) n)
    ∙ (merges_at (slice_get (methods_in c.members) n)
    ∙ ap marking.is_merge (sym (ap (λ (ks : List MethodKind). slice_get ks n) (kinds_of_methods c) ∙ slice_get-map kind_of (methods_in c.members) n)))
