-- Words that several crates have for the same, and small facts of lists.
use Rattle.std.proofs.Common.{◌≡◌, ℕ, zero, suc, ◌+◌, ◌<◌, ◌≤◌, Bool, true, false, not, ◌||◌, nat_eq, List, [], ◌∷◌, ◌++◌, length, slice_get, Option, Some, None, refl, arith}
use Rattle.std.specs.List.{range_with_len}
use Rattle.std.proofs.lemmas.Bool.Decides.{nat_tests}
use Rattle.java_tree.specs.declared.tree.ResultType.{ResultType}
use Rattle.java_tree.specs.declared.tree.ResultType.TheVariants as result
use Rattle.java_tree.specs.declared.method_kinds.MethodKind.{MethodKind}
use Rattle.java_tree.specs.declared.method_kinds.MethodKind.TheVariants.{Entry, Helper, Merge}
use Rattle.annotations.specs.declared.site.FieldKind.{FieldKind}
use Rattle.annotations.specs.declared.site.FieldKind.TheVariants.{Partitioned, Partial}
use Rattle.annotations.specs.Accesses.{is_partitioned}
use Rattle.annotations.specs.Members as marking
use Rattle.access_blocks.specs.declared.scope.Header.{Header}
use Rattle.access_blocks.specs.Programs as programs
use Rattle.access_blocks.specs.ResolvingStatements.{declared_type}
use Rattle.access_blocks.specs.Resolving.{wanted_by}
use Rattle.body_code.specs.Checking.{is_entry}
use Rattle.body_code.specs.ClassCode.{result_type}
use Rattle.body_code.specs.Early.{is_in}
use Rattle.accepted_classes.specs.Known as accepted
use Rattle.accepted_classes.proofs.Parameters.{wanted_is}
use Rattle.typed_bodies.specs.Reading as reading

-- ---- words

pub entry_same : (kind : MethodKind) → marking.is_entry kind ≡ is_entry kind
entry_same Entry = refl
entry_same Helper = refl
entry_same Merge = refl

pub partial_same : (kind : FieldKind) → programs.is_partial kind ≡ not (is_partitioned kind)
partial_same Partitioned = refl
partial_same Partial = refl

pub merges_same : (h : Option Header) → reading.merges h ≡ accepted.merges h
merges_same None = refl
merges_same (Some h) = refl

pub wanted_result : (r : ResultType) → wanted_by (result_type r) ≡ programs.result_type r
wanted_result result.Void = refl
wanted_result (result.Type name) = wanted_is (declared_type name)

-- ---- numbers in lists

or_right : (a b : Bool) → b ≡ true → (a || b) ≡ true
or_right true b h = refl
or_right false b h = h

or_left : (a b : Bool) → a ≡ true → (a || b) ≡ true
or_left true b h = refl
or_left false b h = absurd (cc)

pub in_right : (v : ℕ) (xs ys : List ℕ) → is_in v ys ≡ true → is_in v (xs ++ ys) ≡ true
in_right v [] ys h = h
in_right v (x ∷ xs) ys h = or_right (nat_eq v x) (is_in v (xs ++ ys)) (in_right v xs ys h)

first_or_left : (v x : ℕ) (xs ys : List ℕ) → (is_in v xs ≡ true → is_in v (xs ++ ys) ≡ true) → (b : Bool) → nat_eq v x ≡ b → (b || is_in v xs) ≡ true → is_in v ((x ∷ xs) ++ ys) ≡ true
first_or_left v x xs ys rest true e g = or_left (nat_eq v x) (is_in v (xs ++ ys)) e
first_or_left v x xs ys rest false e g = or_right (nat_eq v x) (is_in v (xs ++ ys)) (rest g)

pub in_left : (v : ℕ) (xs ys : List ℕ) → is_in v xs ≡ true → is_in v (xs ++ ys) ≡ true
in_left v [] ys h = absurd (cc)
in_left v (x ∷ xs) ys h = first_or_left v x xs ys (in_left v xs ys) (nat_eq v x) refl h

first_or_range : (n from v : ℕ) → (from + 1 ≤ v → is_in v (range_with_len (from + 1) n) ≡ true) → from ≤ v → (b : Bool) → nat_eq v from ≡ b → is_in v (range_with_len from (suc n)) ≡ true
first_or_range n from v rest low true e = or_left (nat_eq v from) (is_in v (range_with_len (from + 1) n)) e
first_or_range n from v rest low false e = or_right (nat_eq v from) (is_in v (range_with_len (from + 1) n)) (rest (grind (arith, nat_tests)))

pub in_range : (n from v : ℕ) → from ≤ v → v < from + n → is_in v (range_with_len from n) ≡ true
in_range zero from v low high = absurd (omega (arith, low, high))
in_range (suc n) from v low high = first_or_range n from v (λ more. in_range n (from + 1) v more (omega (arith, high))) low (nat_eq v from) refl

within_first : (n from v : ℕ) → (is_in v (range_with_len (from + 1) n) ≡ true → v < from + 1 + n) → (b : Bool) → nat_eq v from ≡ b → (b || is_in v (range_with_len (from + 1) n)) ≡ true → v < from + suc n
within_first n from v rest true e g = grind (arith, nat_tests)
within_first n from v rest false e g = let later = rest g in omega (arith, later)

pub range_within : (n from v : ℕ) → is_in v (range_with_len from n) ≡ true → v < from + n
range_within zero from v h = absurd (cc)
range_within (suc n) from v h = within_first n from v (range_within n (from + 1) v) (nat_eq v from) refl h

-- ---- elements

pub there_left : {A : Type 0} (xs ys : List A) (i : ℕ) (a : A) → i < length xs → slice_get (xs ++ ys) i ≡ Some a → slice_get xs i ≡ Some a
there_left [] ys i a lt is = absurd (omega (arith, lt))
there_left (x ∷ xs) ys zero a lt is = is
there_left (x ∷ xs) ys (suc i) a lt is = there_left xs ys i a (omega (arith, lt)) is

pub the_same : {A : Type 0} {x y : A} → Some x ≡ Some y → x ≡ y
the_same e = cc
