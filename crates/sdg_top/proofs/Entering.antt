-- A member of a class is entered among its methods or its fields.
use Rattle.std.proofs.Common.{◌≡◌, ℕ, zero, suc, ◌+◌, ◌-◌, ◌<◌, ◌≤◌, List, [], ◌∷◌, ◌++◌, map, take, drop, get_or, length, refl, ap, sym, subst, ◌∙◌, arith, append_assoc}
use Rattle.std.proofs.Math.Seq.{drop-cons}
use Rattle.std.proofs.lemmas.List.{append-nil, drop_all, length-append, length-map}
use Rattle.java_tree.specs.declared.tree.Member.{Member}
use Rattle.java_tree.specs.declared.tree.Member.TheVariants as member
use Rattle.java_tree.specs.declared.tree.Field.{Field}
use Rattle.java_tree.specs.declared.tree.Method.{Method}
use Rattle.java_tree.specs.declared.method_kinds.MethodKind.{MethodKind}
use Rattle.java_tree.specs.declared.method_kinds.MethodKind.TheVariants.{Entry, Helper, Merge}
use Rattle.java_tree.specs.Kinds.{kind_of}
use Rattle.access_blocks.specs.Programs.{fields_in, methods_in}
use Rattle.run_text.specs.declared.entrance.Entrance.{Entrance}
use Rattle.run_text.specs.declared.field.Field.{Field as NamedField}
use Rattle.sdg_top.specs.Entrances.{with_entrance, entrance_of, entrances_from, named_field}

take_next : {A : Type 0} (k m : ℕ) (x : A) (xs : List A) → k ≡ suc m → take k (x ∷ xs) ≡ x ∷ take m xs
take_next k m x xs e = ap (λ n. take n (x ∷ xs)) e

take_none : {A : Type 0} (k : ℕ) (xs : List A) → k ≡ 0 → take k xs ≡ []
take_none k xs e = ap (λ n. take n xs) e

-- the member at a place comes next
next_member : (ms : List Member) (i : ℕ) (d other : Member) → i < length ms → d ≡ get_or ms i d → d ≡ other → drop i ms ≡ other ∷ drop (i + 1) ms
next_member ms i d other lt at is =
    let next : i + 1 ≡ suc i = omega arith in
    drop-cons ms i d lt ∙ ap (λ x. x ∷ drop (suc i) ms) (sym at ∙ is) ∙ ap (λ n. other ∷ drop n ms) (sym next)

-- ---- methods

-- the entrances so far, and those of the methods to come, are those of all methods
abbrev pub AreEntered : List Member → ℕ → ℕ → List Entrance → Type 0
AreEntered ms i number entrances = entrances ++ entrances_from number (take (65536 - number) (methods_in (drop i ms))) ≡ entrances_from 0 (take 65536 (methods_in ms))

pub method_entered : (ms : List Member) (i number : ℕ) (d : Member) (m : Method) (old new : List Entrance) → i < length ms → d ≡ get_or ms i d → d ≡ member.Method m → number < 65536
    → ((others : List Entrance) → new ++ others ≡ old ++ with_entrance (kind_of m) (entrance_of number m) others)
    → AreEntered ms i number old → AreEntered ms (i + 1) (number + 1) new
method_entered ms i number d m old new lt at is few added all =
    let here = next_member ms i d (member.Method m) lt at is in
    let left : 65536 - number ≡ suc (65536 - (number + 1)) = omega arith in
    let next : number + 1 ≡ suc number = omega arith in
    let later = take (65536 - (number + 1)) (methods_in (drop (i + 1) ms)) in
    let taken : take (65536 - number) (methods_in (drop i ms)) ≡ m ∷ later = ap (λ xs. take (65536 - number) (methods_in xs)) here ∙ take_next (65536 - number) (65536 - (number + 1)) m (methods_in (drop (i + 1) ms)) left in
    added (entrances_from (number + 1) later)
    ∙ ap (λ n. old ++ with_entrance (kind_of m) (entrance_of number m) (entrances_from n later)) next
    ∙ ap (λ xs. old ++ entrances_from number xs) (sym taken)
    ∙ all

one_more : (k : MethodKind) (e : Entrance) (old : List Entrance) → length (old ++ with_entrance k e []) ≤ length old + 1
one_more Entry e old = let n = length-append old (e ∷ []) in omega (arith, n)
one_more Helper e old = let n = length-append old [] in omega (arith, n)
one_more Merge e old = let n = length-append old [] in omega (arith, n)

pub few_entered : (number : ℕ) (m : Method) (old new : List Entrance) → ((others : List Entrance) → new ++ others ≡ old ++ with_entrance (kind_of m) (entrance_of number m) others) → length old ≤ number → length new ≤ number + 1
few_entered number m old new added few =
    let same = ap length (sym (append-nil new) ∙ added []) in
    let more = one_more (kind_of m) (entrance_of number m) old in
    omega (arith, same, more, few)

pub all_entered : (ms : List Member) (i number : ℕ) (entrances : List Entrance) → length ms ≤ i → AreEntered ms i number entrances → entrances ≡ entrances_from 0 (take 65536 (methods_in ms))
all_entered ms i number entrances le all =
    let none = drop_all i ms le in
    let nothing : take (65536 - number) (methods_in (drop i ms)) ≡ [] = ap (λ xs. take (65536 - number) (methods_in xs)) none ∙ take_nil (65536 - number) in
    sym (append-nil entrances) ∙ ap (λ xs. entrances ++ entrances_from number xs) (sym nothing) ∙ all
  where
    take_nil : (n : ℕ) → take {A = Method} n [] ≡ []
    take_nil zero = refl
    take_nil (suc n) = refl

pub full_entered : (ms : List Member) (i number : ℕ) (entrances : List Entrance) → 65536 ≤ number → AreEntered ms i number entrances → entrances ≡ entrances_from 0 (take 65536 (methods_in ms))
full_entered ms i number entrances full all =
    let nothing = take_none (65536 - number) (methods_in (drop i ms)) (omega arith) in
    sym (append-nil entrances) ∙ ap (λ xs. entrances ++ entrances_from number xs) (sym nothing) ∙ all

-- ---- fields

-- the fields so far, and those to come, are all
abbrev pub AreNamed : List Member → ℕ → List NamedField → Type 0
AreNamed ms i fields = fields ++ map named_field (take (65536 - length fields) (fields_in (drop i ms))) ≡ map named_field (take 65536 (fields_in ms))

pub record NamedSoFar (ms : List Member) (i : ℕ) (fields : List NamedField) : Type 0 where
  pub all : AreNamed ms i fields
  pub few : length fields ≤ 65536

-- before the first member
pub none_named : (ms : List Member) (fields : List NamedField) → fields ≡ [] → NamedSoFar ms 0 fields
none_named ms fields none = record { all = subst (λ fs. AreNamed ms 0 fs) (sym none) refl; few = let n = ap length none in omega (arith, n) }

pub field_named : (ms : List Member) (i : ℕ) (d : Member) (f : Field) (old : List NamedField) → i < length ms → d ≡ get_or ms i d → d ≡ member.Field f → length old < 65536
    → AreNamed ms i old → AreNamed ms (i + 1) (old ++ named_field f ∷ [])
field_named ms i d f old lt at is few all =
    let here = next_member ms i d (member.Field f) lt at is in
    let more = length-append old (named_field f ∷ []) in
    let left : 65536 - length old ≡ suc (65536 - length (old ++ named_field f ∷ [])) = omega (arith, more) in
    let later = take (65536 - length (old ++ named_field f ∷ [])) (fields_in (drop (i + 1) ms)) in
    let taken : take (65536 - length old) (fields_in (drop i ms)) ≡ f ∷ later = ap (λ xs. take (65536 - length old) (fields_in xs)) here ∙ take_next (65536 - length old) (65536 - length (old ++ named_field f ∷ [])) f (fields_in (drop (i + 1) ms)) left in
    append_assoc old (named_field f ∷ []) (map named_field later)
    ∙ ap (λ xs. old ++ map named_field xs) (sym taken)
    ∙ all

pub all_named : (ms : List Member) (i : ℕ) (fields : List NamedField) → length ms ≤ i → AreNamed ms i fields → fields ≡ map named_field (take 65536 (fields_in ms))
all_named ms i fields le all =
    let none = drop_all i ms le in
    let nothing : take (65536 - length fields) (fields_in (drop i ms)) ≡ [] = ap (λ xs. take (65536 - length fields) (fields_in xs)) none ∙ take_nil (65536 - length fields) in
    sym (append-nil fields) ∙ ap (λ xs. fields ++ map named_field xs) (sym nothing) ∙ all
  where
    take_nil : (n : ℕ) → take {A = Field} n [] ≡ []
    take_nil zero = refl
    take_nil (suc n) = refl

pub full_named : (ms : List Member) (i : ℕ) (fields : List NamedField) → 65536 ≤ length fields → AreNamed ms i fields → fields ≡ map named_field (take 65536 (fields_in ms))
full_named ms i fields full all =
    let nothing = take_none (65536 - length fields) (fields_in (drop i ms)) (omega arith) in
    sym (append-nil fields) ∙ ap (λ xs. fields ++ map named_field xs) (sym nothing) ∙ all
