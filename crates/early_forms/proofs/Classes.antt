-- The members of a class of the straight form.
use Rattle.std.proofs.Common.{◌≡◌, ◌≢◌, ℕ, ◌<◌, ◌≤◌, refl, List, [], ◌∷◌, ◌++◌, map, length, get_or, take, drop, sym, ap, ◌∙◌, arith}
use Rattle.std.proofs.Math.Seq.{drop-cons}
use Rattle.std.proofs.lemmas.List.{take_all, drop_all, append-nil, take-append-drop, length-map, length-take}
use Rattle.java_tree.specs.declared.token.Place.{Place}
use Rattle.java_tree.specs.declared.tree.Member.{Member}
use Rattle.java_tree.specs.declared.tree.Member.TheVariants as member
use Rattle.early_forms.specs.declared.straight.StraightMethod.{StraightMethod}
use Rattle.early_forms.specs.declared.straight.StraightClass.{StraightClass}
use Rattle.early_forms.specs.Trees.{table_member, method_member, class_tree}
use Rattle.early_forms.specs.Parts.{class_of, TablesAtHead}

abbrev pub field_name : Member → List ℕ
field_name (member.Field f) = f.name
field_name (member.Method m) = []

pub no_table_here :
    (members : List Member) (i : ℕ) (d : Member) (fields : List (List ℕ)) → i < length members → d ≡ get_or members i d →
    take i members ≡ map table_member fields → ((name : List ℕ) → d ≢ table_member name) → TablesAtHead members fields
no_table_here members i d fields within read done refused =
    let count : length fields ≡ i = (let a = ap length done in let b = length-map fields table_member in let e = length-take i members in omega (arith, a, b, e)) in
    let rest = drop-cons members i d within in
    record {
      within = omega (arith, count);
      parted = sym (take-append-drop i members) ∙ (let P = done in rw (count, done) refl);
      ended = λ name others same. refused name (let h = rest in let g = read in let c = count in cc);
    }

pub all_tables : (members : List Member) (i : ℕ) (fields : List (List ℕ)) → length members ≤ i → take i members ≡ map table_member fields → TablesAtHead members fields
all_tables members i fields past done =
    let whole = take_all i members past in
    let all : members ≡ map table_member fields = sym whole ∙ done in
    let count : length fields ≡ length members = (let a = ap length all in let b = length-map fields table_member in omega (arith, a, b)) in
    let none : drop (length fields) members ≡ [] = drop_all (length fields) members (omega (arith, count)) in
    record {
      within = omega (arith, count);
      parted = rw none (all ∙ sym (append-nil (map table_member fields)));
      ended = λ name others same. (let h = none in cc);
    }

-- members of which those behind the tables are no methods of the form
others_none :
    (fields gs : List (List ℕ)) (others : List Member) (ms : List StraightMethod) →
    ((name : List ℕ) (rest : List Member) → others ≢ table_member name ∷ rest) → ((ns : List StraightMethod) → others ≢ map method_member ns) →
    map table_member fields ++ others ≢ map table_member gs ++ map method_member ms
others_none [] [] others ms ended refused same = refused ms same
others_none [] (g ∷ gs) others ms ended refused same = ended g (map table_member gs ++ map method_member ms) same
others_none (f ∷ fs) [] others [] ended refused same = cc
others_none (f ∷ fs) [] others (m ∷ ms) ended refused same = cc
others_none (f ∷ fs) (g ∷ gs) others ms ended refused same = others_none fs gs others ms ended refused (cc)

pub members_none :
    (name : List ℕ) (members : List Member) (places : List Place) (fields : List (List ℕ)) → TablesAtHead members fields →
    ((ns : List StraightMethod) → drop (length fields) members ≢ map method_member ns) →
    (c : StraightClass) → class_of name members places ≢ class_tree c
members_none name members places fields head refused c same =
    others_none fields c.fields (drop (length fields) members) c.methods head.ended refused
    (sym head.parted ∙ ap (λ tree. tree.members) same)
