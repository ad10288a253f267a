-- The cells of a cluster as they are made, one after the other.
use Rattle.std.proofs.Common.{◌≡◌, ℕ, zero, suc, ◌+◌, List, [], ◌∷◌, ◌++◌, map, ap, ◌∙◌, sym, arith, append_assoc}
use Rattle.std.specs.List.{flat_map}
use Rattle.std.proofs.lemmas.List.{map-append, append-nil}
use Rattle.std.proofs.lemmas.Grind.{flat_map-append}
use Rattle.sdg_base.specs.declared.port.Port.{Port}
use Rattle.sdg_base.specs.declared.port.Port.TheVariants as port
use Rattle.cluster.specs.World.{numbers_from}
use Rattle.cluster.specs.Beginning.{row}

numbers_from-push : (n count : ℕ) → numbers_from n (suc count) ≡ numbers_from n count ++ (n + count) ∷ []
numbers_from-push n zero = let same : n ≡ n + 0 = omega arith in ap (λ k. k ∷ []) same
numbers_from-push n (suc count) =
    let same : n + 1 + count ≡ n + suc count = omega arith in
    ap (λ ks. n ∷ ks) (numbers_from-push (n + 1) count ∙ ap (λ k. numbers_from (n + 1) count ++ k ∷ []) same)

counted : (count : ℕ) → numbers_from 0 (count + 1) ≡ numbers_from 0 count ++ count ∷ []
counted count =
    let next : count + 1 ≡ suc count = omega arith in
    let same : 0 + count ≡ count = omega arith in
    ap (numbers_from 0) next ∙ numbers_from-push 0 count ∙ ap (λ k. numbers_from 0 count ++ k ∷ []) same

pub row-push : (before after made : List Port) (slot field : ℕ) → before ≡ made ++ row slot field → after ≡ before ++ port.Slot field slot ∷ [] → after ≡ made ++ row (slot + 1) field
row-push before after made slot field e f =
    f ∙ ap (λ ps. ps ++ port.Slot field slot ∷ []) e ∙ append_assoc made (row slot field) (port.Slot field slot ∷ [])
    ∙ ap (λ ps. made ++ ps) (sym (ap (map (λ at. port.Slot field at)) (counted slot) ∙ map-append (λ at. port.Slot field at) (numbers_from 0 slot) (slot ∷ [])))

pub rows-push : (before after : List Port) (slots field : ℕ) → before ≡ port.Front ∷ port.Join ∷ flat_map (row slots) (numbers_from 0 field) → after ≡ before ++ row slots field
    → after ≡ port.Front ∷ port.Join ∷ flat_map (row slots) (numbers_from 0 (field + 1))
rows-push before after slots field e f =
    f ∙ ap (λ ps. ps ++ row slots field) e
    ∙ ap (λ ps. port.Front ∷ port.Join ∷ ps) (sym (ap (flat_map (row slots)) (counted field) ∙ flat_map-append (row slots) (numbers_from 0 field) (field ∷ []) ∙ ap (λ ps. flat_map (row slots) (numbers_from 0 field) ++ ps) (append-nil (row slots field))))
