-- Numbers with commas between them: the first, and then each other behind its comma.
use Rattle.std.proofs.Common.{◌≡◌, ℕ, List, [], ◌∷◌, ◌++◌, ℤ, map, ap, sym, ◌∙◌, append-nil}
use Rattle.std.specs.Fmt.{signed_decimal}
use Rattle.std.specs.List.{flat_map, join_with_byte}

abbrev pub after_comma : ℤ → List ℕ
after_comma number = 44 ∷ signed_decimal number

join-cons : (first : ℤ) (rest : List ℤ) → join_with_byte 44 (map signed_decimal (first ∷ rest)) ≡ signed_decimal first ++ flat_map after_comma rest
join-cons first [] = sym (append-nil (signed_decimal first))
join-cons first (next ∷ rest) = ap (λ after. signed_decimal first ++ (44 ∷ after)) (join-cons next rest)

pub join_of_first_and_rest : (numbers : List ℤ) (first : ℤ) (rest : List ℤ) → numbers ≡ first ∷ rest → join_with_byte 44 (map signed_decimal numbers) ≡ signed_decimal first ++ flat_map after_comma rest
join_of_first_and_rest numbers first rest e = ap (λ all. join_with_byte 44 (map signed_decimal all)) e ∙ join-cons first rest
