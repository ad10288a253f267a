-- laws on the first bytes of a file
use Rattle.std.proofs.Common.{◌≡◌, ℕ, ◌+◌, ◌≤◌, List, ◌++◌, length, take, drop, Option, Some, None, IfSome, sym, ap, subst, ◌∙◌, arith, length-drop, length-append}
use Rattle.std.proofs.Math.Seq.{take-add}
use Rattle.std.proofs.lemmas.List.{take-append-le, length-take-le}
use Rattle.sdg_keep.specs.Reads.{PutsBytes}
use Rattle.sdg_keep.specs.Wholes.{IsPrefixOf}

-- what a read gives goes on with the file
pub IsPrefixOf-read : (told : Option (List ℕ)) (bytes front back piece new : List ℕ) (from n : ℕ) → from ≡ length bytes → n ≤ length front → IfSome told (λ file. PutsBytes file from front n) → piece ≡ take n (front ++ back) → new ≡ bytes ++ piece → IsPrefixOf told bytes → IsPrefixOf told new
IsPrefixOf-read None bytes front back piece new from n at fits put cut grown old = tt
IsPrefixOf-read (Some file) bytes front back piece new from n at fits put cut grown old =
    let read : take n front ≡ take n (drop (length bytes) file) = subst (λ k. take n front ≡ take n (drop k file)) at put.bytes in
    let within : n ≤ length (drop (length bytes) file) = subst (λ k. n ≤ length (drop k file)) at put.within in
    let piece_is : piece ≡ take n (drop (length bytes) file) = cut ∙ take-append-le n front back fits ∙ read in
    let counted : length piece ≡ n = ap length piece_is ∙ length-take-le n (drop (length bytes) file) within in
    let long : length new ≡ length bytes + n = ap length grown ∙ length-append bytes piece ∙ ap (λ k. length bytes + k) counted in
    let same : new ≡ take (length bytes + n) file =
    grown ∙ ap (λ w. bytes ++ w) piece_is ∙ ap (λ w. w ++ take n (drop (length bytes) file)) old.1 ∙ sym (take-add (length bytes) n file) in
    (omega (arith, long, length-drop (length bytes) file, within, old.0), same ∙ ap (λ k. take k file) (sym long))
