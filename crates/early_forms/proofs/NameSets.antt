-- Sets of names, as what they say of each name.
use Rattle.std.proofs.Common.{◌≡◌, ◌↔◌, refl, ℕ, List, [], ◌∷◌, ◌++◌, sym, ap, subst, ◌∙◌, Contains, Bor, Bool, true, false, cond, IsTrue, inl, inr, Ordering}
use Rattle.std.specs.declared.cmp.Ordering.TheVariants.{Less, Equal, Greater}
use Rattle.std.specs.Ordering.{is_eq, nat_cmp}
use Rattle.std.specs.Cmp.Lexicographic.{slice_cmp}
use Rattle.std.proofs.lemmas.Cmp.{tied_itself, nat_list_cmp_total}
use Rattle.std.proofs.lemmas.Map.Lookups.{exact_bytes}
use Rattle.std.proofs.lemmas.List.Elements.{Contains-append_left, Contains-push, Contains-push_cases}
use Rattle.early_forms.specs.Scope.{is_same, is_held, Holds}

equal_from : (o : Ordering) → is_eq o ≡ true → o ≡ Equal
equal_from Less h = cc
equal_from Equal h = refl
equal_from Greater h = cc

same_from : (a b : List ℕ) → is_same a b ≡ true → a ≡ b
same_from a b h = exact_bytes a b (equal_from (slice_cmp nat_cmp a b) h)

same_itself : (a : List ℕ) → is_same a a ≡ true
same_itself a = ap is_eq (tied_itself nat_list_cmp_total a)

push_seen :
    (old new : Bool) (names : List (List ℕ)) (y q : List ℕ) (b : Bool) → is_same y q ≡ b →
    (IsTrue old ↔ Contains names q) → new ≡ cond b true old → IsTrue new ↔ Contains (names ++ y ∷ []) q
push_seen old new names y q true at seen is =
    let same = same_from y q at in
    let P : List ℕ → Type 0 = λ x. Contains (names ++ y ∷ []) x in
    (λ held. subst P same (Contains-push names y), λ contains. is)
push_seen old new names y q false at seen is = (
  λ held. Contains-append_left names (y ∷ []) q (seen.0 (sym is ∙ held)),
  λ contains. is ∙ elim (Contains-push_cases names y q contains) [
    | inl h ↦ seen.1 h
    | inr e ↦ absurd (let h = same_itself y in let d : is_same y q ≡ is_same y y = ap (λ x. is_same y x) (sym e) in cc)
  ],
)

-- one more name
pub push_holds :
    (old new : List (Bor (List ℕ))) (names : List (List ℕ)) (y : List ℕ) → Holds old names →
    ((q : List ℕ) → is_held new q ≡ cond (is_same y q) true (is_held old q)) → Holds new (names ++ y ∷ [])
push_holds old new names y all updated = record {
  each = λ q. push_seen (is_held old q) (is_held new q) names y q (is_same y q) refl (all.each q) (updated q);
}
