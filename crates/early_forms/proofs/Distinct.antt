-- Names that are all in a set, each once.
use Rattle.std.proofs.Common.{◌≡◌, ◌≢◌, ℕ, ◌+◌, ◌<◌, List, [], ◌∷◌, ◌++◌, map, length, get_or, take, sym, ap, ◌∙◌, arith, Bor, true, false, cond}
use Rattle.std.proofs.lemmas.List.{get_or_default, get_or-take, length-take, length-map, take_more, take-map, map-append}
use Rattle.std.proofs.lemmas.List.Quantifiers.{all_pairs_push}
use Rattle.early_forms.specs.Names.{AreDistinct}
use Rattle.early_forms.specs.Scope.{is_same, is_held, Holds}
use Rattle.early_forms.proofs.Lists.{get_or-map}
use Rattle.early_forms.proofs.NameSets.{push_holds}

pub record AllSeen (keys : List (Bor (List ℕ))) (names : List (List ℕ)) : Type 0 where
  pub distinct : AreDistinct names
  pub seen : Holds keys names

pub push_all_seen :
    (old new : List (Bor (List ℕ))) (names : List (List ℕ)) (y : List ℕ) →
    AllSeen old names → is_held old y ≡ false →
    ((q : List ℕ) → is_held new q ≡ cond (is_same y q) true (is_held old q)) → AllSeen new (names ++ y ∷ [])
push_all_seen old new names y all fresh updated = record {
  distinct = all_pairs_push (λ a b. a ≢ b) names y all.distinct
      (λ k d within same.
      let there = (all.seen.each y).1 (k, within, get_or_default names k y d within ∙ same) in
      (let e = sym there ∙ fresh in cc));
  seen = push_holds old new names y all.seen updated;
}

abbrev pub texts : List (Bor (List ℕ)) → List (List ℕ)
texts names = map (λ name. name.now) names

texts_more :
    (names : List (Bor (List ℕ))) (i : ℕ) (d : Bor (List ℕ)) → i < length names →
    texts (take (i + 1) names) ≡ texts (take i names) ++ (get_or names i d).now ∷ []
texts_more names i d within =
    ap texts (take_more names i d within) ∙ map-append (λ (name : Bor (List ℕ)). name.now) (take i names) (get_or names i d ∷ [])

-- one more name, which was not in the set
pub more_seen :
    (names : List (Bor (List ℕ))) (i : ℕ) (d : Bor (List ℕ)) (old new : List (Bor (List ℕ))) → i < length names →
    AllSeen old (texts (take i names)) → is_held old (get_or names i d).now ≡ false →
    ((q : List ℕ) → is_held new q ≡ cond (is_same (get_or names i d).now q) true (is_held old q)) →
    AllSeen new (texts (take (i + 1) names))
more_seen names i d old new within all fresh updated =
    rw (texts_more names i d within) (push_all_seen old new (texts (take i names)) (get_or names i d).now all fresh updated)

-- a name that was in the set stands at an earlier place too
pub seen_again :
    (names : List (Bor (List ℕ))) (i : ℕ) (d : Bor (List ℕ)) (old : List (Bor (List ℕ))) → i < length names →
    AllSeen old (texts (take i names)) → is_held old (get_or names i d).now ≡ true → AreDistinct (texts names) → ⊥
seen_again names i d old within all held distinct =
    let name = (get_or names i d).now in
    let found = (all.seen.each name).0 held in
    let k = found.0 in
    let front = take-map (λ (x : Bor (List ℕ)). x.now) i names in
    let before : k < i = (let h = found.1 in omega (arith, h, length-map (take i names) (λ (x : Bor (List ℕ)). x.now), length-take i names)) in
    let within' : i < length (texts names) = omega (arith, length-map names (λ (x : Bor (List ℕ)). x.now)) in
    let first : get_or (texts names) k name ≡ name =
    (let a = get_or-take i (texts names) k name before in let b = ap (λ xs. get_or xs k name) front in let e = found.2 in cc) in
    let second = get_or_default (texts names) i name d.now within' ∙ get_or-map (λ (x : Bor (List ℕ)). x.now) names i d in
    distinct k i name before within' (first ∙ sym second)
