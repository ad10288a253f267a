-- What takes no token, and how many tokens a list has.
use Rattle.std.proofs.Common.{◌≡◌, ℕ, suc, ◌+◌, Bool, true, false, ◌||◌, if◌then◌else◌, List, [], ◌∷◌, ◌++◌, length, drop, refl, sym, ap, ◌∙◌, arith, length-append}
use Rattle.std.proofs.lemmas.List.{drop-drop}
use Rattle.java_tree.specs.declared.token.Kind.{Kind}
use Rattle.java_tree.specs.declared.token.Place.{Place}
use Rattle.java_tree.specs.Tokens.{Kinds}
use Rattle.java_flow.specs.declared.finding.Rule.{Rule}
use Rattle.java_flow.specs.Points.{Point, reading, begun, found_unless}
use Rattle.java_flow.specs.Laws.{Passes}

if_places : (b : Bool) (p q : Point) (places : List Place) → p.places ≡ places → q.places ≡ places → (if b then p else q).places ≡ places
if_places true p q places e f = e
if_places false p q places e f = f

-- a finding takes no token
pub found_places : (is_fine : Bool) (r : Rule) (p : Point) → (found_unless is_fine r p).places ≡ p.places
found_places is_fine r p = if_places is_fine p _ p.places refl refl

pub reading_places : (cut : Bool) (name : List ℕ) (p : Point) → (reading cut name p).places ≡ p.places
reading_places cut name p = found_places (cut || p.assigned name) _ p

pub begun_places : (p : Point) → (begun p).places ≡ p.places
begun_places p = found_places p.is_reachable _ p

pub one_more : (token : Kind) (first others : Kinds) → 1 + length first + length others ≡ length (token ∷ (first ++ others))
one_more token first others = omega (arith, length-append {A = Kind})

pub one_behind : (front : Kinds) (token : Kind) → length front + 1 ≡ length (front ++ token ∷ [])
one_behind front token = omega (arith, length-append {A = Kind})

pub one_before : (n : ℕ) (places : List Place) → drop n (drop 1 places) ≡ drop (suc n) places
one_before n places = drop-drop n 1 places ∙ ap (λ (m : ℕ). drop m places) (let e : 1 + n ≡ suc n = omega arith in e)

-- one thing behind another
pub passes_both : (a b : Kinds) (f g : Point → Point) → Passes a f → Passes b g → Passes (a ++ b) (λ p. g (f p))
passes_both a b f g first second p =
    second (f p) ∙ (ap (drop (length b)) (first p) ∙ (drop-drop (length b) (length a) p.places ∙ ap (λ (n : ℕ). drop n p.places) (sym (length-append a b))))
