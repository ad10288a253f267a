-- The places of tokens, one after the other.
use Rattle.std.proofs.Common.{◌≡◌, ℕ, ◌+◌, ◌<◌, ◌≤◌, List, [], ◌∷◌, ◌++◌, length, map, take, get_or, sym, ap, ◌∙◌}
use Rattle.std.proofs.lemmas.List.{map_more, take_all}
use Rattle.java_tree.specs.declared.token.Token.{Token}
use Rattle.java_tree.specs.declared.token.Place.{Place}

abbrev pub places_of : List Token → List Place
places_of tokens = map (λ t. t.place) tokens

pub places_more : (tokens : List Token) (i : ℕ) (d : Token) → i < length tokens → places_of (take (i + 1) tokens) ≡ places_of (take i tokens) ++ (get_or tokens i d).place ∷ []
places_more tokens i d lt = map_more (λ t. t.place) tokens i d lt

pub places_all : (tokens : List Token) (i : ℕ) → length tokens ≤ i → places_of (take i tokens) ≡ places_of tokens
places_all tokens i le = ap places_of (take_all i tokens le)

-- the places of one token more
pub places_step : (tokens : List Token) (i : ℕ) (t : Token) (found next : List Place) → i < length tokens → get_or tokens i t ≡ t → next ≡ found ++ t.place ∷ [] → found ≡ places_of (take i tokens) → next ≡ places_of (take (i + 1) tokens)
places_step tokens i t found next lt is pushed so_far =
    pushed
    ∙ ap (λ (ps : List Place). ps ++ t.place ∷ []) so_far
    ∙ ap (λ (u : Token). places_of (take i tokens) ++ u.place ∷ []) (sym is)
    ∙ sym (places_more tokens i t lt)
