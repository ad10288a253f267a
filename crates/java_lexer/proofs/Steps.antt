-- A text that is read element by element.
use Rattle.std.proofs.Common.{◌≡◌, ◌⊎◌, ℕ, List, [], ◌++◌, take, drop, inl, inr, refl, sym, ap, ◌∙◌, subst}
use Rattle.std.proofs.lemmas.List.{take-append-drop}
use Rattle.java_tree.specs.declared.token.Token.{Token}
use Rattle.java_tree.specs.declared.token.Place.{Place}
use Rattle.java_lexer.specs.declared.element.Element.{Element}
use Rattle.java_lexer.specs.declared.element.Element.TheVariants as element
use Rattle.java_lexer.specs.declared.element.Fault.{Fault}
use Rattle.java_lexer.specs.declared.element.Fault.TheVariants as fault
use Rattle.java_lexer.specs.declared.lexer.LexError.{LexError}
use Rattle.java_lexer.specs.declared.lexer.LexError.TheVariants.{Memory}
use Rattle.java_lexer.specs.Places.{place_after}
use Rattle.java_lexer.specs.Spelling.{Reads, stops, passes, keeps, Spells, Refuses, IsFault}
use Rattle.java_lexer.specs.Reading.{Stands, IsElement, IsFaulty, IsErrorOf, tokens_of}

-- what is read behind what was read
reads_on : (at : Place) (text : List ℕ) (tokens : List Token) (to : Place) (left : List ℕ) → Reads at text tokens to left → (more : List Token) (end : Place) (last : List ℕ) → Reads to left more end last
    → Reads at text (tokens ++ more) end last
reads_on _ _ _ _ _ (stops at text) more end last h = h
reads_on _ _ _ _ _ (passes at to front rest left tokens space inner) more end last h = passes at end front rest last (tokens ++ more) space (reads_on _ _ _ _ _ inner more end last h)
reads_on _ _ _ _ _ (keeps at to kind front rest left tokens token inner) more end last h = keeps at end kind front rest last (tokens ++ more) token (reads_on _ _ _ _ _ inner more end last h)

reads_one : (e : Element) (place : Place) (front rest : List ℕ) → IsElement e front rest → Reads place (front ++ rest) (tokens_of e place) (place_after place front) rest
reads_one element.Space place front rest h = passes place (place_after place front) front rest rest [] h (stops (place_after place front) rest)
reads_one (element.Token kind) place front rest h = keeps place (place_after place front) kind front rest rest [] h (stops (place_after place front) rest)

-- one turn of the loop
pub read_more : (at : Place) (text : List ℕ) (list list' : List Token) (place place' : Place) (rest front after : List ℕ) (e : Element) (len : ℕ)
    → Reads at text list place rest → Stands e len rest → front ≡ take len rest → after ≡ drop len rest → place' ≡ place_after place front → list' ≡ list ++ tokens_of e place
    → Reads at text list' place' after
read_more at text list list' place place' rest front after e len so h front_is after_is place'_is list'_is =
    let one : Reads place (take len rest ++ drop len rest) (tokens_of e place) (place_after place (take len rest)) (drop len rest) = reads_one e place (take len rest) (drop len rest) h.is in
    let next : Reads place rest (tokens_of e place) (place_after place (take len rest)) (drop len rest) =
    subst (λ t. Reads place t (tokens_of e place) (place_after place (take len rest)) (drop len rest)) (take-append-drop len rest) one in
    let all : Reads at text (list ++ tokens_of e place) (place_after place (take len rest)) (drop len rest) = reads_on at text list place rest so (tokens_of e place) (place_after place (take len rest)) (drop len rest) next in
    let there : place_after place (take len rest) ≡ place' = sym (place'_is ∙ ap (place_after place) front_is) in
    subst (λ l. Reads at text l place' after) (sym list'_is) (subst (λ p. Reads at text (list ++ tokens_of e place) p after) there (subst (λ r. Reads at text (list ++ tokens_of e place) (place_after place (take len rest)) r) (sym after_is) all))

pub read_all : (at : Place) (text : List ℕ) (list : List Token) (place : Place) (rest : List ℕ) → Reads at text list place rest → rest ≡ [] → Spells at list place text
read_all at text list place rest so none = subst (Reads at text list place) none so

-- the error of a fault at the rest of a text refuses the text
pub refused_at : (at : Place) (text : List ℕ) (list : List Token) (place : Place) (rest : List ℕ) (f : Fault) (error : LexError) → Reads at text list place rest → IsFaulty f rest → IsErrorOf f place error
    → (error ≡ Memory) ⊎ Refuses at text error
refused_at at text list place rest fault.BadByte error so h e = inr (record { tokens = list; place = place; rest = rest; reads = so; fault = subst (λ x. IsFault x place rest) (sym e) (refl, h) })
refused_at at text list place rest fault.BadNumber error so h e = inr (record { tokens = list; place = place; rest = rest; reads = so; fault = subst (λ x. IsFault x place rest) (sym e) (refl, h) })
refused_at at text list place rest fault.OpenComment error so h e = inr (record { tokens = list; place = place; rest = rest; reads = so; fault = subst (λ x. IsFault x place rest) (sym e) (refl, h) })
refused_at at text list place rest fault.Memory error so h e = inl e
