-- The place after a text that is read element by element is the place after its bytes.
use Rattle.std.proofs.Common.{◌≡◌, ℕ, Bool, true, false, cond, ◌&&◌, nat_eq, List, [], ◌∷◌, ◌++◌, refl, sym, ap, ◌∙◌}
use Rattle.std.specs.Prelude.{codes}
use Rattle.std.specs.List.{list_all}
use Rattle.std.proofs.lemmas.Bool.{and_parts, and_left, and_right, false_from_ne_true, false≢true, eqb-true}
use Rattle.std.proofs.lemmas.List.{append-nil, append_assoc}
use Rattle.std.proofs.lemmas.List.Sums.{list_all-from_AllPass}
use Rattle.java_tree.specs.declared.token.Kind.{Kind}
use Rattle.java_tree.specs.declared.token.Kind.TheVariants as k
use Rattle.java_tree.specs.declared.token.Symbol.{Symbol}
use Rattle.java_tree.specs.declared.token.Symbol.TheVariants as symbol
use Rattle.java_tree.specs.declared.token.Token.{Token}
use Rattle.java_tree.specs.declared.token.Place.{Place}
use Rattle.java_tree.specs.Texts.{reserved_text, symbol_text}
use Rattle.java_lexer.specs.Places.{next_line, next_column, place_after}
use Rattle.java_lexer.specs.Spelling.{begins, is_blank, is_line_feed, is_in_line, is_word_byte, is_number_byte, IsSpace, blank, carriage_return, carriage_return_line_feed, end_of_line_comment, traditional_comment, IsText, Reads, stops, passes, keeps, Spells}
use Rattle.java_lexer.proofs.Literals.{number_bytes}
use Rattle.java_lexer.proofs.Firsts.{reserved_all}

-- the last byte is CR
abbrev ends_return : List ℕ → Bool
ends_return [] = false
ends_return (b ∷ []) = nat_eq b 13
ends_return (b ∷ (c ∷ text)) = ends_return (c ∷ text)

-- no CR LF is taken apart
abbrev IsWhole : List ℕ → List ℕ → Type 0
IsWhole front rest = (ends_return front && begins is_line_feed rest) ≡ false

one_by : (at : Place) (text : List ℕ) (u v w : Bool) → (v && w) ≡ false
    → cond u (place_after (next_line at) text) (cond v (cond w (place_after at text) (place_after (next_line at) text)) (place_after (next_column at) text))
    ≡ place_after (cond u (next_line at) (cond v (next_line at) (next_column at))) text
one_by at text true v w h = refl
one_by at text false true true h = absurd (false≢true (sym h))
one_by at text false true false h = refl
one_by at text false false w h = refl

after_one : (at : Place) (b : ℕ) (rest : List ℕ) → IsWhole (b ∷ []) rest → place_after at (b ∷ rest) ≡ place_after (place_after at (b ∷ [])) rest
after_one at b [] h = refl
after_one at b (c ∷ rest) h = one_by at (c ∷ rest) (nat_eq b 10) (nat_eq b 13) (nat_eq c 10) h

more_by : (at : Place) (front text rest : List ℕ) (u v w : Bool) → ((p : Place) → place_after p text ≡ place_after (place_after p front) rest)
    → cond u (place_after (next_line at) text) (cond v (cond w (place_after at text) (place_after (next_line at) text)) (place_after (next_column at) text))
    ≡ place_after (cond u (place_after (next_line at) front) (cond v (cond w (place_after at front) (place_after (next_line at) front)) (place_after (next_column at) front))) rest
more_by at front text rest true v w more = more (next_line at)
more_by at front text rest false true true more = more at
more_by at front text rest false true false more = more (next_line at)
more_by at front text rest false false w more = more (next_column at)

after_append : (at : Place) (front rest : List ℕ) → IsWhole front rest → place_after at (front ++ rest) ≡ place_after (place_after at front) rest
after_append at [] rest h = refl
after_append at (b ∷ []) rest h = after_one at b rest h
after_append at (b ∷ (c ∷ front)) rest h = more_by at (c ∷ front) (c ∷ (front ++ rest)) rest (nat_eq b 10) (nat_eq b 13) (nat_eq c 10) (λ p. after_append p (c ∷ front) rest h)

-- ---- elements

ends_all : (p : ℕ → Bool) (text : List ℕ) → p 13 ≡ false → list_all p text ≡ true → ends_return text ≡ false
ends_all p [] none all = refl
ends_all p (b ∷ []) none all = false_from_ne_true (nat_eq b 13) (λ e. false≢true (sym none ∙ ap p (sym (eqb-true b 13 e)) ∙ (and_parts (p b) true all).0))
ends_all p (b ∷ (c ∷ text)) none all = ends_all p (c ∷ text) none (and_parts (p b) (list_all p (c ∷ text)) all).1

ends_append : (front : List ℕ) (b : ℕ) (rest : List ℕ) → ends_return (front ++ (b ∷ rest)) ≡ ends_return (b ∷ rest)
ends_append [] b rest = refl
ends_append (c ∷ []) b rest = refl
ends_append (c ∷ (d ∷ front)) b rest = ends_append (d ∷ front) b rest

symbol_ends : (s : Symbol) → ends_return (symbol_text s) ≡ false
symbol_ends symbol.OpenParen = refl
symbol_ends _ = refl

token_ends : (kind : Kind) (front : List ℕ) → IsText kind front → ends_return front ≡ false
token_ends (k.Identifier name) front h = ap ends_return h.1 ∙ ends_all is_word_byte name refl (list_all-from_AllPass is_word_byte name h.0.each)
token_ends (k.Number n decimal_ long) front h = ends_all is_number_byte front refl (number_bytes n decimal_ long front h)
token_ends (k.Reserved w) front h = ap ends_return h ∙ ends_all is_word_byte (reserved_text w) refl (reserved_all w)
token_ends (k.Symbol s) front h = ap ends_return h ∙ symbol_ends s

blank_ends : (b : ℕ) → is_blank b ≡ true → nat_eq b 13 ≡ false
blank_ends b h = false_from_ne_true (nat_eq b 13) (λ e. false≢true (ap is_blank (sym (eqb-true b 13 e)) ∙ h))

space_whole : (front rest : List ℕ) → IsSpace front rest → IsWhole front rest
space_whole front rest (blank b e h) = and_left _ _ (ap ends_return e ∙ blank_ends b h)
space_whole front rest (carriage_return e h) = and_right _ _ h
space_whole front rest (carriage_return_line_feed e) = and_left _ _ (ap ends_return e)
space_whole front rest (end_of_line_comment body e each stop) =
    and_left _ _ (ap ends_return e ∙ ends_all is_in_line (codes "//" ++ body) refl (list_all-from_AllPass is_in_line body each))
space_whole front rest (traditional_comment body e none) = and_left _ _ (ap ends_return e ∙ ends_append (codes "/*" ++ body) 42 (47 ∷ []))

-- ---- what is read

shorter_whole : (front more left rest : List ℕ) → rest ≡ more ++ left → IsWhole front rest → IsWhole front more
shorter_whole front [] left rest e h = and_right (ends_return front) false refl
shorter_whole front (b ∷ more) left rest e h = ap (λ t. ends_return front && begins is_line_feed t) (sym e) ∙ h

-- what was read of a text, up to a place
pub record IsUpTo (at : Place) (text : List ℕ) (to : Place) (left : List ℕ) : Type 0 where
  pub front : List ℕ
  pub spelled : text ≡ front ++ left
  pub place : to ≡ place_after at front

further : (at to : Place) (front rest left : List ℕ) → IsWhole front rest → IsUpTo (place_after at front) rest to left → IsUpTo at (front ++ rest) to left
further at to front rest left whole h = record {
  front = front ++ h.front;
  spelled = ap (λ t. front ++ t) h.spelled ∙ sym (append_assoc front h.front left);
  place = h.place ∙ sym (after_append at front h.front (shorter_whole front h.front left rest h.spelled whole));
}

pub read_up_to : (at : Place) (text : List ℕ) (tokens : List Token) (to : Place) (left : List ℕ) → Reads at text tokens to left → IsUpTo at text to left
read_up_to _ _ _ _ _ (stops at text) = record { front = []; spelled = refl; place = refl }
read_up_to _ _ _ _ _ (passes at to front rest left tokens space more) = further at to front rest left (space_whole front rest space) (read_up_to _ _ _ _ _ more)
read_up_to _ _ _ _ _ (keeps at to kind front rest left tokens token more) = further at to front rest left (and_left _ _ (token_ends kind front token.text)) (read_up_to _ _ _ _ _ more)

pub end_place : (at : Place) (text : List ℕ) (tokens : List Token) (end : Place) → Spells at tokens end text → end ≡ place_after at text
end_place at text tokens end h =
    let own = read_up_to at text tokens end [] h in own.place ∙ ap (place_after at) (sym (append-nil own.front) ∙ sym own.spelled)
