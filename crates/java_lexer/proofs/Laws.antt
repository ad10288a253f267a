-- Each text is read in one way: one element stands at a place, or one fault.
use Rattle.std.proofs.Common.{◌≡◌, ℕ, ◌<◌, Bool, true, false, cond, ◌&&◌, nat_eq, List, [], ◌∷◌, ◌++◌, length, take, drop, Option, Some, None, subst, inl, inr, refl, sym, ap, ◌∙◌, arith}
use Rattle.std.specs.Prelude.{codes}
use Rattle.std.specs.Char.{is_ascii_digit}
use Rattle.std.specs.List.{prefix_len, starts_with}
use Rattle.std.proofs.lemmas.Bool.{false≢true, false_from_ne_true, eq-eqb, eqb-true, or_parts, and_cases, cond-false, cases_Bool}
use Rattle.std.proofs.lemmas.List.{take_at, drop_at, length-append}
use Rattle.std.proofs.lemmas.List.Sums.{list_all-from_AllPass}
use Rattle.java_tree.specs.declared.token.Kind.{Kind}
use Rattle.java_tree.specs.declared.token.Kind.TheVariants as k
use Rattle.java_tree.specs.declared.token.Symbol.TheVariants as symbol
use Rattle.java_tree.specs.declared.token.Token.{Token}
use Rattle.java_tree.specs.declared.token.Place.{Place}
use Rattle.java_tree.specs.Texts.{symbol_text}
use Rattle.java_lexer.specs.declared.lexer.LexError.{LexError}
use Rattle.java_lexer.specs.declared.lexer.LexError.TheVariants.{BadByte, BadNumber, OpenComment, Memory}
use Rattle.java_lexer.specs.Places.{place_after}
use Rattle.java_lexer.specs.Spelling.{begins, is_white, begins_comment, is_number_byte, is_word_byte, IsSpace, IsToken, IsBadNumber, IsOpenComment, IsBadByte, IsFault, Reads, stops, passes, keeps, token_at, Spells, Refuses}
use Rattle.java_lexer.specs.Reading.{IsLongest, number_of, word_kind, reserved_of}
use Rattle.java_lexer.proofs.Runs.{run_taken}
use Rattle.java_lexer.proofs.Literals.{number_sound}
use Rattle.java_lexer.proofs.Spaces.{comment_len, space_len, space_len_is, open_len, other_len}
use Rattle.java_lexer.proofs.Firsts.{BeginsAs, digit_first, word_first, text_begins, digit_is_word, word_no_space, word_no_slash, first_some}
use Rattle.java_lexer.proofs.Fronts.{number_run, word_run, symbol_run, one_longest}

some_is_none : (n : ℕ) → Some n ≡ None → ⊥
some_is_none n e = cc

-- ---- one space or one token

same_front : (f g r s : List ℕ) → f ++ r ≡ g ++ s → length f ≡ length g → f ≡ g
same_front f g r s e size = sym (take_at f r (length f) refl) ∙ ap (λ n. take n (f ++ r)) size ∙ ap (take (length g)) e ∙ take_at g s (length g) refl

same_rest : (f g r s : List ℕ) → f ++ r ≡ g ++ s → f ≡ g → r ≡ s
same_rest f g r s e same = sym (drop_at f r (length f) refl) ∙ ap (λ x. drop (length x) (f ++ r)) same ∙ ap (drop (length g)) e ∙ drop_at g s (length g) refl

pub one_space : (f g r s : List ℕ) → IsSpace f r → IsSpace g s → f ++ r ≡ g ++ s → f ≡ g
one_space f g r s a b e =
    let size : length f ≡ length g = let x = space_len_is f r a in let y = space_len_is g s b in let z = ap space_len e in cc in
    same_front f g r s e size

-- the token that stands at the front says how the text begins
same_flags : (j i : Kind) (text : List ℕ) → BeginsAs j text → BeginsAs i text → (digit_first j ≡ digit_first i) × (word_first j ≡ word_first i)
same_flags j i text a b = (sym a.digit ∙ b.digit, sym a.word ∙ b.word)

record IsSame (j i : Kind) (f g : List ℕ) : Type 0 where
  kind : j ≡ i
  front : f ≡ g

one_number : (j i : Kind) (f g r s : List ℕ) → digit_first j ≡ true → digit_first i ≡ true → IsToken j f r → IsToken i g s → f ++ r ≡ g ++ s → IsSame j i f g
one_number j i f g r s dj di a b e =
    let x = number_run j f r dj a in
    let y = number_run i g s di b in
    let front : f ≡ g = x.0 ∙ ap (λ t. take (prefix_len is_number_byte t) t) e ∙ sym y.0 in
    let kind : j ≡ i = let p = x.1 in let q = y.1 in let z = ap number_of front in cc in
    record { kind = kind; front = front }

one_word : (j i : Kind) (f g r s : List ℕ) → digit_first j ≡ false → digit_first i ≡ false → word_first j ≡ true → word_first i ≡ true → IsToken j f r → IsToken i g s → f ++ r ≡ g ++ s → IsSame j i f g
one_word j i f g r s dj di wj wi a b e =
    let x = word_run j f r dj wj a in
    let y = word_run i g s di wi b in
    let front : f ≡ g = x.0 ∙ ap (λ t. take (prefix_len is_word_byte t) t) e ∙ sym y.0 in
    record { kind = sym x.1 ∙ ap (λ n. word_kind (reserved_of n) n) front ∙ y.1; front = front }

one_symbol : (j i : Kind) (f g r s : List ℕ) → word_first j ≡ false → word_first i ≡ false → IsToken j f r → IsToken i g s → f ++ r ≡ g ++ s → IsSame j i f g
one_symbol j i f g r s wj wi a b e =
    let x = symbol_run j f r wj a in
    let y = symbol_run i g s wi b in
    let same : x.0 ≡ y.0 = one_longest x.0 y.0 (g ++ s) (subst (λ t. IsLongest x.0 t) e x.3) y.3 in
    record { kind = x.1 ∙ ap (λ v. k.Symbol v) same ∙ sym y.1; front = x.2 ∙ ap symbol_text same ∙ sym y.2 }

pub one_token : (j i : Kind) (f g r s : List ℕ) → IsToken j f r → IsToken i g s → f ++ r ≡ g ++ s → (j ≡ i) × (f ≡ g)
one_token j i f g r s a b e =
    let flags = same_flags j i (g ++ s) (subst (BeginsAs j) e (text_begins j f r a.text)) (text_begins i g s b.text) in
    let own : IsSame j i f g = elim (cases_Bool (digit_first j)) [
      | inl d ↦ one_number j i f g r s d (sym flags.0 ∙ d) a b e
      | inr d ↦
          elim (cases_Bool (word_first j)) [
            | inl w ↦ one_word j i f g r s d (sym flags.0 ∙ d) w (sym flags.1 ∙ w) a b e
            | inr w ↦ one_symbol j i f g r s w (sym flags.1 ∙ w) a b e
          ]
    ] in
    (own.kind, own.front)

-- ---- no space where a token stands

both_none : (b : Bool) → cond {A = Option ℕ} b None None ≡ None
both_none true = refl
both_none false = refl

other_way : (b n : ℕ) → nat_eq n b ≡ false → nat_eq b n ≡ false
other_way b n h = false_from_ne_true (nat_eq b n) (λ e. false≢true (sym h ∙ eq-eqb n b (sym (eqb-true b n e))))

no_opening : (c : ℕ) (text : List ℕ) → begins_comment (47 ∷ (c ∷ text)) ≡ false → comment_len (c ∷ text) ≡ None
no_opening c text none =
    let parts = or_parts (nat_eq 47 c && true) (nat_eq 42 c && true) none in
    let other = λ (n : ℕ) (h : (nat_eq n c && true) ≡ false). elim (and_cases (nat_eq n c) true h) as (λ x. nat_eq c n ≡ false) [ inl e ↦ other_way c n e | inr e ↦ absurd (false≢true (sym e)) ] in
    cond-false _ _ _ (other 47 parts.0) ∙ cond-false _ _ _ (other 42 parts.1)

behind_slash : (b c : ℕ) (text : List ℕ) (slash : Bool) → nat_eq b 47 ≡ slash → begins_comment (b ∷ (c ∷ text)) ≡ false → cond slash (comment_len (c ∷ text)) None ≡ None
behind_slash b c text false e none = refl
behind_slash b c text true e none = no_opening c text (ap (λ x. begins_comment (x ∷ (c ∷ text))) (sym (eqb-true b 47 e)) ∙ none)

-- with no comment at the front there is no space behind a slash
no_comment_len : (text : List ℕ) → begins is_white text ≡ false → begins_comment text ≡ false → space_len text ≡ None
no_comment_len [] space none = refl
no_comment_len (b ∷ []) space none = cond-false _ _ _ space ∙ both_none (nat_eq b 47)
no_comment_len (b ∷ (c ∷ text)) space none = cond-false _ _ _ space ∙ behind_slash b c text (nat_eq b 47) refl none

word_len : (text : List ℕ) → begins is_word_byte text ≡ true → space_len text ≡ None
word_len text h = other_len text (word_no_space text h) (word_no_slash text h)

token_len : (kind : Kind) (front rest : List ℕ) → IsToken kind front rest → space_len (front ++ rest) ≡ None
token_len kind front rest h =
    let begun = text_begins kind front rest h.text in
    elim (cases_Bool (word_first kind)) [
      | inl w ↦ word_len (front ++ rest) (begun.word ∙ w)
      | inr w ↦ no_comment_len (front ++ rest) begun.space (symbol_run kind front rest w h).4
    ]

pub no_space_token : (kind : Kind) (f g r s : List ℕ) → IsSpace f r → IsToken kind g s → f ++ r ≡ g ++ s → ⊥
no_space_token kind f g r s a b e = let x = space_len_is f r a in let y = token_len kind g s b in let z = ap space_len e in absurd (some_is_none (length f) (sym x ∙ z ∙ y))

-- ---- nothing where a fault stands

-- no element stands at the front of a text
pub record IsStuck (text : List ℕ) : Type 0 where
  pub no_space : (front rest : List ℕ) → text ≡ front ++ rest → IsSpace front rest → ⊥
  pub no_token : (kind : Kind) (front rest : List ℕ) → text ≡ front ++ rest → IsToken kind front rest → ⊥

no_len : (text front rest : List ℕ) → space_len text ≡ None → text ≡ front ++ rest → IsSpace front rest → ⊥
no_len text front rest none e h = some_is_none (length front) (sym (space_len_is front rest h) ∙ ap space_len (sym e) ∙ none)

empty_parts : (front rest : List ℕ) → [] ≡ front ++ rest → 0 < length (front ++ rest) → ⊥
empty_parts front rest e some = absurd (omega (arith, ap length e))

pub stuck_end : IsStuck []
stuck_end = record {
  no_space = λ front rest e h. no_len [] front rest refl e h;
  no_token = λ kind front rest e h. empty_parts front rest e (text_begins kind front rest h.text).some;
}

begins_more : (p : ℕ → Bool) (front rest : List ℕ) → begins p front ≡ true → begins p (front ++ rest) ≡ true
begins_more p [] rest h = absurd (false≢true h)
begins_more p (b ∷ front) rest h = h

bad_number_digit : (text : List ℕ) → IsBadNumber text → begins is_ascii_digit text ≡ true
bad_number_digit text h = ap (begins is_ascii_digit) h.spelled ∙ begins_more is_ascii_digit h.run h.rest h.first

-- how a text begins, by its token
begins_so : (kind : Kind) (text front rest : List ℕ) → text ≡ front ++ rest → IsToken kind front rest → BeginsAs kind text
begins_so kind text front rest e h = subst (BeginsAs kind) (sym e) (text_begins kind front rest h.text)

stuck_number : (text : List ℕ) → IsBadNumber text → IsStuck text
stuck_number text bad =
    let digit = bad_number_digit text bad in
    record {
      no_space = λ front rest e h. no_len text front rest (word_len text (digit_is_word text digit)) e h;
      no_token = λ kind front rest e h.
          let own = number_run kind front rest (sym (begins_so kind text front rest e h).digit ∙ digit) h in
          let run = run_taken is_number_byte bad.run bad.rest text bad.spelled (list_all-from_AllPass is_number_byte bad.run bad.each) bad.ends in
          let same : front ≡ bad.run = own.0 ∙ ap (λ t. take (prefix_len is_number_byte t) t) (sym e) ∙ run in
          let number = number_sound bad.run kind (ap number_of (sym same) ∙ own.1) in
          bad.no_number number.value number.decimal number.long number.number;
    }

stuck_comment : (text : List ℕ) → IsOpenComment text → IsStuck text
stuck_comment text bad = record {
  no_space = λ front rest e h. no_len text front rest (ap space_len bad.spelled ∙ open_len bad.body bad.unclosed) e h;
  no_token = λ kind front rest e h.
      let w : word_first kind ≡ false = sym (begins_so kind text front rest e h).word ∙ ap (begins is_word_byte) bad.spelled in
      let comment : begins_comment (front ++ rest) ≡ false = (symbol_run kind front rest w h).4 in
      let opens : begins_comment (front ++ rest) ≡ true = ap begins_comment (sym e ∙ bad.spelled) in
      false≢true (sym comment ∙ opens);
}

bad_byte_slash : (b : ℕ) (rest : List ℕ) → starts_with nat_eq (b ∷ rest) (codes "/") ≡ false → nat_eq b 47 ≡ false
bad_byte_slash b rest h = elim (and_cases (nat_eq 47 b) true h) [ inl e ↦ other_way b 47 e | inr e ↦ absurd (false≢true (sym e)) ]

stuck_byte : (text : List ℕ) → IsBadByte text → IsStuck text
stuck_byte text bad =
    let slash = bad_byte_slash bad.byte bad.rest (ap (λ t. starts_with nat_eq t (codes "/")) (sym bad.spelled) ∙ bad.no_symbol symbol.Slash) in
    let none : space_len text ≡ None = ap space_len bad.spelled ∙ other_len (bad.byte ∷ bad.rest) bad.no_space slash in
    record {
      no_space = λ front rest e h. no_len text front rest none e h;
      no_token = λ kind front rest e h.
          let w : word_first kind ≡ false = sym (begins_so kind text front rest e h).word ∙ ap (begins is_word_byte) bad.spelled ∙ bad.no_word in
          let own = symbol_run kind front rest w h in
          false≢true (sym (bad.no_symbol own.0) ∙ ap (λ t. starts_with nat_eq t (symbol_text own.0)) e ∙ own.3.front);
    }

pub stuck_fault : (error : LexError) (place : Place) (text : List ℕ) → IsFault error place text → IsStuck text
stuck_fault (BadByte at) place text h = stuck_byte text h.1
stuck_fault (BadNumber at) place text h = stuck_number text h.1
stuck_fault (OpenComment at) place text h = stuck_comment text h.1
stuck_fault Memory place text h = absurd h

-- ---- one fault

byte_or_number : (text : List ℕ) → IsBadByte text → IsBadNumber text → ⊥
byte_or_number text a b = false≢true (sym a.no_word ∙ ap (begins is_word_byte) (sym a.spelled) ∙ digit_is_word text (bad_number_digit text b))

byte_or_comment : (text : List ℕ) → IsBadByte text → IsOpenComment text → ⊥
byte_or_comment text a b = false≢true (sym (a.no_symbol symbol.Slash) ∙ ap (λ t. starts_with nat_eq t (codes "/")) b.spelled)

number_or_comment : (text : List ℕ) → IsBadNumber text → IsOpenComment text → ⊥
number_or_comment text a b = false≢true (ap (begins is_ascii_digit) (sym b.spelled) ∙ bad_number_digit text a)

pub one_fault : (a b : LexError) (place : Place) (text : List ℕ) → IsFault a place text → IsFault b place text → a ≡ b
one_fault (BadByte x) (BadByte y) place text g h = ap BadByte (g.0 ∙ sym h.0)
one_fault (BadByte x) (BadNumber y) place text g h = absurd (byte_or_number text g.1 h.1)
one_fault (BadByte x) (OpenComment y) place text g h = absurd (byte_or_comment text g.1 h.1)
one_fault (BadByte x) Memory place text g h = absurd h
one_fault (BadNumber x) (BadByte y) place text g h = absurd (byte_or_number text h.1 g.1)
one_fault (BadNumber x) (BadNumber y) place text g h = ap BadNumber (g.0 ∙ sym h.0)
one_fault (BadNumber x) (OpenComment y) place text g h = absurd (number_or_comment text g.1 h.1)
one_fault (BadNumber x) Memory place text g h = absurd h
one_fault (OpenComment x) (BadByte y) place text g h = absurd (byte_or_comment text h.1 g.1)
one_fault (OpenComment x) (BadNumber y) place text g h = absurd (number_or_comment text h.1 g.1)
one_fault (OpenComment x) (OpenComment y) place text g h = ap OpenComment (g.0 ∙ sym h.0)
one_fault (OpenComment x) Memory place text g h = absurd h
one_fault Memory b place text g h = absurd g

-- ---- one way to read

pub one_reading : (at : Place) (text : List ℕ) (tokens : List Token) (to : Place) (left : List ℕ) → Reads at text tokens to left → IsStuck left
    → (at' : Place) (text' : List ℕ) (tokens' : List Token) (to' : Place) (left' : List ℕ) → Reads at' text' tokens' to' left' → IsStuck left' → at ≡ at' → text ≡ text'
    → (tokens ≡ tokens') × (to ≡ to') × (left ≡ left')
one_reading _ _ _ _ _ (stops at text) stuck _ _ _ _ _ (stops at' text') stuck' p e = (refl, p, e)
one_reading _ _ _ _ _ (stops at text) stuck _ _ _ _ _ (passes at' to' front' rest' left' tokens' space' more') stuck' p e = absurd (stuck.no_space front' rest' e space')
one_reading _ _ _ _ _ (stops at text) stuck _ _ _ _ _ (keeps at' to' kind' front' rest' left' tokens' token' more') stuck' p e = absurd (stuck.no_token kind' front' rest' e token')
one_reading _ _ _ _ _ (passes at to front rest left tokens space more) stuck _ _ _ _ _ (stops at' text') stuck' p e = absurd (stuck'.no_space front rest (sym e) space)
one_reading _ _ _ _ _ (passes at to front rest left tokens space more) stuck _ _ _ _ _ (passes at' to' front' rest' left' tokens' space' more') stuck' p e =
    let same = one_space front front' rest rest' space space' e in
    one_reading _ _ _ _ _ more stuck _ _ _ _ _ more' stuck' (ap (λ f. place_after at f) same ∙ ap (λ x. place_after x front') p) (same_rest front front' rest rest' e same)
one_reading _ _ _ _ _ (passes at to front rest left tokens space more) stuck _ _ _ _ _ (keeps at' to' kind' front' rest' left' tokens' token' more') stuck' p e = absurd (no_space_token kind' front front' rest rest' space token' e)
one_reading _ _ _ _ _ (keeps at to kind front rest left tokens token more) stuck _ _ _ _ _ (stops at' text') stuck' p e = absurd (stuck'.no_token kind front rest (sym e) token)
one_reading _ _ _ _ _ (keeps at to kind front rest left tokens token more) stuck _ _ _ _ _ (passes at' to' front' rest' left' tokens' space' more') stuck' p e = absurd (no_space_token kind front' front rest' rest space' token (sym e))
one_reading _ _ _ _ _ (keeps at to kind front rest left tokens token more) stuck _ _ _ _ _ (keeps at' to' kind' front' rest' left' tokens' token' more') stuck' p e =
    let same = one_token kind kind' front front' rest rest' token token' e in
    let own = one_reading _ _ _ _ _ more stuck _ _ _ _ _ more' stuck' (ap (λ f. place_after at f) same.1 ∙ ap (λ x. place_after x front') p) (same_rest front front' rest rest' e same.1) in
    (ap (λ x. token_at x at ∷ tokens) same.0 ∙ ap (λ x. token_at kind' x ∷ tokens) p ∙ ap (λ t. token_at kind' at' ∷ t) own.0, own.1, own.2)

pub one_spelling : (at : Place) (text : List ℕ) (tokens others : List Token) (end other : Place) → Spells at tokens end text → Spells at others other text → (tokens ≡ others) × (end ≡ other)
one_spelling at text tokens others end other a b =
    let own = one_reading at text tokens end [] a stuck_end at text others other [] b stuck_end refl refl in (own.0, own.1)

end_or_fault : (error : LexError) (place : Place) → IsFault error place [] → ⊥
end_or_fault (BadByte at) place h = absurd (omega (arith, ap length h.1.spelled))
end_or_fault (BadNumber at) place h = absurd (omega (arith, ap length h.1.spelled, length-append h.1.run h.1.rest, first_some is_ascii_digit h.1.run h.1.first))
end_or_fault (OpenComment at) place h = absurd (omega (arith, ap length h.1.spelled))
end_or_fault Memory place h = h

pub spelled_or_refused : (at : Place) (text : List ℕ) (tokens : List Token) (end : Place) (error : LexError) → Spells at tokens end text → Refuses at text error → ⊥
spelled_or_refused at text tokens end error a b =
    let own = one_reading at text tokens end [] a stuck_end at text b.tokens b.place b.rest b.reads (stuck_fault error b.place b.rest b.fault) refl refl in
    end_or_fault error b.place (subst (IsFault error b.place) (sym own.2) b.fault)

pub one_refusal : (at : Place) (text : List ℕ) (error other : LexError) → Refuses at text error → Refuses at text other → error ≡ other
one_refusal at text error other a b =
    let own =
    one_reading at text a.tokens a.place a.rest a.reads (stuck_fault error a.place a.rest a.fault) at text b.tokens b.place b.rest b.reads (stuck_fault other b.place b.rest b.fault) refl refl in
    one_fault error other b.place b.rest (subst (λ r. IsFault error b.place r) own.2 (subst (λ p. IsFault error p a.rest) own.1 a.fault)) b.fault
