-- The token at the front of a text: what is found is one, and no other is there.
use Rattle.std.proofs.Common.{◌≡◌, ◌≢◌, ℕ, ◌<◌, Bool, true, false, nat_eq, List, [], ◌∷◌, ◌++◌, length, take, drop, Option, Some, None, subst, refl, sym, ap, ◌∙◌, arith}
use Rattle.std.specs.Char.{is_ascii_digit}
use Rattle.std.specs.List.{list_all, prefix_len, starts_with}
use Rattle.std.proofs.lemmas.Bool.{false≢true, false_from_ne_true}
use Rattle.std.proofs.lemmas.Bool.Decides.{Decides-eqb}
use Rattle.std.proofs.lemmas.List.{take-append-drop, take_at}
use Rattle.std.proofs.lemmas.List.Folds.{length-prefix_len}
use Rattle.std.proofs.lemmas.List.Sums.{AllPass-from_list_all, list_all-from_AllPass}
use Rattle.std.proofs.lemmas.Slice.Eq.{starts_is}
use Rattle.java_tree.specs.declared.token.Kind.{Kind}
use Rattle.java_tree.specs.declared.token.Kind.TheVariants as k
use Rattle.java_tree.specs.declared.token.Reserved.{Reserved}
use Rattle.java_tree.specs.declared.token.Symbol.{Symbol}
use Rattle.java_tree.specs.Texts.{reserved_text, symbol_text}
use Rattle.java_lexer.specs.declared.element.Element.TheVariants as element
use Rattle.java_lexer.specs.Spelling.{begins, is_white, begins_comment, IsIdentifier, IsToken, IsBadNumber, IsBadByte, is_number_byte, is_word_byte}
use Rattle.java_lexer.specs.Reading.{IsLongest, Stands, reserved_of, word_kind, number_of}
use Rattle.java_lexer.proofs.Runs.{begins-append, run_passes, run_stops, run_some, run_taken}
use Rattle.java_lexer.proofs.Literals.{IsLiteral, number_sound, number_read, number_bytes}
use Rattle.java_lexer.proofs.Spaces.{stands_split}
use Rattle.java_lexer.proofs.Tables.{reserved_of-text, reserved_found, symbol_same}
use Rattle.java_lexer.proofs.Firsts.{digit_in_number, digit_first, word_first, front_begins, reserved_all}

abbrev pub run_of : (ℕ → Bool) → List ℕ → List ℕ
run_of p text = take (prefix_len p text) text

abbrev pub past_run : (ℕ → Bool) → List ℕ → List ℕ
past_run p text = drop (prefix_len p text) text

-- ---- numbers

literal_token : (kind : Kind) (run rest : List ℕ) → IsLiteral kind run → begins is_number_byte rest ≡ false → IsToken kind run rest
literal_token kind run rest own stop = subst (λ x. IsToken x run rest) (sym own.same) (record { text = own.number; ends = stop })

pub number_found : (text : List ℕ) (kind : Kind) → begins is_ascii_digit text ≡ true → number_of (run_of is_number_byte text) ≡ Some kind → Stands (element.Token kind) (prefix_len is_number_byte text) text
number_found text kind first e =
    let run = run_of is_number_byte text in
    let own = literal_token kind run (past_run is_number_byte text) (number_sound run kind e) (run_stops is_number_byte text) in
    stands_split (element.Token kind) (prefix_len is_number_byte text) run (past_run is_number_byte text) text (sym (take-append-drop (prefix_len is_number_byte text) text))
    (length-prefix_len is_number_byte text) (run_some is_number_byte text (digit_in_number text first)) own

pub bad_number : (text : List ℕ) → begins is_ascii_digit text ≡ true → number_of (run_of is_number_byte text) ≡ None → IsBadNumber text
bad_number text first e =
    let run = run_of is_number_byte text in
    let rest = past_run is_number_byte text in
    let spelled : text ≡ run ++ rest = sym (take-append-drop (prefix_len is_number_byte text) text) in
    let some : 0 < length run = omega (arith, length-prefix_len is_number_byte text, run_some is_number_byte text (digit_in_number text first)) in
    record {
      run = run;
      rest = rest;
      spelled = spelled;
      first = sym (begins-append is_ascii_digit run rest some) ∙ sym (ap (begins is_ascii_digit) spelled) ∙ first;
      each = AllPass-from_list_all is_number_byte run (run_passes is_number_byte text);
      ends = run_stops is_number_byte text;
      no_number = λ value decimal long number. let read = number_read value decimal long run number in cc;
    }

-- a number at the front of a text is its run
pub number_run : (kind : Kind) (front rest : List ℕ) → digit_first kind ≡ true → IsToken kind front rest → (front ≡ run_of is_number_byte (front ++ rest)) × (number_of front ≡ Some kind)
number_run (k.Identifier name) front rest first h = absurd (false≢true first)
number_run (k.Reserved w) front rest first h = absurd (false≢true first)
number_run (k.Symbol s) front rest first h = absurd (false≢true first)
number_run (k.Number n decimal_ long) front rest first h = (
  sym (run_taken is_number_byte front rest (front ++ rest) refl (number_bytes n decimal_ long front h.text) h.ends),
  number_read n decimal_ long front h.text,
)

-- ---- words

not_found : (name : List ℕ) → ((w : Reserved) → reserved_text w ≢ name) → (found : Option Reserved) → reserved_of name ≡ found → word_kind found name ≡ k.Identifier name
not_found name none None e = refl
not_found name none (Some w) e = absurd (none w (reserved_found name w e))

identifier_kind : (name : List ℕ) → IsIdentifier name → word_kind (reserved_of name) name ≡ k.Identifier name
identifier_kind name h = not_found name h.not_reserved (reserved_of name) refl

-- a word at the front of a text is its run, and its kind is what the run says
pub word_run : (kind : Kind) (front rest : List ℕ) → digit_first kind ≡ false → word_first kind ≡ true → IsToken kind front rest
    → (front ≡ run_of is_word_byte (front ++ rest)) × (word_kind (reserved_of front) front ≡ kind)
word_run (k.Number n decimal_ long) front rest digit first h = absurd (false≢true (sym digit))
word_run (k.Symbol s) front rest digit first h = absurd (false≢true first)
word_run (k.Identifier name) front rest digit first h =
    let own = h.text.0 in
    let same : front ≡ name = h.text.1 in
    let all : list_all is_word_byte front ≡ true = ap (list_all is_word_byte) same ∙ list_all-from_AllPass is_word_byte name own.each in
    (sym (run_taken is_word_byte front rest (front ++ rest) refl all h.ends), ap (λ n. word_kind (reserved_of n) n) same ∙ identifier_kind name own)
word_run (k.Reserved w) front rest digit first h =
    let same : front ≡ reserved_text w = h.text in
    let all : list_all is_word_byte front ≡ true = ap (list_all is_word_byte) same ∙ reserved_all w in (
      sym (run_taken is_word_byte front rest (front ++ rest) refl all h.ends),
      ap (λ n. word_kind (reserved_of n) n) same ∙ ap (λ found. word_kind found (reserved_text w)) (reserved_of-text w),
    )

-- the run of a text that begins with a byte of words and no digit
record IsRun (name : List ℕ) : Type 0 where
  some : 0 < length name
  each : list_all is_word_byte name ≡ true
  first : begins is_ascii_digit name ≡ false

the_run : (text : List ℕ) → begins is_word_byte text ≡ true → begins is_ascii_digit text ≡ false → IsRun (run_of is_word_byte text)
the_run text word digit =
    let name = run_of is_word_byte text in
    let rest = past_run is_word_byte text in
    let some : 0 < length name = omega (arith, length-prefix_len is_word_byte text, run_some is_word_byte text word) in
    let whole : begins is_ascii_digit (name ++ rest) ≡ false = ap (begins is_ascii_digit) (take-append-drop (prefix_len is_word_byte text) text) ∙ digit in
    record { some = some; each = run_passes is_word_byte text; first = sym (begins-append is_ascii_digit name rest some) ∙ whole }

word_token : (name rest : List ℕ) → IsRun name → begins is_word_byte rest ≡ false → (found : Option Reserved) → reserved_of name ≡ found → IsToken (word_kind found name) name rest
word_token name rest run stop None e = record {
  text = (
    record {
      not_empty = run.some;
      each = AllPass-from_list_all is_word_byte name run.each;
      first = run.first;
      not_reserved = λ w same. let own = reserved_of-text w in let other = ap reserved_of same in cc;
    },
    refl,
  );
  ends = stop;
}
word_token name rest run stop (Some w) e = record { text = sym (reserved_found name w e); ends = stop }

pub word_found : (text : List ℕ) → begins is_word_byte text ≡ true → begins is_ascii_digit text ≡ false
    → Stands (element.Token (word_kind (reserved_of (run_of is_word_byte text)) (run_of is_word_byte text))) (prefix_len is_word_byte text) text
word_found text word digit =
    let name = run_of is_word_byte text in
    stands_split (element.Token (word_kind (reserved_of name) name)) (prefix_len is_word_byte text) name (past_run is_word_byte text) text (sym (take-append-drop (prefix_len is_word_byte text) text))
    (length-prefix_len is_word_byte text) (run_some is_word_byte text word) (word_token name (past_run is_word_byte text) (the_run text word digit) (run_stops is_word_byte text) (reserved_of name) refl)

-- ---- symbols

symbol_front : (s : Symbol) (text : List ℕ) → starts_with nat_eq text (symbol_text s) ≡ true → text ≡ symbol_text s ++ drop (length (symbol_text s)) text
symbol_front s text h = (starts_is Decides-eqb text (symbol_text s) (starts_with nat_eq text (symbol_text s)) refl).0 h

pub symbol_found : (s : Symbol) (text : List ℕ) → IsLongest s text → begins_comment text ≡ false → Stands (element.Token (k.Symbol s)) (length (symbol_text s)) text
symbol_found s text h comment =
    let split = symbol_front s text h.front in
    let own : IsToken (k.Symbol s) (symbol_text s) (drop (length (symbol_text s)) text) = record {
      text = refl;
      ends = (λ longer front. h.longest longer (ap (λ t. starts_with nat_eq t (symbol_text longer)) split ∙ front), ap begins_comment (sym split) ∙ comment);
    } in
    stands_split (element.Token (k.Symbol s)) (length (symbol_text s)) (symbol_text s) (drop (length (symbol_text s)) text) text split refl (front_begins (k.Symbol s) (symbol_text s) refl).some own

pub bad_byte : (text : List ℕ) → 0 < length text → begins is_white text ≡ false → begins is_word_byte text ≡ false → ((s : Symbol) → starts_with nat_eq text (symbol_text s) ≢ true) → IsBadByte text
bad_byte [] some space word none = absurd (omega arith)
bad_byte (b ∷ text) some space word none =
    record { byte = b; rest = text; spelled = refl; no_space = space; no_word = word; no_symbol = λ s. false_from_ne_true _ (none s) }

-- a symbol at the front of a text is the longest there
pub symbol_run : (kind : Kind) (front rest : List ℕ) → word_first kind ≡ false → IsToken kind front rest
    → (s : Symbol) × (kind ≡ k.Symbol s) × (front ≡ symbol_text s) × IsLongest s (front ++ rest) × (begins_comment (front ++ rest) ≡ false)
symbol_run (k.Identifier name) front rest first h = absurd (false≢true (sym first))
symbol_run (k.Number n decimal_ long) front rest first h = absurd (false≢true (sym first))
symbol_run (k.Reserved w) front rest first h = absurd (false≢true (sym first))
symbol_run (k.Symbol s) front rest first h =
    let same : front ++ rest ≡ symbol_text s ++ rest = ap (λ f. f ++ rest) h.text in
    let text = front ++ rest in (
      s,
      refl,
      h.text,
      record {
        front = (starts_is Decides-eqb text (symbol_text s) (starts_with nat_eq text (symbol_text s)) refl).1 rest same;
        longest = λ longer e. h.ends.0 longer (ap (λ t. starts_with nat_eq t (symbol_text longer)) (sym same) ∙ e);
      },
      ap begins_comment same ∙ h.ends.1,
    )

-- two longest symbols are one
pub one_longest : (s r : Symbol) (text : List ℕ) → IsLongest s text → IsLongest r text → s ≡ r
one_longest s r text a b =
    let same : length (symbol_text s) ≡ length (symbol_text r) = omega (arith, a.longest r b.front, b.longest s a.front) in
    let front : (x : Symbol) → starts_with nat_eq text (symbol_text x) ≡ true → take (length (symbol_text x)) text ≡ symbol_text x = λ x h.
    ap (take (length (symbol_text x))) (symbol_front x text h) ∙ take_at (symbol_text x) _ _ refl in
    symbol_same s r (sym (front s a.front) ∙ ap (λ n. take n text) same ∙ front r b.front)
