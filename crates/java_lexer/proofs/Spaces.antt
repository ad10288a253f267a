-- White space and comments at the front of a text.
use Rattle.std.proofs.Common.{◌≡◌, ◌⊎◌, ℕ, ◌+◌, ◌<◌, Bool, true, false, cond, ◌&&◌, nat_eq, List, [], ◌∷◌, ◌++◌, length, take, drop, Option, Some, None, inl, inr, subst, refl, sym, ap, ◌∙◌, arith}
use Rattle.std.specs.Prelude.{codes}
use Rattle.std.specs.List.{prefix_len, starts_with}
use Rattle.std.proofs.lemmas.Bool.{and_parts, and_from, and_left, and_right, or_cases, or_left, cond-true, cond-false, false≢true, eqb-true, eq-eqb, false_from_ne_true}
use Rattle.std.proofs.lemmas.Bool.Decides.{Decides-eqb}
use Rattle.std.proofs.lemmas.List.{append_assoc, length-append, take-append-drop, take_at, drop_at}
use Rattle.std.proofs.lemmas.List.Folds.{length-prefix_len}
use Rattle.std.proofs.lemmas.List.Sums.{AllPass-from_list_all, list_all-from_AllPass}
use Rattle.std.proofs.lemmas.Slice.Eq.{starts_is}
use Rattle.java_lexer.specs.declared.element.Element.{Element}
use Rattle.java_lexer.specs.declared.element.Element.TheVariants as element
use Rattle.java_lexer.specs.Spelling.{begins, is_blank, is_white, is_line_feed, is_in_line, HasEnd, IsSpace, blank, carriage_return, carriage_return_line_feed, end_of_line_comment, traditional_comment}
use Rattle.java_lexer.specs.Reading.{closed_from, IsElement, Stands}
use Rattle.java_lexer.proofs.Runs.{run-append, run_passes, run_stops}

-- ---- the end of a comment

abbrev closes : ℕ → List ℕ → Bool
closes b text = nat_eq b 42 && begins (λ c. nat_eq c 47) text

-- what begins with `*/` has an end
closes_end : (b : ℕ) (text : List ℕ) → closes b text ≡ true → HasEnd (b ∷ text)
closes_end b [] h = absurd (false≢true (and_parts (nat_eq b 42) false h).1)
closes_end b (c ∷ text) h =
    let parts = and_parts (nat_eq b 42) (nat_eq c 47) h in
    ([], text, ap (λ x. x ∷ (c ∷ text)) (eqb-true b 42 parts.0) ∙ ap (λ x. 42 ∷ (x ∷ text)) (eqb-true c 47 parts.1))

end_later : (b : ℕ) (text : List ℕ) → HasEnd text → HasEnd (b ∷ text)
end_later b text h = (b ∷ h.0, h.1, ap (λ t. b ∷ t) h.2)

-- an end stands at the front, or behind the first byte
head_is : (b c : ℕ) (text rest : List ℕ) → b ∷ text ≡ c ∷ rest → (b ≡ c) × (text ≡ rest)
head_is b c text rest e = let h : b ≡ c = cc in let t : text ≡ rest = cc in (h, t)

end_cases : (b : ℕ) (text front rest : List ℕ) → b ∷ text ≡ front ++ (codes "*/" ++ rest) → (closes b text ≡ true) ⊎ HasEnd text
end_cases b text [] rest e =
    let own = head_is b 42 text (47 ∷ rest) e in
    inl (and_from _ _ (eq-eqb b 42 own.0) (ap (begins (λ c. nat_eq c 47)) own.1))
end_cases b text (c ∷ front) rest e = inr (front, rest, (head_is b c text (front ++ (codes "*/" ++ rest)) e).1)

no_end : HasEnd [] → ⊥
no_end h = absurd (omega (arith, ap length h.2, length-append h.0 (codes "*/" ++ h.1)))

-- a body that is not ended does not end before the `*/` behind it
open_body : (b : ℕ) (body rest : List ℕ) → (HasEnd (b ∷ body) → ⊥) → closes b ((body ++ codes "*/") ++ rest) ≡ false
open_body b [] rest h = and_right (nat_eq b 42) false refl
open_body b (c ∷ body) rest h = false_from_ne_true _ (λ e. h (closes_end b (c ∷ body) e))

closed_read : (n : ℕ) (body rest : List ℕ) → (HasEnd body → ⊥) → closed_from n ((body ++ codes "*/") ++ rest) ≡ Some (n + length body + 2)
closed_read n [] rest h = ap Some (omega arith)
closed_read n (b ∷ body) rest h =
    let more = closed_read (n + 1) body rest (λ end. h (end_later b body end)) in
    let size : n + 1 + length body + 2 ≡ n + length (b ∷ body) + 2 = omega arith in
    cond-false _ _ _ (open_body b body rest h) ∙ more ∙ ap Some size

record IsClosed (n m : ℕ) (text : List ℕ) : Type 0 where
  body : List ℕ
  rest : List ℕ
  spelled : text ≡ body ++ (codes "*/" ++ rest)
  size : m ≡ n + length body + 2
  first : HasEnd body → ⊥

begun_inside : (body rest : List ℕ) (p : ℕ → Bool) → begins p body ≡ true → begins p (body ++ rest) ≡ true
begun_inside [] rest p h = absurd (false≢true h)
begun_inside (b ∷ body) rest p h = h

closed_by : (n m b : ℕ) (text : List ℕ) (end : Bool) → closes b text ≡ end → (closed_from (n + 1) text ≡ Some m → IsClosed (n + 1) m text)
    → cond end (Some (n + 2)) (closed_from (n + 1) text) ≡ Some m → IsClosed n m (b ∷ text)
closed_by n m b [] true e more h = absurd (false≢true (and_parts (nat_eq b 42) false e).1)
closed_by n m b (c ∷ text) true e more h =
    let parts = and_parts (nat_eq b 42) (nat_eq c 47) e in
    let same : n + 2 ≡ m = cc in
    record {
      body = [];
      rest = text;
      spelled = ap (λ x. x ∷ (c ∷ text)) (eqb-true b 42 parts.0) ∙ ap (λ x. 42 ∷ (x ∷ text)) (eqb-true c 47 parts.1);
      size = omega arith;
      first = no_end;
    }
closed_by n m b text false e more h =
    let own = more h in
    record {
      body = b ∷ own.body;
      rest = own.rest;
      spelled = ap (λ t. b ∷ t) own.spelled;
      size = omega (arith, own.size);
      first = λ end. elim (end_cases b own.body end.0 end.1 end.2) [
        | inr later ↦ own.first later
        | inl here ↦
            let parts = and_parts (nat_eq b 42) (begins (λ c. nat_eq c 47) own.body) here in
            let there : begins (λ c. nat_eq c 47) text ≡ true = ap (begins (λ c. nat_eq c 47)) own.spelled ∙ begun_inside own.body (codes "*/" ++ own.rest) (λ c. nat_eq c 47) parts.1 in
            false≢true (sym e ∙ and_from _ _ parts.0 there)
      ];
    }

closed_found : (n m : ℕ) (text : List ℕ) → closed_from n text ≡ Some m → IsClosed n m text
closed_found n m [] e = cc
closed_found n m (b ∷ text) e = closed_by n m b text (closes b text) refl (closed_found (n + 1) m text) e

none_by : (n : ℕ) (text : List ℕ) (end : Bool) → cond end (Some (n + 2)) (closed_from (n + 1) text) ≡ None → (end ≡ false) × (closed_from (n + 1) text ≡ None)
none_by n text true e = cc
none_by n text false e = (refl, e)

closed_none : (n : ℕ) (text : List ℕ) → closed_from n text ≡ None → HasEnd text → ⊥
closed_none n [] e h = no_end h
closed_none n (b ∷ text) e h =
    let own = none_by n text (closes b text) e in
    elim (end_cases b text h.0 h.1 h.2) [ inl here ↦ false≢true (sym own.0 ∙ here) | inr later ↦ closed_none (n + 1) text own.1 later ]

closed_has_end : (n m : ℕ) (text : List ℕ) → closed_from n text ≡ Some m → HasEnd text
closed_has_end n m text e = let own = closed_found n m text e in (own.body, own.rest, own.spelled)

open_by : (n : ℕ) (text : List ℕ) (o : Option ℕ) → closed_from n text ≡ o → (HasEnd text → ⊥) → o ≡ None
open_by n text None e h = refl
open_by n text (Some m) e h = absurd (h (closed_has_end n m text e))

closed_open : (n : ℕ) (text : List ℕ) → (HasEnd text → ⊥) → closed_from n text ≡ None
closed_open n text h = open_by n text (closed_from n text) refl h

-- ---- how long the white space or comment at the front of a text is

abbrev behind_opening : Option ℕ → Option ℕ
behind_opening None = None
behind_opening (Some n) = Some (2 + n)

abbrev pub comment_len : List ℕ → Option ℕ
comment_len [] = None
comment_len (c ∷ text) = cond (nat_eq c 47) (Some (2 + prefix_len is_in_line text)) (cond (nat_eq c 42) (behind_opening (closed_from 0 text)) None)

abbrev pub space_len : List ℕ → Option ℕ
space_len [] = None
space_len (b ∷ text) = cond (is_white b) (Some (cond (nat_eq b 13 && begins is_line_feed text) 2 1)) (cond (nat_eq b 47) (comment_len text) None)

not_13 : (b : ℕ) → is_blank b ≡ true → nat_eq b 13 ≡ false
not_13 b h = false_from_ne_true (nat_eq b 13) (λ e. false≢true (ap is_blank (sym (eqb-true b 13 e)) ∙ h))

blank_len : (b : ℕ) (rest : List ℕ) → is_blank b ≡ true → space_len (b ∷ rest) ≡ Some 1
blank_len b rest h = cond-true _ _ _ (or_left _ _ h) ∙ ap Some (cond-false _ _ _ (and_left _ _ (not_13 b h)))

pub space_len_is : (front rest : List ℕ) → IsSpace front rest → space_len (front ++ rest) ≡ Some (length front)
space_len_is front rest (blank b e h) = ap (λ f. space_len (f ++ rest)) e ∙ blank_len b rest h ∙ ap (λ f. Some (length f)) (sym e)
space_len_is front rest (carriage_return e h) = ap (λ f. space_len (f ++ rest)) e ∙ ap Some (cond-false _ _ _ h) ∙ ap (λ f. Some (length f)) (sym e)
space_len_is front rest (carriage_return_line_feed e) = ap (λ f. space_len (f ++ rest)) e ∙ ap (λ f. Some (length f)) (sym e)
space_len_is front rest (end_of_line_comment body e each stop) =
    let run = run-append is_in_line body rest (list_all-from_AllPass is_in_line body each) stop in
    let size : 2 + prefix_len is_in_line (body ++ rest) ≡ length (codes "//" ++ body) = omega arith in
    ap (λ f. space_len (f ++ rest)) e ∙ ap Some size ∙ ap (λ f. Some (length f)) (sym e)
space_len_is front rest (traditional_comment body e none) =
    let size : 2 + (0 + length body + 2) ≡ length (codes "/*" ++ (body ++ codes "*/")) = omega (arith, length-append body (codes "*/")) in
    ap (λ f. space_len (f ++ rest)) e ∙ ap behind_opening (closed_read 0 body rest none) ∙ ap Some size ∙ ap (λ f. Some (length f)) (sym e)

-- ---- what is found

pub stands_split : (e : Element) (len : ℕ) (front rest text : List ℕ) → text ≡ front ++ rest → length front ≡ len → 0 < len → IsElement e front rest → Stands e len text
stands_split e len front rest text spelled size some is =
    let front_is : front ≡ take len text = sym (take_at front rest len size) ∙ ap (take len) (sym spelled) in
    let rest_is : rest ≡ drop len text = sym (drop_at front rest len size) ∙ ap (drop len) (sym spelled) in
    record { some = some; within = omega (arith, ap length spelled, length-append front rest); is = subst (λ f. IsElement e f (drop len text)) front_is (subst (IsElement e front) rest_is is) }

starts_front : (text front : List ℕ) → starts_with nat_eq text front ≡ true → text ≡ front ++ drop (length front) text
starts_front text front h = (starts_is Decides-eqb text front (starts_with nat_eq text front) refl).0 h

pub white_two : (text : List ℕ) → starts_with nat_eq text (13 ∷ 10 ∷ []) ≡ true → Stands element.Space 2 text
white_two text h = stands_split element.Space 2 (13 ∷ 10 ∷ []) (drop 2 text) text (starts_front text (13 ∷ 10 ∷ []) h) refl (omega arith) (carriage_return_line_feed refl)

no_line_feed : (text : List ℕ) → starts_with nat_eq (13 ∷ text) (13 ∷ 10 ∷ []) ≡ false → begins is_line_feed text ≡ false
no_line_feed [] h = refl
no_line_feed (c ∷ text) h = false_from_ne_true _ (λ e. let same = eqb-true c 10 e in false≢true (sym h ∙ ap (λ x. nat_eq 10 x && true) same))

pub white_one : (text : List ℕ) → begins is_white text ≡ true → starts_with nat_eq text (13 ∷ 10 ∷ []) ≡ false → Stands element.Space 1 text
white_one [] h none = absurd (false≢true h)
white_one (b ∷ text) h none =
    stands_split element.Space 1 (b ∷ []) text (b ∷ text) refl refl (omega arith)
    (elim (or_cases (is_blank b) (nat_eq b 13) h) [
      | inl e ↦ blank b refl e
      | inr e ↦ let same = eqb-true b 13 e in carriage_return (ap (λ x. x ∷ []) same) (no_line_feed text (ap (λ x. starts_with nat_eq (x ∷ text) (13 ∷ 10 ∷ [])) (sym same) ∙ none))
    ])

pub line_found : (text : List ℕ) → starts_with nat_eq text (codes "//") ≡ true → Stands element.Space (2 + prefix_len is_in_line (drop 2 text)) text
line_found text h =
    let all = drop 2 text in
    let n = prefix_len is_in_line all in
    let body = take n all in
    let spelled : text ≡ (codes "//" ++ body) ++ drop n all = starts_front text (codes "//") h ∙ ap (λ t. codes "//" ++ t) (sym (take-append-drop n all)) in
    stands_split element.Space (2 + n) (codes "//" ++ body) (drop n all) text spelled (omega (arith, length-prefix_len is_in_line all)) (omega arith)
    (end_of_line_comment body refl (AllPass-from_list_all is_in_line body (run_passes is_in_line all)) (run_stops is_in_line all))

pub comment_found : (text : List ℕ) (len : ℕ) → starts_with nat_eq text (codes "/*") ≡ true → closed_from 0 (drop 2 text) ≡ Some len → Stands element.Space (2 + len) text
comment_found text len h e =
    let own = closed_found 0 len (drop 2 text) e in
    let front = codes "/*" ++ (own.body ++ codes "*/") in
    let spelled : text ≡ front ++ own.rest =
    starts_front text (codes "/*") h ∙ ap (λ t. codes "/*" ++ t) own.spelled ∙ ap (λ t. codes "/*" ++ t) (sym (append_assoc own.body (codes "*/") own.rest)) in
    stands_split element.Space (2 + len) front own.rest text spelled (omega (arith, own.size, length-append own.body (codes "*/"))) (omega arith) (traditional_comment own.body refl own.first)

-- ---- what is not there

pub open_comment : (text : List ℕ) → starts_with nat_eq text (codes "/*") ≡ true → closed_from 0 (drop 2 text) ≡ None → (text ≡ codes "/*" ++ drop 2 text) × (HasEnd (drop 2 text) → ⊥)
open_comment text h e = (starts_front text (codes "/*") h, closed_none 0 (drop 2 text) e)

-- a comment without end is no space
pub open_len : (body : List ℕ) → (HasEnd body → ⊥) → space_len (codes "/*" ++ body) ≡ None
open_len body h = ap behind_opening (closed_open 0 body h)

-- what begins with no blank and no slash is no space
pub other_len : (text : List ℕ) → begins is_white text ≡ false → begins (λ b. nat_eq b 47) text ≡ false → space_len text ≡ None
other_len [] h slash = refl
other_len (b ∷ text) h slash = cond-false _ _ _ h ∙ cond-false _ _ _ slash
