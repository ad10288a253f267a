-- A text has one answer: its calls, or its first break.
use Rattle.std.proofs.Common.{◌≡◌, ◌≢◌, ℕ, ◌≤◌, Bool, true, false, List, [], ◌∷◌, map, Result, Ok, Err, ℤ, All, refl, sym, ap, ◌∙◌, subst, arith, rules, inl, inr, ◌⊎◌}
use Rattle.std.specs.Prelude.{FitsSigned, IfOk, IfErr, IsErr, MatchResult, nat_eq}
use Rattle.std.specs.List.{AllZip, AllByRecursion, join_with_byte, slice_split}
use Rattle.std.specs.Int.{w32, w64}
use Rattle.std.specs.Fmt.{signed_decimal}
use Rattle.std.proofs.lemmas.Bool.{cases_lt}
use Rattle.std.proofs.lemmas.Fmt.{signed_decimal_injective}
use Rattle.std.proofs.lemmas.List.Elements.{recursion_from_All, All-from_recursion}
use Rattle.std.proofs.lemmas.List.Splits.{join_with_byte-slice_split}
use Rattle.sdg_base.specs.declared.val.Val.{Val}
use Rattle.sdg_base.specs.declared.val.Val.TheVariants as v
use Rattle.sdg_base.specs.declared.call.Call.{Call}
use Rattle.run_text.specs.declared.entrance.ValueType.{ValueType}
use Rattle.run_text.specs.declared.entrance.ValueType.TheVariants as t
use Rattle.run_text.specs.declared.entrance.Entrance.{Entrance}
use Rattle.run_text.specs.declared.error.CallRule.{CallRule}
use Rattle.run_text.specs.declared.error.TextError.{TextError}
use Rattle.run_text.specs.declared.error.TextError.TheVariants as x
use Rattle.run_text.specs.Lines.{said_lines}
use Rattle.run_text.specs.Values.{Fits, FitVector, value_text}
use Rattle.run_text.specs.Calls.{CallFits, IsCall, IsWritten, AreCalls, BreaksAt, IsFirstBreak, number_of, IsRefusal}
use Rattle.run_text.proofs.Elements.{same_inner, split_elements}
use Rattle.run_text.proofs.Decimal.{some_text}
use Rattle.run_text.proofs.Rules.{one_method}
use Rattle.run_text.proofs.Text.{calls_break_none}

-- ---- A text is that of one value of a type.

int_of : (a : Val) → Fits t.Int a → (n : ℤ) × FitsSigned w32 n × (a ≡ v.Int n)
int_of (v.Int n) f = (n, f, refl)
int_of (v.Long n) f = absurd f
int_of (v.Bool b) f = absurd f
int_of (v.Vector ns) f = absurd f
int_of v.Unit f = absurd f

long_of : (a : Val) → Fits t.Long a → (n : ℤ) × FitsSigned w64 n × (a ≡ v.Long n)
long_of (v.Int n) f = absurd f
long_of (v.Long n) f = (n, f, refl)
long_of (v.Bool b) f = absurd f
long_of (v.Vector ns) f = absurd f
long_of v.Unit f = absurd f

bool_of : (a : Val) → Fits t.Boolean a → (b : Bool) × (a ≡ v.Bool b)
bool_of (v.Int n) f = absurd f
bool_of (v.Long n) f = absurd f
bool_of (v.Bool b) f = (b, refl)
bool_of (v.Vector ns) f = absurd f
bool_of v.Unit f = absurd f

vector_of : (a : Val) → Fits t.Vector a → (ns : List ℤ) × FitVector ns × (a ≡ v.Vector ns)
vector_of (v.Int n) f = absurd f
vector_of (v.Long n) f = absurd f
vector_of (v.Bool b) f = absurd f
vector_of (v.Vector ns) f = (ns, f, refl)
vector_of v.Unit f = absurd f

one_bool : (a b : Bool) → value_text (v.Bool a) ≡ value_text (v.Bool b) → a ≡ b
one_bool true true e = refl
one_bool false false e = refl
one_bool true false e = cc
one_bool false true e = cc

one_list : (ms ns : List ℤ) → AllByRecursion (FitsSigned w64) ms → AllByRecursion (FitsSigned w64) ns → map signed_decimal ms ≡ map signed_decimal ns → ms ≡ ns
one_list [] [] f g e = refl
one_list [] (n ∷ ns) f g e = cc
one_list (m ∷ ms) [] f g e = cc
one_list (m ∷ ms) (n ∷ ns) f g e =
    let first : signed_decimal m ≡ signed_decimal n = cc in
    let later : map signed_decimal ms ≡ map signed_decimal ns = cc in
    let one = signed_decimal_injective m n f.0.sfits g.0.sfits first in
    let others = one_list ms ns f.1 g.1 later in
    cc

first_byte : (n : ℤ) (ns : List ℤ) → FitVector (n ∷ ns) → join_with_byte 44 (map signed_decimal (n ∷ ns)) ≢ []
first_byte n ns fit e =
    let parts : ([] ∷ []) ≡ map signed_decimal (n ∷ ns) = sym (ap (slice_split (λ b. nat_eq b 44)) e) ∙ split_elements n ns fit in
    let none : signed_decimal n ≡ [] = cc in
    some_text n (fit.1 0 n (omega arith)) none

one_vector : (ms ns : List ℤ) → FitVector ms → FitVector ns → join_with_byte 44 (map signed_decimal ms) ≡ join_with_byte 44 (map signed_decimal ns) → ms ≡ ns
one_vector [] [] f g e = refl
one_vector [] (n ∷ ns) f g e = absurd (first_byte n ns g (sym e))
one_vector (m ∷ ms) [] f g e = absurd (first_byte m ms f e)
one_vector (m ∷ ms) (n ∷ ns) f g e =
    one_list (m ∷ ms) (n ∷ ns) (recursion_from_All (FitsSigned w64) (m ∷ ms) f.1) (recursion_from_All (FitsSigned w64) (n ∷ ns) g.1)
    (sym (split_elements m ms f) ∙ ap (slice_split (λ b. nat_eq b 44)) e ∙ split_elements n ns g)

one_value : (type : ValueType) (a b : Val) → Fits type a → Fits type b → value_text a ≡ value_text b → a ≡ b
one_value t.Int a b f g e =
    let x = int_of a f in
    let y = int_of b g in
    let text : signed_decimal x.0 ≡ signed_decimal y.0 = sym (ap value_text x.2) ∙ e ∙ ap value_text y.2 in
    x.2 ∙ ap (λ (n : ℤ). v.Int n) (signed_decimal_injective x.0 y.0 (omega (arith, x.1.sfits)) (omega (arith, y.1.sfits)) text) ∙ sym y.2
one_value t.Long a b f g e =
    let x = long_of a f in
    let y = long_of b g in
    let text : signed_decimal x.0 ≡ signed_decimal y.0 = sym (ap value_text x.2) ∙ e ∙ ap value_text y.2 in
    x.2 ∙ ap (λ (n : ℤ). v.Long n) (signed_decimal_injective x.0 y.0 x.1.sfits y.1.sfits text) ∙ sym y.2
one_value t.Boolean a b f g e =
    let x = bool_of a f in
    let y = bool_of b g in
    x.1 ∙ ap (λ (n : Bool). v.Bool n) (one_bool x.0 y.0 (sym (ap value_text x.1) ∙ e ∙ ap value_text y.1)) ∙ sym y.1
one_value t.Vector a b f g e =
    let x = vector_of a f in
    let y = vector_of b g in
    let text : value_text (v.Vector x.0) ≡ value_text (v.Vector y.0) = sym (ap value_text x.2) ∙ e ∙ ap value_text y.2 in
    x.2 ∙ ap (λ (ns : List ℤ). v.Vector ns) (one_vector x.0 y.0 x.1 y.1 (same_inner (join_with_byte 44 (map signed_decimal x.0)) (join_with_byte 44 (map signed_decimal y.0)) (value_text (v.Vector y.0)) text refl)) ∙ sym y.2

-- ---- A line is that of one call, and so a text has one list of calls.

one_args : (types : List ValueType) (cs bs : List Val) → AllZip Fits types cs → AllZip Fits types bs → map value_text cs ≡ map value_text bs → cs ≡ bs
one_args [] [] [] f g e = refl
one_args [] (a ∷ cs) bs f g e = absurd f
one_args [] [] (b ∷ bs) f g e = absurd g
one_args (t ∷ ts) [] bs f g e = absurd f
one_args (t ∷ ts) (a ∷ cs) [] f g e = absurd g
one_args (t ∷ ts) (a ∷ cs) (b ∷ bs) f g e =
    let first : value_text a ≡ value_text b = cc in
    let later : map value_text cs ≡ map value_text bs = cc in
    let one = one_value t a b f.0 g.0 first in
    let others = one_args ts cs bs f.1 g.1 later in
    cc

made : (m n : ℕ) (cs bs : List Val) → m ≡ n → cs ≡ bs → let a : Call = record { method = m; args = cs } in let b : Call = record { method = n; args = bs } in a ≡ b
made m n cs bs p q = cc

one_call : (es : List Entrance) (line : List ℕ) (a b : Call) → IsCall es line a → IsCall es line b → a ≡ b
one_call es line a b p q =
    let both = sym p.words ∙ q.words in
    let names : p.fits.entrance.name ≡ q.fits.entrance.name = cc in
    let texts : map value_text a.args ≡ map value_text b.args = cc in
    let entrances : q.fits.entrance ≡ p.fits.entrance = one_method es q.fits.place p.fits.place q.fits.entrance p.fits.entrance q.method p.method (sym names) in
    let methods : a.method ≡ b.method = p.fits.number ∙ ap (λ (d : Entrance). d.number) (sym entrances) ∙ sym q.fits.number in
    made a.method b.method a.args b.args methods (one_args p.fits.entrance.parameters a.args b.args p.fits.args (subst (λ (d : Entrance). AllZip Fits d.parameters b.args) entrances q.fits.args) texts)

one_list_of_calls : (es : List Entrance) (ls : List (List ℕ)) (cs bs : List Call) → AllZip (IsCall es) ls cs → AllZip (IsCall es) ls bs → cs ≡ bs
one_list_of_calls es [] [] [] p q = refl
one_list_of_calls es [] (a ∷ cs) bs p q = absurd p
one_list_of_calls es [] [] (b ∷ bs) p q = absurd q
one_list_of_calls es (l ∷ ls) [] bs p q = absurd p
one_list_of_calls es (l ∷ ls) (a ∷ cs) [] p q = absurd q
one_list_of_calls es (l ∷ ls) (a ∷ cs) (b ∷ bs) p q =
    let one = one_call es l a b p.0 q.0 in
    let others = one_list_of_calls es ls cs bs p.1 q.1 in
    cc

-- ---- A text has one first break.

move : (es : List Entrance) (ls : List (List ℕ)) (i j : ℕ) (rule : CallRule) → i ≡ j → BreaksAt es ls i rule → BreaksAt es ls j rule
move es ls i j rule e b = subst (λ n. BreaksAt es ls n rule) e b

one_break : (es : List Entrance) (ls : List (List ℕ)) (m n r s : ℕ) → IsFirstBreak es ls m r → IsFirstBreak es ls n s → (m ≡ n) × (r ≡ s)
one_break es ls m n r s p q =
    let no_later : q.place ≤ p.place = elim (cases_lt p.place q.place) [ inl lt ↦ absurd (q.first p.place p.which lt p.broken) | inr le ↦ le ] in
    let no_earlier : p.place ≤ q.place = elim (cases_lt q.place p.place) [ inl lt ↦ absurd (p.first q.place q.which lt q.broken) | inr le ↦ le ] in
    let here : p.place ≡ q.place = omega arith in
    let no_more : s ≤ r = elim (cases_lt (number_of p.which) s) [ inl lt ↦ absurd (q.least p.which lt (move es ls p.place q.place p.which here p.broken)) | inr le ↦ omega (arith, p.rule_is) ] in
    let no_less : r ≤ s = elim (cases_lt (number_of q.which) r) [ inl lt ↦ absurd (p.least q.which lt (move es ls q.place p.place q.which (sym here) q.broken)) | inr le ↦ omega (arith, q.rule_is) ] in
    (omega (arith, p.number_is, q.number_is), omega arith)

-- ---- What follows for an answer

text_of : (es : List Entrance) (line : List ℕ) (call : Call) → IsCall es line call → IsWritten es line call
text_of es line call c =
    record { place = c.fits.place; entrance = c.fits.entrance; method = c.fits.method; number = c.fits.number; text = sym (join_with_byte-slice_split 32 line) ∙ ap (join_with_byte 32) c.words }

texts_of : (es : List Entrance) (ls : List (List ℕ)) (calls : List Call) → AllZip (IsCall es) ls calls → AllZip (IsWritten es) ls calls
texts_of es [] [] h = tt
texts_of es [] (c ∷ calls) h = absurd h
texts_of es (l ∷ ls) [] h = absurd h
texts_of es (l ∷ ls) (c ∷ calls) h = (text_of es l c h.0, texts_of es ls calls h.1)

all_fit : (es : List Entrance) (ls : List (List ℕ)) (calls : List Call) → AllZip (IsCall es) ls calls → AllByRecursion (CallFits es) calls
all_fit es [] [] h = tt
all_fit es [] (c ∷ calls) h = absurd h
all_fit es (l ∷ ls) [] h = absurd h
all_fit es (l ∷ ls) (c ∷ calls) h = (h.0.fits, all_fit es ls calls h.1)

pub written : (es : List Entrance) (ls : List (List ℕ)) (r : Result (List Call) TextError) → IfOk r (AreCalls es ls) → IfOk r (AllZip (IsWritten es) (said_lines ls))
written es ls (Ok calls) h = texts_of es (said_lines ls) calls h.each
written es ls (Err e) h = tt

pub fits : (es : List Entrance) (ls : List (List ℕ)) (r : Result (List Call) TextError) → IfOk r (AreCalls es ls) → IfOk r (All (CallFits es))
fits es ls (Ok calls) h = All-from_recursion (CallFits es) calls (all_fit es (said_lines ls) calls h.each)
fits es ls (Err e) h = tt

pub broken : (es : List Entrance) (ls : List (List ℕ)) (r : Result (List Call) TextError) (place : ℕ) (rule : CallRule) → IfOk r (AreCalls es ls) → BreaksAt es ls place rule → IsErr r
broken es ls (Ok calls) place rule h b = absurd (calls_break_none es ls calls place rule h b)
broken es ls (Err e) place rule h b = search rules

pub only_calls : (es : List Entrance) (ls : List (List ℕ)) (r : Result (List Call) TextError) (calls : List Call) → IfOk r (AreCalls es ls) → IfErr r (IsRefusal es ls) → AreCalls es ls calls → MatchResult r (λ found. found ≡ calls) (λ error. error ≡ x.Memory)
only_calls es ls (Ok found) calls h g are = one_list_of_calls es (said_lines ls) found calls h.each are.each
only_calls es ls (Err x.Memory) calls h g are = refl
only_calls es ls (Err (x.Bad line rule)) calls h g are = absurd (calls_break_none es ls calls g.place g.which are g.broken)

pub only_bad : (es : List Entrance) (ls : List (List ℕ)) (r : Result (List Call) TextError) (line rule : ℕ) → IfOk r (AreCalls es ls) → IfErr r (IsRefusal es ls) → IsFirstBreak es ls line rule → MatchResult r (λ _. ⊥) (λ error. (error ≡ x.Bad line rule) ⊎ (error ≡ x.Memory))
only_bad es ls (Ok found) line rule h g first = calls_break_none es ls found first.place first.which h first.broken
only_bad es ls (Err x.Memory) line rule h g first = inr refl
only_bad es ls (Err (x.Bad m r)) line rule h g first =
    let one = one_break es ls m line r rule g first in
    inl (ap (λ (n : ℕ). x.Bad n r) one.0 ∙ ap (λ (n : ℕ). x.Bad line n) one.1)
