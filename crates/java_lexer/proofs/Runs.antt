-- Runs of bytes that pass a test, at the front of a text.
use Rattle.std.proofs.Common.{◌≡◌, ℕ, suc, ◌+◌, ◌<◌, Bool, true, false, cond, List, [], ◌∷◌, ◌++◌, length, take, drop, refl, sym, ap, ◌∙◌, arith}
use Rattle.std.specs.List.{list_all, prefix_len}
use Rattle.std.proofs.lemmas.Bool.{and_parts, and_from, false≢true}
use Rattle.std.proofs.lemmas.List.{take_at, drop_at}
use Rattle.java_lexer.specs.Spelling.{begins}

pub begins-append : (p : ℕ → Bool) (front rest : List ℕ) → 0 < length front → begins p (front ++ rest) ≡ begins p front
begins-append p [] rest h = absurd (omega arith)
begins-append p (b ∷ front) rest h = refl

prefix_len-stop : (p : ℕ → Bool) (rest : List ℕ) → begins p rest ≡ false → prefix_len p rest ≡ 0
prefix_len-stop p [] h = refl
prefix_len-stop p (b ∷ rest) h = ap (λ t. cond t (1 + prefix_len p rest) 0) h

-- bytes that pass, before one that does not, are the whole run
pub run-append : (p : ℕ → Bool) (front rest : List ℕ) → list_all p front ≡ true → begins p rest ≡ false → prefix_len p (front ++ rest) ≡ length front
run-append p [] rest all stop = prefix_len-stop p rest stop
run-append p (b ∷ front) rest all stop =
    let parts = and_parts (p b) (list_all p front) all in
    let more = run-append p front rest parts.1 stop in
    ap (λ t. cond t (1 + prefix_len p (front ++ rest)) 0) parts.0 ∙ omega arith

passes_by : (t : Bool) (p : ℕ → Bool) (b : ℕ) (text : List ℕ) (k : ℕ) → p b ≡ t → list_all p (take k text) ≡ true → list_all p (take (cond t (1 + k) 0) (b ∷ text)) ≡ true
passes_by true p b text k here more = let e : 1 + k ≡ suc k = omega arith in rw e (and_from (p b) (list_all p (take k text)) here more)
passes_by false p b text k here more = refl

pub run_passes : (p : ℕ → Bool) (text : List ℕ) → list_all p (take (prefix_len p text) text) ≡ true
run_passes p [] = refl
run_passes p (b ∷ text) = passes_by (p b) p b text (prefix_len p text) refl (run_passes p text)

stops_by : (t : Bool) (p : ℕ → Bool) (b : ℕ) (text : List ℕ) (k : ℕ) → p b ≡ t → begins p (drop k text) ≡ false → begins p (drop (cond t (1 + k) 0) (b ∷ text)) ≡ false
stops_by true p b text k here more = let e : 1 + k ≡ suc k = omega arith in rw e more
stops_by false p b text k here more = here

pub run_stops : (p : ℕ → Bool) (text : List ℕ) → begins p (drop (prefix_len p text) text) ≡ false
run_stops p [] = refl
run_stops p (b ∷ text) = stops_by (p b) p b text (prefix_len p text) refl (run_stops p text)

some_by : (t : Bool) (k : ℕ) → t ≡ true → 0 < cond t (1 + k) 0
some_by true k e = omega arith
some_by false k e = absurd (false≢true e)

-- a text that begins with a byte that passes has a run
pub run_some : (p : ℕ → Bool) (text : List ℕ) → begins p text ≡ true → 0 < prefix_len p text
run_some p [] h = absurd (false≢true h)
run_some p (b ∷ text) h = some_by (p b) (prefix_len p text) h

-- a run before a byte that does not pass is what stands there
pub run_taken : (p : ℕ → Bool) (front rest text : List ℕ) → text ≡ front ++ rest → list_all p front ≡ true → begins p rest ≡ false → take (prefix_len p text) text ≡ front
run_taken p front rest text e all stop =
    ap (λ t. take (prefix_len p t) t) e ∙ take_at front rest (prefix_len p (front ++ rest)) (sym (run-append p front rest all stop))

pub run_dropped : (p : ℕ → Bool) (front rest text : List ℕ) → text ≡ front ++ rest → list_all p front ≡ true → begins p rest ≡ false → drop (prefix_len p text) text ≡ rest
run_dropped p front rest text e all stop =
    ap (λ t. drop (prefix_len p t) t) e ∙ drop_at front rest (prefix_len p (front ++ rest)) (sym (run-append p front rest all stop))
